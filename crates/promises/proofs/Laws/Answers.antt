-- What a call tells of a count.
use Rattle.std.specs.Prelude.{ℕ, zero, suc, ◌<◌, true, false, ◌≡◌, refl, Ok, Err}
use Rattle.std.specs.Result.{is_err}
use Rattle.std.proofs.Common.{arith, lit<}
use Rattle.promises.specs.Answers.{Verdict, number_of, counted, reason_number}
use Rattle.promises.specs.declared.Reason.{Reason}
use Rattle.promises.specs.declared.Reason.TheVariants.{ShortMemory, OutOfRange, Unsound, NumberTooLarge, NumberTwice, NumberAbsent, BadArgument, FewRows, BlockTooLarge, BadHours}

-- Of zero it tells zero, refused or not.
pub counted-zero : (k n : ℕ) → n ≡ 0 → counted k n ≡ 0
unfolding counted
counted-zero zero n e = e
counted-zero (suc k) n e = refl

-- No reason has the number 0.
pub reason-above : (r : Reason) → 0 < reason_number r
reason-above r = elim r as (λ r. 0 < reason_number r) [
  | ShortMemory ↦ lit< tt
  | OutOfRange ↦ lit< tt
  | Unsound ↦ lit< tt
  | NumberTooLarge ↦ lit< tt
  | NumberTwice ↦ lit< tt
  | NumberAbsent ↦ lit< tt
  | BadArgument ↦ lit< tt
  | FewRows ↦ lit< tt
  | BlockTooLarge ↦ lit< tt
  | BadHours ↦ lit< tt
]

pub counted-refused : (k n : ℕ) → 0 < k → counted k n ≡ 0
unfolding counted
counted-refused zero n h = absurd (omega (arith, h))
counted-refused (suc k) n h = refl

-- A verdict accepts or refuses by its number.
pub ok-accepts : (v : Verdict) → is_err v ≡ false → number_of v ≡ 0
ok-accepts (Ok u) e = refl
ok-accepts (Err r) e = cc

pub err-refuses : (v : Verdict) → is_err v ≡ true → 0 < number_of v
err-refuses (Ok u) e = cc
err-refuses (Err r) e = reason-above r.reason

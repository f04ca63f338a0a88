-- Two words and their number give each other back; which words an address of d costs has (Card 13).
use Prim.Native.Nat.{ℕ, ◌+◌, ◌*◌, ◌^◌, ◌≤◌, ◌<◌}
use Rattle.std.specs.Prelude.{true, false, List, Result, Ok, Err, ◌≡◌, length}
use Rattle.std.specs.Result.{result_unwrap_or}
use Rattle.std.proofs.Math.Path.{refl, ap}
use Rattle.std.proofs.Common.{◌∙◌, lt_of_lt_of_le, arith}
use Rattle.std.proofs.Math.Nat.{div-eq_of_lt}
use borrow.Author.Tests.{le-leb, lt-leb}
use Rattle.std.proofs.Math.Arith.{digits_lt}
use Rattle.std.proofs.Math.Pow.{pow_mono, split, low, high}
use Rattle.zorder.specs.Address.{row_costs, cost_bits, address}
use Rattle.zorder.specs.Promise.{AddressPromise}
use Rattle.zorder.specs.Refusal.{address_bad}
use Rattle.zorder.specs.Words.{word_bits, value, words_of}
use Rattle.zorder.specs.declared.refusal.Refusal.{Refusal}
use Rattle.zorder.specs.declared.AddressWords.{AddressWords}
use Rattle.zorder.proofs.Laws.Address.{address-lt'}

pub value-lt : (a : AddressWords) → a.upper < 2 ^ word_bits → a.lower < 2 ^ word_bits → value a < 2 ^ (2 * word_bits)
unfolding value
value-lt a word also = digits_lt word also

-- Two words are the number, and the number is the two words.
pub value-words : (n : ℕ) → value (words_of n) ≡ n
unfolding value words_of
value-words n = split n word_bits

pub words-value : (a : AddressWords) → a.lower < 2 ^ word_bits → words_of (value a) ≡ a
unfolding value words_of
words-value a word = λ i. record { upper = high a.upper word_bits word i; lower = low a.upper word_bits word i }

-- ---- which words an address has, by the number of its costs

module _ (d : ℕ) (few : d ≤ 4) where
  bits-few : cost_bits * d ≤ word_bits
  bits-few = omega arith

  -- "case A's addresses have a zero upper word", and so has every address of up to four costs,
  pub upper-zero : (cs : List ℕ) → d ≤ length cs → (words_of (address d cs)).upper ≡ 0
  unfolding words_of
  upper-zero cs room = div-eq_of_lt (lt_of_lt_of_le (address-lt' d cs room) (pow_mono bits-few))

  -- told or refused;
  pub told-upper-zero : (cs : List ℕ) (r : Result AddressWords Refusal) → length cs ≡ row_costs → AddressPromise d cs r → (result_unwrap_or r (words_of 0)).upper ≡ 0
  unfolding words_of
  told-upper-zero cs (Ok a) count p = ap (λ (w : AddressWords). w.upper) p.address ∙ upper-zero cs (omega arith)
  told-upper-zero cs (Err e) count p = refl

  -- any other upper word is too large.
  pub upper-bad : (a : AddressWords) → 0 < a.upper → address_bad d (value a) ≡ true
  unfolding address_bad value
  upper-bad a some = le-leb (2 ^ (cost_bits * d)) (a.upper * 2 ^ word_bits + a.lower) (omega (arith, pow_mono bits-few))

-- With eight costs no two words are.
pub none-bad : (a : AddressWords) → a.upper < 2 ^ word_bits → a.lower < 2 ^ word_bits → address_bad row_costs (value a) ≡ false
unfolding address_bad
none-bad a word also = lt-leb (2 ^ (cost_bits * row_costs)) (value a) (value-lt a word also)

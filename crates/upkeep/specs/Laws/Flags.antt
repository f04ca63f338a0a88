-- Setting the flags, one place after another.
use Rattle.std.specs.Prelude.{ℕ, ◌+◌, ◌≤◌, ◌<◌, Bool, true, false, not, List, ◌≡◌, refl}
use Rattle.std.proofs.Math.Bool.{cond}
use Rattle.std.proofs.Math.Path.{sym, ap}
use Rattle.std.proofs.Common.{subst, ◌∙◌, arith}
use Rattle.std.proofs.Math.Decide.{ℕ_discrete}
use Rattle.std.proofs.Math.Dec.{eqb}
use Rattle.promises.specs.Layout.{number_in, flag_in}
use Rattle.memory.specs.Room.{Room, Numbers}
use Rattle.memory.specs.Stores.{set_listed}
use Rattle.memory.specs.Frame.{FlagsOnly}
use Rattle.memory.specs.Tests.{is_flagged, is_listed}
use Rattle.memory.specs.Laws.Frames.{frame-refl, frame-trans}
use Rattle.memory.specs.Laws.Fields.{number-over-flags}
use Rattle.memory.specs.Laws.Stored.{set_listed-flags, listed-set_listed, flag-set_listed-other}
use Rattle.memory.specs.Laws.Turns.{listed_at}
use Rattle.numbers.specs.Set.{in_set}
use Rattle.upkeep.specs.Flag.{Once, listed_then, SetFlag, SetFlags}

-- ---- one flag

module _ (c i : ℕ) (changed m : List ℕ) where
  then_by : {change listed : Bool} → in_set changed (number_in c m i) ≡ change → is_listed c m i ≡ listed → cond change (not listed) listed ≡ listed_then c changed m i
  unfolding listed_then
  then_by p q = sym (λ j. cond (p j) (not (q j)) (q j))

  pub flag-stays : in_set changed (number_in c m i) ≡ false → SetFlag c i changed m m
  unfolding is_listed
  flag-stays p = record { here = then_by p refl; others = λ k _ _. refl; frame = frame-refl m }

  pub flag-changes : Room c m → (n : ℕ) → n ≡ number_in c m i → n < c → {listed : Bool} → listed ≡ is_flagged c m n → in_set changed n ≡ true
      → (m' : List ℕ) → m' ≡ set_listed c n (not listed) m → SetFlag c i changed m m'
  flag-changes room n read small {listed} flag p m' e =
      subst (SetFlag c i changed m) (sym e)
      (record {
        here =
            ap (λ (k : ℕ). eqb (flag_in c (set_listed c n (not listed) m) k) 1) (sym read)
            ∙ listed-set_listed c n m room small (not listed)
            ∙ then_by (ap (in_set changed) (sym read) ∙ p) (listed_at c m i n read ∙ sym flag);
        others = λ k _ ne. flag-set_listed-other c n m k (λ f. ne (f ∙ read)) (not listed);
        frame = set_listed-flags c n m small (not listed);
      })

-- ---- one place more

-- The flags of the places below i are set, those from i on are not.
pub record Flagging (c n i : ℕ) (changed m m' : List ℕ) : Type 0 where
  pub done : (j : ℕ) → j < i → eqb (flag_in c m' (number_in c m j)) 1 ≡ listed_then c changed m j
  pub ahead : (j : ℕ) → i ≤ j → j < n → flag_in c m' (number_in c m j) ≡ flag_in c m (number_in c m j)
  pub frame : FlagsOnly c m m'

module _ (c n : ℕ) (changed m : List ℕ) where
  pub flagging-none : Flagging c n 0 changed m m
  flagging-none = record { done = λ j h. absurd (omega arith); ahead = λ j _ _. refl; frame = frame-refl m }

  pub flagging-all : (m' : List ℕ) → Flagging c n n changed m m' → SetFlags c n changed m m'
  flagging-all m' all = record { flags = all.done; frame = all.frame }

  module _ (few : n ≤ c) (numbers : Numbers c n m) (once : Once c n m) (i : ℕ) (h : i < n) (m' m'' : List ℕ)
      (before : Flagging c n i changed m m') (here : SetFlag c i changed m' m'') where
    number : number_in c m' i ≡ number_in c m i
    number = number-over-flags c before.frame i (omega arith)

    then : listed_then c changed m' i ≡ listed_then c changed m i
    unfolding listed_then is_listed
    then =
        let flag : is_flagged c m' (number_in c m' i) ≡ is_flagged c m (number_in c m i) =
        ap (λ (k : ℕ). eqb k 1) (ap (flag_in c m') number ∙ before.ahead i (omega arith) h) in
        λ t. cond (in_set changed (number t)) (not (flag t)) (flag t)

    other : (j : ℕ) → j < n → (j ≡ i → ⊥) → flag_in c m'' (number_in c m j) ≡ flag_in c m' (number_in c m j)
    other j l ne = here.others (number_in c m j) (numbers j l) (λ e. ne (once j i l h (e ∙ number)))

    pub flagging-more : Flagging c n (i + 1) changed m m''
    flagging-more =
        record {
          done = λ j l. by_place j l (ℕ_discrete j i);
          ahead = λ j l k. other j k (λ e. omega arith) ∙ before.ahead j (omega arith) k;
          frame = frame-trans before.frame here.frame;
        }
      where
        by_place : (j : ℕ) → j < i + 1 → Dec (j ≡ i) → eqb (flag_in c m'' (number_in c m j)) 1 ≡ listed_then c changed m j
        by_place j l (yes e) =
            subst (λ (j : ℕ). eqb (flag_in c m'' (number_in c m j)) 1 ≡ listed_then c changed m j) (sym e)
            (ap (λ (k : ℕ). eqb (flag_in c m'' k) 1) (sym number) ∙ here.here ∙ then)
        by_place j l (no ne) = ap (λ (k : ℕ). eqb k 1) (other j (omega arith) ne) ∙ before.done j (omega arith)

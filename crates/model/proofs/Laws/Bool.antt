-- Tests, as the laws use them.
use Rattle.std.specs.Prelude.{Bool, true, false, cond, not, ◌&&◌, ◌||◌, ◌≡◌, refl}
use Rattle.std.proofs.Common.{true≢false, sym, ◌∙◌}
use Rattle.std.proofs.lemmas.Bool.{false≢true}

-- Case analysis on a test that a definition makes, with what the test says.
pub by_cases {ℓ} : {A : Type ℓ} (b : Bool) → (b ≡ true → A) → (b ≡ false → A) → A
by_cases true f g = f refl
by_cases false f g = g refl

-- The same, where the test stands anywhere in a goal.
pub test_cases {ℓ} : (P : Bool → Type ℓ) (b : Bool) → (b ≡ true → P true) → (b ≡ false → P false) → P b
test_cases P true f g = f refl
test_cases P false f g = g refl

pub and_left : (a b : Bool) → (a && b) ≡ true → a ≡ true
and_left true b e = refl
and_left false b e = absurd (false≢true e)

pub and_right : (a b : Bool) → (a && b) ≡ true → b ≡ true
and_right true b e = e
and_right false b e = absurd (false≢true e)

pub and_both : (a b : Bool) → a ≡ true → b ≡ true → (a && b) ≡ true
and_both true b e f = f
and_both false b e f = absurd (false≢true e)

pub not-flip : (b : Bool) → b ≡ false → not b ≡ true
not-flip true e = absurd (true≢false e)
not-flip false e = refl

pub not_back : (b : Bool) → not b ≡ true → b ≡ false
not_back true e = absurd (false≢true e)
not_back false e = refl

pub or_cases {ℓ} : {A : Type ℓ} (a b : Bool) → (a || b) ≡ true → (a ≡ true → A) → (b ≡ true → A) → A
or_cases true b e f g = f refl
or_cases false b e f g = g e

pub or_left : (a b : Bool) → a ≡ true → (a || b) ≡ true
or_left true b e = refl
or_left false b e = absurd (false≢true e)

pub or_right : (a b : Bool) → b ≡ true → (a || b) ≡ true
or_right true b e = refl
or_right false b e = e

-- Two tests that pass in the same cases.
pub same_test : (a b : Bool) → (a ≡ true → b ≡ true) → (b ≡ true → a ≡ true) → a ≡ b
same_test true b f g = sym (f refl)
same_test false true f g = g refl
same_test false false f g = refl

pub or-false-left : (a b : Bool) → (a || b) ≡ false → a ≡ false
or-false-left true b e = e
or-false-left false b e = refl

pub or-false-right : (a b : Bool) → (a || b) ≡ false → b ≡ false
or-false-right true b e = absurd (true≢false e)
or-false-right false b e = e

pub or-false-both : (a b : Bool) → a ≡ false → b ≡ false → (a || b) ≡ false
or-false-both true b e f = e
or-false-both false b e f = f

-- A test that both passes and fails.
pub both_ways {ℓ} : {A : Type ℓ} {b : Bool} → b ≡ true → b ≡ false → A
both_ways e f = absurd (true≢false (sym e ∙ f))

-- Case analysis on what `cond` gives.
pub cond_cases {ℓ ℓ'} : {A : Type ℓ} (Q : A → Type ℓ') (b : Bool) {u v : A} → (b ≡ true → Q u) → (b ≡ false → Q v) → Q (cond b u v)
cond_cases Q true f g = f refl
cond_cases Q false f g = g refl

pub cond_map {ℓ ℓ'} : {A : Type ℓ} {B : Type ℓ'} (f : A → B) (b : Bool) (u v : A) → f (cond b u v) ≡ cond b (f u) (f v)
cond_map f true u v = refl
cond_map f false u v = refl

pub or_swap : (a b c : Bool) → (a || (b || c)) ≡ (b || (a || c))
or_swap true true c = refl
or_swap true false c = refl
or_swap false b c = refl

pub and-false-right : (a b : Bool) → b ≡ false → (a && b) ≡ false
and-false-right true b e = e
and-false-right false b e = refl

pub and-given : (a b : Bool) → (a ≡ true → b ≡ true) → (a && b) ≡ a
and-given true b f = f refl
and-given false b f = refl

pub and-drop-left : (a b : Bool) → a ≡ true → (a && b) ≡ false → b ≡ false
and-drop-left true b e f = f
and-drop-left false b e f = absurd (false≢true e)

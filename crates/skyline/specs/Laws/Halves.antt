-- The test of the flags is that of its two halves; what a turn of the loop over the hidden moves keeps.
use Rattle.std.specs.Prelude.{ℕ, zero, suc, ◌+◌, ◌<◌, Bool, true, false, not, ◌&&◌, ◌||◌, List, ◌≡◌}
use Rattle.std.specs.Bool.{beq}
use Rattle.std.proofs.Math.Path.{refl}
use Rattle.std.proofs.Common.{ap₂, ◌∙◌}
use Rattle.model.proofs.Laws.Bool.{or_left, or_right, or-false-both}
use Rattle.memory.specs.Tests.{all_to, is_listed, hidden_at, hidden_right, listed_right, flags_right}
use Rattle.memory.specs.Laws.Places.{all_to-more, all_to-fails}

-- ---- the hidden half

module _ (c d : ℕ) (m : List ℕ) where
  shown_or_hidden : ℕ → Bool
  shown_or_hidden i = is_listed c m i || hidden_at c d m i

  pub hidden-none : hidden_right c d 0 m ≡ true
  unfolding hidden_right all_to
  hidden-none = refl

  pub hidden-shown : (i : ℕ) → hidden_right c d i m ≡ true → is_listed c m i ≡ true → hidden_right c d (i + 1) m ≡ true
  unfolding hidden_right shown_or_hidden
  hidden-shown i h e = all_to-more shown_or_hidden i h (or_left (is_listed c m i) (hidden_at c d m i) e)

  pub hidden-more : (i : ℕ) → hidden_right c d i m ≡ true → hidden_at c d m i ≡ true → hidden_right c d (i + 1) m ≡ true
  unfolding hidden_right shown_or_hidden
  hidden-more i h e = all_to-more shown_or_hidden i h (or_right (is_listed c m i) (hidden_at c d m i) e)

  pub hidden-fail : (n i : ℕ) → i < n → is_listed c m i ≡ false → hidden_at c d m i ≡ false → hidden_right c d n m ≡ false
  unfolding hidden_right shown_or_hidden
  hidden-fail n i l e f = all_to-fails shown_or_hidden n i l (or-false-both (is_listed c m i) (hidden_at c d m i) e f)

-- ---- both halves

halves : (l h : Bool) → beq l (not h) ≡ ((l || h) && not (l && h))
halves true true = refl
halves true false = refl
halves false true = refl
halves false false = refl

regroup : (x y a b : Bool) → ((x && y) && (a && b)) ≡ ((x && a) && (y && b))
regroup false y a b = refl
regroup true true a b = refl
regroup true false true b = refl
regroup true false false b = refl

all-halves : (l h : ℕ → Bool) (n : ℕ) → all_to (λ i. beq (l i) (not (h i))) n ≡ (all_to (λ i. l i || h i) n && all_to (λ i. not (l i && h i)) n)
unfolding all_to
all-halves l h zero = refl
all-halves l h (suc n) =
    ap₂ ◌&&◌ (all-halves l h n) (halves (l n) (h n))
    ∙ regroup (all_to (λ i. l i || h i) n) (all_to (λ i. not (l i && h i)) n) (l n || h n) (not (l n && h n))

module _ (c d n : ℕ) (m : List ℕ) where
  pub flags-halves : flags_right c d n m ≡ (hidden_right c d n m && listed_right c d n m)
  unfolding flags_right hidden_right listed_right
  flags-halves = all-halves (is_listed c m) (hidden_at c d m) n

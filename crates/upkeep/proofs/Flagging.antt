-- One flag stored: the flags of the other places stay, and tests that look at those only stay with them.
use Prim.Native.Nat.{ℕ, zero, suc, ◌+◌, ◌/◌, ◌≤◌, ◌<◌}
use mathlib.Core.Bool.{Bool, true, false, not, ◌&&◌, beq}
use mathlib.Core.List.{List, []}
use mathlib.Core.Path.{◌≡◌, refl, sym, ap, ap₂, ◌∙◌, subst}
use native.Mathlib.Omega.{arith}
use lib.Dec.{eqb}
use lib.ListN.{get_or, set}
use Rattle.zorder.specs.Address.{row_costs}
use Rattle.model.specs.Moves.{Move, move_before}
use Rattle.model.specs.Dominance.{hides}
use Rattle.promises.specs.Layout.{number_in, flag_in, costs_in, move_in}
use Rattle.memory.specs.Room.{Room, Numbers, ReadableRows, Readable, Ordered}
use Rattle.search.specs.Search.{looks, looks_at, seen, seen_at, Below, Corners, ListedCorners, CornerWith}
use Rattle.memory.specs.Stores.{set_listed}
use Rattle.memory.specs.Frame.{FlagsOnly}
use Rattle.memory.specs.Tests.{all_to, any_to, is_listed, hidden_before, hidden_at, flags_right}
use Rattle.memory.specs.Laws.Frames.{room-over, frame-refl, frame-trans}
use Rattle.search.specs.Laws.Search.{corners-more}
use Rattle.search.specs.declared.search.Among.TheVariants.{Listed}
use Rattle.memory.specs.declared.head.Head.{Head}
use Rattle.memory.specs.Laws.Fields.{number-over-flags, costs-over-flags}
use Rattle.memory.specs.Laws.Stored.{set_listed-flags, listed-set_listed, flag-set_listed-other}
use Rattle.memory.specs.Laws.Lines.{move-ext}
use Rattle.memory.specs.Laws.Turns.{flags-none, flags-more}
use Rattle.upkeep.specs.Flag.{Once, Flagged}

all_to-ext : (p q : ℕ → Bool) (n : ℕ) → ((i : ℕ) → i < n → p i ≡ q i) → all_to p n ≡ all_to q n
unfolding all_to
all_to-ext p q zero h = refl
all_to-ext p q (suc n) h = ap₂ ◌&&◌ (all_to-ext p q n (λ i l. h i (omega arith))) (h n (omega arith))

beq-opposite : (b : Bool) → beq b (not b) ≡ false
beq-opposite true = refl
beq-opposite false = refl

-- Moves and the flags of the first n places alike.
module _ (c d n : ℕ) (m m' : List ℕ) (moves : (i : ℕ) → i < n → move_in c d m' i ≡ move_in c d m i)
    (flags : (i : ℕ) → i < n → flag_in c m' (number_in c m i) ≡ flag_in c m (number_in c m i)) where
  listed-ext : (i : ℕ) → i < n → is_listed c m' i ≡ is_listed c m i
  unfolding is_listed move_in
  listed-ext i h =
      ap (λ (x : Move). eqb (flag_in c m' x.number) 1) (moves i h) ∙ ap (λ (v : ℕ). eqb v 1) (flags i h)

  hidden-ext : (i : ℕ) (x : Move) → i ≤ n → hidden_before c d m' i x ≡ hidden_before c d m i x
  unfolding hidden_before any_to
  hidden-ext i x h =
      ap not
      (all_to-ext (λ j. not (is_listed c m' j && hides d (move_in c d m' j) x)) (λ j. not (is_listed c m j && hides d (move_in c d m j) x)) i
      (λ j l. ap₂ (λ (b : Bool) (y : Move). not (b && hides d y x)) (listed-ext j (omega arith)) (moves j (omega arith))))

  flags-ext : flags_right c d n m' ≡ flags_right c d n m
  unfolding flags_right
  flags-ext =
      all_to-ext (λ i. beq (is_listed c m' i) (not (hidden_before c d m' i (move_in c d m' i))))
      (λ i. beq (is_listed c m i) (not (hidden_before c d m i (move_in c d m i)))) n
      (λ i l. ap₂ (λ (a b : Bool). beq a (not b)) (listed-ext i l)
      (ap (hidden_before c d m' i) (moves i l) ∙ hidden-ext i (move_in c d m i) (omega arith)))

module _ (c d i : ℕ) (m₀ m : List ℕ) (room : Room c m) (within : i < c) (number : number_in c m i < c)
    (others : (j : ℕ) → j < i → number_in c m j ≡ number_in c m i → ⊥) (flagged : Flagged c d i m₀ m) where
  -- A turn: the move at place i is flagged.
  pub flagged-more : (k : ℕ) (listed : Bool) → k ≡ number_in c m i → not listed ≡ hidden_before c d m i (move_in c d m i) → Flagged c d (i + 1) m₀ (set_listed c k listed m)
  unfolding is_listed move_in
  flagged-more k listed e f = record { right = right; frame = frame-trans flagged.frame frame }
    where
      m' : List ℕ
      m' = set_listed c k listed m

      below : k < c
      below = omega arith

      frame : FlagsOnly c m m'
      frame = set_listed-flags c k m below listed

      moves : (j : ℕ) → j ≤ i → move_in c d m' j ≡ move_in c d m j
      moves j l = move-ext c d m m' j j (number-over-flags c frame j (omega arith)) (costs-over-flags c frame d (number_in c m j))

      flags : (j : ℕ) → j < i → flag_in c m' (number_in c m j) ≡ flag_in c m (number_in c m j)
      flags j l = flag-set_listed-other c k m (number_in c m j) (λ g. others j l (g ∙ e)) listed

      before : (j : ℕ) → j < i → move_in c d m' j ≡ move_in c d m j
      before j l = moves j (omega arith)

      right : flags_right c d (i + 1) m' ≡ true
      right =
          flags-more c d m' i (flags-ext c d i m m' before flags ∙ flagged.right) listed (not listed)
          (ap (λ (x : Move). eqb (flag_in c m' x.number) 1) (moves i (omega arith)) ∙ ap (λ (v : ℕ). eqb (flag_in c m' v) 1) (sym e) ∙ listed-set_listed c k m room below listed)
          (ap (hidden_before c d m' i) (moves i (omega arith)) ∙ hidden-ext c d i m m' before flags i (move_in c d m i) (omega arith) ∙ sym f)
          (beq-opposite listed)

-- Numbers stay where flags are written.
module _ (c n : ℕ) (m₀ m : List ℕ) (f : FlagsOnly c m₀ m) (few : n ≤ c) where
  pub numbers-kept : Numbers c n m₀ → Numbers c n m
  numbers-kept h i l = omega (arith, h i l, number-over-flags c f i (omega arith))

  pub once-kept : Once c n m₀ → Once c n m
  once-kept h i j k l e = h i j k l (sym (number-over-flags c f i (omega arith)) ∙ e ∙ number-over-flags c f j (omega arith))

  pub readable-kept : (d : ℕ) → ReadableRows c d n m₀ → ReadableRows c d n m
  readable-kept d h = record { room = room-over c f h.room; rows = h.rows; numbers = numbers-kept h.numbers; dimension = h.dimension }

  move-kept : (d i : ℕ) → i < n → move_in c d m i ≡ move_in c d m₀ i
  move-kept d i l = move-ext c d m₀ m i i (number-over-flags c f i (omega arith)) (costs-over-flags c f d (number_in c m₀ i))

  pub ordered-kept : (d : ℕ) → Ordered c d n m₀ → Ordered c d n m
  ordered-kept d h i j k l = ap₂ (move_before d) (move-kept d i (omega arith)) (move-kept d j l) ∙ h i j k l

-- The move of number k is flagged: the corners of listed moves at other places stay.
pub corners-kept : (c i k : ℕ) (m : List ℕ) (b : Bool) (corners : List (List ℕ)) → i ≤ c → k < c → ((j : ℕ) → j < i → number_in c m j ≡ k → ⊥)
    → Corners Listed c m i corners → Corners Listed c (set_listed c k b m) i corners
unfolding looks_at looks seen_at seen
corners-kept c i k m b corners few below others h = record {
  runs = h.runs;
  below = λ j l t.
      subst (Below (get_or corners (j / 64) []))
      (sym (ap (costs_in c row_costs (set_listed c k b m)) (number j l) ∙ costs-over-flags c frame row_costs (number_in c m j)))
      (h.below j l
      (ap (λ (v : ℕ). eqb v 1) (sym (flag-set_listed-other c k m (number_in c m j) (others j l) b))
      ∙ ap (λ (v : ℕ). eqb (flag_in c (set_listed c k b m) v) 1) (sym (number j l))
      ∙ t));
}
  where
    frame : FlagsOnly c m (set_listed c k b m)
    frame = set_listed-flags c k m below b

    number : (j : ℕ) → j < i → number_in c (set_listed c k b m) j ≡ number_in c m j
    number j l = number-over-flags c frame j (omega arith)

-- Between two turns: the flags before place i are right, and the corners are those of the listed moves before it.
pub record Flagging (h : Head) (m₀ m : List ℕ) (i : ℕ) (lows : List (List ℕ)) : Type 0 where
  pub flagged : Flagged h.size h.dimension i m₀ m
  pub corners : ListedCorners h m i lows

module _ (h : Head) (m₀ m : List ℕ) (i : ℕ) (corners : List (List ℕ)) (readable : Readable h m₀) (once : Once h.size h.count m₀)
    (more : i < h.count) (w : Flagging h m₀ m i corners) where
  others : (j : ℕ) → j < i → number_in h.size m j ≡ number_in h.size m i → ⊥
  others j l e =
      let g = once-kept h.size h.count m₀ m w.flagged.frame readable.rows once j i (omega arith) more e in
      omega arith

  module _ (k : ℕ) (listed : Bool) (m' : List ℕ) (number : k ≡ number_in h.size m i) (hidden : hidden_at h.size h.dimension m i ≡ not listed)
      (stored : m' ≡ set_listed h.size k listed m) where
    below : number_in h.size m i < h.size
    below = numbers-kept h.size h.count m₀ m w.flagged.frame readable.rows readable.numbers i more

    pub stored-frame : FlagsOnly h.size m₀ m'
    stored-frame =
        frame-trans w.flagged.frame (subst (FlagsOnly h.size m) (sym stored) (set_listed-flags h.size k m (omega (arith, below)) listed))

    pub flagging-more : (r : List ℕ) → CornerWith Listed h.size m' i (i + 1) (get_or corners (i / 64) []) r → Flagging h m₀ m' (i + 1) (set corners (i / 64) r)
    flagging-more r corner = record {
      flagged =
          subst (Flagged h.size h.dimension (i + 1) m₀) (sym stored)
          (flagged-more h.size h.dimension i m₀ m (room-over h.size w.flagged.frame readable.room) (omega (arith, readable.rows)) below others w.flagged k listed number (sym hidden));
      corners =
          corners-more i (i + 1) corners r (omega (arith, readable.rows, readable.room)) (omega arith)
          (subst (λ (l : List ℕ). ListedCorners h l i corners) (sym stored)
          (corners-kept h.size i k m listed corners (omega (arith, readable.rows)) (omega (arith, below)) (λ j l e. others j l (e ∙ number)) w.corners))
          corner;
    }

pub flagged-none : (c d : ℕ) (m : List ℕ) → Flagged c d 0 m m
flagged-none c d m = record { right = flags-none c d m; frame = frame-refl m }

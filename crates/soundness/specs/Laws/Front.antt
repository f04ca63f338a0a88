-- A memory holds at most one tree; of sound memory the bytes in use are among its first bytes, so a copy of these holds the same.
use Rattle.std.specs.Prelude.{ℕ, ◌≤◌, ◌<◌, true, ◌||◌, List, ◌≡◌, get_or}
use Rattle.std.proofs.Math.Path.{sym}
use Rattle.std.proofs.Common.{ap, ◌∙◌, subst, arith}
use borrow.Author.Tests.{le-leb, eqb-true}
use Rattle.std.proofs.Math.Dec.{eqb}
use Rattle.std.proofs.Math.ListN.{length}
use Rattle.model.specs.Basics.{any}
use Rattle.model.specs.Tree.{Tree}
use Rattle.model.specs.Calls.{Board, memory_need}
use Rattle.model.proofs.Laws.Bool.{or_cases}
use Rattle.model.proofs.Laws.Basics.{each-mem, any-witness}
use Rattle.model.proofs.Laws.Tree.{ruled-filled}
use Rattle.line.specs.Laws.Decode.{line-injective}
use Rattle.promises.specs.Layout.{number_place, height_place, flag_place, block_place, cost_place, work_place, size_in, dimension_in, count_in, number_in, tab, board_in}
use Rattle.promises.specs.Sound.{Stands, Holding}
use Rattle.promises.specs.Written.{in_area}
use Rattle.promises.specs.Used.{head_use, rows_use, move_use, in_use, long_enough, SameInUse}
use Rattle.promises.proofs.Laws.Tab.{each-tab}
use Rattle.promises.proofs.Laws.Stands.{stands-dimension}
use Rattle.promises.proofs.Laws.Written.{area-ends}
use Rattle.soundness.specs.Laws.Decide.{stands-numbers}
use Rattle.soundness.specs.Laws.Used.{word_same, used-board, used-stands}

pub one-tree : (m : List ℕ) (t u : Tree) → Stands m t → Stands m u → t ≡ u
one-tree m t u s r =
    line-injective t u (ruled-filled (dimension_in m) t s.rules) (ruled-filled (dimension_in m) u r.rules) (sym s.line ∙ r.line)

-- Two memories agree on as many first bytes as the size in the first needs.
abbrev pub SameFront : List ℕ → List ℕ → Type 0
SameFront m m' = (i : ℕ) → i < memory_need (size_in m) → get_or m' i 0 ≡ get_or m i 0

-- They agree on the fields and the work area of a board of size c, its first 16 + 23·c bytes.
abbrev pub SameFields : ℕ → List ℕ → List ℕ → Type 0
SameFields c m m' = (i : ℕ) → i < work_place c c → get_or m' i 0 ≡ get_or m i 0

-- The bytes in use of sound memory come before the work area.
module _ {m : List ℕ} {t : Tree} (s : Stands m t) (i : ℕ) where
  rows-front : rows_use (size_in m) (count_in m) i ≡ true → i < work_place (size_in m) 0
  unfolding rows_use
  rows-front h =
      or_cases (in_area (number_place 0) (number_place (count_in m)) i) (in_area (height_place (size_in m) 0) (height_place (size_in m) (count_in m)) i) h
      (λ r. omega (arith, area-ends (number_place 0) (number_place (count_in m)) i r, s.count))
      (λ r. omega (arith, area-ends (height_place (size_in m) 0) (height_place (size_in m) (count_in m)) i r, s.count))

  move-front : (number : ℕ) → number < size_in m → move_use (size_in m) (dimension_in m) i number ≡ true → i < work_place (size_in m) 0
  unfolding move_use
  move-front number l h =
      or_cases (eqb i (flag_place (size_in m) number) || eqb i (block_place (size_in m) number)) (in_area (cost_place (size_in m) number 0) (cost_place (size_in m) number (dimension_in m)) i) h
      (λ k.
      or_cases (eqb i (flag_place (size_in m) number)) (eqb i (block_place (size_in m) number)) k
      (λ r. omega (arith, eqb-true i (flag_place (size_in m) number) r))
      (λ r. omega (arith, eqb-true i (block_place (size_in m) number) r)))
      (λ r. omega (arith, area-ends (cost_place (size_in m) number 0) (cost_place (size_in m) number (dimension_in m)) i r, stands-dimension m t s))

  moves_front : any (move_use (size_in m) (dimension_in m) i) (tab (number_in (size_in m) m) (count_in m)) ≡ true → i < work_place (size_in m) 0
  moves_front h =
      let numbers = tab (number_in (size_in m) m) (count_in m) in
      let w = any-witness (move_use (size_in m) (dimension_in m) i) numbers h in
      move-front w.0 (each-mem (λ k. k < size_in m) (each-tab (number_in (size_in m) m) (λ k. k < size_in m) (count_in m) (stands-numbers m s)) w.1) w.2

  pub use-fields : in_use m i ≡ true → i < work_place (size_in m) 0
  unfolding in_use head_use
  use-fields h =
      or_cases (head_use i || rows_use (size_in m) (count_in m) i) (any (move_use (size_in m) (dimension_in m) i) (tab (number_in (size_in m) m) (count_in m))) h
      (λ k.
      or_cases (head_use i) (rows_use (size_in m) (count_in m) i) k
      (λ r. or_cases (in_area 0 4 i) (in_area 4 6 i) r (λ e. omega (arith, area-ends 0 4 i e)) (λ e. omega (arith, area-ends 4 6 i e)))
      rows-front)
      moves_front

  pub use-front : in_use m i ≡ true → i < memory_need (size_in m)
  unfolding memory_need
  use-front h = omega (arith, use-fields h)

module _ (m m' : List ℕ) (same : SameFields (size_in m) m m') where
  fields-size : size_in m' ≡ size_in m
  unfolding size_in
  fields-size = word_same m m' 0 (same 0 (omega arith)) (same 1 (omega arith))

  fields-used : {t : Tree} → Stands m t → memory_need (size_in m) ≤ length m' → SameInUse m m'
  unfolding long_enough
  fields-used s l =
      record {
        bytes = λ i h. same i (omega (arith, use-fields s i h));
        long = le-leb (memory_need (size_in m')) (length m') (subst (λ (c : ℕ). memory_need c ≤ length m') (sym fields-size) l) ∙ sym (le-leb (memory_need (size_in m)) (length m) s.room);
      }

pub holding-size : {m : List ℕ} {b : Board} {t : Tree} → Holding m b t → size_in m ≡ b.size
unfolding board_in
holding-size h = ap (λ (b : Board). b.size) h.board

-- A memory that is long enough and has the fields of another holds its board and its tree.
pub copied-holding : {m : List ℕ} (m' : List ℕ) {b : Board} {t : Tree} → Holding m b t → SameFields b.size m m' → memory_need b.size ≤ length m'
    → Holding m' b t
copied-holding {m} m' h same long =
    let e = sym (holding-size h) in
    let used = fields-used m m' (subst (λ (c : ℕ). SameFields c m m') e same) h.stands (subst (λ (c : ℕ). memory_need c ≤ length m') e long) in
    record { stands = used-stands m m' used h.stands; board = used-board m m' used ∙ h.board; blocks = h.blocks }

module _ (m m' : List ℕ) (same : SameFront m m') where
  front-fields : SameFields (size_in m) m m'
  unfolding memory_need
  front-fields i l = same i (omega arith)

  front-used : {t : Tree} → Stands m t → memory_need (size_in m) ≤ length m' → SameInUse m m'
  front-used = fields-used m m' front-fields

  front-size : size_in m' ≡ size_in m
  front-size = fields-size m m' front-fields

  pub front-board : {t : Tree} → Stands m t → memory_need (size_in m) ≤ length m' → board_in m' ≡ board_in m
  front-board s l = used-board m m' (front-used s l)

  same-front : SameFront m' m
  same-front i l = sym (same i (subst (λ (c : ℕ). i < memory_need c) front-size l))

-- The same trees stand in two memories that are long enough and agree on their first bytes.
pub front-alone : (m m' : List ℕ) → SameFront m m' → memory_need (size_in m) ≤ length m → memory_need (size_in m) ≤ length m'
    → (t : Tree) → (Stands m t → Stands m' t) × (Stands m' t → Stands m t)
front-alone m m' same l l' t = (
  λ s. used-stands m m' (front-used m m' same s l') s,
  λ s. used-stands m' m (front-used m' m (same-front m m' same) s (subst (λ (c : ℕ). memory_need c ≤ length m) (sym (front-size m m' same)) l)) s,
)

-- What no call writes.
use Prim.Native.Nat.{ℕ, zero, suc, ◌+◌, ◌*◌, ◌-◌, ◌≤◌, ◌<◌}
use Rattle.std.specs.Prelude.{Bool, true, false, ◌&&◌, ◌||◌, List, map, ◌≡◌, leb, length, drop}
use Rattle.std.proofs.Math.Bool.{not}
use Rattle.std.proofs.Math.Path.{refl, sym, ap}
use Rattle.std.proofs.Common.{◌∙◌, arith, length-drop}
use borrow.Author.Tests.{ltb-true, le-leb, lt-leb, lt-ltb, le-ltb, ne_eqb}
use Rattle.std.proofs.Math.Dec.{ltb}
use Rattle.std.proofs.Math.Seq.{ext_get_or, get_or-drop}
use Rattle.model.specs.Moves.{InputRow, Row, move_of}
use Rattle.model.specs.Tree.{Tree}
use Rattle.model.specs.Loading.{load_tree}
use Rattle.model.specs.Changing.{change_tree}
use Rattle.model.specs.Calls as calls
use Rattle.model.specs.Calls.{Board, memory_need, loaded, Change, enter, withdraw, recost, changed}
use Rattle.model.proofs.Laws.Bool.{and_right, and_both, and-false-right, or-false-both, or_left, or_right}
use Rattle.model.proofs.Laws.Changes.{change_number, change-number, accepted-passes}
use Rattle.promises.specs.Layout.{count_place, number_place, block_place, cost_place, work_place, size_in, dimension_in, board_in}
use Rattle.promises.specs.Sound.{Sound}
use Rattle.promises.specs.Written.{in_area, moves_write, block_writes, change_writes, load_writes}
use Rattle.promises.specs.Promise.{Leaves, MemoryAfter, LoadPromise, ChangePromise}
use Rattle.promises.specs.Answers.{Verdict, number_of}
use Rattle.promises.specs.declared.CallResult.{CallResult}

-- ---- areas

module _ (a b i : ℕ) where
  pub in-area : a ≤ i → i < b → in_area a b i ≡ true
  unfolding in_area
  in-area l u = and_both (leb a i) (ltb i b) (le-leb a i l) (lt-ltb i b u)

  pub area-ends : in_area a b i ≡ true → i < b
  unfolding in_area
  area-ends e = ltb-true i b (and_right (leb a i) (ltb i b) e)

  pub before-area : i < a → in_area a b i ≡ false
  unfolding in_area
  before-area l = ap (λ (t : Bool). t && ltb i b) (lt-leb a i l)

  pub past-area : b ≤ i → in_area a b i ≡ false
  unfolding in_area
  past-area l = and-false-right (leb a i) (ltb i b) (le-ltb i b l)

-- ---- what a change writes, and what not

module _ (c i : ℕ) where
  abbrev counted : Bool
  counted = in_area count_place (count_place + 2) i

  abbrev fields : Bool
  fields = in_area (number_place 0) (work_place c c) i

  abbrev blocks : Bool
  blocks = in_area (block_place c 0) (block_place c c) i

  pub writes-count : 4 ≤ i → i < 6 → moves_write c i ≡ true
  unfolding moves_write
  writes-count l u = or_left counted (fields && not blocks) (in-area 4 6 i l u)

  area-written : number_place 0 ≤ i → i < work_place c c → blocks ≡ false → moves_write c i ≡ true
  unfolding moves_write
  area-written l u free =
      or_right counted (fields && not blocks)
      (and_both fields (not blocks) (in-area (number_place 0) (work_place c c) i l u) (ap not free))

  pub writes-rows : number_place 0 ≤ i → i < block_place c 0 → moves_write c i ≡ true
  writes-rows l u = area-written l (omega arith) (before-area (block_place c 0) (block_place c c) i (omega arith))

  pub writes-costs : cost_place c 0 0 ≤ i → i < work_place c c → moves_write c i ≡ true
  writes-costs l u = area-written (omega arith) u (past-area (block_place c 0) (block_place c c) i (omega arith))

  -- C, d and the format.
  pub leaves-head : i < 4 → moves_write c i ≡ false
  unfolding moves_write
  leaves-head l =
      or-false-both counted (fields && not blocks) (before-area 4 6 i l)
      (ap (λ (t : Bool). t && not blocks) (before-area (number_place 0) (work_place c c) i (omega arith)))

  -- The blocks.
  pub leaves-blocks : block_place c 0 ≤ i → i < cost_place c 0 0 → moves_write c i ≡ false
  unfolding moves_write
  leaves-blocks l u =
      or-false-both counted (fields && not blocks) (past-area 4 6 i (omega arith))
      (and-false-right fields (not blocks) (ap not (in-area (block_place c 0) (block_place c c) i l (omega arith))))

  moves-end : work_place c c ≤ i → moves_write c i ≡ false
  unfolding moves_write
  moves-end l =
      or-false-both counted (fields && not blocks) (past-area 4 6 i (omega arith))
      (ap (λ (t : Bool). t && not blocks) (past-area (number_place 0) (work_place c c) i l))

  load-ends : work_place c c ≤ i → load_writes c i ≡ false
  unfolding load_writes
  load-ends l =
      or-false-both (in_area 0 4 i || moves_write c i) blocks
      (or-false-both (in_area 0 4 i) (moves_write c i) (past-area 0 4 i (omega arith)) (moves-end l))
      (past-area (block_place c 0) (block_place c c) i (omega arith))

  block-ends : (x : Change) → change_number x < c → work_place c c ≤ i → block_writes c x i ≡ false
  unfolding block_writes change_number
  block-ends (enter n block costs) h l = ne_eqb i (block_place c n) (λ e. omega arith)
  block-ends (withdraw n) h l = refl
  block-ends (recost n block costs) h l = ne_eqb i (block_place c n) (λ e. omega arith)

  change-ends : (x : Change) → change_number x < c → work_place c c ≤ i → change_writes c x i ≡ false
  unfolding change_writes
  change-ends x h l = or-false-both (moves_write c i) (block_writes c x i) (moves-end l) (block-ends x h l)

-- ---- "Memory past the first 64·C + 1,024 bytes is never written."

module _ (c : ℕ) (writes : ℕ → Bool) (m m' : List ℕ) (b : Board) (t : Tree) where
  past-kept : ((i : ℕ) → work_place c c ≤ i → writes i ≡ false) → Leaves writes m m' b t → drop (memory_need c) m' ≡ drop (memory_need c) m
  unfolding memory_need
  past-kept ends k =
      ext_get_or 0 (drop need m') (drop need m)
      (length-drop need m' ∙ ap (λ (n : ℕ). n - need) k.only.length ∙ sym (length-drop need m))
      (λ i _. get_or-drop need m' i 0 ∙ k.only.same (need + i) (ends (need + i) (omega arith)) ∙ sym (get_or-drop need m i 0))
    where
      need : ℕ
      need = 64 * c + 1024

  past-left : (k : ℕ) → (k ≡ 0 → (i : ℕ) → work_place c c ≤ i → writes i ≡ false) → MemoryAfter writes k m m' b t → drop (memory_need c) m' ≡ drop (memory_need c) m
  unfolding MemoryAfter
  past-left zero ends k = past-kept (ends refl) k
  past-left (suc n) ends e = ap (drop (memory_need c)) e

-- (Of memory that is not sound a change writes nothing.)
module _ {m m' : List ℕ} where
  pub load_past : {c d : ℕ} {rows : List InputRow} {v : Verdict} → LoadPromise c d rows m v m' → drop (memory_need c) m' ≡ drop (memory_need c) m
  load_past {c} {d} {rows} {v} p =
      past-left c (load_writes c) m m' (loaded c d rows) (load_tree d (map move_of rows)) (number_of v) (λ _. load-ends c) p.left

  pub change-past : {x : Change} {lent lent' : List Row} {r : CallResult} → Sound m → ChangePromise x m lent r m' lent' → drop (memory_need (size_in m)) m' ≡ drop (memory_need (size_in m)) m
  unfolding board_in
  change-past {x} {lent} {r = r} s p =
      past-left (size_in m) (change_writes (size_in m) x) m m' (changed (board_in m) x) (change_tree (dimension_in m) x s.tree) (number_of r.verdict)
      (λ e i. change-ends (size_in m) i x (number e)) (p.left s)
    where
      number : number_of r.verdict ≡ 0 → change_number x < size_in m
      number e =
          change-number (board_in m) x
          (accepted-passes (board_in m) x (length lent) (sym (ap (λ (a : calls.Answer). a.number) (p.said.sound s).answers) ∙ e))

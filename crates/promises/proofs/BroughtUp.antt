-- Card 1, of what is said of a withdrawal, be it made or previewed: every move that is told as entered lies, in the tree before it,
-- under nodes that the count counts, and under no other.
use Rattle.std.specs.Prelude.{ℕ, Bool, true, false, cond, ◌≡◌, take}
use mathlib.Core.List.Memᴰ
use mathlib.Core.List.{List, [], Memᴰ}
use Rattle.std.proofs.Common.{sym, subst}
use Rattle.model.specs.Moves.{Move, Row, row_of, entered}
use Rattle.model.specs.Lists.{skyline}
use Rattle.model.specs.Tree.{moves_of}
use Rattle.model.specs.Nodes.{Node, nodes_of}
use Rattle.model.specs.Calls.{on_board, withdraw, change_notice}
use Rattle.model.specs.Opening.{opens_for}
use Rattle.model.specs.Holder.{is_accepted}
use Rattle.model.proofs.Laws.Opening.{brought-up-opened}
use Rattle.promises.specs.Layout.{dimension_in, board_in}
use Rattle.promises.specs.Sound.{Sound}
use Rattle.promises.specs.Answers.{answer_of}
use Rattle.promises.specs.Promise.{ChangeSaid}
use Rattle.promises.specs.Run.{Bytes}
use Rattle.promises.proofs.Laws.Stands.{stands-moves, sound-board}
use Rattle.promises.proofs.Demand3.{said-rows}
use Rattle.promises.specs.declared.CallResult.{CallResult}

-- A refused call tells no row.
told-accepted : {r : Row} (accepted : Bool) (rows : List Row) → Memᴰ r (cond accepted rows []) → Memᴰ r rows
told-accepted true rows k = k
told-accepted false rows k = absurd (Memᴰ.not-nil k)

pub told-under-counted : (n : ℕ) {m : List ℕ} {lent lent' : List Row} {r : CallResult} → ChangeSaid (withdraw n) m lent r lent'
    → (s : Sound m) → Bytes m → {q : Move} → Memᴰ (row_of entered q) (take r.count lent')
    → {z : Node} → Memᴰ z (nodes_of s.tree) → Memᴰ q z.under
    → (on_board n (skyline (dimension_in m) (moves_of s.tree)) ≡ true) × (opens_for (dimension_in m) (skyline (dimension_in m) (moves_of s.tree)) n z ≡ true)
unfolding board_in
told-under-counted n {m} {r = r} p s b {q} k i j =
    brought-up-opened (board_in m) (sound-board m s b) s.tree (sym (stands-moves m s.tree s.stands)) n
    (told-accepted (is_accepted (answer_of r.verdict)) (change_notice (board_in m) (withdraw n))
    (subst (Memᴰ (row_of entered q)) (said-rows _ _ _ _ _ _ (p.sound s)) k)) i j

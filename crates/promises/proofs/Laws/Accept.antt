-- What is said of a change on sound memory, be it made or previewed: when a move is taken, and when rows are enough.
use Rattle.std.specs.Prelude.{ℕ, ◌+◌, ◌≤◌, ◌<◌, false, List, ◌≡◌, length}
use Rattle.std.proofs.Common.{sym, ◌∙◌}
use Rattle.std.proofs.Math.Path.{ap}
use Rattle.zorder.specs.Refusal.{cost_past_bad}
use Rattle.model.specs.Moves.{Row}
use Rattle.model.specs.Calls as calls
use Rattle.model.specs.Calls.{accepted, Change, enter, block_bad, on_board, change_notice, change_answer}
use Rattle.model.proofs.Laws.Changes.{changes-accepted, never-eight, enter-passes}
use Rattle.promises.specs.Layout.{size_in, dimension_in, board_in}
use Rattle.promises.specs.Sound.{Sound}
use Rattle.promises.specs.Answers.{number_of}
use Rattle.promises.specs.Promise.{ChangeSaid}
use Rattle.promises.specs.Run.{Bytes}
use Rattle.promises.proofs.Laws.Stands.{sound-board}
use Rattle.promises.specs.declared.CallResult.{CallResult}

module _ {m : List ℕ} {lent lent' : List Row} {r : CallResult} (s : Sound m) where
  change-number : (x : Change) → ChangeSaid x m lent r lent' → number_of r.verdict ≡ (change_answer (board_in m) x (length lent)).number
  change-number x p = ap (λ (a : calls.Answer). a.number) (p.sound s).answers

  -- "A board with a free number always takes one more move, given costs past d of zero and rows enough for its notice", and a block
  -- of 0 to 63 (Card 8).
  pub enter-accepted : (n block : ℕ) (costs : List ℕ) → n < size_in m → on_board n (board_in m).moves ≡ false → block_bad block ≡ false → cost_past_bad (dimension_in m) costs ≡ false
      → length (change_notice (board_in m) (enter n block costs)) ≤ length lent → ChangeSaid (enter n block costs) m lent r lent' → number_of r.verdict ≡ 0
  unfolding accepted board_in
  enter-accepted n block costs l o k c e p =
      change-number (enter n block costs) p
      ∙ ap (λ (a : calls.Answer). a.number)
      (changes-accepted (board_in m) (enter n block costs) (length lent) (enter-passes (board_in m) n block costs l k c o) e)

  -- "For these three C + 1 rows always suffice."
  pub rows-suffice : (x : Change) → Bytes m → size_in m + 1 ≤ length lent → ChangeSaid x m lent r lent' → ¬ (number_of r.verdict ≡ 8)
  unfolding board_in
  rows-suffice x b l p e =
      never-eight (board_in m) x (length lent) (sound-board m s b) l (sym (change-number x p) ∙ e)

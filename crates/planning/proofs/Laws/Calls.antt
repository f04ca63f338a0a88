-- The notice of an exchange of moves is that of the change.
use Rattle.std.specs.Prelude.{ℕ, List, ◌≡◌}
use Rattle.std.proofs.Common.{sym, ap, ◌∙◌}
use Rattle.model.specs.Moves as model
use Rattle.model.specs.Lists.{skyline}
use Rattle.model.specs.Notice.{notice_of}
use Rattle.model.specs.Calls as calls
use Rattle.model.specs.Calls.{accepted, refused_with, list_of, changed_moves, change_notice, changed}
use Rattle.line.specs.Line.{moves_in}
use Rattle.promises.specs.Layout.{board_in, line_from}
use Rattle.memory.specs.Held.{SoundRows}
use Rattle.upkeep.specs.Change.{moves_after}
use Rattle.upkeep.specs.declared.exchange.Exchange.{Exchange}
use Rattle.planning.specs.Change.{notice_by}
use Rattle.planning.proofs.Laws.Judge.{board-moves}

-- No check turns it down.
pub not-refused : {k : ℕ} → k ≡ 0 → refused_with k ≡ accepted
unfolding refused_with accepted
not-refused e = ap refused_with e

pub call-notice : {c d n : ℕ} (k : Exchange) {m : List ℕ} → SoundRows c d n m → (x : calls.Change)
    → moves_after d k (moves_in (line_from c d n m)) ≡ changed_moves d x (moves_in (line_from c d n m)) → notice_by c d n k m ≡ change_notice (board_in m) x
unfolding notice_by change_notice list_of changed board_in
call-notice {c} {d} {n} k {m} s x same =
    let ms = moves_in (line_from c d n m) in
    let own = sym (board-moves c d n m s) in
    ap (λ (ns : List model.Move). notice_of (skyline d ms) (skyline d ns)) same
    ∙ (λ i. notice_of (skyline (s.dimension i) (own i)) (skyline (s.dimension i) (changed_moves (s.dimension i) x (own i))))

-- The notice: "first the rows marked left (in the old list, not in the new), then those marked entered, each part in Z-order."
use Rattle.std.specs.Prelude.{not, List, ◌++◌, map}
use Rattle.model.specs.Basics.{select, any}
use Rattle.model.specs.Moves.{Move, Row, row_of, same_row, left, entered}

-- The rows of one list that the other has not.
unfoldable pub missing : List Row → List Row → List Row
missing rs ss = select (λ r. not (any (same_row r) ss)) rs

unfoldable pub notice_of : List Move → List Move → List Row
notice_of old new =
    missing (map (row_of left) old) (map (row_of left) new) ++ missing (map (row_of entered) new) (map (row_of entered) old)

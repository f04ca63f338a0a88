-- How an input falls into lines (document 01, "Frames").
use Rattle.std.specs.Prelude.{ℕ, cond, List, [], ◌∷◌, ◌++◌, eqb}
use Rattle.frame_lines.specs.Text.{line_end}

-- The lines of an input, where `line` was read of the first: "A last line needs no line end; empty input prints nothing."
unfoldable pub lines_from : List ℕ → List ℕ → List (List ℕ)
lines_from [] [] = []
lines_from (b ∷ line) [] = (b ∷ line) ∷ []
lines_from line (b ∷ bs) = cond (eqb b line_end) (line ∷ lines_from [] bs) (lines_from (line ++ b ∷ []) bs)

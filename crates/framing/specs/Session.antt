-- The program's answers, line after line (document 01, "Frames"): a board of C = 256, 257 rows lent to each call.
use Rattle.std.specs.Prelude.{ℕ, cond, List, [], ◌∷◌, ◌++◌, eqb}
use Rattle.model.specs.Loading.{load_tree}
use Rattle.model.specs.Nodes.{nodes_opened}
use Rattle.model.specs.Changing.{change_tree}
use Rattle.model.specs.Calls as calls
use Rattle.model.specs.Calls.{memory_need, load_answer, change_answer, change_notice, changed, query_answer, query_rows}
use Rattle.frame_lines.specs.State.{State, unloaded, holds, dimension_of}
use Rattle.frame_lines.specs.Frames.{Frame, load, change, list, early, wrong, frame_of}
use Rattle.frame_lines.specs.Text.{Reply, refused, notice, listed, answer_text}
use Rattle.frame_lines.specs.Lines.{lines_from}

-- C.
abbrev pub board_size : ℕ
board_size = 256

-- C + 1: a notice never has more.
abbrev pub lent_rows : ℕ
lent_rows = 257

-- What is said where a call gives this answer: a refusal, or else this.
unfoldable pub said_by : calls.Answer → Reply → Reply
said_by a s = cond (eqb a.number 0) s (refused a.number a.detail)

-- .. and what is held then.
unfoldable pub held_by : calls.Answer → State → State → State
held_by a new old = cond (eqb a.number 0) new old

-- A load of nothing.
unfoldable pub load_says : ℕ → calls.Answer
load_says d = load_answer (memory_need board_size) board_size d []

unfoldable pub said : Frame → State → Reply
said (load d) s = said_by (load_says d) (notice [])
said (change x) unloaded = refused 3 0
said (change x) (holds b t) = said_by (change_answer b x lent_rows) (notice (change_notice b x))
said list unloaded = refused 3 0
said list (holds b t) =
    said_by (query_answer b calls.list lent_rows) (listed (nodes_opened b.dimension t) (query_rows b calls.list))
said early s = refused 3 0
said wrong s = refused 9 0

unfoldable pub held : Frame → State → State
held (load d) s = held_by (load_says d) (holds (calls.loaded board_size d []) (load_tree d [])) s
held (change x) unloaded = unloaded
held (change x) (holds b t) =
    held_by (change_answer b x lent_rows) (holds (changed b x) (change_tree b.dimension x t)) (holds b t)
held list s = s
held early s = s
held wrong s = s

-- The answer to one line, and what is held after it.
unfoldable pub answer_to : State → List ℕ → List ℕ
answer_to s line = answer_text (dimension_of s) (said (frame_of s line) s)

unfoldable pub after : State → List ℕ → State
after s line = held (frame_of s line) s

-- The answers to lines.
unfoldable pub answers_to : State → List (List ℕ) → List ℕ
answers_to s [] = []
answers_to s (l ∷ ls) = answer_to s l ++ answers_to (after s l) ls

-- What is printed of an input, where s is held and `line` was read of its first line.
unfoldable pub printed : State → List ℕ → List ℕ → List ℕ
printed s line input = answers_to s (lines_from line input)

-- What the program prints.
unfoldable pub output : List ℕ → List ℕ
output input = printed unloaded [] input

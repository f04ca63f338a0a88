-- Document 01's own input and what it prints, computed.
use Rattle.std.specs.Prelude.{ℕ, zero, suc, ◌/◌, ◌%◌, ◌≡◌, refl}
use mathlib.Core.List.{List, [], ◌∷◌, ◌++◌, flat_map}
use Rattle.model.specs.Computing.{computing}
use Rattle.model.specs.Changing.{change_tree}
use Rattle.frame_lines.specs.Digits.{is_digit, value_of, digit_of, joined, bytes_of, numbers_of}
use Rattle.frame_lines.specs.State.{dimension_of}
use Rattle.frame_lines.specs.Frames.{sized, frame_number, frame_costs, call_frame, board_frame, call_codes, frame_in, whole_bytes, frame_of}
use Rattle.frame_lines.specs.Text.{byte_text, word_text, row_text, rows_text, said_text, line_end, answer_text}
use Rattle.frame_lines.specs.Lines.{lines_from}
use Rattle.framing.specs.Session.{said_by, held_by, load_says, said, held, answer_to, after, answers_to, printed, output}

-- The line that spells n in k digits.
pub spelled : ℕ → ℕ → List ℕ
spelled zero n = []
spelled (suc k) n = spelled k (n / 16) ++ digit_of (n % 16) ∷ []

pub ended : List (List ℕ) → List ℕ
ended lines = flat_map (λ l. l ++ line_end ∷ []) lines

computes : Unit {0}
unfolding computing change_tree is_digit value_of digit_of joined bytes_of numbers_of sized frame_number frame_costs call_frame board_frame call_codes frame_in whole_bytes frame_of byte_text word_text row_text rows_text said_text answer_text dimension_of said_by held_by load_says said held answer_to after answers_to lines_from printed output spelled ended
computes = tt

-- The last line without its line end.
pub input : List ℕ
input =
    ended
    (spelled 4 0x1002
    ∷ spelled 14 0x20000000010006
    ∷ spelled 14 0x20000100030007
    ∷ spelled 14 0x20000200020002
    ∷ spelled 6 0x300000
    ∷ spelled 2 0x50
    ∷ [])
    ++ spelled 6 0x300009

pub document-example : output input
    ≡ ended
    (spelled 6 0x000000
    ∷ spelled 20 0x00000102000000010006
    ∷ spelled 6 0x000000
    ∷ spelled 20 0x00000102000200020002
    ∷ spelled 20 0x00000101000000010006
    ∷ spelled 24 0x000001000100000200020002
    ∷ spelled 6 0x060000
    ∷ [])
unfolding computes input
document-example = refl

-- Before an accepted 10: 3 to a frame of whole bytes with a first byte of a call, 9 to half a byte, to another first byte and
-- to a blank line.
pub before-a-load : output (ended (spelled 2 0x50 ∷ spelled 4 0x50AB ∷ spelled 3 0x500 ∷ spelled 2 0xFF ∷ [] ∷ []))
    ≡ ended (spelled 6 0x030000 ∷ spelled 6 0x030000 ∷ spelled 6 0x090000 ∷ spelled 6 0x090000 ∷ spelled 6 0x090000 ∷ [])
unfolding computes
before-a-load = refl

-- A carriage return is a byte of its line.
pub carriage-return : output (spelled 2 0x50 ++ 13 ∷ line_end ∷ []) ≡ ended (spelled 6 0x090000 ∷ [])
unfolding computes
carriage-return = refl

-- "A last line needs no line end; empty input prints nothing."
pub empty-input : output [] ≡ []
unfolding computes
empty-input = refl

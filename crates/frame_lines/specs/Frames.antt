-- Which line is which frame (document 01, "Frames"). A line is its bytes, without the line end.
use Rattle.std.specs.Prelude.{ℕ, ◌+◌, ◌*◌, ◌%◌, Bool, cond, ◌&&◌, List, [], ◌∷◌, eqb, length, get_or, drop}
use Rattle.zorder.specs.Address.{padded}
use Rattle.model.specs.Basics.{all, has}
use Rattle.model.specs.Calls.{Change, enter, withdraw, recost}
use Rattle.frame_lines.specs.Digits.{is_digit, bytes_of, numbers_of}
use Rattle.frame_lines.specs.State.{State, unloaded, holds}

pub data Frame : Type 0 where
  load : ℕ → Frame
  change : Change → Frame
  list : Frame
  early : Frame
  wrong : Frame

-- The frame, if as many bytes follow its first as it asks for.
unfoldable pub sized : ℕ → List ℕ → Frame → Frame
sized n rest f = cond (eqb (length rest) n) f wrong

-- A number, and the costs after it as a row holds them.
unfoldable pub frame_number : List ℕ → ℕ
frame_number rest = get_or (numbers_of rest) 0 0

unfoldable pub frame_costs : ℕ → List ℕ → List ℕ
frame_costs d rest = padded d (drop 1 (numbers_of rest))

-- "20, number, d costs: enter. 30, number: withdraw. 40, number, d costs: re-cost. 50: list." "frames use block 0" (Card 8).
unfoldable pub call_frame : ℕ → ℕ → List ℕ → Frame
call_frame d code rest =
    cond (eqb code 0x20) (sized (2 + 2 * d) rest (change (enter (frame_number rest) 0 (frame_costs d rest))))
    (cond (eqb code 0x30) (sized 2 rest (change (withdraw (frame_number rest))))
    (cond (eqb code 0x40) (sized (2 + 2 * d) rest (change (recost (frame_number rest) 0 (frame_costs d rest))))
    (sized 0 rest list)))

-- "Before an accepted 10, any frame of whole bytes starting 20, 30, 40 or 50 gets 3."
unfoldable pub board_frame : State → ℕ → List ℕ → Frame
board_frame unloaded code rest = early
board_frame (holds b t) code rest = call_frame b.dimension code rest

-- The first bytes of the calls but load.
unfoldable pub call_codes : List ℕ
call_codes = 0x20 ∷ 0x30 ∷ 0x40 ∷ 0x50 ∷ []

-- "10 and d (one byte): load nothing. .. Any other line of wrong form, a blank one too, gets 9."
unfoldable pub frame_in : State → List ℕ → Frame
frame_in s [] = wrong
frame_in s (code ∷ rest) =
    cond (eqb code 0x10) (sized 1 rest (load (get_or rest 0 0))) (cond (has code call_codes) (board_frame s code rest) wrong)

unfoldable pub whole_bytes : List ℕ → Bool
whole_bytes line = all is_digit line && eqb (length line % 2) 0

unfoldable pub frame_of : State → List ℕ → Frame
frame_of s line = cond (whole_bytes line) (frame_in s (bytes_of line)) wrong

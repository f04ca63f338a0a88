-- What the code keeps of a line that it reads byte by byte, and the frame that it finds there.
use Rattle.zorder.specs.Address.{row_costs}
use Rattle.std.specs.Prelude.{ℕ, suc, ◌+◌, ◌*◌, ◌%◌, ◌<◌, ◌≤◌, min, Bool, true, false, cond, List, [], ◌∷◌, ◌++◌, ◌≡◌, eqb, ltb, length, get_or, take, drop, Option, Some, None}
use Rattle.promises.specs.Layout.{tab}
use Rattle.model.specs.Basics.{all, has}
use Rattle.model.specs.Calls.{enter, withdraw, recost}
use Rattle.frame_lines.specs.Digits.{is_digit, value_of}
use Rattle.frame_lines.specs.State.{State, unloaded, holds}
use Rattle.frame_lines.specs.Frames as frames
use Rattle.frame_lines.specs.Frames.{call_codes, frame_of}
use Rattle.frame_lines.specs.Text.{line_end}
use Rattle.frame_lines.specs.Lines.{lines_from}
use Rattle.frame_lines.specs.declared.reading.Line.{Line}
use Rattle.frame_lines.specs.declared.reading.Read.{Read}
use Rattle.frame_lines.specs.declared.frame.Frame.{Frame}
use Rattle.frame_lines.specs.declared.frame.Frame.TheVariants.{Load, Enter, Withdraw, Recost, List as ListAll, Early, Wrong}

-- No frame is longer than an enter with all its costs: of a longer line it is enough to know whether it has whole bytes, and
-- its first byte.
abbrev pub most_digits : ℕ
most_digits = 6 + 4 * row_costs

-- What is kept of a line.
pub record Judged (line : List ℕ) (l : Line) : Type 0 where
  pub first : (i : ℕ) → i < most_digits → get_or l.first i 0 ≡ get_or line i 0
  pub count : l.count ≡ min (length line) (suc most_digits)
  pub odd : l.odd ≡ eqb (length line % 2) 1
  pub spelled : l.spelled ≡ all is_digit line

-- The kept bytes with byte n.
unfoldable pub ByteKept : List ℕ → ℕ → ℕ → List ℕ → Type 0
ByteKept first n b r = (i : ℕ) → i < most_digits → get_or r i 0 ≡ cond (eqb i n) b (get_or first i 0)

-- A byte more, whatever the line was.
unfoldable pub Stepped : Line → ℕ → Line → Type 0
Stepped l b r = (line : List ℕ) → Judged line l → Judged (line ++ b ∷ []) r

-- The line of which this was read, if the input ends here: none where no byte was.
unfoldable pub LastLine : Line → Bool → Type 0
LastLine l r = (line : List ℕ) → Judged line l → lines_from line [] ≡ cond r (line ∷ []) []

-- The first n bytes added to a line, whatever it was; the lines of the input are as before.
pub record ReadOn (l : Line) (bytes : List ℕ) (n : ℕ) (l' : Line) : Type 0 where
  pub within : n ≤ length bytes
  pub line : (line : List ℕ) → Judged line l → Judged (line ++ take n bytes) l'
  pub lines : (line more : List ℕ) → lines_from line (bytes ++ more) ≡ lines_from (line ++ take n bytes) (drop n bytes ++ more)

-- How many bytes are read up to a line end at a place, or all.
unfoldable pub taken_of : Option ℕ → List ℕ → ℕ
taken_of (Some n) bytes = n
taken_of None bytes = length bytes

-- .. and so many were read.
pub record LineRead (l : Line) (bytes : List ℕ) (r : Read) : Type 0 where
  pub read : ReadOn l bytes (taken_of r.end bytes) r.line
  pub ended : (n : ℕ) → r.end ≡ Some n → (n < length bytes) × (get_or bytes n 0 ≡ line_end)

-- The byte, the number and the cost that digits spell, at places counted in bytes.
unfoldable pub byte_at : List ℕ → ℕ → ℕ
byte_at digits i = value_of (get_or digits (2 * i) 0) * 16 + value_of (get_or digits (2 * i + 1) 0)

unfoldable pub word_spelled : List ℕ → ℕ → ℕ
word_spelled digits i = byte_at digits i * 256 + byte_at digits (i + 1)

unfoldable pub cost_at : List ℕ → ℕ → ℕ → ℕ
cost_at digits d j = cond (ltb j d) (word_spelled digits (3 + 2 * j)) 0

unfoldable pub costs_at : List ℕ → ℕ → List ℕ
costs_at digits d = tab (cost_at digits d) row_costs

-- The frame of a line of whole bytes, by its first byte and the number of its digits.
unfoldable pub sized_frame : ℕ → ℕ → Frame → Frame
sized_frame count n f = cond (eqb count n) f Wrong

unfoldable pub frame_on : ℕ → ℕ → Line → Frame
frame_on d code l =
    cond (eqb code 0x20) (sized_frame l.count (6 + 4 * d) (Enter (word_spelled l.first 1) (costs_at l.first d)))
    (cond (eqb code 0x30) (sized_frame l.count 6 (Withdraw (word_spelled l.first 1)))
    (cond (eqb code 0x40) (sized_frame l.count (6 + 4 * d) (Recost (word_spelled l.first 1) (costs_at l.first d)))
    (sized_frame l.count 2 ListAll)))

unfoldable pub frame_by : ℕ → ℕ → Line → Frame
frame_by d code l =
    cond (eqb code 0x10) (sized_frame l.count 4 (Load (byte_at l.first 1)))
    (cond (has code call_codes) (cond (eqb d 0) Early (frame_on d code l)) Wrong)

unfoldable pub line_frame : ℕ → Line → Frame
line_frame d l =
    cond l.odd Wrong (cond l.spelled (frame_by d (byte_at l.first 0) l) Wrong)

-- The code's frame as one of the definitions.
unfoldable pub as_frame : Frame → frames.Frame
as_frame (Load d) = frames.load d
as_frame (Enter number costs) = frames.change (enter number 0 costs)
as_frame (Withdraw number) = frames.change (withdraw number)
as_frame (Recost number costs) = frames.change (recost number 0 costs)
as_frame ListAll = frames.list
as_frame Early = frames.early
as_frame Wrong = frames.wrong

-- Before an accepted 10 no call is made on the board.
unfoldable pub calling : Frame → Bool
calling (Load d) = false
calling (Enter number costs) = true
calling (Withdraw number) = true
calling (Recost number costs) = true
calling ListAll = true
calling Early = false
calling Wrong = false

unfoldable pub Timely : ℕ → Frame → Type 0
Timely d f = calling f ≡ true → 0 < d

-- The number by which the code knows what is held: 0 before an accepted 10, then the board's number of costs.
unfoldable pub CostsHeld : State → ℕ → Type 0
CostsHeld unloaded d = d ≡ 0
CostsHeld (holds b t) d = (b.dimension ≡ d) × (0 < d)

-- The frame of a line, whatever is held and whatever the line was.
pub record Framed (d : ℕ) (l : Line) (r : Frame) : Type 0 where
  pub frame : (s : State) (line : List ℕ) → CostsHeld s d → Judged line l → as_frame r ≡ frame_of s line
  pub timely : Timely d r

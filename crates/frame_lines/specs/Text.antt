-- Which answer is which bytes (document 01, "Frames").
use Rattle.std.specs.Prelude.{ℕ, ◌/◌, ◌%◌, length, take}
use mathlib.Core.List.{List, [], ◌∷◌, ◌++◌, flat_map}
use Rattle.model.specs.Moves.{Row}
use Rattle.frame_lines.specs.Digits.{digit_of}

-- The lowest byte of a number, and its lowest two, "highest byte first".
unfoldable pub byte_text : ℕ → List ℕ
byte_text n = digit_of (n / 16 % 16) ∷ digit_of (n % 16) ∷ []

unfoldable pub word_text : ℕ → List ℕ
word_text n = byte_text (n / 256) ++ byte_text n

-- "rows: mark (00 listed, 01 left, 02 entered), number, d costs"
unfoldable pub row_text : ℕ → Row → List ℕ
row_text d r = byte_text r.mark ++ flat_map word_text (r.number ∷ take d r.costs)

unfoldable pub rows_text : ℕ → List Row → List ℕ
rows_text d rows = flat_map (row_text d) rows

-- What an answer says: a refusal and its detail; rows; rows, and the nodes opened.
pub data Reply : Type 0 where
  refused : ℕ → ℕ → Reply
  notice : List Row → Reply
  listed : ℕ → List Row → Reply

-- "An answer line is the refusal (one byte), then a two-byte detail if refused, else a two-byte row count, for 50 the
-- two-byte count of nodes opened, then rows."
unfoldable pub said_text : ℕ → Reply → List ℕ
said_text d (refused number detail) = byte_text number ++ word_text detail
said_text d (notice rows) = byte_text 0 ++ word_text (length rows) ++ rows_text d rows
said_text d (listed opened rows) = byte_text 0 ++ word_text (length rows) ++ word_text opened ++ rows_text d rows

-- A line feed.
abbrev pub line_end : ℕ
line_end = 10

unfoldable pub answer_text : ℕ → Reply → List ℕ
answer_text d s = said_text d s ++ line_end ∷ []

-- What a function that puts text into a lent buffer leaves: the bytes before the place, the text, and the place past it.
use Rattle.std.specs.Prelude.{ℕ, ◌+◌, List, ◌++◌, ◌≡◌, length, take}
use Rattle.frame_lines.specs.Text.{byte_text, word_text}

pub record TextPut (s before : List ℕ) (at : ℕ) (after : List ℕ) (end : ℕ) : Type 0 where
  pub kept : length after ≡ length before
  pub next : end ≡ at + length s
  pub text : take end after ≡ take at before ++ s

-- The beginning of an answer: a refusal and its detail, or 0 and how many rows.
unfoldable pub head_text : ℕ → ℕ → List ℕ
head_text number n = byte_text number ++ word_text n

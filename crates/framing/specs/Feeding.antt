-- What the functions that take the input as it comes promise: what they put, one after the other, is `printed`.
use Rattle.std.specs.Prelude.{ℕ, ◌<◌, ◌≤◌, List, [], ◌++◌, ◌≡◌, length, take, drop}
use Rattle.frame_lines.specs.State.{State}
use Rattle.frame_lines.specs.Reading.{Judged}
use Rattle.framing.specs.Session.{printed}
use Rattle.framing.specs.Serving.{StateIn, HoldsState}
use Rattle.framing.specs.declared.feeding.Point.{Point}
use Rattle.framing.specs.declared.feeding.Fed.{Fed}

-- What is held, and what was read of a line, as the code has them.
pub record At (s : State) (line : List ℕ) (p : Point) (m : List ℕ) : Type 0 where
  pub held : StateIn s p.dimension m
  pub read : Judged line p.line

-- Before the first byte.
pub record AtStart (p : Point) : Type 0 where
  pub dimension : p.dimension ≡ 0
  pub line : Judged [] p.line

-- From what is held and what was read to what is held and read then: what is printed of these bytes and of any more is what was
-- put, and then what is printed of the bytes not taken and of those.
pub record Onward (s : State) (line bytes : List ℕ) (r : Fed) (m' out' : List ℕ) : Type 0 where
  pub state : State
  pub begun : List ℕ
  pub at : At state begun r.point m'
  pub prints : (more : List ℕ) → printed s line (bytes ++ more) ≡ take r.answered out' ++ printed state begun (drop r.taken bytes ++ more)

-- Bytes of the input taken, whatever is held and whatever was read of the line; where there are bytes at least one, so that a
-- caller comes to their end.
pub record Feeds (p : Point) (bytes m : List ℕ) (r : Fed) (m' out' : List ℕ) : Type 0 where
  pub onward : (s : State) (line : List ℕ) → At s line p m → Onward s line bytes r m' out'
  pub taken : r.taken ≤ length bytes
  pub some : 0 < length bytes → 0 < r.taken
  pub within : r.answered ≤ length out'
  pub ready : HoldsState r.point.dimension m'

-- The end of the input.
pub record Finishes (p : Point) (m : List ℕ) (answered : ℕ) (out' : List ℕ) : Type 0 where
  pub prints : (s : State) (line : List ℕ) → At s line p m → take answered out' ≡ printed s line []
  pub within : answered ≤ length out'

-- An input that comes in parts: the bytes at hand, those still to come, and all that is put, one after the other. The bytes at
-- hand are fed, each time with what the last call left; when all are taken a read brings the next ones, as many as it likes.
pub data ProgramRun : Point → List ℕ → List ℕ → List ℕ → List ℕ → Type 0 where
  feed : {p : Point} {m bytes more text m' out' : List ℕ} {r : Fed}
      → Feeds p bytes m r m' out'
      → ProgramRun r.point m' (drop r.taken bytes) more text
      → ProgramRun p m bytes more (take r.answered out' ++ text)
  read : {p : Point} {m bytes more text : List ℕ} → ProgramRun p m bytes more text → ProgramRun p m [] (bytes ++ more) text
  finish : {p : Point} {m out' : List ℕ} {n : ℕ} → Finishes p m n out' → ProgramRun p m [] [] (take n out')

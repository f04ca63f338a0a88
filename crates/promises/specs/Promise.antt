-- What each call promises, for every content of the lent memory: what is said (answer and rows), and what is left (memory).
-- Free, and so named by no promise: the bytes that a call may write and that are not in use (`Written`, `Used`).
use Rattle.std.specs.Prelude.{ℕ, zero, suc, Bool, true, false, List, [], map, ◌≡◌, length, get_or}
use Rattle.model.specs.Moves.{InputRow, Row, move_of}
use Rattle.model.specs.Tree.{Tree}
use Rattle.model.specs.Loading.{load_tree}
use Rattle.model.specs.Calls as calls
use Rattle.model.specs.Calls.{Board, load_answer, loaded, refused_with, Query, query_answer, query_rows, Change, change_answer, change_notice, changed, keeps_moves, changes_nothing}
use Rattle.model.specs.Changing.{change_tree}
use Rattle.model.specs.Opening.{query_opens, change_opens}
use Rattle.promises.specs.Layout.{size_in, dimension_in, board_in}
use Rattle.promises.specs.Written.{Only, block_writes, change_writes, load_writes}
use Rattle.promises.specs.Sound.{Sound, Holding}
use Rattle.promises.specs.Answers.{Verdict, answer_of, number_of, counted, rows_after}
use Rattle.promises.specs.declared.CallResult.{CallResult}

-- The memory after a call that answered with this number: refused, "every byte as before"; accepted, sound with this board and
-- this tree, as long as before, and every byte as before that the call does not write. ("Memory past the first 64·C + 1,024
-- bytes is never written": Laws/Written.)
pub record Leaves (writes : ℕ → Bool) (m m' : List ℕ) (b : Board) (t : Tree) : Type 0 where
  pub holding : Holding m' b t
  pub only : Only writes m m'

unfoldable pub MemoryAfter : (ℕ → Bool) → ℕ → List ℕ → List ℕ → Board → Tree → Type 0
MemoryAfter writes zero m m' b t = Leaves writes m m' b t
MemoryAfter writes (suc k) m m' b t = m' ≡ m

-- Load.
pub record LoadPromise (c d : ℕ) (rows : List InputRow) (m : List ℕ) (v : Verdict) (m' : List ℕ) : Type 0 where
  pub said : answer_of v ≡ load_answer (length m) c d rows
  pub left : MemoryAfter (load_writes c) (number_of v) m m' (loaded c d rows) (load_tree d (map move_of rows))

-- What is said: the answer, how many rows were told, the nodes opened, and the lent rows afterwards.
pub record Said (answer : calls.Answer) (rows : List Row) (nodes : ℕ) (lent : List Row) (r : CallResult) (lent' : List Row) : Type 0 where
  pub answers : answer_of r.verdict ≡ answer
  pub counts : r.count ≡ counted (number_of r.verdict) (length rows)
  pub opens : r.opened ≡ counted (number_of r.verdict) nodes
  pub tells : lent' ≡ rows_after (number_of r.verdict) rows lent

-- Of memory that is not sound every call but load says 3 and nothing else.
abbrev pub UnsoundSaid : List Row → CallResult → List Row → Type 0
UnsoundSaid = Said (refused_with 3) [] 0

-- The lists (Definitions 2, 3, 4, 6 and 8) and the hours call (Card 8). Their memory is lent for reading only.
abbrev pub QuerySaidOn : Query → Board → ℕ → List Row → CallResult → List Row → Type 0
QuerySaidOn q b nodes lent = Said (query_answer b q (length lent)) (query_rows b q) nodes lent

pub record QueryPromise (q : Query) (m : List ℕ) (lent : List Row) (r : CallResult) (lent' : List Row) : Type 0 where
  pub sound : (s : Sound m) → QuerySaidOn q (board_in m) (query_opens (dimension_in m) q s.tree) lent r lent'
  pub unsound : (Sound m → ⊥) → UnsoundSaid lent r lent'

-- Enter, withdraw and re-cost: what is said of a change, be it made or previewed.
abbrev pub ChangeSaidOn : Change → Board → ℕ → List Row → CallResult → List Row → Type 0
ChangeSaidOn x b nodes lent = Said (change_answer b x (length lent)) (change_notice b x) nodes lent

pub record ChangeSaid (x : Change) (m : List ℕ) (lent : List Row) (r : CallResult) (lent' : List Row) : Type 0 where
  pub sound : (s : Sound m) → ChangeSaidOn x (board_in m) (change_opens (dimension_in m) x s.tree) lent r lent'
  pub unsound : (Sound m → ⊥) → UnsoundSaid lent r lent'

-- The call. A re-cost with equal costs writes no byte but its number's block.
pub record ChangePromise (x : Change) (m : List ℕ) (lent : List Row) (r : CallResult) (m' : List ℕ) (lent' : List Row) : Type 0 where
  pub said : ChangeSaid x m lent r lent'
  pub left :
      (s : Sound m)
      → MemoryAfter (change_writes (size_in m) x) (number_of r.verdict) m m' (changed (board_in m) x) (change_tree (dimension_in m) x s.tree)
  pub alone : Sound m → keeps_moves (board_in m) x ≡ true → (i : ℕ) → block_writes (size_in m) x i ≡ false → get_or m' i 0 ≡ get_or m i 0
  pub nothing : Sound m → changes_nothing (board_in m) x ≡ true → m' ≡ m
  pub unsound : (Sound m → ⊥) → m' ≡ m

-- Its preview (Card 2) says what the call does. Its memory is lent for reading only.
abbrev pub PreviewPromise : Change → List ℕ → List Row → CallResult → List Row → Type 0
PreviewPromise x m lent = ChangeSaid x m lent

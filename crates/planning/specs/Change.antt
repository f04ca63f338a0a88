-- What the parts of the three changes say and leave.
use Rattle.std.specs.Prelude.{ℕ, ◌+◌, ◌<◌, ◌≤◌, cond, ◌≡◌, List, Some, None}
use Rattle.std.specs.Option.{ForSome}
use Rattle.model.specs.Moves as model
use Rattle.model.specs.Moves.{Row}
use Rattle.model.specs.Lists.{skyline}
use Rattle.model.specs.Notice.{notice_of}
use Rattle.model.specs.Tree.{Tree}
use Rattle.model.specs.Calls as calls
use Rattle.model.specs.Calls.{changed_moves}
use Rattle.model.specs.Changing.{change_tree}
use Rattle.line.specs.Line.{moves_in}
use Rattle.promises.specs.Layout.{size_in, dimension_in, number_in, costs_in, line_from, line_in}
use Rattle.promises.specs.Sound.{Stands}
use Rattle.memory.specs.Frame.{MovesOnly}
use Rattle.dominance.specs.declared.Move.{Move}
use Rattle.upkeep.specs.Change.{AskedRows, UpkeptRows, moves_after}
use Rattle.upkeep.specs.declared.exchange.Exchange.{Exchange}
use Rattle.upkeep.specs.declared.exchange.Upkeep.{Upkeep}

unfoldable pub needed_rows : Upkeep → ℕ
needed_rows u = u.left + u.entered + cond u.listed 1 0

-- The counts are of moves on a board.
pub record Counted (u : Upkeep) : Type 0 where
  pub left : u.left ≤ 4096
  pub entered : u.entered ≤ 4096

-- A move that comes for one that goes has other costs.
pub record Other (c d n : ℕ) (k : Exchange) (m : List ℕ) : Type 0 where
  pub costs : ForSome k.coming (λ x. k.goes < n → costs_in c d m (number_in c m k.goes) ≡ x.costs → ⊥)

-- The notice of the change, by the lists before and after it.
unfoldable pub notice_by : ℕ → ℕ → ℕ → Exchange → List ℕ → List Row
notice_by c d n k m =
    let ms = moves_in (line_from c d n m) in
    notice_of (skyline d ms) (skyline d (moves_after d k ms))

-- What each change leaves of sound memory, blocks apart: the call's moves and tree, and every block as before.
pub record Moved (x : calls.Change) (m m' : List ℕ) (t : Tree) : Type 0 where
  pub stands : Stands m' (change_tree (dimension_in m) x t)
  pub moves : moves_in (line_in m') ≡ changed_moves (dimension_in m) x (moves_in (line_in m))
  pub only : MovesOnly (size_in m) m m'

pub record Made (x : calls.Change) (m m' : List ℕ) : Type 0 where
  pub kept : (t : Tree) → Stands m t → Moved x m m' t

-- The block says nothing of moves: any will do.
abbrev pub EnterMade : model.Move → List ℕ → List ℕ → Type 0
EnterMade x m m' = (block : ℕ) → Made (calls.enter x.number block x.costs) m m'

abbrev pub WithdrawMade : ℕ → ℕ → List ℕ → List ℕ → Type 0
WithdrawMade c p m = Made (calls.withdraw (number_in c m p)) m

abbrev pub RecostMade : model.Move → List ℕ → List ℕ → Type 0
RecostMade x m m' = (block : ℕ) → Made (calls.recost x.number block x.costs) m m'

-- A move comes and none goes; one goes and none comes; one comes for the one that goes, with other costs.
abbrev pub entering : ℕ → Move → Exchange
entering n x = record { goes = n; coming = Some x }

pub record ToEnter (c d n : ℕ) (x : Move) (u : Upkeep) (m : List ℕ) : Type 0 where
  pub asked : AskedRows c d n (entering n x) m
  pub space : n < c
  pub upkept : UpkeptRows c d n (entering n x) m u

pub record ToWithdraw (c d n p : ℕ) (u : Upkeep) (m : List ℕ) : Type 0 where
  pub asked : AskedRows c d n (record { goes = p; coming = None }) m
  pub place : p < n
  pub upkept : UpkeptRows c d n (record { goes = p; coming = None }) m u

pub record ToRecost (c d n p : ℕ) (x : Move) (u : Upkeep) (m : List ℕ) : Type 0 where
  pub asked : AskedRows c d n (record { goes = p; coming = Some x }) m
  pub place : p < n
  pub number : number_in c m p ≡ x.number
  pub other : costs_in c d m (number_in c m p) ≡ x.costs → ⊥
  pub upkept : UpkeptRows c d n (record { goes = p; coming = Some x }) m u

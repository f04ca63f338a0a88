-- The moves that no move beats, by places in Z-order.
use Rattle.std.specs.Prelude.{ℕ, ◌≤◌, ◌<◌, Bool, not, ◌&&◌, List, Option, unwrap_or, IfSome}
use Rattle.model.specs.Basics.{any}
use Rattle.model.specs.Moves.{Move}
use Rattle.promises.specs.Layout.{move_in}
use Rattle.memory.specs.Held.{moves_held}
use Rattle.memory.specs.Tests.{is_listed}
use Rattle.memory.specs.declared.head.Head.{Head}
use Rattle.search.specs.Search.{None, Some, SomeFound}
use Rattle.query.specs.Rule.{beats}
use Rattle.query.specs.declared.rule.Rule.{Rule}

-- Definitions 6 and 8, of one move.
unfoldable pub unbeaten : ℕ → Rule → List Move → Move → Bool
unbeaten d rule ms x = not (any (λ p. beats d rule p.costs x.costs) ms)

-- The same for the moves of a board.
abbrev pub unbeaten_of : Head → Rule → List ℕ → Move → Bool
unbeaten_of h rule m = unbeaten h.dimension rule (moves_held h m)

-- Whether the move at place j beats these costs.
abbrev pub beats_at : ℕ → ℕ → Rule → List ℕ → List ℕ → ℕ → Bool
beats_at c d rule m q j = beats d rule (move_in c d m j).costs q

abbrev pub listed_beats : ℕ → ℕ → Rule → List ℕ → List ℕ → ℕ → Bool
listed_beats c d rule m q j = is_listed c m j && beats_at c d rule m q j

-- A place with a move that beats these costs, or the number of moves where none does.
abbrev pub Beater : Head → Rule → List ℕ → List ℕ → ℕ → Type 0
Beater h rule m q = Some (beats_at h.size h.dimension rule m q) h.count

abbrev pub BeaterFound : Head → Rule → List ℕ → List ℕ → Option ℕ → Type 0
BeaterFound h rule m q = SomeFound (beats_at h.size h.dimension rule m q) h.count

-- The next place from j on, up to n, that is to be looked at: no listed move passed by beats these costs.
pub record NextRow (c d n : ℕ) (rule : Rule) (m q : List ℕ) (j r : ℕ) : Type 0 where
  pub from : j ≤ r
  pub to : r ≤ n
  pub passed : None (listed_beats c d rule m q) j r

abbrev pub Next : Head → Rule → List ℕ → List ℕ → ℕ → ℕ → Type 0
Next h = NextRow h.size h.dimension h.count

-- The same of a place or none: the end stands for none.
pub record NextFound (h : Head) (rule : Rule) (m q : List ℕ) (j : ℕ) (r : Option ℕ) : Type 0 where
  pub next : Next h rule m q j (unwrap_or r h.count)
  pub below : IfSome r (λ k. k < h.count)

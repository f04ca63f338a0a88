-- When one move beats another.
use Rattle.std.specs.Prelude.{ℕ, ◌≤◌, Bool, List}
use Rattle.model.specs.Dominance.{dominates_at, dominates_on}
use Rattle.model.specs.Lists.{chosen_costs}
use Rattle.query.specs.declared.rule.Rule.{Rule}
use Rattle.query.specs.declared.rule.Rule.TheVariants.{OnK, Chosen}

-- Definitions 5 and 7.
unfoldable pub beats : ℕ → Rule → List ℕ → List ℕ → Bool
beats d (OnK k) p q = dominates_on d k p q
beats d (Chosen set) p q = dominates_at (chosen_costs d set) p q

-- Dominance on no cost at all is not asked for.
unfoldable pub Fair : Rule → Type 0
Fair (OnK k) = 1 ≤ k
Fair (Chosen set) = Unit {0}

-- The tree that a change leaves.
use Rattle.std.specs.Prelude.{ℕ}
use Rattle.model.specs.Tree.{Tree}
use Rattle.model.specs.Entering.{enter_tree}
use Rattle.model.specs.Withdrawing.{withdraw_tree, recost_tree}
use Rattle.model.specs.Calls.{Change, enter, withdraw, recost}

unfoldable pub change_tree : ℕ → Change → Tree → Tree
change_tree d (enter n block costs) t = enter_tree d (record { number = n; costs = costs }) t
change_tree d (withdraw n) t = withdraw_tree d n t
change_tree d (recost n block costs) t = recost_tree d (record { number = n; costs = costs }) t

-- A node as a run of moves.
use Rattle.std.specs.Prelude.{List, ◌++◌, ◌≡◌}
use Rattle.model.specs.Moves.{Move}
use Rattle.model.specs.Nodes.{Node, node_of}

-- Entries that stand in a list one after another.
pub record RunOf {A : Type 0} (run whole : List A) : Type 0 where
  pub front : List A
  pub back : List A
  pub joined : whole ≡ front ++ (run ++ back)

-- A node made of a run of the moves.
pub record NodeIn (ms : List Move) (n : Node) : Type 0 where
  pub made : node_of n.under ≡ n
  pub run : RunOf n.under ms

-- `blocks::give_blocks` meets its contract. The loop's invariant is the contract of the rows from the place `left` on. Assumes
-- nothing.
use mathlib.Core.List.{map}
use lib.ListN.{drop}
use Rattle.promises.specs.Answers.{input_row}
use Rattle.loading.specs.Blocks.{BlocksGiven}
use Rattle.loading.proofs.blocks.give_blocks.Given as goal

abbrev pub invariant-loop-left : goal.invariant-loop-left
invariant-loop-left l = BlocksGiven l.c (drop l.left (map input_row l.rows)) l.initial.m l.m

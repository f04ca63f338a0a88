-- `judge::judge` meets its contract. The loop's invariant: the rows up to the place have passed. Assumes nothing.
use Rattle.loading.proofs.Judging.{Passed}
use Rattle.loading.proofs.judge.judge.Given as goal

abbrev pub invariant-loop-place : goal.invariant-loop-place
invariant-loop-place l = Passed l.c l.d l.rows l.seen l.place-counter

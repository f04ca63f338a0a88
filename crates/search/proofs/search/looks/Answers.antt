-- `search::looks` meets its contract. Assumes nothing.
use mathlib.Core.Bool.{not}
use mathlib.Core.Path.{sym, ap, ◌∙◌}
use Rattle.search.specs.Search.{looks}
use Rattle.search.specs.declared.search.Among.{Among}
use Rattle.search.proofs.search.looks.Goals as goal

pub returns-in-All : goal.returns-in-All
unfolding looks
returns-in-All c = let a = c.args in sym (ap (λ (l : Among). looks l a.c a.m.now a.number) c.in-All.is)

pub returns-in-Listed : goal.returns-in-Listed
unfolding looks
returns-in-Listed c =
    let a = c.args in
    c.is_listed.ensures ∙ sym (ap (λ (l : Among). looks l a.c a.m.now a.number) c.in-Listed.is)

pub returns-in-Hidden : goal.returns-in-Hidden
unfolding looks
returns-in-Hidden c =
    let a = c.args in
    ap not c.is_listed-in-Hidden.ensures ∙ sym (ap (λ (l : Among). looks l a.c a.m.now a.number) c.in-Hidden.is)

pub returns-in-InBlocks : goal.returns-in-InBlocks
unfolding looks
returns-in-InBlocks c =
    let a = c.args in
    c.in_blocks.ensures ∙ sym (ap (λ (l : Among). looks l a.c a.m.now a.number) c.in-InBlocks.is)

use mathlib.Core.Path.{◌≡◌, sym, ap, ◌∙◌}
use native.Mathlib.Omega.{arith}
use Rattle.model.proofs.Laws.Basics.{at_most_one}
use Rattle.search.specs.Columns.{count_to, column_fits, fitting}
use Rattle.search.specs.Laws.Counts.{count_none, count-more, count_most}
use Rattle.search.proofs.columns.fitting.Goals as goal

pub loop-j-init : goal.loop-j-init
loop-j-init c = let a = c.args in sym (count_none (column_fits a.w a.columns.now a.q))

pub overflow_add-fitting : goal.overflow_add-fitting
overflow_add-fitting c =
    let a = c.args in
    let own = c.loop-j in
    let test = column_fits a.w a.columns.now a.q in
    omega (arith, own.invariant, c.fits_column-fitting.ensures, count_most test own.j, at_most_one (test own.j))

pub loop-j-preserved : goal.loop-j-preserved
loop-j-preserved c =
    let a = c.args in
    let own = c.loop-j in
    let test = column_fits a.w a.columns.now a.q in
    omega (arith, own.invariant, c.fits_column-fitting.ensures, count-more test own.j)

pub returns : goal.returns
unfolding fitting
returns c =
    let a = c.args in
    let own = c.loop-j in
    let all : own.j ≡ 64 = omega arith in
    own.invariant ∙ ap (count_to (column_fits a.w a.columns.now a.q)) all

pub fits_column-fitting-requires : goal.fits_column-fitting-requires
fits_column-fitting-requires c = omega arith

use mathlib.Core.Path.{sym, ◌∙◌}
use native.Mathlib.Omega.{arith}
use Rattle.tree.specs.Laws.Raising.{raising-at, raising-low, raising-same, raising-more, raising-all}
use Rattle.tree.proofs.raise.raise_level.Goals.{else-l-height_at, then-l-height_at, then-starts_group, else-starts_group}
use Rattle.tree.proofs.raise.raise_level.Goals as goal

pub loop-i-preserved : goal.loop-i-preserved
loop-i-preserved c =
    let a = c.args in
    let own = c.loop-i in
    let read = c.height_at.ensures in
    let m = a.m.now in (
      elim c.if-l-height_at.branch [ then-l-height_at w ↦ omega arith | else-l-height_at w ↦ omega arith ],
      elim c.if-l-height_at.branch [
        | then-l-height_at w ↦ elim w.if-starts_group.branch [
          | then-starts_group v ↦
              raising-at w.j-is (w.m-is ∙ v.m-is ∙ v.set_height.ensures)
              (raising-more a.c a.n a.l a.entries own.i own.j m own.m (omega arith) own.invariant.1 (omega arith) (omega arith) (omega arith) (sym w.starts_group.ensures ∙ v.if-starts_group.true))
          | else-starts_group v ↦
              raising-at w.j-is (w.m-is ∙ v.m-is)
              (raising-same a.c a.n a.l a.entries own.i own.j m own.m (omega arith) own.invariant.1 (omega arith) (omega arith) (sym w.starts_group.ensures ∙ v.if-starts_group.false))
        ]
        | else-l-height_at w ↦ raising-at w.j-is w.m-is (raising-low a.c a.n a.l a.entries own.i own.j m own.m (omega arith) own.invariant.1 (omega arith) (omega arith))
      ],
    )

pub returns : goal.returns
returns c =
    let a = c.args in
    let own = c.loop-i in
    raising-all a.c a.n a.l a.entries own.i own.j a.m.now own.m (omega arith) own.invariant.1 (omega arith)

-- `stores::set_head` meets its contract. Assumes nothing.
use Prim.Native.Nat.{ℕ}
use mathlib.Core.List.{List}
use mathlib.Core.Path.{ap, ◌∙◌}
use native.Mathlib.Omega.{arith}
use lib.ListN.{length, set, length-set}
use Rattle.promises.specs.Layout.{set_word, format_number}
use Rattle.memory.specs.Stores.{set_head}
use Rattle.memory.specs.Laws.Stored.{set_head-frame}
use Rattle.memory.proofs.stores.set_head.Goals as goal

pub bounds-m-3 : goal.bounds-m-3
bounds-m-3 c = simp length-set (omega arith)

pub set_word-requires-2 : goal.set_word-requires-2
set_word-requires-2 c = simp length-set (omega arith)

pub returns : goal.returns
unfolding set_head
returns c =
    let a = c.args in
    c.set_word-2.ensures
    ∙ ap (λ (l : List ℕ). set_word 4 a.n (set (set l 2 a.d) 3 format_number)) c.set_word.ensures

pub shape_of-m : goal.shape_of-m
shape_of-m c =
    let a = c.args in
    ap length (returns c) ∙ (set_head-frame a.c a.d a.n a.m.now).length

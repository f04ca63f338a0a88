-- Memories that hold the same board and the same tree, as those do that agree on their bytes in use.
use Rattle.std.specs.Prelude.{ℕ, List, ◌⊎◌, ◌≡◌, refl}
use Rattle.std.proofs.Common.{inl, inr, ⊎_elim, sym, ◌∙◌, subst}
use Rattle.std.proofs.Math.Path.{ap}
use Rattle.model.specs.Tree.{Tree}
use Rattle.model.specs.Calls.{Board}
use Rattle.model.specs.Sound.{BlocksFit}
use Rattle.model.proofs.Laws.Bool.{by_cases, both_ways}
use Rattle.line.specs.Line.{heights_in}
use Rattle.line.specs.Heights.{heights_right}
use Rattle.promises.specs.Layout.{size_in, dimension_in, count_in, line_in, board_in}
use Rattle.promises.specs.Sound.{Stands, Sound, Holding}
use Rattle.promises.specs.Used.{SameInUse}
use Rattle.promises.specs.Run.{Bytes}
use Rattle.memory.specs.Tests.{head_right, numbers_right, order_right, flags_right}
use Rattle.soundness.specs.Laws.Decide.{sound-head, sound-numbers, sound-order, sound-heights, sound-flags, right-sound}
use Rattle.soundness.specs.Laws.Used.{used-board, used-alone}
use Rattle.soundness.specs.Laws.Front.{one-tree}

-- The same board, and the same trees stand in both. So either both are sound or neither is.
pub record Alike (m m' : List ℕ) : Type 0 where
  pub board : board_in m' ≡ board_in m
  pub trees : (t : Tree) → (Stands m t → Stands m' t) × (Stands m' t → Stands m t)

pub same_alike : (m : List ℕ) → Alike m m
same_alike m = record { board = refl; trees = λ t. (λ s. s, λ s. s) }

pub used-alike : (m m' : List ℕ) → SameInUse m m' → Alike m m'
used-alike m m' same = record { board = used-board m m' same; trees = used-alone m m' same }

pub holding-alike : {m m' : List ℕ} {b : Board} {t : Tree} → Holding m b t → Holding m' b t → Alike m m'
holding-alike {m} {m'} {b} {t} h h' =
    record {
      board = h'.board ∙ sym h.board;
      trees = λ u. (
        λ s. subst (Stands m') (one-tree m t u h.stands s) h'.stands,
        λ s. subst (Stands m) (one-tree m' t u h'.stands s) h.stands,
      );
    }

-- Memory is sound or not.
pub sound-or-not : (m : List ℕ) → Bytes m → Sound m ⊎ (Sound m → ⊥)
sound-or-not m b =
    by_cases (head_right m)
    (λ e.
    by_cases (numbers_right (size_in m) (count_in m) m)
    (λ f.
    by_cases (order_right (size_in m) (dimension_in m) (count_in m) m)
    (λ g.
    by_cases (heights_right (heights_in (line_in m)))
    (λ h.
    by_cases (flags_right (size_in m) (dimension_in m) (count_in m) m) (λ k. inl (right-sound m b e f g h k)) (λ k. inr (λ s. both_ways (sound-flags m b s) k)))
    (λ h. inr (λ s. both_ways (sound-heights m s) h)))
    (λ g. inr (λ s. both_ways (sound-order m s) g)))
    (λ f. inr (λ s. both_ways (sound-numbers m s) f)))
    (λ e. inr (λ s. both_ways (sound-head m s) e))

module _ {m n : List ℕ} (alike : Alike m n) where
  pub alike-dimension : dimension_in n ≡ dimension_in m
  unfolding board_in
  alike-dimension = ap (λ (b : Board). b.dimension) alike.board

  -- Where one is sound the other is, with the same tree.
  abbrev pub alike-sound : Sound m → Sound n
  alike-sound s = record { tree = s.tree; stands = (alike.trees s.tree).0 s.stands; blocks = subst BlocksFit (sym alike.board) s.blocks }

  sound-alike : Sound n → Sound m
  sound-alike s = record { tree = s.tree; stands = (alike.trees s.tree).1 s.stands; blocks = subst BlocksFit alike.board s.blocks }

  -- Both are sound, or neither is.
  pub by-soundness : {A : Type 0} → Bytes m → (Sound m → A) → ((Sound m → ⊥) → (Sound n → ⊥) → A) → A
  by-soundness bytes sound unsound = ⊎_elim sound (λ f. unsound f (λ s. f (sound-alike s))) (sound-or-not m bytes)

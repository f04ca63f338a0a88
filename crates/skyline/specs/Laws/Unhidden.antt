-- Listed moves that hide no other: what the loops over them keep, and that they decide it.
use Rattle.std.specs.Prelude.{ℕ, ◌+◌, ◌≤◌, ◌<◌, Bool, true, false, ◌&&◌, List, ◌≡◌, get_or, take}
use Rattle.std.proofs.Math.Bool.{not}
use Rattle.std.proofs.Common.{sym, ◌∙◌, subst, arith}
use Rattle.std.proofs.Math.Path.{ap}
use Rattle.std.proofs.Math.Decide.{ℕ_discrete, dec_lt}
use borrow.Author.Tests.{lt-ltb, le-ltb}
use Rattle.zorder.specs.Address.{row_costs}
use Rattle.model.specs.Dominance.{somewhere_less}
use Rattle.model.proofs.Laws.Bool.{by_cases, and_both, and-false-right}
use Rattle.promises.specs.Run.{Bytes}
use Rattle.memory.specs.Room.{Ordered}
use Rattle.memory.specs.Tests.{is_listed, hidden_at, listed_right}
use Rattle.search.specs.Search.{looks, looks_at, fits, bounds_at}
use Rattle.search.specs.Columns.{count_to, FittingColumn, NoneFits}
use Rattle.skyline.specs.Chunks.{listed, Gathered, NoneBefore, Unhidden, ListedHidden}
use Rattle.memory.specs.Laws.Places.{all_to-all, all_to-fails}
use Rattle.search.specs.Laws.Search.{bounds-lanes, tried-some}
use Rattle.skyline.specs.Laws.Chunks.{gathered-exceeds, gathered-none-fits, gathered-fits}
use Rattle.search.specs.Laws.Hiders.{hidden-at}
use Rattle.search.specs.declared.search.Among.TheVariants.{Listed}

-- ---- one listed move, held against those of a chunk

module _ (c d : ℕ) (m : List ℕ) (j : ℕ) (q : List ℕ) (e : q ≡ bounds_at c d m j) (a b : ℕ) (columns low : List ℕ) (g : Gathered c m a b columns low) where
  -- Their least costs exceed it.
  pub exceeds-none : somewhere_less (take row_costs q) (take row_costs low) ≡ true → NoneBefore c m (bounds_at c d m j) a b j
  exceeds-none over k l n before =
      gathered-exceeds c m a b columns low (bounds_at c d m j) g (bounds-lanes c d m j).wide q (λ i r. omega (arith, ap (λ (x : List ℕ). get_or x i 0) e)) over k l n

  -- None of the columns fits.
  pub columns-none : NoneFits columns q → NoneBefore c m (bounds_at c d m j) a b j
  columns-none none k l n before =
      gathered-none-fits c m a b columns low (bounds_at c d m j) g (bounds-lanes c d m j).wide (subst (NoneFits columns) e none) k l n

  -- One does.
  pub columns-some : Bytes m → count_to (listed c m) a < count_to (listed c m) b → b ≤ j → (n : ℕ) → j < n → listed c m j ≡ true → FittingColumn columns q
      → ListedHidden c d n m
  columns-some bytes some later n l t f = record {
    place = j;
    inside = l;
    shown = t;
    hider = gathered-fits c m a b columns low (bounds_at c d m j) g (bounds-lanes c d m j).wide bytes some j later (subst (FittingColumn columns) e f);
  }

-- ---- turns

module _ (c d : ℕ) (m : List ℕ) where
  pub unhidden-none : (a b i : ℕ) → Unhidden c d m a b i i
  unhidden-none a b i j l g = absurd (omega arith)

  pub unhidden-more : (a b i e : ℕ) → Unhidden c d m a b i e → (listed c m e ≡ true → NoneBefore c m (bounds_at c d m e) a b e) → Unhidden c d m a b i (e + 1)
  unhidden-more a b i e h g j l n t = go (ℕ_discrete j e)
    where
      go : Dec (j ≡ e) → NoneBefore c m (bounds_at c d m j) a b j
      go (yes same) = subst (λ (z : ℕ). NoneBefore c m (bounds_at c d m z) a b z) (sym same) (g (ap (listed c m) (sym same) ∙ t))
      go (no other) = h j l (omega arith) t

  pub unhidden-join : (a b i e n : ℕ) → Unhidden c d m a b i e → Unhidden c d m a b e n → Unhidden c d m a b i n
  unhidden-join a b i e n h g j l k t = go (dec_lt j e)
    where
      go : Dec (j < e) → NoneBefore c m (bounds_at c d m j) a b j
      go (yes before) = h j l before t
      go (no after) = g j (omega arith) k t

  -- One place more within a chunk.
  pub unhidden-within : (a e : ℕ) → Unhidden c d m a e a e → (listed c m e ≡ true → NoneBefore c m (bounds_at c d m e) a e e) → Unhidden c d m a (e + 1) a (e + 1)
  unhidden-within a e h g j l n t k s i before = go (ℕ_discrete j e)
    where
      go : Dec (j ≡ e) → fits Listed c m (bounds_at c d m j) k ≡ false
      go (yes same) =
          subst (λ (z : ℕ). fits Listed c m (bounds_at c d m z) k ≡ false) (sym same) (g (ap (listed c m) (sym same) ∙ t) k s (omega arith) (omega arith))
      go (no other) = h j l (omega arith) t k s (omega arith) before

  -- A chunk more, which hides none of its own moves and none that is later.
  pub unhidden-chunk : (n a b : ℕ) → Unhidden c d m 0 a 0 n → Unhidden c d m a b a b → Unhidden c d m a b b n → Unhidden c d m 0 b 0 n
  unhidden-chunk n a b h own later j l g t k z s before = go (dec_lt k a) (dec_lt j b)
    where
      go : Dec (k < a) → Dec (j < b) → fits Listed c m (bounds_at c d m j) k ≡ false
      go (yes passed) _ = h j l g t k z passed before
      go (no new) (yes within) = own j (omega arith) within t k (omega arith) s before
      go (no new) (no after) = later j (omega arith) g t k (omega arith) s before

-- ---- the end

module _ (c d n : ℕ) (m : List ℕ) (few : d ≤ row_costs) (b : Bytes m) (o : Ordered c d n m) where
  pub unhidden-right : Unhidden c d m 0 n 0 n → listed_right c d n m ≡ true
  unfolding listed_right looks_at looks is_listed
  unhidden-right h =
      all_to-all (λ i. not (is_listed c m i && hidden_at c d m i)) n
      (λ j l. ap not
      (by_cases (is_listed c m j)
      (λ t. and-false-right (is_listed c m j) (hidden_at c d m j)
      (hidden-at c d m few b n o j j l (record { to = omega arith; found = λ g. absurd (omega arith); none = λ g k z s. h j (omega arith) l t k z (omega arith) s }) ∙ le-ltb j j (omega arith)))
      (λ t. ap (λ (x : Bool). x && hidden_at c d m j) t)))

  pub hidden-wrong : ListedHidden c d n m → listed_right c d n m ≡ false
  unfolding listed_right looks_at looks is_listed
  hidden-wrong s =
      all_to-fails (λ i. not (is_listed c m i && hidden_at c d m i)) n s.place s.inside
      (ap not
      (and_both (is_listed c m s.place) (hidden_at c d m s.place) s.shown
      (hidden-at c d m few b n o s.place s.hider.place s.inside (tried-some s.hider.earlier s.hider.fitting)
      ∙ lt-ltb s.hider.place s.place s.hider.earlier)))

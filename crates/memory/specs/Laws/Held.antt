-- What sound memory gives of its rows, its flags and its moves, for its own c, d and n.
use Rattle.std.specs.Prelude.{ℕ, zero, suc, ◌≤◌, ◌<◌, true, false, ◌&&◌, ◌≡◌, refl, length, get_or}
use Rattle.std.proofs.Math.Bool.{Bool, not}
use mathlib.Core.List.{List, [], ◌∷◌, map}
use Rattle.std.proofs.Math.Path.{sym, ap}
use Rattle.std.proofs.Common.{◌∙◌, subst, le_of_suc-le-suc, arith}
use Rattle.std.proofs.lemmas.Bool.{eqb-false}
use Rattle.std.proofs.Math.Dec.{eqb}
use Rattle.zorder.specs.Between.{row_costs}
use Rattle.model.specs.Basics.{Each, any, distinct, has}
use Rattle.model.specs.Moves.{Move, ordered}
use Rattle.model.specs.Dominance.{dominates, hides}
use Rattle.model.specs.Lists.{hidden, skyline}
use Rattle.model.specs.Calls.{memory_need}
use Rattle.model.specs.Sound.{Fit}
use Rattle.model.specs.Tree.{Tree, moves_of}
use Rattle.model.proofs.Laws.Loading.{size-most}
use Rattle.model.proofs.Laws.Bool.{and_left, and_right, not_back}
use Rattle.model.proofs.Laws.Hiding.{dominates-hides, move-hiding}
use Rattle.model.proofs.Laws.Basics.{mem-at, select-same, each-mem, any_false, any-select}
use Rattle.line.specs.Line.{Placed, line_of, moves_in}
use Rattle.line.specs.Laws.Line.{moves-line}
use Rattle.promises.specs.Layout.{size_in, dimension_in, count_in, number_in, flag_in, move_in, placed_in, tab, line_from, line_in, board_in, kept_from, kept_in}
use Rattle.promises.specs.Sound.{Stands}
use Rattle.promises.specs.Run.{Bytes}
use Rattle.promises.proofs.Laws.Stands.{stands-dimension, stands-moves, stands-order, stands-fit, stands-once}
use Rattle.memory.specs.Room.{Room, Numbers, ReadableRows, Ordered}
use Rattle.memory.specs.Held.{SoundRows}
use Rattle.memory.specs.Tests.{any_to, is_listed}
use Rattle.promises.proofs.Laws.Tab.{length-tab, get_or-tab, map-tab}
use Rattle.memory.specs.Laws.Places.{tab-each, any-tab, any_to-found}
use Rattle.memory.specs.Laws.Lines.{moves_in-line, line_in-line}
use Rattle.memory.specs.Laws.Ordered.{line-ordered, ordered-place}

no_other : (n : ℕ) (ns : List ℕ) → has n ns ≡ false → (i : ℕ) → i < length ns → n ≡ get_or ns i 0 → ⊥
unfolding has
no_other n ns r i h =
    eqb-false n (get_or ns i 0) (each-mem (λ x. eqb n x ≡ false) (any_false (eqb n) ns r) (mem-at ns 0 i h))

distinct-places : (ns : List ℕ) → distinct ns ≡ true → (i j : ℕ) → i < length ns → j < length ns → get_or ns i 0 ≡ get_or ns j 0 → i ≡ j
unfolding distinct
distinct-places [] r i j h k e = absurd (omega arith)
distinct-places (n ∷ ns) r zero zero h k e = refl
distinct-places (n ∷ ns) r zero (suc j) h k e =
    absurd (no_other n ns (not_back (has n ns) (and_left (not (has n ns)) (distinct ns) r)) j (le_of_suc-le-suc k) e)
distinct-places (n ∷ ns) r (suc i) zero h k e =
    absurd (no_other n ns (not_back (has n ns) (and_left (not (has n ns)) (distinct ns) r)) i (le_of_suc-le-suc h) (sym e))
distinct-places (n ∷ ns) r (suc i) (suc j) h k e =
    ap suc (distinct-places ns (and_right (not (has n ns)) (distinct ns) r) i j (le_of_suc-le-suc h) (le_of_suc-le-suc k) e)

module _ (c d n : ℕ) (m : List ℕ) (s : SoundRows c d n m) where
  own : (P : ℕ → ℕ → ℕ → Type 0) → P (size_in m) (dimension_in m) (count_in m) → P c d n
  own P x =
      subst (λ (k : ℕ). P k d n) (sym s.size)
      (subst (λ (k : ℕ). P (size_in m) k n) (sym s.dimension)
      (subst (λ (k : ℕ). P (size_in m) (dimension_in m) k) (sym s.count) x))

  stands : Stands m s.sound.tree
  stands = s.sound.stands

  pub held-dimension : d ≤ row_costs
  held-dimension = own (λ _ d _. d ≤ row_costs) (stands-dimension m s.sound.tree stands)

  pub held-room : Room c m
  unfolding memory_need
  held-room = own (λ c _ _. Room c m) (stands.room, size-most (size_in m) stands.size)

  pub held-few : n ≤ c
  held-few = own (λ c _ n. n ≤ c) stands.count

  pub held-numbers : Numbers c n m
  unfolding line_in line_from placed_in move_in
  held-numbers =
      own (λ c _ n. Numbers c n m)
      (λ i h. tab-each (placed_in (size_in m) (dimension_in m) m) (λ (r : Placed). r.move.number < size_in m) (count_in m) i h stands.numbers)

  -- The line is that of every tree that stands there.
  pub held-line : (t : Tree) → Stands m t → line_from c d n m ≡ line_of t
  held-line t x = sym (line_in-line c d n m (sym s.size) (sym s.dimension) (sym s.count)) ∙ x.line

  pub held-moves : (t : Tree) → Stands m t → moves_in (line_from c d n m) ≡ moves_of t
  held-moves t x = ap moves_in (held-line t x) ∙ moves-line t

  pub held-order : ordered d (moves_in (line_from c d n m)) ≡ true
  unfolding board_in line_in
  held-order = own (λ c d n. ordered d (moves_in (line_from c d n m)) ≡ true) (stands-order m s.sound.tree stands)

  pub held-ordered : Ordered c d n m
  held-ordered = line-ordered c d n m held-order

  pub held_kept : kept_from c m (moves_in (line_from c d n m)) ≡ skyline d (moves_in (line_from c d n m))
  unfolding board_in line_in kept_in
  held_kept =
      own (λ c d n. kept_from c m (moves_in (line_from c d n m)) ≡ skyline d (moves_in (line_from c d n m)))
      (stands.kept ∙ ap (skyline (dimension_in m)) (stands-moves m s.sound.tree stands))

  -- A test of the listed moves, by their places.
  pub held_any : (p : Move → Bool) → any p (skyline d (moves_in (line_from c d n m))) ≡ any_to (λ i. is_listed c m i && p (move_in c d m i)) n
  unfolding is_listed kept_from move_in
  held_any p =
      ap (any p) (sym held_kept)
      ∙ any-select p listed (moves_in (line_from c d n m))
      ∙ ap (any (λ x. listed x && p x)) (moves_in-line c d n m)
      ∙ any-tab (move_in c d m) (λ x. listed x && p x) n
    where
      listed : Move → Bool
      listed x = eqb (flag_in c m x.number) 1

  -- The flags say who is in the list.
  pub held-listed : (i : ℕ) → i < n → is_listed c m i ≡ not (hidden d (moves_in (line_from c d n m)) (move_in c d m i))
  unfolding is_listed kept_from skyline move_in
  held-listed i h =
      tab-each (move_in c d m) Right n i h (subst (Each Right) (moves_in-line c d n m) (select-same _ _ (moves_in (line_from c d n m)) held_kept))
    where
      Right : Move → Type 0
      Right x = eqb (flag_in c m x.number) 1 ≡ not (hidden d (moves_in (line_from c d n m)) x)

  module _ (b : Bytes m) where
    pub held-fit : Each (Fit c d) (moves_in (line_from c d n m))
    unfolding board_in line_in
    held-fit = own (λ c d n. Each (Fit c d) (moves_in (line_from c d n m))) (stands-fit m s.sound.tree stands b)

    pub held-fit-at : (i : ℕ) → i < n → Fit c d (move_in c d m i)
    held-fit-at i h = tab-each (move_in c d m) (Fit c d) n i h (subst (Each (Fit c d)) (moves_in-line c d n m) held-fit)

    pub held-distinct : distinct (map (λ x. x.number) (moves_in (line_from c d n m))) ≡ true
    unfolding board_in line_in
    held-distinct =
        own (λ c d n. distinct (map (λ x. x.number) (moves_in (line_from c d n m))) ≡ true) (stands-once m s.sound.tree stands b)

    -- No number stands at two places.
    pub held-once : (i j : ℕ) → i < n → j < n → number_in c m i ≡ number_in c m j → i ≡ j
    unfolding move_in
    held-once i j h k e =
        distinct-places (tab (number_in c m) n)
        (subst (λ (ns : List ℕ). distinct ns ≡ true)
        (ap (map (λ x. x.number)) (moves_in-line c d n m) ∙ map-tab (λ (x : Move). x.number) (move_in c d m) n) held-distinct)
        i j
        (omega (arith, length-tab (number_in c m) n))
        (omega (arith, length-tab (number_in c m) n))
        (get_or-tab (number_in c m) 0 n i h ∙ e ∙ sym (get_or-tab (number_in c m) 0 n j k))

-- What the move at place i dominates is hidden, and stands after it.
module _ (c d n : ℕ) (m : List ℕ) (s : SoundRows c d n m) (i j : ℕ) (l : i < n) (k : j < n) (e : dominates d (move_in c d m i).costs (move_in c d m j).costs ≡ true) where
  pub dominated-hidden : is_listed c m j ≡ false
  unfolding hidden
  dominated-hidden =
      held-listed c d n m s j k
      ∙ ap not
      (ap (λ (ms : List Move). hidden d ms (move_in c d m j)) (moves_in-line c d n m)
      ∙ any-tab (move_in c d m) (λ p. hides d p (move_in c d m j)) n
      ∙ any_to-found (λ p. hides d (move_in c d m p) (move_in c d m j)) n i l (dominates-hides d (move_in c d m i) (move_in c d m j) e))

  pub dominated-after : Bytes m → i < j
  dominated-after b =
      ordered-place c d n m (held-ordered c d n m s) j i l
      ((move-hiding d c (held-dimension c d n m s)).earlier (move_in c d m i) (move_in c d m j) (held-fit-at c d n m s b i l) (held-fit-at c d n m s b j k)
      (dominates-hides d (move_in c d m i) (move_in c d m j) e))

-- Sound memory can be read.
pub held-readable : {c d n : ℕ} {m : List ℕ} → SoundRows c d n m → ReadableRows c d n m
held-readable {c} {d} {n} {m} s =
    record { room = held-room c d n m s; rows = held-few c d n m s; numbers = held-numbers c d n m s; dimension = held-dimension c d n m s }

-- Where rows can be read, fewer of them can.
pub fewer-readable : {c d n e : ℕ} {m : List ℕ} → ReadableRows c d n m → e ≤ n → ReadableRows c d e m
fewer-readable r h = record { room = r.room; rows = omega (arith, r.rows); numbers = λ i l. r.numbers i (omega arith); dimension = r.dimension }

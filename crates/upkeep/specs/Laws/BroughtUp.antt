-- Where a listed move goes: the nodes that the search opens are those that document 02 counts (Card 1), and whoever enters lies
-- under opened nodes only.
use Prim.Native.Nat.{ℕ, ◌+◌, ◌<◌}
use Rattle.std.proofs.Math.Bool.{Bool, not, cond}
use Rattle.std.specs.Prelude.{true, false, ◌&&◌, ◌||◌, ◌≡◌, refl, take}
use mathlib.Core.List.Memᴰ
use mathlib.Core.List.{List, Memᴰ}
use Rattle.std.proofs.Math.Path.{sym, ap, ap₂}
use Rattle.std.proofs.Common.{◌∙◌, subst, arith}
use borrow.Author.Tests.{eqb-true, eq-eqb, lt-leb}
use Rattle.std.proofs.Math.Dec.{eqb}
use Rattle.model.specs.Basics.{any, count, numbers_from}
use Rattle.model.specs.Moves.{Move}
use Rattle.model.specs.Dominance.{nowhere_greater, dominates, equal_costs, hides}
use Rattle.model.specs.Lists.{hidden, skyline}
use Rattle.model.specs.Tree.{Tree, moves_of}
use Rattle.model.specs.Nodes.{Node, nodes_of, near_corner_of, far_corner_of, opens}
use Rattle.model.specs.Withdrawing.{without, costs_on}
use Rattle.model.specs.Calls.{on_board}
use Rattle.model.specs.Opening.{opens_for, withdraw_opens}
use Rattle.model.proofs.Laws.Bool.{by_cases, same_test, both_ways, and_both, and_left, and_right, not_back}
use Rattle.model.proofs.Laws.Basics.{mem-each, any-mem, any-witness, any-select, count-ext}
use Rattle.model.proofs.Laws.Dominance.{row-lengths}
use Rattle.model.proofs.Laws.Order.{distinct-select, costs-on-own}
use Rattle.model.proofs.Laws.Skyline.{skyline-mem, mem-skyline}
use Rattle.model.proofs.Laws.Changes.{mem-without}
use Rattle.model.specs.Runs.{NodeIn}
use Rattle.model.proofs.Laws.Nodes.{node-near, node-far}
use Rattle.model.proofs.Laws.Opening.{dominates-or-equals, far-corner-row, brought-up-counts}
use Rattle.line.specs.Line.{moves_in}
use Rattle.line.specs.Search.{opened_past}
use Rattle.promises.specs.Layout.{number_in, move_in, line_from}
use Rattle.promises.specs.Sound.{Stands}
use Rattle.promises.specs.Run.{Bytes}
use Rattle.memory.specs.Held.{SoundRows}
use Rattle.memory.specs.Tests.{any_to, is_listed}
use Rattle.memory.specs.Laws.Places.{any_to-ext}
use Rattle.memory.specs.Laws.Lines.{move_at-line}
use Rattle.memory.specs.Laws.Held.{held-dimension, held-moves, held-order, held_any, held-listed, held-fit, held-fit-at, held-distinct}
use Rattle.nodes.specs.Search.{corner_dominated, goes_within, opens_at, Passed, LeafRows}
use Rattle.nodes.specs.Laws.Search.{Counting, counting-all, opened-nodes}
use Rattle.nodes.specs.declared.nodes.Leaf.{Leaf}
use Rattle.upkeep.specs.Change.{goes_listed, hidden_by_others, hidden_by_coming, comes_up, enters_at, Passing, Entering}
use Rattle.upkeep.specs.Laws.Places.{place-below, below-place, any_to-places}
use Rattle.upkeep.specs.Laws.Change.{line-places, others-hide, same-place, rest-without, goes-on-board, goes-flagged, goes-unflagged, enters_none}
use Rattle.upkeep.specs.Laws.Passing.{none_passes, passing-join, passing-skip}
use Rattle.upkeep.specs.declared.exchange.Exchange.{Exchange}
use Rattle.upkeep.specs.declared.entering.Entered.{Entered}

module _ (c d n : ℕ) (m : List ℕ) (s : SoundRows c d n m) (b : Bytes m) where
  abbrev before : List Move
  before = moves_in (line_from c d n m)

  on_line : (i : ℕ) → i < n → Memᴰ (move_in c d m i) before
  on_line i l = subst (Memᴰ (move_in c d m i)) (sym (line-places c d n m)) (Memᴰ.map (move_in c d m) (below-place n i l))

  module _ (g : ℕ) (l : g < n) where
    abbrev number : ℕ
    number = number_in c m g

    -- The flag says whether the number is in the list.
    number-listed : on_board number (skyline d before) ≡ is_listed c m g
    unfolding on_board move_in
    number-listed =
        held_any c d n m s (λ x. eqb x.number number)
        ∙ any_to-places here n
        ∙ same_test (any here (numbers_from 0 n)) (is_listed c m g)
        (λ e. let w = any-witness here (numbers_from 0 n) e in
        let at = eqb-true w.0 g (same-place c d n m s b w.0 g (place-below n w.1) l ∙ and_right (is_listed c m w.0) (eqb (number_in c m w.0) number) w.2) in
        ap (is_listed c m) (sym at) ∙ and_left (is_listed c m w.0) (eqb (number_in c m w.0) number) w.2)
        (λ e. any-mem here (below-place n g l) (and_both (is_listed c m g) (eqb number number) e (eq-eqb number number refl)))
      where
        here : ℕ → Bool
        here i = is_listed c m i && eqb (number_in c m i) number

    -- The others in the list are those at other places.
    others-listed : (p : Move → Bool) → any p (without number (skyline d before)) ≡ any_to (λ i. is_listed c m i && (not (eqb i g) && p (move_in c d m i))) n
    unfolding without move_in
    others-listed p =
        any-select p (λ x. not (eqb x.number number)) (skyline d before)
        ∙ held_any c d n m s (λ x. not (eqb x.number number) && p x)
        ∙ any_to-ext (λ i. is_listed c m i && (not (eqb (number_in c m i) number) && p (move_in c d m i))) (λ i. is_listed c m i && (not (eqb i g) && p (move_in c d m i))) n
        (λ i h. ap (λ (t : Bool). is_listed c m i && (not t && p (move_in c d m i))) (sym (same-place c d n m s b i g h l)))

    module _ (e : is_listed c m g ≡ true) where
      in_list : Memᴰ (move_in c d m g) (skyline d before)
      in_list = mem-skyline d (on_line g l) (not_back (hidden d before (move_in c d m g)) (sym (held-listed c d n m s g l) ∙ e))

      own-costs : costs_on number (skyline d before) ≡ (move_in c d m g).costs
      unfolding skyline move_in
      own-costs = costs-on-own (skyline d before) (distinct-select (λ x. x.number) (λ x. not (hidden d before x)) before (held-distinct c d n m s b)) in_list

      within-counts : (z : Node)
          → goes_within c d g n m (far_corner_of d z) ≡ (dominates d (costs_on number (skyline d before)) (far_corner_of d z) || equal_costs d (costs_on number (skyline d before)) (far_corner_of d z))
      unfolding goes_within
      within-counts z =
          let far = far_corner_of d z in
          ap (λ (t : Bool). t || nowhere_greater (take d (move_in c d m g).costs) (take d far)) (lt-leb n g l)
          ∙ sym (dominates-or-equals d (move_in c d m g).costs far (row-lengths (held-fit-at c d n m s b g l).costs (far-corner-row d z (held-dimension c d n m s))))
          ∙ ap (λ (x : List ℕ). dominates d x far || equal_costs d x far) (sym own-costs)

      -- The search opens the nodes that are counted.
      pub opens-counts : (z : Node) → opens_at c d g n m z ≡ opens_for d (skyline d (moves_in (line_from c d n m))) (number_in c m g) z
      unfolding opens_at opens_for opens corner_dominated
      opens-counts z =
          ap₂ (λ (t u : Bool). t && not u) (within-counts z) (sym (others-listed (λ x. dominates d x.costs (near_corner_of d z))))

      pub opened-counts : (t : Tree) → Stands m t → opened_past (opens_at c d g n m) (line_from c d n m) 0 ≡ withdraw_opens d (number_in c m g) t
      unfolding withdraw_opens
      opened-counts t x =
          opened-nodes g s t x
          ∙ count-ext (opens_at c d g n m) (opens_for d (skyline d before) number) (nodes_of t)
          (mem-each (λ z. opens_at c d g n m z ≡ opens_for d (skyline d before) number z) (nodes_of t) (λ z _. opens-counts z))
          ∙ sym (ap (λ (t' : Bool). cond t' (count (opens_for d (skyline d before) number) (nodes_of t)) 0) (number-listed ∙ e))
          ∙ ap (λ (ms : List Move). cond (on_board number (skyline d ms)) (count (opens_for d (skyline d ms) number) (nodes_of t)) 0) (held-moves c d n m s t x)

    -- A move that is not listed opens none.
    pub unlisted-counts : is_listed c m g ≡ false → (t : Tree) → Stands m t → 0 ≡ withdraw_opens d (number_in c m g) t
    unfolding withdraw_opens
    unlisted-counts e t x =
        sym (ap (λ (u : Bool). cond u (count (opens_for d (skyline d (moves_of t)) number) (nodes_of t)) 0)
        (ap (λ (ms : List Move). on_board number (skyline d ms)) (sym (held-moves c d n m s t x)) ∙ number-listed ∙ e))

  module _ (k : Exchange) (j : ℕ) (h : j < n) (e : enters_at c d n k m j ≡ true) where
    abbrev g : ℕ
    g = k.goes

    abbrev x : Move
    x = move_in c d m j

    abbrev goes-hides : Bool
    goes-hides = goes_listed c n g m && hides d (move_in c d m g) x

    unlisted : is_listed c m j ≡ false
    unfolding enters_at
    unlisted = not_back (is_listed c m j) (and_left (not (is_listed c m j)) (not (eqb j g) && comes_up c d n k x m) e)

    elsewhere : (not (eqb j g) && comes_up c d n k x m) ≡ true
    unfolding enters_at
    elsewhere = and_right (not (is_listed c m j)) (not (eqb j g) && comes_up c d n k x m) e

    came : (goes-hides && not (hidden_by_coming d k x) && not (hidden_by_others c d n g x m)) ≡ true
    unfolding comes_up
    came = and_right (not (eqb j g)) (comes_up c d n k x m) elsewhere

    goes : goes_listed c n g m ≡ true
    goes =
        and_left (goes_listed c n g m) (hides d (move_in c d m g) x)
        (and_left goes-hides (not (hidden_by_coming d k x)) (and_left (goes-hides && not (hidden_by_coming d k x)) (not (hidden_by_others c d n g x m)) came))

    on-board : g < n
    on-board = goes-on-board c n g m goes

    others-hide-not : hidden d (without (number_in c m g) before) x ≡ false
    others-hide-not =
        ap (λ (ms : List Move). hidden d ms x) (sym (rest-without c d n g m s b on-board))
        ∙ sym (others-hide c d n m g x)
        ∙ not_back (hidden_by_others c d n g x m) (and_right (goes-hides && not (hidden_by_coming d k x)) (not (hidden_by_others c d n g x m)) came)

    listed-then : Memᴰ x (skyline d (without (number_in c m g) before))
    unfolding move_in
    listed-then =
        mem-skyline d
        (mem-without (number_in c m g) (on_line j h) (sym (same-place c d n m s b j g h on-board) ∙ not_back (eqb j g) (and_left (not (eqb j g)) (comes_up c d n k x m) elsewhere)))
        others-hide-not

    not-now : Memᴰ x (skyline d before) → ⊥
    not-now i = both_ways (held-listed c d n m s j h ∙ ap not (skyline-mem d before i).1) unlisted

    -- Whoever enters lies under opened nodes only.
    pub enters-opened : (z : Node) → NodeIn (moves_in (line_from c d n m)) z → Memᴰ (move_in c d m j) z.under → opens_at c d k.goes n m z ≡ true
    enters-opened z i under =
        let l = held-dimension c d n m s in
        let fits = held-fit c d n m s b in
        let order = held-order c d n m s in
        opens-counts g on-board (goes-flagged c n g m goes) z
        ∙ brought-up-counts d c l before fits order (number_in c m g) listed-then not-now (held-distinct c d n m s b) z
        (node-near d c l before fits order i under) (node-far d c l before fits order i under)

  -- So where a node is passed by, none enters.
  pub passed-enters-not : (k : Exchange) (j : ℕ) → j < n → Passed (opens_at c d k.goes n m) (line_from c d n m) j → enters_at c d n k m j ≡ false
  passed-enters-not k j h p =
      by_cases (enters_at c d n k m j)
      (λ e. both_ways (enters-opened k j h e p.node p.within (subst (λ (x : Move). Memᴰ x p.node.under) (move_at-line c d n m j h) p.under)) p.unopened)
      (λ e. e)

  -- ---- leaf after leaf

  -- The places up to the next leaf add nothing.
  pub leaf-enters : (k : Exchange) {ws ws' ws'' : List ℕ} {i entered entered' : ℕ} (r : Leaf)
      → Passing c m (enters_at c d n k m) ws 0 i ws' entered
      → LeafRows c d k.goes n m i r
      → Passing c m (enters_at c d n k m) ws' r.start r.end ws'' entered'
      → Passing c m (enters_at c d n k m) ws 0 r.end ws'' (entered + entered')
  leaf-enters k {entered = entered} {entered'} r found leaf more =
      passing-join c m (enters_at c d n k m)
      (passing-skip c m (enters_at c d n k m) found (omega arith) leaf.next.from
      (λ j a l. passed-enters-not k j (omega (arith, leaf.next.order, leaf.after.within)) (leaf.next.passed j a l)))
      more (omega arith) leaf.next.order (entered + entered') refl

  pub entering-all : (k : Exchange) {ws ws' : List ℕ} {i : ℕ} (r : Entered) → goes_listed c n k.goes m ≡ true → i ≡ n
      → Passing c m (enters_at c d n k m) ws 0 i ws' r.count
      → Counting c d k.goes n m r.opened i
      → Entering c d n k m ws ws' r
  entering-all k {ws} {ws'} {i} r e all found counted =
      record {
        moves = subst (λ (j : ℕ). Passing c m (enters_at c d n k m) ws 0 j ws' r.count) all found;
        opened = λ l t x. counting-all r.opened i counted (omega arith) ∙ opened-counts k.goes l (goes-flagged c n k.goes m e) t x;
      }

  -- No listed move goes.
  pub entering-none : (k : Exchange) (ws : List ℕ) → goes_listed c n k.goes m ≡ false → Entering c d n k m ws ws (record { count = 0; opened = 0 })
  entering-none k ws e =
      record {
        moves = none_passes c m (enters_at c d n k m) ws 0 n (λ i _ _. enters_none c d n k m i e);
        opened = λ l. unlisted-counts k.goes l (goes-unflagged c n k.goes m e l);
      }

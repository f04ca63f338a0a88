-- What withdrawing makes of a node: the entry that holds the move goes or is changed, the others stay.
use Prim.Native.Nat.{ℕ, zero, suc, ◌+◌, ◌≤◌, ◌<◌}
use Rattle.std.specs.Prelude.{Bool, true, false, cond, ◌≡◌, eqb, length}
use Rattle.std.proofs.Math.Bool.{not}
use mathlib.Core.List.Permᴰ
use mathlib.Core.List.{List, [], ◌∷◌, ◌++◌, flat_map, append_assoc, append-nil, Permᴰ}
use Rattle.std.proofs.Math.Path.{refl, ap, ap₂}
use Rattle.std.proofs.Common.{sym, ◌∙◌, subst₂, arith, lt-ltb, le-ltb}
use Rattle.model.specs.Basics.{Each, cons_if, select, count}
use Rattle.model.specs.Moves.{Move}
use Rattle.model.specs.Tree.{Entry, moves_under}
use Rattle.model.specs.Withdrawing.{without, Remainder, keep_child, keep_children, withdraw_node}
use Rattle.model.proofs.Laws.Bool.{not-flip}
use Rattle.model.proofs.Laws.Basics.{each-mono, count-append, select-append, select-all}
use Rattle.model.proofs.Laws.Tree.{moves-append, Filled, filled-full}

perm-swap : {A : Type 0} (xs ys : List A) → Permᴰ (xs ++ ys) (ys ++ xs)
perm-swap [] ys = Permᴰ.symm (Permᴰ.append-nil ys)
perm-swap (x ∷ xs) ys = Permᴰ.trans (Permᴰ.cons refl (perm-swap xs ys)) (Permᴰ.symm (Permᴰ.middle x ys xs))

module _ (n : ℕ) where
  abbrev pub numbered : Move → Bool
  numbered m = eqb m.number n

  -- How many moves of the number lie under an entry.
  unfoldable pub holds : (h : ℕ) → Entry h → ℕ
  holds h e = count numbered (moves_under h e)

  pub holds-cons : (h : ℕ) (e : Entry h) (es : List (Entry h)) → holds (suc h) (e ∷ es) ≡ holds h e + holds (suc h) es
  unfolding holds moves_under flat_map
  holds-cons h e es = count-append numbered (moves_under h e) (moves_under (suc h) es)

  -- One entry of a node, put before what is left of the others.
  unfoldable pub withdraw_entry : (h : ℕ) → Entry h → Remainder h → Remainder h
  withdraw_entry zero m rest = record { entries = cons_if (not (numbered m)) m rest.entries; moves = rest.moves }
  withdraw_entry (suc h) c rest = keep_child h (withdraw_node n h c) rest

  withdraw-nil : (h : ℕ) → withdraw_node n h [] ≡ record { entries = []; moves = [] }
  unfolding withdraw_node keep_children without select
  withdraw-nil zero = refl
  withdraw-nil (suc h) = refl

  withdraw-cons : (h : ℕ) (e : Entry h) (es : List (Entry h)) → withdraw_node n h (e ∷ es) ≡ withdraw_entry h e (withdraw_node n h es)
  unfolding withdraw_node keep_children without select withdraw_entry
  withdraw-cons zero m ms = refl
  withdraw-cons (suc h) c cs = refl

  -- An entry gives way to the entries c, and the moves ms are taken out.
  abbrev pub Becomes : (h : ℕ) → Entry h → List (Entry h) → List Move → Type 0
  Becomes h e c ms = (rest : Remainder h) → withdraw_entry h e rest ≡ record { entries = c ++ rest.entries; moves = ms ++ rest.moves }

  abbrev pub Stays : (h : ℕ) → Entry h → Type 0
  Stays h e = Becomes h e (e ∷ []) []

  module _ (h : ℕ) where
    all_stay : (es : List (Entry h)) → Each (Stays h) es → withdraw_node n h es ≡ record { entries = es; moves = [] }
    all_stay [] s = withdraw-nil h
    all_stay (e ∷ es) (s, ss) =
        withdraw-cons h e es
        ∙ s (withdraw_node n h es)
        ∙ ap (λ (l : Remainder h). record { entries = e ∷ l.entries; moves = l.moves }) (all_stay es ss)

    pub one-becomes : (front back c : List (Entry h)) (e : Entry h) (ms : List Move) → Each (Stays h) front → Each (Stays h) back
        → Becomes h e c ms → withdraw_node n h (front ++ e ∷ back) ≡ record { entries = front ++ (c ++ back); moves = ms }
    one-becomes [] back c e ms s t b =
        withdraw-cons h e back
        ∙ b (withdraw_node n h back)
        ∙ ap (λ (l : Remainder h). record { entries = c ++ l.entries; moves = ms ++ l.moves }) (all_stay back t)
        ∙ ap (λ (ns : List Move). record { entries = c ++ back; moves = ns }) (append-nil ms)
    one-becomes (f ∷ front) back c e ms (s, ss) t b =
        withdraw-cons h f (front ++ e ∷ back)
        ∙ s (withdraw_node n h (front ++ e ∷ back))
        ∙ ap (λ (l : Remainder h). record { entries = f ∷ l.entries; moves = l.moves }) (one-becomes front back c e ms ss t b)

    -- A node by what is left of it.
    module _ (es c : List (Entry h)) (ms : List Move) (w : withdraw_node n h es ≡ record { entries = c; moves = ms }) where
      abbrev kept : Remainder (suc h) → Bool → Remainder (suc h)
      kept rest few =
          cond few (record { entries = rest.entries; moves = moves_under (suc h) c ++ ms ++ rest.moves })
          (record { entries = c ∷ rest.entries; moves = ms ++ rest.moves })

      pub node-goes : length c < 3 → Becomes (suc h) es [] (moves_under (suc h) c ++ ms)
      unfolding withdraw_entry keep_child
      node-goes l rest = ap (λ (x : Remainder h). keep_child h x rest) w ∙ ap (kept rest) (lt-ltb (length c) 3 l)

      pub node_stays : 3 ≤ length c → Becomes (suc h) es (c ∷ []) ms
      unfolding withdraw_entry keep_child
      node_stays l rest = ap (λ (x : Remainder h). keep_child h x rest) w ∙ ap (kept rest) (le-ltb (length c) 3 l)

  -- ---- entries that do not hold the move

  none_in : (b : Bool) (m : Move) (ms : List Move) → length (cons_if b m ms) ≡ 0 → (b ≡ false) × (length ms ≡ 0)
  none_in true m ms z = absurd (omega arith)
  none_in false m ms z = (refl, z)

  pub none-numbered : (ms : List Move) → count numbered ms ≡ 0 → Each (λ m. numbered m ≡ false) ms
  unfolding count select
  none-numbered [] z = tt
  none-numbered (m ∷ ms) z =
      let r = none_in (numbered m) m (select numbered ms) z in
      (r.0, none-numbered ms r.1)

  one_in : (b : Bool) (m : Move) → length (cons_if b m []) ≡ 1 → b ≡ true
  one_in true m z = refl
  one_in false m z = absurd (omega arith)

  each-stays : (h : ℕ) → ((e : Entry h) → Filled h e → holds h e ≡ 0 → Stays h e) → (es : List (Entry h))
      → Each (Filled h) es → holds (suc h) es ≡ 0 → Each (Stays h) es
  each-stays h f [] a z = tt
  each-stays h f (e ∷ es) a z =
      (f e a.0 (omega (arith, holds-cons h e es)), each-stays h f es a.1 (omega (arith, holds-cons h e es)))

  stays : (h : ℕ) (e : Entry h) → Filled h e → holds h e ≡ 0 → Stays h e
  unfolding withdraw_entry holds count select moves_under
  stays zero m f z = λ rest. ap (λ (b : Bool). record { entries = cons_if (not b) m rest.entries; moves = rest.moves }) (none_in (numbered m) m [] z).0
  stays (suc h) c f z =
      let u = filled-full h c f in
      node_stays h c c [] (all_stay h c (each-stays h (stays h) c u.under z)) u.least

  pub others-stay : (h : ℕ) (es : List (Entry h)) → Each (Filled h) es → holds (suc h) es ≡ 0 → Each (Stays h) es
  others-stay h = each-stays h (stays h)

  -- ---- the entry that holds the move

  pub record Holding (h : ℕ) (es : List (Entry h)) : Type 0 where
    pub front : List (Entry h)
    pub entry : Entry h
    pub back : List (Entry h)
    pub parts : es ≡ front ++ entry ∷ back
    pub before : holds (suc h) front ≡ 0
    pub one : holds h entry ≡ 1
    pub after : holds (suc h) back ≡ 0

  pub holding : (h : ℕ) (es : List (Entry h)) → holds (suc h) es ≡ 1 → Holding h es
  unfolding holds moves_under flat_map count select
  holding h [] p = absurd (omega arith)
  holding h (e ∷ es) p = here (holds h e) refl (λ q. holding h es q)
    where
      here : (k : ℕ) → holds h e ≡ k → (holds (suc h) es ≡ 1 → Holding h es) → Holding h (e ∷ es)
      here zero z later =
          let r = later (omega (arith, holds-cons h e es)) in
          record {
            front = e ∷ r.front;
            entry = r.entry;
            back = r.back;
            parts = ap (λ (fs : List (Entry h)). e ∷ fs) r.parts;
            before = omega (arith, holds-cons h e r.front, r.before);
            one = r.one;
            after = r.after;
          }
      here (suc k) z later =
          record {
            front = [];
            entry = e;
            back = es;
            parts = refl;
            before = refl;
            one = omega (arith, holds-cons h e es);
            after = omega (arith, holds-cons h e es);
          }

  pub leaf-numbered : (m : Move) → holds 0 m ≡ 1 → numbered m ≡ true
  unfolding holds count select moves_under
  leaf-numbered m = one_in (numbered m) m

  pub leaf-goes : (m : Move) → holds 0 m ≡ 1 → Becomes 0 m [] []
  unfolding withdraw_entry
  leaf-goes m o rest = ap (λ (b : Bool). record { entries = cons_if (not b) m rest.entries; moves = rest.moves }) (leaf-numbered m o)

  -- ---- the moves under a removed node

  pub leaf-without : (m : Move) → holds 0 m ≡ 1 → without n (moves_under 0 m) ≡ []
  unfolding select moves_under without
  leaf-without m o = ap (λ (b : Bool). cons_if (not b) m []) (leaf-numbered m o)

  without-none : (ms : List Move) → count numbered ms ≡ 0 → without n ms ≡ ms
  unfolding without
  without-none ms z =
      select-all (λ m. not (numbered m)) ms
      (each-mono (λ m. numbered m ≡ false) (λ m. not (numbered m) ≡ true) ms (λ m. not-flip (numbered m)) (none-numbered ms z))

  pub without-append : (ms ns : List Move) → without n (ms ++ ns) ≡ without n ms ++ without n ns
  unfolding without
  without-append = select-append (λ m. not (numbered m))

  module _ (h : ℕ) (front back : List (Entry h)) (e : Entry h) (z : holds (suc h) front ≡ 0) (y : holds (suc h) back ≡ 0) where
    without-parts : without n (moves_under (suc h) (front ++ e ∷ back)) ≡ moves_under (suc h) front ++ (without n (moves_under h e) ++ moves_under (suc h) back)
    unfolding holds moves_under flat_map
    without-parts =
        ap (without n) (moves-append h front (e ∷ back))
        ∙ without-append (moves_under (suc h) front) (moves_under h e ++ moves_under (suc h) back)
        ∙ ap₂ ◌++◌ (without-none (moves_under (suc h) front) z)
        (without-append (moves_under h e) (moves_under (suc h) back) ∙ ap (λ (ms : List Move). without n (moves_under h e) ++ ms) (without-none (moves_under (suc h) back) y))

    pub gone-moves : (ms : List Move) → Permᴰ ms (without n (moves_under h e))
        → Permᴰ (moves_under (suc h) (front ++ back) ++ ms) (without n (moves_under (suc h) (front ++ e ∷ back)))
    gone-moves ms p =
        let f = moves_under (suc h) front in
        let b = moves_under (suc h) back in
        subst₂ Permᴰ
        (sym (ap (λ (xs : List Move). xs ++ ms) (moves-append h front back) ∙ append_assoc f b ms))
        (sym without-parts)
        (Permᴰ.append_left f (Permᴰ.trans (perm-swap b ms) (Permᴰ.append_right b p)))

-- Taking a move out of the nest, and the range that goes out of the line: level by level the same.
use Prim.Native.Nat.{ℕ, zero, suc, ◌+◌, ◌≤◌, ◌<◌}
use Rattle.std.specs.Prelude.{false, ◌≡◌, refl, ltb}
use mathlib.Core.List.Permᴰ
use mathlib.Core.List.{List, [], ◌∷◌, ◌++◌, append_assoc, append-nil, Permᴰ}
use Rattle.std.proofs.Common.{sym, ◌∙◌, zero-add, le_refl, arith, ltb-true, ltb-false, length-append}
use Rattle.std.proofs.Math.Path.{ap, ap₂, subst}
use Rattle.std.proofs.Math.ListN.{length}
use Rattle.model.specs.Basics.{Each}
use Rattle.model.specs.Moves.{Move}
use Rattle.model.specs.Tree.{Entry, moves_under}
use Rattle.model.specs.Withdrawing.{without, withdraw_node}
use Rattle.model.proofs.Laws.Bool.{by_cases}
use Rattle.model.proofs.Laws.Basics.{each_append, each_left, each_right}
use Rattle.model.proofs.Laws.Tree.{Filled, filled-full, full-filled}
use Rattle.line.specs.Line.{Placed, line_at, moves_in, heights_in}
use Rattle.line.specs.Places.{height_at}
use Rattle.line.specs.Withdraw.{place_of, Range, widened, lifted}
use Rattle.line.specs.Laws.Places.{FirstAtLeast, starts-lower, height-among}
use Rattle.line.specs.Laws.Taken.{numbered, holds, none-numbered, Becomes, others-stay, one-becomes, node-goes, node_stays, leaf-numbered, leaf-goes, leaf-without, gone-moves, Holding, holding}
use Rattle.line.specs.Laws.Line.{filled-whole, line-moves}
use Rattle.line.specs.Laws.Entries.{following, following-least, regroup, line-pos, lines_start}
use Rattle.line.specs.Laws.Cascade.{filled-each}
use Rattle.line.specs.Laws.Rows.{moves_in-append, line-height, node-parts, node-without}
use Rattle.line.specs.Laws.Widened.{place-seam, stops-at-root, node-stops, node-grows}

module _ (n : ℕ) (rs : List Placed) where
  -- The move's own row.
  abbrev pub own : Range
  own = record { from = place_of n rs; to = suc (place_of n rs) }

  -- A line between others, and what is left of it: the range that goes is found by so many turns or more.
  pub record Cut (turns : ℕ) (line left pre post : List Placed) (ms : List Move) : Type 0 where
    pub front : List Placed
    pub range : List Placed
    pub back : List Placed
    pub parts : line ≡ front ++ (range ++ back)
    pub some : 0 < length range
    pub closed : front ++ lifted (height_at range 0) (back ++ post) ≡ left ++ post
    pub moves : Permᴰ ms (without n (moves_in range))
    pub widens : (f : ℕ) → widened (turns + f) 0 own rs ≡ record { from = length (pre ++ front); to = length (pre ++ front) + length range }

  -- An entry below the root that holds the move, with the rows before and after its own.
  pub record Placement (h k : ℕ) (e : Entry h) (pre post : List Placed) : Type 0 where
    pub whole : rs ≡ pre ++ (line_at h k e ++ post)
    pub full : Filled h e
    pub high : h ≤ k
    pub follows : FirstAtLeast h post
    pub under : h < height_at rs 0
    pub none : Each (λ m. numbered n m ≡ false) (moves_in pre)
    pub one : holds n h e ≡ 1

  -- An entry's line is the range at its level.
  abbrev pub Reached : (h k : ℕ) → Entry h → List Placed → Type 0
  Reached h k e pre =
      (f : ℕ) → widened (h + f) 0 own rs ≡ widened f h (record { from = length pre; to = length pre + length (line_at h k e) }) rs

  pub data Outcome (h k : ℕ) (e : Entry h) (pre post : List Placed) : Type 0 where
    goes : (ms : List Move) → Becomes n h e [] ms → Permᴰ ms (without n (moves_under h e)) → Reached h k e pre → Outcome h k e pre post
    changes : (e' : Entry h) (ms : List Move) → Becomes n h e (e' ∷ []) ms → Filled h e'
        → Cut h (line_at h k e) (line_at h k e') pre post ms → Outcome h k e pre post

  -- A node of which an entry goes or changes.
  pub record NodeCut (h k : ℕ) (es : List (Entry h)) (pre post : List Placed) : Type 0 where
    pub left : List (Entry h)
    pub ms : List Move
    pub withdrawn : withdraw_node n h es ≡ record { entries = left; moves = ms }
    pub full : Each (Filled h) left
    pub cut : Cut (suc h) (line_at (suc h) k es) (line_at (suc h) k left) pre post ms

  -- ---- one level

  module _ (h k : ℕ) (front back : List (Entry h)) (e : Entry h) (pre post : List Placed) where
    abbrev node : List (Entry h)
    node = front ++ e ∷ back

    abbrev before : List Placed
    before = pre ++ line_at (suc h) k front

    abbrev after : List Placed
    after = line_at (suc h) h back ++ post

    abbrev height : ℕ
    height = following k h front

    whole_parts : pre ++ (line_at (suc h) k node ++ post) ≡ before ++ (line_at h height e ++ after)
    whole_parts =
        ap (λ (line : List Placed). pre ++ (line ++ post)) (node-parts h k front e back)
        ∙ regroup pre (line_at (suc h) k front) (line_at h height e) (line_at (suc h) h back) post

    one_more : (t : ℕ) → widened (suc h + t) 0 own rs ≡ widened (h + suc t) 0 own rs
    one_more t = ap (λ (f : ℕ). widened f 0 own rs) (omega arith)

    -- An entry that goes, if the widening stops there.
    cut-entry : (ms : List Move) → h ≤ k → Filled h e → Each (Filled h) back → FirstAtLeast h post → (length (front ++ back) ≡ 0 → post ≡ [])
        → Permᴰ ms (without n (moves_under h e)) → Reached h height e before
        → ((f to : ℕ) → widened (suc f) h (record { from = length before; to = to }) rs ≡ record { from = length before; to = to })
        → Cut (suc h) (line_at (suc h) k node) (line_at (suc h) k (front ++ back)) pre post ms
    cut-entry ms l f a s z p r stop =
        record {
          front = line_at (suc h) k front;
          range = line_at h height e;
          back = line_at (suc h) h back;
          parts = node-parts h k front e back;
          some = line-pos h height e (filled-whole h e f);
          closed =
              ap (λ (j : ℕ). line_at (suc h) k front ++ lifted j after) (line-height h height e (filled-whole h e f))
              ∙ node-without h k l front back post (filled-each h back a) s z;
          moves = subst (λ (ns : List Move). Permᴰ ms (without n ns)) (sym (line-moves h height e)) p;
          widens = λ t. one_more t ∙ r (suc t) ∙ stop t (length before + length (line_at h height e));
        }

    -- An entry that changes.
    cut-within : (e' : Entry h) (ms : List Move) → Cut h (line_at h height e) (line_at h height e') before after ms
        → Cut (suc h) (line_at (suc h) k node) (line_at (suc h) k (front ++ e' ∷ back)) pre post ms
    cut-within e' ms c =
        record {
          front = line_at (suc h) k front ++ c.front;
          range = c.range;
          back = c.back ++ line_at (suc h) h back;
          parts =
              node-parts h k front e back
              ∙ ap (λ (line : List Placed). line_at (suc h) k front ++ (line ++ line_at (suc h) h back)) c.parts
              ∙ simp append_assoc;
          some = c.some;
          closed =
              append_assoc (line_at (suc h) k front) c.front (lifted (height_at c.range 0) (c.back ++ line_at (suc h) h back ++ post))
              ∙ ap (λ (line : List Placed). line_at (suc h) k front ++ (c.front ++ lifted (height_at c.range 0) line))
              (append_assoc c.back (line_at (suc h) h back) post)
              ∙ ap (λ (line : List Placed). line_at (suc h) k front ++ line) c.closed
              ∙ sym (regroup [] (line_at (suc h) k front) (line_at h height e') (line_at (suc h) h back) post)
              ∙ ap (λ (line : List Placed). line ++ post) (sym (node-parts h k front e' back));
          moves = c.moves;
          widens = λ t.
              one_more t
              ∙ c.widens (suc t)
              ∙ ap (λ (line : List Placed). record { from = length line; to = length line + length c.range })
              (append_assoc pre (line_at (suc h) k front) c.front);
        }

    module _ (l : h ≤ k) (a : Each (Filled h) node) (z : holds n (suc h) front ≡ 0) (y : holds n (suc h) back ≡ 0) where
      front-full : Each (Filled h) front
      front-full = each_left (Filled h) front (e ∷ back) a

      entry-full : Filled h e
      entry-full = (each_right (Filled h) front (e ∷ back) a).0

      back_full : Each (Filled h) back
      back_full = (each_right (Filled h) front (e ∷ back) a).1

      node-becomes : (c : List (Entry h)) (ms : List Move) → Becomes n h e c ms
          → withdraw_node n h node ≡ record { entries = front ++ (c ++ back); moves = ms }
      node-becomes c ms = one-becomes n h front back c e ms (others-stay n h front front-full z) (others-stay n h back back_full y)

      left-full : (c : List (Entry h)) → Each (Filled h) c → Each (Filled h) (front ++ (c ++ back))
      left-full c f = each_append (Filled h) front (c ++ back) front-full (each_append (Filled h) c back f back_full)

      left-length : (c : List (Entry h)) → suc (length (front ++ (c ++ back))) ≡ length node + length c
      left-length c =
          omega (arith, length-append front (c ++ back), length-append c back, length-append front (e ∷ back))

      abbrev Cuts : List (Entry h) → List Move → Type 0
      Cuts c ms = Cut (suc h) (line_at (suc h) k node) (line_at (suc h) k (front ++ (c ++ back))) pre post ms

      -- The node keeps three.
      kept : (c : List (Entry h)) (ms : List Move) → Becomes n h e c ms → Each (Filled h) c → length c ≤ 1 → length node ≤ 8
          → 3 ≤ length (front ++ (c ++ back)) → Cuts c ms → Outcome (suc h) k node pre post
      kept c ms b f o m t cut =
          changes (front ++ (c ++ back)) ms
          (node_stays n h node (front ++ (c ++ back)) ms (node-becomes c ms b) t)
          (full-filled h (front ++ (c ++ back)) (record { least = t; most = omega (arith, left-length c); under = left-full c f }))
          cut

      inside : length (line_at (suc h) k front) < length (line_at (suc h) k node)
      inside =
          omega (
            arith,
            ap length (node-parts h k front e back),
            length-append (line_at (suc h) k front) (line_at h height e ++ line_at (suc h) h back),
            length-append (line_at h height e) (line_at (suc h) h back),
            line-pos h height e (filled-whole h e entry-full),
          )

      outcome-up : Placement (suc h) k node pre post → Outcome h height e before after → Outcome (suc h) k node pre post
      outcome-up p (goes ms g m r) =
          let i = length before in
          let q = length (line_at (suc h) k front) in
          let at = length-append pre (line_at (suc h) k front) in
          let f = p.full in
          by_cases (ltb 3 (length node))
          (λ c. let d = ltb-true 3 (length node) c in
          kept [] ms g tt (omega arith) (filled-full h node f).most (omega (arith, left-length []))
          (cut-entry ms l entry-full back_full (starts-lower h (suc h) post (omega arith) p.follows) (λ o. absurd (omega (arith, left-length []))) m r
          (node-stops h k node (filled-whole (suc h) node f) pre post rs p.whole p.high p.follows i q at inside d)))
          (λ c. let d = ltb-false 3 (length node) c in
          goes (moves_under (suc h) (front ++ back) ++ ms)
          (node-goes n h node (front ++ back) ms (node-becomes [] ms g) (omega (arith, left-length [])))
          (gone-moves n h front back e z y ms m)
          (λ x.
          one_more x
          ∙ r (suc x)
          ∙ node-grows h k node (filled-whole (suc h) node f) pre post rs p.whole p.high p.follows i q at inside d p.under x (i + length (line_at h height e))))
      outcome-up p (changes e' ms g v c) =
          let u = filled-full h node p.full in
          kept (e' ∷ []) ms g (v, tt) (omega arith) u.most (omega (arith, left-length (e' ∷ []), u.least)) (cut-within e' ms c)

      -- The root loses any entry.
      root-cut : height_at rs 0 ≡ suc h → post ≡ [] → Outcome h height e before after → NodeCut h k node pre post
      root-cut t z (goes ms g m r) =
          record {
            left = front ++ back;
            ms = ms;
            withdrawn = node-becomes [] ms g;
            full = left-full [] tt;
            cut =
                cut-entry ms l entry-full back_full (subst (FirstAtLeast h) (sym z) tt) (λ o. z) m r
                (λ f to. stops-at-root f h (record { from = length before; to = to }) (heights_in rs) (height-among rs 0 ∙ t));
          }
      root-cut t z (changes e' ms g v c) =
          record {
            left = front ++ e' ∷ back;
            ms = ms;
            withdrawn = node-becomes (e' ∷ []) ms g;
            full = left-full (e' ∷ []) (v, tt);
            cut = cut-within e' ms c;
          }

      -- The entry in its own place.
      entry-placed : rs ≡ pre ++ (line_at (suc h) k node ++ post) → h < height_at rs 0 → FirstAtLeast h post → Each (λ m. numbered n m ≡ false) (moves_in pre)
          → holds n h e ≡ 1 → Placement h height e before after
      unfolding holds
      entry-placed w u s v o =
          record {
            whole = w ∙ whole_parts;
            full = entry-full;
            high = following-least h k h front l (le_refl h);
            follows = lines_start h h h back post (filled-each h back back_full) (le_refl h) s;
            under = u;
            none =
                subst (Each (λ m. numbered n m ≡ false))
                (sym (moves_in-append pre (line_at (suc h) k front) ∙ ap (λ (ms : List Move). moves_in pre ++ ms) (line-moves (suc h) k front)))
                (each_append (λ m. numbered n m ≡ false) (moves_in pre) (moves_under (suc h) front) v (none-numbered n (moves_under (suc h) front) z));
            one = o;
          }

  -- ---- all levels below the root

  node-outcome : (h k : ℕ) (es : List (Entry h)) (pre post : List Placed) → Placement (suc h) k es pre post → Holding n h es
      → ((j : ℕ) (e : Entry h) (xs ys : List Placed) → Placement h j e xs ys → Outcome h j e xs ys) → Outcome (suc h) k es pre post
  node-outcome h k es pre post p w below =
      subst (λ (fs : List (Entry h)). Placement (suc h) k fs pre post → Outcome (suc h) k fs pre post) (sym w.parts)
      (λ q.
      let l : h ≤ k = omega (arith, p.high) in
      let a = (filled-full h (w.front ++ w.entry ∷ w.back) q.full).under in
      outcome-up h k w.front w.back w.entry pre post l a w.before w.after q
      (below (following k h w.front) w.entry (pre ++ line_at (suc h) k w.front) (line_at (suc h) h w.back ++ post)
      (entry-placed h k w.front w.back w.entry pre post l a w.before w.after q.whole (omega (arith, q.under))
      (starts-lower h (suc h) post (omega arith) q.follows) q.none w.one)))
      p

  own_row : (m : Move) (k : ℕ) (pre post : List Placed) → Placement 0 k m pre post → place_of n rs ≡ length pre
  unfolding line_at
  own_row m k pre post p = ap (place_of n) p.whole ∙ place-seam n pre (record { move = m; height = k }) post p.none (leaf-numbered n m p.one)

  pub outcome : (h k : ℕ) (e : Entry h) (pre post : List Placed) → Placement h k e pre post → Outcome h k e pre post
  unfolding line_at
  outcome zero k m pre post p =
      goes [] (leaf-goes n m p.one) (subst (Permᴰ []) (sym (leaf-without n m p.one)) (Permᴰ.refl []))
      (λ f.
      ap₂ (λ (g i : ℕ). widened g 0 (record { from = i; to = suc i }) rs) (zero-add f) (own_row m k pre post p)
      ∙ ap (λ (i : ℕ). widened f 0 (record { from = length pre; to = i }) rs) (omega arith))
  outcome (suc h) k es pre post p = node-outcome h k es pre post p (holding n h es p.one) (outcome h)

-- ---- the root

root-parts : (n h : ℕ) (front back : List (Entry h)) (e : Entry h) → Each (Filled h) (front ++ e ∷ back)
    → holds n (suc h) front ≡ 0 → holds n h e ≡ 1 → holds n (suc h) back ≡ 0
    → NodeCut n (line_at (suc h) (suc h) (front ++ e ∷ back)) h (suc h) (front ++ e ∷ back) [] []
unfolding moves_in
root-parts n h front back e a z o y =
    let es = front ++ e ∷ back in
    let rs = line_at (suc h) (suc h) es in
    let top = line-height (suc h) (suc h) es (omega (arith, length-append front (e ∷ back)), filled-each h es a) in
    root-cut n rs h (suc h) front back e [] [] (omega arith) a z y top refl
    (outcome n rs h (following (suc h) h front) e (line_at (suc h) (suc h) front) (line_at (suc h) h back ++ [])
    (entry-placed n rs h (suc h) front back e [] [] (omega arith) a z y (sym (append-nil rs)) (omega arith) tt tt o))

pub root-removed : (n h : ℕ) (es : List (Entry h)) → Each (Filled h) es → holds n (suc h) es ≡ 1
    → NodeCut n (line_at (suc h) (suc h) es) h (suc h) es [] []
root-removed n h es a o =
    let w = holding n h es o in
    subst (λ (fs : List (Entry h)). Each (Filled h) fs → NodeCut n (line_at (suc h) (suc h) fs) h (suc h) fs [] []) (sym w.parts)
    (λ b. root-parts n h w.front w.back w.entry b w.before w.one w.after) a

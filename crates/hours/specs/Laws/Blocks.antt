-- The entries of the blocks in turn: the first that is refused, and the blocks that are open.
use Rattle.std.specs.Prelude.{ℕ, zero, suc, ◌+◌, ◌/◌, ◌%◌, ◌^◌, ◌≤◌, ◌<◌, Bool, true, false, cond, List, [], ◌∷◌, map, ◌≢◌, ◌≡◌, refl, eqb, length, take, get_or}
use Rattle.std.proofs.Common.{sym, ◌∙◌, le_of_suc-le-suc, le_refl, add-zero, arith, get_or-take}
use Rattle.std.proofs.Math.Path.{ap}
use Rattle.std.proofs.Math.Decide.{ℕ_discrete, dec_lt}
use Rattle.std.proofs.lemmas.List.{length-map}
use Rattle.std.proofs.Math.ListN.{length-take}
use Rattle.model.specs.Basics.{any}
use Rattle.model.specs.Hours.{Hours, block_count, windows_of, hours_bad, open_in, no_hours, block_open}
use Rattle.model.specs.Calls.{accepted, hours_refusal}
use Rattle.model.proofs.Laws.Hours.{past-shut}
use Rattle.promises.specs.Answers.{block_hours}
use Rattle.search.specs.Search.{None}
use Rattle.hours.specs.Open.{FirstBad, OpenBlocks}

-- ---- the hours of block k

hours-at : (entries : List (List ℕ)) (k : ℕ) → k < length entries → get_or (map block_hours entries) k no_hours ≡ block_hours (get_or entries k [])
hours-at [] k l = absurd (omega arith)
hours-at (e ∷ es) zero l = refl
hours-at (e ∷ es) (suc k) l = hours-at es k (le_of_suc-le-suc l)

-- ---- the first that is refused

abbrev bad_at : List Hours → ℕ → Bool
bad_at hs k = hours_bad (get_or hs k no_hours)

none-refused : (b : ℕ) (hs : List Hours) → None (bad_at hs) 0 (length hs) → hours_refusal b hs ≡ accepted
unfolding hours_refusal
none-refused b [] none = refl
none-refused b (h ∷ hs) none =
    ap (λ (t : Bool). cond t (record { number = 12; detail = b }) (hours_refusal (suc b) hs)) (none 0 (omega arith) (omega arith))
    ∙ none-refused (suc b) hs (λ k a l. none (suc k) (omega arith) (omega arith))

first-refused : (b : ℕ) (hs : List Hours) (k : ℕ) → k < length hs → None (bad_at hs) 0 k → bad_at hs k ≡ true → hours_refusal b hs ≡ record { number = 12; detail = b + k }
unfolding hours_refusal
first-refused b [] k l none e = absurd (omega arith)
first-refused b (h ∷ hs) zero l none e =
    ap (λ (t : Bool). cond t (record { number = 12; detail = b }) (hours_refusal (suc b) hs)) e
    ∙ ap (λ (n : ℕ). record { number = 12; detail = n }) (sym (add-zero b))
first-refused b (h ∷ hs) (suc k) l none e =
    let next : suc b + k ≡ b + suc k = omega arith in
    ap (λ (t : Bool). cond t (record { number = 12; detail = b }) (hours_refusal (suc b) hs)) (none 0 (omega arith) (omega arith))
    ∙ first-refused (suc b) hs k (le_of_suc-le-suc l) (λ j a g. none (suc j) (omega arith) (omega arith)) e
    ∙ ap (λ (n : ℕ). record { number = 12; detail = n }) next

module _ (entries : List (List ℕ)) where
  abbrev hours : List Hours
  hours = map block_hours entries

  abbrev read : ℕ
  read = length (take block_count entries)

  read-most : (read ≤ length entries) × (read ≤ 64)
  read-most = (omega (arith, length-take block_count entries), omega (arith, length-take block_count entries))

  length-read : length (take block_count hours) ≡ read
  length-read = omega (arith, length-take block_count entries, length-take block_count hours, length-map entries block_hours)

  bad-at : (k : ℕ) → k < read → bad_at (take block_count hours) k ≡ hours_bad (block_hours (get_or entries k []))
  bad-at k l =
      ap hours_bad (get_or-take block_count hours k no_hours (omega (arith, read-most)) ∙ hours-at entries k (omega (arith, read-most)))

  none-bad : (k : ℕ) → k ≤ read → None (λ j. hours_bad (block_hours (get_or entries j []))) 0 k → None (bad_at (take block_count hours)) 0 k
  none-bad k l none j a g = bad-at j (omega arith) ∙ none j a g

  pub first_found : (k : ℕ) → k < length (take block_count entries) → None (λ j. hours_bad (block_hours (get_or entries j []))) 0 k
      → hours_bad (block_hours (get_or entries k [])) ≡ true → FirstBad (map block_hours entries) k
  first_found k l none e =
      let same : 0 + k ≡ k = omega arith in
      record {
        bad = λ _.
            first-refused 0 (take block_count hours) k (omega (arith, length-read)) (none-bad k (omega arith) none) (bad-at k l ∙ e)
            ∙ ap (λ (n : ℕ). record { number = 12; detail = n }) same;
        none = λ h. absurd (omega (arith, read-most));
      }

  pub none_found : (k : ℕ) → length (take block_count entries) ≤ k → None (λ j. hours_bad (block_hours (get_or entries j []))) 0 k → FirstBad (map block_hours entries) 64
  none_found k l none =
      record {
        bad = λ h. absurd (omega arith);
        none = λ _. none-refused 0 (take block_count hours)
            (λ j a g. none-bad read (omega arith) (λ i b f. none i b (omega arith)) j a (omega (arith, length-read)));
      }

-- ---- the blocks that are open

abbrev bit : ℕ → ℕ → Bool
bit set k = eqb (set / 2 ^ k % 2) 1

-- Of the blocks below k those that are open are in the set, and no others.
pub record OpenTo (t : ℕ) (entries : List (List ℕ)) (k set : ℕ) : Type 0 where
  pub passed : (j : ℕ) → j < k → eqb (set / 2 ^ j % 2) 1 ≡ block_open t (map block_hours entries) j
  pub later : (j : ℕ) → k ≤ j → eqb (set / 2 ^ j % 2) 1 ≡ false

pub open_none : (t : ℕ) (entries : List (List ℕ)) (set : ℕ) → ((j : ℕ) → eqb (set / 2 ^ j % 2) 1 ≡ false) → OpenTo t entries 0 set
open_none t entries set h = record { passed = λ j l. absurd (omega arith); later = λ j _. h j }

module _ {t : ℕ} {entries : List (List ℕ)} {k set : ℕ} (h : OpenTo t entries k set) (l : k < length (take block_count entries)) where
  open-here : block_open t (map block_hours entries) k ≡ any (open_in t) (windows_of (block_hours (get_or entries k [])))
  unfolding block_open
  open-here = ap (λ (e : Hours). any (open_in t) (windows_of e)) (hours-at entries k (omega (arith, length-take block_count entries)))

  more : (set' : ℕ) (b : Bool) → any (open_in t) (windows_of (block_hours (get_or entries k []))) ≡ b → bit set' k ≡ b
      → ((j : ℕ) → j ≢ k → bit set' j ≡ bit set j) → OpenTo t entries (k + 1) set'
  more set' b e same other =
      record { passed = λ j g. go j g (ℕ_discrete j k); later = λ j g. other j (λ q. omega arith) ∙ h.later j (omega arith) }
    where
      go : (j : ℕ) → j < k + 1 → Dec (j ≡ k) → bit set' j ≡ block_open t (map block_hours entries) j
      go j g (yes q) = ap (bit set') q ∙ same ∙ sym (ap (block_open t (map block_hours entries)) q ∙ open-here ∙ e)
      go j g (no q) = other j q ∙ h.passed j (omega arith)

  pub open_more : (set' : ℕ) → any (open_in t) (windows_of (block_hours (get_or entries k []))) ≡ true → eqb (set' / 2 ^ k % 2) 1 ≡ true
      → ((j : ℕ) → j ≢ k → set' / 2 ^ j % 2 ≡ set / 2 ^ j % 2) → OpenTo t entries (k + 1) set'
  open_more set' e same other = more set' true e same (λ j q. ap (λ (b : ℕ). eqb b 1) (other j q))

  pub open-same : (set' : ℕ) → any (open_in t) (windows_of (block_hours (get_or entries k []))) ≡ false → set' ≡ set → OpenTo t entries (k + 1) set'
  open-same set' e q =
      more set' false e (ap (λ (s : ℕ). bit s k) q ∙ h.later k (le_refl k)) (λ j _. ap (λ (s : ℕ). bit s j) q)

pub open-all : {t : ℕ} {entries : List (List ℕ)} {k set : ℕ} → OpenTo t entries k set → length (take block_count entries) ≤ k → k ≤ length (take block_count entries)
    → OpenBlocks t (map block_hours entries) set
open-all {t} {entries} {k} {set} h l g = record { bits = λ j few. go j few (dec_lt j k) }
  where
    go : (j : ℕ) → j < 64 → Dec (j < k) → bit set j ≡ block_open t (map block_hours entries) j
    go j few (yes b) = h.passed j b
    go j few (no b) =
        h.later j (omega arith)
        ∙ sym (past-shut t (map block_hours entries) j (omega (arith, length-take block_count entries, length-map entries block_hours)))

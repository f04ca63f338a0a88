-- The test of the head, in the words of `Sound`.
use Rattle.std.specs.Prelude.{ℕ, ◌≤◌, Bool, true, false, not, ◌&&◌, List, ◌≡◌, leb, eqb, length}
use borrow.Author.Tests.{leb-true, le-leb, eqb-true, eq-eqb}
use Rattle.zorder.specs.Refusal.{cost_count_bad}
use Rattle.model.specs.Calls.{size_bad, memory_need}
use Rattle.model.proofs.Laws.Bool.{by_cases, and_left, and_right, and_both, not-flip, not_back, same_test}
use Rattle.promises.specs.Layout.{size_in, dimension_in, format_in, format_number, count_in}
use Rattle.memory.specs.Tests.{head_right}

-- What the test of the head says.
pub record HeadRight (m : List ℕ) : Type 0 where
  pub size : size_bad (size_in m) ≡ false
  pub dimension : cost_count_bad (dimension_in m) ≡ false
  pub format : format_in m ≡ format_number
  pub room : memory_need (size_in m) ≤ length m
  pub count : count_in m ≤ size_in m

five : (a b c d e : Bool) → (a && b && c && d && e) ≡ true → (a ≡ true) × (b ≡ true) × (c ≡ true) × (d ≡ true) × (e ≡ true)
five a b c d e h =
    let four = and_left (a && b && c && d) e h in
    let three = and_left (a && b && c) d four in
    let two = and_left (a && b) c three in
    (and_left a b two, and_right a b two, and_right (a && b) c three, and_right (a && b && c) d four, and_right (a && b && c && d) e h)

all-five : (a b c d e : Bool) → a ≡ true → b ≡ true → c ≡ true → d ≡ true → e ≡ true → (a && b && c && d && e) ≡ true
all-five a b c d e f g h k l = and_both (a && b && c && d) e (and_both (a && b && c) d (and_both (a && b) c (and_both a b f g) h) k) l

module _ (m : List ℕ) where
  pub head-right : head_right m ≡ true → HeadRight m
  unfolding head_right
  head-right h =
      let t = five (not (size_bad (size_in m))) (not (cost_count_bad (dimension_in m))) (eqb (format_in m) format_number) (leb (memory_need (size_in m)) (length m)) (leb (count_in m) (size_in m)) h in
      record {
        size = not_back (size_bad (size_in m)) t.0;
        dimension = not_back (cost_count_bad (dimension_in m)) t.1;
        format = eqb-true (format_in m) format_number t.2;
        room = leb-true (memory_need (size_in m)) (length m) t.3;
        count = leb-true (count_in m) (size_in m) t.4;
      }

  pub right-head : HeadRight m → head_right m ≡ true
  unfolding head_right
  right-head h =
      all-five (not (size_bad (size_in m))) (not (cost_count_bad (dimension_in m))) (eqb (format_in m) format_number) (leb (memory_need (size_in m)) (length m)) (leb (count_in m) (size_in m))
      (not-flip (size_bad (size_in m)) h.size) (not-flip (cost_count_bad (dimension_in m)) h.dimension) (eq-eqb (format_in m) format_number h.format)
      (le-leb (memory_need (size_in m)) (length m) h.room) (le-leb (count_in m) (size_in m) h.count)

  pub head-wrong : (HeadRight m → ⊥) → head_right m ≡ false
  head-wrong n = by_cases (head_right m) (λ e. absurd (n (head-right e))) (λ e. e)

  -- where all else is right, the number of moves decides
  pub head-count : (count_in m ≤ size_in m → HeadRight m) → head_right m ≡ leb (count_in m) (size_in m)
  head-count f =
      same_test (head_right m) (leb (count_in m) (size_in m))
      (λ e. le-leb (count_in m) (size_in m) (head-right e).count)
      (λ e. right-head (f (leb-true (count_in m) (size_in m) e)))

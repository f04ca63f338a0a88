-- What each store makes of the memory.
use Rattle.std.specs.Prelude.{ℕ, suc, Bool, cond, List, [], ◌∷◌, set}
use Rattle.promises.specs.Layout.{set_word, format_number, size_place, dimension_place, format_place, count_place, number_place, height_place, flag_place, block_place, cost_place, work_place}

unfoldable pub set_head : ℕ → ℕ → ℕ → List ℕ → List ℕ
set_head c d n m = set_word count_place n (set (set (set_word size_place c m) dimension_place d) format_place format_number)

unfoldable pub set_count : ℕ → List ℕ → List ℕ
set_count n m = set_word count_place n m

unfoldable pub set_number : ℕ → ℕ → ℕ → List ℕ → List ℕ
set_number c i v m = set_word (number_place i) v m

unfoldable pub set_height : ℕ → ℕ → ℕ → List ℕ → List ℕ
set_height c i h m = set m (height_place c i) h

unfoldable pub set_listed : ℕ → ℕ → Bool → List ℕ → List ℕ
set_listed c n listed m = set m (flag_place c n) (cond listed 1 0)

unfoldable pub set_block : ℕ → ℕ → ℕ → List ℕ → List ℕ
set_block c n block m = set m (block_place c n) block

-- The costs of a row from cost j on.
unfoldable pub set_costs_from : ℕ → ℕ → ℕ → List ℕ → List ℕ → List ℕ
set_costs_from c n j [] m = m
set_costs_from c n j (v ∷ vs) m = set_costs_from c n (suc j) vs (set_word (cost_place c n j) v m)

unfoldable pub set_costs : ℕ → ℕ → List ℕ → List ℕ → List ℕ
set_costs c n costs m = set_costs_from c n 0 costs m

unfoldable pub set_work : ℕ → ℕ → ℕ → List ℕ → List ℕ
set_work c i v m = set_word (work_place c i) v m

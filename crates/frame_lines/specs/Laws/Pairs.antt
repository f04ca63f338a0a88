-- Lists of pairs as lists of numbers, and costs as a row holds them.
use Rattle.promises.specs.Layout.{tab}
use Rattle.promises.proofs.Laws.Tab.{length-tab, get_or-tab}
use Rattle.zorder.specs.Address.{row_costs, padded}
use Rattle.std.specs.Prelude.{ℕ, zero, suc, ◌+◌, ◌-◌, ◌*◌, ◌<◌, ◌≤◌, Bool, cond, List, [], ◌∷◌, ◌++◌, ◌≡◌, refl, ltb, length, get_or, replicate}
use Rattle.std.proofs.Common.{sym, ap, ap₂, ◌∙◌, ltb-true, ltb-false, arith, length-append, get_or-append-add, ext_get_or}
use Rattle.std.proofs.lemmas.List.{length-replicate, get_or-replicate}
use Rattle.std.proofs.Math.ListN.{get_or-append}
use Rattle.model.proofs.Laws.Bool.{test_cases}
use Rattle.frame_lines.specs.Digits.{joined}

pub joined_length : (base : ℕ) (ns : List ℕ) (n : ℕ) → length ns ≡ 2 * n → length (joined base ns) ≡ n
unfolding joined
joined_length base [] n e = omega arith
joined_length base (h ∷ []) n e = absurd (omega arith)
joined_length base (h ∷ l ∷ ns) zero e = absurd (omega arith)
joined_length base (h ∷ l ∷ ns) (suc n) e = ap suc (joined_length base ns n (omega arith))

-- An entry of a list of pairs; past its end both sides read 0.
pub joined_at : (base : ℕ) (ns : List ℕ) (n : ℕ) → length ns ≡ 2 * n → (i : ℕ) → get_or (joined base ns) i 0 ≡ get_or ns (2 * i) 0 * base + get_or ns (2 * i + 1) 0
unfolding joined
joined_at base [] n e i = omega arith
joined_at base (h ∷ []) n e i = absurd (omega arith)
joined_at base (h ∷ l ∷ ns) zero e i = absurd (omega arith)
joined_at base (h ∷ l ∷ ns) (suc n) e zero = refl
joined_at base (h ∷ l ∷ ns) (suc n) e (suc i) =
    let even : 2 * suc i ≡ suc (suc (2 * i)) = omega arith in
    let odd : 2 * suc i + 1 ≡ suc (suc (2 * i + 1)) = omega arith in
    joined_at base ns n (omega arith) i
    ∙ ap₂ (λ (x y : ℕ). get_or (h ∷ l ∷ ns) x 0 * base + get_or (h ∷ l ∷ ns) y 0) (sym even) (sym odd)

padded-length : (d : ℕ) (cs : List ℕ) → d ≤ row_costs → length cs ≡ d → length (padded d cs) ≡ row_costs
unfolding padded
padded-length d cs most count = omega (arith, length-append cs (replicate (row_costs - d) 0), length-replicate {A = ℕ} (row_costs - d) 0)

padded-at : (d : ℕ) (cs : List ℕ) → length cs ≡ d → (j : ℕ) → j < row_costs → get_or (padded d cs) j 0 ≡ cond (ltb j d) (get_or cs j 0) 0
unfolding padded
padded-at d cs count j room =
    test_cases (λ (b : Bool). get_or (cs ++ replicate (row_costs - d) 0) j 0 ≡ cond b (get_or cs j 0) 0) (ltb j d)
    (λ e. get_or-append cs (replicate (row_costs - d) 0) 0 j (omega (arith, ltb-true j d e)))
    (λ e.
    let past : d ≤ j = ltb-false j d e in
    let place : length cs + (j - d) ≡ j = omega arith in
    ap (λ (i : ℕ). get_or (cs ++ replicate (row_costs - d) 0) i 0) (sym place)
    ∙ get_or-append-add cs (replicate (row_costs - d) 0) (j - d) 0
    ∙ get_or-replicate (row_costs - d) (j - d) 0 0 (omega arith))

pub tab-padded : (f : ℕ → ℕ) (d : ℕ) (cs : List ℕ) → d ≤ row_costs → length cs ≡ d → ((j : ℕ) → j < row_costs → f j ≡ cond (ltb j d) (get_or cs j 0) 0) → tab f row_costs ≡ padded d cs
tab-padded f d cs most count same =
    ext_get_or 0 (tab f row_costs) (padded d cs) (length-tab f row_costs ∙ sym (padded-length d cs most count))
    (λ j h. let within : j < row_costs = omega (arith, length-tab f row_costs) in get_or-tab f 0 row_costs j within ∙ same j within ∙ sym (padded-at d cs count j within))

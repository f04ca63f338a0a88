-- Costs and addresses determine each other.
use Rattle.std.specs.Prelude.{ℕ, zero, suc, ◌+◌, ◌-◌, ◌*◌, ◌/◌, ◌%◌, ◌^◌, ◌≤◌, ◌<◌, ◌≡◌, refl, ◌↔◌, List, [], ◌∷◌, length, get_or}
use Rattle.std.proofs.Common.{sym, ap, ap₂, ◌∙◌, subst, ⊎_elim, add_comm, mul-zero, mul-suc, mod-eq_of_lt, zero-lt-suc, sub-add_cancel, le_refl, eq-or-lt_of_le, le_of_suc-le-suc, one-add, arith, pow_pos, shr_lt, ext_get_or}
use Rattle.std.proofs.Math.Nat.{suc_inj, le_of_suc-le, pow-succ'}
use Rattle.std.proofs.Math.Arith.{digits_lt, digits_div, digits_mod}
use Rattle.std.proofs.lemmas.Nat.{mod-pow-add}
use Rattle.std.proofs.Math.Pow.{mod-mod-pow, field, high, low}
use Rattle.zorder.specs.Address.{cost_bits, bit, group, groups, cost_from_bits, costs_from, costs_of}
use Rattle.zorder.proofs.Laws.Address.{Costs, shifted, length-shifted, get_or-shifted, bit-lt, bit-shr, group-lt, groups-lt, groups-shr, groups-costs-lt}

-- ---- equal addresses, equal costs

-- one bit more of a number
pub mod-pow-suc : (n k : ℕ) → n % 2 ^ suc k ≡ bit k n * 2 ^ k + n % 2 ^ k
unfolding bit
mod-pow-suc n k = rw (← one-add k) (mod-pow-add n 1 k)

-- a base may be the same by an equation
pub digits-unique : {m n r s : ℕ} (p q : ℕ) → m ≡ n → r < m → s < n → p * m + r ≡ q * n + s → (p ≡ q) × (r ≡ s)
digits-unique {m} {n} {r} {s} p q b h k e =
    let e' : p * m + r ≡ q * m + s = e ∙ ap (λ (x : ℕ). q * x + s) (sym b) in
    let k' : s < m = rw b k in
    (sym (digits_div p h) ∙ ap (λ (x : ℕ). x / m) e' ∙ digits_div q k', sym (digits_mod p h) ∙ ap (λ (x : ℕ). x % m) e' ∙ digits_mod q k')

group-cons-unique : (j c e : ℕ) (cs es : List ℕ) → length cs ≡ length es → group j (c ∷ cs) ≡ group j (e ∷ es)
    → (bit j c ≡ bit j e) × (group j cs ≡ group j es)
unfolding group
group-cons-unique j c e cs es n g = digits-unique (bit j c) (bit j e) (ap (λ (x : ℕ). 2 ^ x) n) (group-lt j cs) (group-lt j es) g

pub group-bits : (j : ℕ) (cs es : List ℕ) → length cs ≡ length es → group j cs ≡ group j es
    → (i : ℕ) → bit j (get_or cs i 0) ≡ bit j (get_or es i 0)
group-bits j [] [] n g i = refl
group-bits j [] (e ∷ es) n g i = absurd (omega arith)
group-bits j (c ∷ cs) [] n g i = absurd (omega arith)
group-bits j (c ∷ cs) (e ∷ es) n g zero = (group-cons-unique j c e cs es (suc_inj n) g).0
group-bits j (c ∷ cs) (e ∷ es) n g (suc i) = group-bits j cs es (suc_inj n) (group-cons-unique j c e cs es (suc_inj n) g).1 i

groups-suc-unique : (k : ℕ) (cs es : List ℕ) → length cs ≡ length es → groups (suc k) cs ≡ groups (suc k) es
    → (group k cs ≡ group k es) × (groups k cs ≡ groups k es)
unfolding groups
groups-suc-unique k cs es n g =
    digits-unique (group k cs) (group k es) (ap (λ (x : ℕ). 2 ^ (x * k)) n) (groups-lt k cs) (groups-lt k es) g

pub groups-bits : (k : ℕ) (cs es : List ℕ) → length cs ≡ length es → groups k cs ≡ groups k es
    → (i : ℕ) → get_or cs i 0 % 2 ^ k ≡ get_or es i 0 % 2 ^ k
groups-bits zero cs es n g i = omega arith
groups-bits (suc k) cs es n g i =
    let u = groups-suc-unique k cs es n g in
    mod-pow-suc (get_or cs i 0) k
    ∙ ap₂ (λ (x y : ℕ). x * 2 ^ k + y) (group-bits k cs es n u.0 i) (groups-bits k cs es n u.1 i)
    ∙ sym (mod-pow-suc (get_or es i 0) k)

pub groups-injective-at : (k : ℕ) (cs es : List ℕ) → length cs ≡ length es → ((i : ℕ) → get_or cs i 0 < 2 ^ k) → ((i : ℕ) → get_or es i 0 < 2 ^ k)
    → groups k cs ≡ groups k es → cs ≡ es
groups-injective-at k cs es n f h g =
    ext_get_or 0 cs es n (λ i l. sym (mod-eq_of_lt (f i)) ∙ groups-bits k cs es n g i ∙ mod-eq_of_lt (h i))

pub groups-injective : (d : ℕ) (cs es : List ℕ) → Costs d cs → Costs d es → groups cost_bits cs ≡ groups cost_bits es → cs ≡ es
groups-injective d cs es f h = groups-injective-at cost_bits cs es (f.count ∙ sym h.count) f.small h.small

-- ---- the costs of an address

pub bit-mod : (j w n : ℕ) → j < w → bit j (n % 2 ^ w) ≡ bit j n
unfolding bit
bit-mod j w n h =
    subst (λ (x : ℕ). bit j (n % 2 ^ x) ≡ bit j n) (let e : w - suc j + 1 + j ≡ w = omega arith in e)
    (ap (λ (x : ℕ). x % 2) (field n (w - suc j + 1) j) ∙ mod-mod-pow (n / 2 ^ j) (w - suc j) 1)

bit-top : (k b r : ℕ) → b < 2 → r < 2 ^ k → bit k (b * 2 ^ k + r) ≡ b
unfolding bit
bit-top k b r h l = ap (λ (x : ℕ). x % 2) (high b k l) ∙ mod-eq_of_lt h

pub bit_below : (j k b r : ℕ) → j < k → r < 2 ^ k → bit j (b * 2 ^ k + r) ≡ bit j r
bit_below j k b r h l = sym (bit-mod j k (b * 2 ^ k + r) h) ∙ ap (bit j) (low b k l)

pub cost_from_bits-lt : (d e k a : ℕ) → cost_from_bits d e k a < 2 ^ k
unfolding cost_from_bits
cost_from_bits-lt d e zero a = zero-lt-suc 0
cost_from_bits-lt d e (suc k) a = rw (pow-succ' 2 k) (digits_lt (bit-lt (d * k + e) a) (cost_from_bits-lt d e k a))

pub bit-cost_from_bits : (d e k a j : ℕ) → j < k → bit j (cost_from_bits d e k a) ≡ bit (d * j + e) a
unfolding cost_from_bits
bit-cost_from_bits d e zero a j h = absurd (omega arith)
bit-cost_from_bits d e (suc k) a j h =
    let b = bit (d * k + e) a in
    let r = cost_from_bits d e k a in
    ⊎_elim
    (λ p. rw p (bit-top k b r (bit-lt (d * k + e) a) (cost_from_bits-lt d e k a)))
    (λ l. bit_below j k b r l (cost_from_bits-lt d e k a) ∙ bit-cost_from_bits d e k a j l)
    (eq-or-lt_of_le (le_of_suc-le-suc h))

pub length-costs_from : (d e a : ℕ) → length (costs_from d e a) ≡ e
unfolding costs_from
length-costs_from d zero a = refl
length-costs_from d (suc e) a = ap suc (length-costs_from d e a)

pub costs_from-lt : (d e a i : ℕ) → get_or (costs_from d e a) i 0 < 2 ^ cost_bits
unfolding costs_from
costs_from-lt d zero a i = pow_pos cost_bits
costs_from-lt d (suc e) a zero = cost_from_bits-lt d e cost_bits a
costs_from-lt d (suc e) a (suc i) = costs_from-lt d e a i

pub costs_of-costs : (d a : ℕ) → Costs d (costs_of d a)
unfolding costs_of
costs_of-costs d a = record { count = length-costs_from d d a; small = costs_from-lt d d a }

pub group-costs_from : (d j e a : ℕ) → j < cost_bits → group j (costs_from d e a) ≡ a / 2 ^ (d * j) % 2 ^ e
unfolding costs_from group
group-costs_from d j zero a h = omega arith
group-costs_from d j (suc e) a h =
    rw (bit-cost_from_bits d e cost_bits a j h, length-costs_from d e a, group-costs_from d j e a h, add_comm (d * j) e, bit-shr e (d * j) a)
    (sym (mod-pow-suc (a / 2 ^ (d * j)) e))

pub groups-costs_of : (d k a : ℕ) → k ≤ cost_bits → groups k (costs_of d a) ≡ a % 2 ^ (d * k)
unfolding groups costs_of
groups-costs_of d zero a h = rw (mul-zero d) (omega arith)
groups-costs_of d (suc k) a h =
    rw (group-costs_from d k d a h, length-costs_from d d a, groups-costs_of d k a (le_of_suc-le h), mul-suc d k, add_comm (d * k) d)
    (sym (mod-pow-add a d (d * k)))

pub address-costs : (d a : ℕ) → a < 2 ^ (d * cost_bits) → groups cost_bits (costs_of d a) ≡ a
address-costs d a h = groups-costs_of d cost_bits a (le_refl cost_bits) ∙ mod-eq_of_lt h

pub costs-address : (d : ℕ) (cs : List ℕ) → Costs d cs → costs_of d (groups cost_bits cs) ≡ cs
costs-address d cs h =
    groups-injective d (costs_of d (groups cost_bits cs)) cs (costs_of-costs d (groups cost_bits cs)) h (address-costs d (groups cost_bits cs) (groups-costs-lt d cs h))

-- ---- addresses that agree above some groups

pub shifted-lt : (k u : ℕ) (cs : List ℕ) → ((i : ℕ) → get_or cs i 0 < 2 ^ (k + u)) → (i : ℕ) → get_or (shifted u cs) i 0 < 2 ^ k
shifted-lt k u cs h i = rw (get_or-shifted u cs i) (shr_lt k u (h i))

pub costs-shr : (d u : ℕ) (cs : List ℕ) → Costs d cs → u ≤ cost_bits → groups cost_bits cs / 2 ^ (d * u) ≡ groups (cost_bits - u) (shifted u cs)
costs-shr d u cs f h =
    subst (λ (x : ℕ). groups cost_bits cs / 2 ^ (x * u) ≡ groups (cost_bits - u) (shifted u cs)) f.count (groups-shr cost_bits u cs h)

module _ (d u : ℕ) (cs es : List ℕ) (f : Costs d cs) (h : Costs d es) (l : u ≤ cost_bits) where
  agree-shifted : groups cost_bits cs / 2 ^ (d * u) ≡ groups cost_bits es / 2 ^ (d * u) → shifted u cs ≡ shifted u es
  agree-shifted g =
      groups-injective-at (cost_bits - u) (shifted u cs) (shifted u es)
      (length-shifted u cs ∙ f.count ∙ sym (length-shifted u es ∙ h.count))
      (shifted-lt (cost_bits - u) u cs (λ i. rw (sub-add_cancel l) (f.small i)))
      (shifted-lt (cost_bits - u) u es (λ i. rw (sub-add_cancel l) (h.small i)))
      (sym (costs-shr d u cs f l) ∙ g ∙ costs-shr d u es h l)

  shifted-agree : shifted u cs ≡ shifted u es → groups cost_bits cs / 2 ^ (d * u) ≡ groups cost_bits es / 2 ^ (d * u)
  shifted-agree e = costs-shr d u cs f l ∙ ap (groups (cost_bits - u)) e ∙ sym (costs-shr d u es h l)

  pub agree-iff : (groups cost_bits cs / 2 ^ (d * u) ≡ groups cost_bits es / 2 ^ (d * u)) ↔ (shifted u cs ≡ shifted u es)
  agree-iff = (agree-shifted, shifted-agree)

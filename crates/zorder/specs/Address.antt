-- Addresses, as document 01 defines them ("Moves, addresses, regions"), over a list of costs of any length.
use Rattle.std.specs.Prelude.{ℕ, zero, suc, ◌+◌, ◌-◌, ◌*◌, ◌/◌, ◌%◌, ◌^◌, List, [], ◌∷◌, ◌++◌, length, take, replicate}

-- How many costs a row holds (Card 13: "a row has eight costs").
abbrev pub row_costs : ℕ
row_costs = 8

-- How many bits a cost has ("each 0 to 65,535"), and so how many groups an address has.
abbrev pub cost_bits : ℕ
cost_bits = 16

-- Bit j of a number.
unfoldable pub bit : ℕ → ℕ → ℕ
bit j n = n / 2 ^ j % 2

-- "In the group for bit j of the costs, bit j of cost i stands before that of cost i+1."
unfoldable pub group : ℕ → List ℕ → ℕ
group j [] = 0
group j (c ∷ cs) = bit j c * 2 ^ length cs + group j cs

-- The groups for bits k-1 to 0, "highest group first".
unfoldable pub groups : ℕ → List ℕ → ℕ
groups zero cs = 0
groups (suc k) cs = group k cs * 2 ^ (length cs * k) + groups k cs

-- "An address has 16 groups of d bits": the address of the first d costs of a row.
unfoldable pub address : ℕ → List ℕ → ℕ
address d cs = groups cost_bits (take d cs)

-- The number whose bits k-1 to 0 stand at place e, counted from the right, of the groups for these bits.
unfoldable pub cost_from_bits : ℕ → ℕ → ℕ → ℕ → ℕ
cost_from_bits d e zero a = 0
cost_from_bits d e (suc k) a = bit (d * k + e) a * 2 ^ k + cost_from_bits d e k a

-- The costs whose bits stand at the places e-1 to 0 of each group: "bit j of cost i stands before that of cost i+1".
unfoldable pub costs_from : ℕ → ℕ → ℕ → List ℕ
costs_from d zero a = []
costs_from d (suc e) a = cost_from_bits d e cost_bits a ∷ costs_from d e a

-- The d costs of an address.
unfoldable pub costs_of : ℕ → ℕ → List ℕ
costs_of d a = costs_from d d a

-- d costs as a row holds them: "costs past d are zero".
unfoldable pub padded : ℕ → List ℕ → List ℕ
padded d cs = cs ++ replicate (row_costs - d) 0

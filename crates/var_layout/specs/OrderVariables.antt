-- Order variables, one for each pair of operations: the first operation of the pair stands before the second.
use Rattle.std.specs.Prelude.{ℕ, ◌+◌, ◌-◌, ◌*◌, ◌/◌, ℤ, pos, neg_ℤ, nat_lt, List, map, if◌then◌else◌}
use Rattle.std.specs.List.{flat_map, range_with_len}

-- the numbers above i, below n
abbrev pub numbers_above : ℕ → ℕ → List ℕ
numbers_above n i = range_with_len (i + 1) (n - (i + 1))

-- the pairs of i below j, below n, by i and then j
abbrev pub pairs : ℕ → List (ℕ × ℕ)
pairs n = flat_map (λ i. map (λ j. (i, j)) (numbers_above n i)) (range_with_len 0 n)

-- how many order variables there are for n operations
abbrev pub order_count : ℕ → ℕ
order_count n = n * (n - 1) / 2

-- the variable of i and j, for i below j: they are 1, 2 and so on in the order of the pairs
abbrev pub order_var : ℕ → ℕ → ℕ → ℕ
order_var n i j = i * (2 * n - i - 1) / 2 + (j - i)

-- the literal that says that i stands before j
abbrev pub order_lit : ℕ → ℕ → ℕ → ℤ
order_lit n i j = if nat_lt i j then pos (order_var n i j) else neg_ℤ (pos (order_var n j i))

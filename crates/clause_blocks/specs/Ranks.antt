-- Ranks of operations, as truth values put them in order.
use Rattle.std.specs.Prelude.{◌≡◌, ◌<◌, ◌==◌, ◌&&◌, not, nat_lt, ℕ, Bool, length}
use Rattle.std.specs.List.{filter, range_with_len}
use Rattle.dimacs.specs.Assignment.{makes_true}
use Rattle.var_layout.specs.OrderVariables.{order_lit}

-- the truth values say that an operation stands before a later one if and only if its rank is lower
abbrev pub IsRankedFrom : (ℕ → Bool) → ℕ → (ℕ → ℕ) → ℕ → Type 0
IsRankedFrom value n rank i = (j : ℕ) → i < j → j < n → makes_true value (order_lit n i j) ≡ nat_lt (rank i) (rank j)

-- the same of each operation
abbrev pub AreRanks : (ℕ → Bool) → ℕ → (ℕ → ℕ) → Type 0
AreRanks value n rank = (i : ℕ) → i < n → IsRankedFrom value n rank i

-- how many of n operations stand before this one, as the truth values say
abbrev pub count_before : (ℕ → Bool) → ℕ → ℕ → ℕ
count_before value n j = length (filter (λ i. not (i == j) && makes_true value (order_lit n i j)) (range_with_len 0 n))

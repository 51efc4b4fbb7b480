-- Where the clauses of three operations stand in transitivity.
use Rattle.std.specs.Prelude.{ℕ, ℤ, neg_ℤ, List, [], ◌∷◌, length, if◌then◌else◌}
use Rattle.std.specs.List.{flat_map, range_with_len}
use Rattle.var_layout.specs.OrderVariables.{numbers_above, order_lit}
use Rattle.clause_blocks.specs.Blocks.{no_cycle}
use Rattle.clause_blocks.specs.declared.triple_table.Triple.{Triple}

-- how many clauses of one lowest operation have a middle one below j, where those are counted too whose middle one is not above the lowest
abbrev pub below_middle : ℕ → ℕ → ℕ
below_middle n j = length (flat_map (λ m. flat_map (no_cycle n 0 m) (numbers_above n m)) (range_with_len 0 j))

-- the clause that a triple stands for
abbrev pub clause_of_triple : ℕ → Triple → List ℤ
clause_of_triple n t = if t.is_second then order_lit n t.lowest t.middle ∷ order_lit n t.middle t.highest ∷ neg_ℤ (order_lit n t.lowest t.highest) ∷ []
    else neg_ℤ (order_lit n t.lowest t.middle) ∷ neg_ℤ (order_lit n t.middle t.highest) ∷ order_lit n t.lowest t.highest ∷ []

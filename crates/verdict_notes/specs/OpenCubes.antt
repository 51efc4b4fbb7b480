-- The orders that an open cube says, and their words.
use Rattle.std.specs.Prelude.{◌≡◌, ◌≢◌, ◌⊎◌, ◌<◌, true, ℕ, ℤ, List, [], ◌∷◌, ◌++◌, Some, codes, decimal, slice_get}
use Rattle.std.specs.List.{flat_map}
use Rattle.std.specs.Option.{option_map_or}
use Rattle.dimacs.specs.Literal.{is_literal}
use Rattle.text_lines.specs.Numbers.{solver_number}
use Rattle.var_layout.specs.OrderVariables.{order_lit}
use Rattle.verdict_notes.specs.declared.kept_operations.KeptOp.{KeptOp}
use Rattle.verdict_notes.specs.declared.open_orders.NumberedOrder.{NumberedOrder}

-- the literal says of two of n operations that the first stands before the second
abbrev pub Says : ℕ → ℤ → ℕ → ℕ → Type 0
Says n literal first second = (first ≢ second) × (first < n) × (second < n) × (order_lit n first second ≡ literal)

-- the word writes a literal that says this order
abbrev pub Writes : ℕ → List ℕ → NumberedOrder → Type 0
Writes n word order = (literal : ℤ) × (solver_number word ≡ Some literal) × Says n literal order.first order.second

-- the word writes no literal
abbrev pub WritesNoLiteral : List ℕ → Type 0
WritesNoLiteral word = (z : ℤ) → is_literal z ≡ true → solver_number word ≡ Some z → ⊥

-- the word writes no order
abbrev pub WritesNone : ℕ → List ℕ → Type 0
WritesNone n word = (order : NumberedOrder) → Writes n word order → ⊥

-- each of these orders is what a word writes, in the order of the words, and each word that writes one has its order
abbrev pub AreWritten : ℕ → List (List ℕ) → List NumberedOrder → Type 0
AreWritten n [] orders = orders ≡ []
AreWritten n (word ∷ words) orders =
    ((order : NumberedOrder) × (others : List NumberedOrder) × (orders ≡ order ∷ others) × Writes n word order × AreWritten n words others)
    ⊎ (WritesNone n word × AreWritten n words orders)

-- the name of an operation
abbrev pub name_text : KeptOp → List ℕ
name_text op = op.process.now ++ (codes "." ++ decimal op.place)

-- that of the operation of this number
abbrev pub name_at : List KeptOp → ℕ → List ℕ
name_at ops i = option_map_or name_text (slice_get ops i) []

-- the words of an order
abbrev pub order_text : List KeptOp → NumberedOrder → List ℕ
order_text ops order = name_at ops order.first ++ (codes " before " ++ name_at ops order.second)

-- those of an order that is not the first
abbrev pub later_text : List KeptOp → NumberedOrder → List ℕ
later_text ops order = codes ", " ++ order_text ops order

-- those of several orders
abbrev pub orders_text : List KeptOp → List NumberedOrder → List ℕ
orders_text ops [] = codes "every order"
orders_text ops (first ∷ others) = order_text ops first ++ flat_map (later_text ops) others

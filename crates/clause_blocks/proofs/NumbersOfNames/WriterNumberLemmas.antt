-- The numbers of writers and readers, and their names.
use Rattle.std.proofs.Common.{◌≡◌, ℕ, ◌<◌, List, [], Bool, true, false, not, eqb, refl, ap, sym, ◌∙◌, arith}
use Rattle.std.specs.Prelude.{◌≢◌, ◌==◌, Some, IsSome, is_some}
use Rattle.std.specs.List.{Contains, filter}
use Rattle.std.specs.Option.{option_and_then, option_map_or}
use Rattle.std.proofs.lemmas.Bool.{eqb-true}
use Rattle.std.proofs.lemmas.Option.{option_and_then_some}
use Rattle.trace_semantics.specs.declared.operation.Op.{Op}
use Rattle.trace_semantics.specs.declared.operation.OpName.{OpName}
use Rattle.trace_semantics.specs.Operation.{location_of, value_read}
use Rattle.trace_semantics.specs.Trace.{TraceValue, IsTrace, operation_at, operation_count}
use Rattle.trace_semantics.specs.ValueAfter.{value_left_at}
use Rattle.trace_semantics.proofs.ElementLemmas.{from_filter, to_filter, to_range}
use Rattle.trace_semantics.proofs.NameLemmas.{some_value}
use Rattle.var_layout.specs.Candidates.{sources, is_candidate, candidates}
use Rattle.var_layout.specs.Numbers.{numbers, name_at, number_of, op_at, read_at, left_at, readers, writers, others, other_writers}
use Rattle.clause_blocks.proofs.NumbersOfNames.OperationNumberLemmas.{numbered, number_within}

-- those other than this one
pub to_others : (i : ℕ) (xs : List ℕ) (x : ℕ) → Contains xs x → x ≢ i → Contains (others i xs) x
to_others i xs x c d = to_filter (λ (y : ℕ). not (y == i)) xs x (differs (eqb x i) refl) c
  where
    differs : (b : Bool) → eqb x i ≡ b → not b ≡ true
    differs true e = absurd (d (eqb-true x i e))
    differs false e = refl

-- names that differ have different numbers
pub numbers_apart : (t : TraceValue) → IsTrace t → (m n : OpName) → IsSome (operation_at t m) → IsSome (operation_at t n) → m ≢ n → number_of t m ≢ number_of t n
numbers_apart t ok m n h k d e =
    let same : Some m ≡ Some n = sym (numbered t ok m h) ∙ ap (name_at t) e ∙ numbered t ok n k in
    d (cc)

pub known_op : (t : TraceValue) (n : OpName) (op : Op) → operation_at t n ≡ Some op → IsSome (operation_at t n)
known_op t n op e = ap is_some e

pub op_numbered : (t : TraceValue) → IsTrace t → (n : OpName) (op : Op) → operation_at t n ≡ Some op → op_at t (number_of t n) ≡ Some op
op_numbered t ok n op e = ap (option_and_then (operation_at t)) (numbered t ok n (known_op t n op e)) ∙ e

pub known_within : (t : TraceValue) → IsTrace t → (n : OpName) → IsSome (operation_at t n) → number_of t n < operation_count t
known_within t ok n h = number_within t (number_of t n) n (numbered t ok n h)

pub reader_listed : (t : TraceValue) → IsTrace t → (n : OpName) (op : Op) (d : ℕ) → operation_at t n ≡ Some op → value_read op ≡ Some d → Contains (readers t) (number_of t n)
reader_listed t ok n op d e f =
    to_filter (λ (i : ℕ). is_some (read_at t i)) (numbers t) (number_of t n)
    (ap (λ o. is_some (option_and_then value_read o)) (op_numbered t ok n op e) ∙ ap is_some f)
    (to_range 0 (operation_count t) (number_of t n) (omega arith) (omega (arith, known_within t ok n (known_op t n op e))))

pub candidates_are : (t : TraceValue) (r : ℕ) (op : Op) → op_at t r ≡ Some op → candidates t r ≡ filter (is_candidate t op) (sources t r)
candidates_are t r op e = ap (λ o. option_map_or (λ (p : Op). filter (is_candidate t p) (sources t r)) o []) e

pub other_writers_are : (t : TraceValue) (r : ℕ) (op : Op) → op_at t r ≡ Some op → other_writers t r ≡ others r (writers t (location_of op))
other_writers_are t r op e = ap (λ o. option_map_or (λ (p : Op). others r (writers t (location_of p))) o []) e

-- writers by name and by number
pub writer_known : (t : TraceValue) (location : List ℕ) (x : OpName) (y : ℕ) → value_left_at t location x ≡ Some y → IsSome (operation_at t x)
writer_known t location x y e = option_and_then_some _ (operation_at t x) y e (λ op h k. ap is_some h)

pub left_numbered : (t : TraceValue) → IsTrace t → (location : List ℕ) (x : OpName) → IsSome (operation_at t x) → left_at t location (number_of t x) ≡ value_left_at t location x
left_numbered t ok location x h = ap (option_and_then (value_left_at t location)) (numbered t ok x h)

pub writer_numbered : (t : TraceValue) → IsTrace t → (location : List ℕ) (x : OpName) (y : ℕ) → value_left_at t location x ≡ Some y → Contains (writers t location) (number_of t x)
writer_numbered t ok location x y e =
    let known = writer_known t location x y e in
    to_filter (λ (i : ℕ). is_some (left_at t location i)) (numbers t) (number_of t x)
    (ap is_some (left_numbered t ok location x known ∙ e))
    (to_range 0 (operation_count t) (number_of t x) (omega arith) (omega (arith, known_within t ok x known)))

-- a writer of this number
pub record IsWriter (t : TraceValue) (location : List ℕ) (w : ℕ) : Type 0 where
  pub name : OpName
  pub value : ℕ
  pub named : name_at t w ≡ Some name
  pub leaves : value_left_at t location name ≡ Some value
  pub left : left_at t location w ≡ Some value

pub writer_at : (t : TraceValue) (location : List ℕ) (w : ℕ) → Contains (writers t location) w → IsWriter t location w
writer_at t location w c =
    let at = from_filter (λ (i : ℕ). is_some (left_at t location i)) (numbers t) w c in
    let value = some_value (left_at t location w) at.1 in
    option_and_then_some (value_left_at t location) (name_at t w) value.0 value.1 (λ n h k. record { name = n; value = value.0; named = h; leaves = k; left = value.1 })

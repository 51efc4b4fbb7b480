-- Orders that agree on the operations of a trace make one part of it.
use Rattle.std.proofs.Common.{◌≡◌, ℕ, List, [], ◌∷◌, map, take, Bool, cond, not, ◌&&◌, ◌||◌, refl, ap, ◌∙◌, subst}
use Rattle.std.specs.Prelude.{Option, Some, None, IsSome, is_some}
use Rattle.std.specs.List.{Contains, filter, list_all, list_any}
use Rattle.std.specs.Option.{option_and_then}
use Rattle.std.specs.Str.{bytes_eq}
use Rattle.std.specs.Prelude.{nat_lt, length, ◌==◌}
use Rattle.trace_semantics.specs.declared.operation.Op.{Op}
use Rattle.trace_semantics.specs.declared.operation.Op.TheVariants.{Read, Write, Update}
use Rattle.trace_semantics.specs.declared.operation.OpName.{OpName}
use Rattle.trace_semantics.specs.declared.operation.Origin.{Origin}
use Rattle.trace_semantics.specs.declared.operation.Origin.TheVariants.{Any, Initial, Operation}
use Rattle.trace_semantics.specs.Judgement.{is_held}
use Rattle.trace_semantics.specs.KnownOrder.{ended_before}
use Rattle.trace_semantics.specs.Operation.{same_op}
use Rattle.trace_semantics.specs.Trace.{TraceValue, IsTrace, operation_at, operation_names}
use Rattle.trace_semantics.specs.ValueAfter.{value_left_at}
use Rattle.trace_semantics.proofs.ElementLemmas.{head_in, tail_in, from_filter, from_map, from_flat_map}
use Rattle.trace_semantics.proofs.NameLemmas.{listed_known}
use Rattle.restriction.specs.Left.{is_left, new_pair, left_process}
use Rattle.part_law.specs.Part.{writes_at, writers_of, is_overwritten, may_be_source, sources, may_be_last, last_writers, keeps_read, stays_of, stays, stays_final, left_names, left_pairs, is_nearer, is_told, part}
use Rattle.forced_order.specs.Order.{Agree}

filter_by : {A : Type 0} (p q : A → Bool) (xs : List A) → ((x : A) → Contains xs x → p x ≡ q x) → filter p xs ≡ filter q xs
filter_by p q [] h = refl
filter_by p q (x ∷ xs) h = λ i. cond (h x (head_in x xs) i) (x ∷ filter_by p q xs (λ y c. h y (tail_in x xs y c)) i) (filter_by p q xs (λ y c. h y (tail_in x xs y c)) i)

any_by : {A : Type 0} (p q : A → Bool) (xs : List A) → ((x : A) → Contains xs x → p x ≡ q x) → list_any p xs ≡ list_any q xs
any_by p q [] h = refl
any_by p q (x ∷ xs) h = λ i. h x (head_in x xs) i || any_by p q xs (λ y c. h y (tail_in x xs y c)) i

module _ (t : TraceValue) (ok : IsTrace t) (first second : OpName → OpName → Bool) (agree : Agree t first second) (chosen : OpName → Bool) where
  writer_known : (location : List ℕ) (x : OpName) → Contains (writers_of t location) x → IsSome (operation_at t x)
  writer_known location x c = listed_known t ok x (from_filter (writes_at t location) (operation_names t) x c).0

  overwritten : (location : List ℕ) (w n : OpName) → IsSome (operation_at t w) → IsSome (operation_at t n) → is_overwritten t first location w n ≡ is_overwritten t second location w n
  overwritten location w n h k = any_by (λ x. first w x && first x n) (λ x. second w x && second x n) (writers_of t location)
      (λ x c i. agree w x h (writer_known location x c) i && agree x n (writer_known location x c) k i)

  same_sources : (n : OpName) (location : List ℕ) (d : ℕ) → IsSome (operation_at t n) → sources t first n location d ≡ sources t second n location d
  same_sources n location d k = filter_by (may_be_source t first n location d) (may_be_source t second n location d) (writers_of t location)
      (λ w c i. is_held (value_left_at t location w) d && (not (same_op w n) && (not (agree n w k (writer_known location w c) i) && not (overwritten location w n (writer_known location w c) k i))))

  keeps : (n : OpName) (location : List ℕ) (d : ℕ) (origin : Origin) → IsSome (operation_at t n) → keeps_read t first chosen n location d origin ≡ keeps_read t second chosen n location d origin
  keeps n location d Any k = ap (list_all chosen) (same_sources n location d k)
  keeps n location d Initial k = refl
  keeps n location d (Operation w) k = refl

  stay_of : (n : OpName) (op : Op) → IsSome (operation_at t n) → stays_of t first chosen n op ≡ stays_of t second chosen n op
  stay_of n (Read location value origin span) k = ap (λ b. cond b (Some (Read location value origin span)) None) (keeps n location value origin k)
  stay_of n (Write location value span) k = refl
  stay_of n (Update location read left origin span) k = ap (λ b. Some (cond b (Update location read left origin span) (Write location left span))) (keeps n location read origin k)

  stay_by : (n : OpName) (o : Option Op) → operation_at t n ≡ o → option_and_then (stays_of t first chosen n) o ≡ option_and_then (stays_of t second chosen n) o
  stay_by n None e = refl
  stay_by n (Some op) e = stay_of n op (ap is_some e)

  stay : (n : OpName) → stays t first chosen n ≡ stays t second chosen n
  stay n = ap (λ o. cond (chosen n) o None) (stay_by n (operation_at t n) refl)

  -- what stays is one function
  pub same_stays : stays t first chosen ≡ stays t second chosen
  same_stays = λ i n. stay n i

  same_last : (location : List ℕ) (d : ℕ) → last_writers t first location d ≡ last_writers t second location d
  same_last location d = filter_by (may_be_last t first location d) (may_be_last t second location d) (writers_of t location)
      (λ w c i. is_held (value_left_at t location w) d && not (any_by (first w) (second w) (writers_of t location) (λ x b. agree w x (writer_known location w c) (writer_known location x b)) i))

  same_final : (entry : List ℕ × ℕ) → stays_final t first chosen entry ≡ stays_final t second chosen entry
  same_final entry = ap (λ l. list_all chosen l && (list_any chosen (writers_of t entry.0) || (length (writers_of t entry.0) == 0))) (same_last entry.0 entry.1)

  module _ (left : OpName → Option Op) where
    name_known : (x : OpName) → Contains (left_names t left) x → IsSome (operation_at t x)
    name_known x c = listed_known t ok x (from_filter (is_left left) (operation_names t) x c).0

    same_nearer : (pair : OpName × OpName) (x : OpName) → IsSome (operation_at t pair.0) → IsSome (operation_at t pair.1) → IsSome (operation_at t x) → is_nearer first pair x ≡ is_nearer second pair x
    same_nearer pair x h k l i = (bytes_eq x.process pair.0.process && (nat_lt pair.0.place x.place && agree x pair.1 l k i)) || (bytes_eq x.process pair.1.process && (nat_lt x.place pair.1.place && agree pair.0 x h l i))

    same_told : (pair : OpName × OpName) → IsSome (operation_at t pair.0) → IsSome (operation_at t pair.1) → is_told t first left pair ≡ is_told t second left pair
    same_told pair h k = λ i. (agree pair.0 pair.1 h k i && (not (bytes_eq pair.0.process pair.1.process)
        && not (any_by (is_nearer first pair) (is_nearer second pair) (left_names t left) (λ x c. same_nearer pair x h k (name_known x c)) i))) && not (ended_before t pair.0 pair.1)

    pair_known : (pair : OpName × OpName) → Contains (left_pairs t left) pair → IsSome (operation_at t pair.0) × IsSome (operation_at t pair.1)
    pair_known pair c =
        let m = from_flat_map (λ m. map (λ (n : OpName). (m, n)) (left_names t left)) (left_names t left) pair c in
        let n = from_map (λ (n : OpName). (m.0, n)) (left_names t left) pair m.2 in
        (subst (λ (p : OpName × OpName). IsSome (operation_at t p.0)) n.2 (name_known m.0 m.1), subst (λ (p : OpName × OpName). IsSome (operation_at t p.1)) n.2 (name_known n.0 n.1))

    same_pairs : filter (is_told t first left) (left_pairs t left) ≡ filter (is_told t second left) (left_pairs t left)
    same_pairs = filter_by (is_told t first left) (is_told t second left) (left_pairs t left) (λ pair c. let known = pair_known pair c in same_told pair known.0 known.1)

  -- the part by the one order, with what stays by it, and by the other
  pub same_part : part t first chosen ≡ part t second chosen
  same_part = λ i. record {
    processes = map (left_process (same_stays i)) t.processes;
    initial = t.initial;
    final_values = filter_by (stays_final t first chosen) (stays_final t second chosen) t.final_values (λ entry c. same_final entry) i;
    before = before_same i;
  }
    where
      before_same : map (new_pair (stays t first chosen)) (take 4096 (filter (is_told t first (stays t first chosen)) (left_pairs t (stays t first chosen)))) ≡ map (new_pair (stays t second chosen)) (take 4096 (filter (is_told t second (stays t second chosen)) (left_pairs t (stays t second chosen))))
      before_same = ap (λ l. map (new_pair (stays t first chosen)) (take 4096 l)) (same_pairs (stays t first chosen))
          ∙ ap (λ (left : OpName → Option Op). map (new_pair left) (take 4096 (filter (is_told t second left) (left_pairs t left)))) same_stays

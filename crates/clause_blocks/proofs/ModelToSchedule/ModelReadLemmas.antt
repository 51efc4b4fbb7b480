-- In the order of a model each operation reads right, and each final value is held in the end.
use Rattle.std.proofs.Common.{◌≡◌, ℕ, List, [], ◌∷◌, ◌++◌, length, map, Bool, true, refl, ap, sym, ◌∙◌, arith, inl, inr, subst}
use Rattle.std.specs.Prelude.{◌≢◌, Option, Some, None, IsSome, ◌==◌}
use Rattle.std.specs.List.{Contains}
use Rattle.std.proofs.lemmas.Bool.{and_parts, eqb-true}
use Rattle.std.proofs.lemmas.List.Elements.{Contains-append_right}
use Rattle.dimacs.specs.Models.{IsModel}
use Rattle.trace_semantics.specs.declared.operation.Op.{Op}
use Rattle.trace_semantics.specs.declared.operation.Op.TheVariants.{Read, Write, Update}
use Rattle.trace_semantics.specs.declared.operation.OpName.{OpName}
use Rattle.trace_semantics.specs.declared.operation.Origin.{Origin}
use Rattle.trace_semantics.specs.declared.operation.Origin.TheVariants.{Any, Initial, Operation}
use Rattle.trace_semantics.specs.Interleaving.{StandsBefore}
use Rattle.trace_semantics.specs.Judgement.{is_held, is_the_op}
use Rattle.trace_semantics.specs.Legal.{ComesFrom, ReadsRight, IsLegal}
use Rattle.trace_semantics.specs.Operation.{location_of, value_read, origin_of}
use Rattle.trace_semantics.specs.Trace.{TraceValue, IsTrace, operation_at, value_of}
use Rattle.trace_semantics.specs.ValueAfter.{value_left_at, value_after, last_writer}
use Rattle.trace_semantics.proofs.ElementLemmas.{placed, none_in, tail_in, from_map, from_filter, cases_in}
use Rattle.trace_semantics.proofs.NameLemmas.{same_name}
use Rattle.trace_semantics.proofs.OrderLemmas.{stands_behind, stands_ahead, given_entry}
use Rattle.trace_semantics.proofs.CauseLemmas.{held_same}
use Rattle.restriction.proofs.StandLemmas.{stands_left}
use Rattle.var_layout.specs.declared.candidate.Candidate.{Candidate}
use Rattle.var_layout.specs.declared.candidate.Candidate.TheVariants.{InitialValue, Writer}
use Rattle.var_layout.specs.Candidates.{sources, value_from, is_read, is_allowed, is_candidate}
use Rattle.var_layout.specs.FinalVariables.{is_untouched}
use Rattle.var_layout.specs.Numbers.{name_at, number_of, left_at, writers, others, other_writers}
use Rattle.var_layout.proofs.WriterLemmas.{from_others}
use Rattle.clause_blocks.specs.Clauses.{clauses_of}
use Rattle.clause_blocks.specs.ModelOrder.{IsInOrderOf}
use Rattle.clause_blocks.proofs.NamesInOrder.LastWriterLemmas.{GivesNone, IsLast, value_unwritten, writer_unwritten, value_written, writer_written}
use Rattle.clause_blocks.proofs.ModelToSchedule.ModelChoiceLemmas.{model_read, IsLastWriter, model_final}
use Rattle.clause_blocks.proofs.ModelToSchedule.ModelClauseLemmas.{Meets, order_by}
use Rattle.clause_blocks.proofs.ModelToSchedule.ModelLegalLemmas.{came, ahead_stands, interleaved}
use Rattle.clause_blocks.proofs.NumbersOfNames.OperationNumberLemmas.{number_is, known_at}
use Rattle.clause_blocks.proofs.NamesInOrder.StandLemmas.{stands_once}
use Rattle.clause_blocks.proofs.NumbersOfNames.WriterNumberLemmas.{to_others, numbers_apart, known_op, op_numbered, reader_listed, candidates_are, other_writers_are, writer_known, writer_numbered, IsWriter, writer_at}

-- a function gives nothing where giving something is absurd
gives_none : {A B : Type 0} (f : A → Option B) (xs : List A) → ((x : A) → Contains xs x → (y : B) → f x ≡ Some y → ⊥) → GivesNone f xs
gives_none f xs h x c = none_at (f x) (h x c)
  where
    none_at : {B : Type 0} (o : Option B) → ((y : B) → o ≡ Some y → ⊥) → o ≡ None
    none_at None h = refl
    none_at (Some y) h = absurd (h y refl)

read_is : (o : Option ℕ) (d : ℕ) → is_read o (Some d) ≡ true → o ≡ Some d
read_is None d h = absurd (cc)
read_is (Some e) d h = ap Some (sym (eqb-true d e h))

initial_comes : (t : TraceValue) (names : List OpName) (location : List ℕ) (origin : Origin) → is_allowed t origin InitialValue ≡ true → last_writer t location names ≡ None → ComesFrom t names location origin
initial_comes t names location Any h e = tt
initial_comes t names location Initial h e = e
initial_comes t names location (Operation n) h e = absurd (cc)

writer_comes : (t : TraceValue) (names : List OpName) (location : List ℕ) (origin : Origin) (w : ℕ) (x : OpName) → is_allowed t origin (Writer w) ≡ true → name_at t w ≡ Some x → last_writer t location names ≡ Some x → ComesFrom t names location origin
writer_comes t names location Any w x h f e = tt
writer_comes t names location Initial w x h f e = absurd (cc)
writer_comes t names location (Operation n) w x h f e =
    let same : x ≡ n = same_name x n (sym (ap (λ o. is_the_op o n) f) ∙ h) in
    e ∙ ap Some same

-- an operation that reads nothing has no origin
no_origin : (op : Op) → value_read op ≡ None → origin_of op ≡ Any
no_origin (Read location value origin span) e = absurd (cc)
no_origin (Write location value span) e = refl
no_origin (Update location read left origin span) e = absurd (cc)

module _ (value : ℕ → Bool) (t : TraceValue) (names : List OpName) (ok : IsTrace t) (model : IsModel value (clauses_of t)) (order : IsInOrderOf value t names) where
  apart_at : (m n : OpName) → StandsBefore names m n → m ≢ n
  apart_at m n s e = order.all.once n (subst (λ w. StandsBefore names w n) e s)

  -- the operation stands here, and the candidate is the one from which it reads
  module _ (before : List OpName) (n : OpName) (after : List OpName) (op : Op) (parts : names ≡ before ++ n ∷ after) (op_is : operation_at t n ≡ Some op) where
    n_known : IsSome (operation_at t n)
    n_known = known_op t n op op_is

    -- another writer before it
    writer_before : (x : OpName) (y : ℕ) → Contains before x → value_left_at t (location_of op) x ≡ Some y → Contains (other_writers t (number_of t n)) (number_of t x)
    writer_before x y c e =
        subst (λ l. Contains l (number_of t x)) (sym (other_writers_are t (number_of t n) op (op_numbered t ok n op op_is)))
        (to_others (number_of t n) (writers t (location_of op)) (number_of t x) (writer_numbered t ok (location_of op) x y e)
        (numbers_apart t ok x n (writer_known t (location_of op) x y e) n_known (apart_at x n (stands_behind names before n after x parts c))))

    -- the literal that says that it stands before an operation which stands before it
    not_ahead : (x : OpName) → IsSome (operation_at t x) → Contains before x → order_by value t (number_of t n) (number_of t x) ≡ true → ⊥
    not_ahead x h c e =
        let s = stands_behind names before n after x parts c in
        stands_once names order.all.once x n s (ahead_stands value t names ok order n x n_known h (λ f. apart_at x n s (sym f)) e)

    none_before : Meets (order_by value t) t (number_of t n) InitialValue → GivesNone (value_left_at t (location_of op)) before
    none_before meets = gives_none (value_left_at t (location_of op)) before (λ x c y e.
        not_ahead x (writer_known t (location_of op) x y e) c (meets (number_of t x) (writer_before x y c e)))

    -- nor does another writer stand between the writer from which it reads and it
    not_between : (w : ℕ) → Meets (order_by value t) t (number_of t n) (Writer w) → (at : IsWriter t (location_of op) w) → IsSome (operation_at t at.name) → number_of t at.name ≡ w →
        (front back : List OpName) → before ≡ front ++ at.name ∷ back → (x : OpName) → Contains back x → (y : ℕ) → value_left_at t (location_of op) x ≡ Some y → ⊥
    not_between w meets at w_known w_number front back e x c y leaves =
        let x_known = writer_known t (location_of op) x y leaves in
        let listed : Contains before x = subst (λ l. Contains l x) (sym e) (Contains-append_right front (at.name ∷ back) x (tail_in at.name back x c)) in
        let s : StandsBefore names at.name x = subst (λ l. StandsBefore l at.name x) (sym parts) (stands_left before (n ∷ after) at.name x (stands_ahead before front at.name back x e c)) in
        let apart : x ≢ at.name = λ f. apart_at at.name x s (sym f) in
        let numbers : number_of t x ≢ w = λ f. numbers_apart t ok x at.name x_known w_known apart (f ∙ sym w_number) in
        elim (meets.1 (number_of t x) (to_others w (other_writers t (number_of t n)) (number_of t x) (writer_before x y listed leaves) numbers)) [
          | inl before_w ↦ stands_once names order.all.once at.name x s
              (ahead_stands value t names ok order x at.name x_known w_known apart (subst (λ k. order_by value t (number_of t x) k ≡ true) (sym w_number) before_w))
          | inr behind_n ↦ not_ahead x x_known listed behind_n
        ]

    last_before : (w : ℕ) → Meets (order_by value t) t (number_of t n) (Writer w) → (at : IsWriter t (location_of op) w) → w ≢ number_of t n → IsLast (value_left_at t (location_of op)) before at.name at.value
    last_before w meets at apart =
        let w_known = known_at t ok w at.name at.named in
        let w_number : number_of t at.name ≡ w = number_is t ok w at.name at.named in
        let names_apart : at.name ≢ n = λ e. apart (sym w_number ∙ ap (number_of t) e) in
        let s = ahead_stands value t names ok order at.name n w_known n_known names_apart (subst (λ k. order_by value t k (number_of t n) ≡ true) (sym w_number) meets.0) in
        let here = placed before at.name (came names before n after order.all.once parts at.name (order.all.each at.name w_known) s) in
        record {
          front = here.front;
          back = here.back;
          parts = here.parts;
          gives = at.leaves;
          none_behind = gives_none (value_left_at t (location_of op)) here.back (not_between w meets at w_known w_number here.front here.back here.parts);
        }

    -- a writer that is a source writes the location, and is another operation
    source_writes : (w : ℕ) → Contains (sources t (number_of t n)) (Writer w) → Contains (writers t (location_of op)) w × (w ≢ number_of t n)
    source_writes w c =
        elim (cases_in InitialValue (map (λ (v : ℕ). Writer v) (other_writers t (number_of t n))) (Writer w) c) [
          | inl e ↦ absurd (cc)
          | inr d ↦ (
              let at = from_map (λ (v : ℕ). Writer v) (other_writers t (number_of t n)) (Writer w) d in
              let same : at.0 ≡ w = cc in
              from_others (number_of t n) (writers t (location_of op)) w
              (subst (λ l. Contains l w) (other_writers_are t (number_of t n) op (op_numbered t ok n op op_is)) (subst (λ v. Contains (other_writers t (number_of t n)) v) same at.1)))
        ]

    reads_from_candidate : (d : ℕ) → value_read op ≡ Some d → (c : Candidate) → Contains (sources t (number_of t n)) c → Meets (order_by value t) t (number_of t n) c →
        is_read (value_from t (location_of op) c) (value_read op) ≡ true → is_allowed t (origin_of op) c ≡ true → ReadsRight t before op
    reads_from_candidate d reads InitialValue listed meets right allowed =
        let none = none_before meets in
        let held : value_of t.initial (location_of op) ≡ Some d = read_is (value_of t.initial (location_of op)) d (ap (is_read (value_of t.initial (location_of op))) (sym reads) ∙ right) in
        record {
          value = λ e f. value_unwritten t (location_of op) before none ∙ held ∙ sym reads ∙ f;
          source = initial_comes t before (location_of op) (origin_of op) allowed (writer_unwritten t (location_of op) before none);
        }
    reads_from_candidate d reads (Writer w) listed meets right allowed =
        let source = source_writes w listed in
        let at = writer_at t (location_of op) w source.0 in
        let last = last_before w meets at source.1 in
        let held : left_at t (location_of op) w ≡ Some d = read_is (left_at t (location_of op) w) d (ap (is_read (left_at t (location_of op) w)) (sym reads) ∙ right) in
        record {
          value = λ e f. value_written t (location_of op) before at.name at.value last ∙ sym at.left ∙ held ∙ sym reads ∙ f;
          source = writer_comes t before (location_of op) (origin_of op) w at.name allowed at.named (writer_written t (location_of op) before at.name at.value last);
        }

    no_read : value_read op ≡ None → ReadsRight t before op
    no_read e = record {
      value = λ d f. absurd (let clash : Some d ≡ None = sym f ∙ e in cc);
      source = subst (ComesFrom t before (location_of op)) (sym (no_origin op e)) tt;
    }

    reads_by : (o : Option ℕ) → value_read op ≡ o → ReadsRight t before op
    reads_by None e = no_read e
    reads_by (Some d) e =
        let chosen = model_read value t model (number_of t n) (reader_listed t ok n op d op_is e) in
        let listed = from_filter (is_candidate t op) (sources t (number_of t n)) chosen.0
        (subst (λ l. Contains l chosen.0) (candidates_are t (number_of t n) op (op_numbered t ok n op op_is)) chosen.1.listed) in
        let parted = and_parts (is_read (value_from t (location_of op) chosen.0) (value_read op)) (is_allowed t (origin_of op) chosen.0) listed.1 in
        reads_from_candidate d e chosen.0 listed.0 chosen.1.meets parted.0 parted.1

  reads_right : (before : List OpName) (n : OpName) (after : List OpName) (op : Op) → names ≡ before ++ n ∷ after → operation_at t n ≡ Some op → ReadsRight t before op
  reads_right before n after op parts op_is = reads_by before n after op parts op_is (value_read op) refl

  -- a final value is there from the start
  unwritten : (entry : List ℕ × ℕ) → is_untouched t entry ≡ true → value_after t entry.0 names ≡ Some entry.1
  unwritten entry h =
      let parted = and_parts (length (writers t entry.0) == 0) (is_held (value_of t.initial entry.0) entry.1) h in
      let none = gives_none (value_left_at t entry.0) names (λ x c y e. none_in (number_of t x)
      (subst (λ l. Contains l (number_of t x)) (no_length (writers t entry.0) (eqb-true (length (writers t entry.0)) 0 parted.0)) (writer_numbered t ok entry.0 x y e))) in
      value_unwritten t entry.0 names none ∙ held_same (value_of t.initial entry.0) entry.1 parted.1
    where
      no_length : (xs : List ℕ) → length xs ≡ 0 → xs ≡ []
      no_length [] e = refl
      no_length (x ∷ xs) e = absurd (omega (arith, e))

  -- or the last writer leaves it
  not_last : (entry : List ℕ × ℕ) (w : ℕ) → ((v : ℕ) → Contains (others w (writers t entry.0)) v → order_by value t v w ≡ true) → (at : IsWriter t entry.0 w) →
      (front back : List OpName) → names ≡ front ++ at.name ∷ back → (x : OpName) → Contains back x → (y : ℕ) → value_left_at t entry.0 x ≡ Some y → ⊥
  not_last entry w last at front back e x c y leaves =
      let x_known = writer_known t entry.0 x y leaves in
      let w_known = known_at t ok w at.name at.named in
      let w_number : number_of t at.name ≡ w = number_is t ok w at.name at.named in
      let s = stands_ahead names front at.name back x e c in
      let apart : x ≢ at.name = λ f. apart_at at.name x s (sym f) in
      let numbers : number_of t x ≢ w = λ f. numbers_apart t ok x at.name x_known w_known apart (f ∙ sym w_number) in
      let before_w = last (number_of t x) (to_others w (writers t entry.0) (number_of t x) (writer_numbered t ok entry.0 x y leaves) numbers) in
      stands_once names order.all.once at.name x s
      (ahead_stands value t names ok order x at.name x_known w_known apart (subst (λ k. order_by value t (number_of t x) k ≡ true) (sym w_number) before_w))

  written : (entry : List ℕ × ℕ) (w : ℕ) → IsLastWriter (order_by value t) t entry w → value_after t entry.0 names ≡ Some entry.1
  written entry w is =
      let listed = from_filter (λ (v : ℕ). is_held (left_at t entry.0 v) entry.1) (writers t entry.0) w is.listed in
      let at = writer_at t entry.0 w listed.0 in
      let here = placed names at.name (order.all.each at.name (known_at t ok w at.name at.named)) in
      let last : IsLast (value_left_at t entry.0) names at.name at.value = record {
        front = here.front;
        back = here.back;
        parts = here.parts;
        gives = at.leaves;
        none_behind = gives_none (value_left_at t entry.0) here.back (not_last entry w is.last at here.front here.back here.parts);
      } in
      value_written t entry.0 names at.name at.value last ∙ sym at.left ∙ held_same (left_at t entry.0 w) entry.1 listed.1

  final_held : (location : List ℕ) (d : ℕ) → value_of t.final_values location ≡ Some d → value_after t location names ≡ Some d
  final_held location d e =
      let given = given_entry t.final_values location d e in
      subst (λ l. value_after t l names ≡ Some d) given.location_is (elim (model_final value t model given.entry given.listed) [
        | inl h ↦ unwritten given.entry h
        | inr is ↦ written given.entry is.0 is.1
      ] ∙ ap Some given.value_is)

  pub model_legal : IsLegal t names
  model_legal = record { interleaving = interleaved value t names ok model order; reads = reads_right; finals = final_held }

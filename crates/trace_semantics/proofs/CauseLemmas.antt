-- What it means that a name has no fault after the names before it.
use Rattle.std.proofs.Common.{◌≡◌, ℕ, ◌-◌, List, Bool, true, false, cond, refl, ap, ◌∙◌}
use Rattle.std.specs.Prelude.{Option, Some, None, is_none, not}
use Rattle.std.specs.List.{list_all}
use Rattle.std.proofs.lemmas.Bool.{eqb-true, eq-eqb}
use Rattle.trace_semantics.specs.declared.judgement.IllegalCause.{IllegalCause}
use Rattle.trace_semantics.specs.declared.judgement.IllegalCause.TheVariants.{RepeatedOp, OutOfProgramOrder, WrongRead, MissingOp, WrongFinal, BeforeBroken, WrongSource}
use Rattle.trace_semantics.specs.declared.operation.Op.{Op}
use Rattle.trace_semantics.specs.declared.operation.OpName.{OpName}
use Rattle.trace_semantics.specs.declared.operation.Origin.{Origin}
use Rattle.trace_semantics.specs.declared.operation.Origin.TheVariants.{Any, Initial, Operation}
use Rattle.trace_semantics.specs.Judgement.{has_come, put_before, is_held, is_the_op, is_right_read, is_right_source, fault_of_op, fault_of_named, fault_at, fault_of_whole}
use Rattle.trace_semantics.specs.Legal.{ComesFrom}
use Rattle.trace_semantics.specs.Operation.{location_of, value_read, origin_of}
use Rattle.trace_semantics.specs.Trace.{TraceValue, operation_at, operation_names, first_names}
use Rattle.trace_semantics.specs.ValueAfter.{value_after, last_writer}
use Rattle.trace_semantics.proofs.NameLemmas.{same_name, name_same}

pub held_same : (o : Option ℕ) (d : ℕ) → is_held o d ≡ true → o ≡ Some d
held_same None d h = absurd (cc)
held_same (Some e) d h = ap Some (eqb-true e d h)

pub same_held : (o : Option ℕ) (d : ℕ) → o ≡ Some d → is_held o d ≡ true
same_held o d e = ap (λ p. is_held p d) e ∙ eq-eqb d d refl

pub the_op_same : (o : Option OpName) (n : OpName) → is_the_op o n ≡ true → o ≡ Some n
the_op_same None n h = absurd (cc)
the_op_same (Some m) n h = ap Some (same_name m n h)

pub same_the_op : (o : Option OpName) (n : OpName) → o ≡ Some n → is_the_op o n ≡ true
same_the_op o n e = ap (λ p. is_the_op p n) e ∙ name_same n n refl

pub read_right : (held read : Option ℕ) → is_right_read held read ≡ true → (d : ℕ) → read ≡ Some d → held ≡ Some d
read_right held None h d e = absurd (cc)
read_right held (Some c) h d e = held_same held c h ∙ e

pub right_read : (held read : Option ℕ) → ((d : ℕ) → read ≡ Some d → held ≡ Some d) → is_right_read held read ≡ true
right_read held None h = refl
right_read held (Some d) h = same_held held d (h d refl)

none_none : {X : Type 0} (o : Option X) → is_none o ≡ true → o ≡ None
none_none None h = refl
none_none (Some x) h = absurd (cc)

pub source_right : (t : TraceValue) (names : List OpName) (location : List ℕ) (origin : Origin) → is_right_source (last_writer t location names) origin ≡ true → ComesFrom t names location origin
source_right t names location Any h = tt
source_right t names location Initial h = none_none (last_writer t location names) h
source_right t names location (Operation n) h = the_op_same (last_writer t location names) n h

pub right_source : (t : TraceValue) (names : List OpName) (location : List ℕ) (origin : Origin) → ComesFrom t names location origin → is_right_source (last_writer t location names) origin ≡ true
right_source t names location Any h = refl
right_source t names location Initial h = ap is_none h
right_source t names location (Operation n) h = same_the_op (last_writer t location names) n h

-- a known operation has no fault after these names
pub record IsFine (t : TraceValue) (before : List OpName) (n : OpName) (op : Op) : Type 0 where
  pub new : has_come before n ≡ false
  pub ordered : list_all (has_come before) (first_names n.process (n.place - 1)) ≡ true
  pub reads : is_right_read (value_after t (location_of op) before) (value_read op) ≡ true
  pub put : list_all (has_come before) (put_before t n) ≡ true
  pub source : is_right_source (last_writer t (location_of op) before) (origin_of op) ≡ true

abbrev first_of_five : Bool → Bool → Bool → Bool → Bool → Option IllegalCause
first_of_five a b c d e = cond a (Some RepeatedOp) (cond (not b) (Some OutOfProgramOrder) (cond (not c) (Some WrongRead) (cond (not d) (Some BeforeBroken) (cond (not e) (Some WrongSource) None))))

none_of_five : (a b c d e : Bool) → first_of_five a b c d e ≡ None → (a ≡ false) × (b ≡ true) × (c ≡ true) × (d ≡ true) × (e ≡ true)
none_of_five true b c d e h = absurd (cc)
none_of_five false false c d e h = absurd (cc)
none_of_five false true false d e h = absurd (cc)
none_of_five false true true false e h = absurd (cc)
none_of_five false true true true false h = absurd (cc)
none_of_five false true true true true h = (refl, refl, refl, refl, refl)

five_none : (a b c d e : Bool) → a ≡ false → b ≡ true → c ≡ true → d ≡ true → e ≡ true → first_of_five a b c d e ≡ None
five_none a b c d e ha hb hc hd he i = first_of_five (ha i) (hb i) (hc i) (hd i) (he i)

pub fine_from_none : (t : TraceValue) (before : List OpName) (n : OpName) (op : Op) → fault_of_op t before n op ≡ None → IsFine t before n op
fine_from_none t before n op h =
    let all = none_of_five (has_come before n) (list_all (has_come before) (first_names n.process (n.place - 1))) (is_right_read (value_after t (location_of op) before) (value_read op))
    (list_all (has_come before) (put_before t n)) (is_right_source (last_writer t (location_of op) before) (origin_of op)) h in
    record { new = all.0; ordered = all.1; reads = all.2; put = all.3; source = all.4 }

pub none_from_fine : (t : TraceValue) (before : List OpName) (n : OpName) (op : Op) → IsFine t before n op → fault_of_op t before n op ≡ None
none_from_fine t before n op fine =
    five_none (has_come before n) (list_all (has_come before) (first_names n.process (n.place - 1))) (is_right_read (value_after t (location_of op) before) (value_read op))
    (list_all (has_come before) (put_before t n)) (is_right_source (last_writer t (location_of op) before) (origin_of op)) fine.new fine.ordered fine.reads fine.put fine.source

-- a name without a fault names an operation
known_of : (t : TraceValue) (before : List OpName) (n : OpName) (o : Option Op) → fault_of_named t before n o ≡ None → (op : Op) × (o ≡ Some op) × IsFine t before n op
known_of t before n None h = absurd (cc)
known_of t before n (Some op) h = (op, refl, fine_from_none t before n op h)

pub known_fine : (t : TraceValue) (before : List OpName) (n : OpName) → fault_at t before n ≡ None → (op : Op) × (operation_at t n ≡ Some op) × IsFine t before n op
known_fine t before n h = known_of t before n (operation_at t n) h

pub fine_known : (t : TraceValue) (before : List OpName) (n : OpName) (op : Op) → operation_at t n ≡ Some op → IsFine t before n op → fault_at t before n ≡ None
fine_known t before n op e fine = ap (fault_of_named t before n) e ∙ none_from_fine t before n op fine

-- the whole has no fault
pub record IsFineWhole (t : TraceValue) (names : List OpName) : Type 0 where
  pub all : list_all (has_come names) (operation_names t) ≡ true
  pub finals : list_all (λ (entry : List ℕ × ℕ). is_held (value_after t entry.0 names) entry.1) t.final_values ≡ true

abbrev first_of_two : Bool → Bool → Option IllegalCause
first_of_two a b = cond (not a) (Some MissingOp) (cond (not b) (Some WrongFinal) None)

none_of_two : (a b : Bool) → first_of_two a b ≡ None → (a ≡ true) × (b ≡ true)
none_of_two false b h = absurd (cc)
none_of_two true false h = absurd (cc)
none_of_two true true h = (refl, refl)

two_none : (a b : Bool) → a ≡ true → b ≡ true → first_of_two a b ≡ None
two_none a b ha hb i = first_of_two (ha i) (hb i)

pub whole_from_none : (t : TraceValue) (names : List OpName) → fault_of_whole t names ≡ None → IsFineWhole t names
whole_from_none t names h =
    let both = none_of_two (list_all (has_come names) (operation_names t)) (list_all (λ (entry : List ℕ × ℕ). is_held (value_after t entry.0 names) entry.1) t.final_values) h in
    record { all = both.0; finals = both.1 }

pub none_from_whole : (t : TraceValue) (names : List OpName) → IsFineWhole t names → fault_of_whole t names ≡ None
none_from_whole t names fine =
    two_none (list_all (has_come names) (operation_names t)) (list_all (λ (entry : List ℕ × ℕ). is_held (value_after t entry.0 names) entry.1) t.final_values) fine.all fine.finals

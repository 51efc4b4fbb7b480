-- The judge's walk: its start, a turn, its exits.
use Rattle.std.proofs.Common.{◌≡◌, ◌<◌, ◌+◌, ◌-◌, ℕ, suc, List, [], ◌∷◌, ◌++◌, length, take, drop, get_or, true, false, ◌||◌, refl, ap, sym, ◌∙◌, subst, arith, inl, inr}
use Rattle.std.specs.Prelude.{Some, None}
use Rattle.std.specs.List.{slice_get, list_all}
use Rattle.std.proofs.Math.Seq.{drop-cons, take-length}
use Rattle.std.proofs.lemmas.List.{take_more, length-take-le, take-append-drop}
use Rattle.std.proofs.lemmas.List.Folds.{list_any-append}
use Rattle.std.proofs.lemmas.Option.{slice_get_within, get_or_from_slice_get, slice_get_read}
use Rattle.text_lines.specs.FirstFault.{IsFaultless, IsFirstFault}
use Rattle.text_lines.proofs.FaultLemmas.{faultless_nil, faultless_push}
use Rattle.trace_semantics.specs.declared.judgement.IllegalCause.{IllegalCause}
use Rattle.trace_semantics.specs.declared.judgement.Judgement.TheVariants.{Legal, Illegal}
use Rattle.schedule_judge.specs.declared.memory.Memory.{Memory}
use Rattle.trace_semantics.specs.declared.operation.Op.{Op}
use Rattle.trace_semantics.specs.declared.operation.OpName.{OpName}
use Rattle.schedule_judge.specs.declared.survey.Survey.{Survey}
use Rattle.trace_semantics.specs.Judgement.{has_come, fault_at, fault_of_op, fault_of_named, fault_of_whole, IsJudgement}
use Rattle.schedule_judge.specs.Come.{AreCountsOfCome, IsCountSet}
use Rattle.schedule_judge.specs.Endings.{have_come_in_front, IsFirstMissing}
use Rattle.schedule_judge.specs.Memory.{IsMemoryAfter, Runs}
use Rattle.schedule_judge.specs.Survey.{IsSurvey}
use Rattle.trace_semantics.specs.NameNumbers.{number_of}
use Rattle.trace_semantics.specs.Operation.{same_op}
use Rattle.trace_semantics.specs.Trace.{TraceValue, operation_at, first_names}
use Rattle.trace_semantics.proofs.NameLemmas.{same_name}
use Rattle.schedule_judge.specs.Walk.{IsWalk, IsInProgramOrder}
use Rattle.schedule_judge.proofs.ComeLemmas.{counts_none, counts_more, either_true, in_order}
use Rattle.schedule_judge.proofs.EndingLemmas.{front_more}
use Rattle.schedule_judge.proofs.MemoryLemmas.{memory_run}
use Rattle.schedule_judge.proofs.ProgramOrderLemmas.{first_have_come}

-- nothing has been run
pub walk_none : (s : Survey) (counts : List ℕ) (state : Memory) → counts ≡ [] → IsMemoryAfter s.trace.now s.names.now [] state → IsWalk s counts state 0
walk_none s counts state none start = record {
  faultless = faultless_nil (fault_at s.trace.now);
  in_program_order = λ process k come. absurd (cc);
  come = counts_none s.processes counts none;
  memory = start;
}

come_more : (done : List OpName) (n m : OpName) → has_come done m ≡ true → has_come (done ++ n ∷ []) m ≡ true
come_more done n m e = list_any-append (same_op m) done (n ∷ []) ∙ ap (λ b. b || (same_op m n || false)) e

order_more : (t : TraceValue) (done : List OpName) (n : OpName) (op : Op) → IsInProgramOrder done → fault_of_op t done n op ≡ None → IsInProgramOrder (done ++ n ∷ [])
order_more t done n op order right process k come =
    let next : OpName = record { process = process; place = k + 2 } in
    let here : OpName = record { process = process; place = k + 1 } in
    elim (either_true (has_come done next) (same_op next n) (sym (list_any-append (same_op next) done (n ∷ [])) ∙ come)) [
      | inl before ↦ come_more done n here (order process k before)
      | inr same ↦
          let e : next ≡ n = same_name next n same in
          let all : list_all (has_come done) (first_names n.process (n.place - 1)) ≡ true = (in_order (has_come done n) (list_all (has_come done) (first_names n.process (n.place - 1))) _ right).1 in
          let all_of : list_all (has_come done) (first_names process (k + 2 - 1)) ≡ true = ap (λ (m : OpName). list_all (has_come done) (first_names m.process (m.place - 1))) e ∙ all in
          let one : suc k ≡ k + 2 - 1 = omega arith in
          let last : suc k ≡ k + 1 = omega arith in
          come_more done n here (ap (λ j. has_come done (record { process = process; place = j })) (sym last) ∙ sym (first_have_come done process k order) ∙ ap (λ j. list_all (has_come done) (first_names process j)) one ∙ all_of)
    ]

one_more : (names : List OpName) (i : ℕ) (n : OpName) → slice_get names i ≡ Some n → take (i + 1) names ≡ take i names ++ n ∷ []
one_more names i n at = take_more names i n (slice_get_within names i n at) ∙ ap (λ m. take i names ++ m ∷ []) (get_or_from_slice_get names i n n at)

-- one more operation, which has no fault, is run
pub walk_more : (s : Survey) (counts more : List ℕ) (old new : Memory) (i : ℕ) (n : OpName) (op : Op) → IsSurvey s → IsWalk s counts old i → slice_get s.names.now i ≡ Some n → operation_at s.trace.now n ≡ Some op → fault_of_op s.trace.now (take i s.names.now) n op ≡ None → Runs old op i new → IsCountSet counts (number_of s.processes n.process) n.place more → IsWalk s more new (i + 1)
walk_more s counts more old new i n op survey walk at known right runs counted =
    let t = s.trace.now in
    let names = s.names.now in
    let e : take i names ++ n ∷ [] ≡ take (i + 1) names = sym (one_more names i n at) in
    record {
      faultless = subst (λ done. IsFaultless (fault_at t) done) e (faultless_push (fault_at t) (take i names) n walk.faultless (ap (fault_of_named t (take i names) n) known ∙ right));
      in_program_order = subst (λ done. IsInProgramOrder done) e (order_more t (take i names) n op walk.in_program_order right);
      come = subst (λ done. AreCountsOfCome s.processes more done) e (counts_more t s.processes counts more (take i names) n op survey.processes walk.come walk.in_program_order known right counted);
      memory = subst (λ done. IsMemoryAfter t names done new) e (memory_run t names (take i names) old new n op i walk.memory at known runs);
    }

-- the operations in front of the first ending of one that has not come have come after one more name too
pub ended_more : (s : Survey) (first i : ℕ) (n : OpName) → IsFirstMissing (take i s.names.now) s.endings.items first → slice_get s.names.now i ≡ Some n → have_come_in_front (take (i + 1) s.names.now) s.endings.items first ≡ true
ended_more s first i n missing at =
    subst (λ done. have_come_in_front done s.endings.items first ≡ true) (sym (one_more s.names.now i n at)) (front_more (take i s.names.now) s.endings.items first n (come_more (take i s.names.now) n) missing.come)

parts_at : (names : List OpName) (i : ℕ) (n : OpName) → slice_get names i ≡ Some n → names ≡ take i names ++ n ∷ drop (suc i) names
parts_at names i n at = sym (take-append-drop i names) ∙ ap (λ rest. take i names ++ rest) (drop-cons names i n (slice_get_within names i n at) ∙ ap (λ m. m ∷ drop (suc i) names) (get_or_from_slice_get names i n n at))

here : (s : Survey) (counts : List ℕ) (state : Memory) (i : ℕ) (n : OpName) (cause : IllegalCause) → IsWalk s counts state i → slice_get s.names.now i ≡ Some n → fault_at s.trace.now (take i s.names.now) n ≡ Some cause → IsFirstFault (fault_at s.trace.now) s.names.now (i + 1) cause
here s counts state i n cause walk at wrong = record {
  before = take i s.names.now;
  item = n;
  after = drop (suc i) s.names.now;
  parts = parts_at s.names.now i n at;
  counted = let within : i < length s.names.now = slice_get_within s.names.now i n at in ap (λ l. l + 1) (sym (length-take-le i s.names.now (omega arith)));
  faulty = wrong;
  first = walk.faultless;
}

-- the name at this place has a fault
pub judged_here : (s : Survey) (counts : List ℕ) (state : Memory) (i : ℕ) (n : OpName) (cause : IllegalCause) (t : TraceValue) (names : List OpName) → s.trace.now ≡ t → s.names.now ≡ names → IsWalk s counts state i → slice_get s.names.now i ≡ Some n → fault_at s.trace.now (take i s.names.now) n ≡ Some cause → IsJudgement t names (Illegal cause (i + 1))
judged_here s counts state i n cause t names same_trace same_names walk at wrong =
    inl (subst (λ u. IsFirstFault (fault_at u) names (i + 1) cause) same_trace (subst (λ ms. IsFirstFault (fault_at s.trace.now) ms (i + 1) cause) same_names (here s counts state i n cause walk at wrong)))

whole : (s : Survey) (counts : List ℕ) (state : Memory) → IsWalk s counts state (length s.names.now) → IsFaultless (fault_at s.trace.now) s.names.now
whole s counts state walk = subst (λ done. IsFaultless (fault_at s.trace.now) done) (take-length s.names.now) walk.faultless

-- nothing is wrong
pub judged_legal : (s : Survey) (counts : List ℕ) (state : Memory) (last : ℕ) (t : TraceValue) (names : List OpName) → s.trace.now ≡ t → s.names.now ≡ names → IsWalk s counts state last → last ≡ length s.names.now → fault_of_whole s.trace.now s.names.now ≡ None → IsJudgement t names Legal
judged_legal s counts state last t names same_trace same_names walk all right = (
  subst (λ u. IsFaultless (fault_at u) names) same_trace (subst (λ ms. IsFaultless (fault_at s.trace.now) ms) same_names (whole s counts state (subst (λ l. IsWalk s counts state l) all walk))),
  (λ i. fault_of_whole (sym same_trace i) (sym same_names i)) ∙ right,
)

-- no name has a fault, and the whole has
pub judged_whole : (s : Survey) (counts : List ℕ) (state : Memory) (cause : IllegalCause) (last place : ℕ) (t : TraceValue) (names : List OpName) → s.trace.now ≡ t → s.names.now ≡ names → IsWalk s counts state last → last ≡ length s.names.now → place ≡ last + 1 → fault_of_whole s.trace.now s.names.now ≡ Some cause → IsJudgement t names (Illegal cause place)
judged_whole s counts state cause last place t names same_trace same_names walk all here wrong =
    inr (
      subst (λ u. IsFaultless (fault_at u) names) same_trace (subst (λ ms. IsFaultless (fault_at s.trace.now) ms) same_names (whole s counts state (subst (λ l. IsWalk s counts state l) all walk))),
      (λ i. fault_of_whole (sym same_trace i) (sym same_names i)) ∙ wrong,
      here ∙ ap (λ l. l + 1) (all ∙ ap length same_names),
    )

-- the name that a turn of the loop reads
pub found : (ms names : List OpName) (i : ℕ) (n : OpName) → ms ≡ names → i < length names → n ≡ get_or names i n → slice_get ms i ≡ Some n
found ms names i n same within at = ap (λ l. slice_get l i) same ∙ slice_get_read names (length names) i n refl within at

use Rattle.std.proofs.Common.{◌≡◌, ℕ, ◌-◌, ◌<◌, List, ◌∷◌, ◌++◌, true, false, refl, ap, sym, ◌∙◌, arith, inl, inr, subst, append_assoc}
use Rattle.std.specs.Prelude.{Some, None, IsSome, is_some}
use Rattle.std.specs.List.{Contains, filter}
use Rattle.std.proofs.lemmas.Bool.{cases_order, false_from_ne_true}
use Rattle.std.proofs.lemmas.List.Elements.{All-contains, Contains-append_left, Contains-append_right, Contains-append_cases}
use Rattle.text_lines.specs.FirstFault.{IsFaultless}
use Rattle.text_lines.proofs.FaultLemmas.{compared}
use Rattle.trace_semantics.specs.declared.operation.Op.{Op}
use Rattle.trace_semantics.specs.declared.operation.OpName.{OpName}
use Rattle.trace_semantics.specs.Interleaving.{StandsBefore}
use Rattle.trace_semantics.specs.Judgement.{has_come, is_held, paired_before, timed_before, put_before, fault_at, fault_of_whole}
use Rattle.trace_semantics.specs.KnownOrder.{ended_before, IsKnownBefore}
use Rattle.trace_semantics.specs.Legal.{ReadsRight, IsLegal}
use Rattle.trace_semantics.specs.Operation.{location_of, value_read, origin_of, same_op}
use Rattle.trace_semantics.specs.Trace.{TraceValue, IsTrace, operation_at, operation_names, first_names, value_of}
use Rattle.trace_semantics.specs.ValueAfter.{value_after}
use Rattle.trace_semantics.proofs.CauseLemmas.{IsFine, known_fine, IsFineWhole, whole_from_none, held_same, read_right, source_right, fine_known, none_from_whole, same_held, right_read, right_source}
use Rattle.trace_semantics.proofs.ElementLemmas.{placed, in_middle, all_pass, to_map, to_filter, pass_all, from_map, from_filter, cases_in}
use Rattle.trace_semantics.proofs.KnownOrderLemmas.{both_timed}
use Rattle.trace_semantics.proofs.NameLemmas.{name_same, come_in, in_come, to_first, known_named, known_listed, same_name, from_first, earlier_known, listed_known, some_value}
use Rattle.trace_semantics.proofs.OrderLemmas.{stands_behind, follows, given_entry, stands_ahead, entry_given}
use Rattle.trace_semantics.proofs.laws.legal_exactly_where_faultless.Goals as goal

-- A legal schedule has no fault.

module _ (t : TraceValue) (names : List OpName) (ok : IsTrace t) (legal : IsLegal t names) (before : List OpName) (n : OpName) (after : List OpName) (e : names ≡ before ++ n ∷ after) where
  known_here : IsSome (operation_at t n)
  known_here = legal.interleaving.only n (subst (λ l. Contains l n) (sym e) (in_middle before n after))

  not_come : has_come before n ≡ false
  not_come = false_from_ne_true (has_come before n) (λ h. legal.interleaving.once n (stands_behind names before n after n e (come_in before n h)))

  -- an earlier operation of the process has come
  earlier_came : (m : OpName) → Contains (first_names n.process (n.place - 1)) m → Contains before m
  earlier_came m c =
      let at = from_first n.process (n.place - 1) m c in
      let lower : m.place < n.place = omega (arith, at.1, at.2) in
      let comes = legal.interleaving.each m (earlier_known t ok m n known_here at.0 at.1 (omega arith)) in
      elim (Contains-append_cases before (n ∷ after) m (subst (λ l. Contains l m) e comes)) [
        | inl came ↦ came
        | inr rest ↦ elim (cases_in n after m rest) [
          | inl same ↦ absurd (let places : n.place ≡ m.place = ap (λ (k : OpName). k.place) same in omega arith)
          | inr later ↦ absurd (let higher = legal.interleaving.program_order n m (stands_ahead names before n after m e later) (sym at.0) in omega arith)
        ]
      ]

  -- what the trace puts before it
  known_before : (m : OpName) → Contains (put_before t n) m → IsKnownBefore t m n
  known_before m c = elim (Contains-append_cases (paired_before t n) (timed_before t n) m c) [
    | inl paired ↦ (
        let at = from_map (λ (pair : OpName × OpName). pair.0) (filter (λ (pair : OpName × OpName). same_op pair.1 n) t.before) m paired in
        let kept = from_filter (λ (pair : OpName × OpName). same_op pair.1 n) t.before at.0 at.1 in
        let second : at.0.1 ≡ n = same_name at.0.1 n kept.1 in
        let pair : at.0 ≡ (m, n) = λ i. (at.2 i, second i) in
        inl (subst (λ p. Contains t.before p) pair kept.0))
    | inr timed ↦ inr (from_filter (λ k. ended_before t k n) (operation_names t) m timed).1
  ]

  -- has come
  put_came : (m : OpName) → Contains (put_before t n) m → Contains before m
  put_came m c =
      let at_n = follows names m n (legal.interleaving.known_order m n (known_before m c)) in
      elim (compared before at_n.before n n after at_n.after (sym e ∙ at_n.parts)) [
        | inl same ↦ subst (λ l. Contains l m) (sym same.0) at_n.come
        | inr (inl (middle, f)) ↦ absurd (legal.interleaving.once n (stands_behind names at_n.before n at_n.after n at_n.parts (subst (λ l. Contains l n) (sym f) (in_middle before n middle))))
        | inr (inr (middle, f)) ↦ absurd (legal.interleaving.once n (stands_behind names before n after n e (subst (λ l. Contains l n) (sym f) (in_middle at_n.before n middle))))
      ]

  no_fault_here : fault_at t before n ≡ None
  no_fault_here =
      let op = some_value (operation_at t n) known_here in
      let right = legal.reads before n after op.0 e op.1 in
      fine_known t before n op.0 op.1 (record {
        new = not_come;
        ordered = pass_all (has_come before) (first_names n.process (n.place - 1)) (λ m c. in_come before m (earlier_came m c));
        reads = right_read (value_after t (location_of op.0) before) (value_read op.0) right.value;
        put = pass_all (has_come before) (put_before t n) (λ m c. in_come before m (put_came m c));
        source = right_source t before (location_of op.0) (origin_of op.0) right.source;
      })

faultless_from_legal : (t : TraceValue) (names : List OpName) → IsTrace t → IsLegal t names → IsFaultless (fault_at t) names × (fault_of_whole t names ≡ None)
faultless_from_legal t names ok legal = (
  no_fault_here t names ok legal,
  none_from_whole t names (record {
    all = pass_all (has_come names) (operation_names t) (λ n c. in_come names n (legal.interleaving.each n (listed_known t ok n c)));
    finals = pass_all (λ (entry : List ℕ × ℕ). is_held (value_after t entry.0 names) entry.1) t.final_values (λ entry c.
        same_held (value_after t entry.0 names) entry.1 (legal.finals entry.0 entry.1 (entry_given t.final_values entry ok.final_values c)));
  }),
)

-- A list of names without a fault is a legal schedule.

module _ (t : TraceValue) (names : List OpName) (ok : IsTrace t) (faultless : IsFaultless (fault_at t) names) (whole : IsFineWhole t names) where
  here_is_fine : (before : List OpName) (n : OpName) (after : List OpName) → names ≡ before ++ n ∷ after → (op : Op) × (operation_at t n ≡ Some op) × IsFine t before n op
  here_is_fine before n after e = known_fine t before n (faultless before n after e)

  each_comes : (n : OpName) → IsSome (operation_at t n) → Contains names n
  each_comes n h = come_in names n (all_pass (has_come names) (operation_names t) whole.all n (known_listed t n h))

  only_known : (n : OpName) → Contains names n → IsSome (operation_at t n)
  only_known n c = let at = placed names n c in let fine = here_is_fine at.front n at.back at.parts in ap is_some fine.1

  comes_once : (n : OpName) → StandsBefore names n n → ⊥
  comes_once n s =
      let at = follows names n n s in
      let fine = here_is_fine at.before n at.after at.parts in
      let clash : true ≡ false = sym (in_come at.before n at.come) ∙ fine.2.new in
      cc

  -- the first of two names of a process has the lower place
  not_later : (m n : OpName) → StandsBefore names m n → m.process ≡ n.process → n.place < m.place → ⊥
  not_later m n (front, middle, back, e) same later =
      let parts : names ≡ (front ++ m ∷ middle) ++ n ∷ back = e ∙ sym (append_assoc front (m ∷ middle) (n ∷ back)) in
      let fine = here_is_fine front m (middle ++ n ∷ back) e in
      let named = known_named t n (only_known n (subst (λ l. Contains l n) (sym parts) (in_middle (front ++ m ∷ middle) n back))) in
      let listed = to_first m.process (m.place - 1) n (sym same) named.least (omega arith) in
      let came = come_in front n (all_pass (has_come front) (first_names m.process (m.place - 1)) fine.2.ordered n listed) in
      comes_once n (stands_behind names (front ++ m ∷ middle) n back n parts (Contains-append_left front (m ∷ middle) n came))

  in_order : (m n : OpName) → StandsBefore names m n → m.process ≡ n.process → m.place < n.place
  in_order m n s same =
      elim (cases_order m.place n.place) [
        | inl e ↦ absurd (let one : m ≡ n = λ i. record { process = same i; place = e i } in comes_once n (subst (λ k. StandsBefore names k n) one s))
        | inr (inl l) ↦ l
        | inr (inr g) ↦ absurd (not_later m n s same g)
      ]

  put_stands : (m n : OpName) → IsSome (operation_at t n) → Contains (put_before t n) m → StandsBefore names m n
  put_stands m n known listed =
      let at = placed names n (each_comes n known) in
      let fine = here_is_fine at.front n at.back at.parts in
      stands_behind names at.front n at.back m at.parts (come_in at.front m (all_pass (has_come at.front) (put_before t n) fine.2.put m listed))

  order_kept : (m n : OpName) → IsKnownBefore t m n → StandsBefore names m n
  order_kept m n (inl c) =
      let known = All-contains (λ (pair : OpName × OpName). IsSome (operation_at t pair.0) × IsSome (operation_at t pair.1)) t.before (m, n) ok.known c in
      put_stands m n known.1 (Contains-append_left (paired_before t n) (timed_before t n) m (to_map (λ (pair : OpName × OpName). pair.0) (filter (λ (pair : OpName × OpName). same_op pair.1 n) t.before) (m, n)
      (to_filter (λ (pair : OpName × OpName). same_op pair.1 n) t.before (m, n) (name_same n n refl) c)))
  order_kept m n (inr h) =
      let known = both_timed t m n h in
      put_stands m n known.1 (Contains-append_right (paired_before t n) (timed_before t n) m (to_filter (λ k. ended_before t k n) (operation_names t) m h (known_listed t m known.0)))

  reads_right : (before : List OpName) (n : OpName) (after : List OpName) (op : Op) → names ≡ before ++ n ∷ after → operation_at t n ≡ Some op → ReadsRight t before op
  reads_right before n after op e known =
      let found = here_is_fine before n after e in
      let same : found.0 ≡ op = cc in
      let fine : IsFine t before n op = subst (λ o. IsFine t before n o) same found.2 in
      record { value = read_right _ (value_read op) fine.reads; source = source_right t before (location_of op) (origin_of op) fine.source }

  ends_right : (location : List ℕ) (d : ℕ) → value_of t.final_values location ≡ Some d → value_after t location names ≡ Some d
  ends_right location d e =
      let at = given_entry t.final_values location d e in
      let held = all_pass (λ (entry : List ℕ × ℕ). is_held (value_after t entry.0 names) entry.1) t.final_values whole.finals at.entry at.listed in
      ap (λ l. value_after t l names) (sym at.location_is) ∙ held_same (value_after t at.entry.0 names) at.entry.1 held ∙ ap Some at.value_is

legal_from_faultless : (t : TraceValue) (names : List OpName) → IsTrace t → IsFaultless (fault_at t) names → fault_of_whole t names ≡ None → IsLegal t names
legal_from_faultless t names ok faultless none =
    let whole = whole_from_none t names none in
    record {
      interleaving = record {
        each = each_comes t names ok faultless whole;
        only = only_known t names ok faultless whole;
        once = comes_once t names ok faultless whole;
        program_order = in_order t names ok faultless whole;
        known_order = order_kept t names ok faultless whole;
      };
      reads = reads_right t names ok faultless whole;
      finals = ends_right t names ok faultless whole;
    }

pub returns : goal.returns
returns c t names ok = (λ judged. legal_from_faultless t names ok judged.0 judged.1, faultless_from_legal t names ok)

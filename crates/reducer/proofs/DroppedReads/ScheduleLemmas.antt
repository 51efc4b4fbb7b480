-- A legal schedule of the kept trace with the dropped reads put back, and one of the whole trace without them.
use Rattle.std.proofs.Common.{◌≡◌, ◌⊎◌, ◌+◌, ◌-◌, ℕ, zero, suc, List, [], ◌∷◌, ◌++◌, length, map, Bool, true, false, cond, arith, refl, ap, sym, ◌∙◌, inl, inr, subst, append-nil, append_assoc}
use Rattle.std.specs.Prelude.{⊤, Option, Some, None, IsSome}
use Rattle.std.specs.List.{Contains, filter, take_while}
use Rattle.std.specs.Option.{option_map}
use Rattle.std.proofs.lemmas.List.{map-append}
use Rattle.std.proofs.lemmas.List.Elements.{Contains-append_left, filter-append}
use Rattle.std.proofs.lemmas.List.Sums.{take_while-cons}
use Rattle.std.proofs.lemmas.Option.{same_Some}
use Rattle.trace_semantics.specs.declared.operation.Op.{Op}
use Rattle.trace_semantics.specs.declared.operation.OpName.{OpName}
use Rattle.trace_semantics.specs.Legal.{ReadsRight, IsLegal}
use Rattle.trace_semantics.specs.Trace.{TraceValue, IsTrace, operation_at, value_of}
use Rattle.trace_semantics.specs.ValueAfter.{value_after}
use Rattle.trace_semantics.proofs.ElementLemmas.{in_middle, head_in, tail_in}
use Rattle.trace_semantics.proofs.NameLemmas.{some_value}
use Rattle.restriction.specs.Left.{new_name, new_op, names_from}
use Rattle.restriction.proofs.LeftLemmas.{IsOld, old_known, known_old}
use Rattle.restriction.proofs.RestrictLemmas.{placed_in}
use Rattle.restriction.proofs.TraceLeftLemmas.{op_listed}
use Rattle.reducer.specs.Expansion.{expanded, expansion}
use Rattle.reducer.specs.Reduction.{previous, is_dropped, kept_op, is_kept, kept_trace}
use Rattle.reducer.proofs.DroppedReads.InterleavingLemmas.{reduced, expansion_interleaves, reduction_interleaves}
use Rattle.reducer.proofs.KeptTrace.KeptLemmas.{kept_known, dropped_goes, first_operation, kept_first}
use Rattle.reducer.proofs.DroppedReads.ReadLemmas.{reads_without, reads_with, repeat_reads}
use Rattle.reducer.proofs.RunLemmas.{expanded_first, standing, behind_it}
use Rattle.reducer.proofs.DroppedReads.RepeatLemmas.{dropped_repeats}
use Rattle.reducer.proofs.DroppedReads.ValueLemmas.{values_alike}

mapped_some : (t : TraceValue) (o : Option Op) (op : Op) (new : Op) → o ≡ Some op → option_map (new_op (kept_op t)) o ≡ Some new → new_op (kept_op t) op ≡ new
mapped_some t None op new e f = absurd (cc)
mapped_some t (Some other) op new e f = let same : other ≡ op = cc in ap (new_op (kept_op t)) (sym same) ∙ same_Some (new_op (kept_op t) other) new f

-- without the dropped reads
module _ (t : TraceValue) (ok : IsTrace t) (names : List OpName) (legal : IsLegal t names) where
  reads_left : (before : List OpName) (x : OpName) (after : List OpName) (op : Op) → reduced t names ≡ before ++ x ∷ after → operation_at (kept_trace t) x ≡ Some op → ReadsRight (kept_trace t) before op
  reads_left before x after op e f =
      let at = placed_in (kept_op t) names before x after e in
      let known = kept_known t at.name at.left in
      let whole = some_value (operation_at t at.name) known in
      let here : option_map (new_op (kept_op t)) (operation_at t at.name) ≡ Some op = sym (first_operation t ok (new_name (kept_op t) at.name) at.name (known_old t ok (kept_op t) at.name known at.left)) ∙ ap (operation_at (kept_trace t)) at.renamed ∙ f in
      let same = mapped_some t (operation_at t at.name) whole.0 op whole.1 here in
      let right = reads_without t ok at.front whole.0 (legal.reads at.front at.name at.back whole.0 at.parts whole.1) in
      subst (λ l. ReadsRight (kept_trace t) l op) at.before_is (subst (λ o. ReadsRight (kept_trace t) (reduced t at.front) o) same right)

  ends_left : (location : List ℕ) (d : ℕ) → value_of t.final_values location ≡ Some d → value_after (kept_trace t) location (reduced t names) ≡ Some d
  ends_left location d e = values_alike t ok location names ∙ legal.finals location d e

pub reduction_legal : (t : TraceValue) (names : List OpName) → IsTrace t → IsLegal t names → IsLegal (kept_trace t) (reduced t names)
reduction_legal t names ok legal = record {
  interleaving = reduction_interleaves t names ok legal.interleaving;
  reads = reads_left t ok names legal;
  finals = ends_left t ok names legal;
}

-- all of these names are known
abbrev pub AreKnown : TraceValue → List OpName → Type 0
AreKnown t names = (n : OpName) → Contains names n → IsSome (operation_at t n)

-- a run: each name is dropped, and stands directly after the one before it
abbrev IsRun : TraceValue → OpName → List OpName → Type 0
IsRun t m [] = ⊤
IsRun t m (n ∷ names) = (previous n ≡ m) × (is_dropped t n ≡ true) × IsRun t n names

run_by : (t : TraceValue) (process : List ℕ) (k e : ℕ) (b : Bool) → is_dropped t (record { process = process; place = k + 1 }) ≡ b →
    IsRun t (record { process = process; place = k + 1 }) (take_while (is_dropped t) (names_from process (k + 1 + 1) e)) →
    IsRun t (record { process = process; place = k }) (cond b (record { process = process; place = k + 1 } ∷ take_while (is_dropped t) (names_from process (k + 1 + 1) e)) [])
run_by t process k e true h more = let back : k + 1 - 1 ≡ k = omega arith in (ap (λ (j : ℕ). record { process = process; place = j }) back, h, more)
run_by t process k e false h more = tt

behind_run : (t : TraceValue) (process : List ℕ) (k e : ℕ) → IsRun t (record { process = process; place = k }) (take_while (is_dropped t) (names_from process (k + 1) e))
behind_run t process k zero = tt
behind_run t process k (suc e) =
    let m : OpName = record { process = process; place = k + 1 } in
    subst (λ l. IsRun t (record { process = process; place = k }) l) (sym (take_while-cons (is_dropped t) m (names_from process (k + 1 + 1) e)))
    (run_by t process k e (is_dropped t m) refl (behind_run t process (k + 1) e))

-- what a name expands to is its first name and a run
pub record FirstAndRun (t : TraceValue) (x n : OpName) : Type 0 where
  pub rest : List OpName
  pub parts : expanded t x ≡ n ∷ rest
  pub run : IsRun t n rest

first_and_run : (t : TraceValue) → IsTrace t → (x n : OpName) → IsOld t (kept_op t) x n → FirstAndRun t x n
first_and_run t ok x n first =
    let p = first.process in
    let s = standing t ok x n first in
    let name : record { process = p.name; place = n.place } ≡ n = λ i. record { process = s.called i; place = n.place } in
    record {
      rest = take_while (is_dropped t) (names_from p.name (n.place + 1) (length p.operations - n.place));
      parts = expanded_first t x n first ∙ ap (λ l. n ∷ take_while (is_dropped t) l) (behind_it t x n p s);
      run = subst (λ m. IsRun t m (take_while (is_dropped t) (names_from p.name (n.place + 1) (length p.operations - n.place)))) name (behind_run t p.name n.place (length p.operations - n.place));
    }

-- of what a name expands to its first name alone is left
run_left : (t : TraceValue) (m : OpName) (names : List OpName) → IsRun t m names → filter (is_kept t) names ≡ []
run_left t m [] run = refl
run_left t m (n ∷ names) run = ap (λ b. cond b (n ∷ filter (is_kept t) names) (filter (is_kept t) names)) (dropped_goes t n run.1) ∙ run_left t n names run.2

expanded_left : (t : TraceValue) → IsTrace t → (x n : OpName) → IsOld t (kept_op t) x n → reduced t (expanded t x) ≡ x ∷ []
expanded_left t ok x n first =
    let at = first_and_run t ok x n first in
    let known = old_known t ok (kept_op t) x n first in
    ap (reduced t) at.parts ∙ ap (λ b. map (new_name (kept_op t)) (cond b (n ∷ filter (is_kept t) at.rest) (filter (is_kept t) at.rest))) known.left
    ∙ ap (λ l. new_name (kept_op t) n ∷ map (new_name (kept_op t)) l) (run_left t n at.rest at.run) ∙ ap (λ y. y ∷ []) known.renamed

pub expansion_left : (t : TraceValue) → IsTrace t → (names : List OpName) → AreKnown (kept_trace t) names → reduced t (expansion t names) ≡ names
expansion_left t ok [] known = refl
expansion_left t ok (x ∷ names) known =
    let first = kept_first t ok x (known x (head_in x names)) in
    ap (map (new_name (kept_op t))) (filter-append (is_kept t) (expanded t x) (expansion t names))
    ∙ map-append (new_name (kept_op t)) (filter (is_kept t) (expanded t x)) (filter (is_kept t) (expansion t names))
    ∙ (λ i. expanded_left t ok x first.0 first.1 i ++ expansion_left t ok names (λ m c. known m (tail_in x names m c)) i)

-- a place in a joined list
cut_joined : (xs ys before : List OpName) (n : OpName) (after : List OpName) → xs ++ ys ≡ before ++ n ∷ after →
    ((back : List OpName) × (xs ≡ before ++ n ∷ back)) ⊎ ((middle : List OpName) × (before ≡ xs ++ middle) × (ys ≡ middle ++ n ∷ after))
cut_joined [] ys before n after e = inr (before, refl, e)
cut_joined (x ∷ xs) ys [] n after e = let same : x ≡ n = cc in inl (xs, ap (λ z. z ∷ xs) same)
cut_joined (x ∷ xs) ys (y ∷ before) n after e =
    let same : x ≡ y = cc in
    let rest : xs ++ ys ≡ before ++ n ∷ after = cc in
    elim (cut_joined xs ys before n after rest) [
      | inl (back, f) ↦ inl (back, λ i. same i ∷ f i)
      | inr (middle, f, g) ↦ inr (middle, (λ i. sym same i ∷ f i), g)
    ]

-- a place in an expansion is a place in what one of the names expands to
pub record Within (t : TraceValue) (names before : List OpName) (n : OpName) : Type 0 where
  pub front : List OpName
  pub name : OpName
  pub back : List OpName
  pub parts : names ≡ front ++ name ∷ back
  pub earlier : List OpName
  pub later : List OpName
  pub inside : expanded t name ≡ earlier ++ n ∷ later
  pub before_is : before ≡ expansion t front ++ earlier

within : (t : TraceValue) (names before : List OpName) (n : OpName) (after : List OpName) → expansion t names ≡ before ++ n ∷ after → Within t names before n
within t [] [] n after e = absurd (cc)
within t [] (y ∷ before) n after e = absurd (cc)
within t (x ∷ names) before n after e =
    elim (cut_joined (expanded t x) (expansion t names) before n after e) [
      | inl (back, f) ↦ record { front = []; name = x; back = names; parts = refl; earlier = before; later = back; inside = f; before_is = refl }
      | inr (middle, f, g) ↦ (let more = within t names middle n after g in record {
        front = x ∷ more.front;
        name = more.name;
        back = more.back;
        parts = ap (λ l. x ∷ l) more.parts;
        earlier = more.earlier;
        later = more.later;
        inside = more.inside;
        before_is = f ∙ ap (λ l. expanded t x ++ l) more.before_is ∙ sym (append_assoc (expanded t x) (expansion t more.front) more.earlier);
      })
    ]

-- along a run each read reads right
along : (t : TraceValue) (done : List OpName) (m : OpName) (op : Op) (rest earlier : List OpName) (n : OpName) (later : List OpName) (wanted : Op) → operation_at t m ≡ Some op → ReadsRight t done op → IsRun t m rest →
    m ∷ rest ≡ earlier ++ n ∷ later → operation_at t n ≡ Some wanted → ReadsRight t (done ++ earlier) wanted
along t done m op rest [] n later wanted known right run e f =
    let same : m ≡ n = cc in
    let one : op ≡ wanted = same_Some op wanted (sym known ∙ ap (operation_at t) same ∙ f) in
    subst (λ l. ReadsRight t l wanted) (sym (append-nil done)) (subst (λ o. ReadsRight t done o) one right)
along t done m op [] (y ∷ []) n later wanted known right run e f = absurd (cc)
along t done m op [] (y ∷ (z ∷ earlier)) n later wanted known right run e f = absurd (cc)
along t done m op (d ∷ rest) (y ∷ earlier) n later wanted known right run e f =
    let first : m ≡ y = cc in
    let behind : d ∷ rest ≡ earlier ++ n ∷ later = cc in
    let at = dropped_repeats t d run.1 in
    let next = repeat_reads t done m d op _ run.0 run.1 known at.second_is right in
    subst (λ l. ReadsRight t l wanted) (append_assoc done (m ∷ []) earlier ∙ ap (λ z. done ++ z ∷ earlier) first)
    (along t (done ++ m ∷ []) d _ rest earlier n later wanted at.second_is next run.2 behind f)

-- with the dropped reads
module _ (t : TraceValue) (ok : IsTrace t) (names : List OpName) (legal : IsLegal (kept_trace t) names) where
  known_front : (front : List OpName) (x : OpName) (back : List OpName) → names ≡ front ++ x ∷ back → AreKnown (kept_trace t) front
  known_front front x back e m c = legal.interleaving.only m (subst (λ l. Contains l m) (sym e) (Contains-append_left front (x ∷ back) m c))

  -- the first name of each name reads right
  first_reads : (front : List OpName) (x : OpName) (back : List OpName) (n : OpName) (op : Op) → names ≡ front ++ x ∷ back → IsOld t (kept_op t) x n → operation_at t n ≡ Some op → ReadsRight t (expansion t front) op
  first_reads front x back n op e first f =
      let known = known_front front x back e in
      let here : operation_at (kept_trace t) x ≡ Some (new_op (kept_op t) op) = first_operation t ok x n first ∙ ap (option_map (new_op (kept_op t))) f in
      let right = legal.reads front x back (new_op (kept_op t) op) e here in
      reads_with t ok (expansion t front) op (op_listed t n op f)
      (subst (λ l. ReadsRight (kept_trace t) l (new_op (kept_op t) op)) (sym (expansion_left t ok front known)) right)

  reads_put_back : (before : List OpName) (n : OpName) (after : List OpName) (op : Op) → expansion t names ≡ before ++ n ∷ after → operation_at t n ≡ Some op → ReadsRight t before op
  reads_put_back before n after op e f =
      let at = within t names before n after e in
      let first = kept_first t ok at.name (legal.interleaving.only at.name (subst (λ l. Contains l at.name) (sym at.parts) (in_middle at.front at.name at.back))) in
      let head = some_value (operation_at t first.0) (old_known t ok (kept_op t) at.name first.0 first.1).known in
      let shape = first_and_run t ok at.name first.0 first.1 in
      let right = first_reads at.front at.name at.back first.0 head.0 at.parts first.1 head.1 in
      subst (λ l. ReadsRight t l op) (sym at.before_is)
      (along t (expansion t at.front) first.0 head.0 shape.rest at.earlier n at.later op head.1 right shape.run (sym shape.parts ∙ at.inside) f)

  ends_put_back : (location : List ℕ) (d : ℕ) → value_of t.final_values location ≡ Some d → value_after t location (expansion t names) ≡ Some d
  ends_put_back location d e =
      sym (values_alike t ok location (expansion t names)) ∙ ap (value_after (kept_trace t) location) (expansion_left t ok names legal.interleaving.only) ∙ legal.finals location d e

pub expansion_legal : (t : TraceValue) (names : List OpName) → IsTrace t → IsLegal (kept_trace t) names → IsLegal t (expansion t names)
expansion_legal t names ok legal = record {
  interleaving = expansion_interleaves t names ok legal.interleaving;
  reads = reads_put_back t ok names legal;
  finals = ends_put_back t ok names legal;
}

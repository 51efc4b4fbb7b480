-- Rows of numbers say of writers what their names say.
use Rattle.std.proofs.Common.{◌≡◌, ◌≢◌, ◌<◌, ◌+◌, ℕ, zero, suc, List, [], ◌∷◌, ◌++◌, length, map, take, get_or, Bool, true, false, cond, not, ◌==◌, ◌&&◌, ◌||◌, eqb, refl, ap, sym, ◌∙◌, arith, subst, append_assoc, append-nil}
use Rattle.std.specs.Prelude.{Option, Some, None, IsSome, is_some}
use Rattle.std.specs.List.{AllPairs, Contains, cons_option, filter, filter_map, flat_map, list_all, list_any, slice_get}
use Rattle.std.specs.Option.{option_and_then, option_map}
use Rattle.std.specs.Str.{bytes_eq}
use Rattle.std.proofs.lemmas.Bool.{eqb-true, eq-eqb}
use Rattle.text_lines.proofs.BoolLemmas.{same_truth}
use Rattle.std.proofs.lemmas.List.{length-map, map-append, map_more, take_more}
use Rattle.std.proofs.lemmas.Grind.{flat_map-append}
use Rattle.std.proofs.lemmas.List.Elements.{Contains-get_or, filter-append, filter_map-append}
use Rattle.std.proofs.lemmas.Option.{same_Some, slice_get_within, slice_get-get_or}
use Rattle.trace_semantics.specs.declared.operation.Op.{Op}
use Rattle.trace_semantics.specs.declared.operation.OpName.{OpName}
use Rattle.trace_semantics.specs.declared.trace.Process.{Process}
use Rattle.trace_semantics.specs.Judgement.{is_held}
use Rattle.trace_semantics.specs.Operation.{same_op}
use Rattle.trace_semantics.specs.PairOrder.{order_of}
use Rattle.trace_semantics.specs.Trace.{TraceValue, IsTrace, at_place, process_named, operation_at, operation_names, first_names}
use Rattle.trace_semantics.specs.ValueAfter.{value_left_at}
use Rattle.trace_semantics.proofs.ElementLemmas.{head_in, tail_in, from_filter}
use Rattle.trace_semantics.proofs.NameLemmas.{same_bytes, bytes_same, from_first, listed_known}
use Rattle.trace_semantics.proofs.ProcessOrderLemmas.{same_process}
use Rattle.forced_order.specs.declared.numbered.OperationNumber.{OperationNumber}
use Rattle.trace_part.specs.declared.writers.ChosenWriter.{ChosenWriter}
use Rattle.restriction.specs.Left.{is_left, names_of}
use Rattle.part_law.specs.Part.{writes_at, writers_of, may_be_source, sources, may_be_last, last_writers, stays_of, stays, stays_final}
use Rattle.forced_order.specs.Rows.{OrderValue, stands_by, numbered, ordered_by}
use Rattle.restriction.specs.Restriction.{left_by}
use Rattle.trace_part.specs.Rows.{LeftValue, left_value, row_of, row_in, rows_in, rows_of, is_same, row_is_source, row_is_last}
use Rattle.restriction.proofs.LeftLemmas.{process_of}
use Rattle.restriction.proofs.OrderedPairLemmas.{above_first, behind_first, order_here, order_there}
use Rattle.restriction.proofs.PlaceLemmas.{one_more_name, place_more}

one_row : {X Y : Type 0} (f : X → Option Y) (x : X) (o : Option Y) → o ≡ f x → filter_map f (x ∷ []) ≡ cons_option o []
one_row f x o e = sym (ap (λ v. cons_option v []) e)

-- one more operation
pub one_more_row : (p : Process) (number : ℕ) (chosen : OpName → Bool) (location : List ℕ) (k : ℕ) (o : Option ChosenWriter) → o ≡ row_in p number chosen location (record { process = p.name; place = k + 1 }) →
    filter_map (row_in p number chosen location) (first_names p.name (k + 1)) ≡ filter_map (row_in p number chosen location) (first_names p.name k) ++ cons_option o []
one_more_row p number chosen location k o e =
    ap (filter_map (row_in p number chosen location)) (one_more_name p.name k)
    ∙ filter_map-append (row_in p number chosen location) (first_names p.name k) (record { process = p.name; place = k + 1 } ∷ [])
    ∙ ap (λ l. filter_map (row_in p number chosen location) (first_names p.name k) ++ l) (one_row (row_in p number chosen location) (record { process = p.name; place = k + 1 }) o e)

pub pushed : (p : Process) (number : ℕ) (chosen : OpName → Bool) (location : List ℕ) (k : ℕ) (start old : List ChosenWriter) (o : Option ChosenWriter) → old ≡ start ++ filter_map (row_in p number chosen location) (first_names p.name k) →
    o ≡ row_in p number chosen location (record { process = p.name; place = k + 1 }) → old ++ cons_option o [] ≡ start ++ filter_map (row_in p number chosen location) (first_names p.name (k + 1))
pushed p number chosen location k start old o e f =
    ap (λ l. l ++ cons_option o []) e ∙ append_assoc start (filter_map (row_in p number chosen location) (first_names p.name k)) (cons_option o [])
    ∙ ap (λ l. start ++ l) (sym (one_more_row p number chosen location k o f))

-- the number of a process is its place among the processes
pub order_is : (ps : List Process) → AllPairs (λ (p q : Process). p.name ≢ q.name) ps → (k : ℕ) (d : Process) → k < length ps → order_of ps (get_or ps k d).name ≡ k
order_is [] apart k d l = absurd (omega (arith, l))
order_is (p ∷ ps) apart zero d l = order_here p ps
order_is (p ∷ ps) apart (suc k) d l =
    let inside : k < length ps = omega (arith, l) in
    let rest = order_is ps (behind_first (λ (a b : Process). a.name ≢ b.name) p ps apart) k d inside in
    let there = order_there p ps (get_or ps k d).name (above_first (λ (a b : Process). a.name ≢ b.name) p ps apart (get_or ps k d) (Contains-get_or ps k d inside)) in
    there ∙ omega (arith, rest)

-- the rows of a process are those of its names
module _ (t : TraceValue) (chosen : OpName → Bool) (location : List ℕ) (p : Process) (number : ℕ) (order : order_of t.processes p.name ≡ number) (found : process_named t p.name ≡ Some p) where
  value_there : (n : OpName) → n.process ≡ p.name → value_left_at t location n ≡ option_and_then (left_by location) (at_place p.operations n.place)
  value_there n e = ap (λ o. option_and_then (left_by location) (option_and_then (λ (q : Process). at_place q.operations n.place) o)) (ap (process_named t) e ∙ found)

  row_step : (n : OpName) (names : List OpName) (v : Option ℕ) → n.process ≡ p.name → value_left_at t location n ≡ v → filter_map (row_in p number chosen location) names ≡ map (row_of t chosen location) (filter (writes_at t location) names) →
      cons_option (option_map (λ (d : ℕ). record { name = record { process = number; place = n.place }; value = Some d; chosen = chosen n }) v) (filter_map (row_in p number chosen location) names) ≡ map (row_of t chosen location) (cond (is_some v) (n ∷ filter (writes_at t location) names) (filter (writes_at t location) names))
  row_step n names None e f more = more
  row_step n names (Some d) e f more =
      let number_is : number ≡ order_of t.processes n.process = sym order ∙ ap (order_of t.processes) (sym e) in
      λ i. record { name = record { process = number_is i; place = n.place }; value = sym f i; chosen = chosen n } ∷ more i

  rows_are : (names : List OpName) → ((n : OpName) → Contains names n → n.process ≡ p.name) → filter_map (row_in p number chosen location) names ≡ map (row_of t chosen location) (filter (writes_at t location) names)
  rows_are [] h = refl
  rows_are (n ∷ names) h =
      let e = h n (head_in n names) in
      let v = value_there n e in
      row_step n names (option_and_then (left_by location) (at_place p.operations n.place)) e v (rows_are names (λ m c. h m (tail_in n names m c)))
      ∙ ap (λ o. map (row_of t chosen location) (cond (is_some o) (n ∷ filter (writes_at t location) names) (filter (writes_at t location) names))) (sym v)

  pub rows_of_process : rows_in p number chosen location ≡ map (row_of t chosen location) (filter (writes_at t location) (names_of p))
  rows_of_process = rows_are (names_of p) (λ n c. (from_first p.name (length p.operations) n c).0)

pub flat_step : {X Y : Type 0} (f : X → List Y) (xs : List X) (k : ℕ) (d : X) → k < length xs → flat_map f (take (k + 1) xs) ≡ flat_map f (take k xs) ++ f (get_or xs k d)
flat_step f xs k d l =
    ap (flat_map f) (take_more xs k d l) ∙ flat_map-append f (take k xs) (get_or xs k d ∷ []) ∙ ap (λ ys. flat_map f (take k xs) ++ ys) (append-nil (f (get_or xs k d)))

-- one more process
pub more_rows : (t : TraceValue) → IsTrace t → (chosen : OpName → Bool) (location : List ℕ) (ps : List Process) → ps ≡ t.processes → (k : ℕ) (p : Process) (old new : List ChosenWriter) → k < length ps → p ≡ get_or ps k p →
    old ≡ map (row_of t chosen location) (filter (writes_at t location) (flat_map names_of (take k ps))) → new ≡ old ++ rows_in p k chosen location →
    new ≡ map (row_of t chosen location) (filter (writes_at t location) (flat_map names_of (take (k + 1) ps)))
more_rows t ok chosen location ps same k p old new l at e f =
    let listed : Contains t.processes p = subst (λ qs. Contains qs p) same (subst (λ q. Contains ps q) (sym at) (Contains-get_or ps k p l)) in
    let inside : k < length t.processes = subst (λ (qs : List Process). k < length qs) same l in
    let order : order_of t.processes p.name ≡ k = ap (λ (q : Process). order_of t.processes q.name) (at ∙ ap (λ qs. get_or qs k p) same) ∙ order_is t.processes ok.distinct k p inside in
    f ∙ (λ i. e i ++ rows_of_process t chosen location p k order (process_of t ok p listed) i)
    ∙ sym (map-append (row_of t chosen location) (filter (writes_at t location) (flat_map names_of (take k ps))) (filter (writes_at t location) (names_of p)))
    ∙ ap (map (row_of t chosen location)) (sym (filter-append (writes_at t location) (flat_map names_of (take k ps)) (names_of p)))
    ∙ ap (λ l. map (row_of t chosen location) (filter (writes_at t location) l)) (sym (flat_step names_of ps k p l ∙ ap (λ q. flat_map names_of (take k ps) ++ names_of q) (sym at)))

-- the numbers of processes are the same where the names are
pub same_number : (t : TraceValue) (m n : OpName) → IsSome (operation_at t m) → IsSome (operation_at t n) → (order_of t.processes m.process == order_of t.processes n.process) ≡ bytes_eq m.process n.process
same_number t m n h k =
    same_truth (eqb (order_of t.processes m.process) (order_of t.processes n.process)) (bytes_eq m.process n.process)
    (λ e. bytes_same m.process n.process (same_process t m n h k (eqb-true (order_of t.processes m.process) (order_of t.processes n.process) e)))
    (λ e. eq-eqb (order_of t.processes m.process) (order_of t.processes n.process) (ap (order_of t.processes) (same_bytes m.process n.process e)))

-- what the rows say
module _ (t : TraceValue) (order : OrderValue) (chosen : OpName → Bool) (location : List ℕ) where
  any_row : (f : ChosenWriter → Bool) (names : List OpName) → list_any f (map (row_of t chosen location) names) ≡ list_any (λ n. f (row_of t chosen location n)) names
  any_row f [] = refl
  any_row f (n ∷ names) = ap (λ b. f (row_of t chosen location n) || b) (any_row f names)

  all_or : (q : OpName → Bool) (names : List OpName) (f : ChosenWriter → Bool) → ((n : OpName) → Contains names n → f (row_of t chosen location n) ≡ (chosen n || not (q n))) → list_all f (map (row_of t chosen location) names) ≡ list_all chosen (filter q names)
  all_or q [] f h = refl
  all_or q (n ∷ names) f h = (λ i. h n (head_in n names) i && all_or q names f (λ m c. h m (tail_in n names m c)) i) ∙ by (q n)
    where
      by : (b : Bool) → ((chosen n || not b) && list_all chosen (filter q names)) ≡ list_all chosen (cond b (n ∷ filter q names) (filter q names))
      by true = plain (chosen n)
        where
          plain : (c : Bool) → ((c || false) && list_all chosen (filter q names)) ≡ (c && list_all chosen (filter q names))
          plain true = refl
          plain false = refl
      by false = plain (chosen n)
        where
          plain : (c : Bool) → ((c || true) && list_all chosen (filter q names)) ≡ list_all chosen (filter q names)
          plain true = refl
          plain false = refl

  -- numbers are the same where names are
  same_numbers : (m n : OpName) → IsSome (operation_at t m) → IsSome (operation_at t n) → is_same (numbered t.processes m) (numbered t.processes n) ≡ same_op m n
  same_numbers m n h k = ap (λ b. b && (m.place == n.place)) (same_number t m n h k)

  pub sources_are : IsTrace t → (n : OpName) (reader : OperationNumber) (d : ℕ) → IsSome (operation_at t n) → numbered t.processes n ≡ reader →
      list_all (λ (w : ChosenWriter). w.chosen || not (row_is_source order (rows_of t chosen location) reader d w)) (rows_of t chosen location) ≡ list_all chosen (sources t (ordered_by t order) n location d)
  sources_are ok n reader d known e =
      all_or (may_be_source t (ordered_by t order) n location d) (writers_of t location) (λ (w : ChosenWriter). w.chosen || not (row_is_source order (rows_of t chosen location) reader d w)) (λ w c.
      ap (λ b. chosen w || not (is_held (value_left_at t location w) d && b)) (λ i. not (same_as w c i) && (not (stands_by order (sym e i) (numbered t.processes w)) && not (any_row (λ (x : ChosenWriter). stands_by order (numbered t.processes w) x.name && stands_by order x.name (sym e i)) (writers_of t location) i))))
    where
      same_as : (w : OpName) → Contains (writers_of t location) w → is_same (numbered t.processes w) reader ≡ same_op w n
      same_as w c = ap (is_same (numbered t.processes w)) (sym e) ∙ same_numbers w n (listed_known t ok w (from_filter (writes_at t location) (operation_names t) w c).0) known

  pub last_are : (d : ℕ) → list_all (λ (w : ChosenWriter). w.chosen || not (row_is_last order (rows_of t chosen location) d w)) (rows_of t chosen location) ≡ list_all chosen (last_writers t (ordered_by t order) location d)
  last_are d =
      all_or (may_be_last t (ordered_by t order) location d) (writers_of t location) (λ (w : ChosenWriter). w.chosen || not (row_is_last order (rows_of t chosen location) d w)) (λ w c.
      ap (λ b. chosen w || not (is_held (value_left_at t location w) d && not b)) (any_row (λ (x : ChosenWriter). stands_by order (numbered t.processes w) x.name) (writers_of t location)))

  pub final_is : (d : ℕ) → (list_all (λ (w : ChosenWriter). w.chosen || not (row_is_last order (rows_of t chosen location) d w)) (rows_of t chosen location) && (list_any (λ (w : ChosenWriter). w.chosen) (rows_of t chosen location) || (length (rows_of t chosen location) == 0)))
      ≡ stays_final t (ordered_by t order) chosen (location, d)
  final_is d = λ i. last_are d i && (any_row (λ (w : ChosenWriter). w.chosen) (writers_of t location) i || (length-map (writers_of t location) (row_of t chosen location) i == 0))

-- an operation by its number and place
pub stays_here : (t : TraceValue) → IsTrace t → (order : OrderValue) (chosen : OpName → Bool) (number : ℕ) (p : Process) (k : ℕ) (op : Op) (left : Option Op) → slice_get t.processes number ≡ Some p → slice_get p.operations k ≡ Some op →
    chosen (record { process = p.name; place = k + 1 }) ≡ true → ((n : OpName) → IsSome (operation_at t n) → numbered t.processes n ≡ record { process = number; place = k + 1 } → left ≡ stays_of t (ordered_by t order) chosen n op) →
    left ≡ stays t (ordered_by t order) chosen (record { process = p.name; place = k + 1 })
stays_here t ok order chosen number p k op left listed placed h given =
    let n : OpName = record { process = p.name; place = k + 1 } in
    let inside = slice_get_within t.processes number p listed in
    let here : get_or t.processes number p ≡ p = same_Some (get_or t.processes number p) p (sym (slice_get-get_or t.processes number p inside) ∙ listed) in
    let there : Contains t.processes p = subst (λ q. Contains t.processes q) here (Contains-get_or t.processes number p inside) in
    let order_there : order_of t.processes p.name ≡ number = ap (λ (q : Process). order_of t.processes q.name) (sym here) ∙ order_is t.processes ok.distinct number p inside in
    let known : operation_at t n ≡ Some op = ap (option_and_then (λ (q : Process). at_place q.operations n.place)) (process_of t ok p there) ∙ place_more p.operations k ∙ placed in
    given n (ap is_some known) (λ i. record { process = order_there i; place = k + 1 }) ∙ (λ i. cond (sym h i) (option_and_then (stays_of t (ordered_by t order) chosen n) (sym known i)) None)

-- what remains of one more operation, and of one more process
pub one_more_left : (stays : OpName → Option Op) (process : List ℕ) (k : ℕ) (o : Option Op) → o ≡ stays (record { process = process; place = k + 1 }) →
    filter_map stays (first_names process (k + 1)) ≡ filter_map stays (first_names process k) ++ cons_option o []
one_more_left stays process k o e =
    ap (filter_map stays) (one_more_name process k)
    ∙ filter_map-append stays (first_names process k) (record { process = process; place = k + 1 } ∷ [])
    ∙ ap (λ l. filter_map stays (first_names process k) ++ l) (one_row stays (record { process = process; place = k + 1 }) o e)

pub one_more_left_place : (stays : OpName → Option Op) (process : List ℕ) (k : ℕ) (o : Option Op) → o ≡ stays (record { process = process; place = k + 1 }) →
    map (λ (n : OpName). n.place) (filter (is_left stays) (first_names process (k + 1))) ≡ map (λ (n : OpName). n.place) (filter (is_left stays) (first_names process k)) ++ cond (is_some o) ((k + 1) ∷ []) []
one_more_left_place stays process k o e =
    ap (λ l. map (λ (n : OpName). n.place) (filter (is_left stays) l)) (one_more_name process k)
    ∙ ap (map (λ (n : OpName). n.place)) (filter-append (is_left stays) (first_names process k) (record { process = process; place = k + 1 } ∷ []))
    ∙ map-append (λ (n : OpName). n.place) (filter (is_left stays) (first_names process k)) (filter (is_left stays) (record { process = process; place = k + 1 } ∷ []))
    ∙ ap (λ l. map (λ (n : OpName). n.place) (filter (is_left stays) (first_names process k)) ++ l) (ap (λ v. map (λ (n : OpName). n.place) (cond (is_some v) (record { process = process; place = k + 1 } ∷ []) [])) (sym e) ∙ one (is_some o))
  where
    one : (b : Bool) → map (λ (n : OpName). n.place) (cond b (record { process = process; place = k + 1 } ∷ []) []) ≡ cond b ((k + 1) ∷ []) []
    one true = refl
    one false = refl

pub ops_pushed : (stays : OpName → Option Op) (process : List ℕ) (k : ℕ) (o : Option Op) (old : List Op) → old ≡ filter_map stays (first_names process k) → o ≡ stays (record { process = process; place = k + 1 }) → old ++ cons_option o [] ≡ filter_map stays (first_names process (k + 1))
ops_pushed stays process k o old e f = ap (λ l. l ++ cons_option o []) e ∙ sym (one_more_left stays process k o f)

pub places_pushed : (stays : OpName → Option Op) (process : List ℕ) (k : ℕ) (o : Option Op) (old : List ℕ) → old ≡ map (λ (n : OpName). n.place) (filter (is_left stays) (first_names process k)) → o ≡ stays (record { process = process; place = k + 1 }) →
    old ++ cond (is_some o) ((k + 1) ∷ []) [] ≡ map (λ (n : OpName). n.place) (filter (is_left stays) (first_names process (k + 1)))
places_pushed stays process k o old e f = ap (λ l. l ++ cond (is_some o) ((k + 1) ∷ []) []) e ∙ sym (one_more_left_place stays process k o f)

pub more_left : (stays : OpName → Option Op) (ps : List Process) (k : ℕ) (p : Process) (old new : List LeftValue) (left : LeftValue) → k < length ps → p ≡ get_or ps k p → old ≡ map (λ (q : Process). left_value stays (names_of q)) (take k ps) →
    new ≡ old ++ left ∷ [] → left ≡ left_value stays (names_of p) → new ≡ map (λ (q : Process). left_value stays (names_of q)) (take (k + 1) ps)
more_left stays ps k p old new left l at e f g =
    f ∙ (λ i. e i ++ (g ∙ ap (λ (q : Process). left_value stays (names_of q)) at) i ∷ []) ∙ sym (map_more (λ (q : Process). left_value stays (names_of q)) ps k p l)

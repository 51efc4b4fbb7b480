-- One more statement, as it is kept; and the fault of a statement, by what is kept.
use Rattle.std.proofs.Common.{◌≡◌, ℕ, ◌+◌, List, [], ◌∷◌, ◌++◌, length, Bool, true, false, cond, not, ◌&&◌, ◌||◌, refl, ap, sym, ◌∙◌, arith, append-nil, length-append}
use Rattle.std.specs.Prelude.{Option, Some, None, nat_le, if◌then◌else◌}
use Rattle.std.specs.List.{filter, filter_map, cons_option, list_any, list_all}
use Rattle.std.specs.Str.{bytes_eq}
use Rattle.std.proofs.lemmas.List.Elements.{filter-append, filter_map-append}
use Rattle.std.proofs.lemmas.List.Folds.{list_any-append}
use Rattle.std.proofs.lemmas.Slice.Eq.{bytes_eq-Decides}
use Rattle.text_lines.proofs.BoolLemmas.{or_last}
use Rattle.text_lines.proofs.ListLemmas.{none_passes}
use Rattle.trace_text.specs.declared.seen.Seen.{Seen}
use Rattle.trace_text.specs.declared.trace_fault.TraceCause.{TraceCause}
use Rattle.trace_text.specs.declared.trace_fault.TraceCause.TheVariants.{BadName, BadNumber, LateHeaderLine, OpOutsideProc, InitTwice, FinalTwice, ProcTwice, TooManyProcs, TooManyOps, TooManyLocations, TooManyBefore, EndsBeforeStart}
use Rattle.text_lines.specs.declared.plain_fault.PlainFault.{PlainFault}
use Rattle.text_lines.specs.declared.plain_fault.PlainFault.TheVariants.{OutOfMemory, For}
use Rattle.trace_text.specs.Entry.{has_numbers, number_fault}
use Rattle.trace_semantics.specs.Names.{is_name}
use Rattle.text_lines.specs.PlainFault.{IsRefusedFor}
use Rattle.trace_semantics.specs.Locations.{distinct, holds_name}
use Rattle.trace_semantics.proofs.NameLemmas.{bytes_turned}
use Rattle.trace_semantics.proofs.DistinctLemmas.{length_chosen}
use Rattle.trace_text.specs.Seen.{has, early_fault, fault_behind, fault_of_operation, NotesLocation, Notes, IsSeen}
use Rattle.trace_text.specs.Statement.{Statement, Init, Final, Proc, Read, Write, Update, Before}
use Rattle.trace_text.specs.TraceFault.{is_proc, is_operation, is_before, is_value_line, names_of, location_named, times_of, are_turned, repeats, twice_cause, limit_fault, is_location_too_many, or_else, statement_fault}
use Rattle.trace_semantics.specs.declared.limits.Limits.{Limits}
use Rattle.trace_semantics.specs.Limits.{max_operations, max_locations, max_pairs}

-- some element passes, with one more element
pub any_push : {A : Type 0} (p : A → Bool) (xs : List A) (x : A) (b c : Bool) → b ≡ (p x || c) → c ≡ list_any p xs → b ≡ list_any p (xs ++ x ∷ [])
any_push p xs x b c h e = h ∙ or_last (p x) c ∙ ap (λ d. d || (p x || false)) e ∙ sym (list_any-append p xs (x ∷ []))

count_by_test : {A : Type 0} (xs : List A) (x : A) (n m : ℕ) (b : Bool) → n ≡ (if b then m + 1 else m) → m ≡ length xs → n ≡ length (xs ++ cond b (x ∷ []) [])
count_by_test xs x n m true h e = omega (arith, h, e, length-append xs (x ∷ []))
count_by_test xs x n m false h e = h ∙ e ∙ ap length (sym (append-nil xs))

-- how many pass, with one more element
pub count_push : {A : Type 0} (p : A → Bool) (xs : List A) (x : A) (n m : ℕ) → n ≡ (if p x then m + 1 else m) → m ≡ length (filter p xs) → n ≡ length (filter p (xs ++ x ∷ []))
count_push p xs x n m h e = count_by_test (filter p xs) x n m (p x) h e ∙ ap length (sym (filter-append p xs (x ∷ [])))

counts_agree : (h e k : Bool) (most more : ℕ) → (e ≡ true → h ≡ k) → more ≡ (if not k then most + 1 else most) →
    (if h || (e || false) then more else more + 1) ≡ (if not (e || k) then (if h then most else most + 1) + 1 else (if h then most else most + 1))
counts_agree true true true most more same m = m
counts_agree false true false most more same m = m
counts_agree true true false most more same m = absurd (let clash : true ≡ false = same refl in cc)
counts_agree false true true most more same m = absurd (let clash : false ≡ true = same refl in cc)
counts_agree true false true most more same m = m
counts_agree true false false most more same m = m
counts_agree false false true most more same m = ap (λ n. n + 1) m
counts_agree false false false most more same m = ap (λ n. n + 1) m

-- one more name, without regard to how often it stands there
pub distinct_push : (names : List (List ℕ)) (a : List ℕ) → length (distinct (names ++ a ∷ [])) ≡ (if not (holds_name names a) then length (distinct names) + 1 else length (distinct names))
distinct_push [] a = omega arith
distinct_push (n ∷ ns) a =
    let turned : bytes_eq n a ≡ bytes_eq a n = bytes_turned n a in
    let same : bytes_eq n a ≡ true → holds_name ns n ≡ holds_name ns a = λ (h : bytes_eq n a ≡ true). ap (holds_name ns) ((bytes_eq-Decides n a).0 h) in
    length_chosen (holds_name (ns ++ a ∷ []) n) n (distinct (ns ++ a ∷ []))
    ∙ ap (λ b. if b then length (distinct (ns ++ a ∷ [])) else length (distinct (ns ++ a ∷ [])) + 1) (list_any-append (λ other. bytes_eq other n) ns (a ∷ []) ∙ ap (λ b. holds_name ns n || (b || false)) (sym turned))
    ∙ counts_agree (holds_name ns n) (bytes_eq n a) (holds_name ns a) (length (distinct ns)) (length (distinct (ns ++ a ∷ []))) same (distinct_push ns a)
    ∙ ap (λ m. if not (bytes_eq n a || holds_name ns a) then m + 1 else m) (sym (length_chosen (holds_name ns n) n (distinct ns)))

locations_push : (limits : Limits) (names : List (List ℕ)) (old new : Seen) (o : Option (List ℕ)) → NotesLocation limits old new o → ((q : List ℕ) → has old.locations q ≡ holds_name names q) → (q : List ℕ) → has new.locations q ≡ holds_name (names ++ cons_option o []) q
locations_push limits names old new None n h q = n.locations q ∙ h q ∙ ap (λ l. holds_name l q) (sym (append-nil names))
locations_push limits names old new (Some a) n h q = any_push (λ other. bytes_eq other q) names a (has new.locations q) (has old.locations q) (n.locations q) (h q)

locations_counted : (limits : Limits) (names : List (List ℕ)) (old new : Seen) (o : Option (List ℕ)) → NotesLocation limits old new o → ((q : List ℕ) → has old.locations q ≡ holds_name names q) → old.location_count ≡ length (distinct names) → new.location_count ≡ length (distinct (names ++ cons_option o []))
locations_counted limits names old new None n h e = n.location_count ∙ e ∙ ap (λ l. length (distinct l)) (sym (append-nil names))
locations_counted limits names old new (Some a) n h e = n.location_count ∙ (λ i. if not (h a i) then e i + 1 else e i) ∙ sym (distinct_push names a)

-- one more statement
pub seen_more : (limits : Limits) (ss : List Statement) (s : Statement) (old new : Seen) → IsSeen limits ss old → Notes limits old new s → IsSeen limits (ss ++ s ∷ []) new
seen_more limits ss s old new h n =
    let names : filter_map location_named (ss ++ s ∷ []) ≡ filter_map location_named ss ++ cons_option (location_named s) [] = filter_map-append location_named ss (s ∷ []) in
    record {
      initial = λ q. any_push (repeats (Init q [])) ss s (has new.initial q) (has old.initial q) (n.initial q) (h.initial q);
      final_values = λ q. any_push (repeats (Final q [])) ss s (has new.final_values q) (has old.final_values q) (n.final_values q) (h.final_values q);
      processes = λ q. any_push (repeats (Proc q)) ss s (has new.processes q) (has old.processes q) (n.processes q) (h.processes q);
      locations = λ q. locations_push limits (filter_map location_named ss) old new (location_named s) n.location h.locations q ∙ ap (λ l. holds_name l q) (sym names);
      location_count = locations_counted limits (filter_map location_named ss) old new (location_named s) n.location h.locations h.location_count ∙ ap (λ l. length (distinct l)) (sym names);
      process_count = count_push is_proc ss s new.process_count old.process_count n.process_count h.process_count;
      operation_count = count_push is_operation ss s new.operation_count old.operation_count n.operation_count h.operation_count;
      before_count = count_push is_before ss s new.before_count old.before_count n.before_count h.before_count;
      few_locations = n.location.few_locations;
      few_processes = n.few_processes h.few_processes;
      few_operations = n.few_operations h.few_operations;
      few_before = n.few_before h.few_before;
    }

-- what the statements before a statement make wrong with it
abbrev pub late_fault : Limits → List Statement → Statement → Option TraceCause
late_fault limits earlier s = if list_any (repeats s) earlier then Some (twice_cause s)
    else or_else (limit_fault limits earlier s)
    (if is_location_too_many limits earlier (location_named s) then Some TooManyLocations else None)

any_same : {A : Type 0} (p q : A → Bool) → ((x : A) → p x ≡ q x) → (xs : List A) → list_any p xs ≡ list_any q xs
any_same p q h xs = λ i. list_any (λ x. h x i) xs

init_repeats : (a d : List ℕ) (t : Statement) → repeats (Init a []) t ≡ repeats (Init a d) t
init_repeats a d (Init b e) = refl
init_repeats a d (Final b e) = refl
init_repeats a d (Proc name) = refl
init_repeats a d (Read b e source times) = refl
init_repeats a d (Write b e times) = refl
init_repeats a d (Update b e f source times) = refl
init_repeats a d (Before p i q j) = refl

final_repeats : (a d : List ℕ) (t : Statement) → repeats (Final a []) t ≡ repeats (Final a d) t
final_repeats a d (Init b e) = refl
final_repeats a d (Final b e) = refl
final_repeats a d (Proc name) = refl
final_repeats a d (Read b e source times) = refl
final_repeats a d (Write b e times) = refl
final_repeats a d (Update b e f source times) = refl
final_repeats a d (Before p i q j) = refl

or_else_chosen : (b : Bool) (cause : TraceCause) (other : Option TraceCause) → or_else (if b then Some cause else None) other ≡ (if b then Some cause else other)
or_else_chosen true cause other = refl
or_else_chosen false cause other = refl

-- the fault of an operation
fault_at_operation : (limits : Limits) (ss : List Statement) (seen : Seen) (a : List ℕ) → IsSeen limits ss seen → fault_of_operation limits seen a ≡
    or_else (if nat_le (max_operations limits) (length (filter is_operation ss)) then Some TooManyOps else None) (if is_location_too_many limits ss (Some a) then Some TooManyLocations else None)
fault_at_operation limits ss seen a h =
    (λ i. if nat_le (max_operations limits) (h.operation_count i) then Some TooManyOps else if not (h.locations a i) && nat_le (max_locations limits) (h.location_count i) then Some TooManyLocations else None)
    ∙ sym (or_else_chosen (nat_le (max_operations limits) (length (filter is_operation ss))) TooManyOps (if is_location_too_many limits ss (Some a) then Some TooManyLocations else None))

no_repeats : (ss : List Statement) (cause : TraceCause) (rest : Option TraceCause) → rest ≡ (if list_any (λ (t : Statement). false) ss then Some cause else rest)
no_repeats ss cause rest = ap (λ b. if b then Some cause else rest) (sym (none_passes ss))

none_after : (b : Bool) (cause : TraceCause) → (if b then Some cause else None) ≡ or_else (if b then Some cause else None) None
none_after true cause = refl
none_after false cause = refl

-- the fault of a statement after the others, by what is kept
pub fault_seen : (limits : Limits) (ss : List Statement) (seen : Seen) (s : Statement) → IsSeen limits ss seen → fault_behind limits seen s ≡ late_fault limits ss s
fault_seen limits ss seen (Init a d) h = λ i. if (h.initial a ∙ any_same (repeats (Init a [])) (repeats (Init a d)) (init_repeats a d) ss) i then Some InitTwice else if not (h.locations a i) && nat_le (max_locations limits) (h.location_count i) then Some TooManyLocations else None
fault_seen limits ss seen (Final a d) h = λ i. if (h.final_values a ∙ any_same (repeats (Final a [])) (repeats (Final a d)) (final_repeats a d) ss) i then Some FinalTwice else if not (h.locations a i) && nat_le (max_locations limits) (h.location_count i) then Some TooManyLocations else None
fault_seen limits ss seen (Proc name) h =
    (λ i. if h.processes name i then Some ProcTwice else if nat_le 64 (h.process_count i) then Some TooManyProcs else None)
    ∙ ap (λ f. if list_any (repeats (Proc name)) ss then Some ProcTwice else f) (none_after (nat_le 64 (length (filter is_proc ss))) TooManyProcs)
fault_seen limits ss seen (Read a d source times) h = fault_at_operation limits ss seen a h ∙ no_repeats ss ProcTwice (or_else (limit_fault limits ss (Read a d source times)) (if is_location_too_many limits ss (Some a) then Some TooManyLocations else None))
fault_seen limits ss seen (Write a d times) h = fault_at_operation limits ss seen a h ∙ no_repeats ss ProcTwice (or_else (limit_fault limits ss (Write a d times)) (if is_location_too_many limits ss (Some a) then Some TooManyLocations else None))
fault_seen limits ss seen (Update a d e source times) h = fault_at_operation limits ss seen a h ∙ no_repeats ss ProcTwice (or_else (limit_fault limits ss (Update a d e source times)) (if is_location_too_many limits ss (Some a) then Some TooManyLocations else None))
fault_seen limits ss seen (Before p i q j) h =
    (λ k. if nat_le (max_pairs limits) (h.before_count k) then Some TooManyBefore else None)
    ∙ none_after (nat_le (max_pairs limits) (length (filter is_before ss))) TooManyBefore
    ∙ no_repeats ss ProcTwice (or_else (limit_fault limits ss (Before p i q j)) None)

-- the first of the faults of a statement
abbrev pub shape_of : Bool → Bool → Bool → Bool → Bool → Option TraceCause
shape_of late outside named numbered turned = if late then Some LateHeaderLine else if outside then Some OpOutsideProc else if not named then Some BadName else if not numbered then Some BadNumber else if turned then Some EndsBeforeStart else None

abbrev pub early_of : Bool → Bool → Bool → Option TraceCause
early_of late outside named = if late then Some LateHeaderLine else if outside then Some OpOutsideProc else if not named then Some BadName else None

early_some : (a b c d e : Bool) (cause : TraceCause) (rest : Option TraceCause) → early_of a b c ≡ Some cause → or_else (shape_of a b c d e) rest ≡ Some cause
early_some true b c d e cause rest h = h
early_some false true c d e cause rest h = h
early_some false false false d e cause rest h = h
early_some false false true d e cause rest h = absurd (cc)

early_number : (a b c d e : Bool) (cause : TraceCause) (rest : Option TraceCause) → early_of a b c ≡ None → number_fault d ≡ Some cause → or_else (shape_of a b c d e) rest ≡ Some cause
early_number true b c d e cause rest h n = absurd (cc)
early_number false true c d e cause rest h n = absurd (cc)
early_number false false false d e cause rest h n = absurd (cc)
early_number false false true true e cause rest h n = absurd (cc)
early_number false false true false e cause rest h n = n

early_turned : (a b c d e : Bool) (rest : Option TraceCause) → early_of a b c ≡ None → d ≡ true → e ≡ true → or_else (shape_of a b c d e) rest ≡ Some EndsBeforeStart
early_turned true b c d e rest h n t = absurd (cc)
early_turned false true c d e rest h n t = absurd (cc)
early_turned false false false d e rest h n t = absurd (cc)
early_turned false false true false e rest h n t = absurd (cc)
early_turned false false true true false rest h n t = absurd (cc)
early_turned false false true true true rest h n t = refl

early_none : (a b c d e : Bool) (rest : Option TraceCause) → early_of a b c ≡ None → d ≡ true → e ≡ false → or_else (shape_of a b c d e) rest ≡ rest
early_none true b c d e rest h n t = absurd (cc)
early_none false true c d e rest h n t = absurd (cc)
early_none false false false d e rest h n t = absurd (cc)
early_none false false true false e rest h n t = absurd (cc)
early_none false false true true true rest h n t = absurd (cc)
early_none false false true true false rest h n t = refl

-- the fault of a statement, where its place or a name is wrong
pub fault_early : (limits : Limits) (ss : List Statement) (s : Statement) (begun : Bool) (cause : TraceCause) → list_any is_proc ss ≡ begun → early_fault begun s ≡ Some cause → statement_fault limits ss s ≡ Some cause
fault_early limits ss s begun cause b h = early_some (is_value_line s && list_any is_proc ss) (is_operation s && not (list_any is_proc ss)) (list_all is_name (names_of s)) (has_numbers limits s) (are_turned (times_of s)) cause
    (late_fault limits ss s) (ap (λ c. early_fault c s) b ∙ h)

-- where a number is wrong
pub fault_number : (limits : Limits) (ss : List Statement) (s : Statement) (begun : Bool) (refusal : PlainFault TraceCause) → list_any is_proc ss ≡ begun → early_fault begun s ≡ None → IsRefusedFor (number_fault (has_numbers limits s)) refusal → IsRefusedFor (statement_fault limits ss s) refusal
fault_number limits ss s begun OutOfMemory b h r = tt
fault_number limits ss s begun (For cause) b h r = early_number (is_value_line s && list_any is_proc ss) (is_operation s && not (list_any is_proc ss)) (list_all is_name (names_of s)) (has_numbers limits s) (are_turned (times_of s)) cause
    (late_fault limits ss s) (ap (λ c. early_fault c s) b ∙ h) r

-- where it ends before it starts
pub fault_turned : (limits : Limits) (ss : List Statement) (s : Statement) (begun : Bool) → list_any is_proc ss ≡ begun → early_fault begun s ≡ None → has_numbers limits s ≡ true → are_turned (times_of s) ≡ true → statement_fault limits ss s ≡ Some EndsBeforeStart
fault_turned limits ss s begun b h n t = early_turned (is_value_line s && list_any is_proc ss) (is_operation s && not (list_any is_proc ss)) (list_all is_name (names_of s)) (has_numbers limits s) (are_turned (times_of s)) (late_fault limits ss s) (ap (λ c. early_fault c s) b ∙ h) n t

-- where its words are fine
pub fault_late : (limits : Limits) (ss : List Statement) (s : Statement) (begun : Bool) → list_any is_proc ss ≡ begun → early_fault begun s ≡ None → has_numbers limits s ≡ true → are_turned (times_of s) ≡ false → statement_fault limits ss s ≡ late_fault limits ss s
fault_late limits ss s begun b h n t = early_none (is_value_line s && list_any is_proc ss) (is_operation s && not (list_any is_proc ss)) (list_all is_name (names_of s)) (has_numbers limits s) (are_turned (times_of s)) (late_fault limits ss s) (ap (λ c. early_fault c s) b ∙ h) n t

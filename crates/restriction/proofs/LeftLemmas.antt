-- What remains of an operation, by its name in the whole trace and by its new one.
use Rattle.std.proofs.Common.{◌≡◌, ◌<◌, ◌≤◌, ◌+◌, ◌-◌, ℕ, zero, suc, List, [], ◌∷◌, ◌++◌, length, map, Bool, true, false, cond, refl, ap, sym, ◌∙◌, arith}
use Rattle.std.specs.Prelude.{Option, Some, None, IsSome, is_some}
use Rattle.std.specs.List.{Contains, filter, filter_map, find, slice_get}
use Rattle.std.specs.Option.{option_and_then, option_map}
use Rattle.std.specs.Str.{bytes_eq}
use Rattle.std.proofs.lemmas.List.{length-append}
use Rattle.std.proofs.lemmas.Option.{slice_get-map, same_Some}
use Rattle.std.proofs.lemmas.List.Elements.{filter-append}
use Rattle.trace_semantics.specs.declared.operation.Op.{Op}
use Rattle.trace_semantics.specs.declared.operation.OpName.{OpName}
use Rattle.trace_semantics.specs.declared.trace.Process.{Process}
use Rattle.trace_semantics.specs.Trace.{TraceValue, IsTrace, at_place, process_named, operation_at, first_names}
use Rattle.trace_semantics.proofs.ElementLemmas.{found, finds, same_from_key, from_filter}
use Rattle.trace_semantics.proofs.NameLemmas.{same_bytes, bytes_same, from_first, known_named, named_known}
use Rattle.restriction.specs.Left.{is_left, new_name, new_op, names_of, names_from, left_process}
use Rattle.restriction.proofs.PlaceLemmas.{joined_names, one_more_name, cut_names, chosen, choose, place_more, value_left, in_list}

pub found_process : (t : TraceValue) (name : List ℕ) (p : Process) → process_named t name ≡ Some p → Contains t.processes p × (p.name ≡ name)
found_process t name p e = let at = found (λ (q : Process). bytes_eq q.name name) t.processes p e in (at.0, same_bytes p.name name at.1)

pub process_of : (t : TraceValue) → IsTrace t → (p : Process) → Contains t.processes p → process_named t p.name ≡ Some p
process_of t ok p c =
    finds (λ (q : Process). bytes_eq q.name p.name) t.processes p (bytes_same p.name p.name refl)
    (λ q d same. same_from_key (λ (r : Process). r.name) t.processes ok.distinct q p d c (same_bytes q.name p.name same)) c

-- a name of a process of the trace is known
pub listed_name : (t : TraceValue) → IsTrace t → (p : Process) → Contains t.processes p → (n : OpName) → Contains (names_of p) n → IsSome (operation_at t n)
listed_name t ok p c n d =
    let at = from_first p.name (length p.operations) n d in
    named_known t ok n (record { process = p; listed = c; called = sym at.0; least = at.1; most = at.2 })

left_found : (stays : OpName → Option Op) (name : List ℕ) (ps : List Process) → find (λ (p : Process). bytes_eq p.name name) (map (left_process stays) ps) ≡ option_map (left_process stays) (find (λ (p : Process). bytes_eq p.name name) ps)
left_found stays name [] = refl
left_found stays name (p ∷ ps) = at (bytes_eq p.name name) (left_found stays name ps)
  where
    at : (b : Bool) → find (λ (q : Process). bytes_eq q.name name) (map (left_process stays) ps) ≡ option_map (left_process stays) (find (λ (q : Process). bytes_eq q.name name) ps) →
        cond b (Some (left_process stays p)) (find (λ (q : Process). bytes_eq q.name name) (map (left_process stays) ps)) ≡ option_map (left_process stays) (cond b (Some p) (find (λ (q : Process). bytes_eq q.name name) ps))
    at true e = refl
    at false e = e

-- n is the name in the whole trace of what is called x in the part
pub record IsOld (t : TraceValue) (stays : OpName → Option Op) (x n : OpName) : Type 0 where
  pub process : Process
  pub found : process_named t x.process ≡ Some process
  pub placed : at_place (filter (is_left stays) (names_of process)) x.place ≡ Some n

pub one_old : (t : TraceValue) (stays : OpName → Option Op) (x a b : OpName) → IsOld t stays x a → IsOld t stays x b → a ≡ b
one_old t stays x a b first second =
    let same : first.process ≡ second.process = same_Some first.process second.process (sym first.found ∙ second.found) in
    same_Some a b (sym first.placed ∙ ap (λ p. at_place (filter (is_left stays) (names_of p)) x.place) same ∙ second.placed)

behind_zero : {X : Type 0} (xs : List X) (k : ℕ) (x : X) → at_place xs k ≡ Some x → (i : ℕ) × (k ≡ i + 1) × (slice_get xs i ≡ Some x)
behind_zero xs zero x e = absurd (cc)
behind_zero xs (suc i) x e = (i, omega arith, e)

-- the new place counts the names that remain
left_one : (stays : OpName → Option Op) (n : OpName) (b : Bool) → is_left stays n ≡ b → length (filter (is_left stays) (n ∷ [])) ≡ cond b 1 0
left_one stays n true e = ap (λ (b : Bool). length (cond b (n ∷ []) [])) e
left_one stays n false e = ap (λ (b : Bool). length (cond b (n ∷ []) [])) e

pub one_more_place : (stays : OpName → Option Op) (process : List ℕ) (k : ℕ) (b : Bool) → is_left stays (record { process = process; place = k + 1 }) ≡ b →
    length (filter (is_left stays) (first_names process (k + 1))) ≡ length (filter (is_left stays) (first_names process k)) + cond b 1 0
one_more_place stays process k b e =
    ap (λ l. length (filter (is_left stays) l)) (one_more_name process k)
    ∙ ap length (filter-append (is_left stays) (first_names process k) (record { process = process; place = k + 1 } ∷ []))
    ∙ length-append (filter (is_left stays) (first_names process k)) (filter (is_left stays) (record { process = process; place = k + 1 } ∷ []))
    ∙ ap (λ m. length (filter (is_left stays) (first_names process k)) + m) (left_one stays (record { process = process; place = k + 1 }) b e)

pub record Known (t : TraceValue) (stays : OpName → Option Op) (x n : OpName) : Type 0 where
  pub known : IsSome (operation_at t n)
  pub left : is_left stays n ≡ true
  pub renamed : new_name stays n ≡ x

pub old_known : (t : TraceValue) → IsTrace t → (stays : OpName → Option Op) (x n : OpName) → IsOld t stays x n → Known t stays x n
old_known t ok stays x n old =
    let p = old.process in
    let at = behind_zero (filter (is_left stays) (names_of p)) x.place n old.placed in
    let here = chosen (is_left stays) (names_of p) at.0 n at.2 in
    let cut = cut_names p.name 1 (length p.operations) here.front n here.back here.parts in
    let listed = found_process t x.process p old.found in
    let shifted : 1 + length here.front ≡ length here.front + 1 = omega arith in
    let name : n ≡ record { process = p.name; place = length here.front + 1 } = cut.name ∙ ap (λ (k : ℕ). record { process = p.name; place = k }) shifted in
    let counted : length (filter (is_left stays) (first_names p.name (length here.front))) ≡ at.0 = ap (λ l. length (filter (is_left stays) l)) (sym cut.front_is) ∙ here.counted in
    let place : (new_name stays n).place ≡ x.place =
    ap (λ (m : OpName). length (filter (is_left stays) (first_names m.process m.place))) name
    ∙ one_more_place stays p.name (length here.front) true (ap (is_left stays) (sym name) ∙ here.passes)
    ∙ ap (λ k. k + 1) counted ∙ sym at.1 in
    let process : (new_name stays n).process ≡ x.process = ap (λ (m : OpName). m.process) name ∙ listed.1 in
    record {
      known = listed_name t ok p listed.0 n (from_filter (is_left stays) (names_of p) n (in_list (filter (is_left stays) (names_of p)) x.place n old.placed)).0;
      left = here.passes;
      renamed = λ i. record { process = process i; place = place i };
    }

-- what remains has its new name
pub known_old : (t : TraceValue) → IsTrace t → (stays : OpName → Option Op) (n : OpName) → IsSome (operation_at t n) → is_left stays n ≡ true → IsOld t stays (new_name stays n) n
known_old t ok stays n known left =
    let at = known_named t n known in
    let p = at.process in
    let before : ℕ = n.place - 1 in
    let behind : ℕ = length p.operations - n.place in
    let here : before + 1 ≡ n.place = omega (arith, at.least) in
    let all : length p.operations ≡ before + (1 + behind) = omega (arith, at.least, at.most) in
    let name : record { process = p.name; place = before + 1 } ≡ n = λ i. record { process = at.called i; place = here i } in
    let shifted : 1 + before ≡ before + 1 = omega arith in
    let parts : names_of p ≡ first_names p.name before ++ n ∷ names_from p.name (1 + before + 1) behind =
    ap (names_from p.name 1) all ∙ joined_names p.name 1 before (1 + behind)
    ∙ ap (λ l. first_names p.name before ++ l) (joined_names p.name (1 + before) 1 behind
    ∙ ap (λ (m : OpName). m ∷ names_from p.name (1 + before + 1) behind) (ap (λ (k : ℕ). record { process = p.name; place = k }) shifted ∙ name)) in
    let place : (new_name stays n).place ≡ length (filter (is_left stays) (first_names p.name before)) + 1 =
    ap (λ (m : OpName). length (filter (is_left stays) (first_names m.process m.place))) (sym name)
    ∙ one_more_place stays p.name before true (ap (is_left stays) name ∙ left) in
    record {
      process = p;
      found = ap (process_named t) (sym at.called) ∙ process_of t ok p at.listed;
      placed = ap (at_place (filter (is_left stays) (names_of p))) place ∙ place_more (filter (is_left stays) (names_of p)) (length (filter (is_left stays) (first_names p.name before)))
          ∙ ap (λ l. slice_get (filter (is_left stays) l) (length (filter (is_left stays) (first_names p.name before)))) parts
          ∙ choose (is_left stays) (first_names p.name before) n (names_from p.name (1 + before + 1) behind) left;
    }

pub place_map : {X Y : Type 0} (f : X → Y) (xs : List X) (k : ℕ) → at_place (map f xs) k ≡ option_map f (at_place xs k)
place_map f xs zero = refl
place_map f xs (suc k) = slice_get-map f xs k

-- the operations of a trace whose processes are what remains of those of the whole one
module _ (t q : TraceValue) (ok : IsTrace t) (stays : OpName → Option Op) (made : q.processes ≡ map (left_process stays) t.processes) where
  left_process_named : (name : List ℕ) → process_named q name ≡ option_map (left_process stays) (process_named t name)
  left_process_named name = ap (find (λ (p : Process). bytes_eq p.name name)) made ∙ left_found stays name t.processes

  left_operation : (x : OpName) (p : Process) → process_named t x.process ≡ Some p → operation_at q x ≡ option_map (new_op stays) (option_and_then stays (at_place (filter (is_left stays) (names_of p)) x.place))
  left_operation x p e =
      ap (option_and_then (λ (r : Process). at_place r.operations x.place)) (left_process_named x.process ∙ ap (option_map (left_process stays)) e)
      ∙ place_map (new_op stays) (filter_map stays (names_of p)) x.place
      ∙ ap (option_map (new_op stays)) (value_left stays (names_of p) x.place)

  pub old_operation : (x n : OpName) → IsOld t stays x n → operation_at q x ≡ option_map (new_op stays) (stays n)
  old_operation x n old =
      left_operation x old.process old.found ∙ ap (λ o. option_map (new_op stays) (option_and_then stays o)) old.placed

  old_in : (x : OpName) (p : Process) → process_named t x.process ≡ Some p → (o : Option OpName) → at_place (filter (is_left stays) (names_of p)) x.place ≡ o → IsSome (operation_at q x) → (n : OpName) × IsOld t stays x n
  old_in x p e None placed h = absurd (let none = left_operation x p e ∙ ap (λ o. option_map (new_op stays) (option_and_then stays o)) placed in let clash : false ≡ true = sym (ap is_some none) ∙ h in cc)
  old_in x p e (Some n) placed h = (n, record { process = p; found = e; placed = placed })

  old_of : (x : OpName) (o : Option Process) → process_named t x.process ≡ o → IsSome (operation_at q x) → (n : OpName) × IsOld t stays x n
  old_of x None e h =
      absurd (
      let none : operation_at q x ≡ None = ap (option_and_then (λ (r : Process). at_place r.operations x.place)) (left_process_named x.process ∙ ap (option_map (left_process stays)) e) in
      let clash : false ≡ true = sym (ap is_some none) ∙ h in cc)
  old_of x (Some p) e h = old_in x p e (at_place (filter (is_left stays) (names_of p)) x.place) refl h

  -- each operation of the part has a name in the whole trace
  pub has_old : (x : OpName) → IsSome (operation_at q x) → (n : OpName) × IsOld t stays x n
  has_old x h = old_of x (process_named t x.process) refl h

  pub old_left : (x n : OpName) → IsOld t stays x n → IsSome (operation_at q x)
  old_left x n old = ap is_some (old_operation x n old) ∙ mapped (stays n) (old_known t ok stays x n old).left
    where
      mapped : (o : Option Op) → IsSome o → is_some (option_map (new_op stays) o) ≡ true
      mapped None h = absurd (cc)
      mapped (Some op) h = refl

  pub new_operation : (n : OpName) → IsSome (operation_at t n) → is_left stays n ≡ true → operation_at q (new_name stays n) ≡ option_map (new_op stays) (stays n)
  new_operation n known left = old_operation (new_name stays n) n (known_old t ok stays n known left)

-- how many of the first operations of a process remain
abbrev pub left_among : (OpName → Option Op) → List ℕ → ℕ → ℕ
left_among stays process k = length (filter (is_left stays) (first_names process k))

pub more_left : (stays : OpName → Option Op) (process : List ℕ) (k d : ℕ) → left_among stays process k ≤ left_among stays process (k + d)
more_left stays process k d =
    let all =
    ap (λ l. length (filter (is_left stays) l)) (joined_names process 1 k d)
    ∙ ap length (filter-append (is_left stays) (first_names process k) (names_from process (1 + k) d))
    ∙ length-append (filter (is_left stays) (first_names process k)) (filter (is_left stays) (names_from process (1 + k) d)) in
    omega (arith, all)

-- the new place of what remains is higher than those of all earlier operations of its process
pub higher : (stays : OpName → Option Op) (m n : OpName) → m.process ≡ n.process → m.place < n.place → is_left stays n ≡ true → (new_name stays m).place < (new_name stays n).place
higher stays m n same l left =
    let e : m.place + (n.place - 1 - m.place) ≡ n.place - 1 = omega (arith, l) in
    let f : n.place - 1 + 1 ≡ n.place = omega (arith, l) in
    let name : record { process = m.process; place = n.place - 1 + 1 } ≡ n = λ i. record { process = same i; place = f i } in
    let all : left_among stays m.process (m.place + (n.place - 1 - m.place)) ≡ left_among stays m.process (n.place - 1) = ap (left_among stays m.process) e in
    let one = one_more_place stays m.process (n.place - 1) true (ap (is_left stays) name ∙ left) in
    let last : left_among stays m.process (n.place - 1 + 1) ≡ left_among stays n.process n.place = λ i. left_among stays (same i) (f i) in
    omega (arith, more_left stays m.process m.place (n.place - 1 - m.place), all, one, last)

-- The names of a core, in the order of the trace.
use Rattle.std.proofs.Common.{◌≡◌, ℕ, ◌+◌, Bool, true, false, List, [], ◌∷◌, ◌++◌, cond, append_assoc, ap, refl, subst, sym, ◌∙◌, arith}
use Rattle.std.specs.List.{Contains, filter}
use Rattle.std.proofs.lemmas.List.FromFn.{map-range_with_len_more}
use Rattle.trace_semantics.proofs.ElementLemmas.{from_filter, head_in, tail_in, to_filter}
use Rattle.trace_semantics.proofs.NameLemmas.{come_in, in_come}
use Rattle.trace_semantics.specs.declared.operation.OpName.{OpName}
use Rattle.trace_semantics.specs.Judgement.{has_come}
use Rattle.trace_semantics.specs.Trace.{TraceValue, first_names, operation_names}
use Rattle.survey_verdict.specs.Surveyed.{core_of}

-- one name more of a process, whose name was copied
pub pushed_name : (process copied : List ℕ) → copied ≡ process → (k : ℕ) (old items new : List OpName) → items ≡ old ++ first_names process k → new ≡ items ++ record { process = copied; place = k + 1 } ∷ [] → new ≡ old ++ first_names process (k + 1)
pushed_name process copied same k old items new so_far e =
    let last : List OpName = record { process = process; place = k + 1 } ∷ [] in
    let more : first_names process (k + 1) ≡ first_names process k ++ last = map-range_with_len_more (λ (j : ℕ). record { process = process; place = j }) 1 k (k + 1) (omega arith) in
    let pushed : new ≡ items ++ last = e ∙ (λ i. items ++ record { process = same i; place = k + 1 } ∷ []) in
    pushed ∙ ap (λ l. l ++ last) so_far ∙ append_assoc old (first_names process k) last ∙ ap (λ l. old ++ l) (sym more)

-- two tests that agree on a list keep the same of it
pub kept_alike : (p q : OpName → Bool) (xs : List OpName) → ((x : OpName) → Contains xs x → p x ≡ q x) → filter p xs ≡ filter q xs
kept_alike p q [] same = refl
kept_alike p q (x ∷ xs) same =
    let rest : filter p xs ≡ filter q xs = kept_alike p q xs (λ y c. same y (tail_in x xs y c)) in
    let here : p x ≡ q x = same x (head_in x xs) in
    λ i. cond (here i) (x ∷ rest i) (rest i)

-- a test that all pass keeps all
all_kept : (p : OpName → Bool) (xs : List OpName) → ((x : OpName) → Contains xs x → p x ≡ true) → filter p xs ≡ xs
all_kept p [] passes = refl
all_kept p (x ∷ xs) passes =
    let rest : filter p xs ≡ xs = all_kept p xs (λ y c. passes y (tail_in x xs y c)) in
    let here : p x ≡ true = passes x (head_in x xs) in
    λ i. cond (here i) (x ∷ rest i) (rest i)

-- of the names of a list those are among the kept ones that pass
come_at : (p : OpName → Bool) (xs : List OpName) (x : OpName) → Contains xs x → (h : Bool) → p x ≡ h → (b : Bool) → has_come (filter p xs) x ≡ b → b ≡ h
come_at p xs x c true e b f = sym f ∙ in_come (filter p xs) x (to_filter p xs x e c)
come_at p xs x c false e true f = absurd (let wrong : true ≡ false = sym ((from_filter p xs x (come_in (filter p xs) x f)).1) ∙ e in cc)
come_at p xs x c false e false f = refl

-- a core is that of its own names
core_again : (t : TraceValue) (found : List OpName) → core_of t found ≡ core_of t (core_of t found)
core_again t found = sym (kept_alike (has_come (core_of t found)) (has_come found) (operation_names t) (λ x c. come_at (has_come found) (operation_names t) x c (has_come found x) refl (has_come (core_of t found) x) refl))

pub in_order : (t : TraceValue) (names found : List OpName) → names ≡ core_of t found → names ≡ core_of t names
in_order t names found are = subst (λ (l : List OpName). l ≡ core_of t l) (sym are) (core_again t found)

-- the core of all operations has all
pub core_of_all : (t : TraceValue) → core_of t (operation_names t) ≡ operation_names t
core_of_all t = all_kept (has_come (operation_names t)) (operation_names t) (λ x c. in_come (operation_names t) x c)

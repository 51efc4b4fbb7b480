-- What is read: where the choices of a reading operation lie.
use Rattle.std.proofs.Common.{◌≡◌, ◌∙◌, ℕ, ℤ, ◌<◌, ◌≤◌, List, map, length, get_or, sym, ap, Option, Some, None, IsSome, true, false, refl, subst}
use Rattle.std.specs.Prelude.{◌≢◌, slice_get}
use Rattle.std.specs.List.{All, Contains}
use Rattle.std.specs.Option.{option_and_then}
use Rattle.std.proofs.lemmas.List.{get_or-map}
use Rattle.std.proofs.lemmas.Option.{slice_get_within}
use Rattle.std.proofs.lemmas.List.Elements.{Contains-get_or}
use Rattle.trace_semantics.specs.declared.operation.OpName.{OpName}
use Rattle.trace_semantics.specs.Operation.{value_read}
use Rattle.trace_semantics.specs.Trace.{TraceValue, IsTrace, operation_at, operation_names, operation_count}
use Rattle.var_layout.specs.declared.candidate.ReadsFromChoice.{ReadsFromChoice}
use Rattle.var_layout.specs.ChoiceVariables.{choices}
use Rattle.var_layout.specs.Numbers.{name_at, read_at, other_writers}
use Rattle.var_layout.proofs.NumberLemmas.{names_counted}
use Rattle.var_layout.proofs.VariableLemmas.{choice_over}
use Rattle.var_layout.proofs.WriterLemmas.{other_writer}
use Rattle.clause_blocks.specs.Blocks.{stands_before}
use Rattle.clause_blocks.specs.Ranges.{FitsFormula, IsSource}
use Rattle.clause_blocks.proofs.NumbersOfNames.VariableLemmas.{fits_formula, choice_source}

named_within : (t : TraceValue) (names : List OpName) (r : ℕ) (n : Option OpName) → slice_get names r ≡ n → IsSome (option_and_then value_read (option_and_then (operation_at t) n)) → r < length names
named_within t names r None e h = absurd (let clash : false ≡ true = h in cc)
named_within t names r (Some n) e h = slice_get_within names r n e

-- a reading operation is one
pub reader_within : (t : TraceValue) (r : ℕ) → IsSome (read_at t r) → r < operation_count t
reader_within t r h = subst (λ (n : ℕ). r < n) (names_counted t) (named_within t (operation_names t) r (name_at t r) refl h)

pub choices_are_variables : (t : TraceValue) → IsTrace t → operation_count t ≤ 160 → (r : ℕ) (cs : List ReadsFromChoice) → cs ≡ choices t r → All (λ (c : ReadsFromChoice). FitsFormula c.variable) cs
choices_are_variables t ok few r cs e k d within =
    let c = get_or cs k d in
    fits_formula t ok few c.variable (choice_over t r c (subst (λ (l : List ReadsFromChoice). Contains l c) e (Contains-get_or cs k d within)))

pub choices_are_sources : (t : TraceValue) (r : ℕ) → r < operation_count t → (cs : List ReadsFromChoice) → cs ≡ choices t r → All (λ (c : ReadsFromChoice). IsSource t r c.candidate) cs
choices_are_sources t r operation cs e k d within =
    let c = get_or cs k d in
    choice_source t r c operation (subst (λ (l : List ReadsFromChoice). Contains l c) e (Contains-get_or cs k d within))

pub others_within : (t : TraceValue) (r : ℕ) (ws : List ℕ) → ws ≡ other_writers t r → (k : ℕ) (d : ℕ) → k < length ws → (get_or ws k d < operation_count t) × (get_or ws k d ≢ r)
others_within t r ws e k d within = other_writer t r (get_or ws k d) (subst (λ (l : List ℕ). Contains l (get_or ws k d)) e (Contains-get_or ws k d within))

-- of the literals that say that each other writer stands after r, the one at a place
pub literal_there : (t : TraceValue) (r : ℕ) (ws : List ℕ) (literals : List ℤ) → ws ≡ other_writers t r → literals ≡ map (stands_before t r) (other_writers t r) → (k : ℕ) (d : ℤ) → k < length ws → get_or literals k d ≡ stands_before t r (get_or ws k 0)
literal_there t r ws literals e is k d within = ap (λ l. get_or l k d) (is ∙ ap (map (stands_before t r)) (sym e)) ∙ get_or-map (stands_before t r) ws k 0 d within

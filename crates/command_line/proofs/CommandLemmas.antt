-- What the entries of a command have where `clap` finds no fault in its words.
use Rattle.std.proofs.Common.{◌≡◌, ◌∙◌, ◌&&◌, ◌||◌, Bool, true, false, not, refl, sym, ap, List, [], ◌∷◌, Option, Some, true≢false}
use Rattle.std.specs.Prelude.{find}
use Rattle.std.specs.List.{list_all, list_any}
use Rattle.std.specs.Option.{option_map_or}
use Rattle.std.specs.Str.{bytes_eq}
use Rattle.std.proofs.lemmas.Slice.Eq.{bytes_eq-Decides}
use Rattle.clap.specs.Facts.{explicit_source, parser_of_value}
use Rattle.clap.specs.Faults.{level_fault}
use Rattle.clap.specs.Kinds.{check_kinds}
use Rattle.clap.specs.Simple.{Shape}
use Rattle.clap.specs.Takes.{is_given}
use Rattle.clap.specs.ValueTests.{accepts}
use Rattle.clap.specs.Walk.{Row, Rule, Text, arg_by_id, finished, has_row, nothing_held, reading_by, rows_after, walk}
use Rattle.command_line.proofs.EntryLemmas.{defaults_come, has_default, row_given}
use Rattle.command_line.proofs.GivenLemmas.{AllFit, Fits, IsRead, accepted, given_finished, is_request_or_valued, keeps_text, kind_comes, no_kind_of_both, text_read}

-- the argument with this id accepts the value
abbrev pub passes : List Rule → Text → Text → Bool
passes rules id v = option_map_or (λ (a : Rule). accepts a.ignore_case (parser_of_value a.parser) v) (arg_by_id rules id) true

-- what is asked of each argument of a command: it is the one of its id, has a value at each use, and accepts its defaults
pub fits : (rules : List Rule) (a : Rule) → is_request_or_valued a ≡ true → keeps_text (reading_by a) ≡ true → arg_by_id rules a.id ≡ Some a
    → list_all (passes rules a.id) a.defaults ≡ true → Fits (passes rules) a
fits rules a valued kept own by_default = record {
  valued = valued;
  kept = kept;
  sound = λ vs none. ap (λ (o : Option Rule). list_all (λ v. option_map_or (λ (x : Rule). accepts x.ignore_case (parser_of_value x.parser) v) o true) vs) own ∙ accepted a.ignore_case (parser_of_value a.parser) vs none;
  by_default = by_default;
}

-- ---- what is wanted

abbrev pub is_wanted : Text → Rule → Bool
is_wanted id a = a.required && bytes_eq a.id id

check_wants : (a b c : Bool) → check_kinds a b c ≡ [] → c ≡ false
check_wants true b c none = absurd (kind_comes _ _ none)
check_wants false true c none = absurd (kind_comes _ _ none)
check_wants false false true none = absurd (kind_comes _ _ none)
check_wants false false false none = refl

no_excuse : (negates wants : Bool) → (not (negates && false) && wants) ≡ false → wants ≡ false
no_excuse true wants e = e
no_excuse false wants e = e

wanted_given : (id : Text) (rows : List Row) (rules : List Rule) → list_any (λ a. a.required && not (is_given a.id rows)) rules ≡ false
    → list_any (is_wanted id) rules ≡ true → is_given id rows ≡ true
wanted_given id rows [] none any = absurd (true≢false (sym any))
wanted_given id rows (a ∷ rest) none any =
    go a.required (bytes_eq a.id id) ((bytes_eq-Decides a.id id).0) (is_given a.id rows) refl none any (wanted_given id rows rest)
  where
    go : (wants same : Bool) → (same ≡ true → a.id ≡ id) → (there : Bool) → is_given a.id rows ≡ there
        → ((wants && not there) || list_any (λ x. x.required && not (is_given x.id rows)) rest) ≡ false
        → ((wants && same) || list_any (is_wanted id) rest) ≡ true
        → (list_any (λ x. x.required && not (is_given x.id rows)) rest ≡ false → list_any (is_wanted id) rest ≡ true → is_given id rows ≡ true)
        → is_given id rows ≡ true
    go true true is true given none any below = ap (λ t. is_given t rows) (sym (is refl)) ∙ given
    go true true is false given none any below = absurd (true≢false none)
    go true false is true given none any below = below none any
    go true false is false given none any below = absurd (true≢false none)
    go false same is there given none any below = below none any

-- ---- the entries

-- the argument with this id has to be given or has a default
abbrev pub is_sure : List Rule → Text → Bool
is_sure rules id = list_any (is_wanted id) rules || list_any (has_default id) rules

abbrev pub Reads : List Rule → Text → List Row → Type 0
Reads rules id rows = IsRead (passes rules) id (find (λ (r : Row). bytes_eq r.id id) rows)

pub command_reads : (s : Shape) (words : List Text) → AllFit (passes s.rules) s.rules → level_fault s [] nothing_held words false [] ≡ []
    → (id : Text) → is_sure s.rules id ≡ true → Reads s.rules id (rows_after s.rules [] words)
command_reads s words all none id sure =
    let walks = no_kind_of_both _ _ none in
    let settles = no_kind_of_both _ _ walks.1 in
    let checks = no_kind_of_both _ _ settles.1 in
    let given = given_finished (passes s.rules) s [] words all walks.0 settles.0 in
    text_read (passes s.rules) id rows given (there (list_any (is_wanted id) s.rules) refl sure checks.1)
  where
    rows : List Row
    rows = finished s.rules (walk s.rules [] nothing_held words).held

    there : (b : Bool) → list_any (is_wanted id) s.rules ≡ b → (b || list_any (has_default id) s.rules) ≡ true
        → check_kinds (not false && (s.arg_required_else_help && not (list_any (λ r. explicit_source r.source) rows))) (not false && s.subcommand_required)
        (not (s.subcommand_negates_reqs && false) && list_any (λ a. a.required && not (is_given a.id rows)) s.rules) ≡ []
        → has_row id rows ≡ true
    there true is sure none = row_given id rows (wanted_given id rows s.rules (no_excuse s.subcommand_negates_reqs _ (check_wants _ _ _ none)) is)
    there false is sure none = defaults_come id s.rules _ sure

-- Which arguments have an entry after a parse: those that the words gave, and those with a default.
use Rattle.std.proofs.Common.{◌≡◌, ◌&&◌, ◌||◌, Bool, cond, true, false, refl, sym, subst, List, [], ◌∷◌, ◌++◌, Some, true≢false, fold}
use Rattle.std.specs.Prelude.{find}
use Rattle.std.specs.List.{list_any}
use Rattle.std.specs.Option.{option_map_or}
use Rattle.std.specs.Str.{bytes_eq}
use Rattle.std.proofs.lemmas.Slice.Eq.{bytes_eq-Decides}
use Rattle.std.proofs.lemmas.Bool.{or_right}
use Rattle.clap.proofs.WalkLemmas.{both}
use Rattle.clap.specs.Facts.{explicit_source}
use Rattle.clap.specs.Takes.{is_given}
use Rattle.clap.specs.Walk.{Row, Rule, Text, at_row, default_rows, has_row, more_values, reading_by, with_default}
use Rattle.clap.specs.declared.parser.matches.ValueSource.{ValueSource}
use Rattle.command_line.proofs.GivenLemmas.{is_given_text}

or_either : (a b c : Bool) → (a || b) ≡ true → (b ≡ true → c ≡ true) → (a || c) ≡ true
or_either true b c e step = refl
or_either false b c e step = step e

-- ---- what the words gave

pub row_given : (id : Text) (rows : List Row) → is_given id rows ≡ true → has_row id rows ≡ true
row_given id [] given = given
row_given id (r ∷ rs) given = go (bytes_eq r.id id) given (row_given id rs)
  where
    go : (b : Bool) → option_map_or (λ x. explicit_source x.source) (cond b (Some r) (find (λ x. bytes_eq x.id id) rs)) false ≡ true
        → (is_given id rs ≡ true → has_row id rs ≡ true) → (b || has_row id rs) ≡ true
    go true given below = refl
    go false given below = below given

-- ---- defaults

-- the argument has this id, and a value that stands for it
abbrev pub has_default : Text → Rule → Bool
has_default id a = is_given_text a.defaults && bytes_eq a.id id

module _ (s : ValueSource) (vs : List Text) (new : Row) where
  -- more values take no entry away
  row_stays : (id key : Text) (rows : List Row) → has_row id rows ≡ true → has_row id (at_row key (more_values s vs) (new ∷ []) rows) ≡ true
  row_stays id key [] there = absurd (true≢false (sym there))
  row_stays id key (r ∷ rs) there = go (bytes_eq r.id key) there (row_stays id key rs)
    where
      go : (b : Bool) → (bytes_eq r.id id || has_row id rs) ≡ true → (has_row id rs ≡ true → has_row id (at_row key (more_values s vs) (new ∷ []) rs) ≡ true)
          → has_row id (cond b (more_values s vs r ++ rs) (r ∷ at_row key (more_values s vs) (new ∷ []) rs)) ≡ true
      go true there below = there
      go false there below = or_either (bytes_eq r.id id) _ _ there below

  row_comes : (id : Text) (rows : List Row) → bytes_eq new.id id ≡ true → has_row id (at_row id (more_values s vs) (new ∷ []) rows) ≡ true
  row_comes id [] same = rw same refl
  row_comes id (r ∷ rs) same = go (bytes_eq r.id id) refl (row_comes id rs same)
    where
      go : (b : Bool) → bytes_eq r.id id ≡ b → has_row id (at_row id (more_values s vs) (new ∷ []) rs) ≡ true
          → has_row id (cond b (more_values s vs r ++ rs) (r ∷ at_row id (more_values s vs) (new ∷ []) rs)) ≡ true
      go true here below = rw here refl
      go false here below = or_right (bytes_eq r.id id) _ below

default_keeps : (id : Text) (a : Rule) (rows : List Row) → has_row id rows ≡ true → has_row id (with_default rows a) ≡ true
default_keeps id a rows there = go (has_row a.id rows)
  where
    set : (vs : List Text) → has_row id (default_rows a.id (reading_by a) vs rows) ≡ true
    set [] = there
    set (v ∷ vs) = row_stays _ (v ∷ vs) _ id a.id rows there

    go : (b : Bool) → has_row id (cond b rows (default_rows a.id (reading_by a) a.defaults rows)) ≡ true
    go true = there
    go false = set a.defaults

default_comes : (id : Text) (a : Rule) (rows : List Row) → has_default id a ≡ true → has_row id (with_default rows a) ≡ true
default_comes id a rows has =
    let parts = both (is_given_text a.defaults) (bytes_eq a.id id) has in
    subst (λ t. has_row t (with_default rows a) ≡ true) ((bytes_eq-Decides a.id id).0 parts.1) (go (has_row a.id rows) refl parts.0)
  where
    set : (vs : List Text) → is_given_text vs ≡ true → has_row a.id (default_rows a.id (reading_by a) vs rows) ≡ true
    set [] some = absurd (true≢false (sym some))
    set (v ∷ vs) some = row_comes _ (v ∷ vs) _ a.id rows ((bytes_eq-Decides a.id a.id).1 refl)

    go : (b : Bool) → has_row a.id rows ≡ b → is_given_text a.defaults ≡ true → has_row a.id (cond b rows (default_rows a.id (reading_by a) a.defaults rows)) ≡ true
    go true there some = there
    go false there some = set a.defaults some

defaults_keep : (id : Text) (xs : List Rule) (rows : List Row) → has_row id rows ≡ true → has_row id (fold with_default rows xs) ≡ true
defaults_keep id [] rows there = there
defaults_keep id (a ∷ xs) rows there = defaults_keep id xs (with_default rows a) (default_keeps id a rows there)

pub defaults_come : (id : Text) (xs : List Rule) (rows : List Row) → list_any (has_default id) xs ≡ true → has_row id (fold with_default rows xs) ≡ true
defaults_come id [] rows any = absurd (true≢false (sym any))
defaults_come id (a ∷ xs) rows any = go (has_default id a) refl any (defaults_come id xs (with_default rows a))
  where
    go : (b : Bool) → has_default id a ≡ b → (b || list_any (has_default id) xs) ≡ true
        → (list_any (has_default id) xs ≡ true → has_row id (fold with_default (with_default rows a) xs) ≡ true)
        → has_row id (fold with_default (with_default rows a) xs) ≡ true
    go true here any below = defaults_keep id xs (with_default rows a) (default_comes id a rows here)
    go false here any below = below any

-- If a walk over the words has no fault, each entry that it makes has a value.
use Rattle.std.proofs.Common.{◌≡◌, ◌∙◌, ◌&&◌, ◌||◌, ℕ, Bool, cond, true, false, zero, suc, refl, sym, ap, List, [], ◌∷◌, ◌++◌, length, drop, Option, Some, None, is_some, true≢false, nat_lt, fold}
use Rattle.std.specs.Prelude.{IfSome, encode_utf8, find, option_and_then, option_map, slice_get}
use Rattle.std.specs.List.{list_all}
use Rattle.std.specs.Option.{option_map_or}
use Rattle.std.specs.Str.{bytes_eq, chars}
use Rattle.std.proofs.lemmas.Slice.Eq.{bytes_eq-Decides}
use Rattle.std.proofs.lemmas.List.Folds.{list_all-append}
use Rattle.std.proofs.lemmas.Bool.{and_from}
use Rattle.clap.proofs.WalkLemmas.{both}
use Rattle.clap.specs.Lexer.{long_of, short_of}
use Rattle.clap.specs.Values.{is_request, read_as, refused_kind}
use Rattle.clap.specs.ValueTests.{accepts}
use Rattle.clap.specs.Facts.{unwrap_or_range}
use Rattle.clap.specs.Walk.{Held, Names, Outcome, Row, Rule, Step, Text, Waiting, Walk, action_of, after_flag, after_step, arg_by_id, arg_by_index, arg_by_long, arg_by_short, at_row, attached_value, bundle, bundle_met, bundle_step, default_rows, done, finished, flag_met, has_row, idle, is_pending, long_met, long_or_other, more_values, next, nothing_held, option, option_met, option_word, plain, plain_word, positional, positional_held, reacted, reading_by, refused, row_text, settled, settled_rows, short_met, short_or_plain, subcommand, subcommand_met, subcommand_or_other, takes_several, takes_values, to_positional, trailing, used, used_as, used_by_id, value, values_or_missing, waits, walk, walk_from, walked, walked_from, with_default, with_values, without, word_met}
use Rattle.clap.specs.Simple.{Shape}
use Rattle.clap.specs.Kinds.{Kinds, or_else, range_kinds, value_kinds, values_kinds}
use Rattle.clap.specs.Faults.{action_fault, bundle_fault, bundle_step_fault, flag_word_fault, flags_fault, long_fault, option_fault, other_fault, positional_fault, react_fault, settle_fault, short_fault, step_fault, stray_fault, turn_fault, use_fault, values_fault, walk_fault, word_fault}
use Rattle.clap.specs.declared.builder.action.ArgAction.{ArgAction}
use Rattle.clap.specs.declared.builder.action.ArgAction.TheVariants as action
use Rattle.clap.specs.declared.builder.value_parser.Reading.{Reading}
use Rattle.clap.specs.declared.builder.value_parser.Reading.TheVariants as reading
use Rattle.clap.specs.declared.builder.value_parser.ValueParser.{ValueParser}
use Rattle.clap.specs.declared.error.kind.ErrorKind.{ErrorKind}
use Rattle.clap.specs.declared.error.kind.ErrorKind.TheVariants as kind
use Rattle.clap.specs.declared.parser.matches.ValueSource.{ValueSource}

-- ---- kinds

abbrev pub no_kinds : Kinds → Bool
no_kinds [] = true
no_kinds (k ∷ ks) = false

pub kind_comes : (k : ErrorKind) (ks : Kinds) → k ∷ ks ≡ [] → ⊥
kind_comes k ks e = true≢false (sym (ap no_kinds e))

pub no_kind_of_both : (a b : Kinds) → or_else a b ≡ [] → (a ≡ []) × (b ≡ [])
no_kind_of_both [] b e = (refl, e)
no_kind_of_both (k ∷ ks) b e = absurd (kind_comes k ks e)

-- ---- entries

abbrev pub is_given_text : List Text → Bool
is_given_text vs = is_some (slice_get vs 0)

-- the text is read as it is, but for a hyphen before a number
abbrev pub keeps_text : Reading → Bool
keeps_text reading.AsWritten = true
keeps_text reading.WithoutMinus = true
keeps_text _ = false

-- each use gives the argument a value: of its own, or for a flag the one that stands for it
abbrev pub gives_value : ArgAction → Rule → Bool
gives_value action.Set a = nat_lt 0 (unwrap_or_range a.range).start_inclusive
gives_value action.Append a = nat_lt 0 (unwrap_or_range a.range).start_inclusive
gives_value action.SetTrue a = is_given_text a.missing
gives_value _ a = false

-- the argument asks for help or the version, or has a value at each use
abbrev pub is_request_or_valued : Rule → Bool
is_request_or_valued a = is_request (action_of a) || gives_value (action_of a) a

-- the values that a use of an argument passes are accepted
pub accepted : (ignore_case : Bool) (parser : ValueParser) (vs : List Text) → values_kinds ignore_case parser vs ≡ [] → list_all (accepts ignore_case parser) vs ≡ true
accepted ignore_case parser [] none = refl
accepted ignore_case parser (v ∷ vs) none =
    let parts = no_kind_of_both (value_kinds ignore_case parser v) (values_kinds ignore_case parser vs) none in
    rw (here (accepts ignore_case parser v) parts.0) (accepted ignore_case parser vs parts.1)
  where
    here : (b : Bool) → cond b [] (refused_kind parser ∷ []) ≡ [] → b ≡ true
    here true none = refl
    here false none = absurd (kind_comes _ _ none)

some_values : (x : ArgAction) (a : Rule) (most : ℕ) (vs : List Text) → gives_value x a ≡ true → range_kinds (unwrap_or_range a.range).start_inclusive most (length vs) ≡ [] →
    is_given_text (values_or_missing a vs) ≡ true
some_values x a most (v ∷ vs) gives none = refl
some_values action.Set a most [] gives none = absurd (kind_comes _ _ (rw gives at none))
some_values action.SetTrue a most [] gives none = gives
some_values action.SetFalse a most [] gives none = absurd (true≢false (sym gives))
some_values action.Append a most [] gives none = absurd (kind_comes _ _ (rw gives at none))
some_values action.Count a most [] gives none = absurd (true≢false (sym gives))
some_values action.Help a most [] gives none = absurd (true≢false (sym gives))
some_values action.HelpShort a most [] gives none = absurd (true≢false (sym gives))
some_values action.HelpLong a most [] gives none = absurd (true≢false (sym gives))
some_values action.Version a most [] gives none = absurd (true≢false (sym gives))

given_more : (vs ws : List Text) → is_given_text ws ≡ true → is_given_text (vs ++ ws) ≡ true
given_more [] ws e = e
given_more (v ∷ vs) ws e = refl

-- `ok` is a test of an argument's id and one of its values
module _ (ok : Text → Text → Bool) where
  abbrev pub has_value : Row → Bool
  has_value r = is_given_text r.values && (list_all (ok r.id) r.values && keeps_text r.reading)

  abbrev pub all_given : List Row → Bool
  all_given rows = list_all has_value rows

  -- each use gives the argument values, and they pass the test
  pub record Fits (a : Rule) : Type 0 where
    pub valued : is_request_or_valued a ≡ true
    pub kept : keeps_text (reading_by a) ≡ true
    pub sound : (vs : List Text) → values_fault a vs ≡ [] → list_all (ok a.id) vs ≡ true
    pub by_default : list_all (ok a.id) a.defaults ≡ true

  abbrev pub AllFit : List Rule → Type 0
  AllFit [] = Unit {0}
  AllFit (a ∷ rest) = Fits a × AllFit rest

  given_append : (xs ys : List Row) → all_given xs ≡ true → all_given ys ≡ true → all_given (xs ++ ys) ≡ true
  given_append xs ys x y = list_all-append has_value xs ys ∙ rw (x, y) refl

  given_at : (id : Text) (change : Row → List Row) (missing rows : List Row)
      → ((r : Row) → bytes_eq r.id id ≡ true → has_value r ≡ true → all_given (change r) ≡ true)
      → all_given missing ≡ true → all_given rows ≡ true → all_given (at_row id change missing rows) ≡ true
  given_at id change missing [] changed added rows = added
  given_at id change missing (r ∷ rs) changed added rows =
      let parts = both (has_value r) (all_given rs) rows in
      go (bytes_eq r.id id) (changed r) parts (given_at id change missing rs changed added parts.1)
    where
      go : (b : Bool) → (b ≡ true → has_value r ≡ true → all_given (change r) ≡ true) → (has_value r ≡ true) × (all_given rs ≡ true)
          → all_given (at_row id change missing rs) ≡ true → all_given (cond b (change r ++ rs) (r ∷ at_row id change missing rs)) ≡ true
      go true changes parts below = given_append (change r) rs (changes refl parts.0) parts.1
      go false changes parts below = and_from (has_value r) _ parts.0 below

  given_without : (id : Text) (rows : List Row) → all_given rows ≡ true → all_given (without id rows) ≡ true
  given_without id rows h = given_at id (λ _. []) [] rows (λ r here given. refl) refl h

  given_values : (id : Text) (how : Reading) (s : ValueSource) (vs : List Text) (rows : List Row) → is_given_text vs ≡ true
      → keeps_text how ≡ true → list_all (ok id) vs ≡ true → all_given rows ≡ true → all_given (with_values id how s vs rows) ≡ true
  given_values id how s vs rows some kept pass h =
      given_at id (more_values s vs) _ rows
      (λ r here given.
      let same : r.id ≡ id = (bytes_eq-Decides r.id id).0 here in
      let had = both (list_all (ok r.id) r.values) (keeps_text r.reading) (both _ _ given).1 in
      let passes : list_all (ok r.id) (r.values ++ vs) ≡ true =
      list_all-append (ok r.id) r.values vs ∙ and_from _ _ had.0 (ap (λ t. list_all (ok t) vs) same ∙ pass) in
      rw (given_more r.values vs some, passes, had.1) refl)
      (rw (some, pass, kept) refl) h

  -- ---- one use of an argument

  given_used_as : (x : ArgAction) (gives again : Bool) (a : Rule) (vs : List Text) (rows : List Row) → Fits a → gives ≡ gives_value x a
      → (is_request x || gives) ≡ true → (gives ≡ true → is_given_text vs ≡ true) → action_fault x again a vs rows ≡ []
      → all_given rows ≡ true → all_given (used_as x a.id (reading_by a) vs rows) ≡ true
  given_used_as action.Set gives again a vs rows fit is valued some none h =
      given_values a.id (reading_by a) _ vs (without a.id rows) (some valued) fit.kept (fit.sound vs (no_kind_of_both _ _ none).1) (given_without a.id rows h)
  given_used_as action.SetTrue gives again a vs rows fit is valued some none h =
      given_values a.id (reading_by a) _ vs (without a.id rows) (some valued) fit.kept (fit.sound vs (no_kind_of_both _ _ none).1) (given_without a.id rows h)
  given_used_as action.Append gives again a vs rows fit is valued some none h =
      given_values a.id (reading_by a) _ vs rows (some valued) fit.kept (fit.sound vs none) h
  given_used_as action.SetFalse gives again a vs rows fit is valued some none h = absurd (true≢false (sym valued ∙ is))
  given_used_as action.Count gives again a vs rows fit is valued some none h = absurd (true≢false (sym valued ∙ is))
  given_used_as action.Help gives again a vs rows fit is valued some none h = absurd (kind_comes _ _ none)
  given_used_as action.HelpShort gives again a vs rows fit is valued some none h = absurd (kind_comes _ _ none)
  given_used_as action.HelpLong gives again a vs rows fit is valued some none h = absurd (kind_comes _ _ none)
  given_used_as action.Version gives again a vs rows fit is valued some none h = absurd (kind_comes _ _ none)

  given_used : (again : Bool) (a : Rule) (vs : List Text) (rows : List Row) → Fits a → use_fault again a vs rows ≡ []
      → all_given rows ≡ true → all_given (used a vs rows) ≡ true
  given_used again a vs rows fit none h =
      let parts = no_kind_of_both _ _ none in
      given_used_as (action_of a) _ again a (values_or_missing a vs) rows fit refl fit.valued (λ gives. some_values (action_of a) a _ vs gives parts.0) parts.1 h

  -- ---- the argument that is found

  abbrev FitsIfSome : Option Rule → Type 0
  FitsIfSome found = IfSome found Fits

  found_fits : (p : Rule → Bool) (c : List Rule) → AllFit c → FitsIfSome (find p c)
  found_fits p [] all = tt
  found_fits p (a ∷ rest) all = go (p a) all.0 (found_fits p rest all.1)
    where
      go : (b : Bool) → Fits a → FitsIfSome (find p rest) → FitsIfSome (cond b (Some a) (find p rest))
      go true here below = here
      go false here below = below

  module _ (c : List Rule) (again : Bool) (all : AllFit c) where
    given_used_by : (found : Option Rule) (vs : List Text) (rows : List Row) → FitsIfSome found
        → option_map_or (λ a. use_fault again a vs rows) found [] ≡ [] → all_given rows ≡ true → all_given (used_by_id found vs rows) ≡ true
    given_used_by None vs rows fit none h = h
    given_used_by (Some a) vs rows fit none h = given_used again a vs rows fit none h

    given_pending : (p : Option (Text × List Text)) (rows : List Row)
        → option_map_or (λ q. option_map_or (λ a. use_fault again a q.1 rows) (arg_by_id c q.0) []) p [] ≡ []
        → all_given rows ≡ true → all_given (settled_rows c p rows) ≡ true
    given_pending None rows none h = h
    given_pending (Some p) rows none h = given_used_by (arg_by_id c p.0) p.1 rows (found_fits _ c all) none h

    given_settled : (h : Held) → settle_fault c again h ≡ [] → all_given h.rows ≡ true → all_given (settled c h).rows ≡ true
    given_settled h none given = given_pending h.pending h.rows none given

    given_reacted : (a : Rule) (vs : List Text) (h : Held) → Fits a → react_fault c again a vs h ≡ [] → all_given h.rows ≡ true
        → all_given (reacted c a vs h).rows ≡ true
    given_reacted a vs h fit none given =
        let parts = no_kind_of_both _ _ none in
        given_used again a vs (settled c h).rows fit parts.1 (given_settled h parts.0 given)

    -- ---- a flag or an option

    given_option : (a : Rule) (v : Option Text) (h : Held) → Fits a → option_fault c again a v h ≡ [] → all_given h.rows ≡ true
        → all_given (option_met c a v h).0.rows ≡ true
    given_option a (Some v) h fit none given = given_reacted a (v ∷ []) h fit none given
    given_option a None h fit none given = given_settled h none given

    given_flag : (a : Rule) (v : Option Text) (h : Held) → Fits a → cond (is_some v) (kind.TooManyValues ∷ []) (react_fault c again a [] h) ≡ []
        → all_given h.rows ≡ true → all_given (flag_met c a v h).0.rows ≡ true
    given_flag a (Some v) h fit none given = given
    given_flag a None h fit none given = given_reacted a [] h fit none given

    given_long : (found : Option Rule) (v : Option Text) (h : Held) → FitsIfSome found → long_fault c again found v h ≡ []
        → all_given h.rows ≡ true → all_given (long_met c found v h).0.rows ≡ true
    given_long None v h fit none given = given
    given_long (Some a) v h fit none given = go (takes_values a) none
      where
        go : (b : Bool) → cond b (option_fault c again a v h) (cond (is_some v) (kind.TooManyValues ∷ []) (react_fault c again a [] h)) ≡ []
            → all_given (cond b (option_met c a v h) (flag_met c a v h)).0.rows ≡ true
        go true none = given_option a v h fit none given
        go false none = given_flag a v h fit none given

    -- ---- a bundle of flags

    given_short : (found : Option Rule) (rest : Text) (h : Held) (go : Held → Held × Outcome) (faults : Held → Kinds) → FitsIfSome found
        → ((k : Held) → faults k ≡ [] → all_given k.rows ≡ true → all_given (go k).0.rows ≡ true)
        → short_fault c again found rest h faults ≡ [] → all_given h.rows ≡ true → all_given (short_met c found rest h go).0.rows ≡ true
    given_short None rest h go faults fit below none given = given
    given_short (Some a) rest h go faults fit below none given = by (takes_values a) none
      where
        by : (b : Bool) → cond b (option_fault c again a (attached_value rest) h) (or_else (react_fault c again a [] h) (faults (reacted c a [] h))) ≡ []
            → all_given (cond b (option_met c a (attached_value rest) h) (go (reacted c a [] h))).0.rows ≡ true
        by true none = given_option a (attached_value rest) h fit none given
        by false none =
            let parts = no_kind_of_both _ _ none in
            below (reacted c a [] h) parts.1 (given_reacted a [] h fit parts.0 given)

    given_flags : (k : ℕ) (flags : Text) (skip : ℕ) (so_far : Outcome) (h : Held) → flags_fault c again k flags skip h ≡ [] → all_given h.rows ≡ true
        → all_given (bundle_met c k flags skip so_far h).0.rows ≡ true
    unfolding bundle_met flags_fault
    given_flags zero flags skip so_far h none given = given
    given_flags (suc k) flags skip so_far h none given =
        step (slice_get (chars flags) 0) skip none (λ rest less word held. given_flags k rest less word held)
      where
        step : (o : Option ℕ) (skip : ℕ) → bundle_step_fault c again o flags skip h (flags_fault c again k) ≡ []
            → ((rest : Text) (less : ℕ) (word : Outcome) (held : Held) → flags_fault c again k rest less held ≡ [] → all_given held.rows ≡ true
            → all_given (bundle_met c k rest less word held).0.rows ≡ true)
            → all_given (bundle_step c o flags skip so_far h (bundle_met c k)).0.rows ≡ true
        step None skip none below = given
        step (Some x) zero none below =
            let rest = drop (length (encode_utf8 x)) flags in
            given_short (arg_by_short c x) rest h (bundle_met c k rest 0 done) (flags_fault c again k rest 0) (found_fits _ c all)
            (λ held. below rest 0 done held) none given
        step (Some x) (suc skip) none below = below (drop (length (encode_utf8 x)) flags) skip so_far h none given

    given_bundle : (flags : Text) (h : Held) → bundle_fault c again flags h ≡ [] → all_given h.rows ≡ true → all_given (bundle c flags h).0.rows ≡ true
    given_bundle flags h none given = given_flags (length flags) flags h.skip plain (record h { skip = 0 }) none given

    -- ---- a word

    plain_rows : (waiting : Waiting) (word : Text) (h : Held) → (plain_word c waiting word h).0.rows ≡ h.rows
    plain_rows idle word h = refl
    plain_rows positional word h = refl
    plain_rows (option id) word h = go (arg_by_id c id)
      where
        go : (found : Option Rule) → (option_word found id word h).0.rows ≡ h.rows
        go None = refl
        go (Some a) = refl

    after_flag_rows : (waiting : Waiting) (word : Text) (h : Held) (met : Outcome) → (after_flag c waiting word h met).0.rows ≡ h.rows
    after_flag_rows waiting word h done = refl
    after_flag_rows waiting word h (waits id) = refl
    after_flag_rows waiting word h plain = plain_rows waiting word h
    after_flag_rows waiting word h refused = plain_rows waiting word h

    given_after_flag : (waiting : Waiting) (word : Text) (met : Held × Outcome) → all_given met.0.rows ≡ true
        → all_given (after_flag c waiting word met.0 met.1).0.rows ≡ true
    given_after_flag waiting word met given = ap all_given (after_flag_rows waiting word met.0 met.1) ∙ given

    given_short_word : (waiting : Waiting) (word : Text) (short : Option Text) (h : Held) → option_map_or (λ flags. bundle_fault c again flags h) short [] ≡ []
        → all_given h.rows ≡ true → all_given (short_or_plain c waiting word short h).0.rows ≡ true
    given_short_word waiting word None h none given = ap all_given (plain_rows waiting word h) ∙ given
    given_short_word waiting word (Some flags) h none given = given_after_flag waiting word (bundle c flags h) (given_bundle flags h none given)

    given_flag_word : (waiting : Waiting) (word : Text) (long : Option (Text × Option Text)) (h : Held) → flag_word_fault c again long word h ≡ []
        → all_given h.rows ≡ true → all_given (long_or_other c waiting word long h).0.rows ≡ true
    given_flag_word waiting word None h none given = given_short_word waiting word (short_of word) h none given
    given_flag_word waiting word (Some p) h none given =
        given_after_flag waiting word (long_met c (arg_by_long c p.0) p.1 h) (given_long (arg_by_long c p.0) p.1 h (found_fits _ c all) none given)

    given_positional : (a : Rule) (word : Text) (h : Held) → positional_fault c again a h ≡ [] → all_given h.rows ≡ true
        → all_given (positional_held c a word h).rows ≡ true
    given_positional a word h none given = go (is_pending a h.pending && takes_several a) none
      where
        go : (b : Bool) → cond b [] (settle_fault c again h) ≡ [] → all_given (cond b h (settled c h)).rows ≡ true
        go true none = given
        go false none = given_settled h none given

  module _ (s : Shape) (names : Names) (all : AllFit s.rules) where
    given_other : (name : Option Text) (waiting : Waiting) (position : ℕ) (word : Text) (h : Held) → other_fault s name word h ≡ []
        → all_given h.rows ≡ true → all_given (subcommand_or_other s.rules name waiting position word h).0.rows ≡ true
    given_other (Some name) waiting position word h none given = given
    given_other None waiting position word h none given = go (bytes_eq word (45 ∷ 45 ∷ [])) none
      where
        go : (b : Bool) → cond b [] (flag_word_fault s.rules s.args_override_self (long_of word) word h) ≡ []
            → all_given (cond b (h, trailing position) (long_or_other s.rules waiting word (long_of word) h)).0.rows ≡ true
        go true none = given
        go false none = given_flag_word s.rules s.args_override_self all waiting word (long_of word) h none given

    given_word : (is_trailing : Bool) (waiting : Waiting) (position : ℕ) (word : Text) (h : Held) → word_fault s names is_trailing waiting word h ≡ []
        → all_given h.rows ≡ true → all_given (word_met s.rules names is_trailing waiting position word h).0.rows ≡ true
    given_word true waiting position word h none given = given
    given_word false waiting position word h none given = given_other (subcommand_met names waiting word) waiting position word h none given

    given_step : (w : Walk) (word : Text) (h : Held) (step : Step) → step_fault s w.position h step ≡ [] → all_given h.rows ≡ true
        → all_given (after_step s.rules word w h step).held.rows ≡ true
    given_step w word h (next waiting) none given = given
    given_step w word h (trailing position) none given = given
    given_step w word h (subcommand name) none given = given
    given_step w word h value none given = go (arg_by_index s.rules w.position) none
      where
        go : (found : Option Rule) → option_map_or (λ a. positional_fault s.rules s.args_override_self a h) found (stray_fault s) ≡ []
            → all_given (to_positional s.rules found word w h).held.rows ≡ true
        go None none = given
        go (Some a) none = given_positional s.rules s.args_override_self all a word h none given

    given_turn : (w : Walk) (word : Text) → turn_fault s names w word ≡ [] → all_given w.held.rows ≡ true
        → all_given (walked s.rules names w word).held.rows ≡ true
    unfolding walked
    given_turn w word none given = go w.stopped none
      where
        met : Held × Step
        met = word_met s.rules names w.is_trailing w.waiting w.position word w.held

        go : (stop : Option (Text × List Text))
            → cond (is_some stop) [] (or_else (word_fault s names w.is_trailing w.waiting word w.held) (step_fault s w.position met.0 met.1)) ≡ []
            → all_given (walked_from s.rules names stop w word).held.rows ≡ true
        go (Some p) none = given
        go None none =
            let parts = no_kind_of_both _ _ none in
            given_step w word met.0 met.1 parts.1 (given_word w.is_trailing w.waiting w.position word w.held parts.0 given)

    given_walk : (words : List Text) (w : Walk) → walk_fault s names w words ≡ [] → all_given w.held.rows ≡ true
        → all_given (fold (walked s.rules names) w words).held.rows ≡ true
    unfolding walk_fault
    given_walk [] w none given = given
    given_walk (word ∷ rest) w none given =
        let parts = no_kind_of_both _ _ none in
        given_walk rest (walked s.rules names w word) parts.1 (given_turn w word parts.0 given)

  -- ---- after the walk

  given_default : (a : Rule) (rows : List Row) → Fits a → all_given rows ≡ true → all_given (with_default rows a) ≡ true
  given_default a rows fit given = go (has_row a.id rows)
    where
      set : (values : List Text) → list_all (ok a.id) values ≡ true → all_given (default_rows a.id (reading_by a) values rows) ≡ true
      set [] pass = given
      set (v ∷ vs) pass = given_values a.id (reading_by a) _ (v ∷ vs) rows refl fit.kept pass given

      go : (b : Bool) → all_given (cond b rows (default_rows a.id (reading_by a) a.defaults rows)) ≡ true
      go true = given
      go false = set a.defaults fit.by_default

  given_defaults : (xs : List Rule) (rows : List Row) → AllFit xs → all_given rows ≡ true → all_given (fold with_default rows xs) ≡ true
  given_defaults [] rows all given = given
  given_defaults (a ∷ xs) rows all given = given_defaults xs (with_default rows a) all.1 (given_default a rows all.0 given)

  -- at the end of a walk without a fault each entry has a value, and its values pass the test
  pub given_finished : (s : Shape) (names : Names) (words : List Text) → AllFit s.rules → walk_fault s names (walk_from nothing_held) words ≡ []
      → settle_fault s.rules s.args_override_self (walk s.rules names nothing_held words).held ≡ []
      → all_given (finished s.rules (walk s.rules names nothing_held words).held) ≡ true
  given_finished s names words all none settles =
      let end = (walk s.rules names nothing_held words).held in
      given_defaults s.rules (settled s.rules end).rows all
      (given_settled s.rules s.args_override_self all end settles (given_walk s names all words (walk_from nothing_held) none refl))

  -- what the matches have for an argument: a text that passes the test, and how it is read
  pub record IsRead (id : Text) (found : Option Row) : Type 0 where
    pub text : Text
    pub given : option_and_then (λ (r : Row). slice_get r.values 0) found ≡ Some text
    pub passes : ok id text ≡ true
    pub how : Reading
    pub kept : keeps_text how ≡ true
    pub read : option_and_then row_text found ≡ Some (read_as how text)

  row_read : (id : Text) (r : Row) → r.id ≡ id → has_value r ≡ true → IsRead id (Some r)
  row_read id r same given = go r.values refl (both _ _ given).0 (both _ _ (both _ _ given).1)
    where
      go : (vs : List Text) → r.values ≡ vs → is_given_text r.values ≡ true → (list_all (ok r.id) r.values ≡ true) × (keeps_text r.reading ≡ true) → IsRead id (Some r)
      go [] is some facts = absurd (true≢false (sym some ∙ ap is_given_text is))
      go (v ∷ vs) is some facts =
          let first : slice_get r.values 0 ≡ Some v = ap (λ xs. slice_get xs 0) is in
          let all : list_all (ok id) (v ∷ vs) ≡ true = ap (λ t. list_all (ok t) (v ∷ vs)) (sym same) ∙ (ap (list_all (ok r.id)) (sym is) ∙ facts.0) in
          record {
            text = v;
            given = first;
            passes = (both (ok id v) (list_all (ok id) vs) all).0;
            how = r.reading;
            kept = facts.1;
            read = ap (option_map (read_as r.reading)) first;
          }

  -- an argument that has an entry has a text
  pub text_read : (id : Text) (rows : List Row) → all_given rows ≡ true → has_row id rows ≡ true → IsRead id (find (λ r. bytes_eq r.id id) rows)
  text_read id [] all there = absurd (true≢false (sym there))
  text_read id (r ∷ rs) all there =
      let parts = both (has_value r) (all_given rs) all in
      go (bytes_eq r.id id) ((bytes_eq-Decides r.id id).0) there parts.0 (text_read id rs parts.1)
    where
      go : (b : Bool) → (b ≡ true → r.id ≡ id) → (b || has_row id rs) ≡ true → has_value r ≡ true
          → (has_row id rs ≡ true → IsRead id (find (λ x. bytes_eq x.id id) rs))
          → IsRead id (cond b (Some r) (find (λ x. bytes_eq x.id id) rs))
      go true same there given below = row_read id r (same refl) given
      go false same there given below = below there

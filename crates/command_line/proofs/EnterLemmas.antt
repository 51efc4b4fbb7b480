-- Words at which `clap` finds no fault name a command of the program.
use Rattle.std.proofs.Common.{◌≡◌, ◌∙◌, ◌&&◌, ◌||◌, ◌⊎◌, ℕ, Bool, cond, codes, unwrap_or, option_map, true, false, refl, sym, ap, List, [], ◌∷◌, ◌++◌, Option, Some, None, is_some, true≢false, fold, inl, inr}
use Rattle.std.specs.Prelude.{IfSome, filter, find, slice_get}
use Rattle.std.specs.Option.{option_map_or}
use Rattle.std.specs.Str.{bytes_eq}
use Rattle.std.proofs.Math.Bool.{or-false}
use Rattle.std.proofs.lemmas.Slice.Eq.{bytes_eq-Decides}
use Rattle.clap.specs.Lexer.{long_of, short_of}
use Rattle.clap.specs.Walk.{Held, Names, Outcome, Row, Rule, Step, Text, Waiting, Walk, after_flag, after_step, answers_to, arg_by_index, arg_by_long, bundle, done, finished, idle, long_met, long_or_other, next, nothing_held, option, plain, plain_word, positional, refused, short_or_plain, subcommand, subcommand_met, subcommand_or_other, to_positional, trailing, value, waits, walk, walk_from, walked, walked_from, word_met}
use Rattle.clap.specs.Simple.{Shape, argument_words, built, entered, label_of, names_of, rows_at, subcommand_of}
use Rattle.clap.specs.Kinds.{or_else}
use Rattle.clap.specs.Faults.{check_fault, entered_fault, fault_of, level_fault, other_fault, step_fault, turn_fault, walk_fault, word_fault}
use Rattle.clap.specs.declared.error.kind.ErrorKind.TheVariants as kind
use Rattle.command_line.specs.CommandLine.{vsc_app}
use Rattle.command_line.proofs.GivenLemmas.{kind_comes, no_kind_of_both}

-- ---- a walk without a fault does not end at `help`

abbrev pub meets_help : Option (Text × List Text) → Bool
meets_help stop = option_map_or (λ p. bytes_eq p.0 (codes "help")) stop false

abbrev enters : Step → Bool
enters (subcommand name) = true
enters _ = false

module _ (c : List Rule) where
  plain_stays : (waiting : Waiting) (word : Text) (h : Held) → enters (plain_word c waiting word h).1 ≡ false
  plain_stays idle word h = refl
  plain_stays positional word h = refl
  plain_stays (option id) word h = refl

  after_flag_stays : (waiting : Waiting) (word : Text) (h : Held) (met : Outcome) → enters (after_flag c waiting word h met).1 ≡ false
  after_flag_stays waiting word h done = refl
  after_flag_stays waiting word h (waits id) = refl
  after_flag_stays waiting word h plain = plain_stays waiting word h
  after_flag_stays waiting word h refused = plain_stays waiting word h

  short_stays : (waiting : Waiting) (word : Text) (short : Option Text) (h : Held) → enters (short_or_plain c waiting word short h).1 ≡ false
  short_stays waiting word None h = plain_stays waiting word h
  short_stays waiting word (Some flags) h = after_flag_stays waiting word (bundle c flags h).0 (bundle c flags h).1

  flag_stays : (waiting : Waiting) (word : Text) (long : Option (Text × Option Text)) (h : Held) → enters (long_or_other c waiting word long h).1 ≡ false
  flag_stays waiting word None h = short_stays waiting word (short_of word) h
  flag_stays waiting word (Some p) h =
      after_flag_stays waiting word (long_met c (arg_by_long c p.0) p.1 h).0 (long_met c (arg_by_long c p.0) p.1 h).1

  stays_off : (w : Walk) (word : Text) (h : Held) (step : Step) → enters step ≡ false → meets_help w.stopped ≡ false
      → meets_help (after_step c word w h step).stopped ≡ false
  stays_off w word h (next waiting) still off = off
  stays_off w word h (trailing position) still off = off
  stays_off w word h (subcommand name) still off = absurd (true≢false still)
  stays_off w word h value still off = go (arg_by_index c w.position)
    where
      go : (found : Option Rule) → meets_help (to_positional c found word w h).stopped ≡ false
      go None = off
      go (Some a) = refl

module _ (s : Shape) (names : Names) (has_help : s.disable_help_subcommand ≡ false) where
  off_by_name : (name : Option Text) (w : Walk) (waiting : Waiting) (position : ℕ) (word : Text) (h : Held) → other_fault s name word h ≡ []
      → meets_help w.stopped ≡ false
      → meets_help (after_step s.rules word w (subcommand_or_other s.rules name waiting position word h).0 (subcommand_or_other s.rules name waiting position word h).1).stopped ≡ false
  off_by_name (Some name) w waiting position word h none off = go (bytes_eq name (codes "help")) (rw has_help at none)
    where
      go : (b : Bool) → cond (b && true) (kind.DisplayHelp ∷ kind.InvalidSubcommand ∷ []) [] ≡ [] → b ≡ false
      go true none = absurd (kind_comes _ _ none)
      go false none = refl
  off_by_name None w waiting position word h none off = go (bytes_eq word (45 ∷ 45 ∷ []))
    where
      go : (b : Bool) → meets_help (after_step s.rules word w (cond b (h, trailing position) (long_or_other s.rules waiting word (long_of word) h)).0
          (cond b (h, trailing position) (long_or_other s.rules waiting word (long_of word) h)).1).stopped ≡ false
      go true = off
      go false = stays_off s.rules w word _ _ (flag_stays s.rules waiting word (long_of word) h) off

  off_by_word : (is_trailing : Bool) (w : Walk) (waiting : Waiting) (position : ℕ) (word : Text) (h : Held) → word_fault s names is_trailing waiting word h ≡ []
      → meets_help w.stopped ≡ false
      → meets_help (after_step s.rules word w (word_met s.rules names is_trailing waiting position word h).0 (word_met s.rules names is_trailing waiting position word h).1).stopped ≡ false
  off_by_word true w waiting position word h none off = stays_off s.rules w word h value refl off
  off_by_word false w waiting position word h none off = off_by_name (subcommand_met names waiting word) w waiting position word h none off

  off_by_turn : (w : Walk) (word : Text) → turn_fault s names w word ≡ [] → meets_help w.stopped ≡ false → meets_help (walked s.rules names w word).stopped ≡ false
  unfolding walked
  off_by_turn w word none off = go w.stopped none off
    where
      met : Held × Step
      met = word_met s.rules names w.is_trailing w.waiting w.position word w.held

      go : (stop : Option (Text × List Text))
          → cond (is_some stop) [] (or_else (word_fault s names w.is_trailing w.waiting word w.held) (step_fault s w.position met.0 met.1)) ≡ []
          → meets_help stop ≡ false → meets_help (walked_from s.rules names stop w word).stopped ≡ false
      go (Some p) none off = off
      go None none here = off_by_word w.is_trailing w w.waiting w.position word w.held (no_kind_of_both _ _ none).0 off

  off_by_walk : (words : List Text) (w : Walk) → walk_fault s names w words ≡ [] → meets_help w.stopped ≡ false
      → meets_help (fold (walked s.rules names) w words).stopped ≡ false
  unfolding walk_fault
  off_by_walk [] w none off = off
  off_by_walk (word ∷ rest) w none off =
      let parts = no_kind_of_both _ _ none in
      off_by_walk rest (walked s.rules names w word) parts.1 (off_by_turn w word parts.0 off)

-- ---- one of a list

abbrev pub Among : {X : Type 0} → X → List X → Type 0
Among x [] = ⊥
Among x (y ∷ ys) = (x ≡ y) ⊎ Among x ys

module _ {X : Type 0} where
  found_among : (p : X → Bool) (xs : List X) → IfSome (find p xs) (λ x. Among x xs × (p x ≡ true))
  found_among p [] = tt
  found_among p (x ∷ xs) = go (p x) refl (find p xs) (found_among p xs)
    where
      go : (b : Bool) → p x ≡ b → (found : Option X) → IfSome found (λ y. Among y xs × (p y ≡ true))
          → IfSome (cond b (Some x) found) (λ y. Among y (x ∷ xs) × (p y ≡ true))
      go true here found below = (inl refl, here)
      go false here None below = tt
      go false here (Some y) below = (inr below.0, below.1)

  not_last : (x last : X) (xs : List X) → (x ≡ last → ⊥) → Among x (xs ++ last ∷ []) → Among x xs
  not_last x last [] other (inl is) = other is
  not_last x last [] other (inr rest) = rest
  not_last x last (y ∷ ys) other (inl is) = inl is
  not_last x last (y ∷ ys) other (inr rest) = inr (not_last x last ys other rest)

  pub the_one : (x y : X) → Among x (y ∷ []) → x ≡ y
  the_one x y (inl is) = is
  the_one x y (inr none) = absurd none

-- ---- the commands

abbrev top : Shape
top = (built vsc_app).top

abbrev built_at : ℕ → Shape
built_at k = unwrap_or (slice_get (built vsc_app).subs k) top

-- the commands as a parse sees them; `help` stands after them
abbrev pub verify_built : Shape
verify_built = built_at 0

abbrev pub judge_built : Shape
judge_built = built_at 1

abbrev pub cnf_built : Shape
cnf_built = built_at 2

abbrev pub decode_built : Shape
decode_built = built_at 3

abbrev pub lrat_built : Shape
lrat_built = built_at 4

abbrev pub recheck_built : Shape
recheck_built = built_at 5

abbrev pub part_built : Shape
part_built = built_at 6

abbrev pub survey_built : Shape
survey_built = built_at 7

abbrev pub refusals_built : Shape
refusals_built = built_at 8

abbrev pub batch_built : Shape
batch_built = built_at 9

abbrev pub commands : List Shape
commands = verify_built ∷ judge_built ∷ cnf_built ∷ decode_built ∷ lrat_built ∷ recheck_built ∷ part_built ∷ survey_built ∷ refusals_built ∷ batch_built ∷ []

abbrev help_built : Shape
help_built = built_at 10

-- a parse enters one of the commands, with words at which it finds no fault
pub record Enters (met : Option (Text × List Row)) : Type 0 where
  pub shape : Shape
  pub words : List Text
  pub among : Among shape commands
  pub is : met ≡ Some (rows_at shape words)
  pub faultless : level_fault shape [] nothing_held words false [] ≡ []

module _ (rows : List Row) where
  wanted : check_fault top rows false ≡ [] → ⊥
  wanted none = kind_comes _ _ none

  enters_at : (stop : Option (Text × List Text)) → meets_help stop ≡ false → entered_fault (built vsc_app) stop ≡ []
      → check_fault top rows (is_some (entered (built vsc_app) stop)) ≡ [] → Enters (entered (built vsc_app) stop)
  enters_at None off below none = absurd (wanted none)
  enters_at (Some p) off below none =
      go (find (λ s. answers_to p.0 (label_of s)) (built vsc_app).subs) (found_among (λ s. answers_to p.0 (label_of s)) (built vsc_app).subs) below none
    where
      no_help : (s : Shape) → answers_to p.0 (label_of s) ≡ true → s ≡ help_built → ⊥
      no_help s answers is =
          let help : (bytes_eq (codes "help") p.0 || false) ≡ true = ap (λ (x : Shape). answers_to p.0 (label_of x)) (sym is) ∙ answers in
          let same : codes "help" ≡ p.0 = (bytes_eq-Decides (codes "help") p.0).0 (sym (or-false (bytes_eq (codes "help") p.0)) ∙ help) in
          true≢false (sym ((bytes_eq-Decides p.0 (codes "help")).1 (sym same)) ∙ off)

      go : (found : Option Shape) → IfSome found (λ s. Among s (built vsc_app).subs × (answers_to p.0 (label_of s) ≡ true))
          → option_map_or (λ s. level_fault s [] nothing_held p.1 false []) found [] ≡ []
          → check_fault top rows (is_some (option_map (λ s. rows_at s p.1) found)) ≡ [] → Enters (option_map (λ s. rows_at s p.1) found)
      go None met below none = absurd (wanted none)
      go (Some s) met below none = record {
        shape = s;
        words = p.1;
        among = not_last s help_built commands (no_help s met.1) met.0;
        is = refl;
        faultless = below;
      }

pub enters_command : (words : List Text) → fault_of vsc_app words ≡ [] → Enters (subcommand_of vsc_app words)
enters_command words none =
    let rest = argument_words vsc_app words in
    let walks = no_kind_of_both _ _ none in
    let belows = no_kind_of_both _ _ walks.1 in
    let settles = no_kind_of_both _ _ belows.1 in
    let checks = no_kind_of_both _ _ settles.1 in
    let end = walk top.rules (names_of (built vsc_app)) nothing_held rest in
    enters_at (finished top.rules end.held) end.stopped (off_by_walk top (names_of (built vsc_app)) refl rest (walk_from nothing_held) walks.0 refl) belows.0 checks.1

-- ---- the command of a name

abbrev pub has_name : Text → Shape → Bool
has_name name s = bytes_eq s.name name

name_kept : (name : Text) (s : Shape) (xs : List Shape) → s.name ≡ name → Among s xs → Among s (filter (has_name name) xs)
name_kept name s [] named among = among
name_kept name s (x ∷ xs) named (inl is) = rw ((bytes_eq-Decides x.name name).1 (ap (λ (y : Shape). y.name) (sym is) ∙ named)) (inl is)
name_kept name s (x ∷ xs) named (inr rest) = go (bytes_eq x.name name) (name_kept name s xs named rest)
  where
    go : (b : Bool) → Among s (filter (has_name name) xs) → Among s (cond b (x ∷ filter (has_name name) xs) (filter (has_name name) xs))
    go true below = inr below
    go false below = below

-- a parse that enters a command of this name enters one of those that have it
pub enters_by_name : (met : Option (Text × List Row)) (e : Enters met) (name : Text) → option_map (λ p. p.0) met ≡ Some name
    → Among e.shape (filter (has_name name) commands)
enters_by_name met e name named =
    let same : Some e.shape.name ≡ Some name = ap (option_map (λ p. p.0)) (sym e.is) ∙ named in
    name_kept name e.shape commands (ap (λ o. unwrap_or o []) same) e.among

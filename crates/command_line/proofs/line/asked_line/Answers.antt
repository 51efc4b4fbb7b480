-- If `clap` finds no fault, the words name a command and give it what it needs.
use Rattle.std.proofs.Common.{ℕ, ◌==◌, ◌||◌, ◌∙◌, ◌∷◌, ◌≡◌, Bool, List, None, Some, [], ap, arith, codes, cond, eqb-true, false, inl, inr, option_map, refl, subst, sym, true, true≢false, unwrap_or}
use Rattle.std.proofs.lemmas.Int.{ints}
use Rattle.std.proofs.lemmas.Result.{IfOk-weaker}
use Rattle.std.proofs.lemmas.Slice.Eq.{bytes_eq-Decides}
use Rattle.std.specs.Prelude.{pos}
use Rattle.std.specs.Str.Parse.{IsNumeral, starts_with_minus, without_leading_plus}
use Rattle.std.specs.Str.{bytes_eq}
use Rattle.clap.proofs.TakesLemmas.{passed_up}
use Rattle.clap.proofs.ValueTestLemmas.{accepts-Accepts}
use Rattle.clap.proofs.WalkLemmas.{first_value-rows, one_text-rows}
use Rattle.clap.specs.Lexer.{without_minus}
use Rattle.clap.specs.Matches.{subcommand_name_of}
use Rattle.clap.specs.ValueTests.{accepts}
use Rattle.clap.specs.Values.{IsSignedIn, IsUnsignedIn, read_as}
use Rattle.clap.specs.Walk.{Rule, Text, rows_of, texts}
use Rattle.clap.specs.Words.{found_of, kind_of}
use Rattle.clap.specs.declared.builder.value_parser.Reading.TheVariants as reading
use Rattle.clap.specs.declared.builder.value_parser.Reading.{Reading}
use Rattle.clap.specs.declared.builder.value_parser.ValueParser.TheVariants.{Bool as FlagText, Signed, Unsigned}
use Rattle.clap.specs.declared.parser.matches.Found.{Found}
use Rattle.command_line.proofs.CommandLemmas.{Reads, fits, passes}
use Rattle.command_line.proofs.EnterLemmas.{batch_built, cnf_built, decode_built, enters_command, judge_built, lrat_built, part_built, recheck_built, refusals_built, survey_built, verify_built}
use Rattle.command_line.proofs.FoundLemmas.{EntersAs, asks_as_read, enters_as, has_text, name-rows, reads}
use Rattle.command_line.proofs.GivenLemmas.{AllFit, keeps_text}
use Rattle.command_line.proofs.line.asked_line.Goals as goal
use Rattle.command_line.proofs.line.asked_line.Goals.{In-Some, In-Some-subcommand_matches, In-Some-subcommand_matches-2, In-Some-subcommand_matches-3, In-Some-subcommand_matches-4, In-Some-subcommand_matches-5, In-Some-subcommand_matches-6, In-Some-subcommand_matches-7, In-Some-subcommand_matches-8, In-Some-subcommand_matches-9}
use Rattle.command_line.specs.Arguments.{HasFlag, HasNumber, HasTextThat, HasWorkers}

-- ---- a text without a hyphen is read as it was written

plain_text : (text : Text) → starts_with_minus text ≡ false → without_minus text ≡ text
plain_text [] plain = refl
plain_text (x ∷ xs) plain = go (x == 45) plain
  where
    go : (b : Bool) → b ≡ false → unwrap_or (cond b (Some xs) None) (x ∷ xs) ≡ x ∷ xs
    go true plain = absurd (true≢false plain)
    go false plain = refl

as_written : (how : Reading) (text : Text) → keeps_text how ≡ true → starts_with_minus text ≡ false → read_as how text ≡ text
as_written reading.AsWritten text kept plain = refl
as_written reading.WithoutMinus text kept plain = plain_text text plain
as_written reading.Boolish text kept plain = absurd (true≢false (sym kept))
as_written reading.Falsey text kept plain = absurd (true≢false (sym kept))

has_text_that : (Taken : Text → Type 0) (rules : List Rule) (found : Found) (id : Text) (is : Reads rules id (rows_of found)) → Taken is.text → starts_with_minus is.text ≡ false → HasTextThat Taken found id
has_text_that Taken rules found id is taken plain = record {
  text = is.text;
  given = first_value-rows found id ∙ is.given;
  read = one_text-rows found id ∙ (is.read ∙ ap Some (as_written is.how is.text is.kept plain));
  taken = taken;
}

-- ---- texts that are taken have no hyphen

signed_plain : (text : Text) → IsSignedIn (pos 1) (pos 8) text → starts_with_minus text ≡ false
signed_plain text taken = go (starts_with_minus text) refl
  where
    go : (b : Bool) → starts_with_minus text ≡ b → starts_with_minus text ≡ false
    go false plain = plain
    go true minus =
        let low = rw minus at taken.2 in
        absurd (omega (arith, ints))

numeral_plain : (text : Text) → IsNumeral 10 (without_leading_plus text) → starts_with_minus text ≡ false
numeral_plain [] numeral = refl
numeral_plain (x ∷ xs) numeral = go (x == 45) refl
  where
    go : (b : Bool) → (x == 45) ≡ b → (x == 45) ≡ false
    go false plain = plain
    go true minus =
        let hyphen = subst (λ (y : ℕ). IsNumeral 10 (without_leading_plus (y ∷ xs))) (eqb-true x 45 minus) numeral in
        absurd (omega (arith, hyphen.1.0))

flag_plain : (text : Text) → (bytes_eq text (codes "true") || bytes_eq text (codes "false")) ≡ true → starts_with_minus text ≡ false
flag_plain text taken = go (bytes_eq text (codes "true")) (bytes_eq text (codes "false")) ((bytes_eq-Decides text (codes "true")).0) ((bytes_eq-Decides text (codes "false")).0) taken
  where
    go : (a b : Bool) → (a ≡ true → text ≡ codes "true") → (b ≡ true → text ≡ codes "false") → (a || b) ≡ true → starts_with_minus text ≡ false
    go true b is_true is_false either = ap starts_with_minus (is_true refl)
    go false true is_true is_false either = ap starts_with_minus (is_false refl)
    go false false is_true is_false either = absurd (true≢false (sym either))

-- ---- what the arguments have

module _ (rules : List Rule) (found : Found) where
  has_workers : passes rules (codes "workers") ≡ accepts false (Signed (pos 1) (pos 8)) → Reads rules (codes "workers") (rows_of found) → HasWorkers found
  has_workers own is =
      let taken : IsSignedIn (pos 1) (pos 8) is.text = accepts-Accepts false (Signed (pos 1) (pos 8)) is.text (sym (ap (λ (f : Text → Bool). f is.text) own) ∙ is.passes) in
      has_text_that (IsSignedIn (pos 1) (pos 8)) rules found (codes "workers") is taken (signed_plain is.text taken)

  has_number : (id : Text) (least most : ℕ) → passes rules id ≡ accepts false (Unsigned least most) → Reads rules id (rows_of found) → HasNumber id least most found
  has_number id least most own is =
      let taken : IsUnsignedIn least most is.text = accepts-Accepts false (Unsigned least most) is.text (sym (ap (λ (f : Text → Bool). f is.text) own) ∙ is.passes) in
      has_text_that (IsUnsignedIn least most) rules found id is taken (numeral_plain is.text taken.0)

  has_flag : (id : Text) → passes rules id ≡ accepts false FlagText → Reads rules id (rows_of found) → HasFlag id found
  has_flag id own is =
      let taken : (bytes_eq is.text (codes "true") || bytes_eq is.text (codes "false")) ≡ true = accepts-Accepts false FlagText is.text (sym (ap (λ (f : Text → Bool). f is.text) own) ∙ is.passes) in
      has_text_that (λ text. (bytes_eq text (codes "true") || bytes_eq text (codes "false")) ≡ true) rules found id is taken (flag_plain is.text taken)

-- ---- judge

judge_fits : AllFit (passes judge_built.rules) judge_built.rules
judge_fits = (fits judge_built.rules _ refl refl refl refl, (fits judge_built.rules _ refl refl refl refl, (fits judge_built.rules _ refl refl refl refl, (fits judge_built.rules _ refl refl refl refl, (fits judge_built.rules _ refl refl refl refl, tt)))))

judge_met : (c : In-Some) → EntersAs (texts c.args.words.now) (codes "judge") (found_of c.in-Some.judge.now)
judge_met c = enters_as _ _ _ c.in_ok-matches.matches c.in_ok-matches.ensures.ok c.in_ok-matches.ensures.kinds (c.in-Some.ensures.found.0 refl) c.in-Some.ensures.rows

pub judge_line-requires : goal.judge_line-requires
judge_line-requires c =
    let found = found_of c.in-Some.judge.now in
    let read = reads (texts c.args.words.now) (codes "judge") found (judge_met c) judge_built refl judge_fits in
    record {
      trace = has_text found judge_built.rules (codes "trace") (read (codes "trace") refl);
      schedule = has_text found judge_built.rules (codes "schedule") (read (codes "schedule") refl);
      explain = has_flag judge_built.rules found (codes "explain") refl (read (codes "explain") refl);
      no_explain = has_flag judge_built.rules found (codes "no-explain") refl (read (codes "no-explain") refl);
    }

pub returns-in-Some-clause-line : goal.returns-in-Some-clause-line
returns-in-Some-clause-line c =
    let met = judge_met (goal.at.returns-in-Some-clause-line c).In-Some in
    asks_as_read (texts c.args.words.now) (codes "judge") (found_of c.in-Some.judge.now) met c.judge_line.result c.judge_line.ensures

-- ---- cnf

cnf_fits : AllFit (passes cnf_built.rules) cnf_built.rules
cnf_fits = (fits cnf_built.rules _ refl refl refl refl, (fits cnf_built.rules _ refl refl refl refl, (fits cnf_built.rules _ refl refl refl refl, (fits cnf_built.rules _ refl refl refl refl, (fits cnf_built.rules _ refl refl refl refl, tt)))))

cnf_met : (c : In-Some-subcommand_matches) → EntersAs (texts c.args.words.now) (codes "cnf") (found_of c.in-Some-subcommand_matches.cnf.now)
cnf_met c =
    let entered = c.in-Some-subcommand_matches.ensures in
    enters_as _ _ _ c.in_ok-matches.matches c.in_ok-matches.ensures.ok c.in_ok-matches.ensures.kinds (entered.found.0 refl) entered.rows

pub cnf_line-requires : goal.cnf_line-requires
cnf_line-requires c =
    let found = found_of c.in-Some-subcommand_matches.cnf.now in
    let read = reads (texts c.args.words.now) (codes "cnf") found (cnf_met c) cnf_built refl cnf_fits in
    record {
      trace = has_text found cnf_built.rules (codes "trace") (read (codes "trace") refl);
      workers = has_workers cnf_built.rules found refl (read (codes "workers") refl);
      explain = has_flag cnf_built.rules found (codes "explain") refl (read (codes "explain") refl);
      no_explain = has_flag cnf_built.rules found (codes "no-explain") refl (read (codes "no-explain") refl);
    }

pub returns-in-Some-subcommand_matches-clause-line : goal.returns-in-Some-subcommand_matches-clause-line
returns-in-Some-subcommand_matches-clause-line c =
    let met = cnf_met (goal.at.returns-in-Some-subcommand_matches-clause-line c).In-Some-subcommand_matches in
    asks_as_read (texts c.args.words.now) (codes "cnf") (found_of c.in-Some-subcommand_matches.cnf.now) met c.cnf_line.result c.cnf_line.ensures

-- ---- decode

decode_fits : AllFit (passes decode_built.rules) decode_built.rules
decode_fits = (fits decode_built.rules _ refl refl refl refl, (fits decode_built.rules _ refl refl refl refl, (fits decode_built.rules _ refl refl refl refl, (fits decode_built.rules _ refl refl refl refl, (fits decode_built.rules _ refl refl refl refl, tt)))))

decode_met : (c : In-Some-subcommand_matches-2) → EntersAs (texts c.args.words.now) (codes "decode") (found_of c.in-Some-subcommand_matches-2.decode.now)
decode_met c =
    let entered = c.in-Some-subcommand_matches-2.ensures in
    enters_as _ _ _ c.in_ok-matches.matches c.in_ok-matches.ensures.ok c.in_ok-matches.ensures.kinds (entered.found.0 refl) entered.rows

pub decode_line-requires : goal.decode_line-requires
decode_line-requires c =
    let found = found_of c.in-Some-subcommand_matches-2.decode.now in
    let read = reads (texts c.args.words.now) (codes "decode") found (decode_met c) decode_built refl decode_fits in
    record {
      trace = has_text found decode_built.rules (codes "trace") (read (codes "trace") refl);
      model = has_text found decode_built.rules (codes "model") (read (codes "model") refl);
      explain = has_flag decode_built.rules found (codes "explain") refl (read (codes "explain") refl);
      no_explain = has_flag decode_built.rules found (codes "no-explain") refl (read (codes "no-explain") refl);
    }

pub returns-in-Some-subcommand_matches-2-clause-line : goal.returns-in-Some-subcommand_matches-2-clause-line
returns-in-Some-subcommand_matches-2-clause-line c =
    let met = decode_met (goal.at.returns-in-Some-subcommand_matches-2-clause-line c).In-Some-subcommand_matches-2 in
    asks_as_read (texts c.args.words.now) (codes "decode") (found_of c.in-Some-subcommand_matches-2.decode.now) met c.decode_line.result c.decode_line.ensures

-- ---- lrat

lrat_fits : AllFit (passes lrat_built.rules) lrat_built.rules
lrat_fits = (fits lrat_built.rules _ refl refl refl refl, (fits lrat_built.rules _ refl refl refl refl, (fits lrat_built.rules _ refl refl refl refl, (fits lrat_built.rules _ refl refl refl refl, (fits lrat_built.rules _ refl refl refl refl, tt)))))

lrat_met : (c : In-Some-subcommand_matches-3) → EntersAs (texts c.args.words.now) (codes "lrat") (found_of c.in-Some-subcommand_matches-3.lrat.now)
lrat_met c =
    let entered = c.in-Some-subcommand_matches-3.ensures in
    enters_as _ _ _ c.in_ok-matches.matches c.in_ok-matches.ensures.ok c.in_ok-matches.ensures.kinds (entered.found.0 refl) entered.rows

pub lrat_line-requires : goal.lrat_line-requires
lrat_line-requires c =
    let found = found_of c.in-Some-subcommand_matches-3.lrat.now in
    let read = reads (texts c.args.words.now) (codes "lrat") found (lrat_met c) lrat_built refl lrat_fits in
    record {
      cnf = has_text found lrat_built.rules (codes "cnf") (read (codes "cnf") refl);
      proof = has_text found lrat_built.rules (codes "proof") (read (codes "proof") refl);
      explain = has_flag lrat_built.rules found (codes "explain") refl (read (codes "explain") refl);
      no_explain = has_flag lrat_built.rules found (codes "no-explain") refl (read (codes "no-explain") refl);
    }

pub returns-in-Some-subcommand_matches-3-clause-line : goal.returns-in-Some-subcommand_matches-3-clause-line
returns-in-Some-subcommand_matches-3-clause-line c =
    let met = lrat_met (goal.at.returns-in-Some-subcommand_matches-3-clause-line c).In-Some-subcommand_matches-3 in
    asks_as_read (texts c.args.words.now) (codes "lrat") (found_of c.in-Some-subcommand_matches-3.lrat.now) met c.lrat_line.result c.lrat_line.ensures

-- ---- verify

verify_fits : AllFit (passes verify_built.rules) verify_built.rules
verify_fits = (fits verify_built.rules _ refl refl refl refl, (fits verify_built.rules _ refl refl refl refl, (fits verify_built.rules _ refl refl refl refl, (fits verify_built.rules _ refl refl refl refl, (fits verify_built.rules _ refl refl refl refl, (fits verify_built.rules _ refl refl refl refl, (fits verify_built.rules _ refl refl refl refl, (fits verify_built.rules _ refl refl refl refl, (fits verify_built.rules _ refl refl refl refl, (fits verify_built.rules _ refl refl refl refl, (fits verify_built.rules _ refl refl refl refl, tt)))))))))))

verify_met : (c : In-Some-subcommand_matches-4) → EntersAs (texts c.args.words.now) (codes "verify") (found_of c.in-Some-subcommand_matches-4.verify.now)
verify_met c =
    let entered = c.in-Some-subcommand_matches-4.ensures in
    enters_as _ _ _ c.in_ok-matches.matches c.in_ok-matches.ensures.ok c.in_ok-matches.ensures.kinds (entered.found.0 refl) entered.rows

pub verify_line-requires : goal.verify_line-requires
verify_line-requires c =
    let found = found_of c.in-Some-subcommand_matches-4.verify.now in
    let read = reads (texts c.args.words.now) (codes "verify") found (verify_met c) verify_built refl verify_fits in
    record {
      trace = has_text found verify_built.rules (codes "trace") (read (codes "trace") refl);
      workers = has_workers verify_built.rules found refl (read (codes "workers") refl);
      split = has_number verify_built.rules found (codes "split") 0 10 refl (read (codes "split") refl);
      budget = has_number verify_built.rules found (codes "budget") 0 1000000000 refl (read (codes "budget") refl);
      rounds = has_number verify_built.rules found (codes "rounds") 1 4 refl (read (codes "rounds") refl);
      progress = has_flag verify_built.rules found (codes "progress") refl (read (codes "progress") refl);
      explain = has_flag verify_built.rules found (codes "explain") refl (read (codes "explain") refl);
      no_explain = has_flag verify_built.rules found (codes "no-explain") refl (read (codes "no-explain") refl);
    }

pub returns-in-Some-subcommand_matches-4-clause-line : goal.returns-in-Some-subcommand_matches-4-clause-line
returns-in-Some-subcommand_matches-4-clause-line c =
    let met = verify_met (goal.at.returns-in-Some-subcommand_matches-4-clause-line c).In-Some-subcommand_matches-4 in
    asks_as_read (texts c.args.words.now) (codes "verify") (found_of c.in-Some-subcommand_matches-4.verify.now) met c.verify_line.result c.verify_line.ensures

-- ---- recheck

recheck_fits : AllFit (passes recheck_built.rules) recheck_built.rules
recheck_fits = (fits recheck_built.rules _ refl refl refl refl, (fits recheck_built.rules _ refl refl refl refl, (fits recheck_built.rules _ refl refl refl refl, (fits recheck_built.rules _ refl refl refl refl, (fits recheck_built.rules _ refl refl refl refl, (fits recheck_built.rules _ refl refl refl refl, tt))))))

recheck_met : (c : In-Some-subcommand_matches-5) → EntersAs (texts c.args.words.now) (codes "recheck") (found_of c.in-Some-subcommand_matches-5.recheck.now)
recheck_met c =
    let entered = c.in-Some-subcommand_matches-5.ensures in
    enters_as _ _ _ c.in_ok-matches.matches c.in_ok-matches.ensures.ok c.in_ok-matches.ensures.kinds (entered.found.0 refl) entered.rows

pub recheck_line-requires : goal.recheck_line-requires
recheck_line-requires c =
    let found = found_of c.in-Some-subcommand_matches-5.recheck.now in
    let read = reads (texts c.args.words.now) (codes "recheck") found (recheck_met c) recheck_built refl recheck_fits in
    record {
      trace = has_text found recheck_built.rules (codes "trace") (read (codes "trace") refl);
      cert = has_text found recheck_built.rules (codes "cert") (read (codes "cert") refl);
      explain = has_flag recheck_built.rules found (codes "explain") refl (read (codes "explain") refl);
      no_explain = has_flag recheck_built.rules found (codes "no-explain") refl (read (codes "no-explain") refl);
    }

pub returns-in-Some-subcommand_matches-5-clause-line : goal.returns-in-Some-subcommand_matches-5-clause-line
returns-in-Some-subcommand_matches-5-clause-line c =
    let met = recheck_met (goal.at.returns-in-Some-subcommand_matches-5-clause-line c).In-Some-subcommand_matches-5 in
    asks_as_read (texts c.args.words.now) (codes "recheck") (found_of c.in-Some-subcommand_matches-5.recheck.now) met c.recheck_line.result c.recheck_line.ensures

-- ---- part

part_fits : AllFit (passes part_built.rules) part_built.rules
part_fits = (fits part_built.rules _ refl refl refl refl, (fits part_built.rules _ refl refl refl refl, (fits part_built.rules _ refl refl refl refl, (fits part_built.rules _ refl refl refl refl, (fits part_built.rules _ refl refl refl refl, (fits part_built.rules _ refl refl refl refl, tt))))))

part_met : (c : In-Some-subcommand_matches-6) → EntersAs (texts c.args.words.now) (codes "part") (found_of c.in-Some-subcommand_matches-6.part.now)
part_met c =
    let entered = c.in-Some-subcommand_matches-6.ensures in
    enters_as _ _ _ c.in_ok-matches.matches c.in_ok-matches.ensures.ok c.in_ok-matches.ensures.kinds (entered.found.0 refl) entered.rows

pub part_line-requires : goal.part_line-requires
part_line-requires c =
    let found = found_of c.in-Some-subcommand_matches-6.part.now in
    let read = reads (texts c.args.words.now) (codes "part") found (part_met c) part_built refl part_fits in
    record {
      trace = has_text found part_built.rules (codes "trace") (read (codes "trace") refl);
      names = has_text found part_built.rules (codes "names") (read (codes "names") refl);
      names_flag = has_flag part_built.rules found (codes "show-names") refl (read (codes "show-names") refl);
      explain = has_flag part_built.rules found (codes "explain") refl (read (codes "explain") refl);
      no_explain = has_flag part_built.rules found (codes "no-explain") refl (read (codes "no-explain") refl);
    }

pub returns-in-Some-subcommand_matches-6-clause-line : goal.returns-in-Some-subcommand_matches-6-clause-line
returns-in-Some-subcommand_matches-6-clause-line c =
    let met = part_met (goal.at.returns-in-Some-subcommand_matches-6-clause-line c).In-Some-subcommand_matches-6 in
    asks_as_read (texts c.args.words.now) (codes "part") (found_of c.in-Some-subcommand_matches-6.part.now) met c.part_line.result c.part_line.ensures

-- ---- survey

survey_fits : AllFit (passes survey_built.rules) survey_built.rules
survey_fits = (fits survey_built.rules _ refl refl refl refl, (fits survey_built.rules _ refl refl refl refl, (fits survey_built.rules _ refl refl refl refl, (fits survey_built.rules _ refl refl refl refl, (fits survey_built.rules _ refl refl refl refl, (fits survey_built.rules _ refl refl refl refl, (fits survey_built.rules _ refl refl refl refl, (fits survey_built.rules _ refl refl refl refl, (fits survey_built.rules _ refl refl refl refl, (fits survey_built.rules _ refl refl refl refl, (fits survey_built.rules _ refl refl refl refl, (fits survey_built.rules _ refl refl refl refl, tt))))))))))))

survey_met : (c : In-Some-subcommand_matches-7) → EntersAs (texts c.args.words.now) (codes "survey") (found_of c.in-Some-subcommand_matches-7.survey.now)
survey_met c =
    let entered = c.in-Some-subcommand_matches-7.ensures in
    enters_as _ _ _ c.in_ok-matches.matches c.in_ok-matches.ensures.ok c.in_ok-matches.ensures.kinds (entered.found.0 refl) entered.rows

pub survey_line-requires : goal.survey_line-requires
survey_line-requires c =
    let found = found_of c.in-Some-subcommand_matches-7.survey.now in
    let read = reads (texts c.args.words.now) (codes "survey") found (survey_met c) survey_built refl survey_fits in
    record {
      trace = has_text found survey_built.rules (codes "trace") (read (codes "trace") refl);
      budget = has_number survey_built.rules found (codes "budget") 0 1000000000 refl (read (codes "budget") refl);
      workers = has_workers survey_built.rules found refl (read (codes "workers") refl);
      progress = has_flag survey_built.rules found (codes "progress") refl (read (codes "progress") refl);
      explain = has_flag survey_built.rules found (codes "explain") refl (read (codes "explain") refl);
      no_explain = has_flag survey_built.rules found (codes "no-explain") refl (read (codes "no-explain") refl);
    }

pub returns-in-Some-subcommand_matches-7-clause-line : goal.returns-in-Some-subcommand_matches-7-clause-line
returns-in-Some-subcommand_matches-7-clause-line c =
    let met = survey_met (goal.at.returns-in-Some-subcommand_matches-7-clause-line c).In-Some-subcommand_matches-7 in
    asks_as_read (texts c.args.words.now) (codes "survey") (found_of c.in-Some-subcommand_matches-7.survey.now) met c.survey_line.result c.survey_line.ensures

-- ---- refusals

refusals_fits : AllFit (passes refusals_built.rules) refusals_built.rules
refusals_fits = (fits refusals_built.rules _ refl refl refl refl, (fits refusals_built.rules _ refl refl refl refl, (fits refusals_built.rules _ refl refl refl refl, tt)))

refusals_met : (c : In-Some-subcommand_matches-8) → EntersAs (texts c.args.words.now) (codes "refusals") (found_of c.in-Some-subcommand_matches-8.refusals.now)
refusals_met c =
    let entered = c.in-Some-subcommand_matches-8.ensures in
    enters_as _ _ _ c.in_ok-matches.matches c.in_ok-matches.ensures.ok c.in_ok-matches.ensures.kinds (entered.found.0 refl) entered.rows

pub refusals_line-requires : goal.refusals_line-requires
refusals_line-requires c =
    let found = found_of c.in-Some-subcommand_matches-8.refusals.now in
    let read = reads (texts c.args.words.now) (codes "refusals") found (refusals_met c) refusals_built refl refusals_fits in
    record {
      explain = has_flag refusals_built.rules found (codes "explain") refl (read (codes "explain") refl);
      no_explain = has_flag refusals_built.rules found (codes "no-explain") refl (read (codes "no-explain") refl);
    }

pub returns-in-Some-subcommand_matches-8-clause-line : goal.returns-in-Some-subcommand_matches-8-clause-line
returns-in-Some-subcommand_matches-8-clause-line c =
    let met = refusals_met (goal.at.returns-in-Some-subcommand_matches-8-clause-line c).In-Some-subcommand_matches-8 in
    asks_as_read (texts c.args.words.now) (codes "refusals") (found_of c.in-Some-subcommand_matches-8.refusals.now) met c.refusals_line.result c.refusals_line.ensures

-- ---- batch

batch_fits : AllFit (passes batch_built.rules) batch_built.rules
batch_fits = (fits batch_built.rules _ refl refl refl refl, (fits batch_built.rules _ refl refl refl refl, (fits batch_built.rules _ refl refl refl refl, (fits batch_built.rules _ refl refl refl refl, (fits batch_built.rules _ refl refl refl refl, (fits batch_built.rules _ refl refl refl refl, (fits batch_built.rules _ refl refl refl refl, (fits batch_built.rules _ refl refl refl refl, (fits batch_built.rules _ refl refl refl refl, (fits batch_built.rules _ refl refl refl refl, tt))))))))))

batch_met : (c : In-Some-subcommand_matches-9) → EntersAs (texts c.args.words.now) (codes "batch") (found_of c.in-Some-subcommand_matches-9.batch.now)
batch_met c =
    let entered = c.in-Some-subcommand_matches-9.ensures in
    enters_as _ _ _ c.in_ok-matches.matches c.in_ok-matches.ensures.ok c.in_ok-matches.ensures.kinds (entered.found.0 refl) entered.rows

pub batch_line-requires : goal.batch_line-requires
batch_line-requires c =
    let found = found_of c.in-Some-subcommand_matches-9.batch.now in
    let read = reads (texts c.args.words.now) (codes "batch") found (batch_met c) batch_built refl batch_fits in
    record {
      workers = has_workers batch_built.rules found refl (read (codes "workers") refl);
      split = has_number batch_built.rules found (codes "split") 0 10 refl (read (codes "split") refl);
      budget = has_number batch_built.rules found (codes "budget") 0 1000000000 refl (read (codes "budget") refl);
      json = has_flag batch_built.rules found (codes "json") refl (read (codes "json") refl);
      schedules = has_flag batch_built.rules found (codes "schedules") refl (read (codes "schedules") refl);
      explain = has_flag batch_built.rules found (codes "explain") refl (read (codes "explain") refl);
      no_explain = has_flag batch_built.rules found (codes "no-explain") refl (read (codes "no-explain") refl);
    }

pub returns-in-Some-subcommand_matches-9-clause-line : goal.returns-in-Some-subcommand_matches-9-clause-line
returns-in-Some-subcommand_matches-9-clause-line c =
    let met = batch_met (goal.at.returns-in-Some-subcommand_matches-9-clause-line c).In-Some-subcommand_matches-9 in
    IfOk-weaker c.batch_line.result _ _ (asks_as_read (texts c.args.words.now) (codes "batch") (found_of c.in-Some-subcommand_matches-9.batch.now) met) c.batch_line.ensures.asks

-- ---- no other command

pub unreachable-requires : goal.unreachable-requires
unreachable-requires c =
    let met = enters_command (texts c.args.words.now) c.in_ok-matches.ensures.kinds in
    let name : subcommand_name_of c.in_ok-matches.matches ≡ Some met.shape.name =
    name-rows c.in_ok-matches.matches ∙ ap (option_map (λ p. p.0)) (c.in_ok-matches.ensures.ok ∙ met.is) in
    elim met.among [
      | inl is ↦ true≢false (sym (c.in_default-subcommand_matches-4.ensures.found.1 (name ∙ ap (λ s. Some s.name) is)))
      | inr (inl is) ↦ true≢false (sym (c.in_default.ensures.found.1 (name ∙ ap (λ s. Some s.name) is)))
      | inr (inr (inl is)) ↦ true≢false (sym (c.in_default-subcommand_matches.ensures.found.1 (name ∙ ap (λ s. Some s.name) is)))
      | inr (inr (inr (inl is))) ↦ true≢false (sym (c.in_default-subcommand_matches-2.ensures.found.1 (name ∙ ap (λ s. Some s.name) is)))
      | inr (inr (inr (inr (inl is)))) ↦ true≢false (sym (c.in_default-subcommand_matches-3.ensures.found.1 (name ∙ ap (λ s. Some s.name) is)))
      | inr (inr (inr (inr (inr (inl is))))) ↦ true≢false (sym (c.in_default-subcommand_matches-5.ensures.found.1 (name ∙ ap (λ s. Some s.name) is)))
      | inr (inr (inr (inr (inr (inr (inl is)))))) ↦ true≢false (sym (c.in_default-subcommand_matches-6.ensures.found.1 (name ∙ ap (λ s. Some s.name) is)))
      | inr (inr (inr (inr (inr (inr (inr (inl is))))))) ↦ true≢false (sym (c.in_default-subcommand_matches-7.ensures.found.1 (name ∙ ap (λ s. Some s.name) is)))
      | inr (inr (inr (inr (inr (inr (inr (inr (inl is)))))))) ↦ true≢false (sym (c.in_default-subcommand_matches-8.ensures.found.1 (name ∙ ap (λ s. Some s.name) is)))
      | inr (inr (inr (inr (inr (inr (inr (inr (inr (inl is))))))))) ↦ true≢false (sym (c.in_default-subcommand_matches-9.ensures.found.1 (name ∙ ap (λ s. Some s.name) is)))
      | inr (inr (inr (inr (inr (inr (inr (inr (inr (inr none))))))))) ↦ none
    ]

pub returns-in_err-matches-clause-memory : goal.returns-in_err-matches-clause-memory
returns-in_err-matches-clause-memory c =
    passed_up c.from_residual.result (kind_of c.in_err-matches.field-0.0) _ c.from_residual.ensures.1 c.in_err-matches.ensures.memory

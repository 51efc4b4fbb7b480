-- What the matches of the command that a parse entered have.
use Rattle.std.proofs.Common.{◌≡◌, ◌∙◌, unwrap_or, option_map, true, false, sym, ap, subst, List, [], ◌∷◌, Option, Some, None, is_some, refl}
use Rattle.std.specs.Prelude.{Box, filter, option_and_then}
use Rattle.std.specs.Box.{box_value}
use Rattle.clap.specs.Faults.{fault_of, level_fault}
use Rattle.clap.specs.Matches.{first_value, subcommand_name_of}
use Rattle.clap.specs.Simple.{Shape, subcommand_of, subcommand_rows, subcommand_rows_of}
use Rattle.clap.specs.Walk.{Rule, Text, all_of, first_of, nothing_held, rows_after, rows_of}
use Rattle.clap.proofs.WalkLemmas.{first_value-rows, raw_values-rows}
use Rattle.clap.specs.declared.parser.matches.ArgMatches.{ArgMatches}
use Rattle.clap.specs.declared.parser.matches.ArgMatches.TheViews.{out-ArgMatches, out-SubCommand}
use Rattle.clap.specs.declared.parser.matches.Found.{Found}
use Rattle.clap.specs.declared.parser.matches.SubCommand.{SubCommand}
use Rattle.command_line.specs.Arguments.{all_texts}
use Rattle.command_line.specs.CommandLine.{Asks, AsksWith, all_given_in, command_in, given_in, vsc_app}
use Rattle.command_line.specs.declared.line.CommandLine.{CommandLine}
use Rattle.command_line.proofs.CommandLemmas.{Reads, command_reads, is_sure, passes}
use Rattle.command_line.proofs.EnterLemmas.{Among, Enters, commands, enters_by_name, enters_command, has_name, the_one}
use Rattle.command_line.proofs.GivenLemmas.{AllFit}

-- the name and the entries of the command that a parse entered
pub name-rows : (m : ArgMatches) → subcommand_name_of m ≡ option_map (λ p. p.0) (subcommand_rows_of m)
name-rows m = go (out-ArgMatches m).subcommand
  where
    go : {Z : Type 0} (o : Option (Box SubCommand Z)) → option_map (λ b. (out-SubCommand (box_value b)).name.now) o ≡ option_map (λ p. p.0) (subcommand_rows o)
    go None = refl
    go (Some b) = refl

-- a parse without a fault enters the command of this name, and finds this for it
pub record EntersAs (words : List Text) (name : Text) (found : Found) : Type 0 where
  pub met : Enters (subcommand_of vsc_app words)
  pub command : command_in words ≡ Some name
  pub entries : option_map (λ p. p.1) (subcommand_of vsc_app words) ≡ Some (rows_of found)

pub enters_as : (words : List Text) (name : Text) (found : Found) (m : ArgMatches) → subcommand_rows_of m ≡ subcommand_of vsc_app words
    → fault_of vsc_app words ≡ [] → subcommand_name_of m ≡ Some name → option_map (λ p. p.1) (subcommand_rows_of m) ≡ Some (rows_of found)
    → EntersAs words name found
enters_as words name found m same none named rows = record {
  met = enters_command words none;
  command = ap (option_map (λ p. p.0)) (sym same) ∙ sym (name-rows m) ∙ named;
  entries = ap (option_map (λ p. p.1)) (sym same) ∙ rows;
}

module _ (words : List Text) (name : Text) (found : Found) (entered : EntersAs words name found) where
  -- the entries are those that the words give the command
  rows_are : rows_of found ≡ rows_after entered.met.shape.rules [] entered.met.words
  rows_are = ap (λ o. unwrap_or o []) (sym entered.entries) ∙ ap (λ o. unwrap_or (option_map (λ p. p.1) o) []) entered.met.is

  value_is : (id : Text) → first_value found id ≡ given_in words id
  value_is id = first_value-rows found id ∙ ap (first_of id) rows_are ∙ sym (ap (option_and_then (λ p. first_of id p.1)) entered.met.is)

  all_are : (id : Text) → all_texts found id ≡ all_given_in words id
  all_are id = ap (λ o. unwrap_or o []) (raw_values-rows found id ∙ ap (all_of id) rows_are ∙ sym (ap (option_and_then (λ p. all_of id p.1)) entered.met.is))

  -- where the command of this name is s, an argument that has to be given, or has a default, has a text that it accepts
  pub reads : (s : Shape) → filter (has_name name) commands ≡ s ∷ []
      → AllFit (passes s.rules) s.rules → (id : Text) → is_sure s.rules id ≡ true → Reads s.rules id (rows_of found)
  reads s only all id sure =
      let is : entered.met.shape ≡ s = the_one _ _ (subst (Among entered.met.shape) only (enters_by_name _ entered.met name entered.command)) in
      let faultless = subst (λ (x : Shape). level_fault x [] nothing_held entered.met.words false [] ≡ []) is entered.met.faultless in
      let rows : rows_of found ≡ rows_after s.rules [] entered.met.words = rows_are ∙ ap (λ (x : Shape). rows_after x.rules [] entered.met.words) is in
      subst (Reads s.rules id) (sym rows) (command_reads s entered.met.words all faultless id sure)

  -- what the matches say of the command, the words ask for
  pub asks_as_read : (asked : CommandLine) → AsksWith (Some name) (first_value found) (all_texts found) asked → Asks words asked
  asks_as_read asked said =
      let values : first_value found ≡ given_in words = λ i id. value_is id i in
      let all : all_texts found ≡ all_given_in words = λ i id. all_are id i in
      let named = subst (λ (c : Option Text). AsksWith c (first_value found) (all_texts found) asked) (sym entered.command) said in
      subst (λ f. AsksWith (command_in words) f (all_given_in words) asked) values (subst (λ a. AsksWith (command_in words) (first_value found) a asked) all named)

-- an argument that has a text
pub has_text : (found : Found) (rules : List Rule) (id : Text) → Reads rules id (rows_of found) → is_some (first_value found id) ≡ true
has_text found rules id read = ap is_some (first_value-rows found id ∙ read.given)

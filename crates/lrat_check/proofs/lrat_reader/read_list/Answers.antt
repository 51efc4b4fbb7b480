use Rattle.std.proofs.Common.{◌≡◌, ◌∷◌, ◌++◌, [], ◌∙◌, List, ℤ, true, ap, sym, subst, map}
use Rattle.std.specs.Prelude.{pos, Some}
use Rattle.std.proofs.lemmas.List.{map_push}
use Rattle.std.proofs.lemmas.Option.{MatchOption-at_some}
use Rattle.text_lines.specs.Words.{words_of}
use Rattle.text_lines.specs.Numbers.{solver_number}
use Rattle.lrat_check.specs.LratRead.{BeginsWith}
use Rattle.lrat_check.proofs.DerivationText.ListLemmas.{one_number}
use Rattle.lrat_check.proofs.DerivationText.ShortNumberLemmas.{reads_from_start, zero_ends}
use Rattle.lrat_check.proofs.lrat_reader.read_list.Goals as goal

pub returns-in-Some : goal.returns-in-Some
returns-in-Some g c =
    let none : map g.N.ListedNumber.number c.clear.new.self.items ≡ [] = ap (map g.N.ListedNumber.number) c.clear.ensures.items in
    let read = reads_from_start g.N.ListedNumber.fault g.N.ListedNumber.passes (map g.N.ListedNumber.number c.clear.new.self.items) c.args.line.now (map g.N.ListedNumber.number c.push_short.new.numbers.items) c.in_ok-rest.rest.now none c.in_ok-rest.ensures in
    zero_ends g.N.ListedNumber.fault g.N.ListedNumber.passes (words_of c.args.line.now) (map g.N.ListedNumber.number c.push_short.new.numbers.items) c.in_ok-rest.rest.now c.in-Some.behind.now read c.in-Some.ensures c.recall_right.ensures.zero

pub loop-word-preserved : goal.loop-word-preserved
loop-word-preserved g c =
    let n = c.in-Ok-Some.number in
    let read = MatchOption-at_some (solver_number c.in-Some-cut_word.word.now ≡ Some (pos 0)) (λ listed. (solver_number c.in-Some-cut_word.word.now ≡ Some (g.N.ListedNumber.number listed)) × (g.N.ListedNumber.passes (g.N.ListedNumber.number listed) ≡ true)) n c.in-Ok-Some.field-0-is c.in-Ok-Some.ensures in
    let right = c.recall_right.ensures.listed n read.1 in
    let new : map g.N.ListedNumber.number c.push.new.self.items ≡ map g.N.ListedNumber.number c.loop-word.numbers.items ++ g.N.ListedNumber.number n ∷ [] = ap (map g.N.ListedNumber.number) c.in_ok-push-in-Ok-Some.ensures.items ∙ map_push g.N.ListedNumber.number c.loop-word.numbers.items n in
    c.in_ok-rest-2.ensures.reads (words_of c.args.line.now)
    (subst (λ (ns : List ℤ). BeginsWith g.N.ListedNumber.fault g.N.ListedNumber.passes (words_of c.args.line.now) ns (words_of c.in-Some-cut_word.after.now)) (sym new)
    (one_number g.N.ListedNumber.fault g.N.ListedNumber.passes (words_of c.args.line.now) (map g.N.ListedNumber.number c.loop-word.numbers.items) (words_of c.loop-word.rest.now) c.in-Some-cut_word.word.now (words_of c.in-Some-cut_word.after.now) (g.N.ListedNumber.number n) c.loop-word.invariant c.in-Some-cut_word.ensures.words read.0
    right.0 right.1 read.1))

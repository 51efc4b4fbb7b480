use Rattle.std.proofs.Common.{◌≡◌, ◌∙◌, ◌||◌, ℕ, eqb, refl, sym, ap}
use Rattle.std.proofs.lemmas.Result.{on_ok_weaker}
use Rattle.dimacs.specs.Assignment.{value_of}
use Rattle.model_text.specs.declared.model_reader.ModelReader.{ModelReader}
use Rattle.model_text.proofs.ModelReadLemmas.{positive_added, negative_added}
use Rattle.model_text.proofs.model_reader.ModelReader.add.Goals as goal

pub returns-then-is_positive : goal.returns-then-is_positive
returns-then-is_positive c =
    let old : ModelReader = c.args.self.now in
    let new : ModelReader = record { positive = c.make_true.new.values; negative = old.negative; ended = old.ended } in
    on_ok_weaker c.make_true.result
    (λ (made : (n : ℕ) → value_of new.positive.items n ≡ (eqb c.variable.result n || value_of old.positive.items n)).
    positive_added old new c.args.literal (sym c.is_positive.ensures ∙ c.if-is_positive.true) refl refl
    (λ n. made n ∙ ap (λ v. eqb v n || value_of old.positive.items n) c.variable.ensures.number))
    c.make_true.ensures

pub returns-else-is_positive : goal.returns-else-is_positive
returns-else-is_positive c =
    let old : ModelReader = c.args.self.now in
    let new : ModelReader = record { positive = old.positive; negative = c.make_true-else-is_positive.new.values; ended = old.ended } in
    on_ok_weaker c.make_true-else-is_positive.result
    (λ (made : (n : ℕ) → value_of new.negative.items n ≡ (eqb c.variable-else-is_positive.result n || value_of old.negative.items n)).
    negative_added old new c.args.literal (sym c.is_positive.ensures ∙ c.if-is_positive.false) (rw (← c.variable-else-is_positive.ensures.number) c.variable-else-is_positive.ensures.first) refl refl
    (λ n. made n ∙ ap (λ v. eqb v n || value_of old.negative.items n) c.variable-else-is_positive.ensures.number))
    c.make_true-else-is_positive.ensures

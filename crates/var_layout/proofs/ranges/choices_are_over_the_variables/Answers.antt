use Rattle.var_layout.proofs.VariableLemmas.{have_literals, choice_over, choice_writer}
use Rattle.var_layout.proofs.ranges.choices_are_over_the_variables.Goals as goal

pub returns : goal.returns
returns c = record {
  variable = choice_over;
  literals = λ t r x h. have_literals t x.variable (choice_over t r x h);
  writer = choice_writer;
}

use Rattle.var_layout.proofs.VariableLemmas.{have_literals, final_over, final_writer, finals_of}
use Rattle.var_layout.proofs.ranges.finals_are_over_the_variables.Goals as goal

pub returns : goal.returns
returns c = record {
  variable = final_over;
  literals = λ t k x h. have_literals t x.variable (final_over t k x h);
  writer = final_writer;
  entry = finals_of;
}

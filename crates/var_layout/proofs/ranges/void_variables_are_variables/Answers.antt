use Rattle.var_layout.proofs.VariableLemmas.{void_over, reader_over, first_final_over}
use Rattle.var_layout.proofs.ranges.void_variables_are_variables.Goals as goal

pub returns : goal.returns
returns c = record { void = void_over; first_choice = reader_over; first_final = first_final_over }

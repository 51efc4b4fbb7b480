use Rattle.std.proofs.Common.{sym, ◌∙◌, arith}
use Rattle.trace_semantics.specs.NameNumbers.{number_of}
use Rattle.trace_semantics.proofs.ValueLemmas.{value_none, value_step}
use Rattle.trace_semantics.proofs.name_table.NameTable.of_values.Goals as goal

pub loop-k-init : goal.loop-k-init
loop-k-init c = λ location. c.in_ok-table.ensures location ∙ sym (value_none c.args.values.now location)

pub loop-k-preserved : goal.loop-k-preserved
loop-k-preserved c = λ location. value_step c.args.values.now c.loop-k.k c.index-values-k.result location (number_of c.loop-k.table location) (number_of c.insert.new.self location) (omega arith) (omega arith) c.index-values-k.is c.as_bytes.result.now c.as_bytes.ensures (c.in_ok-insert.ensures location) (c.loop-k.invariant location)

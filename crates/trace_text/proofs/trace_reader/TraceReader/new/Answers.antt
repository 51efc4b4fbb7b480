use Rattle.std.proofs.Common.{rules}
use Rattle.trace_text.proofs.trace_reader.TraceReader.new.Goals as goal

pub returns : goal.returns
returns c limits = record { seen = c.new.ensures limits; gathered = search rules; begun = search rules; distinct = search rules; written = search rules }

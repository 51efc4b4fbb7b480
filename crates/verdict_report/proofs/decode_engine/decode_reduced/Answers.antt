use Rattle.std.proofs.Common.{rules}
use Rattle.verdict_report.proofs.DecodeLemmas.{decoding}
use Rattle.verdict_report.proofs.decode_engine.decode_reduced.Goals as goal

pub returns : goal.returns
returns c = decoding c.args.reduced.now c.requires c.args.model.now c.in_ok-kept.kept c.in_ok-expand.field-0 (search rules) c.in_ok-kept.ensures.ordered c.in_ok-kept.ensures.legal c.in_ok-expand.ensures

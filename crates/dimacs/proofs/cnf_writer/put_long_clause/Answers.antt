use Rattle.std.proofs.Common.{rules, ◌∙◌, ◌<◌, length, take, codes}
use Rattle.dimacs.specs.CnfText.{literal_text}
use Rattle.dimacs.proofs.ChunkLemmas.{line_sent, lines_part_on, sent_on, on_err}
use Rattle.dimacs.proofs.cnf_writer.put_long_clause.Goals as goal

pub returns-in_err-start-clause-front : goal.returns-in_err-start-clause-front
returns-in_err-start-clause-front g c =
    on_err c.from_residual.result
    (lines_part_on (take c.args.at c.args.buffer.now) literal_text c.args.literals.now _ _ _ _ (codes "0\n") c.loop-literal.literal-index c.loop-literal.invariant.sent c.in_err-start.ensures.front)

pub loop-literal-preserved : goal.loop-literal-preserved
loop-literal-preserved g c =
    let within : c.loop-literal.literal-index < length c.args.literals.now = search rules in
    let sent = sent_on _ _ _ _ _ _ c.loop-literal.invariant.sent c.in_ok-start.ensures.sent in
    record {
      within = search rules;
      sent = line_sent (take c.args.at c.args.buffer.now) literal_text c.args.literals.now _ _ _ _ c.loop-literal.literal-index c.literal-item.result within c.literal-item.is sent c.put_literal-end.ensures.written;
      failures = c.in_ok-start.ensures.well ∙ c.loop-literal.invariant.failures;
      same = c.make_room.ensures.same ∙ c.loop-literal.invariant.same;
    }

pub returns-in_err-start-2-clause-front : goal.returns-in_err-start-2-clause-front
returns-in_err-start-2-clause-front g c =
    on_err c.from_residual-in_err-start-2.result
    (lines_part_on (take c.args.at c.args.buffer.now) literal_text c.args.literals.now _ _ _ _ (codes "0\n") c.loop-literal.literal-index c.loop-literal.invariant.sent c.in_err-start-2.ensures.front)

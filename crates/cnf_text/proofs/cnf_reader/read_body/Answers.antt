use Rattle.std.proofs.Common.{ℤ, List, [], sym, subst, arith}
use Rattle.text_lines.specs.Lines.{lines_of}
use Rattle.cnf_text.specs.CnfReading.{Header}
use Rattle.cnf_text.proofs.CnfReaderLemmas.{IsReadSoFar, at_start, read_on}
use Rattle.cnf_text.proofs.cnf_reader.read_body.Goals as goal

pub lines-init : goal.lines-init
lines-init c =
    let h : Header = record { variables = c.args.counts.variables; clauses = c.args.counts.clauses } in
    let lines = lines_of c.args.text.now in
    record {
      read = subst (λ (clauses : List (List ℤ)). IsReadSoFar h c.args.first lines c.args.first lines clauses c.new-body.result.begun.items) (sym c.new-body.ensures.clauses)
          (subst (λ (begun : List ℤ). IsReadSoFar h c.args.first lines c.args.first lines [] begun) (sym c.new-body.ensures.begun) (at_start h c.args.first lines));
      behind = omega arith;
    }

pub lines-preserved : goal.lines-preserved
lines-preserved c =
    let h : Header = record { variables = c.args.counts.variables; clauses = c.args.counts.clauses } in
    record {
      read = read_on h c.args.first (lines_of c.args.text.now) c.lines.number (lines_of c.lines.rest.now) c.lines.body.clauses.items c.lines.body.begun.items c.lines.invariant.read
          c.in-Ok.said.number c.in-Ok.said.line.now (lines_of c.in-Ok.said.rest.now) c.in-Ok.ensures.0 c.take_line.new.self.clauses.items c.take_line.new.self.begun.items c.in-Ok.ensures.1 c.in_ok-take_line-in-Ok.ensures.taken;
      behind = omega (arith, c.in-Ok.ensures.3, c.lines.invariant.behind);
    }

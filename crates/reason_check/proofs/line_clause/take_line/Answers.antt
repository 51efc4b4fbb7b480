use Rattle.std.proofs.Common.{List, subst, sym}
use Rattle.std.specs.Prelude.{IfErr}
use Rattle.reason_clauses.specs.RefusedBy.{IsRefusedBy}
use Rattle.reason_text.specs.declared.reason_line.ReasonLine.{ReasonLine}
use Rattle.reason_text.specs.declared.source_piece.SourcePiece.{SourcePiece}
use Rattle.reason_check.specs.RefusedByTrace.{IsLastLineRefused, IsRefusedByTrace, IsSourceLineRefused}
use Rattle.reason_check.proofs.line_clause.take_line.Goals as goal

pub returns-in-Source-clause-refused : goal.returns-in-Source-clause-refused
returns-in-Source-clause-refused c =
    let t = c.args.trace.now in
    subst (λ (line : ReasonLine). IfErr c.add_source.result (IsRefusedBy (IsRefusedByTrace t line))) (sym c.in-Source.is)
    (subst (λ (l : List SourcePiece). IfErr c.add_source.result (IsRefusedBy (IsSourceLineRefused t c.in-Source.reader l))) c.as_slice-in-Source.ensures.value c.add_source.ensures.refused)

pub returns-in-Last-clause-refused : goal.returns-in-Last-clause-refused
returns-in-Last-clause-refused c =
    let t = c.args.trace.now in
    subst (λ (line : ReasonLine). IfErr c.add_last.result (IsRefusedBy (IsRefusedByTrace t line))) (sym c.in-Last.is)
    (subst (λ (l : List SourcePiece). IfErr c.add_last.result (IsRefusedBy (IsLastLineRefused t c.in-Last.location.now l))) c.as_slice-in-Last.ensures.value c.add_last.ensures.refused)

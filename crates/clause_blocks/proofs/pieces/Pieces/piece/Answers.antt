use Rattle.std.proofs.Common.{rules, ◌≡◌, ◌≤◌, ◌+◌, ◌-◌, ◌∙◌, ap, sym, arith}
use Rattle.trace_semantics.specs.Trace.{operation_count}
use Rattle.clause_blocks.specs.Blocks.{read_clauses, final_clauses, before_clauses}
use Rattle.clause_blocks.proofs.ClauseList.ListLemmas.{piece_count, triples_piece, last_piece}
use Rattle.clause_blocks.proofs.pieces.Pieces.piece.Goals as goal

pub returns-then-k-operations : goal.returns-then-k-operations
returns-then-k-operations c =
    let t = c.args.self.now in
    let operations : c.operations-operations.result ≡ operation_count t = c.operations-operations.ensures ∙ ap operation_count c.layout.ensures in
    let some : 1 ≤ c.args.k = search rules in
    let low = c.if-k-operations.true in
    sym (triples_piece t c.args.k (c.args.k - 1) (omega (arith, some)) (omega (arith, some, low, operations)))

pub returns-then-k-operations-eq1 : goal.returns-then-k-operations-eq1
returns-then-k-operations-eq1 c =
    let t = c.args.self.now in
    let operations : c.operations-operations.result ≡ operation_count t = c.operations-operations.ensures ∙ ap operation_count c.layout.ensures in
    let behind : c.args.k - c.operations-operations.result ≡ 1 = search rules in
    c.as_slice-then-k-operations-eq1.ensures.value ∙ c.self.invariant.in_reads ∙ ap read_clauses c.self.view_is
    ∙ sym (last_piece t c.args.k 0 (omega (arith, behind, operations)))

pub returns-then-k-operations-eq2 : goal.returns-then-k-operations-eq2
returns-then-k-operations-eq2 c =
    let t = c.args.self.now in
    let operations : c.operations-operations.result ≡ operation_count t = c.operations-operations.ensures ∙ ap operation_count c.layout.ensures in
    let behind : c.args.k - c.operations-operations.result ≡ 2 = search rules in
    c.as_slice-then-k-operations-eq2.ensures.value ∙ c.self.invariant.in_finals ∙ ap final_clauses c.self.view_is
    ∙ sym (last_piece t c.args.k 1 (omega (arith, behind, operations)))

pub returns : goal.returns
returns c =
    let t = c.args.self.now in
    let operations : c.operations-operations.result ≡ operation_count t = c.operations-operations.ensures ∙ ap operation_count c.layout.ensures in
    let third : c.operations-operations.result + 3 ≤ c.args.k = search rules in
    let high = c.requires in
    let all = piece_count t in
    c.as_slice-2.ensures.value ∙ c.self.invariant.in_pairs ∙ ap before_clauses c.self.view_is
    ∙ sym (last_piece t c.args.k 2 (omega (arith, third, high, all, operations)))

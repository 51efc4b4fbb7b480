use Rattle.std.proofs.Common.{◌≡◌, ◌⊎◌, sym, subst, arith}
use Rattle.writer_table.specs.Runs.{IsIn}
use Rattle.reason_clauses.proofs.OwnLemmas.{is_own_last, writes_before}
use Rattle.reason_clauses.proofs.own.own_last.Goals as goal

pub returns : goal.returns
returns c =
    let t = c.args.trace.now in
    let location = c.args.location.now in
    let q = c.args.reader.process in
    let last = c.last_in.result in
    let bound = c.saturating_sub-bound.ensures in
    let within = c.last_in.ensures.within in
    is_own_last t c.recall_invariant.ensures c.args.locations.now c.requires.holds c.requires.kind c.args.reader location last
    (λ k there low. c.last_in.ensures.above k (subst (λ l. IsIn l q k) (sym c.runs.ensures) there) (omega (arith, bound, low)))
    (writes_before t c.recall_invariant.ensures c.args.locations.now c.requires.holds c.args.reader location last (omega (arith, bound, within)) (subst (λ l. (last ≡ 0) ⊎ IsIn l q last) c.runs.ensures c.last_in.ensures.member))

use Rattle.std.proofs.Common.{subst}
use Rattle.std.specs.List.{Contains}
use Rattle.trace_semantics.specs.declared.operation.OpName.{OpName}
use Rattle.reducer.specs.Expansion.{expanded}
use Rattle.reducer.proofs.KeptTrace.KeptLemmas.{kept_first}
use Rattle.reducer.proofs.RunLemmas.{expanded_member, belongs}
use Rattle.reducer.proofs.laws.expands_to_those_of_its_new_name.Goals as goal

pub returns : goal.returns
returns c t x m ok known = (
  λ d. (let first = kept_first t ok x known in let at = expanded_member t ok x first.0 m first.1 d in (at.known, at.renamed)),
  λ h. subst (λ (y : OpName). Contains (expanded t y) m) h.1 (belongs t ok m h.0).listed,
)

use Rattle.std.proofs.Common.{◌≡◌, ◌∷◌, map, take}
use Rattle.var_layout.specs.declared.candidate.Candidate.TheVariants.{InitialValue, Writer}
use Rattle.var_layout.proofs.read_candidates.sources.Given as goal

abbrev pub invariant-loop-w : goal.invariant-loop-w
invariant-loop-w l = l.found.items ≡ InitialValue ∷ map (λ w. Writer w) (take l.w-index l.writers)

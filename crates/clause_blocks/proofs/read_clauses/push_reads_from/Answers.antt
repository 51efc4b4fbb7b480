use Rattle.std.proofs.Common.{◌≡◌, ◌∙◌, ◌∷◌, [], ◌++◌, map, ℤ, OnOk, ap, sym, subst}
use Rattle.std.proofs.lemmas.Simd.{map-map}
use Rattle.var_layout.specs.Numbers.{other_writers}
use Rattle.clause_blocks.specs.Blocks.{implies, reads_from, stands_before}
use Rattle.clause_blocks.proofs.read_clauses.push_reads_from.Goals as goal

pub returns-in-InitialValue : goal.returns-in-InitialValue
returns-in-InitialValue c =
    let t = c.args.layout.now in
    let variable = c.args.choice.variable in
    let clause = λ (literal : ℤ). implies variable (literal ∷ []) in
    let same : map clause c.args.after.now ≡ reads_from t c.args.r variable c.args.choice.candidate =
    ap (map clause) c.requires.after ∙ map-map clause (stands_before t c.args.r) (other_writers t c.args.r) ∙ ap (reads_from t c.args.r variable) (sym c.in-InitialValue.is) in
    subst (λ made. OnOk c.push_reads_initial.result (c.push_reads_initial.new.clauses.items ≡ c.args.clauses.now.items ++ made)) same c.push_reads_initial.ensures

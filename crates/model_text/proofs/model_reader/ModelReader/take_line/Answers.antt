use Rattle.std.proofs.Common.{◌++◌, ℕ, List, refl, sym, subst}
use Rattle.std.specs.Result.{OnOk}
use Rattle.model_text.specs.declared.model_fault.ModelCause.TheVariants.{SaysUnsatisfiable, BadLine}
use Rattle.model_text.specs.ModelText.{Said, Unsatisfiable, Unknown}
use Rattle.model_text.specs.ModelFirstFault.{at_line}
use Rattle.model_text.specs.ModelProgress.{IsModelProgress}
use Rattle.model_text.proofs.ModelReadLemmas.{line_refused}
use Rattle.model_text.proofs.model_reader.ModelReader.take_line.Goals as goal

pub returns-in-Words-clause-taken : goal.returns-in-Words-clause-taken
returns-in-Words-clause-taken c =
    subst (λ (things : List Said). OnOk c.take_words.result ((before : List (ℕ × Said)) → IsModelProgress before c.args.self.now → IsModelProgress (before ++ at_line c.args.line_number things) c.take_words.new.self))
    c.in-Words.ensures c.take_words.ensures.taken

pub returns-in-Unsatisfiable-clause-refused : goal.returns-in-Unsatisfiable-clause-refused
returns-in-Unsatisfiable-clause-refused c =
    line_refused c.args.line_number _ Unsatisfiable SaysUnsatisfiable c.args.self.now (sym c.in-Unsatisfiable.ensures) (λ _. refl)

pub returns-in-Unknown-clause-refused : goal.returns-in-Unknown-clause-refused
returns-in-Unknown-clause-refused c =
    line_refused c.args.line_number _ Unknown BadLine c.args.self.now (sym c.in-Unknown.ensures) (λ _. refl)

-- How many processes and operations statements have.
use Rattle.std.proofs.Common.{◌≡◌, suc, ◌+◌, List, [], ◌∷◌, ◌++◌, length, map, refl, ap, ◌∙◌, arith}
use Rattle.std.specs.List.{filter, flat_map, sum_by}
use Rattle.std.proofs.lemmas.List.Sums.{sum_by-append}
use Rattle.trace_semantics.specs.declared.operation.Op.{Op}
use Rattle.trace_semantics.specs.declared.operation.Op.TheVariants.{Read as ReadOp, Write as WriteOp, Update as UpdateOp}
use Rattle.trace_semantics.specs.declared.trace.Process.{Process}
use Rattle.trace_text.specs.Entry.{op_statement}
use Rattle.trace_text.specs.Gathered.{is_of_process, process_statements}
use Rattle.trace_text.specs.Statement.{Statement, Init, Final, Proc, Read, Write, Update, Before}
use Rattle.trace_text.specs.TraceFault.{is_proc, is_operation}

pub procs_within : (ss : List Statement) → filter is_proc ss ≡ filter is_proc (filter is_of_process ss)
procs_within [] = refl
procs_within (Init a d ∷ ss) = procs_within ss
procs_within (Final a d ∷ ss) = procs_within ss
procs_within (Proc name ∷ ss) = ap (λ t. Proc name ∷ t) (procs_within ss)
procs_within (Read a d source times ∷ ss) = procs_within ss
procs_within (Write a d times ∷ ss) = procs_within ss
procs_within (Update a d e source times ∷ ss) = procs_within ss
procs_within (Before p i q j ∷ ss) = procs_within ss

operations_within : (ss : List Statement) → filter is_operation ss ≡ filter is_operation (filter is_of_process ss)
operations_within [] = refl
operations_within (Init a d ∷ ss) = operations_within ss
operations_within (Final a d ∷ ss) = operations_within ss
operations_within (Proc name ∷ ss) = operations_within ss
operations_within (Read a d source times ∷ ss) = ap (λ t. Read a d source times ∷ t) (operations_within ss)
operations_within (Write a d times ∷ ss) = ap (λ t. Write a d times ∷ t) (operations_within ss)
operations_within (Update a d e source times ∷ ss) = ap (λ t. Update a d e source times ∷ t) (operations_within ss)
operations_within (Before p i q j ∷ ss) = operations_within ss

pub no_proc : (ops : List Op) (ss : List Statement) → filter is_proc (map op_statement ops ++ ss) ≡ filter is_proc ss
no_proc [] ss = refl
no_proc (ReadOp a d o span ∷ ops) ss = no_proc ops ss
no_proc (WriteOp a d span ∷ ops) ss = no_proc ops ss
no_proc (UpdateOp a d e o span ∷ ops) ss = no_proc ops ss

operations_counted : (ops : List Op) (ss : List Statement) → length (filter is_operation (map op_statement ops ++ ss)) ≡ length ops + length (filter is_operation ss)
operations_counted [] ss = omega arith
operations_counted (ReadOp a d o span ∷ ops) ss = omega (arith, operations_counted ops ss)
operations_counted (WriteOp a d span ∷ ops) ss = omega (arith, operations_counted ops ss)
operations_counted (UpdateOp a d e o span ∷ ops) ss = omega (arith, operations_counted ops ss)

procs_listed : (ps : List Process) → length (filter is_proc (flat_map process_statements ps)) ≡ length ps
procs_listed [] = refl
procs_listed (p ∷ ps) = ap (λ l. suc (length l)) (no_proc p.operations (flat_map process_statements ps)) ∙ ap suc (procs_listed ps)

operations_listed : (ps : List Process) → length (filter is_operation (flat_map process_statements ps)) ≡ sum_by (λ (p : Process). length p.operations) ps
operations_listed [] = refl
operations_listed (p ∷ ps) = omega (arith, operations_counted p.operations (flat_map process_statements ps), operations_listed ps, sum_by-append (λ (q : Process). length q.operations) (p ∷ []) ps)

-- as many statements begin a process as there are processes
pub count_procs : (ss : List Statement) (ps : List Process) → filter is_of_process ss ≡ flat_map process_statements ps → length (filter is_proc ss) ≡ length ps
count_procs ss ps h = ap length (procs_within ss ∙ ap (filter is_proc) h) ∙ procs_listed ps

-- as many statements are operations as the processes have
pub count_operations : (ss : List Statement) (ps : List Process) → filter is_of_process ss ≡ flat_map process_statements ps → length (filter is_operation ss) ≡ sum_by (λ (p : Process). length p.operations) ps
count_operations ss ps h = ap length (operations_within ss ∙ ap (filter is_operation) h) ∙ operations_listed ps

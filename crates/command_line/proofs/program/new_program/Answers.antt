-- Each step adds a command to what a parse reads of the program.
use Rattle.command_line.specs.CommandLine.{batch_app, cnf_app, decode_app, judge_app, lrat_app, part_app, program_app, recheck_app, refusals_app, survey_app, verify_app}
use Rattle.command_line.proofs.program.new_program.Goals as goal

pub returns : goal.returns
returns c =
    let verifying = c.with_command-program.ensures program_app verify_app c.bare_program.ensures c.new_verify_command.ensures.app in
    let judging = c.with_command-program-2.ensures _ judge_app verifying c.new_path_command.ensures.app in
    let writing = c.with_command-program-3.ensures _ cnf_app judging c.new_cnf_command.ensures.app in
    let decoding = c.with_command-program-4.ensures _ decode_app writing c.new_path_command-2.ensures.app in
    let checking = c.with_command-program-5.ensures _ lrat_app decoding c.new_path_command-3.ensures.app in
    let rechecking = c.with_command-program-6.ensures _ recheck_app checking c.new_recheck_command.ensures.app in
    let parting = c.with_command-program-7.ensures _ part_app rechecking c.new_part_command.ensures.app in
    let surveying = c.with_command-program-8.ensures _ survey_app parting c.new_survey_command.ensures.app in
    let listing = c.with_command-program-9.ensures _ refusals_app surveying c.new_refusals_command.ensures.app in
    c.with_command.ensures _ batch_app listing c.new_batch_command.ensures.app

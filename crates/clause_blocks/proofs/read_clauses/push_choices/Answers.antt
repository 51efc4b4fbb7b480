use Rattle.clause_blocks.proofs.ClauseList.ReadLemmas.{reader_within, choices_are_variables, choices_are_sources}
use Rattle.clause_blocks.proofs.read_clauses.push_choices.Goals as goal

pub literals_of-requires : goal.literals_of-requires
literals_of-requires c = choices_are_variables c.args.layout.now c.recall_limits.ensures.trace c.recall_limits.ensures.few c.args.r c.choices-choices.result.now c.choices-choices.ensures

pub others_after-requires : goal.others_after-requires
others_after-requires c = reader_within c.args.layout.now c.args.r c.requires

pub push_reads_from-requires-clause-source : goal.push_reads_from-requires-clause-source
push_reads_from-requires-clause-source c = choices_are_sources c.args.layout.now c.args.r (reader_within c.args.layout.now c.args.r c.requires) c.choices-choices.result.now c.choices-choices.ensures c.loop-choice.choice-index _ c.loop-choice-test.true

pub push_reads_from-requires-clause-variable : goal.push_reads_from-requires-clause-variable
push_reads_from-requires-clause-variable c = choices_are_variables c.args.layout.now c.recall_limits.ensures.trace c.recall_limits.ensures.few c.args.r c.choices-choices.result.now c.choices-choices.ensures c.loop-choice.choice-index _ c.loop-choice-test.true

use Rattle.cnf_text.proofs.CnfWrittenLemmas as written
use Rattle.cnf_text.proofs.cnf_laws.written_spells.Goals as goal

pub returns : goal.returns
returns c = written.written_spells

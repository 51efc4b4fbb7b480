use Rattle.core_recheck.proofs.laws.whole_certificate_is_rechecked.Goals as goal

pub returns : goal.returns
returns c options t refutation trace_text result ok spelled given said =
    c.certificate_is_rechecked.ensures options t refutation trace_text result (record { is_trace = ok; spelled = spelled; few = given.2 }) given.0 said

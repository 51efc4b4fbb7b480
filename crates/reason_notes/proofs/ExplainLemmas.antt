-- What is noted of a certificate that is accepted.
use Rattle.std.proofs.Common.{◌≡◌, ℕ, List, subst}
use Rattle.std.specs.Prelude.{Option, Some, None, Result, Ok, Err, IfOk, IfSome}
use Rattle.trace_semantics.specs.Legal.{HasNoSchedule}
use Rattle.trace_semantics.specs.Trace.{TraceValue, IsTrace}
use Rattle.reason_check.specs.Accepted.{IsAcceptedReasons}
use Rattle.reason_notes.specs.Noted.{IsNotedCertificate}

module _ {V E F : Type 0} (P : V → Type 0) (notes : Result V E) where
  -- what is so of the notes is so of those that were made
  pub so_if_made : IfOk notes P → (result : Result (Option V) F) → IfOk result (λ made. IfSome made (λ text. notes ≡ Ok text)) → IfOk result (λ made. IfSome made P)
  so_if_made h (Ok (Some text)) made = subst (λ (n : Result V E). IfOk n P) made h
  so_if_made h (Ok None) made = tt
  so_if_made h (Err failed) made = tt

-- a trace of which a certificate is noted has no legal schedule
pub noted_has_none : (t : TraceValue) (text words : List ℕ) → ((u : TraceValue) (cert : List ℕ) (count : ℕ) → IsTrace u → IsAcceptedReasons u cert count → HasNoSchedule u) → IsTrace t → IsNotedCertificate t text words → HasNoSchedule t
noted_has_none t text words law ok noted = law t text noted.count ok noted.accepted

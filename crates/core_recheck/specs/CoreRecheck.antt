-- What is said where a certificate that was written is checked again.
use Rattle.std.specs.Prelude.{◌≡◌, ⊤, ℕ, Result, Ok, Err}
use Rattle.verdict_report.specs.declared.fault.Fault.{Fault}
use Rattle.verdict_report.specs.declared.fault.Fault.TheVariants.{OutOfMemory, Lrat, Check, Reasons}
use Rattle.verdict_report.specs.declared.recheck_engine.CertificateSize.{CertificateSize}
use Rattle.verdict_report.specs.declared.recheck_engine.CertificateSize.TheVariants.{Cubes, Clauses}

-- the certificate is accepted, and is one of this many cubes; or memory runs out
abbrev pub IsAcceptedOf : ℕ → Result ℕ Fault → Type 0
IsAcceptedOf cubes (Ok count) = count ≡ cubes
IsAcceptedOf cubes (Err OutOfMemory) = ⊤
IsAcceptedOf cubes (Err fault) = ⊥

-- the certificate is taken for one of reasons: it is accepted, or it or its derivation is refused, or memory runs out
abbrev pub IsTakenForReasons : Result CertificateSize Fault → Type 0
IsTakenForReasons (Ok (Clauses count)) = ⊤
IsTakenForReasons (Ok (Cubes count)) = ⊥
IsTakenForReasons (Err OutOfMemory) = ⊤
IsTakenForReasons (Err (Reasons cause line)) = ⊤
IsTakenForReasons (Err (Lrat cause line)) = ⊤
IsTakenForReasons (Err (Check cause step)) = ⊤
IsTakenForReasons (Err fault) = ⊥

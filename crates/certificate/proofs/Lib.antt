pub mod CertificateText
pub mod RecheckLawLemmas
pub mod RecheckLemmas
pub mod RefusalLemmas

use Rattle.std.proofs.Common.{arith, ◌≡◌, ℕ, ◌+◌, ◌-◌, ◌≤◌, List, ◌++◌, length, take, drop, ap, ◌∙◌}
use Rattle.std.proofs.lemmas.List.{length-take-le, take-append-le, take_all}
use Rattle.std.proofs.Math.Seq.{take-add}
use Rattle.dimacs.proofs.SinkLemmas.{range-rest}
use Rattle.verdict_report.proofs.short_source.ShortSourceSource.read.Goals as goal

-- The bytes that a source has handed out after one more call.

-- the next bytes were copied to the front of a buffer
take-copied : (bytes copied rest : List ℕ) (place count : ℕ) → count ≤ length (take (length bytes - place) (drop place bytes))
    → copied ≡ take count (take (length bytes - place) (drop place bytes)) → take (place + count) bytes ≡ take place bytes ++ take count (copied ++ rest)
take-copied bytes copied rest place count h e =
    let k : count ≤ length (drop place bytes) = rw range-rest at h in
    let f : copied ≡ take count (drop place bytes) = rw range-rest at e in
    let n : length copied ≡ count = ap length f ∙ length-take-le count (drop place bytes) k in
    let within : count ≤ length copied = omega arith in
    rw (take-add place count bytes, take-append-le count copied rest within, take_all count copied (omega arith), ← f)

pub returns-clause-handed : goal.returns-clause-handed
returns-clause-handed c =
    take-copied _ c.copy_from_slice.new.self _ _ _ (omega (arith, c.min-count.ensures)) c.copy_from_slice.ensures.after

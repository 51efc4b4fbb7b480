-- The bytes that a sink has taken after some calls.
use Rattle.std.proofs.Common.{◌≡◌, ℕ, ◌+◌, ◌-◌, ◌≤◌, List, ◌++◌, length, take, drop, arith}
use Rattle.std.proofs.lemmas.List.{take_all, length-drop, take-append-drop, append_assoc}
use Rattle.std.proofs.Math.Seq.{take-add}
use Rattle.dimacs.specs.Sink.{AppendsFront}

-- what is left after `n` bytes, as a range of the slice
pub range-rest : (n : ℕ) (bytes : List ℕ) → take (length bytes - n) (drop n bytes) ≡ drop n bytes
range-rest n bytes = take_all _ _ (omega (arith, length-drop n bytes))

-- a prefix was taken, and then a prefix of what was left
pub take-rest : (old between new bytes : List ℕ) (n count : ℕ) → between ≡ old ++ take n bytes
    → new ≡ between ++ take count (take (length bytes - n) (drop n bytes)) → new ≡ old ++ take (n + count) bytes
take-rest old between new bytes n count e f =
    rw (take-add n count bytes, ← append_assoc, ← e, ← range-rest n bytes) f

-- the first bytes are a prefix
pub front-take : (old new bytes : List ℕ) (n : ℕ) → new ≡ old ++ take n bytes → AppendsFront old new bytes
front-take old new bytes n e = record { front = take n bytes; back = drop n bytes; parts = take-append-drop n bytes; appended = e }

-- what was taken of what was left is within the bytes
pub le-rest : (n count : ℕ) (bytes : List ℕ) → n ≤ length bytes → count ≤ length (take (length bytes - n) (drop n bytes)) → n + count ≤ length bytes
le-rest n count bytes within h = let k : count ≤ length (drop n bytes) = rw range-rest at h in omega (arith, length-drop n bytes)

-- a prefix of the first part is a prefix of the whole
pub front-append : (old new first second : List ℕ) → AppendsFront old new first → AppendsFront old new (first ++ second)
front-append old new first second h = record {
  front = h.front;
  back = h.back ++ second;
  parts = rw (← append_assoc, h.parts);
  appended = h.appended;
}

-- the first part whole, and then a prefix of the second
pub front-after : (old middle new first second : List ℕ) → middle ≡ old ++ first → AppendsFront middle new second → AppendsFront old new (first ++ second)
front-after old middle new first second e h = record {
  front = first ++ h.front;
  back = h.back;
  parts = rw (append_assoc, h.parts);
  appended = rw (h.appended, e, append_assoc);
}

-- Values and writers are the same with the dropped reads and without them.
use Rattle.std.proofs.Common.{◌≡◌, ℕ, List, Bool, true, false, not, refl, ap, sym, ◌∙◌, inl, inr, subst}
use Rattle.std.specs.Prelude.{Some, None}
use Rattle.std.specs.Option.{option_and_then, option_map}
use Rattle.std.specs.Str.{bytes_eq}
use Rattle.std.proofs.lemmas.Option.{same_Some}
use Rattle.text_lines.proofs.BoolLemmas.{hidden_none}
use Rattle.trace_semantics.specs.declared.operation.Op.{Op}
use Rattle.trace_semantics.specs.declared.operation.Op.TheVariants.{Read, Write, Update}
use Rattle.trace_semantics.specs.declared.operation.OpName.{OpName}
use Rattle.trace_semantics.specs.Operation.{value_read}
use Rattle.trace_semantics.specs.Trace.{TraceValue, IsTrace}
use Rattle.trace_semantics.specs.ValueAfter.{value_left_at, value_after, last_writer}
use Rattle.restriction.specs.LastWriter.{IsLast}
use Rattle.restriction.specs.Left.{new_name, new_op}
use Rattle.restriction.specs.Restriction.{left_by, StaysAlike}
use Rattle.restriction.proofs.WriterLemmas.{silent_writer, last_writes, writer_known, last_of, same_after}
use Rattle.reducer.specs.Reduction.{is_dropped, kept_op, is_kept, kept_trace}
use Rattle.reducer.proofs.DroppedReads.InterleavingLemmas.{reduced}
use Rattle.reducer.proofs.DroppedReads.RepeatLemmas.{dropped_repeats}
use Rattle.reducer.proofs.KeptTrace.KeptLemmas.{kept_known, kept_whole, known_kept}

pub same_read : (t : TraceValue) (op : Op) → value_read (new_op (kept_op t) op) ≡ value_read op
same_read t (Read location value origin span) = refl
same_read t (Write location value span) = refl
same_read t (Update location read left origin span) = refl

pub left_dropped : (t : TraceValue) (location : List ℕ) (n : OpName) → is_dropped t n ≡ true → value_left_at t location n ≡ None
left_dropped t location n h =
    let at = dropped_repeats t n h in
    ap (option_and_then (left_by location)) at.second_is ∙ hidden_none (bytes_eq at.location location) None refl

pub kept_alike : (t : TraceValue) → StaysAlike t (kept_op t)
kept_alike t = record {
  known = kept_known t;
  leaves = λ location n h. ap (option_and_then (left_by location)) (kept_whole t n h);
}

-- a dropped read writes nothing, so the last writer is kept
not_dropped : (t : TraceValue) (location : List ℕ) (n : OpName) (d : ℕ) (b : Bool) → is_dropped t n ≡ b → value_left_at t location n ≡ Some d → not b ≡ true
not_dropped t location n d true h e = absurd (let clash : None ≡ Some d = sym (left_dropped t location n h) ∙ e in cc)
not_dropped t location n d false h e = refl

last_kept : (t : TraceValue) (location : List ℕ) (names : List OpName) (w : OpName) (d : ℕ) → IsLast t location names w d → is_kept t w ≡ true
last_kept t location names w d last = known_kept t w (writer_known t location w d last.leaves) ∙ not_dropped t location w d (is_dropped t w) refl last.leaves

pub writer_kept : (t : TraceValue) (location : List ℕ) (names : List OpName) (w : OpName) → last_writer t location names ≡ Some w → is_kept t w ≡ true
writer_kept t location names w e =
    elim (last_of t location names) [
      | inl silent ↦ absurd (let clash : None ≡ Some w = sym (silent_writer t location names silent) ∙ e in cc)
      | inr (u, d, last) ↦ (let same : u ≡ w = same_Some u w (sym (last_writes t location names u d last) ∙ e) in subst (λ v. is_kept t v ≡ true) same (last_kept t location names u d last))
    ]

pub values_alike : (t : TraceValue) → IsTrace t → (location : List ℕ) (names : List OpName) → value_after (kept_trace t) location (reduced t names) ≡ value_after t location names
values_alike t ok location names = (same_after t (kept_trace t) ok (kept_op t) refl refl (kept_alike t) location names (last_kept t location names)).0

pub last_alike : (t : TraceValue) → IsTrace t → (location : List ℕ) (names : List OpName) → last_writer (kept_trace t) location (reduced t names) ≡ option_map (new_name (kept_op t)) (last_writer t location names)
last_alike t ok location names = (same_after t (kept_trace t) ok (kept_op t) refl refl (kept_alike t) location names (last_kept t location names)).1

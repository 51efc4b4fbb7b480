-- What a table holds, process by process.
use Rattle.std.proofs.Common.{◌≡◌, ◌<◌, ◌+◌, ℕ, List, [], map, length, get_or, Bool, true, false, cond, refl, ap, sym, ◌∙◌, arith, inl, inr, subst}
use Rattle.std.specs.Prelude.{Option, Some, None, unwrap_or, ◌==◌, ◌&&◌}
use Rattle.std.specs.HashMap.{get_by}
use Rattle.std.specs.List.{All, slice_get}
use Rattle.std.specs.Option.{option_and_then, option_map}
use Rattle.std.specs.Str.{bytes_eq}
use Rattle.std.proofs.lemmas.Bool.{cases_order}
use Rattle.std.proofs.lemmas.List.{get_or_default, length-map}
use Rattle.std.proofs.lemmas.Option.{get_or_from_slice_get, same_Some, slice_get_within, slice_get-map}
use Rattle.trace_semantics.specs.declared.operation.Op.{Op}
use Rattle.trace_semantics.specs.declared.trace.Process.{Process}
use Rattle.trace_semantics.specs.Operation.{location_of, written_value}
use Rattle.trace_semantics.specs.Trace.{TraceValue}
use Rattle.trace_semantics.proofs.ElementLemmas.{none_in}
use Rattle.trace_semantics.proofs.NameLemmas.{same_bytes}
use Rattle.restriction.specs.Restriction.{left_by}
use Rattle.writer_table.specs.declared.runs.Run.{Run}
use Rattle.writer_table.specs.declared.writer_classes.WriterClasses.{WriterClasses}
use Rattle.writer_table.specs.declared.trace_writers.TraceWriters.{TraceWriters}
use Rattle.writer_table.specs.PlaceTable.{row, HasFirst}
use Rattle.writer_table.specs.Runs.{IsIn}
use Rattle.writer_table.proofs.OrderedLemmas.{up_to_next, up_to_none}
use Rattle.writer_table.specs.WriterClasses.{AreNumbersApart, HasNumber, class_of, class_left}
use Rattle.writer_table.proofs.NumberLemmas.{leaves_by_class}
use Rattle.writer_table.specs.Writers.{HoldsFirst, HoldsWriters, runs_at}

-- what leaves the value at the location has its class
left_class : (classes : WriterClasses) (location : List ℕ) (d : ℕ) (op : Op) (b : Bool) → bytes_eq (location_of op) location ≡ b → cond b (written_value op) None ≡ Some d → class_left classes op ≡ Some (class_of classes location d)
left_class classes location d op true same e = ap (option_map (class_of classes (location_of op))) e ∙ ap (λ l. Some (class_of classes l d)) (same_bytes (location_of op) location same)
left_class classes location d op false same e = absurd (cc)

class_at : (classes : WriterClasses) (location : List ℕ) (d : ℕ) (o : Option Op) → option_and_then (left_by location) o ≡ Some d → option_map (class_left classes) o ≡ Some (Some (class_of classes location d))
class_at classes location d None e = absurd (cc)
class_at classes location d (Some op) e = ap Some (left_class classes location d op (bytes_eq (location_of op) location) refl e)

module _ (processes : List Process) (classes : WriterClasses) where
  pub holds_none : HoldsFirst processes classes [] 0
  holds_none = record { here = λ q k d p location low. absurd (omega (arith, low)); only = λ class q k h. absurd (empty class q k h); ordered = λ class. up_to_none 0 0 }
    where
      empty : (class q k : ℕ) → IsIn (row [] class) q k → ⊥
      empty class q k h = none_in h.0 h.1

  -- the operations of one more process are in the table
  pub holds_next : (old new : List (List Run)) (n : ℕ) (p : Process) → HoldsFirst processes classes old n → n < length processes → get_or processes n p ≡ p → HasFirst old new n (map (class_left classes) p.operations) (length (map (class_left classes) p.operations)) → HoldsFirst processes classes new (n + 1)
  holds_next old new n p so low at more = record { here = here; only = only; ordered = λ class. up_to_next (row new class) n (length (map (class_left classes) p.operations)) (more.ordered class (so.ordered class)) }
    where
      listed : (k d : ℕ) (location : List ℕ) → option_and_then (left_by location) (slice_get p.operations k) ≡ Some d → slice_get (map (class_left classes) p.operations) k ≡ Some (Some (class_of classes location d))
      listed k d location e = slice_get-map (class_left classes) p.operations k ∙ class_at classes location d (slice_get p.operations k) e

      here : (q k d : ℕ) (o : Process) (location : List ℕ) → q < n + 1 → get_or processes q o ≡ o → option_and_then (left_by location) (slice_get o.operations k) ≡ Some d → IsIn (row new (class_of classes location d)) q (k + 1)
      here q k d o location less is e =
          elim (cases_order q n) [
            | inl same ↦ (
                let one : o ≡ p = sym is ∙ ap (λ i. get_or processes i o) same ∙ get_or_default processes n o p low ∙ at in
                let found = listed k d location (subst (λ (x : Process). option_and_then (left_by location) (slice_get x.operations k) ≡ Some d) one e) in
                subst (λ i. IsIn (row new (class_of classes location d)) i (k + 1)) (sym same) (more.here (class_of classes location d) k (slice_get_within (map (class_left classes) p.operations) k (Some (class_of classes location d)) found) found))
            | inr (inl before) ↦ more.kept (class_of classes location d) q (k + 1) (so.here q k d o location before is e)
            | inr (inr after) ↦ absurd (omega (arith, less, after))
          ]

      only : (class q k : ℕ) → IsIn (row new class) q k → (q < n + 1) × ((j : ℕ) × (k ≡ j + 1) × ((o : Process) → get_or processes q o ≡ o → slice_get (map (class_left classes) o.operations) j ≡ Some (Some class)))
      only class q k h =
          elim (more.only class q k h) [
            | inl g ↦ (let old_one = so.only class q k g in (omega (arith, old_one.0), old_one.1))
            | inr (same, (j, e, l, it)) ↦ (
              omega (arith, same),
              (
                j,
                e,
                λ o is. (let one : p ≡ o = sym at ∙ get_or_default processes n p o low ∙ ap (λ i. get_or processes i o) (sym same) ∙ is in
                    subst (λ (x : Process). slice_get (map (class_left classes) x.operations) j ≡ Some (Some class)) one it),
              ),
            )
          ]

-- the whole table
pub holds_writers : (t : TraceValue) (processes : List Process) (writers : TraceWriters) → processes ≡ t.processes → HoldsFirst processes writers.classes writers.table (length processes) → AreNumbersApart writers.classes → All (λ (p : Process). All (HasNumber writers.classes) p.operations) t.processes → HoldsWriters t writers
holds_writers t processes writers same so apart have =
    record {
      here = λ q k d p location low is e. whole.here q k d p location low is e;
      only = λ location value q k h. only (class_of writers.classes location value) q k h;
      alike = λ location d e kind. at location d kind ∙ sym (at location e kind);
      leaves = λ location value q k p is h. leaves location value q k p is (whole.only (class_of writers.classes location value) q (k + 1) h);
      ordered = λ location value. (whole.ordered (class_of writers.classes location value)).ordered;
    }
  where
    whole : HoldsFirst t.processes writers.classes writers.table (length t.processes)
    whole = subst (λ l. HoldsFirst l writers.classes writers.table (length l)) same so

    only : (class q k : ℕ) → IsIn (row writers.table class) q k → (q < length t.processes) × ((j : ℕ) × (k ≡ j + 1) × ((p : Process) → get_or t.processes q p ≡ p → j < length p.operations))
    only class q k h =
        let found = whole.only class q k h in (
          found.0,
          (
            found.1.0,
            found.1.1,
            λ p is. (let inside = slice_get_within (map (class_left writers.classes) p.operations) found.1.0 (Some class) (found.1.2 p is) in
                let count = length-map p.operations (class_left writers.classes) in
                omega (arith, inside, count)),
          ),
        )

    left : (location : List ℕ) (value k : ℕ) (p : Process) (o : Option Op) → slice_get p.operations k ≡ o → All (HasNumber writers.classes) p.operations → option_map (class_left writers.classes) o ≡ Some (Some (class_of writers.classes location value)) →
        (d : ℕ) × (option_and_then (left_by location) o ≡ Some d) × (writers.classes.by_value ≡ true → d ≡ value)
    left location value k p None e all classed = absurd (cc)
    left location value k p (Some op) e all classed =
        let there = subst (HasNumber writers.classes) (get_or_from_slice_get p.operations k op op e) (all k op (slice_get_within p.operations k op e)) in
        leaves_by_class writers.classes location value op apart there (same_Some (class_left writers.classes op) (Some (class_of writers.classes location value)) classed)

    leaves : (location : List ℕ) (value q k : ℕ) (p : Process) → get_or t.processes q p ≡ p → (q < length t.processes) × ((j : ℕ) × (k + 1 ≡ j + 1) × ((o : Process) → get_or t.processes q o ≡ o → slice_get (map (class_left writers.classes) o.operations) j ≡ Some (Some (class_of writers.classes location value)))) →
        (d : ℕ) × (option_and_then (left_by location) (slice_get p.operations k) ≡ Some d) × (writers.classes.by_value ≡ true → d ≡ value)
    leaves location value q k p is (low, (j, e, classed)) =
        let same : j ≡ k = omega (arith, e) in
        let all = subst (λ (o : Process). All (HasNumber writers.classes) o.operations) is (have q p low) in
        left location value k p (slice_get p.operations k) refl all (sym (slice_get-map (class_left writers.classes) p.operations k) ∙ subst (λ i. slice_get (map (class_left writers.classes) p.operations) i ≡ Some (Some (class_of writers.classes location value))) same (classed p is))

    at : (location : List ℕ) (d : ℕ) → writers.classes.by_value ≡ false → runs_at writers location d ≡ row writers.table (unwrap_or (get_by (λ k. bytes_eq location k.0.now && (0 == k.1)) writers.classes.numbers) 0)
    at location d kind = ap (λ b. row writers.table (unwrap_or (get_by (λ k. bytes_eq location k.0.now && (cond b d 0 == k.1)) writers.classes.numbers) 0)) kind

use Rattle.std.proofs.Common.{◌≡◌, ◌≤◌, length, vec_len, arith, rules, ℕ, zero, suc, Bool, true, false, cond, eqb, List, [], ◌∷◌, refl, ap, sym, ◌∙◌, inl, inr}
use Rattle.std.specs.Prelude.{Option, Some, slice_index_or}
use Rattle.std.specs.BTreeMap.{is_at}
use Rattle.std.specs.Cmp.{unsigned_tied}
use Rattle.std.specs.Map.{lookup}
use Rattle.std.specs.Option.{unwrap_or}
use Rattle.std.specs.Ordering.{nat_cmp}
use Rattle.std.proofs.lemmas.Bool.{cases_eq, cond-true, cond-false, eq-eqb, ne_eqb}
use Rattle.lrat_check.proofs.literal_counts.LiteralCounts.put_far.Goals as goal

-- Counts in a table and in a tree, by their places.

-- past the end of the table a count stands in the tree
past_table : (near : List ℕ) (place far : ℕ) → length near ≤ place → slice_index_or near place far ≡ far
past_table [] place far h = refl
past_table (count ∷ near) zero far h = absurd (omega (arith, h))
past_table (count ∷ near) (suc place) far h = past_table near place far (omega (arith, h))

-- what the tree finds by the order of places it finds by their equality
by_place : (place : ℕ) (entries : List (ℕ × ℕ)) → lookup (is_at (nat_cmp place)) entries ≡ lookup (λ other. eqb place other) entries
by_place place entries = λ i. lookup (λ other. unsigned_tied place other i) entries

abbrev found : List (ℕ × ℕ) → ℕ → ℕ
found entries place = unwrap_or (lookup (λ other. eqb place other) entries) 0

shown : (b : Bool) (count : ℕ) (o : Option ℕ) → unwrap_or (cond b (Some count) o) 0 ≡ cond b count (unwrap_or o 0)
shown true count o = refl
shown false count o = refl

changed : (place k count : ℕ) (old new : List (ℕ × ℕ)) → lookup (is_at (nat_cmp k)) new ≡ cond (is_at (nat_cmp place) k) (Some count) (lookup (is_at (nat_cmp k)) old) →
    found new k ≡ cond (eqb place k) count (found old k)
changed place k count old new h =
    ap (λ o. unwrap_or o 0) (sym (by_place k new) ∙ h ∙ (λ i. cond (unsigned_tied place k i) (Some count) (by_place k old i)))
    ∙ shown (eqb place k) count (lookup (λ other. eqb k other) old)

-- a count is put into the tree
put_past : (near : List ℕ) (place k count : ℕ) (old new : List (ℕ × ℕ)) → length near ≤ place →
    lookup (is_at (nat_cmp k)) new ≡ cond (is_at (nat_cmp place) k) (Some count) (lookup (is_at (nat_cmp k)) old) →
    slice_index_or near k (unwrap_or (lookup (λ other. eqb k other) new) 0) ≡ cond (eqb place k) count (slice_index_or near k (unwrap_or (lookup (λ other. eqb k other) old) 0))
put_past near place k count old new past h = ap (slice_index_or near k) (changed place k count old new h) ∙ elim (cases_eq place k) [
  | inl same ↦ (let b = eq-eqb place k same in
      ap (slice_index_or near k) (cond-true (eqb place k) count (found old k) b) ∙ past_table near k count (omega (arith, past, same)) ∙ sym (cond-true (eqb place k) count (slice_index_or near k (found old k)) b))
  | inr apart ↦ (let b = ne_eqb place k apart in
      ap (slice_index_or near k) (cond-false (eqb place k) count (found old k) b) ∙ sym (cond-false (eqb place k) count (slice_index_or near k (found old k)) b))
]

pub returns : goal.returns
returns c = λ k.
    let old = c.args.self.now in
    let long : length old.near.items ≡ vec_len old.near = search rules in
    let past : length old.near.items ≤ c.args.place = omega (arith, long, c.requires) in
    put_past old.near.items c.args.place k c.args.count old.far.entries c.insert.new.self.entries past (c.in_ok-insert.ensures.updates.0 k)

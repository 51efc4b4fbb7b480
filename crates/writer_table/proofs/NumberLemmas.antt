-- Numbers of classes, one more.
use Rattle.std.proofs.Common.{◌≡◌, ◌⊎◌, ◌≤◌, ◌+◌, ℕ, List, Bor, Bool, true, false, cond, refl, ap, sym, ◌∙◌, arith, inl, inr, subst}
use Rattle.std.specs.Prelude.{Option, Some, None, IsSome, unwrap_or, ◌==◌, ◌&&◌}
use Rattle.std.specs.HashMap.{IsEmpty, get_by, hash_map_len}
use Rattle.std.specs.List.{All}
use Rattle.std.specs.Map.{lookup}
use Rattle.std.specs.Option.{option_map}
use Rattle.std.specs.Str.{bytes_eq}
use Rattle.std.proofs.lemmas.Bool.{and_parts, eqb-true}
use Rattle.std.proofs.lemmas.List.Elements.{All-weaker}
use Rattle.std.proofs.lemmas.Option.{same_Some}
use Rattle.trace_semantics.specs.declared.operation.Op.{Op}
use Rattle.trace_semantics.specs.declared.trace.Process.{Process}
use Rattle.trace_semantics.specs.Operation.{location_of, written_value}
use Rattle.trace_semantics.proofs.NameLemmas.{bytes_same, same_bytes}
use Rattle.restriction.specs.Restriction.{left_by}
use Rattle.writer_table.specs.declared.writer_classes.WriterClasses.{WriterClasses}
use Rattle.writer_table.specs.WriterClasses.{AreNumbersApart, HasMoreNumbers, HasNumber, class_left, class_of, number_of}

-- the keys of numbers
abbrev pub Key : Type 0
Key = Bor (List ℕ) × ℕ

abbrev pub same_key : Key → Key → Bool
same_key j k = bytes_eq j.0.now k.0.now && (j.1 == k.1)

some_either : (b : Bool) (n : ℕ) (o : Option ℕ) → IsSome o → IsSome (cond b (Some n) o)
some_either true n o h = refl
some_either false n o h = h

-- the key has this number now, and there is one entry more
module _ (old new : WriterClasses) (key : Key) (number : ℕ) (kind : new.by_value ≡ old.by_value) (updates : (k : Key) → get_by (same_key k) new.numbers ≡ cond (same_key key k) (Some number) (get_by (same_key k) old.numbers))
    (count : number ≡ hash_map_len old.numbers + 1) (long : hash_map_len new.numbers ≡ hash_map_len old.numbers + 1) where
  key_at : List ℕ → ℕ → Key
  key_at l d = (record { ref_ptr = key.0.ref_ptr; now = l }, cond old.by_value d 0)

  is_key : List ℕ → ℕ → Bool
  is_key l d = same_key key (key_at l d)

  at : (l : List ℕ) (d : ℕ) → number_of new l d ≡ cond (is_key l d) (Some number) (number_of old l d)
  unfolding key_at is_key
  at l d = ap (λ b. get_by (λ k. bytes_eq l k.0.now && (cond b d 0 == k.1)) new.numbers) kind ∙ updates (key_at l d)

  -- a number is the new one, or an old one
  new_or_old : (l : List ℕ) (d n : ℕ) → number_of new l d ≡ Some n → ((is_key l d ≡ true) × (number ≡ n)) ⊎ (number_of old l d ≡ Some n)
  new_or_old l d n h = go (is_key l d) refl (sym (at l d) ∙ h)
    where
      go : (b : Bool) → is_key l d ≡ b → cond b (Some number) (number_of old l d) ≡ Some n → ((is_key l d ≡ true) × (number ≡ n)) ⊎ (number_of old l d ≡ Some n)
      go true e is = inl (e, same_Some number n is)
      go false e is = inr is

  apart_now : AreNumbersApart old → AreNumbersApart new
  unfolding is_key key_at
  apart_now so = record { counted = λ l d n h. counted l d n (new_or_old l d n h); apart = λ l m d e n h g. apart l m d e n (new_or_old l d n h) (new_or_old m e n g) }
    where
      counted : (l : List ℕ) (d n : ℕ) → ((is_key l d ≡ true) × (number ≡ n)) ⊎ (number_of old l d ≡ Some n) → (1 ≤ n) × (n ≤ hash_map_len new.numbers)
      counted l d n (inl (is, same)) = (omega (arith, same, count), omega (arith, same, count, long))
      counted l d n (inr h) = (let bounds = so.counted l d n h in let low = bounds.0 in let high = bounds.1 in (low, omega (arith, high, long)))

      lone : (l : List ℕ) (d n : ℕ) → number ≡ n → number_of old l d ≡ Some n → ⊥
      lone l d n same h = (let high = (so.counted l d n h).1 in omega (arith, high, same, count))

      valued : (d e : ℕ) → cond old.by_value d 0 ≡ cond old.by_value e 0 → new.by_value ≡ true → d ≡ e
      valued d e same is = subst (λ b. cond b d 0 ≡ cond b e 0) (sym kind ∙ is) same

      apart : (l m : List ℕ) (d e n : ℕ) → ((is_key l d ≡ true) × (number ≡ n)) ⊎ (number_of old l d ≡ Some n) → ((is_key m e ≡ true) × (number ≡ n)) ⊎ (number_of old m e ≡ Some n) → (l ≡ m) × (new.by_value ≡ true → d ≡ e)
      apart l m d e n (inl (is, same)) (inl (too, alike)) =
          let one = and_parts (bytes_eq key.0.now l) (key.1 == cond old.by_value d 0) is in
          let other = and_parts (bytes_eq key.0.now m) (key.1 == cond old.by_value e 0) too in
          (sym (same_bytes key.0.now l one.0) ∙ same_bytes key.0.now m other.0, valued d e (sym (eqb-true key.1 (cond old.by_value d 0) one.1) ∙ eqb-true key.1 (cond old.by_value e 0) other.1))
      apart l m d e n (inl (is, same)) (inr h) = absurd (lone m e n same h)
      apart l m d e n (inr h) (inl (is, same)) = absurd (lone l d n same h)
      apart l m d e n (inr h) (inr g) = (let both = so.apart l m d e n h g in (both.0, λ is. both.1 (sym kind ∙ is)))

  pub one_more : HasMoreNumbers old new
  one_more = record {
    by_value = kind;
    kept = λ l d h. subst (λ o. IsSome o) (sym (at l d)) (some_either (is_key l d) number (number_of old l d) h);
    apart = apart_now;
  }

pub more_then : (a b c : WriterClasses) → HasMoreNumbers a b → HasMoreNumbers b c → HasMoreNumbers a c
more_then a b c first second = record {
  by_value = second.by_value ∙ first.by_value;
  kept = λ l d h. second.kept l d (first.kept l d h);
  apart = λ so. second.apart (first.apart so);
}

pub has_still : (a b : WriterClasses) → HasMoreNumbers a b → (op : Op) → HasNumber a op → HasNumber b op
has_still a b more op has d writes = more.kept (location_of op) d (has d writes)

pub all_have_still : (a b : WriterClasses) → HasMoreNumbers a b → (p : Process) → All (HasNumber a) p.operations → All (HasNumber b) p.operations
all_have_still a b more p all = All-weaker (HasNumber a) (HasNumber b) (has_still a b more) p.operations all

-- no numbers
pub none_apart : (classes : WriterClasses) → IsEmpty classes.numbers → AreNumbersApart classes
none_apart classes none = record { counted = λ l d n h. absurd (never l d n h); apart = λ l m d e n h g. absurd (never l d n h) }
  where
    never : (l : List ℕ) (d n : ℕ) → number_of classes l d ≡ Some n → ⊥
    never l d n h = (let clash : None ≡ Some n = sym (ap (lookup (λ k. bytes_eq l k.0.now && (cond classes.by_value d 0 == k.1))) none) ∙ h in cc)

-- what has the class of a location and a value leaves this value there
pub leaves_by_class : (classes : WriterClasses) (location : List ℕ) (value : ℕ) (op : Op) → AreNumbersApart classes → HasNumber classes op → class_left classes op ≡ Some (class_of classes location value) → (d : ℕ) × (left_by location op ≡ Some d) × (classes.by_value ≡ true → d ≡ value)
leaves_by_class classes location value op apart has classed = writes (written_value op) refl classed
  where
    there : (d : ℕ) → written_value op ≡ Some d → location_of op ≡ location → left_by location op ≡ Some d
    there d e same = ap (λ b. cond b (written_value op) None) (bytes_same (location_of op) location same) ∙ e

    numbered : (d : ℕ) → written_value op ≡ Some d → (a b : Option ℕ) → number_of classes (location_of op) d ≡ a → number_of classes location value ≡ b → IsSome a → unwrap_or a 0 ≡ unwrap_or b 0 → (d : ℕ) × (left_by location op ≡ Some d) × (classes.by_value ≡ true → d ≡ value)
    numbered d e None b is at some same = absurd (cc)
    numbered d e (Some n) None is at some same = absurd (let low = (apart.counted (location_of op) d n is).0 in omega (arith, low, same))
    numbered d e (Some n) (Some m) is at some same = (let both = apart.apart (location_of op) location d value n is (at ∙ ap Some (sym same)) in (d, there d e both.0, both.1))

    writes : (w : Option ℕ) → written_value op ≡ w → option_map (class_of classes (location_of op)) w ≡ Some (class_of classes location value) → (d : ℕ) × (left_by location op ≡ Some d) × (classes.by_value ≡ true → d ≡ value)
    writes None e h = absurd (cc)
    writes (Some d) e h = numbered d e (number_of classes (location_of op) d) (number_of classes location value) refl refl (has d e) (same_Some (class_of classes (location_of op) d) (class_of classes location value) h)

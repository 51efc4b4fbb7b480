-- The bytes of a name.
use Rattle.std.proofs.Common.{◌≡◌, ℕ, List, [], ◌∷◌, ◌++◌, get_or, Bool, true, false, eqb, refl, ap, sym, ◌∙◌}
use Rattle.std.specs.List.{list_all, list_any}
use Rattle.std.proofs.lemmas.Bool.{and_parts, or_from, ne_eqb, false≢true}
use Rattle.trace_semantics.specs.Names.{is_name, may_begin_name, may_be_in_name}

-- a byte that may not stand in a name is no byte of one
pub apart : (b x : ℕ) → may_be_in_name b ≡ false → may_be_in_name x ≡ true → eqb x b ≡ false
apart b x not_one h = ne_eqb x b (λ (e : x ≡ b). false≢true (sym not_one ∙ sym (ap may_be_in_name e) ∙ h))

pub none_in_name : (q : ℕ → Bool) → ((x : ℕ) → may_be_in_name x ≡ true → q x ≡ false) → (p : List ℕ) → list_all may_be_in_name p ≡ true → list_any q p ≡ false
none_in_name q differs [] h = refl
none_in_name q differs (x ∷ xs) h =
    let parts = and_parts (may_be_in_name x) (list_all may_be_in_name xs) h in
    or_from (q x) (list_any q xs) (differs x parts.0) (none_in_name q differs xs parts.1)

pub name_bytes : (p : List ℕ) → is_name p ≡ true → list_all may_be_in_name p ≡ true
name_bytes p h = (and_parts _ (list_all may_be_in_name p) h).1

-- a written name begins no comment
pub begins_no_comment : (p d : List ℕ) → is_name p ≡ true → eqb (get_or (p ++ d) 0 0) 35 ≡ false
begins_no_comment [] d h = absurd (false≢true h)
begins_no_comment (x ∷ xs) d h =
    let front = and_parts _ (list_all may_be_in_name (x ∷ xs)) h in
    let first = (and_parts _ (may_begin_name x) front.0).1 in
    ne_eqb x 35 (λ (e : x ≡ 35). false≢true (sym (ap may_begin_name e) ∙ first))

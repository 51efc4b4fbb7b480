-- The laws of the first fault.
use Rattle.std.proofs.Common.{◌≡◌, ◌⊎◌, ℕ, ◌+◌, List, [], ◌∷◌, ◌++◌, length, refl, ap, sym, ◌∙◌, append_assoc, append-nil, length-append, arith, inl, inr, subst}
use Rattle.std.specs.Prelude.{Option, Some, None}
use Rattle.text_lines.specs.FirstFault.{IsFaultless, IsFirstFault}

-- two ways to pick an element of a list: the same place, or one before the other
pub compared : {A : Type 0} (b c : List A) (x y : A) (a d : List A) → b ++ x ∷ a ≡ c ++ y ∷ d → ((b ≡ c) × (x ≡ y)) ⊎ (((m : List A) × (c ≡ b ++ x ∷ m)) ⊎ ((m : List A) × (b ≡ c ++ y ∷ m)))
compared [] [] x y a d e = inl (refl, (cc))
compared [] (z ∷ c) x y a d e = inr (inl (c, (cc)))
compared (z ∷ b) [] x y a d e = inr (inr (b, (cc)))
compared (z ∷ b) (w ∷ c) x y a d e =
    let heads : z ≡ w = cc in
    let tails : b ++ x ∷ a ≡ c ++ y ∷ d = cc in
    elim (compared b c x y a d tails) [
      | inl same ↦ inl (cc, same.1)
      | inr (inl (m, f)) ↦ inr (inl (m, (cc)))
      | inr (inr (m, f)) ↦ inr (inr (m, (cc)))
    ]

pub none_is_some : {F : Type 0} (f : F) → None ≡ Some f → ⊥
none_is_some f e = cc

-- a first fault does not stand before another
never_before : {A F : Type 0} (fault : List A → A → Option F) (b c m : List A) (x : A) (f : F) → fault b x ≡ Some f → IsFaultless fault c → c ≡ b ++ x ∷ m → ⊥
never_before fault b c m x f h ok e = none_is_some f (sym (ok b x m e) ∙ h)

pub one_first : {A F : Type 0} (fault : List A → A → Option F) (items : List A) (p q : ℕ) (f g : F) → IsFirstFault fault items p f → IsFirstFault fault items q g → (p ≡ q) × (f ≡ g)
one_first fault items p q f g h k =
    elim (compared h.before k.before h.item k.item h.after k.after (sym h.parts ∙ k.parts)) [
      | inl (bs, xs) ↦ (h.counted ∙ ap (λ l. length l + 1) bs ∙ sym k.counted, (let s : Some f ≡ Some g = sym h.faulty ∙ (λ i. fault (bs i) (xs i)) ∙ k.faulty in cc))
      | inr (inl (m, e)) ↦ absurd (never_before fault h.before k.before m h.item f h.faulty k.first e)
      | inr (inr (m, e)) ↦ absurd (never_before fault k.before h.before m k.item g k.faulty h.first e)
    ]

-- one more item without a fault
pub faultless_push : {A F : Type 0} (fault : List A → A → Option F) (done : List A) (x : A) → IsFaultless fault done → fault done x ≡ None → IsFaultless fault (done ++ x ∷ [])
faultless_push fault done x ok none b y a e =
    elim (compared done b x y [] a e) [
      | inl (bs, xs) ↦ (λ i. fault (sym bs i) (sym xs i)) ∙ none
      | inr (inl (m, f)) ↦ absurd (let l : length (done ++ x ∷ []) ≡ length ((done ++ x ∷ m) ++ y ∷ a) = ap length (e ∙ ap (λ l. l ++ y ∷ a) f) in omega (arith, simp length-append at l))
      | inr (inr (m, f)) ↦ ok b y m f
    ]

pub faultless_nil : {A F : Type 0} (fault : List A → A → Option F) → IsFaultless fault []
faultless_nil fault [] y a e = absurd (cc)
faultless_nil fault (z ∷ b) y a e = absurd (cc)

-- no fault, or a first one
abbrev pub IsEither : {A F : Type 0} → (List A → A → Option F) → List A → Type 0
IsEither {A} {F} fault items = IsFaultless fault items ⊎ ((place : ℕ) × (found : F) × IsFirstFault fault items place found)

-- at the next item: a fault, or none and then the rest
from_here : {A F : Type 0} (fault : List A → A → Option F) (done : List A) (x : A) (rest : List A) (o : Option F) → fault done x ≡ o → IsFaultless fault done → (fault done x ≡ None → IsEither fault (done ++ x ∷ rest)) → IsEither fault (done ++ x ∷ rest)
from_here fault done x rest None e ok next = next e
from_here fault done x rest (Some f) e ok next = inr (length done + 1, f, record { before = done; item = x; after = rest; parts = refl; counted = refl; faulty = e; first = ok })

from_front : {A F : Type 0} (fault : List A → A → Option F) (done rest : List A) → IsFaultless fault done → IsEither fault (done ++ rest)
from_front fault done [] ok = inl (subst (λ l. IsFaultless fault l) (sym (append-nil done)) ok)
from_front fault done (x ∷ rest) ok =
    from_here fault done x rest (fault done x) refl ok (λ none.
    subst (λ l. IsEither fault l) (append_assoc done (x ∷ []) rest) (from_front fault (done ++ x ∷ []) rest (faultless_push fault done x ok none)))

pub either : {A F : Type 0} (fault : List A → A → Option F) (items : List A) → IsEither fault items
either fault items = from_front fault [] items (faultless_nil fault)

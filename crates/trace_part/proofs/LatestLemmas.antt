-- The last writers that stand before a reader hide what all that do hide.
use Rattle.std.proofs.Common.{◌≡◌, ◌⊎◌, ◌<◌, ◌≤◌, ◌+◌, ℕ, zero, suc, List, [], ◌∷◌, ◌++◌, length, take, get_or, Bool, true, false, cond, not, ◌==◌, ◌&&◌, ◌||◌, refl, ap, sym, ◌∙◌, arith, inl, inr, subst, append-nil}
use Rattle.std.specs.Prelude.{Option, Some, None, nat_le}
use Rattle.std.specs.List.{Contains, list_any, list_all, slice_get}
use Rattle.std.proofs.lemmas.Bool.{and_parts, and_from, leb-true, eqb-true}
use Rattle.std.proofs.lemmas.List.{take_more, get_or_default}
use Rattle.std.proofs.lemmas.List.Elements.{Contains-get_or, Contains-append_cases, Contains-append_left, Contains-append_right}
use Rattle.std.proofs.lemmas.Option.{same_Some, slice_get_read}
use Rattle.text_lines.proofs.BoolLemmas.{same_truth}
use Rattle.trace_semantics.specs.Judgement.{is_held}
use Rattle.trace_semantics.proofs.ElementLemmas.{none_in, cases_in, head_in, tail_in, some_passes, passes_some}
use Rattle.forced_order.specs.declared.numbered.OperationNumber.{OperationNumber}
use Rattle.forced_order.specs.Rows.{OrderValue, stands_by}
use Rattle.trace_part.specs.declared.writers.ChosenWriter.{ChosenWriter}
use Rattle.trace_part.specs.Latest.{IsForwardAmong, IsCovered, AreLatest, is_source_by, follows_by, is_latest, latest_of}
use Rattle.trace_part.specs.Rows.{is_same, row_is_source}

-- the writer at k takes the place of x
abbrev pub IsFollowed : OrderValue → List ChosenWriter → ℕ → OperationNumber → ChosenWriter → Type 0
IsFollowed order writers k reader x = (z : ChosenWriter) × (slice_get writers k ≡ Some z) × (z.name.process ≡ x.name.process) × (x.name.place ≤ z.name.place) × (stands_by order z.name reader ≡ true)

-- the latest of the first k writers, but for one whose place the next takes
pub record AreLatestOf (order : OrderValue) (writers : List ChosenWriter) (k : ℕ) (reader : OperationNumber) (latest : List OperationNumber) : Type 0 where
  pub among : (y : OperationNumber) → Contains latest y → (x : ChosenWriter) × Contains writers x × (x.name ≡ y) × (stands_by order y reader ≡ true)
  pub cover : (x : ChosenWriter) → Contains (take k writers) x → stands_by order x.name reader ≡ true → IsCovered latest x ⊎ IsFollowed order writers k reader x

pub none_latest : (order : OrderValue) (writers : List ChosenWriter) (reader : OperationNumber) (latest : List OperationNumber) → latest ≡ [] → AreLatestOf order writers 0 reader latest
none_latest order writers reader latest e = record {
  among = λ y c. absurd (none_in y (subst (λ l. Contains l y) e c));
  cover = λ x c h. absurd (none_in x c);
}

in_take : (writers : List ChosenWriter) (k : ℕ) (w x : ChosenWriter) → k < length writers → w ≡ get_or writers k w → Contains (take (k + 1) writers) x → Contains (take k writers) x ⊎ (w ≡ x)
in_take writers k w x l at c =
    elim (Contains-append_cases (take k writers) (w ∷ []) x (subst (λ ws. Contains ws x) (take_more writers k w l ∙ ap (λ y. take k writers ++ y ∷ []) (sym at)) c)) [
      | inl d ↦ inl d
      | inr d ↦ elim (cases_in w [] x d) [
        | inl e ↦ inr e
        | inr f ↦ absurd (none_in x f)
      ]
    ]

-- what follows a writer is of its process, no earlier, and stands before the reader
follower : (order : OrderValue) (reader : OperationNumber) (w : ChosenWriter) (next : Option ChosenWriter) → follows_by order reader w next ≡ true → (z : ChosenWriter) × (next ≡ Some z) × (z.name.process ≡ w.name.process) × (w.name.place ≤ z.name.place) × (stands_by order z.name reader ≡ true)
follower order reader w None h = absurd (cc)
follower order reader w (Some z) h =
    let parts = and_parts (z.name.process == w.name.process) (nat_le w.name.place z.name.place && stands_by order z.name reader) h in
    let rest = and_parts (nat_le w.name.place z.name.place) (stands_by order z.name reader) parts.1 in
    (z, refl, eqb-true z.name.process w.name.process parts.0, leb-true w.name.place z.name.place rest.0, rest.1)

module _ (order : OrderValue) (writers : List ChosenWriter) (reader : OperationNumber) (k : ℕ) (w : ChosenWriter) (l : k < length writers) (at : w ≡ get_or writers k w) (here : slice_get writers k ≡ Some w) where
  -- what covers w covers what w follows
  over : (latest : List OperationNumber) (x : ChosenWriter) → IsFollowed order writers k reader x → (z : ChosenWriter) × (z ≡ w) × (z.name.process ≡ x.name.process) × (x.name.place ≤ z.name.place)
  over latest x (z, e, p, q, s) = (z, same_Some z w (sym e ∙ here), p, q)

  by_w : (latest : List OperationNumber) (x : ChosenWriter) → IsFollowed order writers k reader x → IsCovered latest w → IsCovered latest x
  by_w latest x f (y, c, p, q) =
      let at_w = over latest x f in
      let process : at_w.0.name.process ≡ w.name.process = ap (λ (v : ChosenWriter). v.name.process) at_w.1 in
      let place : at_w.0.name.place ≡ w.name.place = ap (λ (v : ChosenWriter). v.name.place) at_w.1 in
      (y, c, p ∙ sym process ∙ at_w.2, omega (arith, q, place, at_w.3))

  by_next : (latest : List OperationNumber) (x : ChosenWriter) → IsFollowed order writers k reader x → IsFollowed order writers (k + 1) reader w → IsFollowed order writers (k + 1) reader x
  by_next latest x f (y, e, p, q, s) =
      let at_w = over latest x f in
      let process : at_w.0.name.process ≡ w.name.process = ap (λ (v : ChosenWriter). v.name.process) at_w.1 in
      let place : at_w.0.name.place ≡ w.name.place = ap (λ (v : ChosenWriter). v.name.place) at_w.1 in
      (y, e, p ∙ sym process ∙ at_w.2, omega (arith, q, place, at_w.3), s)

  -- the writer is among the latest
  pub one_latest : (old new : List OperationNumber) → AreLatestOf order writers k reader old → is_latest order reader w (slice_get writers (k + 1)) ≡ true → new ≡ old ++ w.name ∷ [] → AreLatestOf order writers (k + 1) reader new
  one_latest old new done h e = record {
    among = λ y c. elim (Contains-append_cases old (w.name ∷ []) y (subst (λ ns. Contains ns y) e c)) [
      | inl d ↦ done.among y d
      | inr d ↦ elim (cases_in w.name [] y d) [
        | inl same ↦ (w, subst (λ v. Contains writers v) (sym at) (Contains-get_or writers k w l), same, subst (λ v. stands_by order v reader ≡ true) same stands)
        | inr f ↦ absurd (none_in y f)
      ]
    ];
    cover = λ x c s. elim (in_take writers k w x l at c) [
      | inl d ↦ elim (done.cover x d s) [
        | inl covered ↦ inl (wider x covered)
        | inr followed ↦ inl (by_w new x followed itself)
      ]
      | inr same ↦ inl (subst (λ v. IsCovered new v) same itself)
    ];
  }
    where
      stands : stands_by order w.name reader ≡ true
      stands = (and_parts (stands_by order w.name reader) (not (follows_by order reader w (slice_get writers (k + 1)))) h).0

      itself : IsCovered new w
      itself = (w.name, subst (λ ns. Contains ns w.name) (sym e) (Contains-append_right old (w.name ∷ []) w.name (head_in w.name [])), refl, omega arith)

      wider : (x : ChosenWriter) → IsCovered old x → IsCovered new x
      wider x (y, c, p, q) = (y, subst (λ ns. Contains ns y) (sym e) (Contains-append_left old (w.name ∷ []) y c), p, q)

  -- the writer does not stand before the reader, or the next one takes its place
  pub no_latest : (old new : List OperationNumber) → AreLatestOf order writers k reader old → is_latest order reader w (slice_get writers (k + 1)) ≡ false → new ≡ old → AreLatestOf order writers (k + 1) reader new
  no_latest old new done h e = record {
    among = λ y c. done.among y (subst (λ ns. Contains ns y) e c);
    cover = λ x c s. elim (in_take writers k w x l at c) [
      | inl d ↦ elim (done.cover x d s) [
        | inl covered ↦ inl (subst (λ ns. IsCovered ns x) (sym e) covered)
        | inr followed ↦ inr (by_next new x followed (next (at_w x followed)))
      ]
      | inr same ↦ inr (subst (λ v. IsFollowed order writers (k + 1) reader v) same (next (subst (λ (v : ChosenWriter). stands_by order v.name reader ≡ true) (sym same) s)))
    ];
  }
    where
      at_w : (x : ChosenWriter) → IsFollowed order writers k reader x → stands_by order w.name reader ≡ true
      at_w x (z, f, p, q, s) = subst (λ (v : ChosenWriter). stands_by order v.name reader ≡ true) (same_Some z w (sym f ∙ here)) s

      followed : (b c : Bool) → (b && not c) ≡ false → b ≡ true → c ≡ true
      followed b true f g = refl
      followed true false f g = absurd (cc)
      followed false false f g = absurd (cc)

      next : stands_by order w.name reader ≡ true → IsFollowed order writers (k + 1) reader w
      next s = follower order reader w (slice_get writers (k + 1)) (followed (stands_by order w.name reader) (follows_by order reader w (slice_get writers (k + 1))) h s)

-- one writer more
more_latest : (order : OrderValue) (writers : List ChosenWriter) (reader : OperationNumber) (k : ℕ) (w : ChosenWriter) (next : Option ChosenWriter) (old new : List OperationNumber) → k < length writers → w ≡ get_or writers k w → next ≡ slice_get writers (k + 1) → AreLatestOf order writers k reader old →
    new ≡ old ++ latest_of order reader w next → AreLatestOf order writers (k + 1) reader new
more_latest order writers reader k w next old new l at e done f = by (is_latest order reader w next) refl f
  where
    here : slice_get writers k ≡ Some w
    here = slice_get_read writers (length writers) k w refl l at

    by : (b : Bool) → is_latest order reader w next ≡ b → new ≡ old ++ cond b (w.name ∷ []) [] → AreLatestOf order writers (k + 1) reader new
    by true h g = one_latest order writers reader k w l at here old new done (ap (is_latest order reader w) (sym e) ∙ h) g
    by false h g = no_latest order writers reader k w l at here old new done (ap (is_latest order reader w) (sym e) ∙ h) (g ∙ append-nil old)

-- the same of the writer at k, where the list has one
pub more_latest_at : (order : OrderValue) (writers : List ChosenWriter) (reader : OperationNumber) (k : ℕ) (d : ChosenWriter) (next : Option ChosenWriter) (old new : List OperationNumber) → k < length writers → next ≡ slice_get writers (k + 1) → AreLatestOf order writers k reader old →
    new ≡ old ++ latest_of order reader (get_or writers k d) next → AreLatestOf order writers (k + 1) reader new
more_latest_at order writers reader k d next old new l e done f =
    more_latest order writers reader k (get_or writers k d) next old new l (get_or_default writers k d (get_or writers k d) l) e done f

past : (writers : List ChosenWriter) (k : ℕ) → length writers ≤ k → slice_get writers k ≡ None
past [] k l = refl
past (w ∷ writers) zero l = absurd (omega (arith, l))
past (w ∷ writers) (suc k) l = past writers k (omega (arith, l))

whole : (writers : List ChosenWriter) (k : ℕ) → length writers ≤ k → take k writers ≡ writers
whole [] zero l = refl
whole [] (suc k) l = refl
whole (w ∷ writers) zero l = absurd (omega (arith, l))
whole (w ∷ writers) (suc k) l = ap (λ ws. w ∷ ws) (whole writers k (omega (arith, l)))

-- behind the last writer none follows
pub all_latest : (order : OrderValue) (writers : List ChosenWriter) (k : ℕ) (reader : OperationNumber) (latest : List OperationNumber) → length writers ≤ k → AreLatestOf order writers k reader latest → AreLatest order writers reader latest
all_latest order writers k reader latest l done = record {
  among = done.among;
  cover = λ x c s. elim (done.cover x (subst (λ ws. Contains ws x) (sym (whole writers k l)) c) s) [
    | inl covered ↦ covered
    | inr (z, e, p, q, t) ↦ absurd (let clash : None ≡ Some z = sym (past writers k l) ∙ e in cc)
  ];
}

-- what the latest hide
module _ (order : OrderValue) (writers : List ChosenWriter) (forward : IsForwardAmong order writers) (reader : OperationNumber) (latest : List OperationNumber) (given : AreLatest order writers reader latest) where
  hidden_alike : (w : ChosenWriter) → Contains writers w → list_any (stands_by order w.name) latest ≡ list_any (λ (x : ChosenWriter). stands_by order w.name x.name && stands_by order x.name reader) writers
  hidden_alike w c =
      same_truth (list_any (stands_by order w.name) latest) (list_any (λ (x : ChosenWriter). stands_by order w.name x.name && stands_by order x.name reader) writers)
      (λ h. (
      let y = some_passes (stands_by order w.name) latest h in
      let x = given.among y.0 y.1 in
      passes_some (λ (v : ChosenWriter). stands_by order w.name v.name && stands_by order v.name reader) writers x.0 x.1
      (and_from (stands_by order w.name x.0.name) (stands_by order x.0.name reader) (subst (λ v. stands_by order w.name v ≡ true) (sym x.2) y.2) (subst (λ v. stands_by order v reader ≡ true) (sym x.2) x.3))))
      (λ h. (
      let x = some_passes (λ (v : ChosenWriter). stands_by order w.name v.name && stands_by order v.name reader) writers h in
      let both = and_parts (stands_by order w.name x.0.name) (stands_by order x.0.name reader) x.2 in
      let y = given.cover x.0 x.1 both.1 in
      let z = given.among y.0 y.1 in
      let process : x.0.name.process ≡ z.0.name.process = sym y.2 ∙ sym (ap (λ (v : OperationNumber). v.process) z.2) in
      let place : z.0.name.place ≡ y.0.place = ap (λ (v : OperationNumber). v.place) z.2 in
      passes_some (stands_by order w.name) latest y.0 y.1
      (subst (λ v. stands_by order w.name v ≡ true) z.2 (forward w x.0 z.0 c x.1 z.1 process (omega (arith, y.3, place)) both.0))))

  pub sources_alike : (d : ℕ) (rest : List ChosenWriter) → ((w : ChosenWriter) → Contains rest w → Contains writers w) → list_all (λ (w : ChosenWriter). w.chosen || not (is_source_by order latest reader d w)) rest ≡ list_all (λ (w : ChosenWriter). w.chosen || not (row_is_source order writers reader d w)) rest
  sources_alike d [] within = refl
  sources_alike d (w ∷ rest) within = λ i. (w.chosen || not (is_held w.value d && (not (is_same w.name reader) && (not (stands_by order reader w.name) && not (hidden_alike w (within w (head_in w rest)) i))))) && sources_alike d rest (λ v c. within v (tail_in w rest v c)) i

-- In a legal schedule a clause holds that bars each source of a reading operation, or each last writer of a location.
use Rattle.std.proofs.Common.{◌≡◌, ◌⊎◌, ℕ, List, [], ◌∷◌, ◌++◌, Bool, true, false, cond, refl, ap, sym, ◌∙◌, inl, inr, subst, append_assoc}
use Rattle.std.specs.Prelude.{◌≢◌, Option, Some, None, IsSome, is_some}
use Rattle.std.specs.List.{Contains}
use Rattle.std.specs.Option.{option_and_then}
use Rattle.std.specs.Str.{bytes_eq}
use Rattle.std.proofs.lemmas.List.{append-nil}
use Rattle.std.proofs.lemmas.List.Elements.{Contains-append_left, Contains-append_cases}
use Rattle.std.proofs.lemmas.Option.{same_Some}
use Rattle.trace_semantics.specs.declared.operation.Op.{Op}
use Rattle.trace_semantics.specs.declared.operation.OpName.{OpName}
use Rattle.trace_semantics.specs.declared.operation.Origin.{Origin}
use Rattle.trace_semantics.specs.declared.operation.Origin.TheVariants.{Any, Initial, Operation}
use Rattle.trace_semantics.specs.Interleaving.{StandsBefore, IsInterleaving}
use Rattle.trace_semantics.specs.Legal.{ComesFrom, IsLegal}
use Rattle.trace_semantics.specs.Operation.{location_of, value_read, origin_of}
use Rattle.trace_semantics.specs.Trace.{TraceValue, operation_at, value_of}
use Rattle.trace_semantics.specs.ValueAfter.{value_left_at, value_after, last_writer}
use Rattle.trace_semantics.proofs.ElementLemmas.{placed, cases_in, in_middle}
use Rattle.trace_semantics.proofs.NameLemmas.{same_bytes, some_value}
use Rattle.trace_semantics.proofs.OrderLemmas.{stands_behind, stands_ahead}
use Rattle.restriction.specs.LastWriter.{AreSilent, IsLast}
use Rattle.restriction.proofs.StandLemmas.{stands_in, stands_front, stands_back, stands_either, stands_over}
use Rattle.restriction.proofs.WriterLemmas.{writer_known, last_of, silent_value, silent_writer, last_leaves, last_writes}
use Rattle.order_reasons.specs.Orders.{HoldsIn}
use Rattle.order_reasons.specs.Reasons.{value_read_at, IsWitness}
use Rattle.order_reasons.specs.Sources.{ValueSource, LeftBy, InitialAt, AllowsWriter, AllowsInitial, IsBarred, Hidden, Behind, Apart, IsInitialBarred, BarsSources, IsLateWitness, IsLastBarred, BarsLastWriters, IsLostFinal}
use Rattle.order_reasons.proofs.OrderReasons.{strictly_up, apart_by, said, before_up, up_before, either}

-- what reads a value at a location is an operation of the trace that works there
pub record ReadsThere (t : TraceValue) (location : List ℕ) (x : OpName) (e : ℕ) : Type 0 where
  pub op : Op
  pub known : operation_at t x ≡ Some op
  pub there : location_of op ≡ location
  pub value : value_read op ≡ Some e

abbrev read_by : List ℕ → Op → Option ℕ
read_by location op = cond (bytes_eq (location_of op) location) (value_read op) None

pub reads_there : (t : TraceValue) (location : List ℕ) (x : OpName) (e : ℕ) → value_read_at t location x ≡ Some e → ReadsThere t location x e
reads_there t location x e h = at (operation_at t x) refl h
  where
    by : (op : Op) (b : Bool) → operation_at t x ≡ Some op → bytes_eq (location_of op) location ≡ b → cond b (value_read op) None ≡ Some e → ReadsThere t location x e
    by op true k same v = record { op = op; known = k; there = same_bytes (location_of op) location same; value = v }
    by op false k same v = absurd (cc)

    at : (o : Option Op) → operation_at t x ≡ o → option_and_then (read_by location) o ≡ Some e → ReadsThere t location x e
    at None k v = absurd (cc)
    at (Some op) k v = by op (bytes_eq (location_of op) location) k refl v

pub writer_is_known : (t : TraceValue) (location : List ℕ) (x : OpName) → IsSome (value_left_at t location x) → IsSome (operation_at t x)
writer_is_known t location x h = let v = some_value (value_left_at t location x) h in writer_known t location x v.0 v.1

pub witness_known : (t : TraceValue) (location : List ℕ) (d : ℕ) (x : OpName) → IsWitness t location d x → IsSome (operation_at t x)
witness_known t location d x (inl h) = writer_is_known t location x h
witness_known t location d x (inr (e, h, other)) = ap is_some (reads_there t location x e h).known

pub late_witness_known : (t : TraceValue) (location : List ℕ) (x : OpName) → IsLateWitness t location x → IsSome (operation_at t x)
late_witness_known t location x (inl h) = writer_is_known t location x h
late_witness_known t location x (inr (e, d, h, final, other)) = ap is_some (reads_there t location x e h).known

module _ (t : TraceValue) (names : List OpName) (legal : IsLegal t names) (clause : List (OpName × OpName)) where
  abbrev pub given : IsInterleaving t names
  given = legal.interleaving

  pub not_silent : (location : List ℕ) (x : OpName) → IsSome (value_left_at t location x) → value_left_at t location x ≡ None → ⊥
  not_silent location x h e = let clash : true ≡ false = sym h ∙ ap is_some e in cc

  -- what an operation reads is what its location holds before it
  held : (location : List ℕ) (x : OpName) (e : ℕ) (before after : List OpName) → names ≡ before ++ x ∷ after → value_read_at t location x ≡ Some e → value_after t location before ≡ Some e
  held location x e before after parts h =
      let at = reads_there t location x e h in
      ap (λ l. value_after t l before) (sym at.there) ∙ (legal.reads before x after at.op parts at.known).value e at.value

  -- after the last writer of d no witness against d stands
  none_behind : (location : List ℕ) (d : ℕ) (prefix suffix : List OpName) (w x : OpName) → names ≡ prefix ++ suffix → (last : IsLast t location prefix w d) → Contains last.back x → IsWitness t location d x → ⊥
  none_behind location d prefix suffix w x e last c (inl writes) = not_silent location x writes (last.silent x c)
  none_behind location d prefix suffix w x e last c (inr (v, reads, other)) =
      let at = placed last.back x c in
      let parts : names ≡ (last.front ++ w ∷ at.front) ++ x ∷ (at.back ++ suffix) =
      e ∙ ap (λ l. l ++ suffix) (last.parts ∙ ap (λ l. last.front ++ w ∷ l) at.parts ∙ sym (append_assoc last.front (w ∷ at.front) (x ∷ at.back))) ∙ append_assoc (last.front ++ w ∷ at.front) (x ∷ at.back) suffix in
      let here : IsLast t location (last.front ++ w ∷ at.front) w d = record { front = last.front; back = at.front; parts = refl; leaves = last.leaves; silent = λ y k. last.silent y (subst (λ l. Contains l y) (sym at.parts) (Contains-append_left at.front (x ∷ at.back) y k)) } in
      other (same_Some v d (sym (held location x v (last.front ++ w ∷ at.front) (at.back ++ suffix) parts reads) ∙ last_leaves t location (last.front ++ w ∷ at.front) w d here))

  none_in_silence : (location : List ℕ) (d : ℕ) (prefix suffix : List OpName) (x : OpName) → names ≡ prefix ++ suffix → AreSilent t location prefix → value_of t.initial location ≡ Some d → Contains prefix x → IsWitness t location d x → ⊥
  none_in_silence location d prefix suffix x e silent initial c (inl writes) = not_silent location x writes (silent x c)
  none_in_silence location d prefix suffix x e silent initial c (inr (v, reads, other)) =
      let at = placed prefix x c in
      let parts : names ≡ at.front ++ x ∷ (at.back ++ suffix) = e ∙ ap (λ l. l ++ suffix) at.parts ∙ append_assoc at.front (x ∷ at.back) suffix in
      let quiet : AreSilent t location at.front = λ y k. silent y (subst (λ l. Contains l y) (sym at.parts) (Contains-append_left at.front (x ∷ at.back) y k)) in
      other (same_Some v d (sym (held location x v at.front (at.back ++ suffix) parts reads) ∙ silent_value t location at.front quiet ∙ initial))

  -- where r stands, and the last writer before it leaves d
  module _ (r : OpName) (front back : List OpName) (parts : names ≡ front ++ r ∷ back) (location : List ℕ) (d : ℕ) where
    pub last_before : (w : OpName) → IsLast t location front w d → StandsBefore names w r
    last_before w last = stands_behind names front r back w parts (subst (λ l. Contains l w) (sym last.parts) (in_middle last.front w last.back))

    -- a witness stands before the source or after r
    pub outside : (w x : OpName) → IsLast t location front w d → IsWitness t location d x → x ≢ r → x ≢ w → StandsBefore names x w ⊎ StandsBefore names r x
    outside w x last witness apart other =
        elim (either t names given clause x w other (witness_known t location d x witness) (writer_known t location w d last.leaves)) [
          | inl s ↦ inl s
          | inr s ↦ elim (Contains-append_cases last.back (r ∷ back) x (stands_back names given.once last.front w (last.back ++ r ∷ back) x whole s)) [
            | inl c ↦ absurd (none_behind location d front (r ∷ back) w x parts last c witness)
            | inr rest ↦ elim (cases_in r back x rest) [
              | inl e ↦ absurd (apart (sym e))
              | inr c ↦ inr (stands_ahead names front r back x parts c)
            ]
          ]
        ]
      where
        whole : names ≡ last.front ++ w ∷ (last.back ++ r ∷ back)
        whole = parts ∙ ap (λ l. l ++ r ∷ back) last.parts ∙ append_assoc last.front (w ∷ last.back) (r ∷ back)

    barred : (w : OpName) → IsLast t location front w d → IsBarred t clause location d r w → HoldsIn names clause
    barred w last (Hidden x c witness apart other up first second) =
        elim (stands_either names x w (given.each x (witness_known t location d x witness)) (given.each w (writer_known t location w d last.leaves))) [
          | inl e ↦ said t names given clause x c first (strictly_up t names given clause x w c e other up)
          | inr s ↦ elim (outside w x last witness apart (apart_by t names given clause x w s)) [
            | inl u ↦ said t names given clause x c first (before_up t names given clause x w c up u)
            | inr u ↦ said t names given clause r x second u
          ]
        ]
    barred w last (Behind c up says) = said t names given clause c r says (up_before t names given clause c w r up (last_before w last))
    barred w last (Apart c u up known first second) =
        elim (stands_either names c u (given.each c c_known) (given.each u known)) [
          | inl e ↦ said t names given clause u r second (subst (λ y. StandsBefore names y r) e before)
          | inr (inl s) ↦ said t names given clause c u first s
          | inr (inr s) ↦ said t names given clause u r second (stands_over names given.once u c r s before)
        ]
      where
        before : StandsBefore names c r
        before = up_before t names given clause c w r up (last_before w last)

        c_known : IsSome (operation_at t c)
        c_known = given.only c (stands_in names c r before).0

    initial_barred : AreSilent t location front → value_of t.initial location ≡ Some d → IsInitialBarred t clause location d r → HoldsIn names clause
    initial_barred silent initial h =
        elim (either t names given clause h.witness r h.other (witness_known t location d h.witness h.witnesses) (given.only r (subst (λ l. Contains l r) (sym parts) (in_middle front r back)))) [
          | inl s ↦ absurd (none_in_silence location d front (r ∷ back) h.witness parts silent initial (stands_front names given.once front r back h.witness parts s) h.witnesses)
          | inr s ↦ said t names given clause r h.witness h.says s
        ]

  -- from where r reads
  abbrev pub ReadsFrom : OpName → List ℕ → ValueSource → Type 0
  ReadsFrom r location (LeftBy w) = (front : List OpName) × (back : List OpName) × (d : ℕ) × (names ≡ front ++ r ∷ back) × IsLast t location front w d
  ReadsFrom r location (InitialAt a) = (front : List OpName) × (back : List OpName) × (a ≡ location) × (names ≡ front ++ r ∷ back) × AreSilent t location front

  allowed_writer : (origin : Origin) (before : List OpName) (location : List ℕ) (w : OpName) → ComesFrom t before location origin → last_writer t location before ≡ Some w → AllowsWriter origin w
  allowed_writer Any before location w c e = tt
  allowed_writer Initial before location w c e = let clash : Some w ≡ None = sym e ∙ c in absurd (cc)
  allowed_writer (Operation n) before location w c e = same_Some w n (sym e ∙ c)

  allowed_initial : (origin : Origin) (before : List OpName) (location : List ℕ) → ComesFrom t before location origin → last_writer t location before ≡ None → AllowsInitial origin
  allowed_initial Any before location c e = tt
  allowed_initial Initial before location c e = tt
  allowed_initial (Operation n) before location c e = let clash : Some n ≡ None = sym c ∙ e in absurd (cc)

  -- the clause holds, or r reads from a source that is kept
  pub sources_barred : (r : OpName) (kept : ValueSource → Type 0) → (h : BarsSources t clause r kept) → HoldsIn names clause ⊎ ((s : ValueSource) × kept s × ReadsFrom r (location_of h.op) s)
  sources_barred r kept h =
      let at = placed names r (given.each r (ap is_some h.known)) in
      let right = legal.reads at.front r at.back h.op at.parts h.known in
      elim (last_of t (location_of h.op) at.front) [
        | inl silent ↦ (
            let initial = sym (silent_value t (location_of h.op) at.front silent) ∙ right.value h.value h.reads in
            elim (h.initial initial (allowed_initial (origin_of h.op) at.front (location_of h.op) right.source (silent_writer t (location_of h.op) at.front silent))) [
              | inl b ↦ inl (initial_barred r at.front at.back at.parts (location_of h.op) h.value silent initial b)
              | inr k ↦ inr (InitialAt (location_of h.op), k, (at.front, at.back, refl, at.parts, silent))
            ])
        | inr (w, d, last) ↦ (
            let same : d ≡ h.value = same_Some d h.value (sym (last_leaves t (location_of h.op) at.front w d last) ∙ right.value h.value h.reads) in
            let here : IsLast t (location_of h.op) at.front w h.value = subst (λ v. IsLast t (location_of h.op) at.front w v) same last in
            elim (h.writers w here.leaves (allowed_writer (origin_of h.op) at.front (location_of h.op) w right.source (last_writes t (location_of h.op) at.front w h.value here))) [
              | inl b ↦ inl (barred r at.front at.back at.parts (location_of h.op) h.value w here b)
              | inr k ↦ inr (LeftBy w, k, (at.front, at.back, h.value, at.parts, here))
            ])
      ]

  -- the last writer of a location
  last_barred : (location : List ℕ) (w : OpName) (d : ℕ) → IsLast t location names w d → ((f : ℕ) → value_of t.final_values location ≡ Some f → f ≡ d) → IsLastBarred t clause location w → HoldsIn names clause
  last_barred location w d last final h =
      elim (stands_either names h.witness w (given.each h.witness (late_witness_known t location h.witness h.witnesses)) (given.each w (writer_known t location w d last.leaves))) [
        | inl e ↦ said t names given clause h.witness h.bound h.says (strictly_up t names given clause h.witness w h.bound e h.other h.above)
        | inr (inl s) ↦ said t names given clause h.witness h.bound h.says (before_up t names given clause h.witness w h.bound h.above s)
        | inr (inr s) ↦ absurd (none_behind location d names [] w h.witness (sym (append-nil names)) last (stands_back names given.once last.front w last.back h.witness last.parts s) (now h.witnesses))
      ]
    where
      now : IsLateWitness t location h.witness → IsWitness t location d h.witness
      now (inl writes) = inl writes
      now (inr (e, f, reads, final_is, other)) = inr (e, reads, λ same. other (same ∙ sym (final f final_is)))

  pub last_writers_barred : (location : List ℕ) (kept : ValueSource → Type 0) → BarsLastWriters t clause location kept → HoldsIn names clause ⊎ ((w : OpName) × (d : ℕ) × kept (LeftBy w) × IsLast t location names w d)
  last_writers_barred location kept h =
      elim (last_of t location names) [
        | inl silent ↦ absurd (not_silent location h.writer h.writes (silent h.writer (given.each h.writer (writer_is_known t location h.writer h.writes))))
        | inr (w, d, last) ↦ (
            let final : (f : ℕ) → value_of t.final_values location ≡ Some f → f ≡ d = λ f e. same_Some f d (sym (legal.finals location f e) ∙ last_leaves t location names w d last) in
            elim (h.writers w d last.leaves final) [
              | inl b ↦ inl (last_barred location w d last final b)
              | inr k ↦ inr (w, d, k, last)
            ])
      ]

  pub lost_final : (location : List ℕ) → IsLostFinal t location → ⊥
  lost_final location h = h.initial (sym (silent_value t location names (λ n c. h.unwritten n)) ∙ legal.finals location h.value h.final_value)

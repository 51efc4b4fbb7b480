-- One piece more is gathered.
use Rattle.std.proofs.Common.{◌≡◌, ◌≢◌, ◌⊎◌, ◌<◌, ◌≤◌, ℕ, Bool, true, false, List, [], ◌∷◌, ◌++◌, refl, ap, sym, ◌∙◌, arith, inl, inr, subst}
use Rattle.std.specs.declared.alloc.AllocError.{AllocError}
use Rattle.std.specs.Prelude.{IfOk, Ok, Err, Option, Result, Some, None, IsSome, is_some, unwrap_or, ◌==◌}
use Rattle.std.specs.Bool.{MatchBool}
use Rattle.std.specs.List.{Contains, find}
use Rattle.std.proofs.lemmas.Bool.{cases_order, eqb-true}
use Rattle.std.proofs.lemmas.List.Elements.{Contains-append_cases, Contains-append_left, Contains-append_right}
use Rattle.trace_semantics.proofs.ElementLemmas.{cases_in, found, head_in, none_in}
use Rattle.writer_table.specs.declared.operation_place.OperationPlace.{OperationPlace}
use Rattle.reason_clauses.specs.PieceOf.{nothing_of, piece_of}
use Rattle.reason_clauses.specs.TakenPieces.{Hides, TakesLater}
use Rattle.reason_clauses.specs.declared.barring.MainPiece.{MainPiece}
use Rattle.reason_clauses.specs.declared.barring.MainPiece.TheVariants.{Plain}
use Rattle.reason_clauses.specs.declared.pieces.ProcessPieces.{ProcessPieces}
use Rattle.reason_clauses.specs.declared.pieces.SourcePieces.{SourcePieces}
use Rattle.reason_text.specs.declared.source_piece.SourcePiece.{SourcePiece}
use Rattle.reason_text.specs.declared.source_piece.SourcePiece.TheVariants.{Hidden, Later, Initial, Others, Apart}
use Rattle.reason_check.specs.Gathered.{AreGathered, HasOfKind, kind_of, main_of}

pub gathered_none : (pieces : SourcePieces) → pieces.processes.items ≡ [] → pieces.initial ≡ None → pieces.main ≡ Plain → AreGathered [] pieces
gathered_none pieces processes initial main = record {
  hidden = λ x b k. absurd (none_in (Hidden x b) k);
  later = λ l k some. absurd (none_in (Later l) k);
  initial = λ x k. absurd (none_in (Initial x) k);
  main = λ p m k is. absurd (none_in p k);
  only_hidden = λ p x k is. absurd (none_in p (subst (λ l. Contains l p) processes k));
  unhidden = λ p k is. absurd (none_in p (subst (λ l. Contains l p) processes k));
  only_later = λ p k is. absurd (none_in p (subst (λ l. Contains l p) processes k));
  only_initial = λ x is. absurd (let clash : Some x ≡ None = sym is ∙ initial in cc);
  only_main = λ other. absurd (other main);
}

last_in : (xs : List SourcePiece) (x : SourcePiece) → Contains (xs ++ x ∷ []) x
last_in xs x = Contains-append_right xs (x ∷ []) x (head_in x [])

before_in : (xs : List SourcePiece) (x y : SourcePiece) → Contains xs y → Contains (xs ++ x ∷ []) y
before_in xs x y c = Contains-append_left xs (x ∷ []) y c

cases_last : (xs : List SourcePiece) (x y : SourcePiece) → Contains (xs ++ x ∷ []) y → Contains xs y ⊎ (x ≡ y)
cases_last xs x y c =
    elim (Contains-append_cases xs (x ∷ []) y c) [
      | inl d ↦ inl d
      | inr d ↦ elim (cases_in x [] y d) [
        | inl same ↦ inr same
        | inr e ↦ absurd (none_in y e)
      ]
    ]

-- two numbers are the same or not
apart_or_same : (m n : ℕ) → (m ≡ n) ⊎ (m ≢ n)
apart_or_same m n =
    elim (cases_order m n) [
      | inl same ↦ inl same
      | inr (inl less) ↦ inr (λ e. omega (arith, e, less))
      | inr (inr more) ↦ inr (λ e. omega (arith, e, more))
    ]

-- the pieces of a process with a witness or a limit are listed
piece_in : (pieces : List ProcessPieces) (q : ℕ) → (o : Option ProcessPieces) → find (λ (p : ProcessPieces). p.process == q) pieces ≡ o → (piece_of pieces q ≡ nothing_of q) ⊎ (Contains pieces (piece_of pieces q) × ((piece_of pieces q).process ≡ q))
piece_in pieces q None e = inl (ap (λ o. unwrap_or o (nothing_of q)) e)
piece_in pieces q (Some p) e =
    let there = found (λ (x : ProcessPieces). x.process == q) pieces p e in
    let same : piece_of pieces q ≡ p = ap (λ o. unwrap_or o (nothing_of q)) e in
    inr (subst (λ x. Contains pieces x) (sym same) there.0, ap (λ (x : ProcessPieces). x.process) same ∙ eqb-true p.process q there.1)

module _ (front : List SourcePiece) (old new : SourcePieces) (so : AreGathered front old) where
  pub kind_hidden : (x b : OperationPlace) → IsSome (piece_of old.processes.items b.process).witness → HasOfKind front (Hidden x b)
  kind_hidden x b some = by (piece_in old.processes.items b.process _ refl) (piece_of old.processes.items b.process).witness refl some
    where
      by : (piece_of old.processes.items b.process ≡ nothing_of b.process) ⊎ (Contains old.processes.items (piece_of old.processes.items b.process) × ((piece_of old.processes.items b.process).process ≡ b.process)) →
          (w : Option OperationPlace) → (piece_of old.processes.items b.process).witness ≡ w → IsSome w → HasOfKind front (Hidden x b)
      by found None e h = absurd (cc)
      by (inl none) (Some y) e h = absurd (let clash : None ≡ Some y = sym (ap (λ (p : ProcessPieces). p.witness) none) ∙ e in cc)
      by (inr (c, same)) (Some y) e h = (_, so.only_hidden (piece_of old.processes.items b.process) y c e, ap (λ n. (0, n)) same)

  pub kind_later : (l : OperationPlace) → 1 ≤ (piece_of old.processes.items l.process).limit → HasOfKind front (Later l)
  kind_later l some = by (piece_in old.processes.items l.process _ refl)
    where
      by : (piece_of old.processes.items l.process ≡ nothing_of l.process) ⊎ (Contains old.processes.items (piece_of old.processes.items l.process) × ((piece_of old.processes.items l.process).process ≡ l.process)) → HasOfKind front (Later l)
      by (inl none) = absurd (let zero_limit = ap (λ (p : ProcessPieces). p.limit) none in omega (arith, zero_limit, some))
      by (inr (c, same)) = (_, so.only_later (piece_of old.processes.items l.process) c some, ap (λ n. (1, n)) same)

  pub kind_initial : (x : OperationPlace) → IsSome old.initial → HasOfKind front (Initial x)
  kind_initial x some = by old.initial refl some
    where
      by : (o : Option OperationPlace) → old.initial ≡ o → IsSome o → HasOfKind front (Initial x)
      by None e h = absurd (cc)
      by (Some y) e h = (Initial y, so.only_initial y e, refl)

  pub kind_main : (piece : SourcePiece) (m : MainPiece) → main_of piece ≡ Some m → old.main ≢ Plain → HasOfKind front piece
  kind_main piece m is some = (let there = so.only_main some in (there.0, there.1, alike there.0 old.main there.2 ∙ sym (alike piece m is)))
    where
      alike : (p : SourcePiece) (n : MainPiece) → main_of p ≡ Some n → kind_of p ≡ (3, 0)
      alike (Hidden x b) n e = absurd (cc)
      alike (Later l) n e = absurd (cc)
      alike (Initial x) n e = absurd (cc)
      alike (Others x) n e = refl
      alike (Apart u) n e = refl

  -- pieces of processes that are as they were
  module _ (piece : SourcePiece) (same : new.processes.items ≡ old.processes.items) (unlike_hidden : (x b : OperationPlace) → piece ≡ Hidden x b → ⊥) (unlike_later : (l : OperationPlace) → piece ≡ Later l → ⊥) where
    still_hidden : (x b : OperationPlace) → Contains (front ++ piece ∷ []) (Hidden x b) → ((piece_of new.processes.items b.process).witness ≡ Some x) × ((piece_of new.processes.items b.process).bound ≡ b.place)
    still_hidden x b c =
        elim (cases_last front piece (Hidden x b) c) [
          | inl d ↦ subst (λ (l : List ProcessPieces). ((piece_of l b.process).witness ≡ Some x) × ((piece_of l b.process).bound ≡ b.place)) (sym same) (so.hidden x b d)
          | inr e ↦ absurd (unlike_hidden x b e)
        ]

    still_later : (l : OperationPlace) → Contains (front ++ piece ∷ []) (Later l) → 1 ≤ l.place → (piece_of new.processes.items l.process).limit ≡ l.place
    still_later l c some =
        elim (cases_last front piece (Later l) c) [
          | inl d ↦ subst (λ (ps : List ProcessPieces). (piece_of ps l.process).limit ≡ l.place) (sym same) (so.later l d some)
          | inr e ↦ absurd (unlike_later l e)
        ]

  pub gathered_initial : (x : OperationPlace) → (old.initial ≡ None) × (new.initial ≡ Some x) × (new.processes.items ≡ old.processes.items) × (new.main ≡ old.main) → AreGathered (front ++ Initial x ∷ []) new
  gathered_initial x h = record {
    hidden = still_hidden (Initial x) h.2 (λ y b e. cc) (λ l e. cc);
    later = still_later (Initial x) h.2 (λ y b e. cc) (λ l e. cc);
    initial = λ y c. elim (cases_last front (Initial x) (Initial y) c) [
      | inl d ↦ absurd (let clash : None ≡ Some y = sym h.0 ∙ so.initial y d in cc)
      | inr e ↦ h.1 ∙ initial_same y e
    ];
    main = λ p m c is. elim (cases_last front (Initial x) p c) [
      | inl d ↦ h.3 ∙ so.main p m d is
      | inr e ↦ absurd (let clash : None ≡ Some m = ap main_of e ∙ is in cc)
    ];
    only_hidden = λ p y c is. before_in front (Initial x) _ (so.only_hidden p y (subst (λ l. Contains l p) h.2 c) is);
    unhidden = λ p c is. so.unhidden p (subst (λ l. Contains l p) h.2 c) is;
    only_later = λ p c is. before_in front (Initial x) _ (so.only_later p (subst (λ l. Contains l p) h.2 c) is);
    only_initial = λ y is. subst (λ z. Contains (front ++ Initial x ∷ []) (Initial z)) (same_x x y (sym h.1 ∙ is)) (last_in front (Initial x));
    only_main = λ other. (let there = so.only_main (λ e. other (h.3 ∙ e)) in (there.0, before_in front (Initial x) there.0 there.1, there.2 ∙ ap Some (sym h.3)));
  }
    where
      initial_same : (y : OperationPlace) → Initial x ≡ Initial y → Some x ≡ Some y
      initial_same y e = cc

      same_x : (a b : OperationPlace) → Some a ≡ Some b → a ≡ b
      same_x a b e = cc

  pub gathered_main : (piece : SourcePiece) (m : MainPiece) → main_of piece ≡ Some m → (old.main ≡ Plain) × (new.main ≡ m) × (new.processes.items ≡ old.processes.items) × (new.initial ≡ old.initial) → AreGathered (front ++ piece ∷ []) new
  gathered_main piece m is h = record {
    hidden = still_hidden piece h.2 (λ y b e. no_hidden y b (sym (ap main_of e) ∙ is)) (λ l e. no_later l (sym (ap main_of e) ∙ is));
    later = still_later piece h.2 (λ y b e. no_hidden y b (sym (ap main_of e) ∙ is)) (λ l e. no_later l (sym (ap main_of e) ∙ is));
    initial = λ y c. elim (cases_last front piece (Initial y) c) [
      | inl d ↦ h.3 ∙ so.initial y d
      | inr e ↦ absurd (no_initial y (sym (ap main_of e) ∙ is))
    ];
    main = λ p n c as_is. elim (cases_last front piece p c) [
      | inl d ↦ absurd (not_plain p n as_is (sym (so.main p n d as_is) ∙ h.0))
      | inr e ↦ h.1 ∙ same_main m n (sym is ∙ ap main_of e ∙ as_is)
    ];
    only_hidden = λ p y c has. before_in front piece _ (so.only_hidden p y (subst (λ l. Contains l p) h.2 c) has);
    unhidden = λ p c has. so.unhidden p (subst (λ l. Contains l p) h.2 c) has;
    only_later = λ p c has. before_in front piece _ (so.only_later p (subst (λ l. Contains l p) h.2 c) has);
    only_initial = λ y has. before_in front piece _ (so.only_initial y (sym h.3 ∙ has));
    only_main = λ other. (piece, last_in front piece, is ∙ ap Some (sym h.1));
  }
    where
      no_hidden : (x b : OperationPlace) → main_of (Hidden x b) ≡ Some m → ⊥
      no_hidden x b e = cc

      no_later : (l : OperationPlace) → main_of (Later l) ≡ Some m → ⊥
      no_later l e = cc

      no_initial : (x : OperationPlace) → main_of (Initial x) ≡ Some m → ⊥
      no_initial x e = cc

      not_plain : (p : SourcePiece) (n : MainPiece) → main_of p ≡ Some n → n ≡ Plain → ⊥
      not_plain (Hidden x b) n e f = cc
      not_plain (Later l) n e f = cc
      not_plain (Initial x) n e f = cc
      not_plain (Others x) n e f = cc
      not_plain (Apart u) n e f = cc

      same_main : (a b : MainPiece) → Some a ≡ Some b → a ≡ b
      same_main a b e = cc

  -- the pieces of a process are put, and its piece `h` is new
  module _ (x b : OperationPlace) (h : Hides old.processes.items new.processes.items x b) (same_initial : new.initial ≡ old.initial) (same_main : new.main ≡ old.main) where
    hides_here : (p : OperationPlace) → b ≡ p → ((piece_of new.processes.items p.process).witness ≡ Some x) × ((piece_of new.processes.items p.process).bound ≡ p.place)
    hides_here p e = subst (λ (o : OperationPlace). ((piece_of new.processes.items o.process).witness ≡ Some x) × ((piece_of new.processes.items o.process).bound ≡ o.place)) e
        (ap (λ (o : ProcessPieces). o.witness) h.put.here, ap (λ (o : ProcessPieces). o.bound) h.put.here)

    hides_still : (y c : OperationPlace) → Contains front (Hidden y c) → ((piece_of new.processes.items c.process).witness ≡ Some y) × ((piece_of new.processes.items c.process).bound ≡ c.place)
    hides_still y c k =
        let before = so.hidden y c k in
        elim (apart_or_same c.process b.process) [
          | inl same ↦ absurd (let clash : Some y ≡ None = sym before.0 ∙ ap (λ q. (piece_of old.processes.items q).witness) same ∙ h.free in cc)
          | inr other ↦ (let kept = h.put.others c.process other in (ap (λ (o : ProcessPieces). o.witness) kept ∙ before.0, ap (λ (o : ProcessPieces). o.bound) kept ∙ before.1))
        ]

    limit_same : (q : ℕ) → (piece_of new.processes.items q).limit ≡ (piece_of old.processes.items q).limit
    limit_same q =
        elim (apart_or_same q b.process) [
          | inl same ↦ ap (λ n. (piece_of new.processes.items n).limit) same ∙ ap (λ (o : ProcessPieces). o.limit) h.put.here ∙ ap (λ n. (piece_of old.processes.items n).limit) (sym same)
          | inr other ↦ ap (λ (o : ProcessPieces). o.limit) (h.put.others q other)
        ]

    -- the limit of the pieces that are put is that of a listed one
    limit_listed : (n : ℕ) → 1 ≤ (piece_of old.processes.items b.process).limit → n ≡ (piece_of old.processes.items b.process).limit → Contains front (Later (record { process = b.process; place = n }))
    limit_listed n some e = by (piece_in old.processes.items b.process _ refl)
      where
        by : (piece_of old.processes.items b.process ≡ nothing_of b.process) ⊎ (Contains old.processes.items (piece_of old.processes.items b.process) × ((piece_of old.processes.items b.process).process ≡ b.process)) → Contains front (Later (record { process = b.process; place = n }))
        by (inl none) = absurd (let zero_limit = ap (λ (p : ProcessPieces). p.limit) none in omega (arith, zero_limit, some))
        by (inr (c, same)) = subst (λ m. Contains front (Later (record { process = b.process; place = m }))) (sym e)
            (subst (λ q. Contains front (Later (record { process = q; place = (piece_of old.processes.items b.process).limit }))) same (so.only_later (piece_of old.processes.items b.process) c some))

    pub gathered_hidden : AreGathered (front ++ Hidden x b ∷ []) new
    gathered_hidden = record {
      hidden = λ y c k. elim (cases_last front (Hidden x b) (Hidden y c) k) [
        | inl d ↦ hides_still y c d
        | inr e ↦ subst (λ z. ((piece_of new.processes.items c.process).witness ≡ Some z) × ((piece_of new.processes.items c.process).bound ≡ c.place)) (same_witness y c e) (hides_here c (same_bound y c e))
      ];
      later = λ l k some. elim (cases_last front (Hidden x b) (Later l) k) [
        | inl d ↦ limit_same l.process ∙ so.later l d some
        | inr e ↦ absurd (cc)
      ];
      initial = λ y k. elim (cases_last front (Hidden x b) (Initial y) k) [
        | inl d ↦ same_initial ∙ so.initial y d
        | inr e ↦ absurd (cc)
      ];
      main = λ p m k is. elim (cases_last front (Hidden x b) p k) [
        | inl d ↦ same_main ∙ so.main p m d is
        | inr e ↦ absurd (let clash : None ≡ Some m = ap main_of e ∙ is in cc)
      ];
      only_hidden = λ p y k is. elim (h.put.only p k) [
        | inl same ↦ put_hidden p y same is
        | inr c ↦ before_in front (Hidden x b) _ (so.only_hidden p y c is)
      ];
      unhidden = λ p k is. elim (h.put.only p k) [
        | inl same ↦ absurd (let clash : Some x ≡ None = sym (ap (λ (o : ProcessPieces). o.witness) same) ∙ is in cc)
        | inr c ↦ so.unhidden p c is
      ];
      only_later = λ p k some. elim (h.put.only p k) [
        | inl same ↦ before_in front (Hidden x b) _ (subst (λ q. Contains front (Later (record { process = q; place = p.limit }))) (sym (ap (λ (o : ProcessPieces). o.process) same))
            (limit_listed p.limit (subst (λ n. 1 ≤ n) (ap (λ (o : ProcessPieces). o.limit) same) some) (ap (λ (o : ProcessPieces). o.limit) same)))
        | inr c ↦ before_in front (Hidden x b) _ (so.only_later p c some)
      ];
      only_initial = λ y is. before_in front (Hidden x b) _ (so.only_initial y (sym same_initial ∙ is));
      only_main = λ other. (let there = so.only_main (λ e. other (same_main ∙ e)) in (there.0, before_in front (Hidden x b) there.0 there.1, there.2 ∙ ap Some (sym same_main)));
    }
      where
        same_witness : (y c : OperationPlace) → Hidden x b ≡ Hidden y c → x ≡ y
        same_witness y c e = cc

        same_bound : (y c : OperationPlace) → Hidden x b ≡ Hidden y c → b ≡ c
        same_bound y c e = cc

        put_hidden : (p : ProcessPieces) (y : OperationPlace) → p ≡ record { process = b.process; bound = b.place; witness = Some x; limit = (piece_of old.processes.items b.process).limit } → p.witness ≡ Some y → Contains (front ++ Hidden x b ∷ []) (Hidden y (record { process = p.process; place = p.bound }))
        put_hidden p y same is =
            let w : x ≡ y = same_some x y (sym (ap (λ (o : ProcessPieces). o.witness) same) ∙ is) in
            subst (λ z. Contains (front ++ Hidden x b ∷ []) (Hidden z (record { process = p.process; place = p.bound }))) w
            (subst (λ (o : ProcessPieces). Contains (front ++ Hidden x b ∷ []) (Hidden x (record { process = o.process; place = o.bound }))) (sym same) (last_in front (Hidden x b)))
          where
            same_some : (u v : OperationPlace) → Some u ≡ Some v → u ≡ v
            same_some u v e = cc

  -- the pieces of a process are put, and its piece `f` is new
  module _ (l : OperationPlace) (h : TakesLater old.processes.items new.processes.items l) (same_initial : new.initial ≡ old.initial) (same_main : new.main ≡ old.main) where
    bound_same : (q : ℕ) → ((piece_of new.processes.items q).witness ≡ (piece_of old.processes.items q).witness) × ((piece_of new.processes.items q).bound ≡ (piece_of old.processes.items q).bound)
    bound_same q =
        elim (apart_or_same q l.process) [
          | inl same ↦ (
            ap (λ n. (piece_of new.processes.items n).witness) same ∙ ap (λ (o : ProcessPieces). o.witness) h.put.here ∙ ap (λ n. (piece_of old.processes.items n).witness) (sym same),
            ap (λ n. (piece_of new.processes.items n).bound) same ∙ ap (λ (o : ProcessPieces). o.bound) h.put.here ∙ ap (λ n. (piece_of old.processes.items n).bound) (sym same),
          )
          | inr other ↦ (ap (λ (o : ProcessPieces). o.witness) (h.put.others q other), ap (λ (o : ProcessPieces). o.bound) (h.put.others q other))
        ]

    later_still : (m : OperationPlace) → Contains front (Later m) → 1 ≤ m.place → (piece_of new.processes.items m.process).limit ≡ m.place
    later_still m k some =
        let before = so.later m k some in
        elim (apart_or_same m.process l.process) [
          | inl same ↦ absurd (let none = ap (λ q. (piece_of old.processes.items q).limit) same ∙ h.free in omega (arith, before, none, some))
          | inr other ↦ ap (λ (o : ProcessPieces). o.limit) (h.put.others m.process other) ∙ before
        ]

    pub gathered_later : AreGathered (front ++ Later l ∷ []) new
    gathered_later = record {
      hidden = λ y c k. elim (cases_last front (Later l) (Hidden y c) k) [
        | inl d ↦ (let before = so.hidden y c d in let same = bound_same c.process in (same.0 ∙ before.0, same.1 ∙ before.1))
        | inr e ↦ absurd (cc)
      ];
      later = λ m k some. elim (cases_last front (Later l) (Later m) k) [
        | inl d ↦ later_still m d some
        | inr e ↦ subst (λ (o : OperationPlace). (piece_of new.processes.items o.process).limit ≡ o.place) (same_limit m e) (ap (λ (o : ProcessPieces). o.limit) h.put.here)
      ];
      initial = λ y k. elim (cases_last front (Later l) (Initial y) k) [
        | inl d ↦ same_initial ∙ so.initial y d
        | inr e ↦ absurd (cc)
      ];
      main = λ p m k is. elim (cases_last front (Later l) p k) [
        | inl d ↦ same_main ∙ so.main p m d is
        | inr e ↦ absurd (let clash : None ≡ Some m = ap main_of e ∙ is in cc)
      ];
      only_hidden = λ p y k is. elim (h.put.only p k) [
        | inl same ↦ before_in front (Later l) _ (put_hidden p y same is)
        | inr c ↦ before_in front (Later l) _ (so.only_hidden p y c is)
      ];
      unhidden = λ p k is. elim (h.put.only p k) [
        | inl same ↦ put_unhidden p same is
        | inr c ↦ so.unhidden p c is
      ];
      only_later = λ p k some. elim (h.put.only p k) [
        | inl same ↦ subst (λ (o : ProcessPieces). Contains (front ++ Later l ∷ []) (Later (record { process = o.process; place = o.limit }))) (sym same) (last_in front (Later l))
        | inr c ↦ before_in front (Later l) _ (so.only_later p c some)
      ];
      only_initial = λ y is. before_in front (Later l) _ (so.only_initial y (sym same_initial ∙ is));
      only_main = λ other. (let there = so.only_main (λ e. other (same_main ∙ e)) in (there.0, before_in front (Later l) there.0 there.1, there.2 ∙ ap Some (sym same_main)));
    }
      where
        same_limit : (m : OperationPlace) → Later l ≡ Later m → l ≡ m
        same_limit m e = cc

        put_hidden : (p : ProcessPieces) (y : OperationPlace) → p ≡ record { process = l.process; bound = (piece_of old.processes.items l.process).bound; witness = (piece_of old.processes.items l.process).witness; limit = l.place } → p.witness ≡ Some y →
            Contains front (Hidden y (record { process = p.process; place = p.bound }))
        put_hidden p y same is = by (piece_in old.processes.items l.process _ refl)
          where
            was : (piece_of old.processes.items l.process).witness ≡ Some y
            was = sym (ap (λ (o : ProcessPieces). o.witness) same) ∙ is

            by : (piece_of old.processes.items l.process ≡ nothing_of l.process) ⊎ (Contains old.processes.items (piece_of old.processes.items l.process) × ((piece_of old.processes.items l.process).process ≡ l.process)) → Contains front (Hidden y (record { process = p.process; place = p.bound }))
            by (inl none) = absurd (let clash : None ≡ Some y = sym (ap (λ (o : ProcessPieces). o.witness) none) ∙ was in cc)
            by (inr (c, called)) = subst (λ (o : ProcessPieces). Contains front (Hidden y (record { process = o.process; place = o.bound }))) (sym same)
                (subst (λ q. Contains front (Hidden y (record { process = q; place = (piece_of old.processes.items l.process).bound }))) called (so.only_hidden (piece_of old.processes.items l.process) y c was))

        put_unhidden : (p : ProcessPieces) → p ≡ record { process = l.process; bound = (piece_of old.processes.items l.process).bound; witness = (piece_of old.processes.items l.process).witness; limit = l.place } → p.witness ≡ None → p.bound ≡ 0
        put_unhidden p same is = by (piece_in old.processes.items l.process _ refl)
          where
            by : (piece_of old.processes.items l.process ≡ nothing_of l.process) ⊎ (Contains old.processes.items (piece_of old.processes.items l.process) × ((piece_of old.processes.items l.process).process ≡ l.process)) → p.bound ≡ 0
            by (inl none) = ap (λ (o : ProcessPieces). o.bound) same ∙ ap (λ (o : ProcessPieces). o.bound) none
            by (inr (c, called)) = ap (λ (o : ProcessPieces). o.bound) same ∙ so.unhidden (piece_of old.processes.items l.process) c (sym (ap (λ (o : ProcessPieces). o.witness) same) ∙ is)

-- what a call that takes a piece says of it, whichever pieces were gathered before
abbrev pub IsTakenIf : SourcePieces → SourcePieces → SourcePiece → Bool → Type 0
IsTakenIf old new piece done = (front : List SourcePiece) → AreGathered front old → MatchBool done (AreGathered (front ++ piece ∷ []) new) (HasOfKind front piece)

by_done : (old new : SourcePieces) (piece : SourcePiece) (A B : Type 0) → ((front : List SourcePiece) → AreGathered front old → A → AreGathered (front ++ piece ∷ []) new) → ((front : List SourcePiece) → AreGathered front old → B → HasOfKind front piece) →
    (done : Bool) → MatchBool done A B → IsTakenIf old new piece done
by_done old new piece A B took not_taken true h front so = took front so h
by_done old new piece A B took not_taken false h front so = not_taken front so h

pub after_hide : (old new : SourcePieces) (x b : OperationPlace) (piece : SourcePiece) → piece ≡ Hidden x b → (r : Result Bool AllocError) →
    IfOk r (λ done. MatchBool done (Hides old.processes.items new.processes.items x b × (new.initial ≡ old.initial) × (new.main ≡ old.main)) (IsSome (piece_of old.processes.items b.process).witness)) → IfOk r (IsTakenIf old new piece)
after_hide old new x b piece is (Err e) h = h
after_hide old new x b piece is (Ok done) h = subst (λ p. IsTakenIf old new p done) (sym is) (by_done old new (Hidden x b) _ _ (λ front so k. gathered_hidden front old new so x b k.0 k.1 k.2) (λ front so k. kind_hidden front old new so x b k) done h)

pub after_later : (old new : SourcePieces) (l : OperationPlace) (piece : SourcePiece) → piece ≡ Later l → (r : Result Bool AllocError) →
    IfOk r (λ done. MatchBool done (TakesLater old.processes.items new.processes.items l × (new.initial ≡ old.initial) × (new.main ≡ old.main)) (1 ≤ (piece_of old.processes.items l.process).limit)) → IfOk r (IsTakenIf old new piece)
after_later old new l piece is (Err e) h = h
after_later old new l piece is (Ok done) h = subst (λ p. IsTakenIf old new p done) (sym is) (by_done old new (Later l) _ _ (λ front so k. gathered_later front old new so l k.0 k.1 k.2) (λ front so k. kind_later front old new so l k) done h)

pub after_initial : (old new : SourcePieces) (x : OperationPlace) (piece : SourcePiece) → piece ≡ Initial x → (done : Bool) →
    MatchBool done ((old.initial ≡ None) × (new.initial ≡ Some x) × (new.processes.items ≡ old.processes.items) × (new.main ≡ old.main)) (IsSome old.initial) → IsTakenIf old new piece done
after_initial old new x piece is done h = subst (λ p. IsTakenIf old new p done) (sym is) (by_done old new (Initial x) _ _ (λ front so k. gathered_initial front old new so x k) (λ front so k. kind_initial front old new so x k) done h)

pub after_main : (old new : SourcePieces) (m : MainPiece) (piece : SourcePiece) → main_of piece ≡ Some m → (done : Bool) →
    MatchBool done ((old.main ≡ Plain) × (new.main ≡ m) × (new.processes.items ≡ old.processes.items) × (new.initial ≡ old.initial)) (old.main ≢ Plain) → IsTakenIf old new piece done
after_main old new m piece is done h = by_done old new piece _ _ (λ front so k. gathered_main front old new so piece m is k) (λ front so k. kind_main front old new so piece m is k) done h

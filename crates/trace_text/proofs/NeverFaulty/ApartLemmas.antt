-- Statements after others: which of them come again, and how many of a kind there are.
use Rattle.std.proofs.Common.{◌≡◌, ◌≢◌, ℕ, ◌+◌, ◌≤◌, List, [], ◌∷◌, ◌++◌, length, map, Bool, true, false, cond, refl, inl, inr, ap, sym, ◌∙◌, subst, arith, length-append}
use Rattle.std.specs.Prelude.{Option, Some, None, nat_le}
use Rattle.std.specs.List.{Contains, AllPairs, filter, filter_map, cons_option, list_any}
use Rattle.std.proofs.lemmas.Bool.{lt-leb, false_from_ne_true}
use Rattle.std.proofs.lemmas.List.{get_or_append_left, get_or-append-add}
use Rattle.std.proofs.lemmas.List.Elements.{filter-append}
use Rattle.std.proofs.lemmas.Slice.Eq.{bytes_eq-Decides}
use Rattle.text_lines.proofs.ListLemmas.{none_passes}
use Rattle.trace_semantics.specs.declared.trace.Process.{Process}
use Rattle.trace_text.specs.Entry.{init_statement, final_statement}
use Rattle.trace_text.specs.Gathered.{is_init, is_final}
use Rattle.trace_text.specs.Statement.{Statement, Init, Final, Proc, Read, Write, Update, Before}
use Rattle.trace_semantics.specs.Trace.{IsOneEach}
use Rattle.trace_text.specs.TraceFault.{is_proc, repeats}
use Rattle.trace_semantics.proofs.ElementLemmas.{head_in, tail_in, none_in, cases_in, some_passes, from_map, to_filter}

-- what is made of a list, cut at a place
pub record CutsMap {A X : Type 0} (f : X → A) (xs : List X) (front : List A) (here : A) : Type 0 where
  pub before : List X
  pub at : X
  pub after : List X
  pub parts : xs ≡ before ++ at ∷ after
  pub front_is : front ≡ map f before
  pub here_is : f at ≡ here

pub cut_map : {A X : Type 0} (f : X → A) (xs : List X) (front : List A) (here : A) (back : List A) → map f xs ≡ front ++ here ∷ back → CutsMap f xs front here
cut_map f [] [] here back e = absurd (cc)
cut_map f [] (a ∷ front) here back e = absurd (cc)
cut_map f (x ∷ xs) [] here back e = record { before = []; at = x; after = xs; parts = refl; front_is = refl; here_is = cc }
cut_map f (x ∷ xs) (a ∷ front) here back e =
    let head : f x ≡ a = cc in
    let tail : map f xs ≡ front ++ here ∷ back = cc in
    let more = cut_map f xs front here back tail in
    record { before = x ∷ more.before; at = more.at; after = more.after; parts = ap (λ l. x ∷ l) more.parts; front_is = (λ i. sym head i ∷ more.front_is i); here_is = more.here_is }

-- those that pass, cut at one that does
pub filter_cut : {A : Type 0} (p : A → Bool) (front : List A) (x : A) (back : List A) → p x ≡ true → filter p (front ++ x ∷ back) ≡ filter p front ++ x ∷ filter p back
filter_cut p front x back h = filter-append p front (x ∷ back) ∙ ap (λ b. filter p front ++ cond b (x ∷ filter p back) (filter p back)) h

apart_before : {X : Type 0} {K : Type 0} (key : X → K) (before : List X) (x : X) (after : List X) → AllPairs (λ (a b : X). key a ≢ key b) (before ++ x ∷ after) → (y : X) → Contains before y → key y ≢ key x
apart_before key before x after apart y (k, l, e) same =
    apart k (length before + 0) y (omega (arith, l)) (omega (arith, length-append before (x ∷ after)))
    (ap key (get_or_append_left before (x ∷ after) y k l ∙ e) ∙ same ∙ sym (ap key (get_or-append-add before (x ∷ after) 0 y)))

-- two statements that are made of different things
pub record AreMadeApart {X K : Type 0} (f : X → Statement) (key : X → K) (y s : Statement) : Type 0 where
  pub first : X
  pub second : X
  pub first_is : f first ≡ y
  pub second_is : f second ≡ s
  pub apart : key first ≢ key second

made_apart : {X K : Type 0} (p : Statement → Bool) (f : X → Statement) (key : X → K) (xs : List X) (front : List Statement) (s : Statement) (back : List Statement) → filter p (front ++ s ∷ back) ≡ map f xs → AllPairs (λ (a b : X). key a ≢ key b) xs → p s ≡ true →
    (y : Statement) → Contains front y → p y ≡ true → AreMadeApart f key y s
made_apart {X} {K} p f key xs front s back e apart h y c k =
    let cut = cut_map f xs (filter p front) s (filter p back) (sym e ∙ filter_cut p front s back h) in
    let there = from_map f cut.before y (subst (λ (l : List Statement). Contains l y) cut.front_is (to_filter p front y k c)) in
    record {
      first = there.0;
      second = cut.at;
      first_is = there.2;
      second_is = cut.here_is;
      apart = apart_before key cut.before cut.at cut.after (subst (λ (l : List X). AllPairs (λ (a b : X). key a ≢ key b) l) cut.parts apart) there.0 there.1;
    }

-- statements that repeat another
init_repeat : (a w : List ℕ) (y : Statement) → repeats (Init a w) y ≡ true → (b : List ℕ) × (v : List ℕ) × (y ≡ Init b v) × (b ≡ a)
init_repeat a w (Init b v) h = (b, v, refl, (bytes_eq-Decides b a).0 h)
init_repeat a w (Final b v) h = absurd (cc)
init_repeat a w (Proc name) h = absurd (cc)
init_repeat a w (Read b v source times) h = absurd (cc)
init_repeat a w (Write b v times) h = absurd (cc)
init_repeat a w (Update b v u source times) h = absurd (cc)
init_repeat a w (Before p i q j) h = absurd (cc)

final_repeat : (a w : List ℕ) (y : Statement) → repeats (Final a w) y ≡ true → (b : List ℕ) × (v : List ℕ) × (y ≡ Final b v) × (b ≡ a)
final_repeat a w (Init b v) h = absurd (cc)
final_repeat a w (Final b v) h = (b, v, refl, (bytes_eq-Decides b a).0 h)
final_repeat a w (Proc name) h = absurd (cc)
final_repeat a w (Read b v source times) h = absurd (cc)
final_repeat a w (Write b v times) h = absurd (cc)
final_repeat a w (Update b v u source times) h = absurd (cc)
final_repeat a w (Before p i q j) h = absurd (cc)

proc_repeat : (name : List ℕ) (y : Statement) → repeats (Proc name) y ≡ true → (b : List ℕ) × (y ≡ Proc b) × (b ≡ name)
proc_repeat name (Init b v) h = absurd (cc)
proc_repeat name (Final b v) h = absurd (cc)
proc_repeat name (Proc b) h = (b, refl, (bytes_eq-Decides b name).0 h)
proc_repeat name (Read b v source times) h = absurd (cc)
proc_repeat name (Write b v times) h = absurd (cc)
proc_repeat name (Update b v u source times) h = absurd (cc)
proc_repeat name (Before p i q j) h = absurd (cc)

-- the statements of which there is one each, as what makes them
pub record AreOnce (ss : List Statement) (ps : List Process) (initial finals : List (List ℕ × ℕ)) : Type 0 where
  pub procs : filter is_proc ss ≡ map (λ (p : Process). Proc p.name) ps
  pub procs_apart : AllPairs (λ (p q : Process). p.name ≢ q.name) ps
  pub initial_are : filter is_init ss ≡ map init_statement initial
  pub initial_apart : IsOneEach initial
  pub finals_are : filter is_final ss ≡ map final_statement finals
  pub finals_apart : IsOneEach finals

-- none of them repeats an earlier one
pub unrepeated : (front : List Statement) (s : Statement) (back : List Statement) (ps : List Process) (initial finals : List (List ℕ × ℕ)) → AreOnce (front ++ s ∷ back) ps initial finals → list_any (repeats s) front ≡ false
unrepeated front (Init a w) back ps initial finals once = false_from_ne_true (list_any (repeats (Init a w)) front) (λ h.
    let at = some_passes (repeats (Init a w)) front h in
    let other = init_repeat a w at.0 at.2 in
    let made = made_apart is_init init_statement (λ (x : List ℕ × ℕ). x.0) initial front (Init a w) back once.initial_are once.initial_apart refl at.0 at.1 (ap is_init other.2) in
    let first : init_statement made.first ≡ Init other.0 other.1 = made.first_is ∙ other.2 in
    let one : made.first.0 ≡ other.0 = cc in
    let second : init_statement made.second ≡ Init a w = made.second_is in
    let two : made.second.0 ≡ a = cc in
    made.apart (one ∙ other.3 ∙ sym two))
unrepeated front (Final a w) back ps initial finals once = false_from_ne_true (list_any (repeats (Final a w)) front) (λ h.
    let at = some_passes (repeats (Final a w)) front h in
    let other = final_repeat a w at.0 at.2 in
    let made = made_apart is_final final_statement (λ (x : List ℕ × ℕ). x.0) finals front (Final a w) back once.finals_are once.finals_apart refl at.0 at.1 (ap is_final other.2) in
    let first : final_statement made.first ≡ Final other.0 other.1 = made.first_is ∙ other.2 in
    let one : made.first.0 ≡ other.0 = cc in
    let second : final_statement made.second ≡ Final a w = made.second_is in
    let two : made.second.0 ≡ a = cc in
    made.apart (one ∙ other.3 ∙ sym two))
unrepeated front (Proc name) back ps initial finals once = false_from_ne_true (list_any (repeats (Proc name)) front) (λ h.
    let at = some_passes (repeats (Proc name)) front h in
    let other = proc_repeat name at.0 at.2 in
    let made = made_apart is_proc (λ (p : Process). Proc p.name) (λ (p : Process). p.name) ps front (Proc name) back once.procs once.procs_apart refl at.0 at.1 (ap is_proc other.1) in
    let first : Proc made.first.name ≡ Proc other.0 = made.first_is ∙ other.1 in
    let one : made.first.name ≡ other.0 = cc in
    let second : Proc made.second.name ≡ Proc name = made.second_is in
    let two : made.second.name ≡ name = cc in
    made.apart (one ∙ other.2 ∙ sym two))
unrepeated front (Read a w source times) back ps initial finals once = none_passes front
unrepeated front (Write a w times) back ps initial finals once = none_passes front
unrepeated front (Update a w v source times) back ps initial finals once = none_passes front
unrepeated front (Before p i q j) back ps initial finals once = none_passes front

-- there is room for one more where there are few with it
pub room : (p : Statement → Bool) (front : List Statement) (s : Statement) (back : List Statement) (n : ℕ) → length (filter p (front ++ s ∷ back)) ≤ n → p s ≡ true → nat_le n (length (filter p front)) ≡ false
room p front s back n few h = lt-leb n (length (filter p front)) (omega (arith, few, ap length (filter_cut p front s back h), length-append (filter p front) (s ∷ filter p back)))

-- what is made of an element
pub record IsMade {A B : Type 0} (f : A → Option B) (xs : List A) (y : B) : Type 0 where
  pub from : A
  pub listed : Contains xs from
  pub gives : f from ≡ Some y

made_by : {A B : Type 0} (f : A → Option B) (x : A) (xs : List A) (y : B) (o : Option B) → f x ≡ o → (Contains (filter_map f xs) y → IsMade f xs y) → Contains (cons_option o (filter_map f xs)) y → IsMade f (x ∷ xs) y
made_by f x xs y None e more c = let there = more c in record { from = there.from; listed = tail_in x xs there.from there.listed; gives = there.gives }
made_by f x xs y (Some z) e more c = elim (cases_in z (filter_map f xs) y c) [
  | inl same ↦ record { from = x; listed = head_in x xs; gives = e ∙ ap Some same }
  | inr d ↦ (let there = more d in record { from = there.from; listed = tail_in x xs there.from there.listed; gives = there.gives })
]

pub from_filter_map : {A B : Type 0} (f : A → Option B) (xs : List A) (y : B) → Contains (filter_map f xs) y → IsMade f xs y
from_filter_map f [] y c = absurd (none_in y c)
from_filter_map f (x ∷ xs) y c = made_by f x xs y (f x) refl (from_filter_map f xs y) c

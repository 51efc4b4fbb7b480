-- A table of writers that grows by a location and by a writer.
use Rattle.std.proofs.Common.{◌≡◌, ◌≢◌, ◌⊎◌, ◌<◌, ◌+◌, ℕ, zero, suc, List, [], ◌∷◌, ◌++◌, length, get_or, Bool, true, false, cond, refl, ap, sym, ◌∙◌, arith, inl, inr, append-nil, slice_index_or}
use Rattle.std.specs.Prelude.{Option, Some, None}
use Rattle.std.specs.List.{cons_option, slice_get}
use Rattle.std.specs.Option.{option_and_then, option_map}
use Rattle.std.specs.Str.{bytes_eq}
use Rattle.trace_semantics.specs.declared.operation.Op.{Op}
use Rattle.trace_semantics.specs.declared.operation.OpName.{OpName}
use Rattle.trace_semantics.specs.declared.trace.Process.{Process}
use Rattle.trace_semantics.specs.NameNumbers.{number_of}
use Rattle.trace_semantics.specs.Operation.{location_of, written_value}
use Rattle.trace_semantics.specs.Trace.{at_place}
use Rattle.trace_semantics.proofs.NameLemmas.{same_bytes, bytes_same}
use Rattle.restriction.specs.Restriction.{left_by}
use Rattle.restriction.proofs.PlaceLemmas.{place_more}
use Rattle.trace_part.specs.declared.writer_table.WriterTable.{WriterTable}
use Rattle.trace_part.specs.declared.writers.ChosenWriter.{ChosenWriter}
use Rattle.trace_part.specs.Rows.{row_in}
use Rattle.trace_part.specs.WriterTables.{list_or_none, writers_at, AreNumbersOwn, HasOneMoreAt}

same_some : (a c : ℕ) → Some a ≡ Some c → a ≡ c
same_some a c g = cc

get_last : {X : Type 0} (xs : List X) (x : X) → slice_get (xs ++ x ∷ []) (length xs) ≡ Some x
get_last [] x = refl
get_last (z ∷ xs) x = get_last xs x

get_before : {X : Type 0} (xs : List X) (x : X) (k : ℕ) → k < length xs → slice_get (xs ++ x ∷ []) k ≡ slice_get xs k
get_before [] x k l = absurd (omega (arith, l))
get_before (z ∷ xs) x zero l = refl
get_before (z ∷ xs) x (suc k) l = get_before xs x k (omega (arith, l))

one_longer : {X : Type 0} (xs : List X) (x : X) → length (xs ++ x ∷ []) ≡ length xs + 1
one_longer [] x = refl
one_longer (z ∷ xs) x = let more = one_longer xs x in omega (arith, more)

-- one more location, of which nothing is listed
module _ (location : List ℕ) (old new : WriterTable) (own : AreNumbersOwn old) (missing : number_of old.numbers location ≡ None) (number : ℕ) (count : number ≡ length old.lists.items) (listed : new.lists.items ≡ old.lists.items ++ [] ∷ [])
    (updated : (q : List ℕ) → number_of new.numbers q ≡ cond (bytes_eq location q) (Some number) (number_of old.numbers q)) where
  number_in : (q : List ℕ) (k : ℕ) → number_of new.numbers q ≡ Some k → ((location ≡ q) × (k ≡ length old.lists.items)) ⊎ (number_of old.numbers q ≡ Some k)
  number_in q k e = at (bytes_eq location q) refl (sym (updated q) ∙ e)
    where
      at : (b : Bool) → bytes_eq location q ≡ b → cond b (Some number) (number_of old.numbers q) ≡ Some k → ((location ≡ q) × (k ≡ length old.lists.items)) ⊎ (number_of old.numbers q ≡ Some k)
      at true h f = inl (same_bytes location q h, sym (same_some number k f) ∙ count)
      at false h f = inr f

  longer : length new.lists.items ≡ length old.lists.items + 1
  longer = ap length listed ∙ one_longer old.lists.items []

  pub added_own : AreNumbersOwn new
  added_own = record {
    listed = λ q k e. elim (number_in q k e) [
      | inl at ↦ omega (arith, longer, at.1)
      | inr f ↦ (let low : k < length old.lists.items = own.listed q k f in omega (arith, longer, low))
    ];
    apart = λ p q k d e. elim (number_in p k d) [
      | inl at ↦ elim (number_in q k e) [
        | inl there ↦ sym at.0 ∙ there.0
        | inr f ↦ (let low : k < length old.lists.items = own.listed q k f in absurd (omega (arith, at.1, low)))
      ]
      | inr g ↦ elim (number_in q k e) [
        | inl there ↦ (let low : k < length old.lists.items = own.listed p k g in absurd (omega (arith, there.1, low)))
        | inr f ↦ own.apart p q k g f
      ]
    ];
  }

  pub added_number : number_of new.numbers location ≡ Some number
  added_number = updated location ∙ ap (λ b. cond b (Some number) (number_of old.numbers location)) (bytes_same location location refl)

  pub added_same : (q : List ℕ) → writers_at new q ≡ writers_at old q
  added_same q = at (bytes_eq location q) refl
    where
      kept : (o : Option ℕ) → number_of old.numbers q ≡ o → list_or_none (option_and_then (slice_get new.lists.items) o) ≡ list_or_none (option_and_then (slice_get old.lists.items) o)
      kept None e = refl
      kept (Some k) e = ap list_or_none (ap (λ l. slice_get l k) listed ∙ get_before old.lists.items [] k (own.listed q k e))

      found : (b : Bool) → bytes_eq location q ≡ b → writers_at new q ≡ list_or_none (option_and_then (slice_get new.lists.items) (cond b (Some number) (number_of old.numbers q)))
      found b h = ap (λ o. list_or_none (option_and_then (slice_get new.lists.items) o)) (updated q ∙ ap (λ c. cond c (Some number) (number_of old.numbers q)) h)

      at : (b : Bool) → bytes_eq location q ≡ b → writers_at new q ≡ writers_at old q
      at true h =
          found true h
          ∙ ap list_or_none (ap (λ l. slice_get l number) listed ∙ ap (slice_get (old.lists.items ++ [] ∷ [])) count ∙ get_last old.lists.items [])
          ∙ sym (ap (λ o. list_or_none (option_and_then (slice_get old.lists.items) o)) (ap (number_of old.numbers) (sym (same_bytes location q h)) ∙ missing))
      at false h = found false h ∙ kept (number_of old.numbers q) refl

or_none : (lists : List (List ChosenWriter)) (k : ℕ) → list_or_none (slice_get lists k) ≡ slice_index_or lists k []
or_none [] k = refl
or_none (rows ∷ lists) zero = refl
or_none (rows ∷ lists) (suc k) = or_none lists k

-- one more writer of a location that has a number
module _ (location : List ℕ) (old new : WriterTable) (own : AreNumbersOwn old) (number : ℕ) (found : number_of old.numbers location ≡ Some number) (same : new.numbers ≡ old.numbers) (row : ChosenWriter)
    (more : HasOneMoreAt old.lists.items new.lists.items number row) where
  old_number : (q : List ℕ) (k : ℕ) → number_of new.numbers q ≡ Some k → number_of old.numbers q ≡ Some k
  old_number q k e = ap (λ table. number_of table q) (sym same) ∙ e

  pub pushed_own : AreNumbersOwn new
  pushed_own = record {
    listed = λ q k e. (let low : k < length old.lists.items = own.listed q k (old_number q k e) in omega (arith, low, more.long));
    apart = λ p q k d e. own.apart p q k (old_number p k d) (old_number q k e);
  }

  pub pushed_rows : (q : List ℕ) → writers_at new q ≡ cond (bytes_eq location q) (writers_at old q ++ row ∷ []) (writers_at old q)
  pushed_rows q = ap (λ table. list_or_none (option_and_then (slice_get new.lists.items) (number_of table q))) same ∙ at (bytes_eq location q) refl
    where
      others : (o : Option ℕ) → number_of old.numbers q ≡ o → bytes_eq location q ≡ false → list_or_none (option_and_then (slice_get new.lists.items) o) ≡ list_or_none (option_and_then (slice_get old.lists.items) o)
      others None e h = refl
      others (Some k) e h = or_none new.lists.items k ∙ more.others k apart ∙ sym (or_none old.lists.items k)
        where
          apart : k ≢ number
          apart f =
              let one : location ≡ q = own.apart location q number found (e ∙ ap Some f) in
              let clash : true ≡ false = sym (bytes_same location q one) ∙ h in
              absurd (cc)

      at : (b : Bool) → bytes_eq location q ≡ b → list_or_none (option_and_then (slice_get new.lists.items) (number_of old.numbers q)) ≡ cond b (writers_at old q ++ row ∷ []) (writers_at old q)
      at true h =
          let here : number_of old.numbers q ≡ Some number = ap (number_of old.numbers) (sym (same_bytes location q h)) ∙ found in
          ap (λ o. list_or_none (option_and_then (slice_get new.lists.items) o)) here
          ∙ or_none new.lists.items number ∙ more.here ∙ ap (λ rows. rows ++ row ∷ []) (sym (or_none old.lists.items number))
          ∙ ap (λ o. list_or_none (option_and_then (slice_get old.lists.items) o) ++ row ∷ []) (sym here)
      at false h = others (number_of old.numbers q) refl h

-- one more operation
module _ (p : Process) (number : ℕ) (chosen : OpName → Bool) (n : OpName) (op : Op) (there : at_place p.operations n.place ≡ Some op) (location : List ℕ) (same : location ≡ location_of op) (row : Option ChosenWriter) (row_is : row ≡ row_in p number chosen location n) where
  elsewhere : (q : List ℕ) → bytes_eq location q ≡ false → row_in p number chosen q n ≡ None
  elsewhere q h = ap (option_map _) (ap (option_and_then (left_by q)) there ∙ ap (λ b. cond b (written_value op) None) (ap (λ l. bytes_eq l q) (sym same) ∙ h))

  pub op_listed : (q : List ℕ) (old new : List ChosenWriter) → new ≡ cond (bytes_eq location q) (old ++ cons_option row []) old → new ≡ old ++ cons_option (row_in p number chosen q n) []
  op_listed q old new e = e ∙ at (bytes_eq location q) refl
    where
      at : (b : Bool) → bytes_eq location q ≡ b → cond b (old ++ cons_option row []) old ≡ old ++ cons_option (row_in p number chosen q n) []
      at true h = ap (λ r. old ++ cons_option r []) (row_is ∙ ap (λ l. row_in p number chosen l n) (same_bytes location q h))
      at false h = sym (append-nil old) ∙ ap (λ r. old ++ cons_option r []) (sym (elsewhere q h))

-- the operation at a place
pub op_there : (p : Process) (ops : List Op) (k : ℕ) (op : Op) → k < length p.operations → ops ≡ p.operations → op ≡ get_or ops k op → at_place p.operations (k + 1) ≡ Some op
op_there p ops k op l same at = place_more p.operations k ∙ read p.operations k op l ∙ ap Some (sym (at ∙ ap (λ xs. get_or xs k op) same))
  where
    read : {X : Type 0} (xs : List X) (j : ℕ) (d : X) → j < length xs → slice_get xs j ≡ Some (get_or xs j d)
    read [] j d m = absurd (omega (arith, m))
    read (x ∷ xs) zero d m = refl
    read (x ∷ xs) (suc j) d m = read xs j d (omega (arith, m))

-- an operation that does not write
pub none_listed : (b : Bool) (old new : List ChosenWriter) → new ≡ old → new ≡ cond b (old ++ cons_option None []) old
none_listed true old new e = e ∙ sym (append-nil old)
none_listed false old new e = e

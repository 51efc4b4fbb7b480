-- What the words of a line say, and the words of a statement.
use Rattle.std.proofs.Common.{◌≡◌, ◌⊎◌, ◌≤◌, ◌-◌, ℕ, suc, List, [], ◌∷◌, ◌++◌, length, take, drop, map, Bool, true, false, ◌&&◌, codes, refl, inl, inr, ap, sym, ◌∙◌, arith, append-nil}
use Rattle.std.specs.Prelude.{Option, Some, None, nat_le, slice_index_or, if◌then◌else◌}
use Rattle.std.specs.Option.{option_and_then}
use Rattle.std.specs.List.{cons_option}
use Rattle.std.specs.Str.{bytes_eq}
use Rattle.std.proofs.Math.Seq.{drop-cons, drop-length}
use Rattle.std.proofs.lemmas.Bool.{and_parts, cases_order, leb-true}
use Rattle.std.proofs.lemmas.List.{length-take-le, take_all, take-append-drop}
use Rattle.std.proofs.lemmas.Option.{option_and_then_some}
use Rattle.trace_semantics.proofs.NameLemmas.{same_bytes}
use Rattle.trace_text.specs.Read.{saying}
use Rattle.trace_text.specs.Statement.{Unsaid, FromInit, FromOp, Untimed, At, Statement, Init, Final, Proc, Read, Write, Update, Before, source_words, words_for, untimed_statement, with_times, timed_statement, first_said, statement_of}
use Rattle.trace_text.specs.TraceFault.{statements_of}
use Rattle.trace_text.specs.declared.version.Version.{Version}
use Rattle.trace_text.specs.Version.{has_version_2_lines, has_times}

-- more words than an operation with an origin has say nothing, and none say more with times after them
long_untimed : (two : Bool) (words : List (List ℕ)) → 8 ≤ length words → untimed_statement two words ≡ None
long_untimed two [] l = absurd (omega (arith, l))
long_untimed two (a ∷ []) l = absurd (omega (arith, l))
long_untimed two (a ∷ b ∷ []) l = absurd (omega (arith, l))
long_untimed two (a ∷ b ∷ c ∷ []) l = absurd (omega (arith, l))
long_untimed two (a ∷ b ∷ c ∷ d ∷ []) l = absurd (omega (arith, l))
long_untimed two (a ∷ b ∷ c ∷ d ∷ e ∷ []) l = absurd (omega (arith, l))
long_untimed two (a ∷ b ∷ c ∷ d ∷ e ∷ f ∷ []) l = absurd (omega (arith, l))
long_untimed two (a ∷ b ∷ c ∷ d ∷ e ∷ f ∷ g ∷ []) l = absurd (omega (arith, l))
long_untimed two (a ∷ b ∷ c ∷ d ∷ e ∷ f ∷ g ∷ h ∷ ws) l = refl

none_timed : (b : Bool) (f : Statement → Option Statement) (o : Option Statement) → o ≡ None → (if b then option_and_then f o else None) ≡ None
none_timed true f o e = ap (option_and_then f) e
none_timed false f o e = refl

long_timed : (words : List (List ℕ)) → 11 ≤ length words → timed_statement words ≡ None
long_timed words l =
    let long : 8 ≤ length (take (length words - 3) words) = omega (arith, l, length-take-le (length words - 3) words (omega arith)) in
    none_timed (nat_le 3 (length words) && bytes_eq (slice_index_or words (length words - 3) []) (codes "at"))
    (λ s. with_times s (slice_index_or words (length words - 2) []) (slice_index_or words (length words - 1) [])) (untimed_statement true (take (length words - 3) words)) (long_untimed true (take (length words - 3) words) long)

either_none : (o p : Option Statement) (b : Bool) → o ≡ None → p ≡ None → first_said o (if b then p else None) ≡ None
either_none o p true e f = (λ i. first_said (e i) (f i))
either_none o p false e f = (λ i. first_said (e i) None)

long_says_nothing : (version : Version) (words : List (List ℕ)) → 11 ≤ length words → statement_of version words ≡ None
long_says_nothing version words l =
    either_none (untimed_statement (has_version_2_lines version) words) (timed_statement words) (has_times version) (long_untimed (has_version_2_lines version) words (omega (arith, l))) (long_timed words l)

-- the first eleven words say as much as all
pub said_first : (version : Version) (words : List (List ℕ)) → statement_of version (take 11 words) ≡ statement_of version words
said_first version words =
    elim (cases_order (length words) 11) [
      | inl same ↦ ap (statement_of version) (take_all 11 words (omega (arith, same)))
      | inr (inl fewer) ↦ ap (statement_of version) (take_all 11 words (omega (arith, fewer)))
      | inr (inr more) ↦ (
          let cut : length (take 11 words) ≡ 11 = length-take-le 11 words (omega (arith, more)) in
          long_says_nothing version (take 11 words) (omega (arith, cut)) ∙ sym (long_says_nothing version words (omega (arith, more))))
    ]

chosen : (b : Bool) (x s : Statement) (rest : Option Statement) → (if b then Some x else rest) ≡ Some s → ((b ≡ true) × (x ≡ s)) ⊎ (rest ≡ Some s)
chosen true x s rest h = inl (refl, (cc))
chosen false x s rest h = inr h

none_said : {A : Type 0} (s : Statement) → None ≡ Some s → A
none_said s h = absurd (cc)

two_words : (key name : List ℕ) (s : Statement) → (if bytes_eq key (codes "proc") then Some (Proc name) else None) ≡ Some s → key ∷ name ∷ [] ≡ words_for s
two_words key name s h = elim (chosen (bytes_eq key (codes "proc")) (Proc name) s None h) [
  | inl (b, e) ↦ ap (λ k. k ∷ name ∷ []) (same_bytes key (codes "proc") b) ∙ ap words_for e
  | inr n ↦ none_said s n
]

three_words_last : (key a d : List ℕ) (s : Statement) → (if bytes_eq key (codes "R") then Some (Read a d Unsaid Untimed) else if bytes_eq key (codes "W") then Some (Write a d Untimed) else None) ≡ Some s → key ∷ a ∷ d ∷ [] ≡ words_for s
three_words_last key a d s h = elim (chosen (bytes_eq key (codes "R")) (Read a d Unsaid Untimed) s (if bytes_eq key (codes "W") then Some (Write a d Untimed) else None) h) [
  | inl (b, e) ↦ ap (λ k. k ∷ a ∷ d ∷ []) (same_bytes key (codes "R") b) ∙ ap words_for e
  | inr n ↦ elim (chosen (bytes_eq key (codes "W")) (Write a d Untimed) s None n) [
    | inl (b, e) ↦ ap (λ k. k ∷ a ∷ d ∷ []) (same_bytes key (codes "W") b) ∙ ap words_for e
    | inr m ↦ none_said s m
  ]
]

three_words : (key a d : List ℕ) (s : Statement) → (if bytes_eq key (codes "init") then Some (Init a d) else if bytes_eq key (codes "final") then Some (Final a d)
    else if bytes_eq key (codes "R") then Some (Read a d Unsaid Untimed) else if bytes_eq key (codes "W") then Some (Write a d Untimed) else None) ≡ Some s → key ∷ a ∷ d ∷ [] ≡ words_for s
three_words key a d s h = elim (chosen (bytes_eq key (codes "init")) (Init a d) s (if bytes_eq key (codes "final") then Some (Final a d)
    else if bytes_eq key (codes "R") then Some (Read a d Unsaid Untimed) else if bytes_eq key (codes "W") then Some (Write a d Untimed) else None) h) [
      | inl (b, e) ↦ ap (λ k. k ∷ a ∷ d ∷ []) (same_bytes key (codes "init") b) ∙ ap words_for e
      | inr n ↦ elim (chosen (bytes_eq key (codes "final")) (Final a d) s (if bytes_eq key (codes "R") then Some (Read a d Unsaid Untimed) else if bytes_eq key (codes "W") then Some (Write a d Untimed) else None) n) [
        | inl (b, e) ↦ ap (λ k. k ∷ a ∷ d ∷ []) (same_bytes key (codes "final") b) ∙ ap words_for e
        | inr m ↦ three_words_last key a d s m
      ]
    ]

four_words : (key a d e : List ℕ) (s : Statement) → (if bytes_eq key (codes "U") then Some (Update a d e Unsaid Untimed) else None) ≡ Some s → key ∷ a ∷ d ∷ e ∷ [] ≡ words_for s
four_words key a d e s h = elim (chosen (bytes_eq key (codes "U")) (Update a d e Unsaid Untimed) s None h) [
  | inl (b, t) ↦ ap (λ k. k ∷ a ∷ d ∷ e ∷ []) (same_bytes key (codes "U") b) ∙ ap words_for t
  | inr n ↦ none_said s n
]

-- the words of a test that each passes
pub record AreThree (two : Bool) (key key_text c c_text d d_text : List ℕ) : Type 0 where
  pub key_is : key ≡ key_text
  pub c_is : c ≡ c_text
  pub d_is : d ≡ d_text

three_tests : (two : Bool) (key key_text c c_text d d_text : List ℕ) → (two && bytes_eq key key_text && bytes_eq c c_text && bytes_eq d d_text) ≡ true → AreThree two key key_text c c_text d d_text
three_tests two key key_text c c_text d d_text h =
    let first = and_parts (two && bytes_eq key key_text && bytes_eq c c_text) (bytes_eq d d_text) h in
    let second = and_parts (two && bytes_eq key key_text) (bytes_eq c c_text) first.0 in
    let third = and_parts two (bytes_eq key key_text) second.0 in
    record { key_is = same_bytes key key_text third.1; c_is = same_bytes c c_text second.1; d_is = same_bytes d d_text first.1 }

two_tests : (two : Bool) (key key_text c c_text : List ℕ) → (two && bytes_eq key key_text && bytes_eq c c_text) ≡ true → (key ≡ key_text) × (c ≡ c_text)
two_tests two key key_text c c_text h =
    let second = and_parts (two && bytes_eq key key_text) (bytes_eq c c_text) h in
    let third = and_parts two (bytes_eq key key_text) second.0 in
    (same_bytes key key_text third.1, same_bytes c c_text second.1)

five_words : (two : Bool) (key a b c d : List ℕ) (s : Statement) → (if two && bytes_eq key (codes "R") && bytes_eq c (codes "from") && bytes_eq d (codes "init") then Some (Read a b FromInit Untimed)
    else if two && bytes_eq key (codes "before") then Some (Before a b c d) else None) ≡ Some s → key ∷ a ∷ b ∷ c ∷ d ∷ [] ≡ words_for s
five_words two key a b c d s h = elim (chosen (two && bytes_eq key (codes "R") && bytes_eq c (codes "from") && bytes_eq d (codes "init")) (Read a b FromInit Untimed) s (if two && bytes_eq key (codes "before") then Some (Before a b c d) else None) h) [
  | inl (t, e) ↦ (let w = three_tests two key (codes "R") c (codes "from") d (codes "init") t in (λ i. w.key_is i ∷ a ∷ b ∷ w.c_is i ∷ w.d_is i ∷ []) ∙ ap words_for e)
  | inr n ↦ elim (chosen (two && bytes_eq key (codes "before")) (Before a b c d) s None n) [
    | inl (t, e) ↦ ap (λ k. k ∷ a ∷ b ∷ c ∷ d ∷ []) (same_bytes key (codes "before") (and_parts two (bytes_eq key (codes "before")) t).1) ∙ ap words_for e
    | inr m ↦ none_said s m
  ]
]

six_words : (two : Bool) (key a b c d e : List ℕ) (s : Statement) → (if two && bytes_eq key (codes "R") && bytes_eq c (codes "from") then Some (Read a b (FromOp d e) Untimed)
    else if two && bytes_eq key (codes "U") && bytes_eq d (codes "from") && bytes_eq e (codes "init") then Some (Update a b c FromInit Untimed) else None) ≡ Some s → key ∷ a ∷ b ∷ c ∷ d ∷ e ∷ [] ≡ words_for s
six_words two key a b c d e s h = elim (chosen (two && bytes_eq key (codes "R") && bytes_eq c (codes "from")) (Read a b (FromOp d e) Untimed) s
    (if two && bytes_eq key (codes "U") && bytes_eq d (codes "from") && bytes_eq e (codes "init") then Some (Update a b c FromInit Untimed) else None) h) [
      | inl (t, f) ↦ (let w = two_tests two key (codes "R") c (codes "from") t in (λ i. w.0 i ∷ a ∷ b ∷ w.1 i ∷ d ∷ e ∷ []) ∙ ap words_for f)
      | inr n ↦ elim (chosen (two && bytes_eq key (codes "U") && bytes_eq d (codes "from") && bytes_eq e (codes "init")) (Update a b c FromInit Untimed) s None n) [
        | inl (t, f) ↦ (let w = three_tests two key (codes "U") d (codes "from") e (codes "init") t in (λ i. w.key_is i ∷ a ∷ b ∷ c ∷ w.c_is i ∷ w.d_is i ∷ []) ∙ ap words_for f)
        | inr m ↦ none_said s m
      ]
    ]

seven_words : (two : Bool) (key a b c d e f : List ℕ) (s : Statement) → (if two && bytes_eq key (codes "U") && bytes_eq d (codes "from") then Some (Update a b c (FromOp e f) Untimed) else None) ≡ Some s → key ∷ a ∷ b ∷ c ∷ d ∷ e ∷ f ∷ [] ≡ words_for s
seven_words two key a b c d e f s h = elim (chosen (two && bytes_eq key (codes "U") && bytes_eq d (codes "from")) (Update a b c (FromOp e f) Untimed) s None h) [
  | inl (t, g) ↦ (let w = two_tests two key (codes "U") d (codes "from") t in (λ i. w.0 i ∷ a ∷ b ∷ c ∷ w.1 i ∷ e ∷ f ∷ []) ∙ ap words_for g)
  | inr n ↦ none_said s n
]

-- the words are those of what they say without times
untimed_said : (two : Bool) (words : List (List ℕ)) (s : Statement) → untimed_statement two words ≡ Some s → words ≡ words_for s
untimed_said two [] s h = none_said s h
untimed_said two (a ∷ []) s h = none_said s h
untimed_said two (a ∷ b ∷ []) s h = two_words a b s h
untimed_said two (a ∷ b ∷ c ∷ []) s h = three_words a b c s h
untimed_said two (a ∷ b ∷ c ∷ d ∷ []) s h = four_words a b c d s h
untimed_said two (a ∷ b ∷ c ∷ d ∷ e ∷ []) s h = five_words two a b c d e s h
untimed_said two (a ∷ b ∷ c ∷ d ∷ e ∷ f ∷ []) s h = six_words two a b c d e f s h
untimed_said two (a ∷ b ∷ c ∷ d ∷ e ∷ f ∷ g ∷ []) s h = seven_words two a b c d e f g s h
untimed_said two (a ∷ b ∷ c ∷ d ∷ e ∷ f ∷ g ∷ i ∷ ws) s h = none_said s h

-- the words of an operation with times are those of it without, and those of the times
timed_words : (u s : Statement) (start end : List ℕ) → with_times u start end ≡ Some s → words_for s ≡ words_for u ++ codes "at" ∷ start ∷ end ∷ []
timed_words (Init a d) s start end h = none_said s h
timed_words (Final a d) s start end h = none_said s h
timed_words (Proc name) s start end h = none_said s h
timed_words (Before p i q j) s start end h = none_said s h
timed_words (Read a d source (At x y)) s start end h = none_said s h
timed_words (Write a d (At x y)) s start end h = none_said s h
timed_words (Update a d e source (At x y)) s start end h = none_said s h
timed_words (Read a d source Untimed) s start end h =
    let same : Read a d source (At start end) ≡ s = cc in
    sym (ap words_for same) ∙ ap (λ l. codes "R" ∷ a ∷ d ∷ (l ++ codes "at" ∷ start ∷ end ∷ [])) (sym (append-nil (source_words source)))
timed_words (Write a d Untimed) s start end h = let same : Write a d (At start end) ≡ s = cc in sym (ap words_for same)
timed_words (Update a d e source Untimed) s start end h =
    let same : Update a d e source (At start end) ≡ s = cc in
    sym (ap words_for same) ∙ ap (λ l. codes "U" ∷ a ∷ d ∷ e ∷ (l ++ codes "at" ∷ start ∷ end ∷ [])) (sym (append-nil (source_words source)))

-- a list and its last three elements
last_three : (words : List (List ℕ)) → 3 ≤ length words →
    words ≡ take (length words - 3) words ++ slice_index_or words (length words - 3) [] ∷ slice_index_or words (length words - 2) [] ∷ slice_index_or words (length words - 1) [] ∷ []
last_three words l =
    let second : suc (length words - 3) ≡ length words - 2 = omega arith in
    let third : suc (length words - 2) ≡ length words - 1 = omega arith in
    let past : suc (length words - 1) ≡ length words = omega arith in
    sym (take-append-drop (length words - 3) words)
    ∙ ap (λ rest. take (length words - 3) words ++ rest) (drop-cons words (length words - 3) [] (omega arith)
    ∙ ap (λ rest. slice_index_or words (length words - 3) [] ∷ rest) (ap (λ k. drop k words) second ∙ drop-cons words (length words - 2) [] (omega arith)
    ∙ ap (λ rest. slice_index_or words (length words - 2) [] ∷ rest) (ap (λ k. drop k words) third ∙ drop-cons words (length words - 1) [] (omega arith)
    ∙ ap (λ rest. slice_index_or words (length words - 1) [] ∷ rest) (ap (λ k. drop k words) past ∙ drop-length words))))

passed : (b : Bool) (o : Option Statement) (s : Statement) → (if b then o else None) ≡ Some s → (b ≡ true) × (o ≡ Some s)
passed true o s h = (refl, h)
passed false o s h = none_said s h

timed_said : (words : List (List ℕ)) (s : Statement) → timed_statement words ≡ Some s → words ≡ words_for s
timed_said words s h =
    let front = take (length words - 3) words in
    let start = slice_index_or words (length words - 2) [] in
    let end = slice_index_or words (length words - 1) [] in
    let parts = passed (nat_le 3 (length words) && bytes_eq (slice_index_or words (length words - 3) []) (codes "at")) (option_and_then (λ u. with_times u start end) (untimed_statement true front)) s h in
    let tests = and_parts (nat_le 3 (length words)) (bytes_eq (slice_index_or words (length words - 3) []) (codes "at")) parts.0 in
    let long : 3 ≤ length words = leb-true 3 (length words) tests.0 in
    option_and_then_some (λ u. with_times u start end) (untimed_statement true front) s parts.1 (λ u says timed.
    last_three words long
    ∙ (λ i. untimed_said true front u says i ++ same_bytes (slice_index_or words (length words - 3) []) (codes "at") tests.1 i ∷ start ∷ end ∷ [])
    ∙ sym (timed_words u s start end timed))

first_or_second : (o p : Option Statement) (s : Statement) → first_said o p ≡ Some s → (o ≡ Some s) ⊎ (p ≡ Some s)
first_or_second None p s h = inr h
first_or_second (Some u) p s h = inl h

-- the words are those of what they say
pub words_said : (version : Version) (words : List (List ℕ)) (s : Statement) → statement_of version words ≡ Some s → words ≡ words_for s
words_said version words s h =
    elim (first_or_second (untimed_statement (has_version_2_lines version) words) (if has_times version then timed_statement words else None) s h) [
      | inl untimed ↦ untimed_said (has_version_2_lines version) words s untimed
      | inr timed ↦ timed_said words s (passed (has_times version) (timed_statement words) s timed).1
    ]

-- lines of statements say them
pub statements_said : (version : Version) (ss : List Statement) → map (saying version) ss ≡ map Some ss → statements_of version (map words_for ss) ≡ ss
statements_said version [] h = refl
statements_said version (s ∷ ss) h =
    let here : statement_of version (words_for s) ≡ Some s = cc in
    let rest : map (saying version) ss ≡ map Some ss = cc in
    ap (λ o. cons_option o (statements_of version (map words_for ss))) here ∙ ap (λ l. s ∷ l) (statements_said version ss rest)

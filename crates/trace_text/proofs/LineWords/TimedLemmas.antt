-- Words of a line by their places, and what those say that end in times.
use Rattle.std.proofs.Common.{◌≡◌, ◌<◌, ◌≤◌, ◌-◌, ◌+◌, ℕ, zero, suc, List, [], ◌∷◌, length, take, get_or, map, Bool, true, false, ◌&&◌, codes, refl, ap, sym, ◌∙◌, arith}
use Rattle.std.specs.Prelude.{Option, Some, None, nat_le, slice_index_or, if◌then◌else◌}
use Rattle.std.specs.Borrow.{Bor}
use Rattle.std.specs.Option.{option_and_then}
use Rattle.std.specs.Str.{bytes_eq}
use Rattle.std.proofs.lemmas.Bool.{le-leb, lt-leb}
use Rattle.trace_text.specs.Statement.{Statement, untimed_statement, with_times, timed_statement, first_said, statement_of}
use Rattle.trace_text.specs.Version.{has_version_2_lines, has_times}
use Rattle.trace_text.specs.declared.version.Version.{Version}

-- the words of the code, as lists of bytes
abbrev pub seen : List (Bor (List ℕ)) → List (List ℕ)
seen ws = map (λ (w : Bor (List ℕ)). w.now) ws

word_at : (ws : List (Bor (List ℕ))) (k : ℕ) (d : Bor (List ℕ)) → k < length ws → slice_index_or (seen ws) k [] ≡ (get_or ws k d).now
word_at [] k d l = absurd (omega (arith, l))
word_at (x ∷ ws) zero d l = refl
word_at (x ∷ ws) (suc k) d l = word_at ws k d (omega (arith, l))

front_seen : (n : ℕ) (ws : List (Bor (List ℕ))) → take n (seen ws) ≡ seen (take n ws)
front_seen zero ws = refl
front_seen (suc n) [] = refl
front_seen (suc n) (x ∷ ws) = ap (λ l. x.now ∷ l) (front_seen n ws)

length_seen : (ws : List (Bor (List ℕ))) → length (seen ws) ≡ length ws
length_seen [] = refl
length_seen (x ∷ ws) = ap suc (length_seen ws)

-- what is said before the last three words, with the times that these say
abbrev with_last : List (List ℕ) → Option Statement → Option Statement
with_last words o = option_and_then (λ s. with_times s (slice_index_or words (length words - 2) []) (slice_index_or words (length words - 1) [])) o

abbrev timed_by : List (List ℕ) → Option Statement
timed_by words = with_last words (untimed_statement true (take (length words - 3) words))

-- the third last word, and the words before it
at_seen : (ws : List (Bor (List ℕ))) (d : Bor (List ℕ)) → 3 ≤ length ws → bytes_eq (slice_index_or (seen ws) (length (seen ws) - 3) []) (codes "at") ≡ bytes_eq (get_or ws (length ws - 3) d).now (codes "at")
at_seen ws d l =
    ap (λ n. bytes_eq (slice_index_or (seen ws) (n - 3) []) (codes "at")) (length_seen ws)
    ∙ ap (λ (w : List ℕ). bytes_eq w (codes "at")) (word_at ws (length ws - 3) d (omega (arith, l)))

front_said : (ws : List (Bor (List ℕ))) → untimed_statement true (take (length (seen ws) - 3) (seen ws)) ≡ untimed_statement true (seen (take (length ws - 3) ws))
front_said ws = ap (λ n. untimed_statement true (take (n - 3) (seen ws))) (length_seen ws) ∙ ap (untimed_statement true) (front_seen (length ws - 3) ws)

-- fewer words than the last three say no times, and neither do others than `at`
pub too_short : (ws : List (Bor (List ℕ))) → length ws < 3 → timed_statement (seen ws) ≡ None
too_short ws l =
    let words = seen ws in
    let few : length words < 3 = omega (arith, l, length_seen ws) in
    ap (λ b. if b && bytes_eq (slice_index_or words (length words - 3) []) (codes "at") then timed_by words else None) (lt-leb 3 (length words) few)

not_at : (a b : Bool) (o : Option Statement) → b ≡ false → (if a && b then o else None) ≡ None
not_at true true o h = absurd (cc)
not_at true false o h = refl
not_at false b o h = refl

pub other_word : (ws : List (Bor (List ℕ))) (d : Bor (List ℕ)) (is : Bool) → 3 ≤ length ws → is ≡ bytes_eq (get_or ws (length ws - 3) d).now (codes "at") → is ≡ false → timed_statement (seen ws) ≡ None
other_word ws d is l e h =
    not_at (nat_le 3 (length (seen ws))) (bytes_eq (slice_index_or (seen ws) (length (seen ws) - 3) []) (codes "at")) (timed_by (seen ws)) (at_seen ws d l ∙ sym e ∙ h)

behind_at : (ws : List (Bor (List ℕ))) (d : Bor (List ℕ)) (is : Bool) → 3 ≤ length ws → is ≡ bytes_eq (get_or ws (length ws - 3) d).now (codes "at") → is ≡ true → timed_statement (seen ws) ≡ timed_by (seen ws)
behind_at ws d is l e h =
    let words = seen ws in
    let long : 3 ≤ length words = omega (arith, l, length_seen ws) in
    (λ i. if le-leb 3 (length words) long i && (at_seen ws d l ∙ sym e ∙ h) i then timed_by words else None)

-- the words before them say nothing, or this
pub none_timed_behind : (ws : List (Bor (List ℕ))) (d : Bor (List ℕ)) (is : Bool) → 3 ≤ length ws → is ≡ bytes_eq (get_or ws (length ws - 3) d).now (codes "at") → is ≡ true → None ≡ untimed_statement true (seen (take (length ws - 3) ws)) →
    timed_statement (seen ws) ≡ None
none_timed_behind ws d is l e h says = behind_at ws d is l e h ∙ ap (with_last (seen ws)) (front_said ws ∙ sym says)

pub timed_behind : (ws : List (Bor (List ℕ))) (d x y : Bor (List ℕ)) (is : Bool) (s : Statement) → 3 ≤ length ws → is ≡ bytes_eq (get_or ws (length ws - 3) d).now (codes "at") → is ≡ true → Some s ≡ untimed_statement true (seen (take (length ws - 3) ws)) →
    timed_statement (seen ws) ≡ with_times s (get_or ws (length ws - 3 + 1) x).now (get_or ws (length ws - 3 + 2) y).now
timed_behind ws d x y is s l e h says =
    let words = seen ws in
    let second : length words - 2 ≡ length ws - 3 + 1 = omega (arith, l, length_seen ws) in
    let third : length words - 1 ≡ length ws - 3 + 2 = omega (arith, l, length_seen ws) in
    let start : slice_index_or words (length words - 2) [] ≡ (get_or ws (length ws - 3 + 1) x).now = ap (λ k. slice_index_or words k []) second ∙ word_at ws (length ws - 3 + 1) x (omega (arith, l)) in
    let end : slice_index_or words (length words - 1) [] ≡ (get_or ws (length ws - 3 + 2) y).now = ap (λ k. slice_index_or words k []) third ∙ word_at ws (length ws - 3 + 2) y (omega (arith, l)) in
    behind_at ws d is l e h ∙ ap (with_last words) (front_said ws ∙ sym says) ∙ (λ i. with_times s (start i) (end i))

-- what the words say without times, and else with them
pub first_is : (version : Version) (words : List (List ℕ)) (two : Bool) (s : Statement) → two ≡ has_version_2_lines version → Some s ≡ untimed_statement two words → Some s ≡ statement_of version words
first_is version words two s is says = ap (λ (o : Option Statement). first_said o (if has_times version then timed_statement words else None)) (says ∙ ap (λ b. untimed_statement b words) is)

pub second_is : (version : Version) (words : List (List ℕ)) (two : Bool) (o : Option Statement) → two ≡ has_version_2_lines version → None ≡ untimed_statement two words → o ≡ (if has_times version then timed_statement words else None) → o ≡ statement_of version words
second_is version words two o is says behind =
    behind ∙ ap (λ (p : Option Statement). first_said p (if has_times version then timed_statement words else None)) (says ∙ ap (λ b. untimed_statement b words) is)

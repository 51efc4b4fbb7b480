-- How a piece is passed line by line.
use Rattle.std.proofs.Common.{◌≡◌, ℕ, zero, suc, ◌+◌, ◌<◌, ◌≤◌, ◌⊎◌, Bool, true, false, not, List, [], ◌∷◌, ◌++◌, length, take, drop, get_or, refl, sym, ap, ◌∙◌, subst, inl, inr, arith, append-nil, append_assoc, if◌then◌else◌, ◌||◌, ◌&&◌}
use Rattle.std.specs.Prelude.{Some, None}
use Rattle.std.specs.List.{list_any}
use Rattle.std.proofs.lemmas.Bool.{false_from_ne_true}
use Rattle.std.proofs.lemmas.List.{take-append-drop, drop_more, length-append, take_all}
use Rattle.std.proofs.Math.Seq.{take-append_seam}
use Rattle.std.proofs.lemmas.List.Folds.{list_any_more, list_any-append}
use Rattle.memchr.specs.Find.{IsFirstByte}
use Rattle.text_lines.specs.Lines.{lines_of, is_line_feed, without_empty_end}
use Rattle.text_lines.proofs.Cutting.LineLemmas.{line_ended, split_whole}
use Rattle.trace_pieces.specs.Pieces.{IsCut, IsCutOff, begins_trace, hold_one, says, start_trace}
use Rattle.trace_pieces.specs.Scanning.{AreWhole, CutOff, HasWholeLine, IsFirstLine, IsPassed}

-- ---- the first line

or_false : (a b : Bool) → a ≡ false → b ≡ false → (a || b) ≡ false
or_false true b x y = absurd (cc)
or_false false b x y = y

-- none of the first bytes passes the test
none_pass : (p : ℕ → Bool) (xs : List ℕ) (n : ℕ) → n ≤ length xs → ((j : ℕ) → j < n → p (get_or xs j 0) ≡ false) → list_any p (take n xs) ≡ false
none_pass p xs zero h f = refl
none_pass p xs (suc n) h f =
    let more : n + 1 ≡ suc n = omega arith in
    subst (λ m. list_any p (take m xs) ≡ false) more
    (list_any_more p xs n 0 (omega (arith, h)) ∙ or_false _ _ (none_pass p xs n (omega (arith, h)) (λ j l. f j (omega (arith, l)))) (f n (omega arith)))

feed_is : (b : ℕ) → is_line_feed b ≡ true → b ≡ 10
feed_is b h = grind (arith, h)

-- a text with a line feed at this first place
pub line_with_feed : (text : List ℕ) (k : ℕ) → IsFirstByte is_line_feed text (Some k) → IsFirstLine text (take k text) (drop (k + 1) text)
line_with_feed text k h =
    let within : k < length text = h.0.high in
    record {
      no_feed = none_pass is_line_feed text k (omega (arith, within)) (λ j l. false_from_ne_true _ (h.0.before j (omega arith) l));
      parts = inl (sym (take-append-drop k text) ∙ ap (λ l. take k text ++ l) (drop_more text k 0 within ∙ ap (λ b. b ∷ drop (k + 1) text) (feed_is _ h.1)));
    }

-- and one without
pub line_without_feed : (text : List ℕ) → IsFirstByte is_line_feed text None → IsFirstLine text text []
line_without_feed text h = record {
  no_feed = subst (λ l. list_any is_line_feed l ≡ false) (take_all (length text) text (omega arith)) (none_pass is_line_feed text (length text) (omega arith) (λ j l. false_from_ne_true _ (h j (omega arith) l)));
  parts = inr (refl, refl);
}

-- bytes without a line feed are one line
one_line : (line : List ℕ) → 0 < length line → list_any is_line_feed line ≡ false → lines_of line ≡ line ∷ []
one_line [] some none = absurd (omega (arith, some))
one_line (b ∷ line) some none = ap without_empty_end (split_whole is_line_feed (b ∷ line) none)

-- the lines of a text by its first one
pub lines_by_first : (text line after : List ℕ) → 0 < length text → IsFirstLine text line after → lines_of text ≡ line ∷ lines_of after
lines_by_first text line after some first = elim first.parts [
  | inl e ↦ ap lines_of e ∙ line_ended line after first.no_feed
  | inr e ↦ ap lines_of e.0 ∙ one_line line (subst (λ t. 0 < length t) e.0 some) first.no_feed ∙ (λ i. line ∷ lines_of (sym e.1 i))
]

-- what follows the first line is shorter
pub shorter : (text line after : List ℕ) → 0 < length text → IsFirstLine text line after → length after < length text
shorter text line after some first = elim first.parts [
  | inl e ↦ let l = ap length e ∙ length-append line (10 ∷ after) in omega (arith, l)
  | inr e ↦ let l = ap length e.1 in omega (arith, some, l)
]

-- ---- what one more line does

-- one more line in a piece
one_more_at : (b : Bool) (line : List ℕ) (rest : Bool) (lines : List (List ℕ)) → (if b then not (list_any begins_trace lines) else hold_one lines) ≡ true →
    ((b || list_any says lines) ≡ true → begins_trace line ≡ false) → ((list_any says lines ≡ true → begins_trace line ≡ false) → hold_one lines ≡ true → hold_one (lines ++ line ∷ []) ≡ true) →
    (if b then not (list_any begins_trace (lines ++ line ∷ [])) else hold_one (lines ++ line ∷ [])) ≡ true
one_more_at true line rest lines one next more = ap not (list_any-append begins_trace lines (line ∷ [])) ∙ none (list_any begins_trace lines) (begins_trace line) one (next refl)
  where
    none : (a b : Bool) → not a ≡ true → b ≡ false → not (a || (b || false)) ≡ true
    none true b x y = absurd (cc)
    none false true x y = absurd (cc)
    none false false x y = refl
one_more_at false line rest lines one next more = more next one

hold_one_alone : (b : Bool) → (if b then true else true) ≡ true
hold_one_alone true = refl
hold_one_alone false = refl

one_more : (lines : List (List ℕ)) (line : List ℕ) → hold_one lines ≡ true → (list_any says lines ≡ true → begins_trace line ≡ false) → hold_one (lines ++ line ∷ []) ≡ true
one_more [] line one next = hold_one_alone (says line)
one_more (first ∷ lines) line one next = one_more_at (says first) line true lines one next (λ n o. one_more lines line o n)

-- nothing is passed yet
pub nothing_passed : (text : List ℕ) → IsPassed text [] text 0 false
nothing_passed text = record { parts = refl; whole = inr (λ more. refl); counted = refl; said_is = refl; one = refl }

-- a piece that was passed
pub record PassedOn (text after : List ℕ) (count : ℕ) (said : Bool) : Type 0 where
  pub front : List ℕ
  pub passed : IsPassed text front after count said

whole_if_more : (front rest : List ℕ) → 0 < length rest → (rest ≡ []) ⊎ AreWhole front → AreWhole front
whole_if_more front rest some (inl e) = absurd (let l = ap length e in omega (arith, some, l))
whole_if_more front rest some (inr w) = w

said_more : (said : Bool) (a b : Bool) → said ≡ a → (a || (b || false)) ≡ (said || b)
said_more said true b e = ap (λ s. s || b) (sym e)
said_more said false true e = ap (λ s. s || true) (sym e)
said_more said false false e = ap (λ s. s || false) (sym e)

module _ (text front rest : List ℕ) (count : ℕ) (said : Bool) (passed : IsPassed text front rest count said) (line after : List ℕ) (some : 0 < length rest) (first : IsFirstLine rest line after)
    (next : said ≡ true → begins_trace line ≡ false) where
  whole : AreWhole front
  whole = whole_if_more front rest some passed.whole

  -- by the lines of what is passed then
  passed_with : (front_then : List ℕ) → text ≡ front_then ++ after → (after ≡ []) ⊎ AreWhole front_then → lines_of front_then ≡ lines_of front ++ line ∷ [] → IsPassed text front_then after (count + 1) (said || says line)
  passed_with front_then parts whole_then lines = record {
    parts = parts;
    whole = whole_then;
    counted = (let l = ap length lines ∙ length-append (lines_of front) (line ∷ []) in omega (arith, l, passed.counted));
    said_is = sym (ap (list_any says) lines ∙ list_any-append says (lines_of front) (line ∷ []) ∙ said_more said (list_any says (lines_of front)) (says line) passed.said_is);
    one = subst (λ ls. hold_one ls ≡ true) (sym lines) (one_more (lines_of front) line passed.one (λ s. next (passed.said_is ∙ s)));
  }

  ended : rest ≡ line ++ 10 ∷ after → PassedOn text after (count + 1) (said || says line)
  ended e =
      let front_then : List ℕ = front ++ (line ++ 10 ∷ []) in
      let lines : lines_of front_then ≡ lines_of front ++ line ∷ [] = whole (line ++ 10 ∷ []) ∙ ap (λ ls. lines_of front ++ ls) (line_ended line [] first.no_feed) in
      record {
        front = front_then;
        passed = passed_with front_then
            (passed.parts ∙ ap (λ r. front ++ r) (e ∙ sym (append_assoc line (10 ∷ []) after)) ∙ sym (append_assoc front (line ++ 10 ∷ []) after))
            (inr (λ more. ap lines_of (append_assoc front (line ++ 10 ∷ []) more ∙ ap (λ l. front ++ l) (append_assoc line (10 ∷ []) more)) ∙ whole (line ++ 10 ∷ more) ∙ ap (λ ls. lines_of front ++ ls) (line_ended line more first.no_feed) ∙ sym (append_assoc (lines_of front) (line ∷ []) (lines_of more)) ∙ ap (λ ls. ls ++ lines_of more) (sym lines)))
            lines;
      }

  last : rest ≡ line → after ≡ [] → PassedOn text after (count + 1) (said || says line)
  last e none =
      let lines : lines_of (front ++ line) ≡ lines_of front ++ line ∷ [] = whole line ∙ ap (λ ls. lines_of front ++ ls) (one_line line (subst (λ t. 0 < length t) e some) first.no_feed) in
      record {
        front = front ++ line;
        passed = passed_with (front ++ line) (passed.parts ∙ ap (λ r. front ++ r) e ∙ sym (append-nil (front ++ line)) ∙ ap (λ l. (front ++ line) ++ l) (sym none)) (inl none) lines;
      }

  -- one more line is passed
  pub line_passed : PassedOn text after (count + 1) (said || says line)
  line_passed = elim first.parts [
    | inl e ↦ ended e
    | inr e ↦ last e.0 e.1
  ]

-- ---- the cut

some_said : (front : List ℕ) → list_any says (lines_of front) ≡ true → 0 < length front
some_said [] s = absurd (cc)
some_said (b ∷ front) s = omega arith

-- at a line that begins a trace
pub cut_before : (text front rest : List ℕ) (count : ℕ) → IsPassed text front rest count true → (line after : List ℕ) → 0 < length rest → IsFirstLine rest line after → begins_trace line ≡ true → IsCut text front rest
cut_before text front rest count passed line after some first begins = record {
  parts = passed.parts;
  some = some_said front (sym passed.said_is);
  lines = ap lines_of passed.parts ∙ whole_if_more front rest some passed.whole rest;
  one = passed.one;
  next = inr (sym passed.said_is, ap start_trace (lines_by_first rest line after some first) ∙ begins);
}

-- at the end of the text
pub cut_at_end : (text front rest : List ℕ) (count : ℕ) (said : Bool) → IsPassed text front rest count said → rest ≡ [] → 0 < length text → IsCut text front rest
cut_at_end text front rest count said passed none some =
    let all : text ≡ front = passed.parts ∙ ap (λ r. front ++ r) none ∙ append-nil front in
    record {
      parts = passed.parts;
      some = subst (λ t. 0 < length t) all some;
      lines = ap lines_of all ∙ sym (append-nil (lines_of front)) ∙ ap (λ r. lines_of front ++ lines_of r) (sym none);
      one = passed.one;
      next = inl none;
    }

-- if an earlier line said something and the next one begins a trace
both_true : (a b : Bool) → (a && b) ≡ true → (a ≡ true) × (b ≡ true)
both_true true b h = (refl, h)
both_true false b h = absurd (cc)

one_false : (a b : Bool) → (a && b) ≡ false → a ≡ true → b ≡ false
one_false true b h s = h
one_false false b h s = absurd (cc)

-- the next line begins a trace
pub cut_here : (text rest : List ℕ) (count : ℕ) (said : Bool) → PassedOn text rest count said → (line after : List ℕ) → 0 < length rest → IsFirstLine rest line after → (said && begins_trace line) ≡ true → count + length rest ≤ length text → CutOff text rest count
cut_here text rest count said p line after some first begins few =
    let both = both_true said (begins_trace line) begins in
    record {
      piece = p.front;
      cut = cut_before text p.front rest count (subst (λ s. IsPassed text p.front rest count s) both.0 p.passed) line after some first both.1;
      counted = p.passed.counted;
      whole = p.passed.whole;
      few = few;
    }

-- the text ends
pub cut_all : (text rest : List ℕ) (count : ℕ) (said : Bool) → PassedOn text rest count said → rest ≡ [] → 0 < length text → count + length rest ≤ length text → CutOff text rest count
cut_all text rest count said p none some few = record { piece = p.front; cut = cut_at_end text p.front rest count said p.passed none some; counted = p.passed.counted; whole = p.passed.whole; few = few }

-- the next line is passed
pub pass_line : (text rest : List ℕ) (count : ℕ) (said : Bool) → PassedOn text rest count said → (line after : List ℕ) → 0 < length rest → IsFirstLine rest line after → (said && begins_trace line) ≡ false → PassedOn text after (count + 1) (said || says line)
pass_line text rest count said p line after some first begins = line_passed text p.front rest count said p.passed line after some first (one_false said (begins_trace line) begins)

-- ---- a text that may go on

-- a text with a line feed has a whole line
pub whole_line : (text : List ℕ) (k : ℕ) → IsFirstByte is_line_feed text (Some k) → HasWholeLine text
whole_line text k h =
    let within : k < length text = h.0.high in
    record {
      line = take k text;
      after = drop (k + 1) text;
      no_feed = none_pass is_line_feed text k (omega (arith, within)) (λ j l. false_from_ne_true _ (h.0.before j (omega arith) l));
      parts = sym (take-append-drop k text) ∙ ap (λ l. take k text ++ l) (drop_more text k 0 within ∙ ap (λ b. b ∷ drop (k + 1) text) (feed_is _ h.1));
    }

module _ (text rest : List ℕ) (count : ℕ) (off : CutOff text rest count) (next : HasWholeLine rest) (more : List ℕ) where
  parts_with : text ++ more ≡ off.piece ++ (rest ++ more)
  parts_with = ap (λ t. t ++ more) off.cut.parts ∙ append_assoc off.piece rest more

  rest_with : rest ++ more ≡ next.line ++ 10 ∷ (next.after ++ more)
  rest_with = ap (λ t. t ++ more) next.parts ∙ append_assoc next.line (10 ∷ next.after) more

  not_nothing : rest ≡ [] → ⊥
  not_nothing e = (let l = ap length (sym e ∙ next.parts) ∙ length-append next.line (10 ∷ next.after) in omega (arith, l))

  is_whole : (rest ≡ []) ⊎ AreWhole off.piece → AreWhole off.piece
  is_whole (inl e) = absurd (not_nothing e)
  is_whole (inr w) = w

  starts_with : (rest ≡ []) ⊎ ((list_any says (lines_of off.piece) ≡ true) × (start_trace (lines_of rest) ≡ true)) → (list_any says (lines_of off.piece) ≡ true) × (start_trace (lines_of (rest ++ more)) ≡ true)
  starts_with (inl e) = absurd (not_nothing e)
  starts_with (inr s) = (
    s.0,
    ap (λ t. start_trace (lines_of t)) rest_with ∙ ap start_trace (line_ended next.line (next.after ++ more) next.no_feed)
        ∙ sym (ap (λ t. start_trace (lines_of t)) next.parts ∙ ap start_trace (line_ended next.line next.after next.no_feed)) ∙ s.1,
  )

  -- the first piece is the same one, whatever follows the text
  pub cut_with : IsCut (text ++ more) off.piece (rest ++ more)
  cut_with = record {
    parts = parts_with;
    some = off.cut.some;
    lines = ap lines_of parts_with ∙ is_whole off.whole (rest ++ more);
    one = off.cut.one;
    next = inr (starts_with off.cut.next);
  }

-- what stands before the rest
front_of : (text front rest : List ℕ) (n : ℕ) → text ≡ front ++ rest → n + length rest ≡ length text → take n text ≡ front
front_of text front rest n parts is =
    let long = ap length parts ∙ length-append front rest in
    let same : n ≡ length front = omega (arith, is, long) in
    ap (λ t. take n t) parts ∙ ap (λ m. take m (front ++ rest)) same ∙ take-append_seam front rest

-- the last text
cut_last : (text piece rest more : List ℕ) → IsCut text piece rest → more ≡ [] → IsCut (text ++ more) piece (rest ++ more)
cut_last text piece rest more cut none =
    subst (λ (m : List ℕ). IsCut (text ++ m) piece (rest ++ m)) (sym none)
    (subst (λ (t : List ℕ). IsCut t piece (rest ++ [])) (sym (append-nil text)) (subst (λ (r : List ℕ). IsCut text piece r) (sym (append-nil rest)) cut))

-- the first piece that ends before this rest, whatever follows the text
pub cut_off : (is_last : Bool) (text rest : List ℕ) (count n : ℕ) → CutOff text rest count → n + length rest ≡ length text → (shown : is_last ≡ false → HasWholeLine rest) → IsCutOff is_last text (take n text) rest
cut_off true text rest count n off is shown = λ more ok.
    subst (λ (p : List ℕ). IsCut (text ++ more) p (rest ++ more)) (sym (front_of text off.piece rest n off.cut.parts is)) (cut_last text off.piece rest more off.cut (ok refl))
cut_off false text rest count n off is shown = λ more ok.
    subst (λ (p : List ℕ). IsCut (text ++ more) p (rest ++ more)) (sym (front_of text off.piece rest n off.cut.parts is)) (cut_with text rest count off (shown refl) more)

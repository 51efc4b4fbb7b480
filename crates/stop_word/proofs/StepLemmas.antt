-- What the steps on the stop word ask of its table.
use Rattle.std.proofs.Common.{◌≡◌, ℕ, ◌+◌, ◌-◌, ◌<◌, ◌≤◌, min, List, [], ◌∷◌, ◌++◌, set, get_or, refl, sym, ◌∙◌, ap, subst, arith}
use Rattle.std.proofs.lemmas.List.Elements.{All-nil, All-push, All-append}
use mathlib.Core.Option.{some, some-injective}
use lib.ListN.{get_elem?}
use Rattle.atomic_table.specs.Table.{State, Me, Allows, keeps, Splits, Joins, Final, Seen}
use Rattle.atomic_table.proofs.Lists.{set_else}
use Rattle.stop_word.specs.declared.views.View.{View}
use Rattle.stop_word.specs.WordRule.{nothing, view_of, least_of, marks_in, Fits, MeetsRule, Keeps, Looks, Marks}
use Rattle.stop_word.proofs.LeastLemmas.{least_small, least-append}
use Rattle.stop_word.proofs.ViewLemmas.{each_set, each_more, set_mine, parts_set, parts_more, least_at, least_set, least_spent, least_more, whole_marks}

abbrev pub holds : State ℕ View → Type 0
holds s = Keeps s.words s.views

-- the word falls or stays, and a seat keeps above it
lower : (word n : ℕ) → n ≤ word → (v : View) → Fits word v → Fits n v
lower word n below v f = record { at_most = omega (arith, below, f.at_most); marked = f.marked; small = f.small; idle = f.idle }

-- numbers whose least is n join a seat's marks
rule_kept : (word n : ℕ) (views : List View) (id : ℕ) (v w : View) → MeetsRule word views → get_elem? views id ≡ some v → least_of w.marks ≡ min (least_of v.marks) n → w.parts ≡ v.parts → Fits (min word n) w →
    MeetsRule (min word n) (set views id w)
rule_kept word n views id v w meets there joined parts fits =
    record {
      word_is = (let after = least_set views id v w n there joined in let before = meets.word_is in omega (arith, after, before));
      each = each_set (Fits word) (Fits (min word n)) views id w meets.each (lower word (min word n) (omega arith)) fits;
      parts = (let h = parts_set views id v w there in let eight = meets.parts in omega (arith, h, eight, parts));
    }

pub looks : (slots id : ℕ) (me : Me ℕ View) → Allows holds slots id me 0 (λ n. n) (λ shown after. Looks me.0 shown after.0 × (after.1 ≡ me.1))
looks slots id me s rule long there small =
    let found = get_or s.words 0 0 in
    let word = rule.0 in
    let meets = rule.2 in
    let is : found ≡ word = ap (λ (ws : List ℕ). get_or ws 0 0) rule.1 in
    let f = meets.each id me.0 there in
    let w = view_of me.0.marks found me.0.parts in
    let largest = least_small (marks_in s.views) in
    let same : min word nothing ≡ word = omega (arith, meets.word_is, largest) in
    let fits : Fits (min word nothing) w = record { at_most = omega (arith, is, same); marked = omega (arith, is, f.at_most, f.marked); small = f.small; idle = f.idle } in
    let mine = least_small me.0.marks in
    let joined : least_of me.0.marks ≡ min (least_of me.0.marks) nothing = omega (arith, mine) in (
      w,
      keeps,
      tt,
      (
        word,
        ap (λ (ws : List ℕ). set ws 0 (get_or ws 0 0)) rule.1,
        subst (λ (n : ℕ). MeetsRule n (set s.views id w)) same (rule_kept word nothing s.views id me.0 w meets there joined refl fits),
      ),
      ((s.views, id, subst (λ (n : ℕ). MeetsRule n s.views) (sym is) meets, there, refl), refl),
    )

pub marks : (slots id : ℕ) (me : Me ℕ View) (k : ℕ) → k < 4294967296 → 0 < me.0.parts → Allows holds slots id me 0 (λ n. min n k) (λ _ after. Marks me.0 k after.0 × (after.1 ≡ me.1))
marks slots id me k low some_part s rule long there small =
    let word = rule.0 in
    let meets = rule.2 in
    let f = meets.each id me.0 there in
    let w = view_of (me.0.marks ++ k ∷ []) (min me.0.least k) me.0.parts in
    let joined : least_of (me.0.marks ++ k ∷ []) ≡ min (least_of me.0.marks) k = (let more = least-append me.0.marks (k ∷ []) in omega (arith, more, low)) in
    let fits : Fits (min word k) w =
    record {
      at_most = omega (arith, f.at_most);
      marked = omega (arith, f.marked, joined);
      small = All-push (λ n. n < 4294967296) me.0.marks k f.small low;
      idle = λ none. absurd (omega (arith, none, some_part));
    } in (
      w,
      keeps,
      tt,
      (
        min word k,
        ap (λ (ws : List ℕ). set ws 0 (min (get_or ws 0 0) k)) rule.1,
        rule_kept word k s.views id me.0 w meets there joined refl fits,
      ),
      (refl, refl),
    )

-- one part is cut off for a new seat
pub forks : (id : ℕ) (v : View) → 1 < v.parts → Splits holds id v (view_of v.marks v.least (v.parts - 1)) (view_of [] v.least 1)
forks id v more s rule there =
    let left = view_of v.marks v.least (v.parts - 1) in
    let right = view_of [] v.least 1 in
    let word = rule.0 in
    let meets = rule.2 in
    let views = set s.views id left in
    let f = meets.each id v there in
    let mine = least_small v.marks in
    let kept = least_set s.views id v left nothing there (omega (arith, mine)) in
    let added = least_more views right in
    let largest = least_small (marks_in s.views) in
    let first : Fits word left = record { at_most = f.at_most; marked = f.marked; small = f.small; idle = λ none. absurd (omega (arith, none, more)) } in
    let second : Fits word right = record { at_most = f.at_most; marked = omega (arith, f.marked, mine); small = All-nil _; idle = λ _. refl } in (
      word,
      rule.1,
      record {
        word_is = omega (arith, meets.word_is, kept, added, largest);
        each = each_more (Fits word) views right (each_set (Fits word) (Fits word) s.views id left meets.each (λ u h. h) first) second;
        parts = (let h = parts_set s.views id v left there in let k = parts_more views right in let eight = meets.parts in omega (arith, h, k, eight, more));
      },
    )

-- a seat takes in all that another knows
pub merges : (id : ℕ) (v : View) (other : ℕ) (w : View) → 0 < v.parts →
    Joins holds id v other w (view_of (v.marks ++ w.marks) (min v.least w.least) (v.parts + w.parts)) (view_of [] nothing 0)
merges id v other w some_part s rule there apart there' =
    let both = view_of (v.marks ++ w.marks) (min v.least w.least) (v.parts + w.parts) in
    let spent = view_of [] nothing 0 in
    let word = rule.0 in
    let meets = rule.2 in
    let views = set s.views id both in
    let last = set views other spent in
    let other_there : get_elem? s.views other ≡ some w = sym (set_else s.views id other both apart) ∙ there' in
    let f = meets.each id v there in
    let g = meets.each other w other_there in
    let joined = least-append v.marks w.marks in
    let kept = least_set s.views id v both (least_of w.marks) there joined in
    let moved = least_spent views other w spent there' refl in
    let mine : get_elem? last id ≡ some both = set_else views other id spent (λ e. apart (sym e)) ∙ set_mine s.views id v both there in
    let below = least_at last id both mine in
    let below_other = least_at s.views other w other_there in
    let largest = least_small (marks_in s.views) in
    let first : Fits word both =
    record {
      at_most = omega (arith, f.at_most, g.at_most);
      marked = omega (arith, f.marked, g.marked, joined);
      small = All-append (λ k. k < 4294967296) v.marks w.marks f.small g.small;
      idle = λ none. absurd (omega (arith, none, some_part));
    } in
    let second : Fits word spent = record { at_most = omega (arith, meets.word_is, largest); marked = omega arith; small = All-nil _; idle = λ _. refl } in (
      word,
      rule.1,
      record {
        word_is = omega (arith, meets.word_is, kept, moved, below, below_other, joined);
        each = each_set (Fits word) (Fits word) views other spent (each_set (Fits word) (Fits word) s.views id both meets.each (λ u h. h) first) (λ u h. h) second;
        parts = (let h = parts_set s.views id v both there in let k = parts_set views other w spent there' in let eight = meets.parts in omega (arith, h, k, eight));
      },
    )

-- what is known at the end, where one seat has all parts
pub record IsEnd (word : ℕ) (v : View) : Type 0 where
  pub views : List View
  pub meets : MeetsRule word views
  pub least : word ≡ least_of v.marks
  pub shown : word ≤ v.least

pub ends : (words slots : List ℕ) (id : ℕ) (v : View) (word : ℕ) → Final (Seen holds id v) words slots → v.parts ≡ 8 → get_elem? words 0 ≡ some word → IsEnd word v
ends words slots id v word last all at =
    let views = last.0.views in
    let kept : Keeps words views = subst (λ (ws : List ℕ). Keeps ws views) last.2 last.1.0 in
    let there : get_elem? views id ≡ some v = last.1.1 in
    let same : kept.0 ≡ word = some-injective _ _ (sym (ap (λ (ws : List ℕ). get_elem? ws 0) kept.1) ∙ at) in
    let meets : MeetsRule word views = subst (λ (n : ℕ). MeetsRule n views) same kept.2 in
    let whole = whole_marks views id v (λ j u there'. (meets.each j u there').idle) there (meets.parts ∙ sym all) in
    record { views = views; meets = meets; least = meets.word_is ∙ ap least_of whole; shown = (meets.each id v there).at_most }

-- Operations in program order.
use Rattle.std.proofs.Common.{◌≡◌, ◌≢◌, ◌<◌, ◌≤◌, ◌+◌, ℕ, get_or, zero, suc, List, [], ◌∷◌, length, Bool, true, false, ◌&&◌, refl, ap, sym, ◌∙◌, arith}
use Rattle.std.proofs.Math.Bool.{and-true}
use Rattle.std.specs.List.{list_all, range_with_len, flat_map}
use Rattle.std.proofs.lemmas.List.Folds.{list_all-map, list_all-append, list_all_at}
use Rattle.trace_semantics.specs.declared.operation.OpName.{OpName}
use Rattle.trace_semantics.specs.Judgement.{has_come}
use Rattle.trace_semantics.specs.Trace.{first_names}
use Rattle.schedule_judge.specs.Walk.{IsInProgramOrder}

absorbed : (b c : Bool) → (c ≡ true → b ≡ true) → (b && c) ≡ c
absorbed true c h = refl
absorbed false true h = h refl
absorbed false false h = refl

descend : (h : ℕ → Bool) (a : ℕ) → ((k : ℕ) → a ≤ k → h (k + 1) ≡ true → h k ≡ true) → (k : ℕ) → h (a + k) ≡ true → h a ≡ true
descend h a closed zero e = let s : a ≡ a + 0 = omega arith in ap h s ∙ e
descend h a closed (suc k) e =
    let s : a + k + 1 ≡ a + suc k = omega arith in
    descend h a closed k (closed (a + k) (omega arith) (ap h s ∙ e))

-- where each place holds if the next does, all of a range hold if and only if the last does
all_range : (h : ℕ → Bool) (a n : ℕ) → ((k : ℕ) → a ≤ k → h (k + 1) ≡ true → h k ≡ true) → list_all h (range_with_len a (suc n)) ≡ h (a + n)
all_range h a zero closed = let s : a ≡ a + 0 = omega arith in and-true (h a) ∙ ap h s
all_range h a (suc n) closed =
    let s : a + 1 + n ≡ a + suc n = omega arith in
    ap (λ b. h a && b) (all_range h (a + 1) n (λ k l e. closed k (omega arith) e) ∙ ap h s) ∙ absorbed (h a) (h (a + suc n)) (descend h a closed (suc n))

abbrev come_at : List OpName → List ℕ → ℕ → Bool
come_at names process k = has_come names (record { process = process; place = k })

-- the first operations of a process have come if and only if the last of them has
pub first_have_come : (names : List OpName) (process : List ℕ) (n : ℕ) → IsInProgramOrder names → list_all (has_come names) (first_names process (suc n)) ≡ has_come names (record { process = process; place = suc n })
first_have_come names process n order =
    let s : 1 + n ≡ suc n = omega arith in
    list_all-map (has_come names) (λ k. record { process = process; place = k }) (range_with_len 1 (suc n)) ∙ all_range (come_at names process) 1 n closed ∙ ap (come_at names process) s
  where
    closed : (k : ℕ) → 1 ≤ k → come_at names process (k + 1) ≡ true → come_at names process k ≡ true
    closed zero l e = absurd (omega arith)
    closed (suc k) l e =
        let s : k + 2 ≡ suc k + 1 = omega arith in
        let r : suc k ≡ k + 1 = omega arith in
        ap (come_at names process) r ∙ order process k (ap (come_at names process) s ∙ e)

pub all_have_come : (names : List OpName) (process : List ℕ) (n : ℕ) → n ≢ 0 → IsInProgramOrder names → list_all (has_come names) (first_names process n) ≡ has_come names (record { process = process; place = n })
all_have_come names process zero more order = absurd (more refl)
all_have_come names process (suc n) more order = first_have_come names process n order

-- all elements of all parts pass
all_flat_map : {X Y : Type 0} (p : Y → Bool) (f : X → List Y) (xs : List X) → list_all p (flat_map f xs) ≡ list_all (λ x. list_all p (f x)) xs
all_flat_map p f [] = refl
all_flat_map p f (x ∷ xs) = list_all-append p (f x) (flat_map f xs) ∙ ap (λ b. list_all p (f x) && b) (all_flat_map p f xs)

-- one part fails, so all do not pass
pub fails_at : {X Y : Type 0} (p : Y → Bool) (f : X → List Y) (xs : List X) (i : ℕ) (x : X) → i < length xs → x ≡ get_or xs i x → list_all p (f x) ≡ false → list_all p (flat_map f xs) ≡ false
fails_at p f xs i x l at e = all_flat_map p f xs ∙ list_all_at (λ x. list_all p (f x)) xs i x l (ap (λ x. list_all p (f x)) (sym at) ∙ e)

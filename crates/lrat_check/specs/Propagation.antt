-- Clauses under a list of literals that are true.
use Rattle.std.specs.Prelude.{◌≡◌, ◌≢◌, ℤ, neg_ℤ, Bool, true, false, List, ◌++◌}
use Rattle.std.specs.List.{list_any, list_all}
use Rattle.std.specs.Ordering.{int_eq}

-- whether the literal is among these
abbrev pub has : List ℤ → ℤ → Bool
has literals z = list_any (λ y. int_eq y z) literals

-- whether the clause holds a literal and its negation
abbrev pub is_tautology : List ℤ → Bool
is_tautology clause = list_any (λ z. has clause (neg_ℤ z)) clause

-- a literal is false where its negation is true
abbrev pub is_falsified : List ℤ → ℤ → Bool
is_falsified trues z = has trues (neg_ℤ z)

-- all literals of the clause are false
abbrev pub Falsifies : List ℤ → List ℤ → Type 0
Falsifies trues clause = list_all (is_falsified trues) clause ≡ true

-- Of the clause's distinct literals this one alone is not false. It may be true already.
pub record IsUnit (trues clause : List ℤ) (unit : ℤ) : Type 0 where
  pub among : has clause unit ≡ true
  pub unfalsified : is_falsified trues unit ≡ false
  pub alone : (z : ℤ) → has clause z ≡ true → is_falsified trues z ≡ false → z ≡ unit

-- two distinct literals of the clause are not false
pub record HasTwoUnfalsified (trues clause : List ℤ) : Type 0 where
  pub one : ℤ
  pub other : ℤ
  pub distinct : one ≢ other
  pub one_among : has clause one ≡ true
  pub other_among : has clause other ≡ true
  pub one_unfalsified : is_falsified trues one ≡ false
  pub other_unfalsified : is_falsified trues other ≡ false

-- literals that are true, where no others are true than these and further ones that became so after them
abbrev pub Extends : List ℤ → List ℤ → Type 0
Extends trues first = (more : List ℤ) × (trues ≡ first ++ more)

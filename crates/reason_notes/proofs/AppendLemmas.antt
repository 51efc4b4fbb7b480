-- What was appended piece by piece.
use Rattle.std.proofs.Common.{◌≡◌, ℕ, List, ◌++◌, ap, ◌∙◌, append_assoc}

module _ (old : List ℕ) where
  -- two pieces
  pub two : (a b one both : List ℕ) → one ≡ old ++ a → both ≡ one ++ b → both ≡ old ++ (a ++ b)
  two a b one both first second = second ∙ ap (λ l. l ++ b) first ∙ append_assoc old a b

  -- three
  pub three : (a b c one both all : List ℕ) → one ≡ old ++ a → both ≡ one ++ b → all ≡ both ++ c → all ≡ old ++ (a ++ (b ++ c))
  three a b c one both all first second third =
      third ∙ ap (λ l. l ++ c) (two a b one both first second) ∙ append_assoc old (a ++ b) c ∙ ap (λ l. old ++ l) (append_assoc a b c)

  -- four
  pub four : (a b c d one both some all : List ℕ) → one ≡ old ++ a → both ≡ one ++ b → some ≡ both ++ c → all ≡ some ++ d → all ≡ old ++ (a ++ (b ++ (c ++ d)))
  four a b c d one both some all first second third fourth =
      fourth ∙ ap (λ l. l ++ d) (three a b c one both some first second third) ∙ append_assoc old (a ++ (b ++ c)) d
      ∙ ap (λ l. old ++ l) (append_assoc a (b ++ c) d ∙ ap (λ l. a ++ l) (append_assoc b c d))

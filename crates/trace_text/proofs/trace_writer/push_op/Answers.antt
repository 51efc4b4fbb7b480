use Rattle.std.proofs.Common.{◌≡◌, ℕ, List, [], ◌∷◌, ◌++◌, refl, ap, sym, ◌∙◌, append_assoc, append-nil}
use Rattle.std.specs.List.{join_with_byte}
use Rattle.trace_text.specs.TraceLines.{joined}
use Rattle.trace_text.specs.TraceText.{op_line}
use Rattle.trace_text.proofs.trace_writer.push_op.Goals as goal

-- words in a row, by either definition
as_joined : (words : List (List ℕ)) → join_with_byte 32 words ≡ joined words
as_joined [] = refl
as_joined (w ∷ []) = sym (append-nil w)
as_joined (w ∷ (v ∷ words)) = ap (λ (l : List ℕ). w ++ 32 ∷ l) (as_joined (v ∷ words))

-- a line is its words and a line feed
ended : (old words_sent sent : List ℕ) (words : List (List ℕ)) → words_sent ≡ old ++ joined words → sent ≡ words_sent ++ 10 ∷ [] → sent ≡ old ++ (join_with_byte 32 words ++ 10 ∷ [])
ended old words_sent sent words e f = f ∙ ap (λ (l : List ℕ). l ++ 10 ∷ []) e ∙ append_assoc old (joined words) (10 ∷ []) ∙ ap (λ (l : List ℕ). old ++ (l ++ 10 ∷ [])) (sym (as_joined words))

pub returns : goal.returns
returns c = ended c.args.text.now.items c.push_op_words.new.text.items c.push.new.self.items (op_line c.args.op.now) c.in_ok-push_op_words.ensures c.in_ok-push.ensures.items

use Rattle.std.proofs.Common.{◌≡◌, List, ℕ, ◌∷◌, ◌++◌, [], ◌<◌, ◌∙◌, length, map, ap, sym, subst, arith}
use Rattle.std.proofs.lemmas.Bool.Decides.{nat_tests}
use Rattle.std.proofs.lemmas.List.{map-append, length-map}
use Rattle.std.specs.Borrow.{Bor}
use Rattle.text_lines.proofs.Cutting.TakeLemmas.{AreFirstWords, one_more_word}
use Rattle.text_lines.proofs.words.first_words.Goals as goal

pub loop-rest-preserved : goal.loop-rest-preserved
loop-rest-preserved c =
    let seen : Bor (List ℕ) → List ℕ = λ (w : Bor (List ℕ)). w.now in
    let added : map seen c.push.new.self ≡ map seen c.loop-rest.words ++ c.in-Some.word.now ∷ [] =
    ap (map seen) c.push.ensures ∙ map-append seen c.loop-rest.words (c.in-Some.word ∷ []) in
    let few : length c.loop-rest.words < 11 = grind (arith, nat_tests, c.loop-rest-test.true, c.is_full.ensures.full, c.is_full.ensures.few) in
    let room : length (map seen c.loop-rest.words) < 11 = omega (arith, length-map c.loop-rest.words seen, few) in
    subst (λ ws. AreFirstWords 11 c.args.line.now ws c.in-Some.after.now) (sym added)
    (one_more_word 11 c.args.line.now c.loop-rest.rest.now c.in-Some.after.now c.in-Some.word.now (map seen c.loop-rest.words) c.loop-rest.invariant room c.in-Some.ensures.words)

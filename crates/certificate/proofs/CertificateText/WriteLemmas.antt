-- What a sink has taken of a certificate.
use Rattle.std.proofs.Common.{◌≡◌, ℕ, suc, ◌+◌, List, [], ◌∷◌, ◌++◌, length, ap, sym, ◌∙◌, subst, arith, append_assoc, append-nil}
use Rattle.std.specs.Prelude.{codes}
use Rattle.std.specs.Fmt.{decimal}
use Rattle.std.specs.List.{flat_map}
use Rattle.std.proofs.lemmas.Grind.{flat_map-append}
use Rattle.dimacs.specs.Sink.{AppendsFront}
use Rattle.lrat_check.specs.LratWritten.{canonical_derivation}
use Rattle.lrat_check.specs.declared.derivation.Step.{Step}
use Rattle.certificate.specs.CertWritten.{section_text, sections_from}

-- a first part was taken whole, and a prefix of the next
pub front_behind : (old between new first second third : List ℕ) → between ≡ old ++ first → AppendsFront between new second → AppendsFront old new (first ++ (second ++ third))
front_behind old between new first second third e f = record {
  front = first ++ f.front;
  back = f.back ++ third;
  parts = append_assoc first f.front (f.back ++ third) ∙ ap (λ l. first ++ l) (sym (append_assoc f.front f.back third) ∙ ap (λ l. l ++ third) f.parts);
  appended = f.appended ∙ ap (λ l. l ++ f.front) e ∙ append_assoc old first f.front;
}

-- a prefix of the first part was taken
pub front_first : (old new first second : List ℕ) → AppendsFront old new first → AppendsFront old new (first ++ second)
front_first old new first second f = record {
  front = f.front;
  back = f.back ++ second;
  parts = sym (append_assoc f.front f.back second) ∙ ap (λ l. l ++ second) f.parts;
  appended = f.appended;
}

-- the three parts of a section
pub parts_of_section : (leaf : ℕ) (steps : List Step) → section_text (record { leaf = leaf; derivation = steps }) ≡ (codes "proof " ++ (decimal leaf ++ codes "\n")) ++ (canonical_derivation steps ++ codes "end\n")
parts_of_section leaf steps =
    ap (λ l. codes "proof " ++ l) (sym (append_assoc (decimal leaf) (codes "\n") (canonical_derivation steps ++ codes "end\n")))
    ∙ sym (append_assoc (codes "proof ") (decimal leaf ++ codes "\n") (canonical_derivation steps ++ codes "end\n"))

-- the sections of some derivations, and then of the next ones
pub sections_append : (leaf : ℕ) (ds es : List (List Step)) → sections_from leaf (ds ++ es) ≡ sections_from leaf ds ++ sections_from (length ds + leaf) es
sections_append leaf [] es = let same : leaf ≡ 0 + leaf = omega arith in ap (λ n. sections_from n es) same
sections_append leaf (d ∷ ds) es =
    let same : length ds + suc leaf ≡ suc (length ds) + leaf = omega arith in
    ap (λ l. record { leaf = leaf; derivation = d } ∷ l) (sections_append (suc leaf) ds es ∙ ap (λ n. sections_from (suc leaf) ds ++ sections_from n es) same)

all_of : (front : List ℕ) (before : List (List Step)) (d : List Step) (after : List (List Step)) (leaf : ℕ) → length before ≡ leaf →
    front ++ flat_map section_text (sections_from 0 (before ++ d ∷ after)) ≡ (front ++ flat_map section_text (sections_from 0 before)) ++ (section_text (record { leaf = leaf; derivation = d }) ++ flat_map section_text (sections_from (suc leaf) after))
all_of front before d after leaf count =
    let number : length before + 0 ≡ leaf = omega (arith, count) in
    ap (λ ss. front ++ flat_map section_text ss) (sections_append 0 before (d ∷ after) ∙ ap (λ n. sections_from 0 before ++ sections_from n (d ∷ after)) number)
    ∙ ap (λ t. front ++ t) (flat_map-append section_text (sections_from 0 before) (sections_from leaf (d ∷ after)))
    ∙ sym (append_assoc front (flat_map section_text (sections_from 0 before)) (flat_map section_text (sections_from leaf (d ∷ after))))

-- a prefix of the next section was taken
pub section_front : (old between new front : List ℕ) (all before : List (List Step)) (d : List Step) (after : List (List Step)) (leaf : ℕ) → all ≡ before ++ d ∷ after → length before ≡ leaf →
    between ≡ old ++ (front ++ flat_map section_text (sections_from 0 before)) → AppendsFront between new (section_text (record { leaf = leaf; derivation = d })) → AppendsFront old new (front ++ flat_map section_text (sections_from 0 all))
section_front old between new front all before d after leaf parts count sent f =
    subst (λ (t : List ℕ). AppendsFront old new t) (sym (ap (λ ds. front ++ flat_map section_text (sections_from 0 ds)) parts ∙ all_of front before d after leaf count))
    (front_behind old between new (front ++ flat_map section_text (sections_from 0 before)) (section_text (record { leaf = leaf; derivation = d })) (flat_map section_text (sections_from (suc leaf) after)) sent f)

-- the next section was taken
pub section_taken : (old between new front : List ℕ) (more before : List (List Step)) (d : List Step) (leaf : ℕ) → more ≡ before ++ d ∷ [] → length before ≡ leaf →
    between ≡ old ++ (front ++ flat_map section_text (sections_from 0 before)) → new ≡ between ++ section_text (record { leaf = leaf; derivation = d }) → new ≡ old ++ (front ++ flat_map section_text (sections_from 0 more))
section_taken old between new front more before d leaf parts count sent whole =
    let section = section_text (record { leaf = leaf; derivation = d }) in
    whole ∙ ap (λ t. t ++ section) sent ∙ append_assoc old (front ++ flat_map section_text (sections_from 0 before)) section
    ∙ ap (λ t. old ++ t) (ap (λ t. (front ++ flat_map section_text (sections_from 0 before)) ++ t) (sym (append-nil section)) ∙ sym (all_of front before d [] leaf count) ∙ sym (ap (λ ds. front ++ flat_map section_text (sections_from 0 ds)) parts))

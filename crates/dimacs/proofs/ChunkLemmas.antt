-- A text that goes to its sink in pieces: what the sink has taken, and what is still kept.
use Rattle.std.proofs.Common.{◌≡◌, ℕ, ◌+◌, ◌<◌, List, [], ◌++◌, length, take, drop, get_or, refl, sym, ap, ◌∙◌, subst, OnErr, Result, Ok, Err}
use Rattle.std.specs.List.{flat_map}
use Rattle.std.proofs.lemmas.List.{append_assoc, append-nil, take-append-drop, take_more, flat_map_more}
use Rattle.std.proofs.lemmas.Grind.{flat_map-append}
use Rattle.dimacs.specs.Sink.{AppendsFront, IsSent}
use Rattle.dimacs.proofs.SinkLemmas.{front-append, front-after}

-- more was made and is kept
pub sent_more : (old new kept bytes kept' more : List ℕ) → IsSent old new kept bytes → kept' ≡ kept ++ more → IsSent old new kept' (bytes ++ more)
sent_more old new kept bytes kept' more s e = record {
  front = s.front;
  parts = rw (e, ← append_assoc, s.parts);
  appended = s.appended;
}

-- of what was kept, a prefix was taken too
pub sent_on : (old between kept bytes new kept' : List ℕ) → IsSent old between kept bytes → IsSent between new kept' kept → IsSent old new kept' bytes
sent_on old between kept bytes new kept' s t = record {
  front = s.front ++ t.front;
  parts = rw (append_assoc, t.parts, s.parts);
  appended = rw (t.appended, s.appended, append_assoc);
}

-- the sink has taken a prefix of the whole, if it takes a prefix of what was kept
pub sent_part : (old between kept bytes new rest : List ℕ) → IsSent old between kept bytes → AppendsFront between new kept → AppendsFront old new (bytes ++ rest)
sent_part old between kept bytes new rest s f =
    let h : AppendsFront old new (s.front ++ kept) = front-after old between new s.front kept s.appended f in
    front-append old new bytes rest (rw s.parts at h)

module _ {X : Type 0} (head : List ℕ) (line : X → List ℕ) (items : List X) where
  -- the lines of the items before a place, and the rest
  lines_parted : (k : ℕ) → (head ++ flat_map line (take k items)) ++ flat_map line (drop k items) ≡ head ++ flat_map line items
  lines_parted k = append_assoc head _ _ ∙ ap (λ lines. head ++ lines) (sym (flat_map-append line (take k items) (drop k items)) ∙ ap (flat_map line) (take-append-drop k items))

  -- one more line
  pub line_sent : (old new kept kept' : List ℕ) (k : ℕ) (x : X) → k < length items → x ≡ get_or items k x → IsSent old new kept (head ++ flat_map line (take k items)) → kept' ≡ kept ++ line x → IsSent old new kept' (head ++ flat_map line (take (k + 1) items))
  line_sent old new kept kept' k x within read s e =
      let more : kept' ≡ kept ++ line (get_or items k x) = e ∙ ap (λ y. kept ++ line y) read in
      rw (take_more items k x within, ← flat_map_more) (sent_more old new kept (head ++ flat_map line (take k items)) kept' (line (get_or items k x)) s more)

  -- the sink has taken a prefix of all lines, if it takes a prefix of what was kept
  pub lines_part : (old between kept new : List ℕ) (k : ℕ) → IsSent old between kept (head ++ flat_map line (take k items)) → AppendsFront between new kept → AppendsFront old new (head ++ flat_map line items)
  lines_part old between kept new k s f = rw (← lines_parted k) (sent_part old between kept _ new (flat_map line (drop k items)) s f)

  -- and if more follows the lines
  pub lines_part_on : (old between kept new more : List ℕ) (k : ℕ) → IsSent old between kept (head ++ flat_map line (take k items)) → AppendsFront between new kept → AppendsFront old new (head ++ (flat_map line items ++ more))
  lines_part_on old between kept new more k s f = rw (← append_assoc) (front-append old new _ more (lines_part old between kept new k s f))

-- what holds anyway holds of an error
pub on_err : {A E : Type 0} {P : Type 0} (r : Result A E) → P → OnErr r P
on_err (Ok x) p = tt
on_err (Err e) p = p

-- so it is where one thing holds wherever another does
pub on_err_map : {A E : Type 0} {P Q : Type 0} (r : Result A E) → (P → Q) → OnErr r P → OnErr r Q
on_err_map (Ok x) f p = tt
on_err_map (Err e) f p = f p

-- a prefix of what was kept was taken, and no more follows
pub sent_last : (old between kept bytes new : List ℕ) → IsSent old between kept bytes → AppendsFront between new kept → AppendsFront old new bytes
sent_last old between kept bytes new s f = subst (λ whole. AppendsFront old new whole) (append-nil bytes) (sent_part old between kept bytes new [] s f)

-- two parts, one after the other
module _ (head first second : List ℕ) where
  both_parts : (head ++ first) ++ second ≡ head ++ (first ++ (second ++ []))
  both_parts = append_assoc head first second ∙ ap (λ l. head ++ (first ++ l)) (sym (append-nil second))

  -- both were made
  pub both_sent : (old between new kept kept' : List ℕ) → IsSent old between kept (head ++ first) → IsSent between new kept' (kept ++ second) → IsSent old new kept' (head ++ (first ++ (second ++ [])))
  both_sent old between new kept kept' s t =
      subst (λ made. IsSent old new kept' made) both_parts
      (sent_on old between (kept ++ second) ((head ++ first) ++ second) new kept' (sent_more old between kept (head ++ first) (kept ++ second) second s refl) t)

  -- the sink failed at the first
  pub first_front : (old new : List ℕ) → AppendsFront old new (head ++ first) → AppendsFront old new (head ++ (first ++ (second ++ [])))
  first_front old new f = subst (λ made. AppendsFront old new made) both_parts (front-append old new (head ++ first) second f)

  -- the sink failed at the second
  pub second_front : (old between new kept : List ℕ) → IsSent old between kept (head ++ first) → AppendsFront between new (kept ++ second) → AppendsFront old new (head ++ (first ++ (second ++ [])))
  second_front old between new kept s f =
      subst (λ made. AppendsFront old new made) both_parts
      (sent_last old between (kept ++ second) ((head ++ first) ++ second) new (sent_more old between kept (head ++ first) (kept ++ second) second s refl) f)

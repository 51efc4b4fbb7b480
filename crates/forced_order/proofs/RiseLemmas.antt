-- Rows that rise, and passes over steps, one after the other.
use Rattle.std.proofs.Common.{◌≡◌, ◌<◌, List, Bool, true, false, ◌||◌, refl, sym, ◌∙◌, subst, arith}
use Rattle.std.proofs.lemmas.Bool.{or_parts}
use Rattle.trace_semantics.specs.declared.trace.Process.{Process}
use Rattle.trace_semantics.specs.Trace.{TraceValue}
use Rattle.forced_order.specs.Raised.{IsRise, IsPass}
use Rattle.forced_order.specs.Room.{room}
use Rattle.forced_order.specs.Rows.{OrderValue, HasRows}

pub no_rise : (old : OrderValue) → IsRise false old old
no_rise old = record { less = λ e. absurd (cc); same = λ e. refl; rows = λ n h. h }

falls : (a b : Bool) (old mid new : OrderValue) → IsRise a old mid → IsRise b mid new → (a || b) ≡ true → room new < room old
falls true true old mid new first second e = let one = first.less refl in let two = second.less refl in omega (arith, one, two)
falls true false old mid new first second e = subst (λ (o : OrderValue). room o < room old) (sym (second.same refl)) (first.less refl)
falls false true old mid new first second e = subst (λ (o : OrderValue). room new < room o) (first.same refl) (second.less refl)
falls false false old mid new first second e = absurd (cc)

pub rise_joined : (a b : Bool) (old mid new : OrderValue) → IsRise a old mid → IsRise b mid new → IsRise (a || b) old new
rise_joined a b old mid new first second = record {
  less = falls a b old mid new first second;
  same = λ e. second.same (or_parts a b e).1 ∙ first.same (or_parts a b e).0;
  rows = λ n h. second.rows n (first.rows n h);
}

pub rise_as : (a b : Bool) (old new : OrderValue) → a ≡ b → IsRise b old new → IsRise a old new
rise_as a b old new e h = subst (λ (r : Bool). IsRise r old new) (sym e) h

module _ (t : TraceValue) where
  pub no_pass : (old : OrderValue) (P : OrderValue → Type 0) → P old → IsPass t false old old P
  no_pass old P p = record { forced = λ f. f; rise = no_rise old; closed = λ e rows. p }

  -- if nothing rises in both, the rows stay the same, so what the first closes remains closed
  pub pass_joined : (r a b : Bool) (old mid new : OrderValue) (P Q R : OrderValue → Type 0) → r ≡ (a || b) → (P new → Q new → R new) → IsPass t a old mid P → IsPass t b mid new Q → IsPass t r old new R
  pass_joined r a b old mid new P Q R is both first second = record {
    forced = λ f. second.forced (first.forced f);
    rise = rise_as r (a || b) old new is (rise_joined a b old mid new first.rise second.rise);
    closed = λ e rows. (let none = or_parts a b (sym is ∙ e) in
        both (subst P (sym (second.rise.same none.1)) (first.closed none.0 rows)) (second.closed none.1 (λ j k p at l. first.rise.rows (record { process = j; place = k }) (rows j k p at l))));
  }

  pub pass_as : (r : Bool) (old new : OrderValue) (P R : OrderValue → Type 0) → (P new → R new) → IsPass t r old new P → IsPass t r old new R
  pass_as r old new P R weaker pass = record { forced = pass.forced; rise = pass.rise; closed = λ e rows. weaker (pass.closed e rows) }

or_middle : (a b c : Bool) → b ≡ true → (a || b || c) ≡ true
or_middle true b c e = refl
or_middle false true c e = refl
or_middle false false c e = absurd (cc)

-- of three rises the second raised some place
pub falls_between : (a b c : Bool) (old mid later new : OrderValue) → IsRise a old mid → IsRise b mid later → IsRise c later new → b ≡ true → room new < room old
falls_between a b c old mid later new first second third e = (rise_joined (a || b) c old later new (rise_joined a b old mid later first second) third).less (or_middle a b c e)

pub rows_stay : (processes : List Process) (rose : Bool) (old new : OrderValue) → IsRise rose old new → HasRows processes old → HasRows processes new
rows_stay processes rose old new rise rows = λ j k p at l. rise.rows (record { process = j; place = k }) (rows j k p at l)

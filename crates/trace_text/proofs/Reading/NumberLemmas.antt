-- A line is refused for a number where one of its numbers is none.
use Rattle.std.proofs.Common.{◌≡◌, Bool, true, false, ◌&&◌, refl, sym, subst}
use Rattle.text_lines.specs.PlainFault.{IsRefusedFor}
use Rattle.text_lines.specs.declared.plain_fault.PlainFault.{PlainFault}
use Rattle.text_lines.specs.declared.plain_fault.PlainFault.TheVariants.{OutOfMemory, For}
use Rattle.trace_text.specs.declared.trace_fault.TraceCause.{TraceCause}
use Rattle.trace_text.specs.Entry.{number_fault}

-- where a part of a test fails, the whole does
pub refused_part : (whole part : Bool) (r : PlainFault TraceCause) → (part ≡ false → whole ≡ false) → IsRefusedFor (number_fault part) r → IsRefusedFor (number_fault whole) r
refused_part whole true OutOfMemory h k = tt
refused_part whole true (For cause) h k = absurd (cc)
refused_part whole false r h k = subst (λ b. IsRefusedFor (number_fault b) r) (sym (h refl)) k

-- which part
pub first_part : (a b c : Bool) → a ≡ false → ((a && b) && c) ≡ false
first_part true b c h = absurd (cc)
first_part false b c h = refl

pub second_part : (a b c : Bool) → b ≡ false → ((a && b) && c) ≡ false
second_part true true c h = absurd (cc)
second_part true false c h = refl
second_part false b c h = refl

pub last_part : (a b : Bool) → b ≡ false → (a && b) ≡ false
last_part true true h = absurd (cc)
last_part true false h = refl
last_part false b h = refl

pub middle_part : (a b c d : Bool) → b ≡ false → ((a && (b && c)) && d) ≡ false
middle_part true true c d h = absurd (cc)
middle_part true false c d h = refl
middle_part false b c d h = refl

pub third_part : (a b c d : Bool) → c ≡ false → ((a && (b && c)) && d) ≡ false
third_part true true true d h = absurd (cc)
third_part true true false d h = refl
third_part true false c d h = refl
third_part false b c d h = refl

-- The words of the lines of a text.
use Rattle.std.proofs.Common.{◌≡◌, Bool, true, false, refl, ◌&&◌, ◌||◌}
use Rattle.std.specs.Prelude.{not}

-- a test that moves from what is left to what is there
pub moved : (a b c : Bool) → ((a || b) || c) ≡ (b || (a || c))
moved true true c = refl
moved true false c = refl
moved false b c = refl

-- a line that is no mark is read
pub read_line : (mark here later there : Bool) → mark ≡ false → (later || (here || there)) ≡ ((not mark && (here || later)) || there)
read_line true here later there e = absurd (let clash : true ≡ false = e in cc)
read_line false true true there e = refl
read_line false true false there e = refl
read_line false false later there e = refl

-- behind a mark no line is read
pub read_none : (mark later there : Bool) → mark ≡ true → there ≡ ((not mark && later) || there)
read_none true later there e = refl
read_none false later there e = absurd (let clash : false ≡ true = e in cc)

-- what was there is nothing
pub only_new : (here there all : Bool) → all ≡ (here || there) → there ≡ false → all ≡ here
only_new here true all e f = absurd (let clash : true ≡ false = f in cc)
only_new true false all e f = e
only_new false false all e f = e

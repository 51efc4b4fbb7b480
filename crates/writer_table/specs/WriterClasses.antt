-- The classes of operations that write.
use Rattle.std.specs.Prelude.{◌≡◌, ◌≤◌, true, ℕ, List, Option, Some, IsSome, unwrap_or, ◌==◌, ◌&&◌, if◌then◌else◌}
use Rattle.std.specs.HashMap.{get_by, hash_map_len}
use Rattle.std.specs.Option.{option_map}
use Rattle.std.specs.Str.{bytes_eq}
use Rattle.trace_semantics.specs.declared.operation.Op.{Op}
use Rattle.trace_semantics.specs.Operation.{location_of, written_value}
use Rattle.writer_table.specs.declared.writer_classes.WriterClasses.{WriterClasses}

-- the number of what leaves the value at the location, if it has one; where classes are those of locations, the value says nothing
abbrev pub number_of : WriterClasses → List ℕ → ℕ → Option ℕ
number_of classes location value = get_by (λ k. bytes_eq location k.0.now && ((if classes.by_value then value else 0) == k.1)) classes.numbers

-- its class
abbrev pub class_of : WriterClasses → List ℕ → ℕ → ℕ
class_of classes location value = unwrap_or (number_of classes location value) 0

-- the class of an operation, if it writes
abbrev pub class_left : WriterClasses → Op → Option ℕ
class_left classes op = option_map (class_of classes (location_of op)) (written_value op)

-- numbers are counted from 1, and no two locations have the same one, nor two values where classes are of values too
pub record AreNumbersApart (classes : WriterClasses) : Type 0 where
  pub counted : (location : List ℕ) (value n : ℕ) → number_of classes location value ≡ Some n → (1 ≤ n) × (n ≤ hash_map_len classes.numbers)
  pub apart : (l m : List ℕ) (d e n : ℕ) → number_of classes l d ≡ Some n → number_of classes m e ≡ Some n → (l ≡ m) × (classes.by_value ≡ true → d ≡ e)

-- the operation has a number, if it writes
abbrev pub HasNumber : WriterClasses → Op → Type 0
HasNumber classes op = (d : ℕ) → written_value op ≡ Some d → IsSome (number_of classes (location_of op) d)

-- the new classes have a number for what the old ones have one for
pub record HasMoreNumbers (old new : WriterClasses) : Type 0 where
  pub by_value : new.by_value ≡ old.by_value
  pub kept : (location : List ℕ) (value : ℕ) → IsSome (number_of old location value) → IsSome (number_of new location value)
  pub apart : AreNumbersApart old → AreNumbersApart new

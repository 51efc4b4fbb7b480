-- The text of a string in JSON.
use Rattle.std.specs.Prelude.{◌≡◌, ◌++◌, ℕ, List}
use Rattle.json.specs.Print.{quoted}

-- a quote, the bytes of the string with escapes, and a quote; `read` of the kit's serde_json gives the string again
abbrev pub json_string : List ℕ → List ℕ
json_string string = quoted string

-- the second text is the first one, and more behind it
abbrev pub AppendsSome : List ℕ → List ℕ → Type 0
AppendsSome before now = (added : List ℕ) × (now ≡ before ++ added)

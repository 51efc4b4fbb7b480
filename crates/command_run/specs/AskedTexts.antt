-- Files that are read if there is a path for them.
use Rattle.std.specs.Borrow.{Bor}
use Rattle.std.specs.Prelude.{◌≡◌, ℕ, Bool, false, List, [], ◌∷◌, Option, None, Some}
use Rattle.command_host.specs.HostCalls.{HostCalls}
use Rattle.command_host.specs.Streams.{SourceView}
use Rattle.command_run.specs.declared.asked_text.AskedText.{AskedText}
use Rattle.command_run.specs.declared.asked_text.AskedText.TheVariants.{Absent, Opened}

-- ---- as a source

-- what it handed out
abbrev pub text_handed_out : {I : Type 0} → (I → List ℕ) → AskedText I → List ℕ
text_handed_out handed_out (Opened text) = handed_out text.source
text_handed_out handed_out (Absent met) = []

-- whether its end was met
abbrev pub text_is_at_end : {I : Type 0} → (I → Bool) → AskedText I → Bool
text_is_at_end is_at_end (Opened text) = is_at_end text.source
text_is_at_end is_at_end (Absent met) = met

-- how often it failed
abbrev pub text_failures : {I : Type 0} → (I → ℕ) → AskedText I → ℕ
text_failures failures (Opened text) = failures text.source
text_failures failures (Absent met) = 0

-- The path of a file, behind a number: so what is no file has another one, the empty list, and stays none.
abbrev pub text_path : {I : Type 0} → (I → List ℕ) → AskedText I → List ℕ
text_path path (Opened text) = 0 ∷ path text.source
text_path path (Absent met) = []

-- ---- the host before and after

-- the file at the path was handed out to be read, and is not read yet; or there is no path, and nothing was asked of the host
abbrev pub OpensAsked : {H I O : Type 0} → HostCalls H I O → SourceView I → H → Option (Bor (List ℕ)) → AskedText I → H → Type 0
OpensAsked calls read from (Some path) (Opened text) to =
    calls.opens from path.now text.source to × (read.path text.source ≡ path.now)
    × ((read.run text.source text.source).before ≡ []) × ((read.run text.source text.source).was_at_end ≡ false) × ((read.run text.source text.source).failures_before ≡ 0)
OpensAsked calls read from None (Absent met) to = to ≡ from
OpensAsked calls read from (Some path) (Absent met) to = ⊥
OpensAsked calls read from None (Opened text) to = ⊥

-- Files that are written if they are asked for.
use Rattle.std.specs.Borrow.{Bor}
use Rattle.std.specs.Prelude.{◌≡◌, ℕ, false, List, [], ◌∷◌, Option, None, Some}
use Rattle.command_host.specs.HostCalls.{HostCalls}
use Rattle.command_host.specs.Streams.{SinkView}
use Rattle.command_run.specs.declared.asked_file.AskedFile.{AskedFile}
use Rattle.command_run.specs.declared.asked_file.AskedFile.TheVariants.{Made, Nowhere}

-- ---- as a sink

-- what it took
abbrev pub file_taken : {F : Type 0} → (F → List ℕ) → AskedFile F → List ℕ
file_taken taken (Made file) = taken file
file_taken taken (Nowhere nothing) = nothing.bytes

-- how often it failed
abbrev pub file_failures : {F : Type 0} → (F → ℕ) → AskedFile F → ℕ
file_failures failures (Made file) = failures file
file_failures failures (Nowhere nothing) = 0

-- The path of a file, behind a number: so what is no file has another one, the empty list, and stays none.
abbrev pub file_path : {F : Type 0} → (F → List ℕ) → AskedFile F → List ℕ
file_path path (Made file) = 0 ∷ path file
file_path path (Nowhere nothing) = []

-- ---- the host before and after

-- the file at the path was made or opened, and nothing was written to it yet; or there is no path, and nothing was asked of the host
abbrev pub MakesAsked : {H I O : Type 0} → HostCalls H I O → SinkView O → H → Option (Bor (List ℕ)) → AskedFile O → H → Type 0
MakesAsked calls wrote from (Some path) (Made file) to =
    calls.makes from path.now false file to × (wrote.path file ≡ path.now) × ((wrote.run file file).before ≡ []) × ((wrote.run file file).failures_before ≡ 0)
MakesAsked calls wrote from None (Nowhere nothing) to = (to ≡ from) × (nothing.bytes ≡ [])
MakesAsked calls wrote from (Some path) (Nowhere nothing) to = ⊥
MakesAsked calls wrote from None (Made file) to = ⊥

-- there is a path, and that was tried and failed
abbrev pub FailsToMakeAsked : {H I O : Type 0} → HostCalls H I O → H → Option (Bor (List ℕ)) → H → Type 0
FailsToMakeAsked calls from (Some path) to = calls.fails_to_make from path.now to
FailsToMakeAsked calls from None to = ⊥

-- the file was given back, or there was none
abbrev pub ClosesAsked : {H I O : Type 0} → HostCalls H I O → H → AskedFile O → H → Type 0
ClosesAsked calls from (Made file) to = calls.closes from file to
ClosesAsked calls from (Nowhere nothing) to = to ≡ from

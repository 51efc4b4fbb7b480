-- Which files are kept of a trace that has no legal schedule.
use Rattle.std.specs.Prelude.{◌≡◌, ◌==◌, ◌++◌, ◌+◌, ℕ, zero, suc, List, [], ◌∷◌, if◌then◌else◌, codes, decimal}
use Rattle.command_host.specs.HostCalls.{HostCalls}
use Rattle.kept_files.specs.declared.keeping.KeptTexts.{KeptTexts}

-- ---- what was asked of the host

-- in a folder a file of this name was made, with these bytes; or there was one, which was left as it was; or that failed
pub data FolderCall : Type 0 where
  Kept : List ℕ → List ℕ → FolderCall
  Left : List ℕ → FolderCall
  Failed : List ℕ → FolderCall

abbrev pub IsCall : {H I O : Type 0} → HostCalls H I O → List ℕ → H → FolderCall → H → Type 0
IsCall calls folder from (Kept name bytes) to = calls.keeps from folder name bytes to
IsCall calls folder from (Left name) to = calls.leaves from folder name to
IsCall calls folder from (Failed name) to = calls.fails_to_keep from folder name to

-- these calls were made, one after the other, and no other
abbrev pub AreCalls : {H I O : Type 0} → HostCalls H I O → List ℕ → H → List FolderCall → H → Type 0
AreCalls calls folder from [] to = to ≡ from
AreCalls {H} calls folder from (call ∷ others) to = (between : H) × IsCall calls folder from call between × AreCalls calls folder between others to

-- files may have been kept in the folder, and nothing else was asked
abbrev pub KeepsWithin : {H I O : Type 0} → HostCalls H I O → List ℕ → H → H → Type 0
KeepsWithin calls folder from to = (made : List FolderCall) × AreCalls calls folder from made to

-- ---- the files

-- the name of the files of the trace of this number in a file with this stem; if names before it were taken, by their number it has a further one
abbrev pub kept_name : List ℕ → ℕ → ℕ → List ℕ
kept_name stem number taken =
    if taken == 0 then stem ++ (codes "-" ++ decimal number)
    else stem ++ (codes "-" ++ (decimal number ++ (codes "." ++ decimal (taken + 1))))

-- the file of a trace
abbrev pub trace_file : List ℕ → List ℕ
trace_file name = name ++ codes ".trace"

-- the names before it, of which there were files
abbrev pub names_left : List ℕ → ℕ → ℕ → List FolderCall
names_left stem number zero = []
names_left stem number (suc taken) = names_left stem number taken ++ (Left (trace_file (kept_name stem number taken)) ∷ [])

-- no file, if there are no bytes
abbrev pub kept_some : List ℕ → List ℕ → List FolderCall
kept_some name [] = []
kept_some name (byte ∷ bytes) = Kept name (byte ∷ bytes) ∷ []

-- the files that show it: the certificate, the names of the part that it is of, and the picture
abbrev pub kept_proofs : List ℕ → KeptTexts → List FolderCall
kept_proofs name texts =
    kept_some (name ++ codes ".cert") texts.certificate.now
    ++ (kept_some (name ++ codes ".names") texts.names.now
    ++ kept_some (name ++ codes ".svg") texts.picture.now)

-- the file of the trace was made, with the first name that is new
pub record KeepsTrace {H I O : Type 0} (calls : HostCalls H I O) (folder stem : List ℕ) (number : ℕ) (trace : List ℕ) (from : H) (name : List ℕ) (to : H) : Type 0 where
  pub taken : ℕ
  pub name_is : name ≡ kept_name stem number taken
  pub are_calls : AreCalls calls folder from (names_left stem number taken ++ (Kept (trace_file name) trace ∷ [])) to

-- the files of the trace and of what shows that it has no legal schedule were made, all of one name
pub record KeepsTexts {H I O : Type 0} (calls : HostCalls H I O) (folder stem : List ℕ) (number : ℕ) (texts : KeptTexts) (from : H) (name : List ℕ) (to : H) : Type 0 where
  pub between : H
  pub keeps_trace : KeepsTrace calls folder stem number texts.trace.now from name between
  pub keeps_proofs : AreCalls calls folder between (kept_proofs name texts) to

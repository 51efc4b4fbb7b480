-- Calls of the host, one after the other.
use Rattle.std.proofs.Common.{◌≡◌, ℕ, List, [], ◌∷◌, ◌++◌, refl, subst, suc}
use Rattle.command_host.specs.HostCalls.{HostCalls}
use Rattle.kept_files.specs.KeptFiles.{FolderCall, Left, AreCalls, IsCall, KeepsWithin, kept_name, names_left, trace_file}

module _ {H I O : Type 0} (calls : HostCalls H I O) (folder : List ℕ) where
  -- one call
  pub one : (from to : H) (call : FolderCall) → IsCall calls folder from call to → AreCalls calls folder from (call ∷ []) to
  one from to call is = (to, is, refl)

  -- some calls, and then others
  pub joined : (from between to : H) (first second : List FolderCall) → AreCalls calls folder from first between → AreCalls calls folder between second to → AreCalls calls folder from (first ++ second) to
  joined from between to [] second none others = subst (λ (h : H). AreCalls calls folder h second to) none others
  joined from between to (call ∷ first) second some others = (some.0, some.1, joined some.0 between to first second some.2 others)

  -- some calls, and then more that may be any
  pub within : (from between to : H) (first : List FolderCall) → AreCalls calls folder from first between → KeepsWithin calls folder between to → KeepsWithin calls folder from to
  within from between to first some others = (first ++ others.0, joined from between to first others.0 some others.1)

  -- some calls, and then one
  pub within_one : (from between to : H) (first : List FolderCall) (call : FolderCall) → AreCalls calls folder from first between → IsCall calls folder between call to → KeepsWithin calls folder from to
  within_one from between to first call some is = (first ++ call ∷ [], joined from between to first (call ∷ []) some (one between to call is))

  -- one more name was taken
  pub one_left : (stem : List ℕ) (number taken : ℕ) (from between to : H) (file : List ℕ) → file ≡ trace_file (kept_name stem number taken) → AreCalls calls folder from (names_left stem number taken) between → calls.leaves between folder file to →
      AreCalls calls folder from (names_left stem number (suc taken)) to
  one_left stem number taken from between to file is some left =
      joined from between to (names_left stem number taken) (Left (trace_file (kept_name stem number taken)) ∷ []) some
      (one between to (Left (trace_file (kept_name stem number taken))) (subst (λ (f : List ℕ). calls.leaves between folder f to) is left))

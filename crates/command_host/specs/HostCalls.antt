-- What the calls of a host say of it.
use Rattle.std.specs.Prelude.{ℕ, Bool, List}
use Rattle.command_host.specs.declared.search_request.SearchRequest.{SearchRequest}

-- Each is a relation of the host before a call and after it. Only a call of the host gives one, so a chain of them, from a host to
-- another one, lists what was asked of it in between, and that nothing else was.
pub record HostCalls (H Input Output : Type 0) : Type 1 where
  -- the file at this path was handed out to be read
  pub opens : H → List ℕ → Input → H → Type 0
  -- the file at this path was made, or opened if there was one, and handed out to be written; if this is true, it was emptied
  pub makes : H → List ℕ → Bool → Output → H → Type 0
  -- that was tried, and failed
  pub fails_to_make : H → List ℕ → H → Type 0
  -- the file was given back
  pub closes : H → Output → H → Type 0
  -- it was reported that an engine which decides traces is run with this search
  pub searches : H → SearchRequest → H → Type 0
  -- the host was asked whether the files at these paths are the same one, and this is what it said
  pub compares : H → List ℕ → List ℕ → Bool → H → Type 0
  -- the host was asked whether nothing is at this path, or a folder that has nothing, and this is what it said
  pub looks : H → List ℕ → Bool → H → Type 0
  -- the folder at this path was made, unless it was there
  pub makes_folder : H → List ℕ → H → Type 0
  -- in the folder at this path a file of this name was made, and got these bytes
  pub keeps : H → List ℕ → List ℕ → List ℕ → H → Type 0
  -- that was tried, and there was a file of this name, which was left as it was
  pub leaves : H → List ℕ → List ℕ → H → Type 0
  -- that was tried, and failed
  pub fails_to_keep : H → List ℕ → List ℕ → H → Type 0

-- What is decided of a trace.
use Rattle.std.specs.Prelude.{◌≡◌, ⊤, ℕ, ℤ, Bool, IsTrue, List, [], ◌++◌, length, map, Some, codes, decimal}
use Rattle.std.specs.List.{AllZip, Contains, flat_map, slice_get}
use Rattle.dimacs.specs.Assignment.{makes_all}
use Rattle.dimacs.specs.CnfText.{clause_line}
use Rattle.dimacs.specs.Models.{IsModel}
use Rattle.trace_semantics.specs.Legal.{IsLegal, HasNoSchedule}
use Rattle.trace_semantics.specs.Trace.{TraceValue}
use Rattle.schedule_text.specs.ScheduleWritten.{canonical_schedule}
use Rattle.reducer.specs.Reduction.{kept_trace}
use Rattle.clause_blocks.specs.Clauses.{clauses_of}
use Rattle.certificate.specs.CertWritten.{canonical_certificate, certificate_of}
use Rattle.certificate.specs.declared.certificate.Certificate.{Certificate}
use Rattle.cube_jobs.specs.Options.{OptionsValue}
use Rattle.cube_tree.specs.CubeTree.{CubeTree, cubes_of, leaves, IsCubeTree}
use Rattle.result_ledger.specs.declared.slot.Slot.{Slot}
use Rattle.result_ledger.specs.declared.verdict.Verdict.{Verdict}
use Rattle.result_ledger.specs.declared.verdict.Verdict.TheVariants.{Consistent as HasModel, Inconsistent as AllRefuted, Unknown as OpenLeaves}
use Rattle.result_ledger.specs.Ledger.{cubes_in}
use Rattle.result_ledger.specs.Verdict.{IsProofIn}
use Rattle.trace_decision.specs.declared.decided.Decided.{Decided}
use Rattle.trace_decision.specs.declared.decision.Decision.{Decision}
use Rattle.trace_decision.specs.declared.decision.Decision.TheVariants.{Consistent, Inconsistent, Unknown}
use Rattle.trace_decision.specs.declared.refutation.Refutation.{Refutation}
use Rattle.trace_decision.specs.InCube.{HoldSchedules}
use Rattle.trace_decision.specs.Rounds.{HaveEnded}

-- it is a tree and, for the cube of each of its leaves, in their order, a derivation that can be written as LRAT and is accepted
pub record IsRefutation (clauses : List (List ℤ)) (refutation : Refutation) : Type 0 where
  pub is_tree : IsCubeTree refutation.tree
  pub proofs : AllZip (IsProofIn clauses) (cubes_of refutation.tree) refutation.derivations

-- each model of the clauses makes all literals of one of the cubes true
abbrev pub HoldModels : List (List ℤ) → List (List ℤ) → Type 0
HoldModels clauses cubes = (value : ℕ → Bool) → IsModel value clauses → (cube : List ℤ) × Contains cubes cube × IsTrue (makes_all value cube)

-- the cubes are those of these leaves, in order
abbrev pub AreCubesOf : List Slot → List ℕ → List (List ℤ) → Type 0
AreCubesOf slots leaves cubes = map Some cubes ≡ map (slice_get (cubes_in slots)) leaves

-- the cubes that a verdict leaves open: those of the leaves that have no derivation which can be written and is accepted, by rising leaf,
-- each once
abbrev pub AreCubesLeftOpen : List Slot → Verdict → List (List ℤ) → Type 0
AreCubesLeftOpen slots (HasModel leaf truth) cubes = ⊥
AreCubesLeftOpen slots (AllRefuted count) cubes = ⊥
AreCubesLeftOpen slots (OpenLeaves leaves) cubes = AreCubesOf slots leaves cubes

-- the cubes are those that are open in some tree in which the rounds of a search over the clauses of the trace have ended
pub record AreLeftOpen (t : TraceValue) (options : OptionsValue) (cubes : List (List ℤ)) : Type 0 where
  pub tree : CubeTree
  pub is_tree : IsCubeTree tree
  pub slots : List Slot
  pub slots_of_tree : cubes_in slots ≡ cubes_of tree
  pub verdict : Verdict
  pub ended : HaveEnded t options slots verdict
  pub open_are : AreCubesLeftOpen slots verdict cubes

-- What is decided is so: the schedule is a legal one of the whole trace; or each cube of the tree is refuted, and the trace has no legal
-- schedule; or the cubes are some that a search with these options can leave open, all models of the clauses are in them, and each legal
-- schedule of the whole trace is.
abbrev pub IsDecided : OptionsValue → TraceValue → Decision → Type 0
IsDecided options value (Consistent names) = IsLegal value names
IsDecided options value (Inconsistent refutation) = IsRefutation (clauses_of (kept_trace value)) refutation × HasNoSchedule value
IsDecided options value (Unknown cubes) = HoldModels (clauses_of (kept_trace value)) cubes × AreLeftOpen (kept_trace value) options cubes × HoldSchedules value cubes

-- where nothing is decided, the cubes are those that this verdict leaves open
abbrev pub NamesOpen : Decided → Decision → Type 0
NamesOpen decided (Consistent names) = ⊤
NamesOpen decided (Inconsistent refutation) = ⊤
NamesOpen decided (Unknown cubes) = AreCubesLeftOpen decided.ledger decided.verdict cubes

-- the line of an open cube
abbrev pub open_line : List ℤ → List ℕ
open_line cube = codes "open " ++ clause_line cube

-- the line that says how many cubes are open
abbrev pub unknown_line : ℕ → List ℕ
unknown_line count = codes "UNKNOWN open=" ++ (decimal count ++ codes "\n")

-- the report: what is decided, and then the schedule, or the cubes that are open
abbrev pub report : Decision → List ℕ
report (Consistent names) = codes "CONSISTENT\n" ++ canonical_schedule names
report (Inconsistent refutation) = codes "INCONSISTENT cubes=" ++ (decimal (leaves refutation.tree) ++ codes "\n")
report (Unknown cubes) = unknown_line (length cubes) ++ flat_map open_line cubes

-- the certificate of a trace without a legal schedule: the tree, and a section for each of its leaves
abbrev pub certificate_in : Refutation → Certificate
certificate_in refutation = certificate_of refutation.tree refutation.derivations

-- its text, where the trace has no legal schedule, and else nothing
abbrev pub certificate_text : Decision → List ℕ
certificate_text (Consistent names) = []
certificate_text (Inconsistent refutation) = canonical_certificate (certificate_in refutation)
certificate_text (Unknown cubes) = []

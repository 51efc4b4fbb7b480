-- The engines of two texts.
use Rattle.std.specs.Prelude.{Result}
use Rattle.command_run.specs.declared.text_engines.TwoTextEngine.{TwoTextEngine}
use Rattle.command_run.specs.declared.text_engines.TwoTextEngine.TheVariants.{Decode, Judge, Lrat, Part, Recheck}
use Rattle.part_report.specs.PartEngine.{IsRunOfPart}
use Rattle.verdict_report.specs.DecodeEngine.{IsRunOfDecode}
use Rattle.verdict_report.specs.JudgeEngine.{IsRunOfJudge}
use Rattle.verdict_report.specs.LratEngine.{IsRunOfLrat}
use Rattle.verdict_report.specs.RecheckEngine.{IsRunOfRecheck}
use Rattle.verdict_report.specs.Runs.{SourceRun, SinkRun}
use Rattle.verdict_report.specs.declared.fault.Fault.{Fault}
use Rattle.verdict_report.specs.declared.status.Status.{Status}

-- this engine was run on the two sources
abbrev pub IsRunOfTexts : TwoTextEngine → SourceRun → SourceRun → SinkRun → Result Status Fault → Type 0
IsRunOfTexts Judge = IsRunOfJudge
IsRunOfTexts Decode = IsRunOfDecode
IsRunOfTexts Lrat = IsRunOfLrat
IsRunOfTexts Recheck = IsRunOfRecheck
IsRunOfTexts (Part shows_names) = IsRunOfPart shows_names

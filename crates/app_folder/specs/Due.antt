-- What is due: the status with which a run is to end, the text to be printed, and the file to be written.
use Rattle.std.specs.Prelude.{ℕ, List, Option, None}
use Rattle.verdict.specs.declared.outcome.Outcome.{Outcome}
use Rattle.verdict.specs.Outcome.{status_of}
use Rattle.verdict_report.specs.Report.{report_text}

-- a file, by its name and bytes
abbrev pub NewFile : Type 0
NewFile = List ℕ × List ℕ

-- what is due; the file, if any
pub record Due : Type 0 where
  pub status : ℕ
  pub text : List ℕ
  pub written : Option NewFile

-- due to an app that comes to this outcome, where the report alone is asked for
abbrev pub reported : Outcome → Due
reported outcome = record { status = status_of outcome; text = report_text outcome; written = None }

-- What is printed: one line, which ends with one line feed.
use Rattle.std.specs.Prelude.{ℕ, List, ◌++◌, codes}
use Rattle.std.specs.Fmt.{decimal}
use Rattle.printed_text.specs.Printed.{escaped}
use Rattle.verdict.specs.declared.outcome.Outcome.TheVariants.{Refused}
use Rattle.verdict.specs.declared.outcome.Part.{Part}
use Rattle.verdict_report.specs.declared.unfit.Unfit.{Unfit}
use Rattle.verdict_report.specs.Reasons.{part_name, unfit_text}
use Rattle.verdict_report.specs.Report.{report_text}
use Rattle.client_service.specs.declared.ready.Refusal.{Refusal}
use Rattle.client_service.specs.declared.ready.Refusal.TheVariants.{Client, File, NotText, TooLong}

-- why the client's file is refused, in the words of the report on an app
unfoldable pub bad_client_text : Unfit → List ℕ
bad_client_text unfit = codes "refused client.toml: " ++ unfit_text unfit ++ codes "\n"

unfoldable pub not_text_text : Part → List ℕ
not_text_text part = codes "refused " ++ part_name part ++ codes ": not text\n"

unfoldable pub too_long_text : List ℕ
too_long_text = codes "refused submission: longer than 67108864\n"

-- what is refused, and why; a file of the app as the report on an app says it
abbrev pub refused_text : Refusal → List ℕ
refused_text (Client unfit) = bad_client_text unfit
refused_text (File part reason) = report_text (Refused part reason)
refused_text (NotText part) = not_text_text part
refused_text TooLong = too_long_text

-- which file could not be read
unfoldable pub read_fault_text : List ℕ → List ℕ
read_fault_text name = codes "read fault " ++ escaped name ++ codes "\n"

unfoldable pub accepted_text : List ℕ → List ℕ
accepted_text reference = codes "accepted " ++ reference ++ codes "\n"

unfoldable pub answered_text : ℕ → List ℕ
answered_text status = codes "desk answered " ++ decimal status ++ codes "\n"

unfoldable pub no_answer_text : ℕ → List ℕ
no_answer_text tries = codes "no answer after " ++ decimal tries ++ codes " tries\n"

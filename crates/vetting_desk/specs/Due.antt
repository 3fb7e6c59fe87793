-- What is due to the words: the status with which a run is to end, the text to be printed, and the file to be written.
use Rattle.std.specs.Prelude.{◌≡◌, ℕ, ◌==◌, List, [], ◌∷◌, ◌++◌, length, Option, Some, None, string_bytes, codes, if◌then◌else◌}
use Rattle.std.specs.Option.{option_map}
use Rattle.app_folder.specs.Due.{Due, reported}
use Rattle.cert_report.specs.declared.refusal.CertRefusal.{CertRefusal}
use Rattle.cert_report.specs.Refusal.{refusal_text}
use Rattle.verdict.specs.declared.outcome.Outcome.{Outcome}
use Rattle.verdict.specs.Outcome.{status_of}
use Rattle.printed_text.specs.Printed.{escaped}
use Rattle.verdict_report.specs.Report.{report_text}
use Rattle.vetting_desk.specs.declared.answer.Answer.{Answer}
use Rattle.vetting_desk.specs.declared.answer.Answer.TheVariants.{Usage, Vetted, Certified, NoCertificate, LongCertificate, Uncertified, Storied, Made}
use Rattle.vetting_desk.specs.Made.{summary_text}
use Rattle.app_stories.specs.Stories.{Story}
use Rattle.story_report.specs.StoryText.{stories_text}

unfoldable pub usage_text : List ℕ
usage_text = codes "unknown command or argument\n"

unfoldable pub read_fault_text : List ℕ → List ℕ
read_fault_text name = codes "read fault " ++ escaped name ++ codes "\n"

-- the part that is left where each slash begins a new one
abbrev pub behind_slashes : List ℕ → List ℕ → List ℕ
behind_slashes part [] = part
behind_slashes part (c ∷ cs) = if c == 47 then behind_slashes cs cs else behind_slashes part cs

-- the last part of a path
unfoldable pub last_part : List ℕ → List ℕ
last_part path = behind_slashes path path

-- the file of a certificate is not there, or has more than 536,870,912 bytes
unfoldable pub absent_text : List ℕ → List ℕ
absent_text path = codes "refused " ++ escaped (last_part path) ++ codes ": absent\n"

unfoldable pub too_long_text : List ℕ → List ℕ
too_long_text path = codes "refused " ++ escaped (last_part path) ++ codes ": longer than 536870912\n"

-- due to words that are no command
abbrev pub usage : Due
usage = record { status = 4; text = usage_text; written = None }

-- due where a certificate is asked for besides
abbrev pub certified : Outcome → List ℕ → List ℕ → Due
certified outcome path bytes = record {
  status = status_of outcome;
  text = report_text outcome;
  written = Some (path, bytes);
}

-- due where the file of a certificate is not there, and where it is too long
abbrev pub no_certificate : List ℕ → Due
no_certificate path = record { status = 3; text = absent_text path; written = None }

abbrev pub long_certificate : List ℕ → Due
long_certificate path = record { status = 3; text = too_long_text path; written = None }

-- due to a certificate that is refused
abbrev pub uncertified : CertRefusal → Due
uncertified refusal = record { status = 9; text = refusal_text refusal; written = None }

-- the report, and the stories of the findings where there are any to be told
abbrev pub storied_text : Outcome → Option (List Story) → List ℕ
storied_text outcome None = report_text outcome
storied_text outcome (Some stories) = report_text outcome ++ stories_text stories

-- due where stories are asked for besides
abbrev pub storied : Outcome → Option (List Story) → Due
storied outcome stories = record { status = status_of outcome; text = storied_text outcome stories; written = None }

-- of two that are due the report of one outcome, and as many stories behind it
pub record SameButStories (one other : Due) : Type 0 where
  pub outcome : Outcome
  pub first : Option (List Story)
  pub second : Option (List Story)
  pub one_is : one ≡ storied outcome first
  pub other_is : other ≡ storied outcome second
  pub as_many :
      option_map (λ (stories : List Story). length stories) first
      ≡ option_map (λ (stories : List Story). length stories) second

-- due to a generated app: the summary
abbrev pub summarised : ℕ → Option ℕ → Outcome → Due
summarised size rows outcome = record {
  status = status_of outcome;
  text = summary_text size rows outcome;
  written = None;
}

abbrev pub due_of : Answer → Due
due_of Usage = usage
due_of (Vetted outcome) = reported outcome
due_of (Certified outcome path bytes) = certified outcome (string_bytes path) bytes
due_of (NoCertificate path) = no_certificate (string_bytes path)
due_of (LongCertificate path) = long_certificate (string_bytes path)
due_of (Uncertified refusal) = uncertified refusal
due_of (Storied outcome stories) = storied outcome stories
due_of (Made size rows outcome) = summarised size rows outcome

-- What the content of a case comes to by lists.
use Rattle.std.specs.Prelude.{◌≡◌, ℕ, List, Result, IfOk}
use denote.Ref.{Bor}
use denote.Param.Members.{Shared}
use Rattle.vet_base.specs.declared.memory.Memory.{Memory}
use Rattle.case_rules.specs.declared.case.Content.{Content}
use Rattle.case_rules.specs.declared.case.OutcomeWord.{OutcomeWord}
use Rattle.case_rules.specs.declared.case.OutcomeWord.TheVariants as words
use Rattle.case_rules.specs.Desk.{Judgement}
use Rattle.verdict.specs.declared.outcome.Judged.{Judged}
use Rattle.verdict.specs.declared.outcome.Outcome.{Outcome}
use Rattle.verdict.specs.declared.outcome.Outcome.TheVariants.{Clear, Flagged, Undecided, Refused}
use Rattle.verdict.specs.declared.parts.Parts.{Parts}
use Rattle.verdict_report.specs.Report.{report_text}
use Rattle.verdict.specs.Tells.{IsFollowed, TellsOfApp}
use Rattle.verdict.specs.Verdict.{IsSafeApp}
use Rattle.verdict.specs.Verdict.{Judgement as Verdict}

-- the files of the app, with these lists
abbrev pub parts_of : List ℕ → Content → Parts
parts_of lists content = record {
  manifest = content.manifest;
  layouts = content.layouts;
  declaration = content.declaration;
  lists = lists;
  dex = content.dex;
}

-- the first word of the report
abbrev pub word_of : Outcome → OutcomeWord
word_of Clear = words.Clear
word_of (Flagged findings) = words.Flagged
word_of (Undecided causes findings) = words.Undecided
word_of (Refused part reason) = words.Refused

-- The parts of an app come to this. Where it is clear the app is safe; and unless it is refused or too large, the outcome leaves
-- out nothing that a run of the app does.
abbrev pub IsJudged : Parts → Judged → Type 0
IsJudged parts judged =
    Verdict parts judged × (judged.outcome ≡ Clear → IsSafeApp parts) × (IsFollowed judged.outcome → TellsOfApp parts judged.outcome)

-- Every call is allowed, and gives what the parts come to, or no memory was left.
pub record JudgesApps {F : Type 0} (g : Shared F (Bor Parts × Unit {0}) (Result Judged Memory)) (f : F) : Type 0 where
  pub callable : (parts : Bor Parts) → g.pre f (parts, tt)
  pub judged : (parts : Bor Parts) (r : Result Judged Memory) → g.post f (parts, tt) r → IfOk r (IsJudged parts.now)

-- Word and report are those of the verdict on the content under the lists. Where the word is clear the content is an app
-- that is safe; and unless it is refused or too large, the report leaves out nothing that a run of the app does.
pub record FindsBy (lists : List ℕ) (content : Content) (judgement : Judgement) : Type 0 where
  pub judged : Judged
  pub verdict : Verdict (parts_of lists content) judged
  pub word : judgement.outcome ≡ word_of judged.outcome
  pub report : judgement.report ≡ report_text judged.outcome
  pub safe : judgement.outcome ≡ words.Clear → IsSafeApp (parts_of lists content)
  pub told : IsFollowed judged.outcome → TellsOfApp (parts_of lists content) judged.outcome

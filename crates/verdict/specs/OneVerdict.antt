-- That the parts of an app come to one outcome, with one table or none.
use Rattle.std.specs.Prelude.{◌≡◌}
use Rattle.dex_reader.specs.Dex.{OneDexOrFault}
use Rattle.app_flow.specs.Flow.{OneFlow}
use Rattle.app_link.specs.OneAnswer.{OneAppOrFault}
use Rattle.office_forms.specs.OneForm.{OneFormOrFault}
use Rattle.verdict.specs.declared.outcome.Judged.{Judged}
use Rattle.verdict.specs.declared.outcome.Part.{Part}
use Rattle.verdict.specs.declared.outcome.Reason.{Reason}
use Rattle.verdict.specs.declared.parts.Parts.{Parts}
use Rattle.verdict.specs.Refuses.{Refuses}
use Rattle.verdict.specs.Verdict.{Judgement, refusal}

-- a form, a DEX file and the files of an app each have one value, or one first fault; and an app has one flow
pub record LowerLaws : Type 0 where
  pub forms : OneFormOrFault
  pub files : OneDexOrFault
  pub links : OneAppOrFault
  pub flows : OneFlow

-- the parts come to nothing else
abbrev pub OnlyJudgement : Parts → Judged → Type 0
OnlyJudgement parts j = (other : Judged) → Judgement parts other → other ≡ j

-- the parts are refused so, and come to nothing else
pub record RefusesOnly (parts : Parts) (part : Part) (reason : Reason) : Type 0 where
  pub refuses : Refuses parts part reason
  pub only : OnlyJudgement parts (refusal part reason)

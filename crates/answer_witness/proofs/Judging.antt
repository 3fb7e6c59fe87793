-- A refusal has its cause, and an app its flow.
use Rattle.std.proofs.Common.{◌≡◌, List, None, ap, inl, inr, arith}
use Rattle.app_flow.specs.declared.flow.Flow.{Flow}
use Rattle.app_flow.specs.declared.flow.Flow.TheVariants.{Rows, TooLarge}
use Rattle.app_machine.specs.declared.app.App.{App}
use Rattle.app_machine.specs.declared.lists.Lists.{Lists}
use Rattle.app_machine.specs.declared.papers.Declaration.{Declaration}
use Rattle.form_fields.specs.declared.told.FormFault.{FormFault}
use Rattle.form_fields.specs.Tree.{IsNotToml}
use Rattle.outcomes.specs.declared.outcome.Cause.{Cause}
use Rattle.verdict.specs.declared.outcome.Judged.{Judged}
use Rattle.verdict.specs.declared.outcome.Outcome.TheVariants.{Clear}
use Rattle.verdict.specs.declared.outcome.Part.TheVariants as part
use Rattle.verdict.specs.declared.outcome.Reason.TheVariants as reason
use Rattle.verdict.specs.declared.parts.Parts.{Parts}
use Rattle.verdict.specs.Refuses.{Refuses, bad_layouts}
use Rattle.verdict.specs.Verdict.{Judgement, judged_by, linked, told_beside}
use Rattle.answer_witness.specs.JudgingFacts.{PartsAreJudged}

not_toml : (parts : Parts) (e : FormFault) → IsNotToml parts.manifest → Refuses parts part.Layouts (reason.Form e) → ⊥
not_toml parts e none (bad_layouts m fault has first) = elim none [
  | inl no_text ↦ no_text has.form.reads.0
  | inr no_tree ↦ let reads = has.form.reads.1 in let none : ⊥ = cc in none
]

no_app : (parts : Parts) → Refuses parts part.App reason.Absent → ⊥
no_app parts refuses = elim refuses [ ]

of_flow : (app : App) (lists : Lists) (declaration : Declaration) (beside : List Cause) (flow : Flow)
    → record { outcome = Clear; table = None } ≡ judged_by app lists declaration beside flow → ⊥
of_flow app lists declaration beside (Rows rows) same = let table = ap (λ (j : Judged). j.table) same in let none : ⊥ = cc in none
of_flow app lists declaration beside (TooLarge limit) same = let outcome = ap (λ (j : Judged). j.outcome) same in let none : ⊥ = cc in none

tabled : (parts : Parts) → Judgement parts (record { outcome = Clear; table = None }) → ⊥
tabled parts (linked papers dexes app reads is_app comes) = of_flow app papers.lists papers.declaration (told_beside papers dexes app) comes.flow comes.same

pub parts_are_judged : PartsAreJudged
parts_are_judged parts = record {
  manifest_first = not_toml parts;
  both_counted = λ m one two has. let same = has.count in let none : ⊥ = omega (arith, one, two, same) in none;
  not_absent = no_app parts;
  has_table = tabled parts;
}

-- From the table of an app to what is told of its parts.
use Rattle.std.proofs.Common.{◌≡◌, List, [], ◌∷◌, ◌++◌, Option, Some, None, Result, Ok, Err, IfOk, refl, sym, ap, subst, ◌∙◌}
use Rattle.std.proofs.lemmas.Option.{none-some, same_Some}
use Rattle.app_flow.specs.declared.flow.Flow.{Flow}
use Rattle.app_flow.specs.declared.flow.Flow.TheVariants.{Rows, TooLarge}
use Rattle.app_flow.specs.declared.flow_rows.FlowTable.{FlowTable}
use Rattle.app_flow.specs.Flow.{AreDerivable, IsFlow, by_paths, by_cells}
use Rattle.app_machine.specs.declared.app.App.{App}
use Rattle.app_machine.specs.declared.lists.Lists.{Lists}
use Rattle.app_machine.specs.declared.papers.Declaration.{Declaration}
use Rattle.fact_rows.specs.declared.row.Row.{Row}
use Rattle.outcomes.specs.declared.outcome.Cause.{Cause}
use Rattle.outcomes.specs.declared.outcome.Finding.{Finding}
use Rattle.outcomes.specs.Causes.{causes_of}
use Rattle.outcomes.specs.Findings.{findings_of}
use Rattle.store_lists.specs.declared.large.Large.{Large}
use Rattle.verdict.specs.declared.linking.Linked.{Linked}
use Rattle.verdict.specs.declared.outcome.Judged.{Judged}
use Rattle.verdict.specs.declared.outcome.Outcome.{Outcome}
use Rattle.verdict.specs.declared.outcome.Outcome.TheVariants.{Refused}
use Rattle.verdict.specs.declared.papers.Refusal.{Refusal}
use Rattle.verdict.specs.declared.parts.Parts.{Parts}
use Rattle.verdict.specs.Linked.{IsLinked, causes_beside}
use Rattle.verdict.specs.OneVerdict.{LowerLaws, OnlyJudgement, RefusesOnly}
use Rattle.verdict.specs.Outcome.{findings_in, outcome_of}
use Rattle.verdict.specs.Verdict.{ComesTo, judged_by, refused, refusal}
use Rattle.verdict.proofs.OneVerdict.{judged_only}
use Rattle.verdict.proofs.Outcomes.{judgement_on}
use Rattle.app_stories.specs.declared.judged.Told.{Told}
use Rattle.app_stories.specs.Stories.{Story, AreStoriesOf, Tells, alone, told, StoriesBy, HasStories, ComesToStories, OneJudgement}

findings_told : (causes : List Cause) (items : List Finding) → findings_in (outcome_of causes items) ≡ items
findings_told [] [] = refl
findings_told [] (f ∷ fs) = refl
findings_told (c ∷ cs) fs = refl

-- the table has what is derivable by its analysis, and the findings are those of its rows
pub record IsOfTable (app : App) (lists : Lists) (declaration : Declaration) (outcome : Outcome) (table : FlowTable) : Type 0 where
  pub derivable : AreDerivable table.analysis app lists table.rows
  pub findings : findings_in outcome ≡ findings_of app lists declaration table.rows

pub of_table : (app : App) (lists : Lists) (large : Option Large) (declaration : Declaration) (beside : List Cause) (judged : Judged) (table : FlowTable) →
    ComesTo app lists large declaration beside judged → judged.table ≡ Some table → IsOfTable app lists declaration judged.outcome table
of_table app lists large declaration beside judged table comes is = by_flow comes.flow comes.is_flow comes.same
  where
    of_rows : (found : FlowTable) → AreDerivable found.analysis app lists found.rows → judged ≡ judged_by app lists declaration beside (Rows found) →
        IsOfTable app lists declaration judged.outcome table
    of_rows found derivable same =
        let there : Some found ≡ Some table = sym (ap (λ (j : Judged). j.table) same) ∙ is in
        let e : found ≡ table = same_Some found table there in
        record {
          derivable = subst (λ (t : FlowTable). AreDerivable t.analysis app lists t.rows) e derivable;
          findings =
              ap (λ (j : Judged). findings_in j.outcome) same
              ∙ findings_told (causes_of app found.rows ++ beside) (findings_of app lists declaration found.rows)
              ∙ ap (λ (t : FlowTable). findings_of app lists declaration t.rows) e;
        }

    by_flow : (flow : Flow) → IsFlow app lists large flow → judged ≡ judged_by app lists declaration beside flow → IsOfTable app lists declaration judged.outcome table
    by_flow (Rows found) (by_paths derivable few) same = of_rows found derivable same
    by_flow (Rows found) (by_cells more asked derivable few) same = of_rows found derivable same
    by_flow (TooLarge limit) f same =
        let there : None ≡ Some table = sym (ap (λ (j : Judged). j.table) same) ∙ is in
        absurd (none-some table there)

-- stories of the findings of the rows are those of the outcome
pub stories_with : (linked : Linked) (judged : Judged) (table : FlowTable) (stories : List Story) → judged.table ≡ Some table →
    IsOfTable linked.app linked.papers.lists linked.papers.declaration judged.outcome table →
    AreStoriesOf linked.app linked.papers.lists linked.papers.declaration table (findings_of linked.app linked.papers.lists linked.papers.declaration table.rows) stories →
    HasStories linked judged (Some stories)
stories_with linked judged table stories is of are =
    let P : List Finding → Type 0 = λ fs. AreStoriesOf linked.app linked.papers.lists linked.papers.declaration table fs stories in
    subst (λ (t : Option FlowTable). StoriesBy linked judged.outcome t (Some stories)) (sym is) (subst P (sym of.findings) are)

pub stories_without : (linked : Linked) (judged : Judged) → judged.table ≡ None → HasStories linked judged None
stories_without linked judged is = subst (λ (table : Option FlowTable). StoriesBy linked judged.outcome table None) (sym is) tt

-- what an app comes to with stories
pub comes_with : (linked : Linked) (judged : Judged) (outcome : Outcome) (stories : Option (List Story)) →
    ComesTo linked.app linked.papers.lists linked.papers.large linked.papers.declaration (causes_beside linked) judged → outcome ≡ judged.outcome → HasStories linked judged stories →
    ComesToStories linked outcome stories
comes_with linked judged outcome stories comes same has = record {
  table = judged.table;
  comes = subst (λ (o : Outcome). ComesTo linked.app linked.papers.lists linked.papers.large linked.papers.declaration (causes_beside linked) (record { outcome = o; table = judged.table })) (sym same) comes;
  told = subst (λ (o : Outcome). StoriesBy linked o judged.table stories) (sym same) has;
}

-- the same of what is told, unless memory ran out
pub told_value : {E : Type 0} (linked : Linked) (judged : Judged) (r : Result Told E) →
    ComesTo linked.app linked.papers.lists linked.papers.large linked.papers.declaration (causes_beside linked) judged → IfOk r (λ t. t.outcome ≡ judged.outcome) →
    IfOk r (λ t. HasStories linked judged t.stories) → IfOk r (λ t. ComesToStories linked t.outcome t.stories)
told_value linked judged (Ok t) comes same has = comes_with linked judged t.outcome t.stories comes same has
told_value linked judged (Err e) comes same has = tt

pub told_outcome : {E : Type 0} (P : Outcome → Type 0) (judged : Judged) (r : Result Told E) → P judged.outcome → IfOk r (λ t. t.outcome ≡ judged.outcome) →
    IfOk r (λ t. P t.outcome)
told_outcome P judged (Ok t) holds same = subst P (sym same) holds
told_outcome P judged (Err e) holds same = tt

-- what is said of the app is said of the parts
pub tells_parts : (parts : Parts) (linked : Linked) (outcome : Outcome) (stories : Option (List Story)) → IsLinked parts linked → ComesToStories linked outcome stories → Tells parts outcome stories
tells_parts parts linked outcome stories is comes = by_table comes.table stories comes.comes comes.told
  where
    by_table : (table : Option FlowTable) (stories : Option (List Story)) →
        ComesTo linked.app linked.papers.lists linked.papers.large linked.papers.declaration (causes_beside linked) (record { outcome = outcome; table = table }) →
        StoriesBy linked outcome table stories → Tells parts outcome stories
    by_table None None comes by = alone outcome (judgement_on parts linked (record { outcome = outcome; table = None }) is comes)
    by_table None (Some stories) comes by = absurd by
    by_table (Some table) None comes by = absurd by
    by_table (Some table) (Some stories) comes by = told outcome table linked stories (judgement_on parts linked (record { outcome = outcome; table = Some table }) is comes) is by

pub one_of_only : (parts : Parts) (judged : Judged) → OnlyJudgement parts judged → OneJudgement parts
one_of_only parts judged only one other is too = only one is ∙ sym (only other too)

pub one_judgement : LowerLaws → (parts : Parts) (linked : Linked) (outcome : Outcome) (stories : Option (List Story)) → IsLinked parts linked → ComesToStories linked outcome stories → OneJudgement parts
one_judgement laws parts linked outcome stories is comes =
    let judged : Judged = record { outcome = outcome; table = comes.table } in
    one_of_only parts judged (judged_only laws parts linked judged is (judgement_on parts linked judged is comes.comes))

-- a refusal
pub refused_with : (parts : Parts) (r : Refusal) → RefusesOnly parts r.part r.reason → Tells parts (Refused r.part r.reason) None
refused_with parts r this = alone (Refused r.part r.reason) (refused r.part r.reason this.refuses)

pub one_refusal : (parts : Parts) (r : Refusal) → RefusesOnly parts r.part r.reason → OneJudgement parts
one_refusal parts r this = one_of_only parts (refusal r.part r.reason) this.only

-- What the parts of an app come to by rows that anyone made: it is one thing, and a good table tells of every run.
use Rattle.std.proofs.Common.{◌≡◌, List, Option, Some, None, refl, sym, ◌∙◌, ap, subst}
use Rattle.app_flow.specs.Defect.{OneDefect}
use Rattle.cert_checker.specs.declared.defect.TableDefect.{TableDefect}
use Rattle.app_machine.specs.declared.app.App.{App}
use Rattle.app_machine.specs.declared.lists.Lists.{Lists}
use Rattle.app_machine.specs.declared.papers.Declaration.{Declaration}
use Rattle.app_machine.specs.Sound.{SoundApp}
use Rattle.fact_rows.specs.declared.row.Row.{Row}
use Rattle.flow_analyses.specs.declared.Analysis.{Analysis}
use Rattle.flow_analyses.specs.Laws.{EachGoodTableCovers}
use Rattle.outcomes.specs.NothingLeftOut.{EachIsFound, EachIsNamed}
use Rattle.verdict.specs.declared.linking.Linked.{Linked}
use Rattle.verdict.specs.declared.outcome.Judged.{Judged}
use Rattle.verdict.specs.declared.outcome.Outcome.{Outcome}
use Rattle.verdict.specs.declared.outcome.Outcome.TheVariants as outcomes
use Rattle.verdict.specs.declared.outcome.Rechecked.{Rechecked}
use Rattle.verdict.specs.declared.outcome.Rechecked.TheVariants.{Refused, Unasked, Defect, By}
use Rattle.verdict.specs.declared.papers.Papers.{Papers}
use Rattle.verdict.specs.declared.papers.Refusal.{Refusal}
use Rattle.verdict.specs.declared.parts.Parts.{Parts}
use Rattle.dex_tables.specs.declared.dex.Dex.{Dex}
use Rattle.outcomes.specs.declared.outcome.Cause.{Cause}
use Rattle.store_lists.specs.declared.large.Large.{Large}
use Rattle.verdict.specs.Linked.{IsLinked, causes_beside}
use Rattle.verdict.specs.OneVerdict.{LowerLaws, RefusesOnly}
use Rattle.verdict.specs.Recheck.{OnlyRejudgement, RechecksTo, Rejudgement, TellsAllBy, TellsBy, refused, linked}
use Rattle.verdict.specs.Tells.{TellsAll, TellsOfApp}
use Rattle.verdict.specs.Verdict.{IsSafeApp, refusal, told_beside, refused as refused_judgement}
use Rattle.verdict.proofs.OneReading.{one_list}
use Rattle.verdict.proofs.OneVerdict.{as_read, no_app_of, one_papers}
use Rattle.verdict.proofs.Outcomes.{as_told, clear_is_safe, rows_tell}

-- where the rows are good, the outcome by them tells of every run
pub recheck_tells : EachIsFound → EachIsNamed → EachGoodTableCovers → (app : App) (lists : Lists) (large : Option Large) (declaration : Declaration) (beside : List Cause) (analysis : Analysis) (rows : List Row) (r : Rechecked)
    → SoundApp app → RechecksTo app lists large declaration beside analysis rows r → TellsAllBy app lists declaration r
recheck_tells found named covers app lists large declaration beside analysis rows (Refused part reason) sound to = tt
recheck_tells found named covers app lists large declaration beside analysis rows Unasked sound to = tt
recheck_tells found named covers app lists large declaration beside analysis rows (Defect defect) sound to = tt
recheck_tells found named covers app lists large declaration beside analysis rows (By outcome) sound to =
    subst (TellsAll app lists declaration) (sym to.2)
    (rows_tell found named analysis app lists declaration beside rows sound to.1 (covers analysis app lists rows sound to.1))

-- what is said of the app is said of the parts
pub rejudgement_on : (parts : Parts) (l : Linked) (analysis : Analysis) (rows : List Row) (r : Rechecked) → IsLinked parts l
    → RechecksTo l.app l.papers.lists l.papers.large l.papers.declaration (causes_beside l) analysis rows r → Rejudgement parts analysis rows r
rejudgement_on parts l analysis rows r is to =
    linked l.papers is.dexes l.app is.reads is.is_app
    (subst (λ (beside : List Cause). RechecksTo l.app l.papers.lists l.papers.large l.papers.declaration beside analysis rows r) (as_told parts l is) to)

pub tells_by_parts : (parts : Parts) (l : Linked) (r : Rechecked) → IsLinked parts l → TellsAllBy l.app l.papers.lists l.papers.declaration r → TellsBy parts r
tells_by_parts parts l (Refused part reason) is tells = tt
tells_by_parts parts l Unasked is tells = tt
tells_by_parts parts l (Defect defect) is tells = tt
tells_by_parts parts l (By outcome) is tells = record { papers = l.papers; dexes = is.dexes; reads = is.reads; app = l.app; is_app = is.is_app; tells = tells }

pub clear_by_is_safe : (parts : Parts) (r : Rechecked) → TellsBy parts r → r ≡ By outcomes.Clear → IsSafeApp parts
clear_by_is_safe parts r tells clear =
    let told : TellsOfApp parts outcomes.Clear = subst (TellsBy parts) clear tells in
    clear_is_safe parts outcomes.Clear (λ followed. told) refl

-- an app comes to one thing by rows
module _ (law : OneDefect) (app : App) (lists : Lists) (large : Option Large) (declaration : Declaration) (beside : List Cause) (analysis : Analysis) (rows : List Row) where
  abbrev To : Rechecked → Type 0
  To r = RechecksTo app lists large declaration beside analysis rows r

  same_defect : (d e : TableDefect) → Some d ≡ Some e → Defect d ≡ Defect e
  same_defect d e same = let equal : d ≡ e = cc in ap Defect equal

  not_both : (d : TableDefect) → Some d ≡ None → ⊥
  not_both d same = cc

  one_recheck : (one other : Rechecked) → To one → To other → one ≡ other
  one_recheck (Refused part reason) other a b = absurd a
  one_recheck one (Refused part reason) a b = absurd b
  one_recheck Unasked Unasked a b = refl
  one_recheck Unasked (Defect d) a b = absurd (a b.0)
  one_recheck Unasked (By outcome) a b = absurd (a b.0)
  one_recheck (Defect d) Unasked a b = absurd (b a.0)
  one_recheck (By outcome) Unasked a b = absurd (b a.0)
  one_recheck (Defect d) (Defect e) a b = same_defect d e (law analysis app lists rows (Some d) (Some e) a.1 b.1)
  one_recheck (Defect d) (By outcome) a b = absurd (not_both d (law analysis app lists rows (Some d) None a.1 b.1))
  one_recheck (By outcome) (Defect d) a b = absurd (not_both d (law analysis app lists rows (Some d) None b.1 a.1))
  one_recheck (By one) (By other) a b = ap By (a.2 ∙ sym b.2)

-- the outcome of a judgement, as what a refusal comes to by any rows
abbrev as_rechecked : Outcome → Rechecked
as_rechecked (outcomes.Refused part reason) = Refused part reason
as_rechecked outcome = By outcome

module _ (laws : LowerLaws) (parts : Parts) (analysis : Analysis) (rows : List Row) where
  -- refused parts are refused whatever the rows are
  pub only_refused : (r : Refusal) → RefusesOnly parts r.part r.reason → OnlyRejudgement parts analysis rows (Refused r.part r.reason)
  only_refused r this _ (refused part why again) = same_refusal (this.only (refusal part why) (refused_judgement part why again))
    where
      same_refusal : refusal part why ≡ refusal r.part r.reason → Refused part why ≡ Refused r.part r.reason
      same_refusal same = ap (λ (j : Judged). as_rechecked j.outcome) same
  only_refused r this other (linked papers dexes app reads is to) = absurd (no_app_of laws parts r.part r.reason this.refuses papers dexes app reads is)

  -- and a linked app comes to one thing
  pub only_rejudged : OneDefect → (l : Linked) (r : Rechecked) → IsLinked parts l → RechecksTo l.app l.papers.lists l.papers.large l.papers.declaration (causes_beside l) analysis rows r
      → OnlyRejudgement parts analysis rows r
  only_rejudged law l r is to _ (refused part why refuses) = absurd (no_app_of laws parts part why refuses l.papers is.dexes l.app is.reads is.is_app)
  only_rejudged law l r is to other (linked papers dexes app reads is_app too) =
      let by : App → Papers → List Cause → Type 0 = λ a p beside. RechecksTo a p.lists p.large p.declaration beside analysis rows other in
      let same_app : app ≡ l.app = is.only.only app (as_read laws parts papers l.papers dexes is.dexes app reads is.reads is_app) in
      let same_papers : papers ≡ l.papers = one_papers laws parts papers l.papers reads.forms is.reads.forms in
      let same_dexes : dexes ≡ is.dexes = one_list laws.files parts.dex dexes is.dexes reads.files is.reads.files in
      let first : by l.app papers (told_beside papers dexes l.app) = subst (λ (a : App). by a papers (told_beside papers dexes a)) same_app too in
      let second : by l.app l.papers (told_beside l.papers dexes l.app) = subst (λ (p : Papers). by l.app p (told_beside p dexes l.app)) same_papers first in
      let third : by l.app l.papers (told_beside l.papers is.dexes l.app) = subst (λ (ds : List Dex). by l.app l.papers (told_beside l.papers ds l.app)) same_dexes second in
      let fourth : by l.app l.papers (causes_beside l) = subst (by l.app l.papers) (sym (as_told parts l is)) third in
      one_recheck law l.app l.papers.lists l.papers.large l.papers.declaration (causes_beside l) analysis rows other r fourth to

pub refused_anyway : (parts : Parts) (analysis : Analysis) (rows : List Row) (r : Refusal) → RefusesOnly parts r.part r.reason → Rejudgement parts analysis rows (Refused r.part r.reason)
refused_anyway parts analysis rows r this = refused r.part r.reason this.refuses

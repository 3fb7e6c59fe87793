-- What linked parts come to leaves out nothing.
use Rattle.std.proofs.Common.{◌≡◌, List, refl, sym, ap, subst}
use Rattle.app_machine.specs.declared.app.App.{App}
use Rattle.app_machine.specs.declared.lists.Lists.{Lists}
use Rattle.app_machine.specs.Sound.{SoundApp}
use Rattle.app_machine.specs.SoundLists.{SoundLists}
use Rattle.app_flow.specs.Flow.{IsGoodFlow}
use Rattle.app_flow.proofs.Found.{flow_is_good}
use Rattle.dex_tables.specs.declared.dex.Dex.{Dex}
use Rattle.fact_rows.specs.declared.row.Row.{Row}
use Rattle.flow_analyses.specs.declared.Analysis.{Analysis}
use Rattle.flow_analyses.specs.Laws.{AllDerivedRowsAreGood, EachGoodTableCovers}
use Rattle.outcomes.specs.NothingLeftOut.{EachIsFound, EachIsNamed}
use Rattle.store_lists.specs.declared.lists.StoreLists.{StoreLists}
use Rattle.verdict.specs.declared.linking.Linked.{Linked}
use Rattle.verdict.specs.declared.outcome.Judged.{Judged}
use Rattle.verdict.specs.declared.outcome.Outcome.{Outcome}
use Rattle.verdict.specs.declared.outcome.Rechecked.{Rechecked}
use Rattle.verdict.specs.declared.outcome.Rechecked.TheVariants.{Refused, Unasked, Defect, By}
use Rattle.verdict.specs.declared.papers.Papers.{Papers}
use Rattle.verdict.specs.declared.parts.Parts.{Parts}
use Rattle.verdict.specs.Linked.{IsLinked}
use Rattle.verdict.specs.OneVerdict.{LowerLaws}
use Rattle.verdict.specs.Recheck.{Rejudgement, TellsAllBy, TellsBy, refused as refused_anyway, linked as linked_again}
use Rattle.verdict.specs.Refuses.{Reads, lists_of}
use Rattle.app_link.specs.IsApp.{IsApp}
use Rattle.verdict.specs.Tells.{IsFollowed, TellsOfApp}
use Rattle.verdict.specs.Verdict.{Judgement, refused, linked, told_beside}
use Rattle.verdict.proofs.OneVerdict.{as_read}
use Rattle.verdict.proofs.Outcomes.{flow_tells}
use Rattle.verdict.proofs.Rechecks.{recheck_tells}
use Rattle.outcome_law.specs.TellsAll.{EachOutcomeTellsAll}

module _ (laws : LowerLaws) (found : EachIsFound) (named : EachIsNamed) (covers : EachGoodTableCovers) (whole : AllDerivedRowsAreGood) where
  module _ (parts : Parts) (l : Linked) (is : IsLinked parts l) (sound : SoundApp l.app) (sound_lists : SoundLists l.papers.lists) where
    app_is_sound : (papers : Papers) (dexes : List Dex) (app : App) → Reads parts papers dexes → IsApp dexes papers.manifest papers.layouts app → SoundApp app
    app_is_sound papers dexes app reads is_app =
        let same : app ≡ l.app = is.only.only app (as_read laws parts papers l.papers dexes is.dexes app reads is.reads is_app) in
        subst SoundApp (sym same) sound

    lists_are_sound : (papers : Papers) (dexes : List Dex) → Reads parts papers dexes → SoundLists papers.lists
    lists_are_sound papers dexes reads =
        let same : papers.lists ≡ l.papers.lists = ap (λ (ls : StoreLists). ls.lists) ((laws.forms.lists parts.lists).one_form (lists_of papers) (lists_of l.papers) reads.forms.lists is.reads.forms.lists) in
        subst SoundLists (sym same) sound_lists

    judged_tells : (outcome : Outcome) → IsFollowed outcome → (j : Judged) → Judgement parts j → j.outcome ≡ outcome → TellsOfApp parts outcome
    judged_tells outcome followed _ (refused part why refuses) same = absurd (followed.not_refused part why (sym same))
    judged_tells outcome followed j (linked papers dexes app reads is_app comes) same =
        let app_sound = app_is_sound papers dexes app reads is_app in
        let good : IsGoodFlow app papers.lists comes.flow = flow_is_good whole app papers.lists papers.large app_sound (lists_are_sound papers dexes reads) comes.flow comes.is_flow in
        let told : TellsOfApp parts j.outcome = record {
          papers = papers;
          dexes = dexes;
          reads = reads;
          app = app;
          is_app = is_app;
          tells = flow_tells found named covers app papers.lists papers.declaration (told_beside papers dexes app) comes.flow j app_sound good comes.same (subst IsFollowed (sym same) followed);
        } in
        subst (TellsOfApp parts) same told

    by_rows : (papers : Papers) (dexes : List Dex) (app : App) → Reads parts papers dexes → IsApp dexes papers.manifest papers.layouts app → (r : Rechecked) → TellsAllBy app papers.lists papers.declaration r → TellsBy parts r
    by_rows papers dexes app reads is_app (Refused part why) tells = tt
    by_rows papers dexes app reads is_app Unasked tells = tt
    by_rows papers dexes app reads is_app (Defect defect) tells = tt
    by_rows papers dexes app reads is_app (By outcome) tells = record { papers = papers; dexes = dexes; reads = reads; app = app; is_app = is_app; tells = tells }

    rechecked : (analysis : Analysis) (rows : List Row) (r : Rechecked) → Rejudgement parts analysis rows r → TellsBy parts r
    rechecked analysis rows _ (refused_anyway part why refuses) = tt
    rechecked analysis rows r (linked_again papers dexes app reads is_app to) =
        by_rows papers dexes app reads is_app r
        (recheck_tells found named covers app papers.lists papers.large papers.declaration (told_beside papers dexes app) analysis rows r (app_is_sound papers dexes app reads is_app) to)

  pub each_tells_all : EachOutcomeTellsAll
  each_tells_all = record {
    verdict = λ parts l is sound sound_lists outcome comes followed. judged_tells parts l is sound sound_lists outcome followed (record { outcome = outcome; table = comes.0 }) comes.1 refl;
    recheck = λ parts l is sound sound_lists analysis rows r to. rechecked parts l is sound sound_lists analysis rows r to;
  }

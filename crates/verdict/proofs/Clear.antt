-- Parts of which the verdict is clear make a safe app.
use Rattle.std.proofs.Common.{◌≡◌, refl, sym, ap, subst}
use Rattle.app_machine.specs.declared.app.App.{App}
use Rattle.app_machine.specs.declared.lists.Lists.{Lists}
use Rattle.app_machine.specs.Sound.{SoundApp}
use Rattle.app_machine.specs.SoundLists.{SoundLists}
use Rattle.app_flow.specs.Flow.{IsGoodFlow}
use Rattle.app_flow.proofs.Found.{flow_is_good}
use Rattle.flow_analyses.specs.Laws.{AllDerivedRowsAreGood, EachGoodTableCovers}
use Rattle.outcomes.specs.NothingLeftOut.{EachIsFound, EachIsNamed}
use Rattle.verdict.specs.declared.linking.Linked.{Linked}
use Rattle.verdict.specs.declared.outcome.Judged.{Judged}
use Rattle.verdict.specs.declared.outcome.Outcome.TheVariants.{Clear, Refused}
use Rattle.verdict.specs.declared.parts.Parts.{Parts}
use Rattle.verdict.specs.Clear.{ClearIsSafe}
use Rattle.store_lists.specs.declared.lists.StoreLists.{StoreLists}
use Rattle.verdict.specs.Linked.{IsLinked}
use Rattle.verdict.specs.Refuses.{lists_of}
use Rattle.verdict.specs.OneVerdict.{LowerLaws}
use Rattle.verdict.specs.Tells.{IsFollowed, TellsOfApp}
use Rattle.verdict.specs.Verdict.{Judgement, refused, linked, told_beside, IsSafeApp}
use Rattle.verdict.proofs.OneVerdict.{as_read}
use Rattle.verdict.proofs.Outcomes.{flow_tells, clear_is_safe}

module _ (laws : LowerLaws) (found : EachIsFound) (named : EachIsNamed) (covers : EachGoodTableCovers) (whole : AllDerivedRowsAreGood) where
  safe_of : (parts : Parts) (l : Linked) (j : Judged) → IsLinked parts l → SoundApp l.app → SoundLists l.papers.lists → Judgement parts j → j.outcome ≡ Clear → IsSafeApp parts
  safe_of parts l _ is sound sound_lists (refused part why refuses) clear = let bad : Refused part why ≡ Clear = clear in absurd cc
  safe_of parts l j is sound sound_lists (linked papers dexes app reads is_app comes) clear =
      let same : app ≡ l.app = is.only.only app (as_read laws parts papers l.papers dexes is.dexes app reads is.reads is_app) in
      let same_lists : papers.lists ≡ l.papers.lists =
      ap (λ (ls : StoreLists). ls.lists) ((laws.forms.lists parts.lists).one_form (lists_of papers) (lists_of l.papers) reads.forms.lists is.reads.forms.lists) in
      let app_sound : SoundApp app = subst SoundApp (sym same) sound in
      let lists_sound : SoundLists papers.lists = subst SoundLists (sym same_lists) sound_lists in
      let good : IsGoodFlow app papers.lists comes.flow = flow_is_good whole app papers.lists papers.large app_sound lists_sound comes.flow comes.is_flow in
      let told : IsFollowed j.outcome → TellsOfApp parts j.outcome = λ followed. record {
        papers = papers;
        dexes = dexes;
        reads = reads;
        app = app;
        is_app = is_app;
        tells = flow_tells found named covers app papers.lists papers.declaration (told_beside papers dexes app) comes.flow j app_sound good comes.same followed;
      } in
      clear_is_safe parts j.outcome told clear

  pub clear_is_of_safe : ClearIsSafe
  clear_is_of_safe parts l is sound sound_lists verdict = safe_of parts l _ is sound sound_lists verdict.1 refl

-- What a memo keeps as entries come and go.
use Rattle.std.proofs.Common.{◌≡◌, ◌⊎◌, List, sym, subst, inl, inr}
use Rattle.vet_base.specs.Members.{In}
use Rattle.case_rules.specs.declared.case.Content.{Content}
use Rattle.case_rules.specs.Desk.{Judgement}
use Rattle.desk_serving.specs.declared.judge.Judged.{Judged}
use Rattle.desk_serving.specs.Obeying.{judgement_of}
use Rattle.judged_ahead.specs.declared.found.Found.{Found}
use Rattle.judged_ahead.specs.Memos.{AreFound}

module _ (finds : Content → Judgement → Type 0) where
  -- an entry more
  pub are_with : (old new : List Found) (one : Found) → AreFound finds old → finds one.content (judgement_of one.judged)
      → ((f : Found) → In f new → In f old ⊎ (f ≡ one)) → AreFound finds new
  are_with old new one are is each f there = elim (each f there) [
    | inl before ↦ are f before
    | inr same ↦ subst (λ (z : Found). finds z.content (judgement_of z.judged)) (sym same) is
  ]

  -- one that is looked up
  pub is_found : (all : List Found) (f : Found) (content : Content) (judged : Judged) → AreFound finds all → In f all
      → f.content ≡ content → judged ≡ f.judged → finds content (judgement_of judged)
  is_found all f content judged are there same is =
      subst (λ (j : Judged). finds content (judgement_of j)) (sym is)
      (subst (λ (c : Content). finds c (judgement_of f.judged)) same (are f there))

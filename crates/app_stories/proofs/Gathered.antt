-- Stories one by one, and the rows that they are of.
use Rattle.std.proofs.Common.{◌≡◌, ◌<◌, ◌+◌, ℕ, List, [], ◌∷◌, ◌++◌, length, take, get_or, sym, ap, ◌∙◌, subst, inl, inr, arith, Result, IfOk, Vec, Global}
use Rattle.std.proofs.lemmas.List.{take_more}
use Rattle.app_flow.specs.Defect.{SameRows}
use Rattle.app_flow.specs.Flow.{AreDerivable}
use Rattle.app_machine.specs.declared.app.App.{App}
use Rattle.app_machine.specs.declared.lists.Lists.{Lists}
use Rattle.app_machine.specs.declared.papers.Declaration.{Declaration}
use Rattle.fact_rows.specs.declared.row.Row.{Row}
use Rattle.finding_rows.specs.Arrivals.{AreFirstArrivals}
use Rattle.flow_analyses.specs.declared.Analysis.{Analysis}
use Rattle.flow_analyses.specs.Analyses.{FollowsBy}
use Rattle.flow_rules.specs.Rules.{Starts}
use Rattle.flow_story.specs.Stories.{TellsOf}
use Rattle.flow_trail.specs.Trails.{AreAll, AreSame, Came, IsTrail}
use Rattle.outcomes.specs.declared.outcome.Finding.{Finding}
use Rattle.vet_base.specs.Members.{In}
use Rattle.vet_base.proofs.Members.{in_slice_get}
use Rattle.app_stories.specs.Stories.{Story, AreStories}

-- one more
pub stories_more : {Rule : ℕ → List Row → Row → Type 0} {Start : Row → Type 0} (rows : List Row) (stories : List Story) (row : Row) (story : Story) →
    AreStories Rule Start rows stories → TellsOf Rule Start row story → AreStories Rule Start (rows ++ row ∷ []) (stories ++ story ∷ [])
stories_more [] [] row story are is = (is, tt)
stories_more [] (s ∷ stories) row story are is = absurd are
stories_more (r ∷ rows) [] row story are is = absurd are
stories_more (r ∷ rows) (s ∷ stories) row story are is = (are.0, stories_more rows stories row story are.1 is)

pub stories_next : {Rule : ℕ → List Row → Row → Type 0} {Start : Row → Type 0} (goals : List Row) (place : ℕ) (stories : List Story) (goal : Row) (story : Story) →
    place < length goals → goal ≡ get_or goals place goal → AreStories Rule Start (take place goals) stories → TellsOf Rule Start goal story →
    AreStories Rule Start (take (place + 1) goals) (stories ++ story ∷ [])
stories_next {Rule} {Start} goals place stories goal story below item are is =
    let more : take (place + 1) goals ≡ take place goals ++ goal ∷ [] = take_more goals place goal below ∙ ap (λ (x : Row). take place goals ++ x ∷ []) (sym item) in
    subst (λ (z : List Row). AreStories Rule Start z (stories ++ story ∷ [])) (sym more) (stories_more (take place goals) stories goal story are is)

pub none_told : (Rule : ℕ → List Row → Row → Type 0) (Start : Row → Type 0) (goals : List Row) → length goals ≡ 0 → AreStories Rule Start goals []
none_told Rule Start [] none = tt
none_told Rule Start (goal ∷ goals) none = absurd (omega (arith, none))

-- a trail of rows has just these rows
pub own_rows : {Rule : ℕ → List Row → Row → Type 0} {Start : Row → Type 0} (rows : List Row) (came : Came) → IsTrail Rule Start rows came → IsTrail Rule Start came.rows came
own_rows {Rule} {Start} rows came trail = subst (λ (z : List Row). IsTrail Rule Start z came) (sym trail.of) trail

pub in_own_rows : {Rule : ℕ → List Row → Row → Type 0} {Start : Row → Type 0} (rows goals : List Row) (came : Came) → IsTrail Rule Start rows came → ((row : Row) → In row goals → In row rows) →
    (row : Row) → In row goals → In row came.rows
in_own_rows rows goals came trail there row is = subst (In row) (sym trail.of) (there row is)

-- each first arrival is one of the rows
pub goals_there : (app : App) (lists : Lists) (declaration : Declaration) (rows : List Row) (findings : List Finding) (goals : List Row) →
    AreFirstArrivals app lists declaration rows findings goals → (row : Row) → In row goals → In row rows
goals_there app lists declaration rows [] [] are row there = absurd there
goals_there app lists declaration rows [] (goal ∷ goals) are row there = absurd are
goals_there app lists declaration rows (finding ∷ findings) [] are row there = absurd are
goals_there app lists declaration rows (finding ∷ findings) (goal ∷ goals) are row (inl same) =
    subst (λ (z : Row). In z rows) (sym same) (in_slice_get rows are.0.place goal are.0.there.there)
goals_there app lists declaration rows (finding ∷ findings) (goal ∷ goals) are row (inr later) = goals_there app lists declaration rows findings goals are.1 row later

-- what is derivable by an analysis is all that follows by its rules, in whatever order the rows stand
pub all_by_rules : (analysis : Analysis) (app : App) (lists : Lists) (table rows : List Row) → AreDerivable analysis app lists table → SameRows rows table →
    AreAll (FollowsBy analysis app lists) (Starts app) rows
all_by_rules analysis app lists table rows derivable alike = record {
  each = λ row. (
    λ there. (derivable.exact row).0 ((alike row).0 there),
    λ derived. (alike row).1 ((derivable.exact row).1 derived),
  );
}

module _ (analysis of_rules : Analysis) (app of_index : App) (lists listed : Lists) (one_analysis : of_rules ≡ analysis) (one_app : of_index ≡ app) (one_lists : listed ≡ lists) where
  -- what is said of an analysis, an app and lists is said of those that the rules are of
  pub derivable_as : (rows : List Row) → AreDerivable analysis app lists rows → AreDerivable of_rules of_index listed rows
  derivable_as rows derivable =
      subst (λ (a : Analysis). AreDerivable a of_index listed rows) (sym one_analysis)
      (subst (λ (z : App). AreDerivable analysis z listed rows) (sym one_app) (subst (λ (z : Lists). AreDerivable analysis app z rows) (sym one_lists) derivable))

  pub told_as : {E : Type 0} (goals : List Row) (r : Result (Vec Story Global) E) →
      IfOk r (λ v. AreStories (FollowsBy of_rules of_index listed) (Starts of_index) goals v.items) →
      IfOk r (λ v. AreStories (FollowsBy analysis app lists) (Starts app) goals v.items)
  told_as goals r told =
      subst (λ (a : Analysis). IfOk r (λ v. AreStories (FollowsBy a app lists) (Starts app) goals v.items)) one_analysis
      (subst (λ (z : App). IfOk r (λ v. AreStories (FollowsBy of_rules z lists) (Starts z) goals v.items)) one_app
      (subst (λ (z : Lists). IfOk r (λ v. AreStories (FollowsBy of_rules of_index z) (Starts of_index) goals v.items)) one_lists told))

pub same_itself : (rows : List Row) → AreSame rows rows
same_itself rows = record { each = λ row. (λ there. there, λ there. there) }

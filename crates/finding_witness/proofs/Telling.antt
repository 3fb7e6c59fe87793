-- What does not tell a finding first, and what are no stories.
use Rattle.std.proofs.Common.{◌≡◌, ℕ, zero, suc, ◌<◌, true, false, List, [], ◌∷◌, Some, slice_get, refl, sym, ap, ◌∙◌, arith}
use Rattle.std.proofs.lemmas.Option.{same_Some}
use Rattle.app_flow.specs.declared.flow_rows.FlowTable.{FlowTable}
use Rattle.app_machine.specs.declared.papers.Declaration.{Declaration}
use Rattle.app_machine.specs.State.{Arrival}
use Rattle.fact_rows.specs.declared.context.Ctx.{Ctx}
use Rattle.fact_rows.specs.declared.context.Ctx.TheVariants as ctx
use Rattle.fact_rows.specs.declared.row.Row.{Row}
use Rattle.fact_rows.specs.declared.row.Row.TheVariants.{Arrive}
use Rattle.flow_story.specs.declared.line.StoryLine.{StoryLine}
use Rattle.outcomes.specs.declared.outcome.Finding.{Finding}
use Rattle.outcomes.specs.Findings.{category, declares, names_pair, finding_of, is_undeclared}
use Rattle.outcomes.specs.Places.{place_in}
use Rattle.flow_analyses.specs.Analyses.{FollowsBy}
use Rattle.flow_rules.specs.Rules.{Starts}
use Rattle.vet_base.specs.Members.{IsAt}
use Rattle.finding_rows.specs.Arrivals.{IsFirstArrival, AreFirstArrivals, Tells}
use Rattle.app_stories.specs.Stories.{AreStories, AreStoriesOf}
use Rattle.finding_witness.specs.FindingFacts.{FindingsAreTold, no_app, two_categories, undeclared, declared, arrives, sent_at}

-- what an arrival is, and what it is called
abbrev arrival : ℕ → Arrival
arrival pc = record { label = 0; sink = 1; method = 0; pc = pc }

called : (pc : ℕ) → finding_of no_app two_categories (arrival pc) ≡ sent_at pc
unfolding category place_in no_app
called pc = refl

-- a place that a finding names is its own
own_place : (declaration : Declaration) (event pc other : ℕ) → Tells no_app two_categories declaration (sent_at other) (arrives event pc) → pc ≡ other
own_place declaration event pc other tells =
    let same : arrival pc ≡ tells.arrival = same_Some (arrival pc) tells.arrival tells.arrives in
    let named : sent_at pc ≡ sent_at other = sym (called pc) ∙ ap (finding_of no_app two_categories) same ∙ tells.named in
    ap (λ (f : Finding). f.at.pc) named

tells_itself : (event pc : ℕ) → is_undeclared two_categories undeclared (arrival pc) ≡ true → Tells no_app two_categories undeclared (sent_at pc) (arrives event pc)
tells_itself event pc free = record { arrival = arrival pc; arrives = refl; undeclared = free; named = called pc }

free : (pc : ℕ) → is_undeclared two_categories undeclared (arrival pc) ≡ true
unfolding declares names_pair category
free pc = refl

not_free : (pc : ℕ) → is_undeclared two_categories declared (arrival pc) ≡ false
unfolding declares names_pair category
not_free pc = refl

of_declared : Tells no_app two_categories declared (sent_at 4) (arrives 1 4) → ⊥
of_declared tells =
    let same : arrival 4 ≡ tells.arrival = same_Some (arrival 4) tells.arrival tells.arrives in
    let yes : is_undeclared two_categories declared (arrival 4) ≡ true = ap (is_undeclared two_categories declared) same ∙ tells.undeclared in
    let no : false ≡ true = sym (not_free 4) ∙ yes in
    absurd cc

-- the event of an arrival's context
abbrev event_of : Ctx → ℕ
event_of (ctx.Row c e) = e
event_of _ = 0

abbrev event_in : Row → ℕ
event_in (Arrive label sink n) = event_of n.by.ctx
event_in _ = 0

later_context : IsFirstArrival no_app two_categories undeclared (arrives 1 4 ∷ arrives 2 4 ∷ []) (sent_at 4) (arrives 2 4) → ⊥
later_context first = by_place first.place first.there.there first.before
  where
    by_place : (place : ℕ) → slice_get (arrives 1 4 ∷ arrives 2 4 ∷ []) place ≡ Some (arrives 2 4) →
        ((earlier : ℕ) (other : Row) → earlier < place → IsAt (arrives 1 4 ∷ arrives 2 4 ∷ []) earlier other → Tells no_app two_categories undeclared (sent_at 4) other → ⊥) → ⊥
    by_place zero is before = let e : arrives 1 4 ≡ arrives 2 4 = same_Some (arrives 1 4) (arrives 2 4) is in let n : 1 ≡ 2 = ap event_in e in absurd (omega (arith, n))
    by_place (suc place) is before = before 0 (arrives 1 4) (omega arith) (record { there = refl }) (tells_itself 1 4 (free 4))

left_out : (table : FlowTable) (one other : Finding) (story : List StoryLine) → AreStoriesOf no_app two_categories undeclared table (one ∷ other ∷ []) (story ∷ []) → ⊥
left_out table one other story are = by_goals are.goals are.first are.told
  where
    by_goals : (goals : List Row) → AreFirstArrivals no_app two_categories undeclared table.rows (one ∷ other ∷ []) goals → AreStories (FollowsBy table.analysis no_app two_categories) (Starts no_app) goals (story ∷ []) → ⊥
    by_goals [] first told = first
    by_goals (a ∷ []) first told = first.1
    by_goals (a ∷ b ∷ goals) first told = told.1

one_more : (table : FlowTable) (story : List StoryLine) → AreStoriesOf no_app two_categories undeclared table [] (story ∷ []) → ⊥
one_more table story are = by_goals are.goals are.first are.told
  where
    by_goals : (goals : List Row) → AreFirstArrivals no_app two_categories undeclared table.rows [] goals → AreStories (FollowsBy table.analysis no_app two_categories) (Starts no_app) goals (story ∷ []) → ⊥
    by_goals [] first told = told
    by_goals (a ∷ goals) first told = first

pub findings_are_told : FindingsAreTold
findings_are_told = record {
  other_place = λ first. let e : 0 ≡ 4 = own_place undeclared 1 0 4 first.tells in absurd (omega (arith, e));
  later_context = later_context;
  of_declared = of_declared;
  left_out = left_out;
  one_more = one_more;
}

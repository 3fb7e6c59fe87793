-- Stories of the findings of an app.
use Rattle.std.specs.Prelude.{◌≡◌, ℕ, List, [], ◌∷◌, Option, Some, None}
use Rattle.app_machine.specs.declared.app.App.{App}
use Rattle.app_machine.specs.declared.lists.Lists.{Lists}
use Rattle.app_machine.specs.declared.papers.Declaration.{Declaration}
use Rattle.app_flow.specs.declared.flow_rows.FlowTable.{FlowTable}
use Rattle.fact_rows.specs.declared.row.Row.{Row}
use Rattle.finding_rows.specs.Arrivals.{AreFirstArrivals}
use Rattle.flow_analyses.specs.Analyses.{FollowsBy}
use Rattle.flow_rules.specs.Rules.{Starts}
use Rattle.flow_story.specs.declared.line.StoryLine.{StoryLine}
use Rattle.flow_story.specs.Stories.{TellsOf}
use Rattle.outcomes.specs.declared.outcome.Finding.{Finding}
use Rattle.verdict.specs.declared.linking.Linked.{Linked}
use Rattle.verdict.specs.declared.outcome.Judged.{Judged}
use Rattle.verdict.specs.declared.outcome.Outcome.{Outcome}
use Rattle.verdict.specs.declared.parts.Parts.{Parts}
use Rattle.verdict.specs.Linked.{IsLinked, causes_beside}
use Rattle.verdict.specs.Outcome.{findings_in}
use Rattle.verdict.specs.Verdict.{ComesTo, Judgement}

abbrev pub Story : Type 0
Story = List StoryLine

-- for each of the rows, in their order, a story of it without a line too many
abbrev pub AreStories : (ℕ → List Row → Row → Type 0) → (Row → Type 0) → List Row → List Story → Type 0
AreStories Rule Start [] [] = Unit {0}
AreStories Rule Start (row ∷ rows) (story ∷ stories) = TellsOf Rule Start row story × AreStories Rule Start rows stories
AreStories Rule Start _ _ = ⊥

-- for each of the findings, in their order, a story of the first row of the table that tells it, by the rules of its analysis
pub record AreStoriesOf (app : App) (lists : Lists) (declaration : Declaration) (table : FlowTable)
    (findings : List Finding) (stories : List Story) : Type 0 where
  pub goals : List Row
  pub first : AreFirstArrivals app lists declaration table.rows findings goals
  pub told : AreStories (FollowsBy table.analysis app lists) (Starts app) goals stories

-- What is told of the parts: what they come to, and the stories of its findings by their table, where there is one.
pub data Tells (parts : Parts) : Outcome → Option (List Story) → Type 0 where
  alone : (outcome : Outcome) →
      Judgement parts (record { outcome = outcome; table = None }) →
      Tells parts outcome None
  told : (outcome : Outcome) (table : FlowTable) (linked : Linked) (stories : List Story) →
      Judgement parts (record { outcome = outcome; table = Some table }) →
      IsLinked parts linked →
      AreStoriesOf linked.app linked.papers.lists linked.papers.declaration table (findings_in outcome) stories →
      Tells parts outcome (Some stories)

-- what is told of a linked app by what it comes to
abbrev pub StoriesBy : Linked → Outcome → Option FlowTable → Option (List Story) → Type 0
StoriesBy linked outcome None None = Unit {0}
StoriesBy linked outcome (Some table) (Some stories) =
    AreStoriesOf linked.app linked.papers.lists linked.papers.declaration table (findings_in outcome) stories
StoriesBy linked outcome _ _ = ⊥

abbrev pub HasStories : Linked → Judged → Option (List Story) → Type 0
HasStories linked judged stories = StoriesBy linked judged.outcome judged.table stories

pub record ComesToStories (linked : Linked) (outcome : Outcome) (stories : Option (List Story)) : Type 0 where
  pub table : Option FlowTable
  pub comes :
      ComesTo linked.app linked.papers.lists linked.papers.large linked.papers.declaration (causes_beside linked)
      (record { outcome = outcome; table = table })
  pub told : StoriesBy linked outcome table stories

-- the parts come to one thing
abbrev pub OneJudgement : Parts → Type 0
OneJudgement parts = (one other : Judged) → Judgement parts one → Judgement parts other → one ≡ other

-- That an outcome leaves out nothing, whoever came to it.
use Rattle.std.specs.Prelude.{List}
use Rattle.app_machine.specs.Sound.{SoundApp}
use Rattle.app_machine.specs.SoundLists.{SoundLists}
use Rattle.fact_rows.specs.declared.row.Row.{Row}
use Rattle.flow_analyses.specs.declared.Analysis.{Analysis}
use Rattle.verdict.specs.declared.linking.Linked.{Linked}
use Rattle.verdict.specs.declared.outcome.Outcome.{Outcome}
use Rattle.verdict.specs.declared.outcome.Rechecked.{Rechecked}
use Rattle.verdict.specs.declared.parts.Parts.{Parts}
use Rattle.verdict.specs.Linked.{IsLinked}
use Rattle.verdict.specs.Recheck.{Rejudgement, TellsBy}
use Rattle.verdict.specs.Tells.{IsFollowed, TellsOfApp}
use Rattle.verdict.specs.Verdict.{Verdict}

-- of parts that were linked to a sound app, by sound lists
pub record EachOutcomeTellsAll : Type 0 where
  pub verdict :
      (parts : Parts) (linked : Linked) → IsLinked parts linked → SoundApp linked.app → SoundLists linked.papers.lists
      → (outcome : Outcome) → Verdict parts outcome → IsFollowed outcome → TellsOfApp parts outcome
  pub recheck :
      (parts : Parts) (linked : Linked) → IsLinked parts linked → SoundApp linked.app → SoundLists linked.papers.lists
      → (analysis : Analysis) (rows : List Row) (r : Rechecked) → Rejudgement parts analysis rows r → TellsBy parts r

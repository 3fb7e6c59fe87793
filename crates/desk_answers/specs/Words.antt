-- The words for how far a case is, for an outcome and for a ruling.
use Rattle.std.specs.Prelude.{ℕ, List, codes}
use Rattle.case_rules.specs.declared.case.OutcomeWord.{OutcomeWord}
use Rattle.case_rules.specs.declared.case.OutcomeWord.TheVariants.{Clear, Flagged, Undecided, Refused}
use Rattle.case_rules.specs.declared.case.RulingWord.{RulingWord}
use Rattle.case_rules.specs.declared.case.RulingWord.TheVariants.{Uphold, Overturn}
use Rattle.case_rules.specs.declared.case.State.{State}
use Rattle.case_rules.specs.declared.case.State.TheVariants.{Queued, Decided, Appealed, Ruled}

unfoldable pub state_word : State → List ℕ
state_word Queued = codes "queued"
state_word Decided = codes "decided"
state_word Appealed = codes "appealed"
state_word Ruled = codes "ruled"

unfoldable pub outcome_word : OutcomeWord → List ℕ
outcome_word Clear = codes "clear"
outcome_word Flagged = codes "flagged"
outcome_word Undecided = codes "undecided"
outcome_word Refused = codes "refused"

unfoldable pub ruling_word : RulingWord → List ℕ
ruling_word Uphold = codes "uphold"
ruling_word Overturn = codes "overturn"

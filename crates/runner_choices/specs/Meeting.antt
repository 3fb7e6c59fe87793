-- What is met at an index of a list of events.
use Rattle.std.specs.Prelude.{◌≡◌, ℕ, ◌+◌, List, length, Some, slice_get}
use Rattle.app_machine.specs.State.{World}
use Rattle.played_machine.specs.Coming.{Event}
use Rattle.runner_choices.specs.declared.choice.Met.{Met}
use Rattle.runner_choices.specs.declared.choice.Met.TheVariants.{Here, Past}
use Rattle.runner_choices.specs.Choices.{event_of}

-- the event of the index, or how far behind the last one the index is
abbrev pub MeetsAt : World → List Event → ℕ → Met → Type 0
MeetsAt w events index (Here choice) = slice_get events index ≡ Some (event_of w choice)
MeetsAt w events index (Past left) = index ≡ length events + left

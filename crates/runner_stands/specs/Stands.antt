-- Stands as they are listed, and the marks of native bodies.
use Rattle.std.specs.Prelude.{◌≡◌, ℕ, Bool, true, false, if◌then◌else◌, List, [], ◌∷◌, ◌++◌, filter, flat_map, length, slice_index_or, Option, Some, None}
use Rattle.vet_base.specs.Members.{In}
use Rattle.app_machine.specs.declared.app.App.{App}
use Rattle.app_machine.specs.Safe.{native, no_summary, reflective}
use Rattle.app_machine.specs.State.{World}
use Rattle.app_machine.specs.Summaries.{numbers_from}
use Rattle.played_machine.specs.Calling.{is_native_body}
use Rattle.played_machine.specs.Coming.{Event}
use Rattle.played_machine.specs.Standing as standing
use Rattle.played_machine.specs.Standing.{body_of}
use Rattle.runner_choices.specs.declared.choice.Met.{Met}
use Rattle.runner_choices.specs.declared.choice.Met.TheVariants.{Here, Past}
use Rattle.runner_choices.specs.Choices.{event_of}
use Rattle.runner_stands.specs.declared.causes.Cause.{Cause}
use Rattle.runner_stands.specs.declared.causes.Cause.TheVariants.{NoSummary, Native, Reflective}
use Rattle.runner_stands.specs.declared.standing.Causes.{Causes}
use Rattle.runner_stands.specs.declared.standing.Stand.{Stand}

abbrev pub stand_of : Stand → standing.Stand
stand_of stand = record { cause = stand.cause; method = stand.method; pc = stand.pc }

-- at this instruction, for the cause
abbrev pub stand_at : ℕ → ℕ → ℕ → standing.Stand
stand_at method pc cause = record { cause = cause; method = method; pc = pc }

-- at the beginning of the native body
abbrev pub at_body : ℕ → standing.Stand
at_body body = stand_at body 0 native

abbrev pub number_of : Cause → ℕ
number_of NoSummary = no_summary
number_of Native = native
number_of Reflective = reflective

-- the cause, where there is one
abbrev pub cause_in : Option Cause → List ℕ
cause_in None = []
cause_in (Some cause) = number_of cause ∷ []

-- the causes that hold, ascending
abbrev pub numbers_in : Causes → List ℕ
numbers_in causes = (if causes.no_summary then no_summary ∷ [] else []) ++ (if causes.native then native ∷ [] else []) ++ (if causes.reflective then reflective ∷ [] else [])

-- the native bodies that these events may run
abbrev pub natives_of : App → List Event → List ℕ
natives_of app events = filter (is_native_body app) (flat_map body_of events)

-- whether the number is marked
abbrev pub has_mark : List Bool → ℕ → Bool
has_mark marks body = slice_index_or marks body false

-- the marked ones of the first so many numbers
abbrev pub marked_below : List Bool → ℕ → List ℕ
marked_below marks n = filter (has_mark marks) (numbers_from 0 n)

-- exactly the native bodies that these events may run are marked
pub record Marks (app : App) (events : List Event) (marks : List Bool) : Type 0 where
  pub so : (body : ℕ) → has_mark marks body ≡ true → In body (natives_of app events)
  pub all : (body : ℕ) → In body (natives_of app events) → has_mark marks body ≡ true

-- those of these events are marked besides
pub record MarksMore (app : App) (events : List Event) (old new : List Bool) : Type 0 where
  pub long : length new ≡ length old
  pub more : (before : List Event) → Marks app before old → Marks app (before ++ events) new

-- that of the event that was met is marked besides
abbrev pub MarksMet : App → World → Met → List Bool → List Bool → Type 0
MarksMet app w (Here choice) old new = MarksMore app (event_of w choice ∷ []) old new
MarksMet app w (Past left) old new = new ≡ old

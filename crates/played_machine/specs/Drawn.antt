-- The run of the machine whose choices are the bytes of a script.
use Rattle.std.specs.Prelude.{ℕ, zero, suc, List, [], ◌∷◌, length, Option, Some, None}
use Rattle.app_machine.specs.declared.app.App.{App}
use Rattle.app_machine.specs.declared.lists.Lists.{Lists}
use Rattle.app_machine.specs.Run.{start_world}
use Rattle.played_machine.specs.Local.{Playing, playing}
use Rattle.played_machine.specs.Step.{step}

-- nothing is there yet
abbrev pub start : Playing
start = playing start_world []

-- a step from the state
abbrev pub drawn_step : App → Lists → Playing → List ℕ → Option (Playing × List ℕ)
drawn_step app lists s bytes = step app lists s.world s.frames bytes

abbrev pub and_after : (Playing → List ℕ → List Playing) → Option (Playing × List ℕ) → List Playing
and_after later None = []
and_after later (Some drawn) = drawn.0 ∷ later drawn.0 drawn.1

-- The states behind this one, at most so many: it is the last where the bytes are too few for a whole step, or no event may
-- come.
abbrev pub drawn_within : ℕ → App → Lists → Playing → List ℕ → List Playing
drawn_within zero app lists s bytes = []
drawn_within (suc n) app lists s bytes = and_after (drawn_within n app lists) (drawn_step app lists s bytes)

-- All states in order. Each step takes a byte at least.
unfoldable pub drawn : App → Lists → List ℕ → List Playing
drawn app lists script = start ∷ drawn_within (length script) app lists start script

-- What may happen in the running frame, as the code has it.
use Rattle.std.specs.Prelude.{ℕ, true, List, [], ◌∷◌, ◌++◌, map, Option, option_to_list, slice_get}
use Rattle.app_machine.specs.declared.app.App.{App}
use Rattle.app_machine.specs.Heap.{blank}
use Rattle.app_machine.specs.State.{World, Frame}
use Rattle.played_machine.specs.Calling.{code_of}
use Rattle.played_machine.specs.Drawing.{Drawing, give, given, one_of, ◌>>=◌}
use Rattle.played_machine.specs.Local.{Playing, playing, raised}
use Rattle.runner_calls.specs.Frames.{entered_with}

-- the initialiser begins
abbrev pub begins : App → World → List Frame → ℕ → Drawing Playing
begins app w fs body = give (playing w (entered_with (code_of app body) body [] true fs))

-- one of these initialisers, what the instruction does, or the raise of a blank
abbrev pub ways_of : App → World → List Frame → List ℕ → Option (Drawing Playing) → List (Drawing Playing)
ways_of app w fs first does = map (begins app w fs) first ++ option_to_list does ++ raised app blank w fs ∷ []

-- the way of this index
abbrev pub way_at : List (Drawing Playing) → ℕ → Drawing Playing
way_at ways i = given (slice_get ways i) >>= λ way. way

-- the way that is drawn
abbrev pub one_way : List (Drawing Playing) → Drawing Playing
one_way ways = one_of ways >>= λ way. way

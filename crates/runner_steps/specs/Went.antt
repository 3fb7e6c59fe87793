-- How a frame goes on after a library call.
use Rattle.std.specs.Prelude.{ℕ, ◌==◌, if◌then◌else◌, List, ◌∷◌}
use Rattle.app_machine.specs.declared.app.App.{App}
use Rattle.app_machine.specs.declared.lists.Lists.{Lists}
use Rattle.app_machine.specs.declared.summary.Summary.{Summary}
use Rattle.app_machine.specs.Heap.{Value, blank}
use Rattle.app_machine.specs.Names.{Name}
use Rattle.app_machine.specs.State.{World, Frame, result_register}
use Rattle.played_machine.specs.Drawing.{Drawing, draw, give, one_of, ◌>>=◌}
use Rattle.played_machine.specs.Local.{Playing, playing}
use Rattle.runner_calls.specs.Frames.{gone_on}
use Rattle.runner_calls.specs.Landing.{landed, lands}
use Rattle.runner_library.specs.declared.calling.LibraryCall.{LibraryCall}
use Rattle.runner_library.specs.Call.{row_in, values_in}
use Rattle.runner_library.specs.Whole.{called}
use Rattle.runner_steps.specs.declared.library.After.{After}
use Rattle.runner_steps.specs.declared.library.After.TheVariants.{GoesOn, Raises}

-- it goes on at one of the next
abbrev pub on_at : List ℕ → Drawing After
on_at next = one_of next >>= λ pc. give (GoesOn pc)

-- a blank is raised
abbrev pub raised_to : App → List Frame → Drawing After
raised_to app fs = lands app fs >>= λ at. give (Raises at)

-- 0 goes on, 1 raises
abbrev pub either_way : App → List Frame → List ℕ → ℕ → Drawing After
either_way app fs next way = if way == 0 then on_at next else raised_to app fs

abbrev pub drawn_after : App → List Frame → List ℕ → Drawing After
drawn_after app fs next = draw 2 >>= either_way app fs next

-- the frames then, with the result
abbrev pub went : Value → List Frame → After → List Frame
went v fs (GoesOn pc) = gone_on result_register v pc fs
went v fs (Raises at) = landed blank fs at

-- the state after a call of these values that was given this
abbrev pub called_by : App → Lists → World → List Value → ℕ → ℕ → Name → Summary → List Frame → Value → After → Playing
called_by app lists w vs method pc ret row fs read after = playing (called app lists w vs method pc ret row read).0 (went (called app lists w vs method pc ret row read).1 fs after)

-- the call in the frame, above these, where it was given this
abbrev pub called_in : App → Lists → World → LibraryCall → List ℕ → Value → Frame → List Frame → Drawing Playing
called_in app lists w call next read f fs =
    drawn_after app (f ∷ fs) next >>= λ after. give (called_by app lists w (values_in call f.registers) f.method f.pc call.at.now.proto.ret (row_in call) (f ∷ fs) read after)

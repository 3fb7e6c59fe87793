-- What the running frame's instruction does, as the code has it.
use Rattle.std.specs.Prelude.{◌≡◌, ◌<◌, false, List, [], ◌∷◌, Option, None, option_map}
use Rattle.std.specs.List.{All}
use Rattle.app_machine.specs.declared.app.App.{App}
use Rattle.app_machine.specs.declared.lists.Lists.{Lists}
use Rattle.app_machine.specs.Calls.{arguments}
use Rattle.app_machine.specs.Lookups.{step_at}
use Rattle.app_machine.specs.State.{World, Frame}
use Rattle.played_machine.specs.Calling.{code_of}
use Rattle.played_machine.specs.Drawing.{Drawing, give}
use Rattle.played_machine.specs.Local.{Playing, playing, raised}
use Rattle.played_machine.specs.Step.{acts, calls_library, step_there}
use Rattle.runner_calls.specs.Frames.{entered_with}
use Rattle.runner_library.specs.declared.calling.LibraryCall.{LibraryCall}
use Rattle.runner_library.specs.Call.{row_in, shared_in}
use Rattle.runner_steps.specs.declared.doing.Doing.{Doing}
use Rattle.runner_steps.specs.declared.doing.Doing.TheVariants.{Acts, CallsBody, CallsLibrary, Returns, Throws}
use Rattle.runner_steps.specs.Back.{returns_to}

-- what is drawn of it in the frame, above these
abbrev pub drawing_in : App → Lists → World → Frame → List Frame → Doing → Drawing Playing
drawing_in app lists w f fs (Acts step) = acts app lists w f fs step.now.next step.now.act
drawing_in app lists w f fs (CallsBody body args) = give (playing w (entered_with (code_of app body) body (arguments f args.now) false (f ∷ fs)))
drawing_in app lists w f fs (CallsLibrary call next) = calls_library app lists w f fs next.now call.kind call.at.now call.args.now (row_in call)
drawing_in app lists w f fs (Returns x) = returns_to app w x f fs
drawing_in app lists w f fs (Throws x) = raised app (f.registers x) w (f ∷ fs)

-- the drawing, where there is a frame and it does something
abbrev pub drawing_of : App → Lists → World → List Frame → Option Doing → Option (Drawing Playing)
drawing_of app lists w [] does = None
drawing_of app lists w (f ∷ fs) does = option_map (drawing_in app lists w f fs) does

-- what the machine has there
abbrev pub does_there : App → Lists → World → List Frame → Option (Drawing Playing)
does_there app lists w [] = None
does_there app lists w (f ∷ fs) = step_there app lists w f fs (step_at app f.method f.pc)

-- the numbers of the shared objects that a library call names are small
abbrev pub NamesFew : Doing → Type 0
NamesFew (CallsLibrary call next) = All (λ i. i < 65536) (shared_in call)
NamesFew (Acts step) = Unit {0}
NamesFew (CallsBody body args) = Unit {0}
NamesFew (Returns x) = Unit {0}
NamesFew (Throws x) = Unit {0}

-- it is this library call
abbrev pub IsCallOf : LibraryCall → Doing → Type 0
IsCallOf call (CallsLibrary other next) = other ≡ call
IsCallOf call (Acts step) = ⊥
IsCallOf call (CallsBody body args) = ⊥
IsCallOf call (Returns x) = ⊥
IsCallOf call (Throws x) = ⊥

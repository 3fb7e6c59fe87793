-- One step, chosen by the bytes of a script.
use Rattle.std.specs.Prelude.{ℕ, ◌==◌, true, false, if◌then◌else◌, List, [], ◌∷◌, ◌++◌, map, Option, Some, None, option_to_list}
use Rattle.app_machine.specs.declared.app.App.{App}
use Rattle.app_machine.specs.declared.call.CallKind.{CallKind}
use Rattle.app_machine.specs.declared.call.MethodRef.{MethodRef}
use Rattle.app_machine.specs.declared.lists.Lists.{Lists}
use Rattle.app_machine.specs.declared.method.Act.{Act}
use Rattle.app_machine.specs.declared.method.Act.TheVariants.{Call, Return, Throw}
use Rattle.app_machine.specs.declared.method.Method.{Method}
use Rattle.app_machine.specs.declared.method.Step.{Step}
use Rattle.app_machine.specs.declared.summary.Summary.{Summary}
use Rattle.app_machine.specs.Calls.{arguments, returned, hand}
use Rattle.app_machine.specs.Heap.{Value, blank}
use Rattle.app_machine.specs.Library.{positions}
use Rattle.app_machine.specs.Lookups.{Target, Body, Library, Nothing, step_at, initialisers}
use Rattle.app_machine.specs.Run.{frame_of}
use Rattle.app_machine.specs.State.{result_register, write, World, Frame}
use Rattle.played_machine.specs.Calling.{code_of, bodies_with_code, call_target, called_row}
use Rattle.played_machine.specs.Coming.{events, begun}
use Rattle.played_machine.specs.Drawing.{Drawing, give, ◌>>=◌, draw, one_of}
use Rattle.played_machine.specs.Librarian.{library_call}
use Rattle.played_machine.specs.Local.{Playing, playing, next_of, moved, local, raised}

-- where control has somewhere to go
abbrev pub where_next : List ℕ → Drawing Playing → Option (Drawing Playing)
where_next [] one = None
where_next (pc ∷ more) one = Some one

-- an act that neither calls, returns nor throws, and then one of the next
abbrev pub acts : App → Lists → World → Frame → List Frame → List ℕ → Act → Drawing Playing
acts app lists w f fs next act =
    local app lists w f act >>= λ (done : World × (ℕ → Value)).
    one_of next >>= λ pc.
    give (playing done.0 (moved f pc done.1 ∷ fs))

-- the frame goes on at one of the next, with the result of its call
abbrev pub resumes : World → Value → Frame → List Frame → List ℕ → Drawing Playing
resumes w result f fs next = one_of next >>= λ pc. give (playing w (moved f pc (write f.registers result_register result) ∷ fs))

-- 0 goes on, 1 raises
abbrev pub resumes_or_raises : App → World → Value → Frame → List Frame → List ℕ → ℕ → Drawing Playing
resumes_or_raises app w result f fs next way = if way == 0 then resumes w result f fs next else raised app blank w (f ∷ fs)

abbrev pub calls_library : App → Lists → World → Frame → List Frame → List ℕ → CallKind → MethodRef → List ℕ → Summary → Drawing Playing
calls_library app lists w f fs next kind at args row =
    library_call app lists w f (positions kind at args) at.proto.ret row >>= λ (done : World × Value).
    draw 2 >>= λ way.
    resumes_or_raises app done.0 done.1 f fs next way

abbrev pub calls_body : World → Frame → List Frame → List ℕ → ℕ → Option Method → Option (Drawing Playing)
calls_body w f fs args body None = None
calls_body w f fs args body (Some m) = Some (give (playing w (frame_of body m (arguments f args) false ∷ f ∷ fs)))

abbrev pub calls_row : App → Lists → World → Frame → List Frame → List ℕ → CallKind → MethodRef → List ℕ → Option Summary → Option (Drawing Playing)
calls_row app lists w f fs next kind at args None = None
calls_row app lists w f fs next kind at args (Some row) = if row.reflective then None else where_next next (calls_library app lists w f fs next kind at args row)

abbrev pub calls_target : App → Lists → World → Frame → List Frame → List ℕ → CallKind → MethodRef → List ℕ → Option Target → Option (Drawing Playing)
calls_target app lists w f fs next kind at args None = None
calls_target app lists w f fs next kind at args (Some (Body body)) = calls_body w f fs args body (code_of app body)
calls_target app lists w f fs next kind at args (Some (Library class)) = calls_row app lists w f fs next kind at args (called_row app lists class kind at)
calls_target app lists w f fs next kind at args (Some Nothing) = None

-- A return to the caller, which tries its instruction again after an initialiser and else goes on with the result; or the end
-- of the event, whose result is handed to the library.
abbrev pub returns : App → World → Frame → Option ℕ → List Frame → Option (Drawing Playing)
returns app w f x [] = Some (give (playing (record w { handed = hand (returned f x).place w.handed }) []))
returns app w f x (g ∷ fs) =
    if f.initialises
    then Some (give (playing w (g ∷ fs)))
    else where_next (next_of (step_at app g.method g.pc)) (resumes w (returned f x) g fs (next_of (step_at app g.method g.pc)))

-- what the instruction does, where the machine has a step for it
abbrev pub does : App → Lists → World → Frame → List Frame → List ℕ → Act → Option (Drawing Playing)
does app lists w f fs next (Call kind at args) = calls_target app lists w f fs next kind at args (call_target app w.heap f kind at args)
does app lists w f fs next (Return x) = returns app w f x fs
does app lists w f fs next (Throw x) = Some (raised app (f.registers x) w (f ∷ fs))
does app lists w f fs next act = where_next next (acts app lists w f fs next act)

-- the initialiser begins, and the instruction will be tried again
abbrev pub enters : World → List Frame → ℕ × Method → Drawing Playing
enters w fs entered = give (playing w (frame_of entered.0 entered.1 [] true ∷ fs))

abbrev pub initialisers_at : App → Option Step → List (ℕ × Method)
initialisers_at app None = []
initialisers_at app (Some s) = bodies_with_code app (initialisers app s.act)

abbrev pub step_there : App → Lists → World → Frame → List Frame → Option Step → Option (Drawing Playing)
step_there app lists w f fs None = None
step_there app lists w f fs (Some s) = does app lists w f fs s.next s.act

-- what may happen in the running frame: an initialiser, the step, the raise of a blank
unfoldable pub ways : App → Lists → World → Frame → List Frame → List (Drawing Playing)
ways app lists w f fs =
    map (enters w (f ∷ fs)) (initialisers_at app (step_at app f.method f.pc))
    ++ option_to_list (step_there app lists w f fs (step_at app f.method f.pc))
    ++ raised app blank w (f ∷ fs) ∷ []

-- one step of the world and the frames
unfoldable pub step : App → Lists → World → List Frame → Drawing Playing
step app lists w [] = one_of (events app lists w) >>= begun app lists w
step app lists w (f ∷ fs) = one_of (ways app lists w f fs) >>= λ way. way

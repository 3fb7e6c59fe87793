-- The answers of the code to an event, as the machine draws it.
use Rattle.std.proofs.Common.{◌≡◌, ℕ, List, [], Option, Some, None, false, refl, sym, ap, ◌∙◌}
use Rattle.app_machine.specs.declared.app.App.{App}
use Rattle.app_machine.specs.declared.lists.Lists.{Lists}
use Rattle.app_machine.specs.declared.method.Method.{Method}
use Rattle.app_machine.specs.Heap.{Value, Object}
use Rattle.app_machine.specs.State.{World, Frame}
use Rattle.played_machine.specs.Calling.{code_of}
use Rattle.played_machine.specs.Coming.{Initialiser, Receives, begun, initialises_with}
use Rattle.played_machine.specs.Drawing.{continue, give}
use Rattle.played_machine.specs.Local.{Playing, playing}
use Rattle.runner_begin.specs.Begun.{begun_with, code_at, types_of}
use Rattle.runner_begin.specs.Parameters.{labels_by, parameters_by}
use Rattle.runner_begin.proofs.Begun.{AlikeMade, none_begins, one_begins}
use Rattle.runner_calls.specs.Frames.{entered_with}
use Rattle.runner_state.specs.declared.script.Script.{Script}
use Rattle.runner_steps.specs.State.{Makes}
use Rattle.runner_steps.proofs.Alike.{made}

module _ (app : App) (lists : Lists) (old w : World) (body place : Option ℕ) (sources : List (ℕ × ℕ)) (bytes : List ℕ) where
  abbrev drawn_for : Option ((List Value × List Object) × List ℕ)
  drawn_for = parameters_by app lists w.handed (labels_by sources) 1 (types_of (code_at app body)) w.heap bytes

  pub not_received : None ≡ drawn_for → begun app lists old (Receives body place sources w) bytes ≡ None
  not_received none = none_begins app lists old w body place sources bytes (ap (continue (λ (drawn : List Value × List Object). give (begun_with app body place sources w drawn))) none)

  pub is_received : (drawn : List Value × List Object) (new : Playing) (rest : List ℕ) → Some (drawn, rest) ≡ drawn_for → new ≡ begun_with app body place sources w drawn → AlikeMade (begun app lists old (Receives body place sources w) bytes) new rest
  is_received drawn new rest is same =
      one_begins app lists old w body place sources bytes new rest
      (ap (λ (s : Playing). Some (s, rest)) same ∙ ap (continue (λ (drawn : List Value × List Object). give (begun_with app body place sources w drawn))) is)

initialises_is : (w : World) (body : ℕ) (o : Option Method) → initialises_with body w o ≡ playing w (entered_with o body [] false [])
initialises_is w body None = refl
initialises_is w body (Some m) = refl

pub initialised : (app : App) (lists : Lists) (w : World) (body : ℕ) (fs gs : List Frame) (old : Playing) (script : Script) → fs ≡ [] → gs ≡ entered_with (code_of app body) body [] false fs →
    Makes (begun app lists w (Initialiser body) script.left.now) old (playing w gs) (Some script)
unfolding begun
initialised app lists w body fs gs old script idle entered =
    made (begun app lists w (Initialiser body) script.left.now) old (playing w gs) script
    (ap (λ (s : Playing). Some (s, script.left.now)) (initialises_is w body (code_of app body) ∙ ap (λ (hs : List Frame). playing w hs) (ap (λ (hs : List Frame). entered_with (code_of app body) body [] false hs) (sym idle) ∙ sym entered)))

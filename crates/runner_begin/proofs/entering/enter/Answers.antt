use Rattle.std.proofs.Common.{◌∷◌, List, Option, ℕ, map, sym, ap, ◌∙◌}
use Rattle.app_machine.specs.Heap.{Value}
use Rattle.played_machine.specs.Calling.{code_of}
use Rattle.runner_begin.specs.Begun.{frames_at, frames_with, receiver_by}
use Rattle.runner_begin.proofs.entering.enter.Goals as goal
use Rattle.runner_state.specs.declared.value.Held.{Held}
use Rattle.runner_state.specs.Shown.{value_of}

pub returns-in-None : goal.returns-in-None
returns-in-None c = c.requires.idle ∙ ap (λ (o : Option ℕ). frames_at c.args.app.now o (receiver_by c.args.received.place c.args.received.sources.now ∷ map value_of c.args.parameters.now)) (sym c.in-None.is)

pub returns-in_ok-enter_body-in-Some : goal.returns-in_ok-enter_body-in-Some
returns-in_ok-enter_body-in-Some c =
    c.in_ok-enter_body-in-Some.ensures
    ∙ (ap (λ (hs : List Held). frames_with c.in-Some.body (code_of c.args.app.now c.in-Some.body) (map value_of hs)) c.as_slice.ensures.value
    ∙ (ap (λ (vs : List Value). frames_with c.in-Some.body (code_of c.args.app.now c.in-Some.body) vs) c.in_ok-values-in-Some.ensures
    ∙ ap (λ (o : Option ℕ). frames_at c.args.app.now o (receiver_by c.args.received.place c.args.received.sources.now ∷ map value_of c.args.parameters.now)) (sym c.in-Some.is)))

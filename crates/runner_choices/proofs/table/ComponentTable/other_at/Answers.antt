use Rattle.std.proofs.Common.{ℕ, [], cond, List, map, sym, ap, subst, ◌∙◌}
use Rattle.app_model.specs.declared.lookups.events.CalledBack.{CalledBack}
use Rattle.app_model.specs.EventBodies.{shown_callback}
use Rattle.played_machine.specs.Coming.{Event, Initialiser}
use Rattle.runner_choices.specs.Choices.{called_back}
use Rattle.runner_choices.specs.Meeting.{MeetsAt}
use Rattle.runner_choices.proofs.Lived.{absent_count, there_count}
use Rattle.runner_choices.proofs.table.ComponentTable.other_at.Goals as goal
use Rattle.runner_world.specs.Shown.{state_of}

pub returns-then-life-ne0 : goal.returns-then-life-ne0
returns-then-life-ne0 c w =
    subst (λ (events : List Event). MeetsAt w events c.args.index c.called_at.result) (sym (there_count w (state_of c.args.life) c.args.begins (map shown_callback c.args.self.now.called.items) c.args.self.now.initialisers.items c.if-life-ne0.true))
    (subst (λ (called : List CalledBack). MeetsAt w (map (called_back w c.args.life.place) (map shown_callback called)) c.args.index c.called_at.result) c.as_slice.ensures.value (c.called_at.ensures w))

pub returns-then-begins : goal.returns-then-begins
returns-then-begins c w =
    subst (λ (events : List Event). MeetsAt w events c.args.index c.initialiser_at.result)
    (sym (absent_count w (state_of c.args.life) c.args.begins (map shown_callback c.args.self.now.called.items) c.args.self.now.initialisers.items c.if-life-ne0.false
    ∙ ap (λ b. cond b (map (λ body. Initialiser body) c.args.self.now.initialisers.items) []) c.if-begins.true))
    (subst (λ (bodies : List ℕ). MeetsAt w (map (λ body. Initialiser body) bodies) c.args.index c.initialiser_at.result) c.as_slice-then-begins.ensures.value (c.initialiser_at.ensures w))

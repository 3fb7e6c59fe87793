use Rattle.std.proofs.Common.{rules}
use Rattle.std.proofs.lemmas.Fn.{always_returns_same}
use Rattle.app_machine.specs.declared.app.Class.{Class}
use Rattle.app_machine.specs.Lookups.{class_named}
use Rattle.app_machine.specs.Sound.{name_order}
use Rattle.event_index.proofs.Classes.{class_at, class_missing}
use Rattle.event_index.proofs.names.number_of.Goals as goal

pub returns-in-Ok-clause-found : goal.returns-in-Ok-clause-found
unfolding class_named
returns-in-Ok-clause-found c =
    let position = c.in-Ok.ensures.position (λ (x : Class). name_order x.name c.args.name.now) (always_returns_same _ _ _ (λ a r g k. search rules)) in
    rw (← c.as_slice-classes.ensures) (class_at c.as_slice-classes.result.now (rw c.as_slice-classes.ensures c.requires.classes) c.args.name.now c.in-Ok.i c.in-Ok.ensures.bound position)

pub returns-in-Err : goal.returns-in-Err
unfolding class_named
returns-in-Err c =
    let position = c.in-Err.ensures.position (λ (x : Class). name_order x.name c.args.name.now) (always_returns_same _ _ _ (λ a r g k. search rules)) in
    let missing = class_missing c.as_slice-classes.result.now (rw c.as_slice-classes.ensures c.requires.classes) c.args.name.now c.in-Err.field-0 c.in-Err.ensures.bound position in
    record { none = rw (← c.as_slice-classes.ensures) missing; within = tt; found = tt }

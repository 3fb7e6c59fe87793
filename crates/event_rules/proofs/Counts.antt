-- How many events the life of a component has.
use Rattle.std.proofs.Common.{◌≡◌, ◌<◌, ◌^◌, List, map, length, sym, ap, subst, ◌∙◌, arith}
use Rattle.std.proofs.lemmas.List.{length-map}
use Rattle.app_machine.specs.declared.component.Kind.{Kind}
use Rattle.app_machine.specs.declared.component.Kind.TheVariants.{Application, Activity, Service, Receiver}
use Rattle.app_machine.specs.LifeEvents.{LifeEvent, life_events}
use Rattle.app_model.specs.declared.answers.EventRow.{EventRow}
use Rattle.app_model.specs.EventTable.{shown_event}

few : (kind : Kind) → length (life_events kind) < 2 ^ 32
unfolding life_events
few Application = omega arith
few Activity = omega arith
few Service = omega arith
few Receiver = omega arith

pub as_many_events : (kind : Kind) (rows : List EventRow) → map shown_event rows ≡ life_events kind → length rows ≡ length (life_events kind)
as_many_events kind rows same = sym (length-map rows shown_event) ∙ ap (λ (xs : List LifeEvent). length xs) same

pub few_events : (kind : Kind) (rows : List EventRow) → map shown_event rows ≡ life_events kind → length rows < 2 ^ 32
few_events kind rows same = subst (λ n. n < 2 ^ 32) (sym (as_many_events kind rows same)) (few kind)

use Rattle.std.proofs.Common.{List, ℕ, Option, sym, subst}
use Rattle.std.specs.Prelude.{OnOk}
use Rattle.app_machine.specs.Calls.{hand}
use Rattle.runner_given.specs.Given.{IsHandedSince}
use Rattle.runner_given.proofs.others.hand_value.Goals as goal

pub returns-in-None : goal.returns-in-None
returns-in-None c all is = subst (λ (o : Option ℕ). IsHandedSince c.args.handed.now c.args.new.now.items (hand o all)) (sym c.in-None.is) is

pub returns-in-Some : goal.returns-in-Some
returns-in-Some c =
    subst (λ (o : Option ℕ). OnOk c.hand_place.result ((all : List ℕ) → IsHandedSince c.args.handed.now c.args.new.now.items all → IsHandedSince c.args.handed.now c.hand_place.new.new.items (hand o all))) (sym c.in-Some.is) c.hand_place.ensures

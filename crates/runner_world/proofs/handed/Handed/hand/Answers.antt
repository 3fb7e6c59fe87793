use Rattle.std.proofs.Common.{◌≡◌, reverse, sym, subst}
use Rattle.std.specs.Prelude.{OnOk}
use Rattle.app_machine.specs.Calls.{hand}
use Rattle.played_machine.specs.Reading.{handed_places}
use Rattle.runner_world.proofs.handed.Handed.hand.Goals as goal

pub returns-in-Some-clause-ok : goal.returns-in-Some-clause-ok
returns-in-Some-clause-ok c =
    subst (λ o. OnOk c.hand_place.result (handed_places (reverse c.hand_place.new.self) ≡ handed_places (hand o (reverse c.args.self.now)))) (sym c.in-Some.is) c.hand_place.ensures.ok

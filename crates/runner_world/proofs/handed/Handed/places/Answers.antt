use Rattle.std.proofs.Common.{reverse, ap, ◌∙◌}
use Rattle.played_machine.specs.Reading.{handed_places}
use Rattle.runner_world.proofs.Places.{each_handed}
use Rattle.runner_world.proofs.handed.Handed.places.Goals as goal

pub returns-clause-places : goal.returns-clause-places
returns-clause-places c = c.deref.ensures.value ∙ (each_handed c.self.inside.places.items c.self.invariant.each_once ∙ ap (λ ys. handed_places (reverse ys)) c.self.view_is)

use Rattle.std.proofs.Common.{sym, ◌∙◌}
use Rattle.app_runner.proofs.stepping.each_stands_once.Goals as goal

pub returns : goal.returns
returns c = sym c.places-places.ensures.places ∙ c.places-places.ensures.same

use Rattle.std.proofs.Common.{Ok, sym, ◌∙◌}
use Rattle.desk_serving.proofs.responding.asked_of.Goals as goal

pub returns-in-Ok-Run-clause-responds : goal.returns-in-Ok-Run-clause-responds
returns-in-Ok-Run-clause-responds g c =
    c.commanded.ensures.responds (Ok c.args.asked.now) (sym c.in-Ok-Run.ensures.turn ∙ c.in-Ok-Run.field-0-is)

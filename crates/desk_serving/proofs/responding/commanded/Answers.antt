use Rattle.desk_serving.specs.Responding.{setting_of}
use Rattle.desk_serving.proofs.Handed.{responds_if}
use Rattle.desk_serving.proofs.responding.commanded.Goals as goal

pub returns-in-Ok-clause-responds : goal.returns-in-Ok-clause-responds
returns-in-Ok-clause-responds g c = λ request is.
    responds_if (g.J.Judge.finds c.args.desk.now.judge)
    (setting_of c.args.desk.now.office (g.J.Judge.edition c.args.desk.now.judge) c.args.day) request c.args.party.now
    c.args.command.now _ _ c.in-Ok.reply c.replied.result is c.in-Ok.ensures.obeys c.replied.ensures.says

use Rattle.runner_begin.proofs.Laid.{no_second, with_second}
use Rattle.runner_begin.proofs.entering.add_second.Goals as goal

pub returns-then-not-wide : goal.returns-then-not-wide
returns-then-not-wide c = no_second c.args.value c.args.wide c.args.arguments.now.items c.if-not-wide.true

pub returns : goal.returns
returns c = with_second c.args.value c.args.wide c.args.arguments.now.items c.push.new.self.items c.if-not-wide.false c.in_ok-push.ensures.items

use Rattle.std.proofs.Common.{arith}
use Rattle.runner_below.proofs.Numbered.{one_numbered, one_kept}
use Rattle.runner_below.proofs.belows.Belows.add.Goals as goal

pub returns-clause-kind : goal.returns-clause-kind
returns-clause-kind c = one_numbered _ c.args.self.now.all.items c.new.result c.len-number.result c.args.kind.now (omega (arith, c.len-number.ensures)) c.in_ok-push.ensures.items c.new.ensures.kind

pub returns-clause-fits : goal.returns-clause-fits
returns-clause-fits c app lists classes handed are = one_kept app lists classes handed c.args.self.now.all.items c.push.new.self.items c.new.result c.in_ok-push.ensures.items (c.new.ensures.fits app lists classes handed) are

pub returns-in_err-copy-clause-fits : goal.returns-in_err-copy-clause-fits
returns-in_err-copy-clause-fits c app lists classes handed are = one_kept app lists classes handed c.args.self.now.all.items c.push.new.self.items c.new.result c.in_ok-push.ensures.items (c.new.ensures.fits app lists classes handed) are

pub returns-in_err-insert-clause-fits : goal.returns-in_err-insert-clause-fits
returns-in_err-insert-clause-fits c app lists classes handed are = one_kept app lists classes handed c.args.self.now.all.items c.push.new.self.items c.new.result c.in_ok-push.ensures.items (c.new.ensures.fits app lists classes handed) are

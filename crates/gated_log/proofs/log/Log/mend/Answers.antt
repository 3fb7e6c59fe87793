use Rattle.gated_log.proofs.Mending.{closed_moments}
use Rattle.gated_log.proofs.Lasting.{closed_keeps}
use Rattle.gated_log.proofs.log.Log.mend.Goals as goal

pub returns-in-Closed-clause-any_moment : goal.returns-in-Closed-clause-any_moment
returns-in-Closed-clause-any_moment g c = closed_moments c.args.self.now (g.D.Disk.told c.args.disk.now) c.in-Closed.is c.requires.stands

pub returns-in-Closed-clause-last : goal.returns-in-Closed-clause-last
returns-in-Closed-clause-last g c =
    closed_keeps c.args.self.now c.args.self.now (g.D.Disk.told c.args.disk.now) (g.D.Disk.told c.args.disk.now) c.in-Closed.is
    (closed_moments c.args.self.now (g.D.Disk.told c.args.disk.now) c.in-Closed.is c.requires.stands)

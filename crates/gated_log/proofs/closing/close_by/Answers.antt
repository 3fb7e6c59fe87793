use Rattle.gated_log.proofs.Shutting.{ends_kept}
use Rattle.gated_log.proofs.closing.close_by.Goals as goal

pub returns-then-is_empty-clause-any_moment : goal.returns-then-is_empty-clause-any_moment
returns-then-is_empty-clause-any_moment g c = ends_kept c.args.end (g.D.Disk.told c.args.disk.now) c.requires.ends

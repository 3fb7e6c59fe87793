use Rattle.std.proofs.Common.{sym, subst}
use Rattle.gated_log.specs.Ends.{LeavesFront}
use Rattle.gated_log.proofs.Shutting.{ends_kept}
use Rattle.gated_log.proofs.closing.closed_log.Goals as goal

pub returns-in_err-found-clause-any_moment : goal.returns-in_err-found-clause-any_moment
returns-in_err-found-clause-any_moment g c =
    let told = g.D.Disk.told in
    subst (LeavesFront c.args.end (told c.args.disk.now)) (sym c.in_err-found.ensures.told)
    (ends_kept c.args.end (told c.args.disk.now) c.requires.ends)

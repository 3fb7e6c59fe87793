use Rattle.std.proofs.Common.{refl}
use Rattle.journal_keeper.proofs.Adds.{mended_open}
use Rattle.journal_keeper.proofs.Safe.{mended_moments, mended_told}
use Rattle.journal_keeper.proofs.readying.mend.Goals as goal

pub returns-in-Ok-clause-any_moment : goal.returns-in-Ok-clause-any_moment
returns-in-Ok-clause-any_moment g c =
    mended_moments (g.D.Disk.told c.args.disk.now) (g.D.Disk.told c.mend.new.disk) c.args.opened.now c.requires c.in-Ok.ensures.any_moment

pub returns-in-Err-clause-any_moment : goal.returns-in-Err-clause-any_moment
returns-in-Err-clause-any_moment g c =
    mended_moments (g.D.Disk.told c.args.disk.now) (g.D.Disk.told c.mend.new.disk) c.args.opened.now c.requires c.in-Err.ensures.any_moment

pub returns-in-Ok-clause-kept : goal.returns-in-Ok-clause-kept
returns-in-Ok-clause-kept g c =
    mended_open (g.D.Disk.told c.args.disk.now) (g.D.Disk.told c.mend.new.disk) c.args.opened.now
    (record { log = c.mend.new.self; held = c.args.opened.now.held }) c.requires refl c.in-Ok.ensures.as_long c.in-Ok.ensures.stands
    c.in-Ok.ensures.kept c.in-Ok.ensures.last

pub returns-in-Err-clause-kept : goal.returns-in-Err-clause-kept
returns-in-Err-clause-kept g c =
    mended_open (g.D.Disk.told c.args.disk.now) (g.D.Disk.told c.mend.new.disk) c.args.opened.now
    (record { log = c.mend.new.self; held = c.args.opened.now.held }) c.requires refl c.in-Err.ensures.as_long c.in-Err.ensures.stands
    c.in-Err.ensures.kept c.in-Err.ensures.last

pub returns-in-Ok-clause-same : goal.returns-in-Ok-clause-same
returns-in-Ok-clause-same g c =
    mended_told (g.D.Disk.told c.args.disk.now) (g.D.Disk.told c.mend.new.disk) c.args.opened.now
    (record { log = c.mend.new.self; held = c.args.opened.now.held }) refl c.in-Ok.ensures.any_moment

pub returns-in-Err-clause-same : goal.returns-in-Err-clause-same
returns-in-Err-clause-same g c =
    mended_told (g.D.Disk.told c.args.disk.now) (g.D.Disk.told c.mend.new.disk) c.args.opened.now
    (record { log = c.mend.new.self; held = c.args.opened.now.held }) refl c.in-Err.ensures.any_moment

use Rattle.journal_reading.proofs.Openings.{held_spared}
use Rattle.journal_keeper.proofs.Calls.{on_ok}
use Rattle.journal_keeper.proofs.Safe.{open_stays, kept_holds}
use Rattle.journal_keeper.proofs.readying.make_ready.Goals as goal

pub returns-in-Some-clause-safe : goal.returns-in-Some-clause-safe
returns-in-Some-clause-safe g c =
    let told = g.D.Disk.told in
    open_stays c.args.opened.now (told c.args.disk.now) (told c.mend.new.disk) c.mend.new.opened c.mend.ensures.kept

pub returns-clause-safe : goal.returns-clause-safe
returns-clause-safe g c =
    let told = g.D.Disk.told in
    open_stays c.args.opened.now (told c.args.disk.now) (told c.open_counted.new.disk) c.in_ok-journal.journal c.in_ok-journal.ensures.kept

pub returns-in-Some-clause-held : goal.returns-in-Some-clause-held
returns-in-Some-clause-held g c =
    on_ok c.mend.result (kept_holds (g.D.Disk.told c.args.disk.now) c.args.opened.now c.in-Some.journal c.in-Some.is c.requires)

pub returns-in-Some-clause-spares : goal.returns-in-Some-clause-spares
returns-in-Some-clause-spares g c =
    let told = g.D.Disk.told in
    held_spared (told c.args.disk.now) (told c.mend.new.disk)
    (kept_holds (told c.args.disk.now) c.args.opened.now c.in-Some.journal c.in-Some.is c.requires)

use Rattle.gated_log.proofs.Beginning as beginning
use Rattle.gated_log.proofs.closing.begin_by.Goals as goal

pub returns-clause-any_moment : goal.returns-clause-any_moment
returns-clause-any_moment g c =
    let told = g.D.Disk.told in
    beginning.begun_moments (told c.args.disk.now) (told c.write_to_stay.new.disk) c.requires.short c.write_to_stay.result c.write_to_stay.ensures.told

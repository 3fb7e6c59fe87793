use Rattle.gated_log.proofs.Ending as ending
use Rattle.gated_log.proofs.closing.add_gate.Goals as goal

pub write_to_stay-requires : goal.write_to_stay-requires
write_to_stay-requires g c =
    let told = g.D.Disk.told in
    ending.nothing_reach c.args.end (told c.args.disk.now) (told c.args.disk.now) c.requires.ends

pub returns-clause-closes : goal.returns-clause-closes
returns-clause-closes g c =
    let told = g.D.Disk.told in
    ending.nothing_closes c.args.end (told c.args.disk.now) (told c.write_to_stay.new.disk) c.requires.ends c.write_to_stay.result c.write_to_stay.ensures.told

pub returns-clause-any_moment : goal.returns-clause-any_moment
returns-clause-any_moment g c =
    let told = g.D.Disk.told in
    ending.nothing_moments c.args.end (told c.args.disk.now) (told c.write_to_stay.new.disk) c.requires.ends c.write_to_stay.result c.write_to_stay.ensures.told

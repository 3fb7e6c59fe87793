use Rattle.gated_log.proofs.Ending as ending
use Rattle.gated_log.proofs.closing.shut.Goals as goal

pub write_to_stay-requires : goal.write_to_stay-requires
write_to_stay-requires g c =
    let told = g.D.Disk.told in
    ending.open_reach c.args.end (told c.args.disk.now) (told c.args.disk.now) (told c.args.disk.now) c.requires.ends

pub returns-in_err-write_to_stay-clause-any_moment : goal.returns-in_err-write_to_stay-clause-any_moment
returns-in_err-write_to_stay-clause-any_moment g c =
    let told = g.D.Disk.told in
    ending.open_fails c.args.end (told c.args.disk.now) (told c.write_to_stay.new.disk) (told c.write_to_stay.new.disk) c.requires.ends _ c.in_err-write_to_stay.ensures.told

pub cut_to_stay-requires : goal.cut_to_stay-requires
cut_to_stay-requires g c =
    let told = g.D.Disk.told in
    ending.shut_reach c.args.end (told c.args.disk.now) (told c.write_to_stay.new.disk) (told c.write_to_stay.new.disk) c.requires.ends c.in_ok-write_to_stay.field-0 c.in_ok-write_to_stay.ensures.told

pub returns-clause-closes : goal.returns-clause-closes
returns-clause-closes g c =
    let told = g.D.Disk.told in
    ending.shut_closes c.args.end (told c.args.disk.now) (told c.write_to_stay.new.disk) (told c.cut_to_stay.new.disk) c.requires.ends c.in_ok-write_to_stay.field-0 c.in_ok-write_to_stay.ensures.told c.cut_to_stay.result c.cut_to_stay.ensures.told

pub returns-clause-any_moment : goal.returns-clause-any_moment
returns-clause-any_moment g c =
    let told = g.D.Disk.told in
    ending.shut_moments c.args.end (told c.args.disk.now) (told c.write_to_stay.new.disk) (told c.cut_to_stay.new.disk) c.requires.ends c.in_ok-write_to_stay.field-0 c.in_ok-write_to_stay.ensures.told c.cut_to_stay.result c.cut_to_stay.ensures.told

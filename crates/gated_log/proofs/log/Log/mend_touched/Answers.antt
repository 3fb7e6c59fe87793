use Rattle.std.proofs.Common.{refl}
use Rattle.gated_log.specs.declared.log.Gate.TheVariants.{Closed, Behind, Touched}
use Rattle.gated_log.proofs.Mending as mending
use Rattle.gated_log.proofs.Lasting.{behind_keeps, closed_keeps, doubt_keeps}
use Rattle.gated_log.proofs.log.Log.mend_touched.Goals as goal

pub write_to_stay-requires : goal.write_to_stay-requires
write_to_stay-requires g c =
    let told = g.D.Disk.told in
    let log = c.args.self.now in
    mending.doubt_reach log (told c.args.disk.now) c.requires.touched c.requires.stands

pub returns-in_err-write_to_stay-clause-stands : goal.returns-in_err-write_to_stay-clause-stands
returns-in_err-write_to_stay-clause-stands g c =
    let told = g.D.Disk.told in
    let log = c.args.self.now in
    mending.stands_as log Touched (told c.write_to_stay.new.disk) c.requires.touched
    (mending.doubt_stands (mending.Left log.end) log.end (told c.args.disk.now) (told c.write_to_stay.new.disk) (mending.not_shut log (told c.args.disk.now) c.requires.touched c.requires.stands (told c.write_to_stay.new.disk) _ c.in_err-write_to_stay.ensures.told))

pub returns-in_err-write_to_stay-clause-kept : goal.returns-in_err-write_to_stay-clause-kept
returns-in_err-write_to_stay-clause-kept g c =
    let told = g.D.Disk.told in
    let log = c.args.self.now in
    mending.doubt_kept (mending.Left log.end) log.end (told c.args.disk.now) (told c.write_to_stay.new.disk) (mending.not_shut log (told c.args.disk.now) c.requires.touched c.requires.stands (told c.write_to_stay.new.disk) _ c.in_err-write_to_stay.ensures.told)

pub returns-in_err-write_to_stay-clause-any_moment : goal.returns-in_err-write_to_stay-clause-any_moment
returns-in_err-write_to_stay-clause-any_moment g c =
    let told = g.D.Disk.told in
    let log = c.args.self.now in
    mending.touched_moments log (told c.args.disk.now) c.requires.touched c.requires.stands (mending.AtLast log.end (mending.InDoubt log.end)) (told c.write_to_stay.new.disk) (mending.not_shut log (told c.args.disk.now) c.requires.touched c.requires.stands (told c.write_to_stay.new.disk) _ c.in_err-write_to_stay.ensures.told)

pub cut_to_stay-requires : goal.cut_to_stay-requires
cut_to_stay-requires g c =
    let told = g.D.Disk.told in
    let log = c.args.self.now in
    mending.shut_reach log (told c.args.disk.now) c.requires.touched c.requires.stands (told c.write_to_stay.new.disk) c.in_ok-write_to_stay.field-0 c.in_ok-write_to_stay.ensures.told (told c.write_to_stay.new.disk)

pub returns-in_err-cut_to_stay-clause-stands : goal.returns-in_err-cut_to_stay-clause-stands
returns-in_err-cut_to_stay-clause-stands g c =
    let told = g.D.Disk.told in
    let log = c.args.self.now in
    mending.behind_stands (mending.Left log.end) log.end (told c.args.disk.now) (told c.cut_to_stay.new.disk) (mending.shut_behind (mending.Left log.end) log.end (told c.args.disk.now) (told c.cut_to_stay.new.disk) (mending.not_cut log (told c.args.disk.now) c.requires.touched c.requires.stands (told c.write_to_stay.new.disk) c.in_ok-write_to_stay.field-0 c.in_ok-write_to_stay.ensures.told (told c.cut_to_stay.new.disk) _ c.in_err-cut_to_stay.ensures.told))

pub returns-in_err-cut_to_stay-clause-kept : goal.returns-in_err-cut_to_stay-clause-kept
returns-in_err-cut_to_stay-clause-kept g c =
    let told = g.D.Disk.told in
    let log = c.args.self.now in
    mending.behind_kept (mending.Left log.end) log.end (told c.args.disk.now) (told c.cut_to_stay.new.disk) (mending.shut_behind (mending.Left log.end) log.end (told c.args.disk.now) (told c.cut_to_stay.new.disk) (mending.not_cut log (told c.args.disk.now) c.requires.touched c.requires.stands (told c.write_to_stay.new.disk) c.in_ok-write_to_stay.field-0 c.in_ok-write_to_stay.ensures.told (told c.cut_to_stay.new.disk) _ c.in_err-cut_to_stay.ensures.told))

pub returns-in_err-cut_to_stay-clause-any_moment : goal.returns-in_err-cut_to_stay-clause-any_moment
returns-in_err-cut_to_stay-clause-any_moment g c =
    let told = g.D.Disk.told in
    let log = c.args.self.now in
    mending.touched_moments log (told c.args.disk.now) c.requires.touched c.requires.stands (mending.AtLast log.end (mending.Shut log.end)) (told c.cut_to_stay.new.disk) (mending.not_cut log (told c.args.disk.now) c.requires.touched c.requires.stands (told c.write_to_stay.new.disk) c.in_ok-write_to_stay.field-0 c.in_ok-write_to_stay.ensures.told (told c.cut_to_stay.new.disk) _ c.in_err-cut_to_stay.ensures.told)

pub returns-clause-stands : goal.returns-clause-stands
returns-clause-stands g c =
    let told = g.D.Disk.told in
    let log = c.args.self.now in
    mending.closed_stands (mending.Left log.end) log.end (told c.args.disk.now) (told c.cut_to_stay.new.disk) (mending.done_closed (mending.Left log.end) log.end (told c.args.disk.now) (told c.cut_to_stay.new.disk) (mending.is_cut log (told c.args.disk.now) c.requires.touched c.requires.stands (told c.write_to_stay.new.disk) c.in_ok-write_to_stay.field-0 c.in_ok-write_to_stay.ensures.told (told c.cut_to_stay.new.disk) c.in_ok-cut_to_stay.field-0 c.in_ok-cut_to_stay.ensures.told))

pub returns-clause-kept : goal.returns-clause-kept
returns-clause-kept g c =
    let told = g.D.Disk.told in
    let log = c.args.self.now in
    mending.closed_kept (mending.Left log.end) log.end (told c.args.disk.now) (told c.cut_to_stay.new.disk) (mending.done_closed (mending.Left log.end) log.end (told c.args.disk.now) (told c.cut_to_stay.new.disk) (mending.is_cut log (told c.args.disk.now) c.requires.touched c.requires.stands (told c.write_to_stay.new.disk) c.in_ok-write_to_stay.field-0 c.in_ok-write_to_stay.ensures.told (told c.cut_to_stay.new.disk) c.in_ok-cut_to_stay.field-0 c.in_ok-cut_to_stay.ensures.told))

pub returns-clause-any_moment : goal.returns-clause-any_moment
returns-clause-any_moment g c =
    let told = g.D.Disk.told in
    let log = c.args.self.now in
    mending.touched_moments log (told c.args.disk.now) c.requires.touched c.requires.stands (mending.AtLast log.end (mending.Done log.end)) (told c.cut_to_stay.new.disk) (mending.is_cut log (told c.args.disk.now) c.requires.touched c.requires.stands (told c.write_to_stay.new.disk) c.in_ok-write_to_stay.field-0 c.in_ok-write_to_stay.ensures.told (told c.cut_to_stay.new.disk) c.in_ok-cut_to_stay.field-0 c.in_ok-cut_to_stay.ensures.told)

pub returns-in_err-write_to_stay-clause-last : goal.returns-in_err-write_to_stay-clause-last
returns-in_err-write_to_stay-clause-last g c =
    let told = g.D.Disk.told in
    let log = c.args.self.now in
    doubt_keeps log log (told c.args.disk.now) (told c.write_to_stay.new.disk) c.requires.touched refl (mending.not_shut log (told c.args.disk.now) c.requires.touched c.requires.stands (told c.write_to_stay.new.disk) _ c.in_err-write_to_stay.ensures.told)

pub returns-in_err-cut_to_stay-clause-last : goal.returns-in_err-cut_to_stay-clause-last
returns-in_err-cut_to_stay-clause-last g c =
    let told = g.D.Disk.told in
    let log = c.args.self.now in
    behind_keeps log (record { end = log.end; gate = Behind }) (told c.args.disk.now) (told c.cut_to_stay.new.disk) refl
    (mending.touched_moments log (told c.args.disk.now) c.requires.touched c.requires.stands (mending.AtLast log.end (mending.Shut log.end)) (told c.cut_to_stay.new.disk) (mending.not_cut log (told c.args.disk.now) c.requires.touched c.requires.stands (told c.write_to_stay.new.disk) c.in_ok-write_to_stay.field-0 c.in_ok-write_to_stay.ensures.told (told c.cut_to_stay.new.disk) _ c.in_err-cut_to_stay.ensures.told))

pub returns-clause-last : goal.returns-clause-last
returns-clause-last g c =
    let told = g.D.Disk.told in
    let log = c.args.self.now in
    closed_keeps log (record { end = log.end; gate = Closed }) (told c.args.disk.now) (told c.cut_to_stay.new.disk) refl
    (mending.touched_moments log (told c.args.disk.now) c.requires.touched c.requires.stands (mending.AtLast log.end (mending.Done log.end)) (told c.cut_to_stay.new.disk) (mending.is_cut log (told c.args.disk.now) c.requires.touched c.requires.stands (told c.write_to_stay.new.disk) c.in_ok-write_to_stay.field-0 c.in_ok-write_to_stay.ensures.told (told c.cut_to_stay.new.disk) c.in_ok-cut_to_stay.field-0 c.in_ok-cut_to_stay.ensures.told))

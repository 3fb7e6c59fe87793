use Rattle.std.proofs.Common.{refl}
use Rattle.gated_log.specs.declared.log.Gate.TheVariants.{Closed, Behind}
use Rattle.gated_log.proofs.Mending as mending
use Rattle.gated_log.proofs.Shutting as shutting
use Rattle.gated_log.proofs.Going.{AtEnd}
use Rattle.gated_log.specs.Ends.{IsBehind, IsClosed}
use Rattle.gated_log.proofs.Lasting.{behind_keeps, closed_keeps}
use Rattle.gated_log.proofs.log.Log.mend_behind.Goals as goal

pub cut_to_stay-requires : goal.cut_to_stay-requires
cut_to_stay-requires g c =
    let told = g.D.Disk.told in
    let log = c.args.self.now in
    mending.behind_reach log (told c.args.disk.now) c.requires.behind c.requires.stands

pub returns-in_err-cut_to_stay-clause-stands : goal.returns-in_err-cut_to_stay-clause-stands
returns-in_err-cut_to_stay-clause-stands g c =
    let told = g.D.Disk.told in
    let log = c.args.self.now in
    mending.stands_as log Behind (told c.cut_to_stay.new.disk) c.requires.behind
    (mending.behind_stands (shutting.Left log.end) log.end (told c.args.disk.now) (told c.cut_to_stay.new.disk) (mending.behind_fails log (told c.args.disk.now) c.requires.behind c.requires.stands (told c.cut_to_stay.new.disk) _ c.in_err-cut_to_stay.ensures.told))

pub returns-in_err-cut_to_stay-clause-kept : goal.returns-in_err-cut_to_stay-clause-kept
returns-in_err-cut_to_stay-clause-kept g c =
    let told = g.D.Disk.told in
    let log = c.args.self.now in
    mending.behind_kept (shutting.Left log.end) log.end (told c.args.disk.now) (told c.cut_to_stay.new.disk) (mending.behind_fails log (told c.args.disk.now) c.requires.behind c.requires.stands (told c.cut_to_stay.new.disk) _ c.in_err-cut_to_stay.ensures.told)

pub returns-in_err-cut_to_stay-clause-any_moment : goal.returns-in_err-cut_to_stay-clause-any_moment
returns-in_err-cut_to_stay-clause-any_moment g c =
    let told = g.D.Disk.told in
    let log = c.args.self.now in
    mending.behind_moments log (told c.args.disk.now) c.requires.behind c.requires.stands (AtEnd log.end IsBehind) (told c.cut_to_stay.new.disk) (mending.behind_fails log (told c.args.disk.now) c.requires.behind c.requires.stands (told c.cut_to_stay.new.disk) _ c.in_err-cut_to_stay.ensures.told)

pub returns-clause-stands : goal.returns-clause-stands
returns-clause-stands g c =
    let told = g.D.Disk.told in
    let log = c.args.self.now in
    mending.closed_stands (shutting.Left log.end) log.end (told c.args.disk.now) (told c.cut_to_stay.new.disk) (mending.behind_done log (told c.args.disk.now) c.requires.behind c.requires.stands (told c.cut_to_stay.new.disk) c.in_ok-cut_to_stay.field-0 c.in_ok-cut_to_stay.ensures.told)

pub returns-clause-kept : goal.returns-clause-kept
returns-clause-kept g c =
    let told = g.D.Disk.told in
    let log = c.args.self.now in
    mending.closed_kept (shutting.Left log.end) log.end (told c.args.disk.now) (told c.cut_to_stay.new.disk) (mending.behind_done log (told c.args.disk.now) c.requires.behind c.requires.stands (told c.cut_to_stay.new.disk) c.in_ok-cut_to_stay.field-0 c.in_ok-cut_to_stay.ensures.told)

pub returns-clause-any_moment : goal.returns-clause-any_moment
returns-clause-any_moment g c =
    let told = g.D.Disk.told in
    let log = c.args.self.now in
    mending.behind_moments log (told c.args.disk.now) c.requires.behind c.requires.stands (AtEnd log.end IsClosed) (told c.cut_to_stay.new.disk) (mending.behind_done log (told c.args.disk.now) c.requires.behind c.requires.stands (told c.cut_to_stay.new.disk) c.in_ok-cut_to_stay.field-0 c.in_ok-cut_to_stay.ensures.told)

pub returns-in_err-cut_to_stay-clause-last : goal.returns-in_err-cut_to_stay-clause-last
returns-in_err-cut_to_stay-clause-last g c =
    let told = g.D.Disk.told in
    let log = c.args.self.now in
    behind_keeps log log (told c.args.disk.now) (told c.cut_to_stay.new.disk) c.requires.behind
    (mending.behind_moments log (told c.args.disk.now) c.requires.behind c.requires.stands (AtEnd log.end IsBehind) (told c.cut_to_stay.new.disk) (mending.behind_fails log (told c.args.disk.now) c.requires.behind c.requires.stands (told c.cut_to_stay.new.disk) _ c.in_err-cut_to_stay.ensures.told))

pub returns-clause-last : goal.returns-clause-last
returns-clause-last g c =
    let told = g.D.Disk.told in
    let log = c.args.self.now in
    closed_keeps log (record { end = log.end; gate = Closed }) (told c.args.disk.now) (told c.cut_to_stay.new.disk) refl
    (mending.behind_moments log (told c.args.disk.now) c.requires.behind c.requires.stands (AtEnd log.end IsClosed) (told c.cut_to_stay.new.disk) (mending.behind_done log (told c.args.disk.now) c.requires.behind c.requires.stands (told c.cut_to_stay.new.disk) c.in_ok-cut_to_stay.field-0 c.in_ok-cut_to_stay.ensures.told))

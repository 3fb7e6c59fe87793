use Rattle.std.proofs.Common.{◌∙◌, ap}
use Rattle.journal_keeper.specs.State.{told_cases}
use Rattle.journal_keeper.proofs.Calls.{made_outlasts, made_held, made_spared, made_counts, state}
use Rattle.journal_keeper.proofs.keeper.JournalKeeper.make_ready.Goals as goal

pub returns-clause-told : goal.returns-clause-told
returns-clause-told g c = c.make_ready.ensures.same ∙ ap told_cases c.self.view_is

pub returns-clause-outlasts : goal.returns-clause-outlasts
returns-clause-outlasts g c =
    let told = g.D.Disk.told in
    let count = g.D.Disk.fault_count in
    let inside = c.self.inside in
    let new = c.make_ready.new in
    made_outlasts c.args.self.now (state (told inside.disk) (count inside.disk) inside.own inside.opened)
    (state (told new.disk) (count new.disk) new.own new.opened) c.self.view_is c.make_ready.ensures.any_moment c.make_ready.ensures.safe

pub returns-clause-counts : goal.returns-clause-counts
returns-clause-counts g c =
    let told = g.D.Disk.told in
    let count = g.D.Disk.fault_count in
    let inside = c.self.inside in
    let new = c.make_ready.new in
    made_counts c.args.self.now (state (told inside.disk) (count inside.disk) inside.own inside.opened) (count new.disk) new.own c.make_ready.result c.self.view_is
    c.make_ready.ensures.counts

pub returns-clause-held : goal.returns-clause-held
returns-clause-held g c =
    let told = g.D.Disk.told in
    let count = g.D.Disk.fault_count in
    let inside = c.self.inside in
    made_held c.args.self.now (state (told inside.disk) (count inside.disk) inside.own inside.opened) c.make_ready.result c.self.view_is c.make_ready.ensures.held

pub returns-clause-spares : goal.returns-clause-spares
returns-clause-spares g c =
    let told = g.D.Disk.told in
    let count = g.D.Disk.fault_count in
    let inside = c.self.inside in
    made_spared c.args.self.now (state (told inside.disk) (count inside.disk) inside.own inside.opened) (told c.make_ready.new.disk) c.self.view_is
    c.make_ready.ensures.spares

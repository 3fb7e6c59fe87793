use Rattle.std.proofs.Common.{◌≡◌, Err}
use Rattle.std.proofs.lemmas.Result.{err_from_is_err_and}
use Rattle.journal_reading.proofs.Openings.{held_spared}
use Rattle.journal_keeper.specs.Causes.{IsUnopenable, Misfits}
use Rattle.journal_keeper.proofs.Counting.{first_counts, counts_cause}
use Rattle.journal_keeper.proofs.Calls.{on_ok, ready_safe, add_safe, Readied, readied_so, wider_outlasts, state, add_outlasts, add_told, add_counted, add_cause}
use Rattle.journal_keeper.proofs.keeper.JournalKeeperKeeper.apply.Goals as goal

pub returns-in_err-make_ready-clause-told : goal.returns-in_err-make_ready-clause-told
returns-in_err-make_ready-clause-told g c =
    let p = err_from_is_err_and c.from_residual.result c.from_residual.ensures.1 in
    rw p.1 c.in_err-make_ready.ensures.told

pub returns-in_err-make_ready-clause-cause : goal.returns-in_err-make_ready-clause-cause
returns-in_err-make_ready-clause-cause g c =
    let old = c.args.self.now in
    let new = c.make_ready.new.self in
    let A = IsUnopenable old.opened old.told in
    let fault = c.in_err-make_ready.field-0.0 in
    let p = err_from_is_err_and c.from_residual.result c.from_residual.ensures.1 in
    rw (p.1, p.2) (counts_cause {X = Unit {0}} A old.faults new.faults old.own new.own (Err fault) c.in_err-make_ready.ensures.counts)

pub returns-in_err-make_ready-clause-outlasts : goal.returns-in_err-make_ready-clause-outlasts
returns-in_err-make_ready-clause-outlasts g c =
    wider_outlasts (λ other. other ≡ c.args.change.now) c.args.self.now c.make_ready.new.self c.in_err-make_ready.ensures.outlasts

pub returns-in_err-make_ready-clause-counts : goal.returns-in_err-make_ready-clause-counts
returns-in_err-make_ready-clause-counts g c =
    let old = c.args.self.now in
    let new = c.make_ready.new.self in
    let A = IsUnopenable old.opened old.told in
    let p = err_from_is_err_and c.from_residual.result c.from_residual.ensures.1 in
    rw (p.1, p.2)
    (first_counts (Unit {0}) (Unit {0}) A (Misfits c.args.change.now new.opened) old.faults new.faults old.own new.own c.in_err-make_ready.field-0.0
    c.in_err-make_ready.ensures.counts)

pub add-requires-clause-ready : goal.add-requires-clause-ready
add-requires-clause-ready g c =
    let old = c.args.self.now in
    let told = g.D.Disk.told c.self.inside.disk in
    let faults = g.D.Disk.fault_count c.self.inside.disk in
    let own = c.self.inside.own in
    let opened = c.self.inside.opened in
    let made = c.in_ok-make_ready.ensures in
    let before : Readied old (state told faults own opened) = readied_so old (state told faults own opened) c.make_ready.new.self c.self.view_is
    (record { ready = made.ready; told = made.told; outlasts = made.outlasts; faults = made.counts.0; own = made.counts.1 }) in
    before.ready

pub returns-clause-told : goal.returns-clause-told
returns-clause-told g c =
    let old = c.args.self.now in
    let told = g.D.Disk.told c.self.inside.disk in
    let a = g.D.Disk.told c.add.new.disk in
    let faults = g.D.Disk.fault_count c.self.inside.disk in
    let now_faults = g.D.Disk.fault_count c.add.new.disk in
    let own = c.self.inside.own in
    let opened = c.self.inside.opened in
    let made = c.in_ok-make_ready.ensures in
    let before : Readied old (state told faults own opened) = readied_so old (state told faults own opened) c.make_ready.new.self c.self.view_is
    (record { ready = made.ready; told = made.told; outlasts = made.outlasts; faults = made.counts.0; own = made.counts.1 }) in
    add_told c.args.change.now old told a faults own now_faults c.add.new.own opened c.add.new.opened before c.add.result c.add.ensures.told

pub returns-clause-cause : goal.returns-clause-cause
returns-clause-cause g c =
    let old = c.args.self.now in
    let told = g.D.Disk.told c.self.inside.disk in
    let a = g.D.Disk.told c.add.new.disk in
    let faults = g.D.Disk.fault_count c.self.inside.disk in
    let now_faults = g.D.Disk.fault_count c.add.new.disk in
    let own = c.self.inside.own in
    let opened = c.self.inside.opened in
    let made = c.in_ok-make_ready.ensures in
    let before : Readied old (state told faults own opened) = readied_so old (state told faults own opened) c.make_ready.new.self c.self.view_is
    (record { ready = made.ready; told = made.told; outlasts = made.outlasts; faults = made.counts.0; own = made.counts.1 }) in
    add_cause c.args.change.now old told a faults own now_faults c.add.new.own opened c.add.new.opened before c.add.result c.add.ensures.counts

pub returns-clause-outlasts : goal.returns-clause-outlasts
returns-clause-outlasts g c =
    let old = c.args.self.now in
    let told = g.D.Disk.told c.self.inside.disk in
    let a = g.D.Disk.told c.add.new.disk in
    let faults = g.D.Disk.fault_count c.self.inside.disk in
    let now_faults = g.D.Disk.fault_count c.add.new.disk in
    let own = c.self.inside.own in
    let opened = c.self.inside.opened in
    let made = c.in_ok-make_ready.ensures in
    let before : Readied old (state told faults own opened) = readied_so old (state told faults own opened) c.make_ready.new.self c.self.view_is
    (record { ready = made.ready; told = made.told; outlasts = made.outlasts; faults = made.counts.0; own = made.counts.1 }) in
    add_outlasts c.args.change.now old told a faults own now_faults c.add.new.own opened c.add.new.opened before c.add.ensures.any_moment c.add.ensures.safe

pub returns-clause-counts : goal.returns-clause-counts
returns-clause-counts g c =
    let old = c.args.self.now in
    let told = g.D.Disk.told c.self.inside.disk in
    let a = g.D.Disk.told c.add.new.disk in
    let faults = g.D.Disk.fault_count c.self.inside.disk in
    let now_faults = g.D.Disk.fault_count c.add.new.disk in
    let own = c.self.inside.own in
    let opened = c.self.inside.opened in
    let made = c.in_ok-make_ready.ensures in
    let before : Readied old (state told faults own opened) = readied_so old (state told faults own opened) c.make_ready.new.self c.self.view_is
    (record { ready = made.ready; told = made.told; outlasts = made.outlasts; faults = made.counts.0; own = made.counts.1 }) in
    add_counted c.args.change.now old told a faults own now_faults c.add.new.own opened c.add.new.opened before c.add.result c.add.ensures.counts

pub returns-in_err-make_ready-clause-safe_now : goal.returns-in_err-make_ready-clause-safe_now
returns-in_err-make_ready-clause-safe_now g c =
    let p = err_from_is_err_and c.from_residual.result c.from_residual.ensures.1 in
    rw p.1 tt

pub returns-clause-safe_now : goal.returns-clause-safe_now
returns-clause-safe_now g c =
    let old = c.args.self.now in
    let told = g.D.Disk.told c.self.inside.disk in
    let a = g.D.Disk.told c.add.new.disk in
    let faults = g.D.Disk.fault_count c.self.inside.disk in
    let now_faults = g.D.Disk.fault_count c.add.new.disk in
    let own = c.self.inside.own in
    let opened = c.self.inside.opened in
    let made = c.in_ok-make_ready.ensures in
    let before : Readied old (state told faults own opened) = readied_so old (state told faults own opened) c.make_ready.new.self c.self.view_is
    (record { ready = made.ready; told = made.told; outlasts = made.outlasts; faults = made.counts.0; own = made.counts.1 }) in
    on_ok c.add.result (add_safe (λ other. other ≡ c.args.change.now) opened c.add.new.opened told a c.add.ensures.any_moment c.add.ensures.safe (ready_safe opened told before.ready c.self.invariant))

pub returns-in_err-make_ready-clause-held : goal.returns-in_err-make_ready-clause-held
returns-in_err-make_ready-clause-held g c =
    let p = err_from_is_err_and c.from_residual.result c.from_residual.ensures.1 in
    rw p.1 tt

pub returns-clause-held : goal.returns-clause-held
returns-clause-held g c = on_ok c.add.result c.in_ok-make_ready.ensures.held

pub returns-clause-spares : goal.returns-clause-spares
returns-clause-spares g c = held_spared c.args.self.now.told _ c.in_ok-make_ready.ensures.held

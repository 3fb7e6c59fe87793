use Rattle.std.proofs.Common.{Option, List, Err}
use Rattle.std.proofs.lemmas.Result.{err_from_is_err_and}
use Rattle.case_rules.specs.declared.case.Entry.{Entry}
use Rattle.case_keeper.specs.Keeper.{history_of}
use Rattle.journal_reading.proofs.Openings.{held_spared}
use Rattle.journal_keeper.specs.Causes.{IsUnopenable}
use Rattle.journal_keeper.proofs.Counting.{err_counts, counts_cause}
use Rattle.journal_keeper.proofs.Calls.{on_ok, ready_safe, look_safe, Readied, readied_so, ready_open, state, look_outlasts, look_told, look_counted, look_cause, look_answer}
use Rattle.journal_keeper.proofs.Safe.{held_kept}
use Rattle.journal_keeper.proofs.keeper.JournalKeeperKeeper.history.Goals as goal

pub returns-in_err-make_ready-clause-answer : goal.returns-in_err-make_ready-clause-answer
returns-in_err-make_ready-clause-answer g c =
    let p = err_from_is_err_and c.from_residual.result c.from_residual.ensures.1 in
    rw p.1 (λ cases is. tt)

pub returns-in_err-make_ready-clause-cause : goal.returns-in_err-make_ready-clause-cause
returns-in_err-make_ready-clause-cause g c =
    let old = c.args.self.now in
    let new = c.make_ready.new.self in
    let A = IsUnopenable old.opened old.told in
    let fault = c.in_err-make_ready.field-0.0 in
    let p = err_from_is_err_and c.from_residual.result c.from_residual.ensures.1 in
    rw (p.1, p.2)
    (counts_cause {X = Option (List Entry)} A old.faults new.faults old.own new.own (Err fault) (err_counts (Unit {0}) (Option (List Entry)) A old.faults new.faults old.own new.own fault c.in_err-make_ready.ensures.counts))

pub returns-in_err-make_ready-clause-counts : goal.returns-in_err-make_ready-clause-counts
returns-in_err-make_ready-clause-counts g c =
    let old = c.args.self.now in
    let new = c.make_ready.new.self in
    let A = IsUnopenable old.opened old.told in
    let p = err_from_is_err_and c.from_residual.result c.from_residual.ensures.1 in
    rw (p.1, p.2) (err_counts (Unit {0}) (Option (List Entry)) A old.faults new.faults old.own new.own c.in_err-make_ready.field-0.0 c.in_err-make_ready.ensures.counts)

pub history-requires-clause-ready : goal.history-requires-clause-ready
history-requires-clause-ready g c =
    let old = c.args.self.now in
    let told = g.D.Disk.told c.self.inside.disk in
    let faults = g.D.Disk.fault_count c.self.inside.disk in
    let own = c.self.inside.own in
    let opened = c.self.inside.opened in
    let made = c.in_ok-make_ready.ensures in
    let before : Readied old (state told faults own opened) = readied_so old (state told faults own opened) c.make_ready.new.self c.self.view_is
    (record { ready = made.ready; told = made.told; outlasts = made.outlasts; faults = made.counts.0; own = made.counts.1 }) in
    before.ready

pub history-requires-clause-unfailing : goal.history-requires-clause-unfailing
history-requires-clause-unfailing g c = ready_open c.self.inside.opened (g.D.Disk.told c.self.inside.disk) c.self.invariant

pub invariant_of-self : goal.invariant_of-self
invariant_of-self g c = held_kept c.self.inside.opened c.history.new.opened (g.D.Disk.told c.self.inside.disk) c.history.ensures.same c.self.invariant

pub returns-clause-answer : goal.returns-clause-answer
returns-clause-answer g c =
    let old = c.args.self.now in
    let told = g.D.Disk.told c.self.inside.disk in
    let faults = g.D.Disk.fault_count c.self.inside.disk in
    let own = c.self.inside.own in
    let opened = c.self.inside.opened in
    let made = c.in_ok-make_ready.ensures in
    let before : Readied old (state told faults own opened) = readied_so old (state told faults own opened) c.make_ready.new.self c.self.view_is
    (record { ready = made.ready; told = made.told; outlasts = made.outlasts; faults = made.counts.0; own = made.counts.1 }) in
    look_answer old told faults own opened c.history.new.opened before c.history.ensures.same c.history.result (history_of c.args.party.now c.args.reference.now) c.history.ensures.answer

pub returns-clause-told : goal.returns-clause-told
returns-clause-told g c =
    let old = c.args.self.now in
    let told = g.D.Disk.told c.self.inside.disk in
    let faults = g.D.Disk.fault_count c.self.inside.disk in
    let own = c.self.inside.own in
    let opened = c.self.inside.opened in
    let made = c.in_ok-make_ready.ensures in
    let before : Readied old (state told faults own opened) = readied_so old (state told faults own opened) c.make_ready.new.self c.self.view_is
    (record { ready = made.ready; told = made.told; outlasts = made.outlasts; faults = made.counts.0; own = made.counts.1 }) in
    look_told old told faults own opened c.history.new.opened before c.history.ensures.same

pub returns-clause-cause : goal.returns-clause-cause
returns-clause-cause g c =
    let old = c.args.self.now in
    let told = g.D.Disk.told c.self.inside.disk in
    let faults = g.D.Disk.fault_count c.self.inside.disk in
    let own = c.self.inside.own in
    let opened = c.self.inside.opened in
    let made = c.in_ok-make_ready.ensures in
    let before : Readied old (state told faults own opened) = readied_so old (state told faults own opened) c.make_ready.new.self c.self.view_is
    (record { ready = made.ready; told = made.told; outlasts = made.outlasts; faults = made.counts.0; own = made.counts.1 }) in
    look_cause old told faults own opened c.history.new.opened before c.history.ensures.same c.history.result c.history.ensures.memory

pub returns-clause-outlasts : goal.returns-clause-outlasts
returns-clause-outlasts g c =
    let old = c.args.self.now in
    let told = g.D.Disk.told c.self.inside.disk in
    let faults = g.D.Disk.fault_count c.self.inside.disk in
    let own = c.self.inside.own in
    let opened = c.self.inside.opened in
    let made = c.in_ok-make_ready.ensures in
    let before : Readied old (state told faults own opened) = readied_so old (state told faults own opened) c.make_ready.new.self c.self.view_is
    (record { ready = made.ready; told = made.told; outlasts = made.outlasts; faults = made.counts.0; own = made.counts.1 }) in
    look_outlasts old told faults own opened c.history.new.opened before c.history.ensures.same

pub returns-clause-counts : goal.returns-clause-counts
returns-clause-counts g c =
    let old = c.args.self.now in
    let told = g.D.Disk.told c.self.inside.disk in
    let faults = g.D.Disk.fault_count c.self.inside.disk in
    let own = c.self.inside.own in
    let opened = c.self.inside.opened in
    let made = c.in_ok-make_ready.ensures in
    let before : Readied old (state told faults own opened) = readied_so old (state told faults own opened) c.make_ready.new.self c.self.view_is
    (record { ready = made.ready; told = made.told; outlasts = made.outlasts; faults = made.counts.0; own = made.counts.1 }) in
    look_counted old told faults own opened c.history.new.opened before c.history.ensures.same c.history.result c.history.ensures.memory

pub returns-in_err-make_ready-clause-safe_now : goal.returns-in_err-make_ready-clause-safe_now
returns-in_err-make_ready-clause-safe_now g c =
    let p = err_from_is_err_and c.from_residual.result c.from_residual.ensures.1 in
    rw p.1 tt

pub returns-clause-safe_now : goal.returns-clause-safe_now
returns-clause-safe_now g c =
    let old = c.args.self.now in
    let told = g.D.Disk.told c.self.inside.disk in
    let faults = g.D.Disk.fault_count c.self.inside.disk in
    let own = c.self.inside.own in
    let opened = c.self.inside.opened in
    let made = c.in_ok-make_ready.ensures in
    let before : Readied old (state told faults own opened) = readied_so old (state told faults own opened) c.make_ready.new.self c.self.view_is
    (record { ready = made.ready; told = made.told; outlasts = made.outlasts; faults = made.counts.0; own = made.counts.1 }) in
    on_ok c.history.result (look_safe opened c.history.new.opened told c.history.ensures.same (ready_safe opened told before.ready c.self.invariant))

pub returns-in_err-make_ready-clause-held : goal.returns-in_err-make_ready-clause-held
returns-in_err-make_ready-clause-held g c =
    let p = err_from_is_err_and c.from_residual.result c.from_residual.ensures.1 in
    rw p.1 tt

pub returns-clause-held : goal.returns-clause-held
returns-clause-held g c = on_ok c.history.result c.in_ok-make_ready.ensures.held

pub returns-clause-spares : goal.returns-clause-spares
returns-clause-spares g c = held_spared c.args.self.now.told _ c.in_ok-make_ready.ensures.held

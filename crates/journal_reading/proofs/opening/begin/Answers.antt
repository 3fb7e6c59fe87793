use Rattle.std.proofs.Common.{ap}
use Rattle.std.proofs.lemmas.Result.{err_from_is_err_and}
use Rattle.gated_log.proofs.Pieces.{on_err}
use Rattle.gated_log.specs.declared.log.Log.{Log}
use Rattle.case_keeper.specs.MemoryKeeper.{Kept}
use Rattle.journal_reading.specs.declared.opening.Opened.{Opened}
use Rattle.journal_reading.proofs.Openings as opened
use Rattle.journal_reading.proofs.Readings.{fault_answers, fault_cause}
use Rattle.journal_reading.proofs.opening.begin.Goals as goal

pub returns-in_err-log-clause-answer : goal.returns-in_err-log-clause-answer
returns-in_err-log-clause-answer g c =
    let p = err_from_is_err_and c.from_residual.result c.from_residual.ensures.1 in
    rw (p.1, p.2) (fault_answers Opened (g.D.Disk.told c.args.disk.now) _)

pub returns-in_err-log-clause-as_before : goal.returns-in_err-log-clause-as_before
returns-in_err-log-clause-as_before g c =
    let told = g.D.Disk.told in
    on_err c.from_residual.result _ (opened.few_as_before (told c.args.disk.now) (told c.begun_log.new.disk) c.requires c.in_err-log.ensures.any_moment)

pub returns-in_err-log-clause-any_moment : goal.returns-in_err-log-clause-any_moment
returns-in_err-log-clause-any_moment g c =
    let told = g.D.Disk.told in
    opened.few_moments (told c.args.disk.now) (told c.begun_log.new.disk) c.requires c.in_err-log.ensures.any_moment

pub returns-in_err-log-clause-safe : goal.returns-in_err-log-clause-safe
returns-in_err-log-clause-safe g c =
    let told = g.D.Disk.told in
    on_err c.from_residual.result _ (opened.few_safe (told c.args.disk.now) (told c.begun_log.new.disk) c.requires c.in_err-log.ensures.any_moment)

pub returns-in_err-log-clause-cause : goal.returns-in_err-log-clause-cause
returns-in_err-log-clause-cause g c =
    let p = err_from_is_err_and c.from_residual.result c.from_residual.ensures.1 in
    rw (p.1, p.2) (fault_cause Log Opened _ _ _ c.in_err-log.ensures.cause)

pub returns-clause-answer : goal.returns-clause-answer
returns-clause-answer g c = opened.few_answer (g.D.Disk.told c.args.disk.now) c.requires

pub returns-clause-kept : goal.returns-clause-kept
returns-clause-kept g c =
    opened.begun_open (g.D.Disk.told c.begun_log.new.disk) _ _ c.in_ok-log.ensures.log (ap (λ (k : Kept). k.cases) c.new.ensures)
    (ap (λ (k : Kept). k.failing) c.new.ensures) c.in_ok-log.ensures.begun

pub returns-clause-same : goal.returns-clause-same
returns-clause-same g c =
    let told = g.D.Disk.told in
    opened.begun_same (told c.args.disk.now) (told c.begun_log.new.disk) c.in_ok-log.log c.new.result (ap (λ (k : Kept). k.cases) c.new.ensures) c.requires c.in_ok-log.ensures.any_moment

pub returns-clause-any_moment : goal.returns-clause-any_moment
returns-clause-any_moment g c =
    let told = g.D.Disk.told in
    opened.few_moments (told c.args.disk.now) (told c.begun_log.new.disk) c.requires c.in_ok-log.ensures.any_moment

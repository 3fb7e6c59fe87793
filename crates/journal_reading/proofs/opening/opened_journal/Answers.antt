use Rattle.std.proofs.Common.{ℕ}
use Rattle.std.proofs.lemmas.Result.{err_from_is_err_and}
use Rattle.gated_log.proofs.Pieces.{on_err}
use Rattle.journal_reading.specs.declared.opening.Opened.{Opened}
use Rattle.journal_reading.proofs.Openings as opened
use Rattle.journal_reading.proofs.Readings.{fault_answers}
use Rattle.journal_reading.proofs.opening.opened_journal.Goals as goal

pub returns-in_err-len-clause-answer : goal.returns-in_err-len-clause-answer
returns-in_err-len-clause-answer g c =
    let p = err_from_is_err_and c.from_residual.result c.from_residual.ensures.1 in
    rw (p.1, p.2) (fault_answers Opened (g.D.Disk.told c.args.disk.now) _)

pub returns-in_err-len-clause-as_before : goal.returns-in_err-len-clause-as_before
returns-in_err-len-clause-as_before g c =
    let told = g.D.Disk.told in
    on_err c.from_residual.result _ (opened.settled_failed_told ℕ (told c.args.disk.now) (told c.settled_length.new.disk) _ c.in_err-len.ensures.settles)

pub returns-in_err-len-clause-any_moment : goal.returns-in_err-len-clause-any_moment
returns-in_err-len-clause-any_moment g c =
    let told = g.D.Disk.told in
    opened.settled_failed_moments ℕ (told c.args.disk.now) (told c.settled_length.new.disk) _ c.in_err-len.ensures.settles

pub returns-in_err-len-clause-safe : goal.returns-in_err-len-clause-safe
returns-in_err-len-clause-safe g c =
    let told = g.D.Disk.told in
    on_err c.from_residual.result _ (opened.settled_failed_safe ℕ (told c.args.disk.now) (told c.settled_length.new.disk) _ c.in_err-len.ensures.settles)

pub returns-then-len-le9-clause-answer : goal.returns-then-len-le9-clause-answer
returns-then-len-le9-clause-answer g c =
    let told = g.D.Disk.told in
    opened.then_answer c.in_ok-len.len (told c.args.disk.now) (told c.settled_length.new.disk) c.begin.result c.in_ok-len.ensures.settles c.begin.ensures.answer

pub returns-then-len-le9-clause-same : goal.returns-then-len-le9-clause-same
returns-then-len-le9-clause-same g c =
    let told = g.D.Disk.told in
    opened.then_same c.in_ok-len.len (told c.args.disk.now) (told c.settled_length.new.disk) (told c.begin.new.disk) c.in_ok-len.ensures.settles c.begin.result c.begin.ensures.same

pub returns-then-len-le9-clause-as_before : goal.returns-then-len-le9-clause-as_before
returns-then-len-le9-clause-as_before g c =
    let told = g.D.Disk.told in
    opened.then_as_before c.in_ok-len.len (told c.args.disk.now) (told c.settled_length.new.disk) (told c.begin.new.disk) c.in_ok-len.ensures.settles c.begin.result c.begin.ensures.as_before

pub returns-then-len-le9-clause-any_moment : goal.returns-then-len-le9-clause-any_moment
returns-then-len-le9-clause-any_moment g c =
    let told = g.D.Disk.told in
    opened.then_moments c.in_ok-len.len (told c.args.disk.now) (told c.settled_length.new.disk) (told c.begin.new.disk) c.in_ok-len.ensures.settles c.begin.ensures.any_moment

pub returns-then-len-le9-clause-safe : goal.returns-then-len-le9-clause-safe
returns-then-len-le9-clause-safe g c =
    let told = g.D.Disk.told in
    opened.then_safe_so c.in_ok-len.len (told c.args.disk.now) (told c.settled_length.new.disk) (told c.begin.new.disk) c.in_ok-len.ensures.settles c.begin.result c.begin.ensures.safe

pub returns-clause-answer : goal.returns-clause-answer
returns-clause-answer g c =
    let told = g.D.Disk.told in
    opened.then_answer c.in_ok-len.len (told c.args.disk.now) (told c.settled_length.new.disk) c.read_in.result c.in_ok-len.ensures.settles c.read_in.ensures.answer

pub returns-clause-same : goal.returns-clause-same
returns-clause-same g c =
    let told = g.D.Disk.told in
    opened.then_same c.in_ok-len.len (told c.args.disk.now) (told c.settled_length.new.disk) (told c.read_in.new.disk) c.in_ok-len.ensures.settles c.read_in.result c.read_in.ensures.same

pub returns-clause-as_before : goal.returns-clause-as_before
returns-clause-as_before g c =
    let told = g.D.Disk.told in
    opened.then_as_before c.in_ok-len.len (told c.args.disk.now) (told c.settled_length.new.disk) (told c.read_in.new.disk) c.in_ok-len.ensures.settles c.read_in.result c.read_in.ensures.as_before

pub returns-clause-any_moment : goal.returns-clause-any_moment
returns-clause-any_moment g c =
    let told = g.D.Disk.told in
    opened.then_moments c.in_ok-len.len (told c.args.disk.now) (told c.settled_length.new.disk) (told c.read_in.new.disk) c.in_ok-len.ensures.settles c.read_in.ensures.any_moment

pub returns-clause-safe : goal.returns-clause-safe
returns-clause-safe g c =
    let told = g.D.Disk.told in
    opened.then_safe_so c.in_ok-len.len (told c.args.disk.now) (told c.settled_length.new.disk) (told c.read_in.new.disk) c.in_ok-len.ensures.settles c.read_in.result c.read_in.ensures.safe

pub begin-requires : goal.begin-requires
begin-requires g c =
    let told = g.D.Disk.told in
    opened.settled_short (told c.settled_length.new.disk) c.in_ok-len.len c.if-len-le9.true
    (opened.then_settled c.in_ok-len.len (told c.args.disk.now) (told c.settled_length.new.disk) c.in_ok-len.len c.in_ok-len.ensures.settles c.in_ok-len.ensures.length)

pub read_in-requires-clause-settled : goal.read_in-requires-clause-settled
read_in-requires-clause-settled g c =
    let told = g.D.Disk.told in
    opened.then_settled c.in_ok-len.len (told c.args.disk.now) (told c.settled_length.new.disk) c.in_ok-len.len c.in_ok-len.ensures.settles c.in_ok-len.ensures.length

pub returns-in_err-len-clause-spares : goal.returns-in_err-len-clause-spares
returns-in_err-len-clause-spares g c =
    let told = g.D.Disk.told in
    opened.settled_failed_spared ℕ (told c.args.disk.now) (told c.settled_length.new.disk) _ c.in_err-len.ensures.settles

pub returns-then-len-le9-clause-spares : goal.returns-then-len-le9-clause-spares
returns-then-len-le9-clause-spares g c =
    let told = g.D.Disk.told in
    let o = told c.args.disk.now in
    let a = told c.settled_length.new.disk in
    let len = c.in_ok-len.len in
    let short = opened.settled_short a len c.if-len-le9.true (opened.then_settled len o a len c.in_ok-len.ensures.settles c.in_ok-len.ensures.length) in
    opened.short_spared len o a (told c.begin.new.disk) c.in_ok-len.ensures.settles short

pub returns-clause-spares : goal.returns-clause-spares
returns-clause-spares g c =
    let told = g.D.Disk.told in
    opened.then_spared c.in_ok-len.len (told c.args.disk.now) (told c.settled_length.new.disk) (told c.read_in.new.disk) c.in_ok-len.ensures.settles c.read_in.ensures.alone

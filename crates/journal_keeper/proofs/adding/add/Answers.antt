use Rattle.std.proofs.Common.{◌≡◌, sym, subst, Option, Some}
use Rattle.std.specs.Option.{option_map}
use Rattle.std.proofs.lemmas.Result.{err_from_is_err_and}
use Rattle.case_rules.specs.Cases.{after}
use Rattle.journal_reading.specs.declared.opening.Opened.{Opened}
use Rattle.journal_reading.specs.Keeping.{IsKept, IsReady, LeavesCases, StaysSafe, told_by}
use Rattle.journal_keeper.proofs.Adds.{followed_kept, followed_safe, followed_told}
use Rattle.journal_keeper.proofs.Safe.{open_stays, unwritten_told}
use Rattle.journal_keeper.proofs.adding.add.Goals as goal

pub returns-in_err-write_fitting-clause-any_moment : goal.returns-in_err-write_fitting-clause-any_moment
returns-in_err-write_fitting-clause-any_moment g c =
    let told = g.D.Disk.told in
    subst (λ (o : Option Opened). LeavesCases (λ other. other ≡ c.args.change.now) o (told c.args.disk.now) (told c.write_fitting.new.disk)) (sym c.in-Some.is)
    c.in_err-write_fitting.ensures.any_moment

pub returns-in_err-write_fitting-clause-safe : goal.returns-in_err-write_fitting-clause-safe
returns-in_err-write_fitting-clause-safe g c =
    let told = g.D.Disk.told in
    open_stays c.args.opened.now (told c.args.disk.now) (told c.write_fitting.new.disk) c.write_fitting.new.opened c.in_err-write_fitting.ensures.written.0

pub returns-in_err-write_fitting-clause-told : goal.returns-in_err-write_fitting-clause-told
returns-in_err-write_fitting-clause-told g c =
    let told = g.D.Disk.told in
    let p = err_from_is_err_and c.from_residual.result c.from_residual.ensures.1 in
    let same = unwritten_told (λ other. other ≡ c.args.change.now) c.in-Some.journal c.write_fitting.new.opened (told c.args.disk.now) (told c.write_fitting.new.disk)
    c.in_err-write_fitting.ensures.any_moment c.in_err-write_fitting.ensures.written.1 in
    rw p.1
    (subst (λ (o : Option Opened). told_by (Some c.write_fitting.new.opened) (told c.write_fitting.new.disk) ≡ told_by o (told c.args.disk.now)) (sym c.in-Some.is) same)

pub returns-clause-told : goal.returns-clause-told
returns-clause-told g c =
    let told = g.D.Disk.told in
    let change = c.args.change.now in
    let is = followed_told change c.in-Some.journal c.write_fitting.new.opened (λ other. other ≡ change) c.follow.new.opened (told c.args.disk.now) (told c.write_fitting.new.disk)
    c.in_ok-write_fitting.ensures.any_moment c.in_ok-write_fitting.ensures.written.1 c.in_ok-write_fitting.ensures.written.0 c.follow.ensures in
    subst (λ (o : Option Opened). told_by c.follow.new.opened (told c.write_fitting.new.disk) ≡ option_map (after change) (told_by o (told c.args.disk.now))) (sym c.in-Some.is) is

pub returns-clause-any_moment : goal.returns-clause-any_moment
returns-clause-any_moment g c =
    let told = g.D.Disk.told in
    subst (λ (o : Option Opened). LeavesCases (λ other. other ≡ c.args.change.now) o (told c.args.disk.now) (told c.write_fitting.new.disk)) (sym c.in-Some.is)
    c.in_ok-write_fitting.ensures.any_moment

pub returns-clause-safe : goal.returns-clause-safe
returns-clause-safe g c =
    let told = g.D.Disk.told in
    subst (λ (o : Option Opened). StaysSafe o c.follow.new.opened (told c.args.disk.now) (told c.write_fitting.new.disk)) (sym c.in-Some.is)
    (followed_safe c.args.change.now c.in-Some.journal c.write_fitting.new.opened c.follow.new.opened (told c.args.disk.now) (told c.write_fitting.new.disk)
    c.in_ok-write_fitting.ensures.written.0 c.follow.ensures)

pub returns-clause-kept : goal.returns-clause-kept
returns-clause-kept g c =
    followed_kept c.args.change.now c.in-Some.journal c.write_fitting.new.opened c.follow.new.opened (g.D.Disk.told c.write_fitting.new.disk)
    c.in_ok-write_fitting.ensures.written.0 c.follow.ensures

pub write_fitting-requires-clause-kept : goal.write_fitting-requires-clause-kept
write_fitting-requires-clause-kept g c = subst (λ (o : Option Opened). IsKept (g.D.Disk.told c.args.disk.now) o) c.in-Some.is c.requires.kept

pub write_fitting-requires-clause-ready : goal.write_fitting-requires-clause-ready
write_fitting-requires-clause-ready g c = subst IsReady c.in-Some.is c.requires.ready

use Rattle.std.proofs.Common.{rules, ◌≡◌, true, false, refl, sym, subst, Option, Some}
use Rattle.std.specs.Prelude.{IfSome}
use Rattle.std.specs.Option.{is_some}
use Rattle.journal_reading.specs.declared.opening.Opened.{Opened}
use Rattle.journal_reading.specs.Keeping.{IsSafe, NoOther, LeavesCases}
use Rattle.journal_reading.proofs.Openings.{unchanged_spared}
use Rattle.journal_keeper.specs.State.{JournalState}
use Rattle.journal_keeper.proofs.Calls.{state, made_outlasts, made_spared, same_outlasts, safe_now, is_none}
use Rattle.journal_keeper.proofs.Safe.{open_stays}
use Rattle.journal_keeper.proofs.keeper.JournalKeeper.«open».Goals as goal

pub returns-then-is_some-clause-safe_now : goal.returns-then-is_some-clause-safe_now
returns-then-is_some-clause-safe_now g c =
    let some : is_some c.self.inside.opened ≡ true = search rules in
    subst (λ (k : JournalState). IfSome k.told (IsSafe k.opened)) c.self.view_is
    (safe_now c.self.inside.opened (g.D.Disk.told c.self.inside.disk) some c.self.invariant)

pub returns-then-is_some-clause-outlasts : goal.returns-then-is_some-clause-outlasts
returns-then-is_some-clause-outlasts g c = same_outlasts c.args.self.now

pub returns-clause-safe_now : goal.returns-clause-safe_now
returns-clause-safe_now g c = safe_now (Some c.in_ok-opened.opened) (g.D.Disk.told c.opened_journal.new.disk) refl c.in_ok-opened.ensures.kept

pub returns-clause-outlasts : goal.returns-clause-outlasts
returns-clause-outlasts g c =
    let told = g.D.Disk.told in
    let count = g.D.Disk.fault_count in
    let inside = c.self.inside in
    let disk = c.opened_journal.new.disk in
    let fails : is_some inside.opened ≡ false = search rules in
    made_outlasts c.args.self.now (state (told inside.disk) (count inside.disk) inside.own inside.opened)
    (state (told disk) (count disk) inside.own (Some c.in_ok-opened.opened)) c.self.view_is
    (subst (λ (o : Option Opened). LeavesCases NoOther o (told inside.disk) (told disk)) (sym (is_none inside.opened fails)) c.in_ok-opened.ensures.any_moment)
    (open_stays inside.opened (told inside.disk) (told disk) c.in_ok-opened.opened c.in_ok-opened.ensures.kept)

pub returns-then-is_some-clause-spares : goal.returns-then-is_some-clause-spares
returns-then-is_some-clause-spares g c = unchanged_spared c.args.self.now.told c.args.self.now.told refl

pub returns-in_err-opened-clause-spares : goal.returns-in_err-opened-clause-spares
returns-in_err-opened-clause-spares g c =
    let told = g.D.Disk.told in
    let count = g.D.Disk.fault_count in
    let inside = c.self.inside in
    made_spared c.args.self.now (state (told inside.disk) (count inside.disk) inside.own inside.opened) (told c.opened_journal.new.disk) c.self.view_is
    c.in_err-opened.ensures.spares

pub returns-clause-spares : goal.returns-clause-spares
returns-clause-spares g c =
    let told = g.D.Disk.told in
    let count = g.D.Disk.fault_count in
    let inside = c.self.inside in
    made_spared c.args.self.now (state (told inside.disk) (count inside.disk) inside.own inside.opened) (told c.opened_journal.new.disk) c.self.view_is
    c.in_ok-opened.ensures.spares

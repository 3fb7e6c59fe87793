use Rattle.std.proofs.Common.{rules, ◌≡◌, true, false, inr, refl, sym, subst, List, Some}
use Rattle.case_rules.specs.declared.case.Case.{Case}
use Rattle.case_rules.specs.Docket.{Fits}
use Rattle.journal_reading.proofs.Readings.{it_fits, no_fit}
use Rattle.journal_keeper.proofs.Adds.{written_from}
use Rattle.journal_keeper.proofs.Safe.{none_moments, same_moments, same_open}
use Rattle.journal_keeper.proofs.adding.write_fitting.Goals as goal

pub returns-in_err-fits-clause-any_moment : goal.returns-in_err-fits-clause-any_moment
returns-in_err-fits-clause-any_moment g c =
    none_moments (λ other. other ≡ c.args.change.now) (Some c.args.opened.now) (g.D.Disk.told c.args.disk.now)

pub returns-then-not-branch-clause-any_moment : goal.returns-then-not-branch-clause-any_moment
returns-then-not-branch-clause-any_moment g c =
    none_moments (λ other. other ≡ c.args.change.now) (Some c.args.opened.now) (g.D.Disk.told c.args.disk.now)

pub returns-then-not-branch-clause-written : goal.returns-then-not-branch-clause-written
returns-then-not-branch-clause-written g c =
    let o = c.args.opened.now in (
      same_open o (record { log = o.log; held = c.fits.new.held }) refl c.in_ok-fits.ensures.cases (g.D.Disk.told c.args.disk.now)
          c.in_ok-fits.ensures.unfailing c.requires.kept,
      c.in_ok-fits.ensures.cases,
    )

pub returns-then-not-branch-clause-counts : goal.returns-then-not-branch-clause-counts
returns-then-not-branch-clause-counts g c =
    let cases = c.args.opened.now.held.cases in
    let fails : c.in_ok-fits.field-0 ≡ false = search rules in
    inr (
      λ fit.
          no_fit c.args.change.now cases c.in_ok-fits.field-0 c.in_ok-fits.ensures.answer fails
          (subst (λ (cs : List Case). Fits c.args.change.now cs) c.in_ok-fits.ensures.cases fit),
      refl,
      search rules,
    )

pub write-requires-clause-kept : goal.write-requires-clause-kept
write-requires-clause-kept g c =
    let o = c.args.opened.now in
    same_open o (record { log = o.log; held = c.fits.new.held }) refl c.in_ok-fits.ensures.cases (g.D.Disk.told c.args.disk.now)
    c.in_ok-fits.ensures.unfailing c.requires.kept

pub write-requires-clause-fits : goal.write-requires-clause-fits
write-requires-clause-fits g c =
    let holds : c.in_ok-fits.field-0 ≡ true = search rules in
    subst (λ (cs : List Case). Fits c.args.change.now cs) (sym c.in_ok-fits.ensures.cases)
    (it_fits c.args.change.now c.args.opened.now.held.cases c.in_ok-fits.field-0 c.in_ok-fits.ensures.answer holds)

pub returns-clause-any_moment : goal.returns-clause-any_moment
returns-clause-any_moment g c =
    let told = g.D.Disk.told in
    let o = c.args.opened.now in
    same_moments o (record { log = o.log; held = c.fits.new.held }) refl c.in_ok-fits.ensures.cases (λ other. other ≡ c.args.change.now)
    (told c.args.disk.now) (told c.write.new.disk) c.write.ensures.any_moment

pub returns-clause-written : goal.returns-clause-written
returns-clause-written g c =
    let o = c.args.opened.now in
    written_from c.args.change.now o (record { log = o.log; held = c.fits.new.held }) c.write.new.opened (g.D.Disk.told c.write.new.disk) c.write.result
    c.in_ok-fits.ensures.cases c.write.ensures.written

use Rattle.std.proofs.Common.{◌≡◌, ◌<◌, ◌++◌, ℕ, List, length, refl, ◌∙◌, ap, arith, Some}
use Rattle.case_records.specs.Spelling.{change_bytes}
use Rattle.journal_keeper.proofs.Adds.{added_keeps, unadded_open, added_moments}
use Rattle.journal_keeper.proofs.Safe.{none_moments}
use Rattle.journal_keeper.proofs.adding.write.Goals as goal

pub returns-in_err-put_change-clause-any_moment : goal.returns-in_err-put_change-clause-any_moment
returns-in_err-put_change-clause-any_moment g c =
    none_moments (λ other. other ≡ c.args.change.now) (Some c.args.opened.now) (g.D.Disk.told c.args.disk.now)

pub returns-in-Ok-clause-written : goal.returns-in-Ok-clause-written
returns-in-Ok-clause-written g c =
    let told = g.D.Disk.told in
    let old = c.args.opened.now in
    let change = c.args.change.now in
    let payload = c.deref.result.now in
    let is : payload ≡ change_bytes change =
    c.deref.ensures.value ∙ c.in_ok-put_change.ensures.bytes ∙ ap (λ (l : List ℕ). l ++ change_bytes change) c.new-payload.ensures.items in
    let small : length payload < 18446744073709551616 = omega arith in (
      record {
        unfailing = c.requires.kept.unfailing;
        fits = c.requires.fits;
        shut = c.in-Ok.ensures.closed;
        room = c.in-Ok.ensures.room;
        kept = added_keeps change payload is c.in_ok-put_change.ensures.fits small old c.requires.fits (told c.args.disk.now) (told c.append.new.disk)
            c.append.new.self c.in-Ok.ensures.closed c.requires.kept.kept c.in-Ok.ensures.stands c.in-Ok.ensures.added;
      },
      refl,
    )

pub returns-in-Ok-clause-any_moment : goal.returns-in-Ok-clause-any_moment
returns-in-Ok-clause-any_moment g c =
    let told = g.D.Disk.told in
    let change = c.args.change.now in
    let payload = c.deref.result.now in
    let is : payload ≡ change_bytes change =
    c.deref.ensures.value ∙ c.in_ok-put_change.ensures.bytes ∙ ap (λ (l : List ℕ). l ++ change_bytes change) c.new-payload.ensures.items in
    let small : length payload < 18446744073709551616 = omega arith in
    added_moments change payload is c.in_ok-put_change.ensures.fits small c.args.opened.now c.requires.fits (told c.args.disk.now) (told c.append.new.disk)
    c.requires.kept.kept c.in-Ok.ensures.any_moment

pub returns-clause-written : goal.returns-clause-written
returns-clause-written g c =
    let told = g.D.Disk.told in
    let old = c.args.opened.now in
    let change = c.args.change.now in
    let payload = c.deref.result.now in
    let is : payload ≡ change_bytes change =
    c.deref.ensures.value ∙ c.in_ok-put_change.ensures.bytes ∙ ap (λ (l : List ℕ). l ++ change_bytes change) c.new-payload.ensures.items in
    let small : length payload < 18446744073709551616 = omega arith in (
      unadded_open change payload is c.in_ok-put_change.ensures.fits small old c.requires.fits (told c.args.disk.now) (told c.append.new.disk)
          (record { log = c.append.new.self; held = old.held }) c.requires.kept refl c.in-Err.ensures.as_long c.in-Err.ensures.stands
          c.in-Err.ensures.kept c.in-Err.ensures.last,
      refl,
    )

pub returns-clause-any_moment : goal.returns-clause-any_moment
returns-clause-any_moment g c =
    let told = g.D.Disk.told in
    let change = c.args.change.now in
    let payload = c.deref.result.now in
    let is : payload ≡ change_bytes change =
    c.deref.ensures.value ∙ c.in_ok-put_change.ensures.bytes ∙ ap (λ (l : List ℕ). l ++ change_bytes change) c.new-payload.ensures.items in
    let small : length payload < 18446744073709551616 = omega arith in
    added_moments change payload is c.in_ok-put_change.ensures.fits small c.args.opened.now c.requires.fits (told c.args.disk.now) (told c.append.new.disk)
    c.requires.kept.kept c.in-Err.ensures.any_moment

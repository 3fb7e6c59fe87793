use Rattle.std.proofs.Common.{rules, ◌≡◌, ◌≤◌, ◌+◌, ℕ, List, length, sym, ◌∙◌, ap, subst, arith, Option, Ok, Err}
use Rattle.std.specs.Prelude.{IfSome, Vec}
use Rattle.std.specs.declared.alloc.Global.{Global}
use Rattle.std.proofs.lemmas.Result.{err_from_is_err_and}
use Rattle.case_rules.specs.declared.case.Case.{Case}
use Rattle.case_keeper.specs.MemoryKeeper.{Kept}
use Rattle.journal_reading.specs.declared.replaying.Replayed.{Replayed}
use Rattle.journal_reading.specs.Opening.{Takes}
use Rattle.journal_reading.proofs.Readings as readings
use Rattle.journal_reading.proofs.replaying.replay.Goals as goal

pub loop-end-init : goal.loop-end-init
loop-end-init g c =
    let o = g.D.Disk.told c.args.disk.now in
    record {
      within = c.requires.within;
      read = subst (λ (cases : List Case). IfSome o (readings.IsAt 8 cases)) (sym (ap (λ (k : Kept). k.cases) c.new-held.ensures))
          (readings.begins o c.args.len c.requires.within c.requires.long c.requires.known);
      unfailing = ap (λ (k : Kept). k.failing) c.new-held.ensures;
      told = search rules;
      cause = search rules;
    }

pub loop-end-preserved : goal.loop-end-preserved
loop-end-preserved g c =
    let told = g.D.Disk.told in
    let o = told c.args.disk.now in
    let end = c.loop-end.end in
    let payload = c.in-Some.payload.items in
    let next = readings.next_so o (told c.loop-end.disk) end c.in_ok-payload.field-0 c.in-Some.payload c.loop-end.invariant.told c.in-Some.is c.in_ok-payload.ensures.answer in
    let inside : end + 9 + length payload ≤ c.args.len = readings.inside_so end c.args.len c.in_ok-payload.field-0 c.in-Some.payload c.in-Some.is c.in_ok-payload.ensures.inside in
    let size : c.len.result ≡ length payload = search rules in
    let takes = subst (λ (p : List ℕ). Takes p c.loop-end.held.cases c.take_in.new.held.cases end (Ok c.in_ok-take_in.field-0)) c.deref.ensures.value c.in_ok-take_in.ensures.takes in
    record {
      within = omega arith;
      read = subst (λ n. IfSome o (readings.IsAt (end + (n + 9)) c.take_in.new.held.cases)) (sym size)
          (readings.goes_on o end end c.loop-end.held.cases c.take_in.new.held.cases payload c.in_ok-take_in.field-0 c.loop-end.invariant.read next takes);
      unfailing = c.in_ok-take_in.ensures.unfailing;
      told = c.in_ok-payload.ensures.told ∙ c.loop-end.invariant.told;
      cause = c.in_ok-payload.ensures.cause ∙ c.loop-end.invariant.cause;
    }

pub returns-in_err-payload-clause-replays : goal.returns-in_err-payload-clause-replays
returns-in_err-payload-clause-replays g c =
    let p = err_from_is_err_and c.from_residual.result c.from_residual.ensures.1 in
    rw (p.1, p.2) (readings.fault_replays (g.D.Disk.told c.args.disk.now) _)

pub returns-in_err-payload-clause-cause : goal.returns-in_err-payload-clause-cause
returns-in_err-payload-clause-cause g c =
    let p = err_from_is_err_and c.from_residual.result c.from_residual.ensures.1 in
    rw (p.1, p.2) (readings.fault_later (Option (Vec ℕ Global)) Replayed _ _ _ _ c.loop-end.invariant.cause c.in_err-payload.ensures.cause)

pub returns-in_default-clause-replays : goal.returns-in_default-clause-replays
returns-in_default-clause-replays g c =
    let o = g.D.Disk.told c.args.disk.now in
    let end = c.loop-end.end in
    let next = readings.none_so o (g.D.Disk.told c.loop-end.disk) end c.in_ok-payload.field-0 c.loop-end.invariant.told c.in_default.is c.in_ok-payload.ensures.answer in
    readings.ends o end c.loop-end.held.cases c.loop-end.invariant.read next

pub returns-in_err-take_in-clause-replays : goal.returns-in_err-take_in-clause-replays
returns-in_err-take_in-clause-replays g c =
    let o = g.D.Disk.told c.args.disk.now in
    let end = c.loop-end.end in
    let next = readings.next_so o (g.D.Disk.told c.loop-end.disk) end c.in_ok-payload.field-0 c.in-Some.payload c.loop-end.invariant.told c.in-Some.is c.in_ok-payload.ensures.answer in
    let p = err_from_is_err_and c.from_residual-in_err-take_in.result c.from_residual-in_err-take_in.ensures.1 in
    let fault = c.in_err-take_in.field-0.0 in
    let takes = subst (λ (p : List ℕ). Takes p c.loop-end.held.cases c.take_in.new.held.cases end (Err fault)) c.deref.ensures.value c.in_err-take_in.ensures.takes in
    rw (p.1, p.2) (readings.stops o end c.loop-end.held.cases c.take_in.new.held.cases c.in-Some.payload.items fault c.loop-end.invariant.read next takes)

pub returns-clause-replays : goal.returns-clause-replays
returns-clause-replays g c =
    readings.at_end (g.D.Disk.told c.args.disk.now) c.loop-end.end c.args.len c.loop-end.held.cases c.loop-end-test.false c.requires.long c.loop-end.invariant.read

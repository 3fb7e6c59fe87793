use Rattle.std.proofs.Common.{rules, true, None, refl, ◌≡◌, ◌<◌, sym, ◌∙◌, subst, arith}
use Rattle.std.proofs.lemmas.Result.{err_from_is_err_and}
use Rattle.std.specs.Prelude.{IfSome}
use Rattle.disks.specs.Disks.{Measures}
use Rattle.gated_log.specs.Ends.{IsEnd, LeavesFront}
use Rattle.gated_log.specs.Known.{IsKnown}
use Rattle.gated_log.proofs.Pieces.{on_err}
use Rattle.gated_log.specs.declared.log.Log.{Log}
use Rattle.journal_reading.specs.declared.opening.Opened.{Opened}
use Rattle.journal_reading.proofs.Openings as opened
use Rattle.journal_reading.proofs.Readings.{fault_answers, fault_later}
use Rattle.journal_reading.proofs.opening.read_in.Goals as goal

pub returns-in_err-known-clause-answer : goal.returns-in_err-known-clause-answer
returns-in_err-known-clause-answer g c =
    let told = g.D.Disk.told in
    let o = told c.args.disk.now in
    let a = told c.begins_as_log.new.disk in
    let p = err_from_is_err_and c.from_residual.result c.from_residual.ensures.1 in
    rw (p.1, p.2) (fault_answers Opened o _)

pub returns-in_err-known-clause-as_before : goal.returns-in_err-known-clause-as_before
returns-in_err-known-clause-as_before g c =
    let told = g.D.Disk.told in
    let o = told c.args.disk.now in
    let a = told c.begins_as_log.new.disk in
    on_err c.from_residual.result _ (opened.unchanged_told None o a (c.in_err-known.ensures.told))

pub returns-in_err-known-clause-any_moment : goal.returns-in_err-known-clause-any_moment
returns-in_err-known-clause-any_moment g c =
    let told = g.D.Disk.told in
    let o = told c.args.disk.now in
    let a = told c.begins_as_log.new.disk in
    opened.unchanged_moments None o a (c.in_err-known.ensures.told)

pub returns-in_err-known-clause-safe : goal.returns-in_err-known-clause-safe
returns-in_err-known-clause-safe g c =
    let told = g.D.Disk.told in
    let o = told c.args.disk.now in
    let a = told c.begins_as_log.new.disk in
    on_err c.from_residual.result _ (opened.unchanged_safe None o a (c.in_err-known.ensures.told))

pub returns-then-not-known-clause-answer : goal.returns-then-not-known-clause-answer
returns-then-not-known-clause-answer g c =
    let told = g.D.Disk.told in
    let o = told c.args.disk.now in
    let a = told c.begins_as_log.new.disk in
    opened.foreign_so o c.args.len c.in_ok-known.known (search rules) c.requires.long c.requires.settled c.in_ok-known.ensures.answer

pub returns-then-not-known-clause-as_before : goal.returns-then-not-known-clause-as_before
returns-then-not-known-clause-as_before g c =
    let told = g.D.Disk.told in
    let o = told c.args.disk.now in
    let a = told c.begins_as_log.new.disk in
    opened.unchanged_told None o a (c.in_ok-known.ensures.told)

pub returns-then-not-known-clause-any_moment : goal.returns-then-not-known-clause-any_moment
returns-then-not-known-clause-any_moment g c =
    let told = g.D.Disk.told in
    let o = told c.args.disk.now in
    let a = told c.begins_as_log.new.disk in
    opened.unchanged_moments None o a (c.in_ok-known.ensures.told)

pub returns-then-not-known-clause-safe : goal.returns-then-not-known-clause-safe
returns-then-not-known-clause-safe g c =
    let told = g.D.Disk.told in
    let o = told c.args.disk.now in
    let a = told c.begins_as_log.new.disk in
    opened.unchanged_safe None o a (c.in_ok-known.ensures.told)

pub returns-in_err-replayed-clause-answer : goal.returns-in_err-replayed-clause-answer
returns-in_err-replayed-clause-answer g c =
    let told = g.D.Disk.told in
    let o = told c.args.disk.now in
    let a = told c.replay.new.disk in
    let p = err_from_is_err_and c.from_residual-in_err-replayed.result c.from_residual-in_err-replayed.ensures.1 in
    rw (p.1, p.2) (opened.replays_answers Opened o (told c.begins_as_log.new.disk) c.args.len _ c.in_ok-known.ensures.told c.requires.long c.requires.settled c.in_err-replayed.ensures.replays)

pub returns-in_err-replayed-clause-as_before : goal.returns-in_err-replayed-clause-as_before
returns-in_err-replayed-clause-as_before g c =
    let told = g.D.Disk.told in
    let o = told c.args.disk.now in
    let a = told c.replay.new.disk in
    on_err c.from_residual-in_err-replayed.result _ (opened.unchanged_told None o a (c.in_err-replayed.ensures.told ∙ c.in_ok-known.ensures.told))

pub returns-in_err-replayed-clause-any_moment : goal.returns-in_err-replayed-clause-any_moment
returns-in_err-replayed-clause-any_moment g c =
    let told = g.D.Disk.told in
    let o = told c.args.disk.now in
    let a = told c.replay.new.disk in
    opened.unchanged_moments None o a (c.in_err-replayed.ensures.told ∙ c.in_ok-known.ensures.told)

pub returns-in_err-replayed-clause-safe : goal.returns-in_err-replayed-clause-safe
returns-in_err-replayed-clause-safe g c =
    let told = g.D.Disk.told in
    let o = told c.args.disk.now in
    let a = told c.replay.new.disk in
    on_err c.from_residual-in_err-replayed.result _ (opened.unchanged_safe None o a (c.in_err-replayed.ensures.told ∙ c.in_ok-known.ensures.told))

pub returns-then-replayed-clause-answer : goal.returns-then-replayed-clause-answer
returns-then-replayed-clause-answer g c =
    let told = g.D.Disk.told in
    let o = told c.args.disk.now in
    let a = told c.replay.new.disk in
    opened.want_answers Opened o

pub returns-then-replayed-clause-as_before : goal.returns-then-replayed-clause-as_before
returns-then-replayed-clause-as_before g c =
    let told = g.D.Disk.told in
    let o = told c.args.disk.now in
    let a = told c.replay.new.disk in
    opened.unchanged_told None o a (c.in_ok-replayed.ensures.told ∙ c.in_ok-known.ensures.told)

pub returns-then-replayed-clause-any_moment : goal.returns-then-replayed-clause-any_moment
returns-then-replayed-clause-any_moment g c =
    let told = g.D.Disk.told in
    let o = told c.args.disk.now in
    let a = told c.replay.new.disk in
    opened.unchanged_moments None o a (c.in_ok-replayed.ensures.told ∙ c.in_ok-known.ensures.told)

pub returns-then-replayed-clause-safe : goal.returns-then-replayed-clause-safe
returns-then-replayed-clause-safe g c =
    let told = g.D.Disk.told in
    let o = told c.args.disk.now in
    let a = told c.replay.new.disk in
    opened.unchanged_safe None o a (c.in_ok-replayed.ensures.told ∙ c.in_ok-known.ensures.told)

pub replay-requires-clause-long : goal.replay-requires-clause-long
replay-requires-clause-long g c =
    let told = g.D.Disk.told in
    subst (λ z. IfSome z (Measures c.args.len)) (sym c.in_ok-known.ensures.told)
    (opened.settled_long (told c.args.disk.now) c.args.len c.requires.settled)

pub replay-requires-clause-known : goal.replay-requires-clause-known
replay-requires-clause-known g c =
    let told = g.D.Disk.told in
    subst (λ z. IfSome z (λ t. IsKnown true t.now.bytes)) (sym c.in_ok-known.ensures.told)
    (opened.known_so (told c.args.disk.now) c.in_ok-known.known (search rules) c.in_ok-known.ensures.answer)

pub closed_log-requires-clause-ends : goal.closed_log-requires-clause-ends
closed_log-requires-clause-ends g c =
    let told = g.D.Disk.told in
    let o = told c.args.disk.now in
    let end = c.in_ok-replayed.replayed.end in
    let cases = c.in_ok-replayed.replayed.held.cases in
    let read = subst (λ z. IfSome z (opened.IsRead end cases)) c.in_ok-known.ensures.told c.in_ok-replayed.ensures.replays in
    subst (λ z. IfSome z (IsEnd end)) (sym (c.in_ok-replayed.ensures.told ∙ c.in_ok-known.ensures.told))
    (opened.end_so o end c.args.len cases c.requires.settled read)

pub returns-in_err-log-clause-answer : goal.returns-in_err-log-clause-answer
returns-in_err-log-clause-answer g c =
    let told = g.D.Disk.told in
    let o = told c.args.disk.now in
    let r = told c.replay.new.disk in
    let a = told c.closed_log.new.disk in
    let end = c.in_ok-replayed.replayed.end in
    let cases = c.in_ok-replayed.replayed.held.cases in
    let same : r ≡ o = c.in_ok-replayed.ensures.told ∙ c.in_ok-known.ensures.told in
    let read = subst (λ z. IfSome z (opened.IsRead end cases)) c.in_ok-known.ensures.told c.in_ok-replayed.ensures.replays in
    let p = err_from_is_err_and c.from_residual-in_err-log.result c.from_residual-in_err-log.ensures.1 in
    rw (p.1, p.2) (fault_answers Opened o _)

pub returns-in_err-log-clause-as_before : goal.returns-in_err-log-clause-as_before
returns-in_err-log-clause-as_before g c =
    let told = g.D.Disk.told in
    let o = told c.args.disk.now in
    let r = told c.replay.new.disk in
    let a = told c.closed_log.new.disk in
    let end = c.in_ok-replayed.replayed.end in
    let cases = c.in_ok-replayed.replayed.held.cases in
    let same : r ≡ o = c.in_ok-replayed.ensures.told ∙ c.in_ok-known.ensures.told in
    let read = subst (λ z. IfSome z (opened.IsRead end cases)) c.in_ok-known.ensures.told c.in_ok-replayed.ensures.replays in
    let run = subst (λ z. LeavesFront end z a) same c.in_err-log.ensures.any_moment in
    on_err c.from_residual-in_err-log.result _ (opened.closed_as_before end cases o a read run)

pub returns-in_err-log-clause-any_moment : goal.returns-in_err-log-clause-any_moment
returns-in_err-log-clause-any_moment g c =
    let told = g.D.Disk.told in
    let o = told c.args.disk.now in
    let r = told c.replay.new.disk in
    let a = told c.closed_log.new.disk in
    let end = c.in_ok-replayed.replayed.end in
    let cases = c.in_ok-replayed.replayed.held.cases in
    let same : r ≡ o = c.in_ok-replayed.ensures.told ∙ c.in_ok-known.ensures.told in
    let read = subst (λ z. IfSome z (opened.IsRead end cases)) c.in_ok-known.ensures.told c.in_ok-replayed.ensures.replays in
    let run = subst (λ z. LeavesFront end z a) same c.in_err-log.ensures.any_moment in
    opened.closed_moments end cases o a read run

pub returns-in_err-log-clause-safe : goal.returns-in_err-log-clause-safe
returns-in_err-log-clause-safe g c =
    let told = g.D.Disk.told in
    let o = told c.args.disk.now in
    let r = told c.replay.new.disk in
    let a = told c.closed_log.new.disk in
    let end = c.in_ok-replayed.replayed.end in
    let cases = c.in_ok-replayed.replayed.held.cases in
    let same : r ≡ o = c.in_ok-replayed.ensures.told ∙ c.in_ok-known.ensures.told in
    let read = subst (λ z. IfSome z (opened.IsRead end cases)) c.in_ok-known.ensures.told c.in_ok-replayed.ensures.replays in
    let run = subst (λ z. LeavesFront end z a) same c.in_err-log.ensures.any_moment in
    on_err c.from_residual-in_err-log.result _ (opened.closed_safe end cases o a read run)

pub returns-in_err-log-clause-cause : goal.returns-in_err-log-clause-cause
returns-in_err-log-clause-cause g c =
    let p = err_from_is_err_and c.from_residual-in_err-log.result c.from_residual-in_err-log.ensures.1 in
    let first = c.in_ok-replayed.ensures.cause ∙ c.in_ok-known.ensures.cause in
    rw (p.1, p.2) (fault_later Log Opened _ _ _ _ first c.in_err-log.ensures.cause)

pub returns-clause-answer : goal.returns-clause-answer
returns-clause-answer g c =
    let told = g.D.Disk.told in
    let o = told c.args.disk.now in
    let r = told c.replay.new.disk in
    let a = told c.closed_log.new.disk in
    let end = c.in_ok-replayed.replayed.end in
    let cases = c.in_ok-replayed.replayed.held.cases in
    let same : r ≡ o = c.in_ok-replayed.ensures.told ∙ c.in_ok-known.ensures.told in
    let read = subst (λ z. IfSome z (opened.IsRead end cases)) c.in_ok-known.ensures.told c.in_ok-replayed.ensures.replays in
    opened.closed_answer end cases o read

pub returns-clause-kept : goal.returns-clause-kept
returns-clause-kept g c =
    let told = g.D.Disk.told in
    let o = told c.args.disk.now in
    let r = told c.replay.new.disk in
    let a = told c.closed_log.new.disk in
    let end = c.in_ok-replayed.replayed.end in
    let cases = c.in_ok-replayed.replayed.held.cases in
    let same : r ≡ o = c.in_ok-replayed.ensures.told ∙ c.in_ok-known.ensures.told in
    let read = subst (λ z. IfSome z (opened.IsRead end cases)) c.in_ok-known.ensures.told c.in_ok-replayed.ensures.replays in
    let run = subst (λ z. LeavesFront end z a) same c.in_ok-log.ensures.any_moment in
    let room : end < 18446744073709551615 = omega (arith, c.if-replayed.false) in
    opened.closed_open end cases o a _ _ c.in_ok-log.ensures.log refl c.in_ok-replayed.ensures.unfailing room read run c.in_ok-log.ensures.closes

pub returns-clause-same : goal.returns-clause-same
returns-clause-same g c =
    let told = g.D.Disk.told in
    let o = told c.args.disk.now in
    let r = told c.replay.new.disk in
    let a = told c.closed_log.new.disk in
    let end = c.in_ok-replayed.replayed.end in
    let cases = c.in_ok-replayed.replayed.held.cases in
    let same : r ≡ o = c.in_ok-replayed.ensures.told ∙ c.in_ok-known.ensures.told in
    let read = subst (λ z. IfSome z (opened.IsRead end cases)) c.in_ok-known.ensures.told c.in_ok-replayed.ensures.replays in
    let run = subst (λ z. LeavesFront end z a) same c.in_ok-log.ensures.any_moment in
    opened.closed_same end cases o a c.in_ok-log.log c.in_ok-replayed.replayed.held refl read run

pub returns-clause-any_moment : goal.returns-clause-any_moment
returns-clause-any_moment g c =
    let told = g.D.Disk.told in
    let o = told c.args.disk.now in
    let r = told c.replay.new.disk in
    let a = told c.closed_log.new.disk in
    let end = c.in_ok-replayed.replayed.end in
    let cases = c.in_ok-replayed.replayed.held.cases in
    let same : r ≡ o = c.in_ok-replayed.ensures.told ∙ c.in_ok-known.ensures.told in
    let read = subst (λ z. IfSome z (opened.IsRead end cases)) c.in_ok-known.ensures.told c.in_ok-replayed.ensures.replays in
    let run = subst (λ z. LeavesFront end z a) same c.in_ok-log.ensures.any_moment in
    opened.closed_moments end cases o a read run

pub returns-in_err-known-clause-alone : goal.returns-in_err-known-clause-alone
returns-in_err-known-clause-alone g c =
    let told = g.D.Disk.told in
    opened.unchanged_alone (told c.args.disk.now) (told c.begins_as_log.new.disk) (c.in_err-known.ensures.told)

pub returns-then-not-known-clause-alone : goal.returns-then-not-known-clause-alone
returns-then-not-known-clause-alone g c =
    let told = g.D.Disk.told in
    opened.unchanged_alone (told c.args.disk.now) (told c.begins_as_log.new.disk) (c.in_ok-known.ensures.told)

pub returns-in_err-replayed-clause-alone : goal.returns-in_err-replayed-clause-alone
returns-in_err-replayed-clause-alone g c =
    let told = g.D.Disk.told in
    opened.unchanged_alone (told c.args.disk.now) (told c.replay.new.disk) (c.in_err-replayed.ensures.told ∙ c.in_ok-known.ensures.told)

pub returns-then-replayed-clause-alone : goal.returns-then-replayed-clause-alone
returns-then-replayed-clause-alone g c =
    let told = g.D.Disk.told in
    opened.unchanged_alone (told c.args.disk.now) (told c.replay.new.disk) (c.in_ok-replayed.ensures.told ∙ c.in_ok-known.ensures.told)

pub returns-in_err-log-clause-alone : goal.returns-in_err-log-clause-alone
returns-in_err-log-clause-alone g c =
    let told = g.D.Disk.told in
    let o = told c.args.disk.now in
    let end = c.in_ok-replayed.replayed.end in
    let cases = c.in_ok-replayed.replayed.held.cases in
    let read = subst (λ z. IfSome z (opened.IsRead end cases)) c.in_ok-known.ensures.told c.in_ok-replayed.ensures.replays in
    opened.held_alone o (told c.closed_log.new.disk) (opened.closed_answer end cases o read)

pub returns-clause-alone : goal.returns-clause-alone
returns-clause-alone g c =
    let told = g.D.Disk.told in
    let o = told c.args.disk.now in
    let end = c.in_ok-replayed.replayed.end in
    let cases = c.in_ok-replayed.replayed.held.cases in
    let read = subst (λ z. IfSome z (opened.IsRead end cases)) c.in_ok-known.ensures.told c.in_ok-replayed.ensures.replays in
    opened.held_alone o (told c.closed_log.new.disk) (opened.closed_answer end cases o read)

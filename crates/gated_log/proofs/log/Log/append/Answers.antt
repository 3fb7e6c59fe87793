use Rattle.std.proofs.Common.{rules, ◌≡◌, ◌<◌, ◌+◌, length, refl, arith}
use Rattle.gated_log.specs.declared.log.Gate.TheVariants.{Closed}
use Rattle.gated_log.specs.Ends.{IsClosed, IsBehind}
use Rattle.gated_log.specs.Format.{behind_gate, record_bytes}
use Rattle.gated_log.proofs.Appending as appending
use Rattle.gated_log.proofs.Lasting.{none_last, behind_last, touched_last}
use Rattle.gated_log.proofs.Pieces.{on_err}
use Rattle.gated_log.proofs.log.Log.append.Goals as goal

pub returns-in_err-bytes-clause-any_moment : goal.returns-in_err-bytes-clause-any_moment
returns-in_err-bytes-clause-any_moment g c =
    let told = g.D.Disk.told in
    let end = c.args.self.now.end in
    let payload = c.args.payload.now in
    let o = told c.args.disk.now in
    let run = appending.begun end payload c.args.self.now o refl c.requires.closed c.requires.stands in
    appending.any_moment end payload o o (appending.At end payload IsClosed) run

pub write_to_stay-requires : goal.write_to_stay-requires
write_to_stay-requires g c =
    let told = g.D.Disk.told in
    let end = c.args.self.now.end in
    let payload = c.args.payload.now in
    let o = told c.args.disk.now in
    let run = appending.begun end payload c.args.self.now o refl c.requires.closed c.requires.stands in
    let bytes : c.deref.result.now ≡ behind_gate payload = search rules in
    appending.reach_behind end payload o o o c.deref.result.now bytes run

pub returns-in_err-write_to_stay-clause-stands : goal.returns-in_err-write_to_stay-clause-stands
returns-in_err-write_to_stay-clause-stands g c =
    let told = g.D.Disk.told in
    let end = c.args.self.now.end in
    let payload = c.args.payload.now in
    let o = told c.args.disk.now in
    let run = appending.begun end payload c.args.self.now o refl c.requires.closed c.requires.stands in
    let bytes : c.deref.result.now ≡ behind_gate payload = search rules in
    let a = told c.write_to_stay.new.disk in
    appending.behind_stands end payload o a (appending.not_staged end payload o a a c.deref.result.now bytes run _ c.in_err-write_to_stay.ensures.told)

pub returns-in_err-write_to_stay-clause-kept : goal.returns-in_err-write_to_stay-clause-kept
returns-in_err-write_to_stay-clause-kept g c =
    let told = g.D.Disk.told in
    let end = c.args.self.now.end in
    let payload = c.args.payload.now in
    let o = told c.args.disk.now in
    let run = appending.begun end payload c.args.self.now o refl c.requires.closed c.requires.stands in
    let bytes : c.deref.result.now ≡ behind_gate payload = search rules in
    let a = told c.write_to_stay.new.disk in
    on_err c.from_residual-in_err-write_to_stay.result _ (appending.behind_kept end payload o a (appending.not_staged end payload o a a c.deref.result.now bytes run _ c.in_err-write_to_stay.ensures.told))

pub returns-in_err-write_to_stay-clause-any_moment : goal.returns-in_err-write_to_stay-clause-any_moment
returns-in_err-write_to_stay-clause-any_moment g c =
    let told = g.D.Disk.told in
    let end = c.args.self.now.end in
    let payload = c.args.payload.now in
    let o = told c.args.disk.now in
    let run = appending.begun end payload c.args.self.now o refl c.requires.closed c.requires.stands in
    let bytes : c.deref.result.now ≡ behind_gate payload = search rules in
    let a = told c.write_to_stay.new.disk in
    appending.any_moment end payload o a (appending.At end payload IsBehind) (appending.not_staged end payload o a a c.deref.result.now bytes run _ c.in_err-write_to_stay.ensures.told)

pub write_to_stay-requires-2 : goal.write_to_stay-requires-2
write_to_stay-requires-2 g c =
    let told = g.D.Disk.told in
    let end = c.args.self.now.end in
    let payload = c.args.payload.now in
    let o = told c.args.disk.now in
    let run = appending.begun end payload c.args.self.now o refl c.requires.closed c.requires.stands in
    let bytes : c.deref.result.now ≡ behind_gate payload = search rules in
    let a = told c.write_to_stay.new.disk in
    let small : length payload < 18446744073709551616 = c.in_ok-bytes.ensures.small in
    appending.reach_gate end payload o a a c.deref.result.now bytes run c.in_ok-write_to_stay.field-0 c.in_ok-write_to_stay.ensures.told small

pub returns-in_err-write_to_stay-2-clause-stands : goal.returns-in_err-write_to_stay-2-clause-stands
returns-in_err-write_to_stay-2-clause-stands g c =
    let told = g.D.Disk.told in
    let end = c.args.self.now.end in
    let payload = c.args.payload.now in
    let o = told c.args.disk.now in
    let run = appending.begun end payload c.args.self.now o refl c.requires.closed c.requires.stands in
    let bytes : c.deref.result.now ≡ behind_gate payload = search rules in
    let a = told c.write_to_stay.new.disk in
    let small : length payload < 18446744073709551616 = c.in_ok-bytes.ensures.small in
    let b = told c.write_to_stay-2.new.disk in
    appending.touched_stands end payload o b (appending.not_opened end payload o a b c.deref.result.now bytes run c.in_ok-write_to_stay.field-0 c.in_ok-write_to_stay.ensures.told small _ c.in_err-write_to_stay-2.ensures.told)

pub returns-in_err-write_to_stay-2-clause-kept : goal.returns-in_err-write_to_stay-2-clause-kept
returns-in_err-write_to_stay-2-clause-kept g c =
    let told = g.D.Disk.told in
    let end = c.args.self.now.end in
    let payload = c.args.payload.now in
    let o = told c.args.disk.now in
    let run = appending.begun end payload c.args.self.now o refl c.requires.closed c.requires.stands in
    let bytes : c.deref.result.now ≡ behind_gate payload = search rules in
    let a = told c.write_to_stay.new.disk in
    let small : length payload < 18446744073709551616 = c.in_ok-bytes.ensures.small in
    let b = told c.write_to_stay-2.new.disk in
    on_err c.from_residual-in_err-write_to_stay-2.result _ (appending.touched_kept end payload o b (appending.not_opened end payload o a b c.deref.result.now bytes run c.in_ok-write_to_stay.field-0 c.in_ok-write_to_stay.ensures.told small _ c.in_err-write_to_stay-2.ensures.told))

pub returns-in_err-write_to_stay-2-clause-any_moment : goal.returns-in_err-write_to_stay-2-clause-any_moment
returns-in_err-write_to_stay-2-clause-any_moment g c =
    let told = g.D.Disk.told in
    let end = c.args.self.now.end in
    let payload = c.args.payload.now in
    let o = told c.args.disk.now in
    let run = appending.begun end payload c.args.self.now o refl c.requires.closed c.requires.stands in
    let bytes : c.deref.result.now ≡ behind_gate payload = search rules in
    let a = told c.write_to_stay.new.disk in
    let small : length payload < 18446744073709551616 = c.in_ok-bytes.ensures.small in
    let b = told c.write_to_stay-2.new.disk in
    appending.any_moment end payload o b (appending.At end payload (appending.IsTouchedBy end payload)) (appending.not_opened end payload o a b c.deref.result.now bytes run c.in_ok-write_to_stay.field-0 c.in_ok-write_to_stay.ensures.told small _ c.in_err-write_to_stay-2.ensures.told)

pub returns-clause-stands : goal.returns-clause-stands
returns-clause-stands g c =
    let told = g.D.Disk.told in
    let end = c.args.self.now.end in
    let payload = c.args.payload.now in
    let o = told c.args.disk.now in
    let run = appending.begun end payload c.args.self.now o refl c.requires.closed c.requires.stands in
    let bytes : c.deref.result.now ≡ behind_gate payload = search rules in
    let a = told c.write_to_stay.new.disk in
    let small : length payload < 18446744073709551616 = c.in_ok-bytes.ensures.small in
    let b = told c.write_to_stay-2.new.disk in
    let next = end + (length payload + 9) in
    let longer : next ≡ end + length (record_bytes payload) = omega arith in
    appending.added_stands end payload o b next longer (appending.is_opened end payload o a b c.deref.result.now bytes run c.in_ok-write_to_stay.field-0 c.in_ok-write_to_stay.ensures.told small c.in_ok-write_to_stay-2.field-0 c.in_ok-write_to_stay-2.ensures.told)

pub returns-clause-added : goal.returns-clause-added
returns-clause-added g c =
    let told = g.D.Disk.told in
    let end = c.args.self.now.end in
    let payload = c.args.payload.now in
    let o = told c.args.disk.now in
    let run = appending.begun end payload c.args.self.now o refl c.requires.closed c.requires.stands in
    let bytes : c.deref.result.now ≡ behind_gate payload = search rules in
    let a = told c.write_to_stay.new.disk in
    let small : length payload < 18446744073709551616 = c.in_ok-bytes.ensures.small in
    let b = told c.write_to_stay-2.new.disk in
    let next = end + (length payload + 9) in
    let longer : next ≡ end + length (record_bytes payload) = omega arith in
    appending.added_front end payload o b next longer (appending.is_opened end payload o a b c.deref.result.now bytes run c.in_ok-write_to_stay.field-0 c.in_ok-write_to_stay.ensures.told small c.in_ok-write_to_stay-2.field-0 c.in_ok-write_to_stay-2.ensures.told)

pub returns-clause-any_moment : goal.returns-clause-any_moment
returns-clause-any_moment g c =
    let told = g.D.Disk.told in
    let end = c.args.self.now.end in
    let payload = c.args.payload.now in
    let o = told c.args.disk.now in
    let run = appending.begun end payload c.args.self.now o refl c.requires.closed c.requires.stands in
    let bytes : c.deref.result.now ≡ behind_gate payload = search rules in
    let a = told c.write_to_stay.new.disk in
    let small : length payload < 18446744073709551616 = c.in_ok-bytes.ensures.small in
    let b = told c.write_to_stay-2.new.disk in
    appending.any_moment end payload o b (appending.At end payload (appending.IsAdded end payload)) (appending.is_opened end payload o a b c.deref.result.now bytes run c.in_ok-write_to_stay.field-0 c.in_ok-write_to_stay.ensures.told small c.in_ok-write_to_stay-2.field-0 c.in_ok-write_to_stay-2.ensures.told)

pub returns-then-self-count-clause-any_moment : goal.returns-then-self-count-clause-any_moment
returns-then-self-count-clause-any_moment g c =
    let told = g.D.Disk.told in
    let end = c.args.self.now.end in
    let payload = c.args.payload.now in
    let o = told c.args.disk.now in
    appending.any_moment end payload o o (appending.At end payload IsClosed) (appending.begun end payload c.args.self.now o refl c.requires.closed c.requires.stands)

pub returns-in_err-bytes-clause-last : goal.returns-in_err-bytes-clause-last
returns-in_err-bytes-clause-last g c = none_last c.args.payload.now c.args.self.now (g.D.Disk.told c.args.disk.now) c.requires.closed

pub returns-then-self-count-clause-last : goal.returns-then-self-count-clause-last
returns-then-self-count-clause-last g c = none_last c.args.payload.now c.args.self.now (g.D.Disk.told c.args.disk.now) c.requires.closed

pub returns-in_err-write_to_stay-clause-last : goal.returns-in_err-write_to_stay-clause-last
returns-in_err-write_to_stay-clause-last g c =
    behind_last c.args.payload.now c.args.self.now.end (g.D.Disk.told c.write_to_stay.new.disk)

pub returns-in_err-write_to_stay-2-clause-last : goal.returns-in_err-write_to_stay-2-clause-last
returns-in_err-write_to_stay-2-clause-last g c =
    let told = g.D.Disk.told in
    let end = c.args.self.now.end in
    let payload = c.args.payload.now in
    let o = told c.args.disk.now in
    let run = appending.begun end payload c.args.self.now o refl c.requires.closed c.requires.stands in
    let bytes : c.deref.result.now ≡ behind_gate payload = search rules in
    let a = told c.write_to_stay.new.disk in
    let small : length payload < 18446744073709551616 = c.in_ok-bytes.ensures.small in
    let b = told c.write_to_stay-2.new.disk in
    touched_last end payload o b (appending.not_opened end payload o a b c.deref.result.now bytes run c.in_ok-write_to_stay.field-0 c.in_ok-write_to_stay.ensures.told small _ c.in_err-write_to_stay-2.ensures.told)

pub returns-clause-last : goal.returns-clause-last
returns-clause-last g c =
    let payload = c.args.payload.now in
    none_last payload (record { end = c.args.self.now.end + (length payload + 9); gate = Closed }) (g.D.Disk.told c.write_to_stay-2.new.disk) refl

use Rattle.std.proofs.Common.{rules, ◌≡◌, Err, sym, subst}
use Rattle.gated_log.specs.Calls.{WriteStays}
use Rattle.gated_log.proofs.Going.{write_failed, write_synced}
use Rattle.gated_log.proofs.staying.write_to_stay.Goals as goal

pub returns-in_err-write_at-clause-told : goal.returns-in_err-write_at-clause-told
returns-in_err-write_at-clause-told g c =
    let told = g.D.Disk.told in
    let is : c.from_residual.result ≡ Err c.in_err-write_at.field-0.0 = search rules in
    subst (WriteStays (told c.args.disk.now) (told c.write_at.new.self) c.args.at c.args.bytes.now) (sym is)
    (write_failed (told c.args.disk.now) (told c.write_at.new.self) c.args.at c.args.bytes.now c.in_err-write_at.field-0.0 c.in_err-write_at.ensures.told)

pub returns-clause-told : goal.returns-clause-told
returns-clause-told g c =
    let told = g.D.Disk.told in
    write_synced (told c.args.disk.now) (told c.write_at.new.self) (told c.sync.new.self) c.args.at c.args.bytes.now c.in_ok-write_at.field-0
    c.sync.result c.requires c.in_ok-write_at.ensures.told c.sync.ensures.told

use Rattle.std.proofs.Common.{rules, ◌≡◌, Err, sym, subst}
use Rattle.gated_log.specs.Calls.{CutStays}
use Rattle.gated_log.proofs.Going.{cut_failed, cut_synced}
use Rattle.gated_log.proofs.staying.cut_to_stay.Goals as goal

pub returns-in_err-cut-clause-told : goal.returns-in_err-cut-clause-told
returns-in_err-cut-clause-told g c =
    let told = g.D.Disk.told in
    let is : c.from_residual.result ≡ Err c.in_err-cut.field-0.0 = search rules in
    subst (CutStays (told c.args.disk.now) (told c.cut.new.self) c.args.len) (sym is)
    (cut_failed (told c.args.disk.now) (told c.cut.new.self) c.args.len c.in_err-cut.field-0.0 c.in_err-cut.ensures.told)

pub returns-clause-told : goal.returns-clause-told
returns-clause-told g c =
    let told = g.D.Disk.told in
    cut_synced (told c.args.disk.now) (told c.cut.new.self) (told c.sync.new.self) c.args.len c.in_ok-cut.field-0
    c.sync.result c.requires c.in_ok-cut.ensures.told c.sync.ensures.told

use Rattle.app_flow.specs.declared.flow_rows.FlowTable.{FlowTable}
use Rattle.std.proofs.Common.{sym, subst}
use Rattle.cert_rows.specs.declared.sets.Set.{Set}
use Rattle.cert_rows.specs.Fitting.{IsKnown}
use Rattle.std.specs.List.{All}
use Rattle.vetting_desk.proofs.Writing.{few_rows, known_rows}
use Rattle.vetting_desk.proofs.certificates.certificate_of.Goals as goal

pub write_cert-requires : goal.write_cert-requires
write_cert-requires c =
    let table : FlowTable = record { analysis = c.args.analysis; rows = c.args.rows.now } in
    let Known : Set → Type 0 = λ set. All (IsKnown set) c.args.rows.now in
    record { few = few_rows table c.requires.table; known = subst Known (sym c.set_of.ensures) (known_rows table c.requires.table); ascend = c.requires.table.ascending }

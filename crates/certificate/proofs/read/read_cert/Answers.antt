use Rattle.std.proofs.Common.{◌≡◌, Err, arith}
use Rattle.vet_base.specs.Script.{run}
use Rattle.vet_base.proofs.Scripts.{is_first}
use Rattle.vet_base.proofs.Results.{ok_or_err}
use Rattle.certificate.specs.Reading.{cert_from}
use Rattle.certificate.proofs.CertAgain.{cert_again}
use Rattle.certificate.proofs.CertFound.{cert_found, bytes_are}
use Rattle.certificate.proofs.Known.{rows_known}
use Rattle.certificate.proofs.read.read_cert.Goals as goal

pub returns-in-Ok-clause-found : goal.returns-in-Ok-clause-found
returns-in-Ok-clause-found c =
    cert_found c.rows_are_found.ensures c.args.bytes.now c.in-Ok.cert (bytes_are c.args.bytes.now (λ i. omega (arith, c.type_inv.bytes i))) c.in-Ok.ensures

pub returns-in-Ok-clause-known : goal.returns-in-Ok-clause-known
returns-in-Ok-clause-known c =
    rows_known c.in-Ok.cert.set c.in-Ok.cert.rows
    (cert_found c.rows_are_found.ensures c.args.bytes.now c.in-Ok.cert (bytes_are c.args.bytes.now (λ i. omega (arith, c.type_inv.bytes i))) c.in-Ok.ensures).fit

pub returns-in-Err-Fault-clause-fault : goal.returns-in-Err-Fault-clause-fault
returns-in-Err-Fault-clause-fault c =
    let failed : run (cert_from c.args.bytes.now) ≡ Err c.in-Err-Fault.fault = (rw c.in-Err-Fault.field-0-is at c.in-Err-Fault.ensures) in
    is_first (cert_from c.args.bytes.now) c.in-Err-Fault.fault failed

pub returns-in-Err-Fault-clause-only : goal.returns-in-Err-Fault-clause-only
returns-in-Err-Fault-clause-only c set digest rows is =
    let failed : run (cert_from c.args.bytes.now) ≡ Err c.in-Err-Fault.fault = (rw c.in-Err-Fault.field-0-is at c.in-Err-Fault.ensures) in
    absurd (ok_or_err _ _ _ (cert_again c.rows_are_read_again.ensures c.args.bytes.now set digest rows is) failed)

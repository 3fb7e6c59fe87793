use Rattle.certificate.proofs.CertLaws.{cert_laws}
use Rattle.certificate.proofs.law.certificates_keep_their_laws.Goals as goal

pub returns : goal.returns
returns c = cert_laws c.rows_are_read_again.ensures c.rows_are_found.ensures

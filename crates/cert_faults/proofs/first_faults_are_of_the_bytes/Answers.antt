use Rattle.cert_faults.proofs.Certs.{faults_are_of_the_bytes}
use Rattle.cert_faults.proofs.first_faults_are_of_the_bytes.Goals as goal

pub returns : goal.returns
returns c = faults_are_of_the_bytes c.rows_are_read_again.ensures c.rows_are_found.ensures

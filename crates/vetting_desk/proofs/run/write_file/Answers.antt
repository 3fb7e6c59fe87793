use Rattle.vetting_desk.proofs.Writes.{not_written}
use Rattle.vetting_desk.proofs.run.write_file.Goals as goal

pub returns-in-Err-clause-writes : goal.returns-in-Err-clause-writes
returns-in-Err-clause-writes g c = rw c.status_of_write.ensures (not_written _ _ _ _ _ _ c.in-Err.fault c.in-Err.ensures.told c.in-Err.ensures.cause)

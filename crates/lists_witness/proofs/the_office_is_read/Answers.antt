use Rattle.lists_witness.proofs.Reading.{office_is_read}
use Rattle.lists_witness.proofs.ReadingClient.{client_is_read}
use Rattle.lists_witness.proofs.the_office_is_read.Goals as goal

pub returns : goal.returns
returns c = (office_is_read, client_is_read)

use Rattle.run_witness.proofs.Posting.{one_posting}
use Rattle.run_witness.proofs.a_folder_gives_one_posting.Goals as goal

pub returns : goal.returns
returns c = one_posting c.one_client_or_fault.ensures c.one_form_or_fault.ensures

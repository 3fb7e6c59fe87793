use Rattle.machine_witness.proofs.Resulting.{each_result_comes}
use Rattle.machine_witness.proofs.each_result_of_the_library_comes.Goals as goal

pub returns : goal.returns
returns c = each_result_comes

use Rattle.dex_writer.proofs.Alignment.{tries_stand}
use Rattle.dex_writer.proofs.law.tries_are_aligned.Goals as goal

pub returns : goal.returns
returns c = tries_stand

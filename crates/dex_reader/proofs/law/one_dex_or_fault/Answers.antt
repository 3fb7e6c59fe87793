use Rattle.dex_reader.proofs.FileReadings.{exactly_one}
use Rattle.dex_reader.proofs.law.one_dex_or_fault.Goals as goal

pub returns : goal.returns
returns c = exactly_one

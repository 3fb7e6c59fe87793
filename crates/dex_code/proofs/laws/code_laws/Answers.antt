use Rattle.dex_code.proofs.SoundLines.{laws}
use Rattle.dex_code.proofs.laws.code_laws.Goals as goal

pub returns : goal.returns
returns c = laws

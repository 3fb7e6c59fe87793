use Rattle.played_witness.proofs.Playing.{played}
use Rattle.played_witness.proofs.scripts_play_the_small_apps.Goals as goal

pub returns : goal.returns
returns c = played

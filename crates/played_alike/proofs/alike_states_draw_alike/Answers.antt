use Rattle.played_alike.proofs.Standing.{drawn_alike}
use Rattle.played_alike.proofs.alike_states_draw_alike.Goals as goal

pub returns : goal.returns
returns c = drawn_alike

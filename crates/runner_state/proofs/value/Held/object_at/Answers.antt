use Rattle.std.proofs.Common.{ℕ, List, ap}
use Rattle.runner_state.proofs.value.Held.object_at.Goals as goal

pub returns : goal.returns
returns c = ap (λ (ls : List ℕ). record { place = c.args.place; labels = ls }) c.none.ensures

-- The parts of some rows, and the contexts that calls make.
use Rattle.std.proofs.Common.{◌≡◌, ℕ, refl}
use Rattle.fact_rows.specs.declared.context.Ctx.{Ctx}
use Rattle.fact_rows.specs.declared.context.Ctx.TheVariants as ctx
use Rattle.fact_rows.specs.Contexts.{IsEvent}
use Rattle.flow_rules.specs.Nodes.{pushed}
use Rattle.rule_witness.specs.RowFacts.{RowsTell, NodesTell}

pub rows_tell : RowsTell
rows_tell n r s t k g = record { register = refl; held = refl; of_static = refl; first = refl; by_register = refl }

from_event : (c : Ctx) (method pc : ℕ) → IsEvent c → pushed c method pc ≡ ctx.Call method pc
unfolding pushed
from_event (ctx.Row a b) method pc h = refl
from_event (ctx.Callback a b) method pc h = refl
from_event (ctx.Click a b) method pc h = refl
from_event (ctx.Handed a) method pc h = refl
from_event (ctx.Init a) method pc h = refl
from_event (ctx.Call a b) method pc h = absurd h
from_event (ctx.Call2 a b x y) method pc h = absurd h

pub nodes_tell : NodesTell
unfolding pushed
nodes_tell method pc last at before at_before body c n a = record {
  from_event = from_event c method pc;
  from_one = refl;
  from_two = refl;
  in_pushed = refl;
  at_start = refl;
  there = refl;
}

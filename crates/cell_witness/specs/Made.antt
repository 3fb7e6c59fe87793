-- The sites of what steps make: of an object of a class of the app by node, and of any other by step.
use Rattle.std.specs.Prelude.{◌≡◌, ℕ}
use Rattle.fact_rows.specs.declared.context.Ctx.{Ctx}
use Rattle.fact_rows.specs.declared.context.Node.{Node}
use Rattle.fact_rows.specs.declared.site.Site.TheVariants.{At, Made}
use Rattle.machine_witness.specs.Flows.{by_field, by_element, by_filled, activity_of}
use Rattle.cell_rules.specs.Making.{made_at}

abbrev pub node_at : Ctx → ℕ → Node
node_at c pc = record { by = record { ctx = c; method = 0 }; pc = pc }

pub record AreMade (c : Ctx) : Type 0 where
  pub own_object : made_at (activity_of by_field) (node_at c 2) ≡ At (node_at c 2)
  pub array : made_at (activity_of by_element) (node_at c 2) ≡ Made 0 2
  pub filled_array : made_at (activity_of by_filled) (node_at c 2) ≡ Made 0 2
  pub result : made_at (activity_of by_field) (node_at c 0) ≡ Made 0 0

abbrev pub ObjectsAreMade : Type 0
ObjectsAreMade = (c : Ctx) → AreMade c

-- The tables of an index.
use Rattle.std.specs.Prelude.{ℕ, List, Option}
use Rattle.std.specs.declared.vec.Vec.{Vec}
use Rattle.app_machine.specs.SoundLists.{SoundLists}
use Rattle.event_index.specs.declared.asked.Asked.{Asked}
use Rattle.event_index.specs.declared.below_table.BelowTable.{BelowTable}
use Rattle.event_index.specs.declared.bodies.Event.TheVariants.{Life, Click}
use Rattle.event_index.specs.declared.comings.Coming.{Coming}
use Rattle.event_index.specs.Asked.{HasAsked}
use Rattle.event_index.specs.Bodies.{HasBodies}
use Rattle.event_index.specs.Comings.{HasComings}
use Rattle.event_index.specs.Settled.{IsBelowTable}

pub record HasTables {A B C D : Type 0} (below : BelowTable) (coming : List (Option (Vec Coming A))) (lives : List (Vec (Option ℕ) B)) (clicked : List (Vec (Option ℕ) C)) (registers : List (Vec (Option Asked) D)) : Type 0 where
  pub lists : SoundLists below.listed.lists.now
  pub table : IsBelowTable below
  pub comings : HasComings below.app.now below.listed.lists.now coming
  pub life : HasBodies below.app.now Life lives
  pub clicks : HasBodies below.app.now Click clicked
  pub asked : HasAsked below.listed.kinds below.app.now.methods registers

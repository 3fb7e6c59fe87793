-- Which rows the table of the small app starts with and can have. Behind each fact stands what code would answer that does otherwise.
use Rattle.std.specs.Prelude.{◌≡◌, [], ◌∷◌}
use Rattle.app_machine.specs.Sound.{SoundApp}
use Rattle.app_machine.specs.State.{result_register}
use Rattle.app_rows.specs.StartRows.{start_rows}
use Rattle.fact_rows.specs.declared.context.Ctx.{Ctx}
use Rattle.fact_rows.specs.declared.context.Ctx.TheVariants as ctx
use Rattle.fact_rows.specs.declared.context.Node.{Node}
use Rattle.fact_rows.specs.declared.row.Row.TheVariants.{Live, Points, Reached, Unknown}
use Rattle.fact_rows.specs.declared.site.Site.TheVariants.{Component}
use Rattle.fact_rows.specs.InApp.{InApp}
use Rattle.answer_witness.specs.Office.{office, office_of_application, office_lists}

-- the first instruction of the method, in the context
abbrev pub first_in : Ctx → Node
first_in ctx = record { by = record { ctx = ctx; method = 0 }; pc = 0 }

pub record Starts : Type 0 where
  -- both apps are sound, as the code asks
  pub sound : SoundApp office
  pub sound_of_application : SoundApp office_of_application
  -- without an application both components start; with one row for all it is `Live 0 0` alone
  pub each_component : start_rows office ≡ Live 0 0 ∷ Live 1 0 ∷ []
  -- the application starts alone; taken for any other, it comes with two more
  pub application_alone : start_rows office_of_application ≡ Live 0 0 ∷ []

abbrev pub StartsAreThere : Type 0
StartsAreThere = Starts

pub record Has : Type 0 where
  -- RES is a register of a row; without it only those of the method and EXC are, and the answer is no
  pub result : InApp office office_lists (Points (first_in (ctx.Call 0 0)) result_register (Component 0))
  -- the fourth cause is none; below 5 it is one
  pub three_causes : InApp office office_lists (Unknown (first_in (ctx.Call 0 0)) 4) → ⊥
  -- nothing is entered at the end of a method, also as the call before the last; where the last alone is asked, the answer is yes
  pub both_calls : InApp office office_lists (Reached (first_in (ctx.Call2 0 0 0 2))) → ⊥

abbrev pub RowsAreOfTheApp : Type 0
RowsAreOfTheApp = Has

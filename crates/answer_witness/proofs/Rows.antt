-- The start rows compute, and rows are told to be in the app by their fields.
use Rattle.std.proofs.Common.{◌≡◌, Some, None, refl, lit<, arith}
use Rattle.app_machine.specs.declared.method.Act.{Act}
use Rattle.app_machine.specs.declared.method.Act.TheVariants.{Return}
use Rattle.app_machine.specs.Lookups.{ActAt, step_at}
use Rattle.fact_rows.specs.declared.context.Ctx.TheVariants as ctx
use Rattle.fact_rows.specs.InApp.{EntersAt, NodeIn, at_call, at_get, at_new, at_put, at_step, is_result}
use Rattle.answer_witness.specs.Office.{ends, office, office_with, office_lists}
use Rattle.answer_witness.proofs.Sound.{sound_office, sound_office_of_application}
use Rattle.answer_witness.specs.RowFacts.{first_in, RowsAreOfTheApp, StartsAreThere}

pub starts_are_there : StartsAreThere
unfolding office_with
starts_are_there = record { sound = sound_office; sound_of_application = sound_office_of_application; each_component = refl; application_alone = refl }

-- the step at which an object is made, and the last one
enters : EntersAt office 0 0
unfolding office_with step_at
enters = at_new (record { step = _; there = refl; same = refl })

is_last : step_at office 0 2 ≡ Some ends
unfolding office_with step_at
is_last = refl

only_ends : (act : Act) → ActAt office 0 2 act → Return None ≡ act
only_ends act a = let there = is_last in let found = a.there in let same : ends ≡ a.step = cc in let of_step = a.same in cc

enters_nothing : EntersAt office 0 2 → ⊥
enters_nothing (at_call a) = let same = only_ends _ a in let none : ⊥ = cc in none
enters_nothing (at_new a) = let same = only_ends _ a in let none : ⊥ = cc in none
enters_nothing (at_get a) = let same = only_ends _ a in let none : ⊥ = cc in none
enters_nothing (at_put a) = let same = only_ends _ a in let none : ⊥ = cc in none

in_app : NodeIn office office_lists (first_in (ctx.Call 0 0))
unfolding office_with step_at
in_app = record { activation = record { context = enters; method = lit< tt }; place = at_step (record { there = refl }) }

pub rows_are_of_the_app : RowsAreOfTheApp
unfolding office_with
rows_are_of_the_app = record {
  result = (in_app, (is_result refl, (lit< tt, tt)));
  three_causes = λ h. let below = h.1.0.1 in let none : ⊥ = omega (arith, below) in none;
  both_calls = λ h. enters_nothing h.0.activation.context.1;
}

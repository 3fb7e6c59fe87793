-- How a run of such an app begins: the activity is made, and its `onCreate` begins.
use Rattle.std.proofs.Common.{◌≡◌, ◌==◌, ℕ, zero, suc, List, [], ◌∷◌, false, cond, Some, None, refl, arith}
use Rattle.std.specs.Prelude.{codes, map}
use Rattle.app_machine.specs.declared.method.Step.{Step}
use Rattle.app_machine.specs.declared.method.Method.{Method}
use Rattle.app_machine.specs.declared.component.Kind.TheVariants.{Activity}
use Rattle.app_machine.specs.declared.app.App.{App}
use Rattle.app_machine.specs.declared.lists.Lists.{Lists}
use Rattle.app_machine.specs.Names.{descriptor_of}
use Rattle.app_machine.specs.Lookups.{HasCode, method_with, body_named, up}
use Rattle.app_machine.specs.Heap.{Value, blank}
use Rattle.app_machine.specs.State.{World, Frame, entered, object_at, new_object}
use Rattle.app_machine.specs.LifeEvents.{LifeEvent, life_events}
use Rattle.app_machine.specs.Events.{IsApplication, LifeEventAt, life_body, lives, is_born, set_component, layout, one_more, no_more, is_blank}
use Rattle.app_machine.specs.Run.{Run, passes, no_body, begins, start_world, starts, then}
use Rattle.machine_witness.specs.Apps.{main_class, on_create}
use Rattle.machine_witness.specs.Flows.{box_lists, Scene, activity_of}

-- the two events
abbrev pub made : LifeEvent
made = record { from = 0; name = codes "<init>"; descriptor = codes "()V"; to = 1 }

abbrev pub created : LifeEvent
created = record { from = 1; name = codes "onCreate"; descriptor = codes "(Landroid/os/Bundle;)V"; to = 2 }

abbrev pub world_made : World
world_made = record start_world { heap = new_object main_class ∷ []; components = set_component start_world.components 0 (record { state = 1; place = Some 0 }) }

abbrev pub world_created : World
world_created = record world_made { components = set_component world_made.components 0 (record { state = 2; place = Some 0 }) }

-- `onCreate` with so many registers, of which the last two hold the activity and a blank
abbrev pub creates : ℕ → List Step → Method
creates registers steps = record { at = on_create; is_static = false; is_native = false; registers = registers; ins = 2; steps = steps }

abbrev pub given : ℕ → Value
given i = cond (i == 0) (object_at (Some 0)) blank

abbrev pub at_entry : ℕ → List Step → ℕ → Value
at_entry registers steps = entered (creates registers steps) (map given (layout on_create.proto.params))

-- The one component of the app is the activity, and its `onCreate` is this body.
pub record IsActivity (app : App) (body registers : ℕ) (steps : List Step) : Type 0 where
  pub made_at : LifeEventAt app 0 0 main_class made None
  pub created_at : LifeEventAt app 0 1 main_class created (Some body)
  pub no_application : (a : ℕ) → IsApplication app a → ⊥
  pub code : HasCode app body (creates registers steps)

-- the frame at the pc of a body
abbrev pub frame_in : ℕ → ℕ → (ℕ → Value) → Frame
frame_in body pc registers = record { method = body; pc = pc; registers = registers; initialises = false }

module _ {app : App} {body registers : ℕ} {steps : List Step} (lists : Lists) (is : IsActivity app body registers steps) where
  pub to_made : Run app lists world_made []
  to_made = then starts (passes (is_born is.made_at refl refl (λ a application. absurd (is.no_application a application))) no_body)

  pub to_created : Run app lists world_created (frame_in body 0 (at_entry registers steps) ∷ [])
  to_created = then to_made (begins (lives is.created_at refl (λ e. let none : ⊥ = omega arith in none)) is.code refl (one_more is_blank no_more))

module _ (s : Scene) (bare : life_body (activity_of s) main_class made ≡ None) where
  no_application : (a : ℕ) → IsApplication (activity_of s) a → ⊥
  unfolding activity_of
  no_application zero is = let same = is.there.there in let kind = is.kind in let none : ⊥ = cc in none
  no_application (suc a) is = let same = is.there.there in let none : ⊥ = cc in none

  pub is_activity : IsActivity (activity_of s) 0 5 s.on_create
  unfolding activity_of life_events body_named method_with up descriptor_of
  is_activity = record {
    made_at = record { component = record { kind = Activity; class = main_class }; there = record { there = refl }; of_class = refl; is_event = record { there = refl }; is_body = bare };
    created_at = record { component = record { kind = Activity; class = main_class }; there = record { there = refl }; of_class = refl; is_event = record { there = refl }; is_body = refl };
    no_application = no_application;
    code = record { there = refl; code = refl };
  }

  pub made_run : Run (activity_of s) box_lists world_made []
  made_run = to_made box_lists is_activity

  pub created_run : Run (activity_of s) box_lists world_created (frame_in 0 0 (at_entry 5 s.on_create) ∷ [])
  created_run = to_created box_lists is_activity

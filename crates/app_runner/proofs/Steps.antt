-- A step, of the running frame or of an event, and what is known behind it.
use Rattle.std.proofs.Common.{◌≡◌, ℕ, List, [], ◌∷◌, ◌++◌, Option, Some, None, slice_get, refl, sym, ap, ◌∙◌, subst}
use Rattle.std.proofs.lemmas.Option.{none-some}
use Rattle.app_machine.specs.declared.app.App.{App}
use Rattle.app_machine.specs.declared.lists.Lists.{Lists}
use Rattle.app_machine.specs.Names.{Name}
use Rattle.app_machine.specs.State.{Frame, World}
use Rattle.app_runner.specs.declared.stepping.Known.{Known}
use Rattle.app_runner.specs.Known.{Serves}
use Rattle.played_growth.specs.Growth.{Grows, StepsGrow, classes_of}
use Rattle.played_machine.specs.Coming.{Event, begun, events}
use Rattle.played_machine.specs.Drawing.{continue, one_of}
use Rattle.played_machine.specs.Drawn.{drawn_step}
use Rattle.played_machine.specs.Local.{Playing}
use Rattle.played_machine.specs.Reading.{handed_places}
use Rattle.played_machine.specs.Step.{step, ways}
use Rattle.runner_below.specs.Kept.{BelowsStay}
use Rattle.runner_menu.specs.Laws.{MenusStay}
use Rattle.runner_menu.specs.Menus.{Fits}
use Rattle.runner_state.specs.declared.script.Script.{Script}
use Rattle.runner_steps.specs.declared.ground.Ground.{Ground}
use Rattle.runner_steps.specs.State.{Makes, on_running}
use Rattle.runner_turns.specs.Ways.{one_way}

module _ (app : App) (lists : Lists) (w : World) (bytes : List ℕ) where
  -- the running frame's
  pub of_frame : (fs : List Frame) (f : Frame) → Some f ≡ slice_get fs 0 → on_running (λ f fs. one_way (ways app lists w f fs)) fs bytes ≡ step app lists w fs bytes
  unfolding step
  of_frame [] f is = absurd (none-some f (sym is))
  of_frame (g ∷ fs) f is = refl

  -- an event's
  of_event : (fs : List Frame) → fs ≡ [] → step app lists w fs bytes ≡ continue (begun app lists w) (one_of (events app lists w) bytes)
  unfolding step
  of_event [] none = refl
  of_event (f ∷ fs) none = absurd (let same : f ∷ fs ≡ [] = none in cc)

  pub no_event : (fs : List Frame) → fs ≡ [] → None ≡ one_of (events app lists w) bytes → step app lists w fs bytes ≡ None
  no_event fs idle none = of_event fs idle ∙ ap (continue (begun app lists w)) (sym none)

  pub one_event : (fs : List Frame) (event : Event) (left : List ℕ) → fs ≡ [] → Some (event, left) ≡ one_of (events app lists w) bytes → begun app lists w event left ≡ step app lists w fs bytes
  one_event fs event left idle some = sym (of_event fs idle ∙ ap (continue (begun app lists w)) (sym some))

pub no_frame : (fs : List Frame) → None ≡ slice_get fs 0 → fs ≡ []
no_frame [] none = refl
no_frame (f ∷ fs) none = absurd (none-some f none)

-- what was drawn by one name is what was drawn by the other
pub made_by : (one other : Option (Playing × List ℕ)) (old new : Playing) (result : Option Script) → one ≡ other → Makes one old new result → Makes other old new result
made_by one other old new result same made = subst (λ drawn. Makes drawn old new result) same made

module _ (grow : StepsGrow) (menus : MenusStay) (belows : BelowsStay) where
  grown : (ground : Ground) (s u : World) (known : Known) → Grows s u → Serves ground s known → Serves ground u known
  grown ground s u known grows serves = record {
    menu = subst (λ (classes : List Name). Fits ground.app.now ground.lists.now classes (handed_places u.handed) known.menu) (sym grows.classes.1)
        (subst (λ (places : List ℕ). Fits ground.app.now ground.lists.now (classes_of s.heap ++ grows.classes.0) places known.menu) (sym grows.handed.1)
        (menus ground.app.now ground.lists.now (classes_of s.heap) grows.classes.0 (handed_places s.handed) grows.handed.0 known.menu serves.menu));
    belows = belows ground.app.now ground.lists.now (classes_of s.heap) (classes_of u.heap) (handed_places s.handed) (handed_places u.handed) known.belows grows.classes grows.handed serves.belows;
  }

  -- what is known of the state before is so of the one behind
  pub still_serves : (ground : Ground) (old new : Playing) (known : Known) (bytes : List ℕ) (result : Option Script) →
      Makes (drawn_step ground.app.now ground.lists.now old bytes) old new result → Serves ground old.world known → Serves ground new.world known
  still_serves ground old new known bytes None made serves = subst (λ (s : Playing). Serves ground s.world known) (sym made.1) serves
  still_serves ground old new known bytes (Some rest) made serves =
      grown ground old.world new.world known (grow ground.app.now ground.lists.now old made.0 new.world bytes rest.left.now made.1 made.2.world) serves

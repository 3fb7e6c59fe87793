-- A state of a run as the machine says it, and what a step makes of it.
use Rattle.std.specs.Prelude.{◌≡◌, ℕ, List, [], ◌∷◌, Option, Some, None}
use Rattle.app_machine.specs.Sound.{SoundApp}
use Rattle.app_machine.specs.SoundLists.{SoundLists}
use Rattle.app_machine.specs.State.{Frame}
use Rattle.played_alike.specs.Alike.{AlikePlaying}
use Rattle.played_machine.specs.Drawing.{Drawing}
use Rattle.played_machine.specs.Local as local
use Rattle.runner_calls.specs.Frames.{frames_of}
use Rattle.runner_state.specs.declared.script.Script.{Script}
use Rattle.runner_steps.specs.declared.ground.Ground.{Ground}
use Rattle.runner_steps.specs.declared.playing.Playing.{Playing}
use Rattle.runner_world.specs.World.{world_in}

abbrev pub playing_in : Playing → local.Playing
playing_in p = local.playing (world_in p.world) (frames_of p.frames)

-- the app and the lists are sound, and the indexes are theirs
pub record IsGround (ground : Ground) : Type 0 where
  pub app : SoundApp ground.app.now
  pub lists : SoundLists ground.lists.now
  pub library : ground.library ≡ ground.lists.now
  pub events : ground.events ≡ (ground.app.now, ground.lists.now)

-- what is drawn in the running frame, where there is one
abbrev pub on_running : {A : Type 0} → (Frame → List Frame → Drawing A) → List Frame → Drawing A
on_running step [] bytes = None
on_running step (f ∷ fs) bytes = step f fs bytes

-- What was drawn is made, up to what a script cannot tell apart, and these bytes are left; or the bytes were too few, and all is
-- as before.
abbrev pub Makes : Option (local.Playing × List ℕ) → local.Playing → local.Playing → Option Script → Type 0
Makes drawn old new None = (drawn ≡ None) × (new ≡ old)
Makes drawn old new (Some rest) = (t : local.Playing) × (drawn ≡ Some (t, rest.left.now)) × AlikePlaying t new

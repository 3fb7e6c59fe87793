-- States that are alike to themselves, and what is made as it is drawn.
use Rattle.std.proofs.Common.{◌≡◌, ℕ, List, Option, Some, refl}
use Rattle.app_machine.specs.State.{World, Frame}
use Rattle.played_alike.specs.Alike.{AlikeFrame, AlikeFrames, AlikeObject, AlikePlaying, AlikeWorld}
use Rattle.played_alike.proofs.Heaps.{alike_itself, alike_object}
use Rattle.played_alike.proofs.Pairs.{pair_same}
use Rattle.played_machine.specs.Local.{Playing}
use Rattle.played_machine.specs.Reading.{handed_places}
use Rattle.runner_state.specs.declared.script.Script.{Script}
use Rattle.runner_steps.specs.State.{Makes}

pub frame_itself : (f : Frame) → AlikeFrame f f
frame_itself f = record { method = refl; pc = refl; registers = λ r. alike_itself (f.registers r); initialises = refl }

pub frames_itself : (fs : List Frame) → AlikeFrames fs fs
frames_itself fs = pair_same AlikeFrame frame_itself fs

pub world_itself : (w : World) → AlikeWorld w w
world_itself w = record {
  heap = pair_same AlikeObject alike_object w.heap;
  statics = λ g. alike_itself (w.statics g);
  components = refl;
  handed = refl;
  arrivals = refl;
}

pub itself : (s : Playing) → AlikePlaying s s
itself s = record { world = world_itself s.world; frames = frames_itself s.frames }

-- a world in which the same places were handed
pub handed_alike : (w : World) (handed new : List ℕ) → handed_places handed ≡ handed_places new → AlikeWorld (record w { handed = handed }) (record w { handed = new })
handed_alike w handed new same = record {
  heap = pair_same AlikeObject alike_object w.heap;
  statics = λ g. alike_itself (w.statics g);
  components = refl;
  handed = same;
  arrivals = refl;
}

pub made : (drawn : Option (Playing × List ℕ)) (old new : Playing) (rest : Script) → drawn ≡ Some (new, rest.left.now) → Makes drawn old new (Some rest)
made drawn old new rest is = (new, is, itself new)

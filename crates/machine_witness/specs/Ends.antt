-- How runs of the small apps end, and what that says of safety.
use Rattle.std.specs.Prelude.{◌≡◌, ℕ, List, [], ◌∷◌}
use Rattle.app_machine.specs.declared.papers.Declaration.{Declaration}
use Rattle.app_machine.specs.Heap.{Value}
use Rattle.app_machine.specs.State.{World, Frame}
use Rattle.app_machine.specs.Run.{Run}
use Rattle.app_machine.specs.Safe.{native, Stands, Safe}
use Rattle.machine_witness.specs.Apps.{leaking_app, clear_app, native_app, small_lists}
use Rattle.machine_witness.specs.Acts.{frame_at}

-- a run of the app that never brings a label to the sink comes past the call of the sink
pub record PastTheSink : Type 0 where
  pub world : World
  pub registers : ℕ → Value
  pub run : Run clear_app small_lists world (frame_at 8 registers ∷ [])

abbrev pub ClearSiblingGoesOn : Type 0
ClearSiblingGoesOn = PastTheSink

-- a run stands at the call of the native method
pub record StandingRun : Type 0 where
  pub world : World
  pub frames : List Frame
  pub run : Run native_app small_lists world frames
  pub stands : Stands native_app small_lists world frames 1 0 native

abbrev pub NativeIsReached : Type 0
NativeIsReached = StandingRun

-- whatever is declared, the app with the native method is not safe, and the one that leaks is not where nothing is declared
pub record Unsafe : Type 0 where
  pub leaks : (declaration : Declaration) → declaration.pairs ≡ [] → Safe leaking_app small_lists declaration → ⊥
  pub stands : (declaration : Declaration) → Safe native_app small_lists declaration → ⊥

abbrev pub NotSafe : Type 0
NotSafe = Unsafe

-- The outside at one moment: what its objects tell, and how often their calls failed.
use Rattle.std.specs.Prelude.{ℕ, List, Option, IsTrue, is_some}
use Rattle.vet_base.specs.Outside.{Told}

-- what the files tell, and the bytes that the sink took
pub record Tells : Type 0 where
  pub files : Option Told
  pub printed : Option (List ℕ)

-- how often a call of the files failed, and one of the sink
pub record Faults : Type 0 where
  pub files : ℕ
  pub sink : ℕ

-- besides, the bytes that were handed to the sink so far
pub record Outside : Type 0 where
  pub tells : Tells
  pub faults : Faults
  pub handed : List ℕ

abbrev pub outside : Option Told → ℕ → Option (List ℕ) → ℕ → List ℕ → Outside
outside files files_faults printed sink_faults handed = record {
  tells = record { files = files; printed = printed };
  faults = record { files = files_faults; sink = sink_faults };
  handed = handed;
}

-- what is read is told
abbrev pub TellsInput : Tells → Type 0
TellsInput tells = IsTrue (is_some tells.files)

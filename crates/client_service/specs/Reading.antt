-- What reading files left behind.
use Rattle.std.specs.Prelude.{◌≡◌, ◌⊎◌, ℕ, List, Option, Result, Ok, Err, string_bytes}
use Rattle.vet_base.specs.Outside.{HasRisen, Told}
use Rattle.app_folder.specs.Folder.{IsFileIn}
use Rattle.app_folder.specs.Reading.{TellsRead, SameFiles}
use Rattle.client_service.specs.declared.ready.Halt.{Halt}
use Rattle.client_service.specs.declared.ready.Halt.TheVariants.{Refused, ReadFault, Memory}
use Rattle.client_service.specs.Clients.{client_path}

-- the client's file, or a file of the app
abbrev pub IsFile : List ℕ → List ℕ → Type 0
IsFile dir name = (name ≡ client_path dir) ⊎ IsFileIn dir name

-- A read of this file of the folder failed, and is the call of the files that failed last. No file changed.
pub record ReadFails (old new : Option Told) (before after : ℕ) (dir name : List ℕ) : Type 0 where
  pub file : IsFile dir name
  pub risen : HasRisen before after
  pub last : TellsRead new name
  pub kept : SameFiles old new

-- Nothing changed, but that a failed read raised the count and is the call that failed last.
abbrev pub Leaves : {X : Type 0} → Option Told → Option Told → ℕ → ℕ → List ℕ → Result X Halt → Type 0
Leaves old new before after dir (Ok x) = (new ≡ old) × (after ≡ before)
Leaves old new before after dir (Err (Refused refusal)) = (new ≡ old) × (after ≡ before)
Leaves old new before after dir (Err (ReadFault name)) = ReadFails old new before after dir (string_bytes name)
Leaves old new before after dir (Err Memory) = (new ≡ old) × (after ≡ before)

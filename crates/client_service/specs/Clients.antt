-- What the client's file in a folder says, and why it is refused.
use Rattle.std.specs.Prelude.{◌≡◌, ◌<◌, ◌≤◌, ℕ, List, ◌++◌, length, Option, Some, None, Result, Ok, Err, IsTrue, IsSomeAnd, is_some, codes}
use Rattle.vet_base.specs.Outside.{Told, held_by}
use Rattle.client_form.specs.declared.client.Client.{Client}
use Rattle.client_form.specs.Form.{IsClient, FirstFault}
use Rattle.verdict_report.specs.declared.unfit.Unfit.{Unfit}
use Rattle.verdict_report.specs.declared.unfit.Unfit.TheVariants.{Absent, TooLong, Form}
use Rattle.client_service.specs.declared.ready.Halt.{Halt}
use Rattle.client_service.specs.declared.ready.Halt.TheVariants.{Refused, ReadFault, Memory}
use Rattle.client_service.specs.declared.ready.Refusal.TheVariants as refusals

-- the file stands in the folder
unfoldable pub client_path : List ℕ → List ℕ
client_path dir = dir ++ codes "/client.toml"

-- what is held at the path of the file, where it is told
abbrev pub Holds : Option Told → List ℕ → (Option (List ℕ) → Type 0) → Type 0
Holds told dir Is = IsTrue (is_some told) → Is (held_by told (client_path dir))

-- the file has these bytes, 16,777,216 at most
pub record HasText (told : Option Told) (dir text : List ℕ) : Type 0 where
  pub holds : Holds told dir (λ file. file ≡ Some text)
  pub short : length text ≤ 16777216

-- why the file is refused
abbrev pub IsUnfit : Option Told → List ℕ → Unfit → Type 0
IsUnfit told dir Absent = Holds told dir (λ file. file ≡ None)
IsUnfit told dir TooLong = Holds told dir (λ file. IsSomeAnd file (λ bytes. 16777216 < length bytes))
IsUnfit told dir (Form fault) = (text : List ℕ) × HasText told dir text × FirstFault text fault

-- The file says this.
pub record SaysClient (told : Option Told) (dir : List ℕ) (client : Client) : Type 0 where
  pub text : List ℕ
  pub has : HasText told dir text
  pub form : IsClient text client

-- what reading a text came to
abbrev pub FitsClient : List ℕ → Result Client Halt → Type 0
FitsClient text (Ok client) = IsClient text client
FitsClient text (Err (Refused (refusals.Client (Form fault)))) = FirstFault text fault
FitsClient text (Err (Refused _)) = ⊥
FitsClient text (Err (ReadFault name)) = ⊥
FitsClient text (Err Memory) = Unit {0}

-- what reading the file came to
abbrev pub ReadsClient : Option Told → List ℕ → Result Client Halt → Type 0
ReadsClient told dir (Ok client) = SaysClient told dir client
ReadsClient told dir (Err (Refused (refusals.Client unfit))) = IsUnfit told dir unfit
ReadsClient told dir (Err (Refused _)) = ⊥
ReadsClient told dir (Err (ReadFault name)) = Unit {0}
ReadsClient told dir (Err Memory) = Unit {0}

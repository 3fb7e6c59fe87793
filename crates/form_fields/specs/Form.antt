-- A form: its tests in their order, table by table, and the value behind them.
use Rattle.std.specs.Prelude.{◌≡◌, ℕ, ◌++◌, List}
use Rattle.toml.specs.Data.{Members}
use Rattle.vet_base.specs.Script.{Script, tests, value_of, AllHold, IsFirst}
use Rattle.vet_base.specs.declared.stop.Stop.{Stop}
use Rattle.vet_base.specs.declared.stop.Stop.TheVariants as stops
use Rattle.form_fields.specs.declared.fault.Fault.{Fault}
use Rattle.form_fields.specs.declared.fault.Fault.TheVariants.{NotToml, Missing, Wrong, Unknown, Range, Twice}
use Rattle.form_fields.specs.declared.told.FormFault.{FormFault}
use Rattle.form_fields.specs.declared.told.FormFault.TheVariants as told
use Rattle.form_fields.specs.Words.{prefix_of, name_of}
use Rattle.form_fields.specs.Tree.{Reads, IsNotToml}

-- the text is a form, and this is what it says
pub record IsForm {A : Type 0} (form : Members → Script Fault A) (text : List ℕ) (value : A) : Type 0 where
  pub tree : Members
  pub reads : Reads text tree
  pub hold : AllHold (tests (form tree))
  pub is : value ≡ value_of (form tree)

-- a fault with its key written out
abbrev pub shown : Fault → FormFault
shown NotToml = told.NotToml
shown (Missing s k) = told.Missing (name_of s k)
shown (Wrong s k) = told.Wrong (name_of s k)
shown (Unknown s name) = told.Unknown (prefix_of s ++ name)
shown (Range s k) = told.Range (name_of s k)
shown (Twice name) = told.Twice name

-- the first test that the text fails
pub data FirstFormFault {A : Type 0} (form : Members → Script Fault A) (text : List ℕ) : FormFault → Type 0 where
  unread : IsNotToml text → FirstFormFault form text told.NotToml
  fails : (tree : Members) (fault : Fault) → Reads text tree → IsFirst (tests (form tree)) fault → FirstFormFault form text (shown fault)

-- what is reported of a reading that stopped
abbrev pub IsTold : Stop Fault → FormFault → Type 0
IsTold stops.Memory e = e ≡ told.Memory
IsTold (stops.Fault fault) e = e ≡ shown fault

-- a text that has no tree, or memory ran out
abbrev pub IsUnread : List ℕ → Stop Fault → Type 0
IsUnread text stops.Memory = Unit {0}
IsUnread text (stops.Fault fault) = (fault ≡ NotToml) × IsNotToml text

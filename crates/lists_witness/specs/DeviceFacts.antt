-- How what the lists say of a device is read from small trees. Behind each fact stands what code would answer that does otherwise.
use Rattle.std.specs.Prelude.{◌≡◌, true, false, List, [], ◌∷◌, map, codes, Some, None, Result, Ok, Err}
use Rattle.toml.specs.Data.{Data, string, boolean, Members}
use Rattle.vet_base.specs.Script.{run}
use Rattle.app_machine.specs.Names.{Name}
use Rattle.app_machine.specs.declared.lists.StaticRow.{StaticRow}
use Rattle.device_lists.specs.declared.DeviceLists.{DeviceLists}
use Rattle.form_fields.specs.declared.fault.Fault.{Fault}
use Rattle.form_fields.specs.declared.fault.Fault.TheVariants.{Wrong, Range, Twice}
use Rattle.form_fields.specs.declared.words.Section.TheVariants as section
use Rattle.form_fields.specs.declared.words.Key.TheVariants as key
use Rattle.store_lists.specs.declared.lists.StoreLists.{StoreLists}
use Rattle.store_lists.specs.Lists.{lists_form}
use Rattle.lists_witness.specs.Trees.{members, table_of, array_of}
use Rattle.lists_witness.specs.ListFacts.{sms, one_row}

-- a list of texts at a key
abbrev pub texts : Name → List Name → Name × Data
texts k names = (k, array_of (map string names))

-- lists whose names of the platform, and of what apps bring along, begin so
abbrev pub of_starts : List Name → List Name → Members
of_starts platform bundled = members (texts (codes "bundled") bundled ∷ sms ∷ texts (codes "platform") platform ∷ one_row ∷ [])

-- the static field `f` of the class `La;`, of a type
abbrev pub field : Name → Data
field type = table_of ((codes "class", string (codes "La;")) ∷ (codes "name", string (codes "f")) ∷ (codes "type", string type) ∷ [])

-- that of type `I`, with a source
abbrev pub from : Name → Data
from source =
    table_of ((codes "class", string (codes "La;")) ∷ (codes "name", string (codes "f")) ∷ (codes "source", string source) ∷ (codes "type", string (codes "I")) ∷ [])

-- lists with static fields
abbrev pub of_statics : List Data → Members
of_statics statics = members (sms ∷ one_row ∷ (codes "static", array_of statics) ∷ [])

-- strict lists
abbrev pub of_strict : Data → Members
of_strict d = members (sms ∷ one_row ∷ (codes "strict", d) ∷ [])

abbrev pub device_of : Result StoreLists Fault → Result DeviceLists Fault
device_of (Ok d) = Ok d.device
device_of (Err fault) = Err fault

-- what lists say of a device, or the first fault
abbrev pub read_device : Members → Result DeviceLists Fault
read_device t = device_of (run (lists_form t))

abbrev pub statics_in : Result StoreLists Fault → Result (List StaticRow) Fault
statics_in (Ok d) = Ok d.lists.statics
statics_in (Err fault) = Err fault

-- the static fields of lists, or the first fault
abbrev pub read_statics : Members → Result (List StaticRow) Fault
read_statics t = statics_in (run (lists_form t))

pub record ReadsDevice : Type 0 where
  -- a beginning of both lists is told at the second; where each list is asked for itself these are lists
  pub in_both : read_device (of_starts (codes "La/" ∷ []) (codes "Lb/" ∷ codes "La/" ∷ [])) ≡ Err (Range section.Lists key.Bundled)
  -- a beginning that stands twice in one list is told there; taken once, these are lists
  pub twice_in_one : read_device (of_starts (codes "La/" ∷ codes "La/" ∷ []) []) ≡ Err (Range section.Lists key.Platform)
  -- a name of a class begins with `L`; as any text this is a beginning
  pub begins_with : read_device (of_starts (codes "a/" ∷ []) []) ≡ Err (Range section.Lists key.Platform)
  -- a longer beginning is another one, and each list keeps its own; exchanged, `La/` is of what apps bring along
  pub kept_apart : read_device (of_starts (codes "La/" ∷ []) (codes "La/b/" ∷ [])) ≡ Ok (record {
    strict = false;
    platform = codes "La/" ∷ [];
    bundled = codes "La/b/" ∷ [];
  })
  -- lists are strict where they say so, and no text says it; passed over, neither is
  pub is_strict : read_device (of_strict (boolean true)) ≡ Ok (record { strict = true; platform = []; bundled = [] })
  pub no_word : read_device (of_strict (string (codes "true"))) ≡ Err (Wrong section.Lists key.Strict)
  -- a static field that stands twice is told by its name; where it is not asked for, these are lists
  pub static_once : read_device (of_statics (field (codes "I") ∷ field (codes "I") ∷ [])) ≡ Err (Twice (codes "f"))
  -- fields of two types are two; compared by class and name alone, `f` stands twice
  pub two_types : read_statics (of_statics (field (codes "I") ∷ field (codes "[J") ∷ [])) ≡ Ok (
      record { class = codes "La;"; name = codes "f"; kind = codes "I"; source = None }
      ∷ record { class = codes "La;"; name = codes "f"; kind = codes "[J"; source = None }
      ∷ [])
  -- a source labels the field with that category, and is one that is listed; passed over, there is none, and any text is one
  pub source : read_statics (of_statics (from (codes "sms") ∷ [])) ≡ Ok (record { class = codes "La;"; name = codes "f"; kind = codes "I"; source = Some 0 } ∷ [])
  pub no_source : read_statics (of_statics (from (codes "log") ∷ [])) ≡ Err (Range section.Static key.Source)
  -- no field is void; as a result's type `V` is one
  pub no_void : read_device (of_statics (field (codes "V") ∷ [])) ≡ Err (Range section.Static key.Type)

abbrev pub DeviceIsRead : Type 0
DeviceIsRead = ReadsDevice

-- How the lists are read from small trees. Behind each fact stands what code would answer that does otherwise.
use Rattle.std.specs.Prelude.{◌≡◌, false, pos, [], ◌∷◌, Some, None, codes, Ok, Err}
use Rattle.toml.specs.Data.{Data, string, integer, Members}
use Rattle.vet_base.specs.Script.{run}
use Rattle.app_machine.specs.Names.{Name}
use Rattle.app_machine.specs.declared.lists.FallbackWord.TheVariants.{Mixed}
use Rattle.form_fields.specs.declared.fault.Fault.TheVariants.{Wrong, Range}
use Rattle.form_fields.specs.declared.words.Section.TheVariants as section
use Rattle.form_fields.specs.declared.words.Key.TheVariants as key
use Rattle.store_lists.specs.Lists.{lists_form}
use Rattle.lists_witness.specs.Trees.{members, table_of, array_of}

-- one category, and one row at most
abbrev pub sms : Name × Data
sms = (codes "categories", array_of (string (codes "sms") ∷ []))

abbrev pub one_row : Name × Data
one_row = (codes "rows", integer (pos 1))

-- the class `La;`: as the class of a row, and as the name of a row of classes
abbrev pub of_class : Name × Data
of_class = (codes "class", string (codes "La;"))

abbrev pub class_name : Name × Data
class_name = (codes "name", string (codes "La;"))

abbrev pub named : Name → Name × Data
named name = (codes "name", string name)

-- a method without parameters and result
abbrev pub no_parameters : Name × Data
no_parameters = (codes "proto", string (codes "()V"))

-- lists with one category in capital letters
abbrev pub in_capitals : Members
in_capitals = members ((codes "categories", array_of (string (codes "SMS") ∷ [])) ∷ one_row ∷ [])

-- lists with a callback that has no name
abbrev pub of_nameless_callback : Members
of_nameless_callback = members ((codes "callback", array_of (table_of (of_class ∷ named [] ∷ no_parameters ∷ []) ∷ [])) ∷ sms ∷ one_row ∷ [])

-- lists with a class whose default is mixed
abbrev pub of_mixed_class : Members
of_mixed_class = members (sms ∷ (codes "class", array_of (table_of ((codes "default", string (codes "mixed")) ∷ class_name ∷ []) ∷ [])) ∷ one_row ∷ [])

-- a method that has no sink, and whose positions are a text
abbrev pub strange_method : Data
strange_method = table_of (of_class ∷ named (codes "m") ∷ (codes "positions", string (codes "first")) ∷ no_parameters ∷ [])

-- lists with it
abbrev pub of_strange_positions : Members
of_strange_positions = members (
    sms ∷ (codes "class", array_of (table_of (class_name ∷ []) ∷ [])) ∷ (codes "method", array_of (strange_method ∷ [])) ∷ one_row ∷ []
    )

-- lists in which a class stands twice, and a shared object has no name
abbrev pub of_two_faults : Members
of_two_faults = members (
    sms
    ∷ (codes "class", array_of (table_of (class_name ∷ []) ∷ table_of (class_name ∷ []) ∷ []))
    ∷ one_row
    ∷ (codes "shared", array_of (table_of (of_class ∷ named [] ∷ []) ∷ []))
    ∷ []
    )

pub record ReadsLists : Type 0 where
  -- a callback has a name of a byte at least; with any name these are lists
  pub callback_name : run (lists_form of_nameless_callback) ≡ Err (Range section.Callback key.Name)
  -- a category has no capital letters; as any text these are lists
  pub category : run (lists_form in_capitals) ≡ Err (Range section.Lists key.Categories)
  -- the default `mixed` is mixed; it is no joined one
  pub mixed_default : run (lists_form of_mixed_class) ≡ Ok (record {
    lists = record {
      rows = 1;
      categories = codes "sms" ∷ [];
      classes = record { name = codes "La;"; above = codes "La;" ∷ []; fallback = Some Mixed } ∷ [];
      shared = [];
      methods = [];
      callbacks = [];
      statics = [];
    };
    device = record { strict = false; platform = []; bundled = [] };
    large = None;
  })
  -- positions that are no list are wrong; where the type is tested at another key, they are out of range, as there is no sink
  pub positions_type : run (lists_form of_strange_positions) ≡ Err (Wrong section.Method key.Positions)
  -- all rows are read before it is asked whether a class stands twice; asked before, `La;` stands twice
  pub rows_first : run (lists_form of_two_faults) ≡ Err (Range section.Shared key.Name)

abbrev pub ListsAreRead : Type 0
ListsAreRead = ReadsLists

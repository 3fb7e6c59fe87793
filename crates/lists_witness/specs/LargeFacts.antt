-- How the word for large apps is read from small trees. Behind each fact stands what code would answer that does otherwise.
use Rattle.std.specs.Prelude.{◌≡◌, true, pos, [], ◌∷◌, codes, Option, Some, None, Result, Ok, Err}
use Rattle.toml.specs.Data.{Data, string, integer, boolean, Members}
use Rattle.vet_base.specs.Script.{run}
use Rattle.form_fields.specs.declared.fault.Fault.{Fault}
use Rattle.form_fields.specs.declared.fault.Fault.TheVariants.{Wrong, Unknown}
use Rattle.form_fields.specs.declared.words.Section.TheVariants as section
use Rattle.form_fields.specs.declared.words.Key.TheVariants as key
use Rattle.store_lists.specs.declared.large.Large.{Large}
use Rattle.store_lists.specs.declared.large.Large.TheVariants.{Cells}
use Rattle.store_lists.specs.declared.lists.StoreLists.{StoreLists}
use Rattle.store_lists.specs.Lists.{lists_form}
use Rattle.lists_witness.specs.Trees.{members, table_of, array_of}
use Rattle.lists_witness.specs.ListFacts.{sms, one_row, named}

-- lists that say this of large apps
abbrev pub of_large : Data → Members
of_large d = members (sms ∷ (codes "large", d) ∷ one_row ∷ [])

-- and whose static fields are no tables
abbrev pub of_no_statics : Data → Members
of_no_statics d = members (sms ∷ (codes "large", d) ∷ one_row ∷ (codes "static", array_of (string [] ∷ [])) ∷ [])

-- and of which a class has no name
abbrev pub of_nameless_class : Data → Members
of_nameless_class d = members (sms ∷ (codes "class", array_of (table_of (named [] ∷ []) ∷ [])) ∷ (codes "large", d) ∷ one_row ∷ [])

abbrev pub large_of : Result StoreLists Fault → Result (Option Large) Fault
large_of (Ok d) = Ok d.large
large_of (Err fault) = Err fault

-- what lists say of large apps, or the first fault
abbrev pub read_large : Members → Result (Option Large) Fault
read_large t = large_of (run (lists_form t))

pub record ReadsLarge : Type 0 where
  -- the one word is read as what it says; passed over, it has no effect
  pub cells : read_large (of_large (string (codes "cells"))) ≡ Ok (Some Cells)
  -- no word says nothing; taken for the one that there is, lists without it let large apps be judged otherwise
  pub no_word : read_large (members (sms ∷ one_row ∷ [])) ≡ Ok None
  -- any other text is wrong, another case too; passed over, lists with a slip say nothing
  pub other_word : read_large (of_large (string (codes "paths"))) ≡ Err (Wrong section.Lists key.Large)
  pub other_case : read_large (of_large (string (codes "Cells"))) ≡ Err (Wrong section.Lists key.Large)
  pub longer_word : read_large (of_large (string (codes "cells "))) ≡ Err (Wrong section.Lists key.Large)
  pub empty_word : read_large (of_large (string [])) ≡ Err (Wrong section.Lists key.Large)
  -- so is what is no text; it is not out of range
  pub number : read_large (of_large (integer (pos 1))) ≡ Err (Wrong section.Lists key.Large)
  pub flag : read_large (of_large (boolean true)) ≡ Err (Wrong section.Lists key.Large)
  -- it is a key of the top table alone; asked for there only by its beginning, a longer key is one
  pub other_key : read_large (members (sms ∷ (codes "larges", string (codes "cells")) ∷ one_row ∷ [])) ≡ Err (Unknown section.Lists (codes "larges"))
  -- it is tested behind the static fields, and before any table of an array; asked for elsewhere, the other fault is told
  pub behind_statics : read_large (of_no_statics (integer (pos 1))) ≡ Err (Wrong section.Lists key.Static)
  pub before_tables : read_large (of_nameless_class (integer (pos 1))) ≡ Err (Wrong section.Lists key.Large)

abbrev pub LargeIsRead : Type 0
LargeIsRead = ReadsLarge

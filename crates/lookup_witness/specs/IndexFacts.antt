-- What the indexes of lists and of an app find. Behind each fact stands what code would answer that does otherwise.
use Rattle.std.specs.Prelude.{◌≡◌, ℕ, Bool, true, false, List, [], ◌∷◌, Option, Some, None, codes}
use Rattle.app_machine.specs.declared.call.MethodRef.{MethodRef}
use Rattle.app_machine.specs.declared.lists.FallbackWord.TheVariants as fallback
use Rattle.app_machine.specs.declared.lists.StaticRow.{StaticRow}
use Rattle.app_machine.specs.declared.lists.SummaryId.{SummaryId}
use Rattle.app_machine.specs.declared.lists.SummaryId.TheVariants.{Row, Fallback}
use Rattle.app_machine.specs.declared.lists.Lists.{Lists}
use Rattle.app_machine.specs.declared.summary.Gives.TheVariants as gives
use Rattle.app_machine.specs.declared.summary.Summary.{Summary}
use Rattle.app_machine.specs.Names.{Name}
use Rattle.app_machine.specs.SoundLists.{SoundLists}
use Rattle.app_machine.specs.Summaries.{library_key, static_source}
use Rattle.app_index.specs.Handed.{handed_rows}
use Rattle.app_index.specs.Readers.{readers_of}
use Rattle.lookup_witness.specs.Shapes.{base_class, object, int, ref, shapes}

abbrev pub box_class : Name
box_class = codes "Lvendor/Box;"

abbrev pub plain_class : Name
plain_class = codes "Lvendor/Plain;"

-- the methods with rows: of `Object`, of a class with a default, and of one without
abbrev pub clone : MethodRef
clone = ref object (codes "clone") [] object

abbrev pub sealed : MethodRef
sealed = ref box_class (codes "sealed") [] int

abbrev pub plain : MethodRef
plain = ref plain_class (codes "plain") [] int

abbrev pub row_of_method : MethodRef → Bool → Summary
row_of_method at is_static = record { class = at.class; name = at.name; proto = at.proto; is_static = is_static; gives = gives.Blank; puts = []; stores = []; copies = []; source = None; sink = None; reflective = false }

-- one that gives back what the library has
abbrev pub owner : MethodRef
owner = ref object (codes "owner") [] object

abbrev pub back_row : Summary
back_row = record (row_of_method owner false) { gives = gives.Handed }

unfoldable pub row_lists : Lists
row_lists = record {
  rows = 1000;
  categories = codes "device_id" ∷ [];
  classes =
      record { name = box_class; above = box_class ∷ object ∷ []; fallback = Some fallback.Joined }
      ∷ record { name = plain_class; above = plain_class ∷ object ∷ []; fallback = None }
      ∷ record { name = object; above = object ∷ []; fallback = None }
      ∷ [];
  shared = [];
  methods = row_of_method clone false ∷ row_of_method sealed true ∷ back_row ∷ row_of_method plain true ∷ back_row ∷ [];
  callbacks = [];
  statics = [];
}

-- what the lists say of a call of the method on the class
abbrev pub key_of : Name → MethodRef → Bool → Option SummaryId
key_of class at is_static = library_key shapes row_lists class at.name at.proto is_static

pub record FindsRows : Type 0 where
  -- the lists are sound, as their index asks
  pub sound : SoundLists row_lists
  -- a call with a row takes it, and not the default of its class; the default's number first gives Row 0
  pub row_first : key_of box_class sealed true ≡ Some (Row 1)
  -- the other static word has no row, and the default serves it; by one word for all it gives Row 1
  pub default_next : key_of box_class sealed false ≡ Some (Fallback 0)
  -- where there is no default either there is nothing; by one word for all it gives Row 3
  pub nothing_else : key_of plain_class plain false ≡ None
  -- an array has the rows of `Object`; by its own name it gives None
  pub of_array : key_of (codes "[I") clone false ≡ Some (Row 0)
  -- both rows that give back what the library has are told; by the first alone the second is lost
  pub both_handed : handed_rows row_lists ≡ 2 ∷ 4 ∷ []

abbrev pub ListsAreLookedUp : Type 0
ListsAreLookedUp = FindsRows

pub record FindsReaders : Type 0 where
  -- the one reader is the get at 0 of method 1; under the next it stands in 2, by what writes it is at 1, and without the last
  -- there is none
  pub only_get : readers_of shapes 0 ≡ record { method = 1; pc = 0 } ∷ []

-- the category with which lists with these rows label the one static of the app, `s` of the base, an integer
abbrev pub label_by : List StaticRow → Option ℕ
label_by rows = static_source shapes (record row_lists { statics = rows }) 0

abbrev pub labels : Name → Name → Name → Option ℕ → StaticRow
labels class name kind source = record { class = class; name = name; kind = kind; source = source }

pub record FindsLabels : Type 0 where
  -- the row is that of class, name and type; by name and type alone it gives Some 0, by class and type alone Some 1, and by class
  -- and name alone Some 2
  pub of_field : label_by (
      labels plain_class (codes "s") int (Some 0)
      ∷ labels base_class (codes "t") int (Some 1)
      ∷ labels base_class (codes "s") object (Some 2)
      ∷ labels base_class (codes "s") int (Some 3)
      ∷ []) ≡ Some 3
  -- the first row of a field tells, though it has no source; one that is passed over for the next gives Some 0
  pub first_row : label_by (labels base_class (codes "s") int None ∷ labels base_class (codes "s") int (Some 0) ∷ []) ≡ None

abbrev pub StaticsAreLookedUp : Type 0
StaticsAreLookedUp = FindsReaders × FindsLabels

-- Class data (Android documentation, "Dalvik executable format", class_data_item, encoded_field and encoded_method).
use Rattle.std.specs.Prelude.{ℕ, ◌+◌, ◌==◌, List, [], Option, nat_lt, if◌then◌else◌}
use Rattle.vet_base.specs.Script.{Script, Value, ◌>>=◌, test, repeat, walk}
use Rattle.dex_tables.specs.declared.fault.Fault.{Fault}
use Rattle.dex_tables.specs.declared.fault.Fault.TheVariants.{TooMany}
use Rattle.dex_tables.specs.declared.fault.Limit.TheVariants as limits
use Rattle.dex_tables.specs.declared.fault.Table.TheVariants as tables
use Rattle.dex_tables.specs.declared.dex.Body.{Body}
use Rattle.dex_tables.specs.declared.dex.ClassDef.{ClassDef}
use Rattle.dex_tables.specs.declared.dex.Member.{Member}
use Rattle.dex_tables.specs.declared.dex.RawCode.{RawCode}
use Rattle.dex_reader.specs.declared.class_data.Counts.{Counts}
use Rattle.dex_reader.specs.declared.class_data.ClassData.{ClassData}
use Rattle.dex_reader.specs.declared.class_data.Walk.{Walk}
use Rattle.dex_reader.specs.declared.class_defs.ClassRow.{ClassRow}
use Rattle.dex_tables.specs.declared.place.Sizes.{Sizes}
use Rattle.dex_tables.specs.declared.place.Totals.{Totals}
use Rattle.dex_tables.specs.Parts.{uleb_at, index_test}
use Rattle.dex_bodies.specs.Code.{maybe_code_at}
use Rattle.dex_tables.specs.Totals.{no_totals}

-- where the next member stands, the sum of the index differences before it, and the running totals
abbrev pub walk_at : ℕ → ℕ → Totals → Walk
walk_at at index totals = record { at = at; index = index; totals = totals }

abbrev pub one_more : Totals → Totals
one_more totals = record totals { members = totals.members + 1 }

-- one member more, which the limit allows
unfoldable pub counted : Totals → Script Fault Totals
counted totals = do
  _ ← test (nat_lt totals.members 400000) (TooMany limits.ClassData)
  Value (one_more totals)

-- the index that a difference leads to, below the size of its table
unfoldable pub sum_below : ℕ → ℕ → ℕ → ℕ → Script Fault ℕ
sum_below index difference size class = do
  _ ← index_test (index + difference) size tables.ClassData class
  Value (index + difference)

abbrev pub member_of : ℕ → ℕ → Member
member_of index flags = record { index = index; flags = flags }

-- a field of the class in this row of class_defs: the difference of its index to the one before, and its flags
unfoldable pub member_row : List ℕ → ℕ → ℕ → Walk → Script Fault (Member × Walk)
member_row file fields class s = do
  difference ← uleb_at file s.at
  index ← sum_below s.index difference.0 fields class
  flags ← uleb_at file difference.1
  totals ← counted s.totals
  Value (member_of index flags.0, walk_at flags.1 index totals)

-- one list of fields: its differences begin at 0
unfoldable pub members_at : List ℕ → ℕ → ℕ → ℕ → ℕ → Totals → Script Fault (List Member × Walk)
members_at file fields class count at totals = repeat count (member_row file fields class) (walk_at at 0 totals)

abbrev pub body_of : ℕ → ℕ → Option RawCode → Body
body_of index flags code = record { index = index; flags = flags; code = code }

-- a method: the difference of its index, its flags, and the offset of its code item
unfoldable pub body_row : List ℕ → Sizes → ℕ → Walk → Script Fault (Body × Walk)
body_row file sizes class s = do
  difference ← uleb_at file s.at
  index ← sum_below s.index difference.0 sizes.methods class
  flags ← uleb_at file difference.1
  offset ← uleb_at file flags.1
  totals ← counted s.totals
  code ← maybe_code_at file sizes.types offset.0 totals
  Value (body_of index flags.0 code.0, walk_at offset.1 index code.1)

unfoldable pub bodies_at : List ℕ → Sizes → ℕ → ℕ → ℕ → Totals → Script Fault (List Body × Walk)
bodies_at file sizes class count at totals = repeat count (body_row file sizes class) (walk_at at 0 totals)

-- the lengths of the four lists, and where the first list begins
unfoldable pub counts_at : List ℕ → ℕ → Script Fault Counts
counts_at file offset = do
  statics ← uleb_at file offset
  instances ← uleb_at file statics.1
  directs ← uleb_at file instances.1
  virtuals ← uleb_at file directs.1
  Value (record { statics = statics.0; instances = instances.0; directs = directs.0; virtuals = virtuals.0; at = virtuals.1 })

abbrev pub class_data_of : List Member → List Member → List Body → List Body → ClassData
class_data_of statics instances directs virtuals = record { statics = statics; instances = instances; directs = directs; virtuals = virtuals }

unfoldable pub some_class_data_at : List ℕ → Sizes → ℕ → ℕ → Totals → Script Fault (ClassData × Totals)
some_class_data_at file sizes class offset totals = do
  counts ← counts_at file offset
  statics ← members_at file sizes.fields class counts.statics counts.at totals
  instances ← members_at file sizes.fields class counts.instances statics.1.at statics.1.totals
  directs ← bodies_at file sizes class counts.directs instances.1.at instances.1.totals
  virtuals ← bodies_at file sizes class counts.virtuals directs.1.at directs.1.totals
  Value (class_data_of statics.0 instances.0 directs.0 virtuals.0, virtuals.1.totals)

-- offset 0 stands for a class with no members
unfoldable pub class_data_at : List ℕ → Sizes → ℕ → ℕ → Totals → Script Fault (ClassData × Totals)
class_data_at file sizes class offset totals = if offset == 0 then Value (class_data_of [] [] [] [], totals) else some_class_data_at file sizes class offset totals

abbrev pub class_def_of : ClassRow → ClassData → ClassDef
class_def_of row lists = record { class = row.class; flags = row.flags; superclass = row.superclass; interfaces = row.interfaces; statics = lists.statics; instances = lists.instances; directs = lists.directs; virtuals = lists.virtuals }

-- the class of a row, with its class data
unfoldable pub class_of : List ℕ → Sizes → ClassRow → Totals → Script Fault (ClassDef × Totals)
class_of file sizes row totals = do
  lists ← class_data_at file sizes row.row row.class_data totals
  Value (class_def_of row lists.0, lists.1)

unfoldable pub classes_at : List ℕ → Sizes → List ClassRow → Script Fault (List ClassDef × Totals)
classes_at file sizes class_rows = walk (class_of file sizes) class_rows no_totals

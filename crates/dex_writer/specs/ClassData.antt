-- How a class is spelled ("Dalvik executable format": class_def_item, class_data_item).
use Rattle.std.specs.Prelude.{ℕ, ◌+◌, ◌-◌, List, [], ◌∷◌, ◌++◌, length, Option, Some, None}
use Rattle.std.specs.List.{flat_map}
use Rattle.dex_tables.specs.declared.dex.Member.{Member}
use Rattle.dex_tables.specs.declared.dex.Body.{Body}
use Rattle.dex_tables.specs.declared.dex.RawCode.{RawCode}
use Rattle.dex_tables.specs.declared.dex.ClassDef.{ClassDef}
use Rattle.dex_writer.specs.Bytes.{u4_bytes, uleb_bytes, padding_of, type_list}
use Rattle.dex_writer.specs.CodeItem.{code_bytes}
use Rattle.dex_writer.specs.Placed.{offset_of}

-- each field by how much its row is above the one before it
unfoldable pub members_bytes : ℕ → List Member → List ℕ
members_bytes before [] = []
members_bytes before (m ∷ ms) = uleb_bytes (m.index - before) ++ uleb_bytes m.flags ++ members_bytes m.index ms

abbrev pub maybe_code : Option RawCode → List ℕ
maybe_code None = []
maybe_code (Some code) = code_bytes code

-- the code item of a method, and nothing for a method without code
abbrev pub body_code : Body → List ℕ
body_code body = maybe_code body.code

-- Each method by how much its row is above the one before it, with the offset of its code; the code items of the methods
-- stand one behind the other from that offset on.
unfoldable pub bodies_bytes : ℕ → ℕ → List Body → List ℕ
bodies_bytes before at [] = []
bodies_bytes before at (b ∷ bs) = uleb_bytes (b.index - before) ++ uleb_bytes b.flags ++ uleb_bytes (offset_of at (body_code b)) ++ bodies_bytes b.index (at + length (body_code b)) bs

-- where the code of the virtual methods stands, which stands behind that of the direct ones, and the code of both
unfoldable pub virtuals_at : ℕ → ClassDef → ℕ
virtuals_at at class = at + length (flat_map body_code class.directs)

unfoldable pub class_code : ClassDef → List ℕ
class_code class = flat_map body_code class.directs ++ flat_map body_code class.virtuals

-- a class data item, with the rows of the direct and of the virtual methods
unfoldable pub class_item : ClassDef → List ℕ → List ℕ → List ℕ
class_item class directs virtuals = uleb_bytes (length class.statics) ++ uleb_bytes (length class.instances) ++ uleb_bytes (length class.directs) ++ uleb_bytes (length class.virtuals)
    ++ members_bytes 0 class.statics ++ members_bytes 0 class.instances ++ directs ++ virtuals

-- the class data of a class whose code stands at that offset
unfoldable pub class_data : ℕ → ClassDef → List ℕ
class_data at class = class_item class (bodies_bytes 0 at class.directs) (bodies_bytes 0 (virtuals_at at class) class.virtuals)

-- the code and the class data from that offset on, up to a multiple of four bytes
unfoldable pub code_and_data : ℕ → ClassDef → List ℕ
code_and_data at class = class_code class ++ class_data at class ++ padding_of (length (class_data at class))

-- all that the row of a class points to, from an offset on: its interfaces, the code of its methods, and its class data
unfoldable pub code_begin : ℕ → ClassDef → ℕ
code_begin at class = at + length (type_list class.interfaces)

unfoldable pub data_begin : ℕ → ClassDef → ℕ
data_begin at class = code_begin at class + length (class_code class)

unfoldable pub class_bytes : ℕ → ClassDef → List ℕ
class_bytes at class = type_list class.interfaces ++ code_and_data (code_begin at class) class

-- the superclass, or what stands for none
abbrev pub index_or_none : Option ℕ → ℕ
index_or_none None = 4294967295
index_or_none (Some index) = index

unfoldable pub class_head : ClassDef → List ℕ
class_head class = u4_bytes class.class ++ u4_bytes class.flags ++ u4_bytes (index_or_none class.superclass)

-- The row of a class with its interfaces and its class data at these offsets. It names no source file, no annotations and no
-- static values.
unfoldable pub class_row : ClassDef → ℕ → ℕ → List ℕ
class_row class interfaces place = class_head class ++ u4_bytes interfaces ++ u4_bytes 4294967295 ++ u4_bytes 0 ++ u4_bytes place ++ u4_bytes 0

-- the row of a class whose bytes stand at that offset
unfoldable pub placed_row : ℕ → ClassDef → List ℕ
placed_row at class = class_row class (offset_of at (type_list class.interfaces)) (data_begin at class)

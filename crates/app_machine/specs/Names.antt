-- Names of classes, methods and types, as the bytes of their descriptors.
-- Android documentation, Dalvik Executable format: "TypeDescriptor semantics", "ShortyDescriptor".
use Rattle.std.specs.Prelude.{ℕ, ◌+◌, Bool, false, ◌&&◌, ◌||◌, ◌==◌, nat_eq, if◌then◌else◌, List, [], ◌∷◌, ◌++◌, codes}
use Rattle.std.specs.Cmp.Lexicographic.{pointwise}
pub use Rattle.vet_base.specs.declared.name.Name.{Name}
use Rattle.app_machine.specs.declared.call.Proto.{Proto}

-- the same bytes
abbrev pub same_name : Name → Name → Bool
same_name = pointwise nat_eq

abbrev pub same_names : List Name → List Name → Bool
same_names = pointwise same_name

abbrev pub same_proto : Proto → Proto → Bool
same_proto p q = same_names p.params q.params && same_name p.ret q.ret

-- the names one after the other
abbrev pub joined : List Name → Name
joined [] = []
joined (name ∷ names) = name ++ joined names

-- the text of a method's descriptor: the parameters in parentheses, and the result
unfoldable pub descriptor_of : Proto → Name
descriptor_of p = codes "(" ++ joined p.params ++ codes ")" ++ p.ret

-- a class or an array
unfoldable pub is_reference : Name → Bool
is_reference [] = false
is_reference (byte ∷ bytes) = (byte == 76) || (byte == 91)

unfoldable pub is_array : Name → Bool
is_array [] = false
is_array (byte ∷ bytes) = byte == 91

-- the array type of this element type
abbrev pub array_of : Name → Name
array_of type = 91 ∷ type

-- `long` and `double`, which stand in two registers
unfoldable pub is_wide : Name → Bool
is_wide type = same_name type (codes "J") || same_name type (codes "D")

unfoldable pub is_void : Name → Bool
is_void type = same_name type (codes "V")

-- how many registers hold a value of the type
abbrev pub width : Name → ℕ
width type = if is_wide type then 2 else 1

abbrev pub widths : List Name → ℕ
widths [] = 0
widths (type ∷ types) = width type + widths types

-- the class above all others
unfoldable pub object_class : Name
object_class = codes "Ljava/lang/Object;"

-- the interfaces above all arrays
unfoldable pub array_types : List Name
array_types = codes "Ljava/lang/Cloneable;" ∷ codes "Ljava/io/Serializable;" ∷ []

-- `<clinit>`, the name of class initialisers, and their prototype `()V`
unfoldable pub initialiser_name : Name
initialiser_name = codes "<clinit>"

unfoldable pub initialiser_proto : Proto
initialiser_proto = record { params = []; ret = codes "V" }

-- the descriptor of a click method
unfoldable pub click_descriptor : Name
click_descriptor = codes "(Landroid/view/View;)V"

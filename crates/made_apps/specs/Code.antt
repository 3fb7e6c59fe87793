-- The code of a generated app ("Dalvik bytecode").
use Rattle.std.specs.Prelude.{ℕ, zero, suc, pos, ◌+◌, List, [], ◌∷◌, None}
use Rattle.dex_maker.specs.declared.listing.ListedLine.{ListedLine}
use Rattle.dex_maker.specs.declared.listing.ListedLine.TheVariants.{Plain}
use Rattle.dex_maker.specs.declared.listing.Operand.{Operand}
use Rattle.dex_maker.specs.declared.listing.Operand.TheVariants.{Nothing, Class, Field, Method}
use Rattle.made_apps.specs.declared.body.Body.{Body}
use Rattle.made_apps.specs.declared.body.Body.TheVariants.{Returned, PassedOn, ThroughArray, Stored}
use Rattle.made_apps.specs.Names.{work_class, object_class, object_array, string_class, device_class, net_class, void, id, post, static_field, method_name}

-- instructions without a target: opcode, registers, literal, and what the index names
abbrev pub invoke_static : List ℕ → Operand → ListedLine
invoke_static arguments method = Plain 0x71 arguments (pos 0) method None

abbrev pub move_result_object : ℕ → ListedLine
move_result_object to = Plain 0x0C (to ∷ []) (pos 0) Nothing None

abbrev pub return_object : ℕ → ListedLine
return_object from = Plain 0x11 (from ∷ []) (pos 0) Nothing None

abbrev pub return_void : ListedLine
return_void = Plain 0x0E [] (pos 0) Nothing None

abbrev pub const_4 : ℕ → ℕ → ListedLine
const_4 to value = Plain 0x12 (to ∷ []) (pos value) Nothing None

abbrev pub new_array : ℕ → ℕ → List ℕ → ListedLine
new_array to size kind = Plain 0x23 (to ∷ size ∷ []) (pos 0) (Class kind) None

abbrev pub aget_object : ℕ → ℕ → ℕ → ListedLine
aget_object to array index = Plain 0x46 (to ∷ array ∷ index ∷ []) (pos 0) Nothing None

abbrev pub aput_object : ℕ → ℕ → ℕ → ListedLine
aput_object from array index = Plain 0x4D (from ∷ array ∷ index ∷ []) (pos 0) Nothing None

abbrev pub sput_object : ℕ → Operand → ListedLine
sput_object from field = Plain 0x69 (from ∷ []) (pos 0) field None

-- what the code names: the library's `String Device.id()` and `void Net.post(Object)`, and method i and the field of `Work`
abbrev pub device_id : Operand
device_id = Method device_class id [] string_class

abbrev pub net_post : Operand
net_post = Method net_class post (object_class ∷ []) void

abbrev pub work_method : ℕ → Operand
work_method i = Method work_class (method_name i) (object_class ∷ []) object_class

abbrev pub work_field : Operand
work_field = Field work_class static_field object_class

-- the four bodies, whose argument is v2: it is returned; passed on to method j; taken through an array; stored in the field
unfoldable pub returned_lines : List ListedLine
returned_lines = return_object 2 ∷ []

unfoldable pub passed_on_lines : ℕ → List ListedLine
passed_on_lines j = invoke_static (2 ∷ []) (work_method j) ∷ move_result_object 0 ∷ return_object 0 ∷ []

unfoldable pub through_array_lines : List ListedLine
through_array_lines = const_4 0 1 ∷ new_array 1 0 object_array ∷ const_4 0 0 ∷ aput_object 2 1 0 ∷ aget_object 0 1 0 ∷ return_object 0 ∷ []

unfoldable pub stored_lines : List ListedLine
stored_lines = sput_object 2 work_field ∷ const_4 0 0 ∷ return_object 0 ∷ []

unfoldable pub body_lines : Body → List ListedLine
body_lines Returned = returned_lines
body_lines (PassedOn j) = passed_on_lines j
body_lines ThroughArray = through_array_lines
body_lines Stored = stored_lines

-- v0 is passed to so many methods from method i on, and each result is posted; then the code returns
abbrev pub calls_from : ℕ → ℕ → List ListedLine
calls_from zero i = return_void ∷ []
calls_from (suc left) i = invoke_static (0 ∷ []) (work_method i) ∷ move_result_object 1 ∷ invoke_static (1 ∷ []) net_post ∷ calls_from left (i + 1)

-- the device's id is passed to each of so many methods
unfoldable pub main_lines : ℕ → List ListedLine
main_lines size = invoke_static [] device_id ∷ move_result_object 0 ∷ calls_from size 0

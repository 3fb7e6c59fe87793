-- The listing of a generated app.
use Rattle.std.specs.Prelude.{ℕ, zero, suc, ◌+◌, List, [], ◌∷◌, Some}
use Rattle.dex_maker.specs.declared.listing.Listing.{Listing}
use Rattle.dex_maker.specs.declared.listing.ListedClass.{ListedClass}
use Rattle.dex_maker.specs.declared.listing.ListedField.{ListedField}
use Rattle.dex_maker.specs.declared.listing.ListedMethod.{ListedMethod}
use Rattle.dex_maker.specs.declared.listing.ListedCode.{ListedCode}
use Rattle.dex_maker.specs.declared.listing.ListedLine.{ListedLine}
use Rattle.made_apps.specs.declared.body.Body.{Body}
use Rattle.made_apps.specs.Names.{main_class, work_class, activity_class, bundle_class, object_class, void, on_create, static_field, method_name}
use Rattle.made_apps.specs.Draws.{body_drawn, state_behind}
use Rattle.made_apps.specs.Code.{body_lines, main_lines}

abbrev pub code_of : ℕ → ℕ → List ListedLine → ListedCode
code_of registers ins lines = record { registers = registers; ins = ins; lines = lines; tries = [] }

-- `onCreate(Bundle)`, the one method of the app's activity
unfoldable pub main_method : ℕ → ListedMethod
main_method size = record { name = on_create; params = bundle_class ∷ []; ret = void; flags = 1; code = Some (code_of 4 2 (main_lines size)) }

unfoldable pub main_listed : ℕ → ListedClass
main_listed size = record { name = main_class; flags = 1; superclass = Some activity_class; interfaces = []; fields = []; methods = main_method size ∷ [] }

-- static method i, from an object to an object
unfoldable pub method_listed : ℕ → Body → ListedMethod
method_listed i body = record { name = method_name i; params = object_class ∷ []; ret = object_class; flags = 9; code = Some (code_of 3 1 (body_lines body)) }

-- so many methods from method i of `size` on, the first drawn in a state
abbrev pub methods_from : ℕ → ℕ → ℕ → ℕ → List ListedMethod
methods_from zero size i x = []
methods_from (suc left) size i x = method_listed i (body_drawn size i x) ∷ methods_from left size (i + 1) (state_behind size i x)

unfoldable pub field_listed : ListedField
field_listed = record { name = static_field; kind = object_class; flags = 9 }

unfoldable pub work_listed : ℕ → ℕ → ListedClass
work_listed seed size = record { name = work_class; flags = 1; superclass = Some object_class; interfaces = []; fields = field_listed ∷ []; methods = methods_from size size 0 seed }

-- the app of a seed with so many drawn methods
unfoldable pub made : ℕ → ℕ → Listing
made seed size = record { classes = main_listed size ∷ work_listed seed size ∷ [] }

-- The descriptor of a method: its parameters' types in parentheses, and the type of its result.
-- Android documentation, Dalvik Executable format: "TypeDescriptor semantics", "proto_id_item".
use Rattle.std.specs.Prelude.{ℕ, ◌+◌, ◌==◌, ◌&&◌, ◌||◌, not, nat_le, nat_lt, Bool, false, List, [], length, take, drop, slice_index, position, Option, Some, None, if◌then◌else◌}
use Rattle.vet_base.specs.Script.{Script, Value, Test, ◌>>=◌, test, sweep}
use Rattle.app_machine.specs.Names.{Name}
use Rattle.app_machine.specs.declared.call.Proto.{Proto}
use Rattle.form_fields.specs.declared.fault.Fault.{Fault}
use Rattle.form_fields.specs.declared.fault.Fault.TheVariants.{Range}
use Rattle.form_fields.specs.declared.words.Section.{Section}
use Rattle.form_fields.specs.declared.words.Key.{Key}

-- `Z`, `B`, `S`, `C`, `I`, `J`, `F` and `D`
unfoldable pub is_primitive : ℕ → Bool
is_primitive b = (b == 90) || (b == 66) || (b == 83) || (b == 67) || (b == 73) || (b == 74) || (b == 70) || (b == 68)

-- the length of the class at the head of a text, whose first `;` stands at that place: `L`, a name, `;`
abbrev pub ends_at : Option ℕ → Option ℕ
ends_at None = None
ends_at (Some i) = if nat_le 2 i then Some (i + 1) else None

unfoldable pub first_semicolon : List ℕ → Option ℕ
first_semicolon s = position (λ b. b == 59) s

-- the length of the type at the head of a text that is no array
unfoldable pub base_length : List ℕ → Option ℕ
base_length s =
    if is_primitive (slice_index s 0) then Some 1
    else if slice_index s 0 == 76 then ends_at (first_semicolon s)
    else None

unfoldable pub first_of_base : List ℕ → Option ℕ
first_of_base s = position (λ b. not (b == 91)) s

abbrev pub plus : ℕ → Option ℕ → Option ℕ
plus n None = None
plus n (Some m) = Some (n + m)

-- behind so many `[`, at most 255
abbrev pub behind : List ℕ → Option ℕ → Option ℕ
behind s None = None
behind s (Some n) = if nat_le n 255 then plus n (base_length (drop n s)) else None

-- the length of the type at the head of a text, where there is one
unfoldable pub type_length : List ℕ → Option ℕ
type_length s = behind s (first_of_base s)

-- there is another parameter
unfoldable pub has_param : List ℕ → ℕ → Bool
has_param text at = nat_lt at (length text) && not (slice_index text at == 41)

abbrev pub param_of : Section → Key → List ℕ → ℕ → Option ℕ → Script Fault (Name × ℕ)
param_of s k text at None = Test false (Range s k) (Value ([], at))
param_of s k text at (Some n) = Value (take n (drop at text), at + n)

unfoldable pub param_at : Section → Key → List ℕ → ℕ → Script Fault (Name × ℕ)
param_at s k text at = param_of s k text at (type_length (drop at text))

unfoldable pub params_of : Section → Key → List ℕ → Script Fault (List Name × ℕ)
params_of s k text = sweep (length text) (has_param text) (param_at s k text) 1

-- a type that is the whole text
abbrev pub is_whole : List ℕ → Option ℕ → Bool
is_whole s None = false
is_whole s (Some n) = n == length s

unfoldable pub is_type : List ℕ → Bool
is_type s = is_whole s (type_length s)

unfoldable pub is_void : List ℕ → Bool
is_void s = (length s == 1) && (slice_index s 0 == 86)

-- `)` at that place, and behind it `V` or a type
unfoldable pub has_result : List ℕ → ℕ → Bool
has_result text at = nat_lt at (length text) && (slice_index text at == 41) && (is_void (drop (at + 1) text) || is_type (drop (at + 1) text))

unfoldable pub has_params : List ℕ → Bool
has_params text = nat_lt 0 (length text) && (slice_index text 0 == 40)

-- the parameters and the result that a descriptor names
unfoldable pub proto_of : Section → Key → List ℕ → Script Fault Proto
proto_of s k text = do
  _ ← test (has_params text) (Range s k)
  params ← params_of s k text
  _ ← test (has_result text params.1) (Range s k)
  Value (record { params = params.0; ret = drop (params.1 + 1) text })

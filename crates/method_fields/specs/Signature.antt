-- What tells one method of the lists from another, and its prototype.
use Rattle.std.specs.Prelude.{Bool, List, [], ◌∷◌, ◌++◌, is_none}
use Rattle.toml.specs.Data.{Members}
use Rattle.vet_base.specs.Script.{Script, Value, ◌>>=◌, test, each}
use Rattle.app_machine.specs.Names.{Name}
use Rattle.app_machine.specs.declared.call.Proto.{Proto}
use Rattle.form_fields.specs.declared.fault.Fault.{Fault}
use Rattle.form_fields.specs.declared.fault.Fault.TheVariants.{Twice, Range}
use Rattle.form_fields.specs.declared.words.Section.{Section}
use Rattle.form_fields.specs.declared.words.Key.TheVariants as key
use Rattle.form_fields.specs.declared.spelling.Spelling.TheVariants as spelling
use Rattle.method_fields.specs.declared.signature.MethodKey.{MethodKey}
use Rattle.method_fields.specs.declared.signature.Signature.{Signature}
use Rattle.method_fields.specs.SameKey.{same_row}
use Rattle.form_fields.specs.Places.{place_of}
use Rattle.form_fields.specs.Fields.{text_at}
use Rattle.method_fields.specs.Descriptor.{is_type, proto_of}

-- what tells one method row from another
abbrev pub same_key : MethodKey → MethodKey → Bool
same_key a b = same_row a.class b.class a.name b.name a.descriptor b.descriptor a.is_static b.is_static

unfoldable pub key_once : MethodKey → List MethodKey → Script Fault (List MethodKey)
key_once row seen = do
  _ ← test (is_none (place_of same_key row seen)) (Twice row.name)
  Value (seen ++ row ∷ [])

-- no row stands twice
unfoldable pub keys_once : List MethodKey → Script Fault (List MethodKey)
keys_once rows = each key_once rows []

-- the prototype of a row, and its descriptor as it stands there
unfoldable pub proto_at : Section → Members → Script Fault (Proto × Name)
proto_at s t = do
  descriptor ← text_at s key.Proto spelling.Any t
  proto ← proto_of s key.Proto descriptor
  Value (proto, descriptor)

-- the type of a field
unfoldable pub type_at : Section → Members → Script Fault Name
type_at s t = do
  text ← text_at s key.Type spelling.Text t
  _ ← test (is_type text) (Range s key.Type)
  Value text

unfoldable pub key_of : Signature → MethodKey
key_of at = record { class = at.class; name = at.name; descriptor = at.descriptor; is_static = at.is_static }

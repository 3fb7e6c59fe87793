-- The methods of app classes that the system calls.
use Rattle.std.specs.Prelude.{false, List, [], ◌∷◌, ◌++◌}
use Rattle.toml.specs.Data.{Data, Members}
use Rattle.vet_base.specs.Script.{Script, Value, ◌>>=◌, each}
use Rattle.app_machine.specs.Names.{Name}
use Rattle.app_machine.specs.declared.lists.Callback.{Callback}
use Rattle.form_fields.specs.declared.fault.Fault.{Fault}
use Rattle.form_fields.specs.declared.words.Section.TheVariants as section
use Rattle.form_fields.specs.declared.words.Key.TheVariants as key
use Rattle.form_fields.specs.declared.spelling.Spelling.TheVariants as spelling
use Rattle.method_fields.specs.declared.signature.MethodKey.{MethodKey}
use Rattle.method_fields.specs.declared.signature.Signature.{Signature}
use Rattle.store_lists.specs.declared.callbacks.CallbackRows.{CallbackRows}
use Rattle.form_fields.specs.Fields.{known, text_at, table_in}
use Rattle.method_fields.specs.Positions.{named_at}
use Rattle.app_machine.specs.Summaries.{position_count}
use Rattle.method_fields.specs.Signature.{proto_at, key_of}

-- the first keys of a row; a callback is no static method
unfoldable pub called_at : Members → Script Fault Signature
called_at t = do
  class ← text_at section.Callback key.Class spelling.Class t
  name ← text_at section.Callback key.Name spelling.Text t
  proto ← proto_at section.Callback t
  Value (record { class = class; name = name; proto = proto.0; descriptor = proto.1; is_static = false })

-- what a row says beside them
unfoldable pub callback_of : List Name → Signature → Members → Script Fault Callback
callback_of categories at t = do
  sources ← named_at section.Callback key.Sources (position_count false at.proto) categories t
  Value (record { class = at.class; name = at.name; proto = at.proto; sources = sources })

-- what a row says, and what tells it from others
unfoldable pub callback_at : List Name → Data → Script Fault (Callback × MethodKey)
callback_at categories d = do
  t ← table_in section.Lists key.Callback d
  _ ← known section.Callback t
  at ← called_at t
  callback ← callback_of categories at t
  Value (callback, key_of at)

-- a row more
unfoldable pub callback_row : List Name → Data → CallbackRows → Script Fault CallbackRows
callback_row categories d rows = do
  new ← callback_at categories d
  Value (record { rows = rows.rows ++ new.0 ∷ []; keys = rows.keys ++ new.1 ∷ [] })

unfoldable pub callbacks_of : List Name → List Data → Script Fault CallbackRows
callbacks_of categories tables = each (callback_row categories) tables (record { rows = []; keys = [] })

-- What the lists say of methods of the library.
use Rattle.std.specs.Prelude.{ℕ, not, Bool, List, [], ◌∷◌, ◌++◌, Option, Some, None, is_some}
use Rattle.toml.specs.Data.{Data, Members}
use Rattle.vet_base.specs.Script.{Script, Value, ◌>>=◌, test, each}
use Rattle.app_machine.specs.Names.{Name, same_name, is_reference}
use Rattle.app_machine.specs.Summaries.{position_count}
use Rattle.app_machine.specs.declared.summary.Summary.{Summary}
use Rattle.form_fields.specs.declared.fault.Fault.{Fault}
use Rattle.form_fields.specs.declared.fault.Fault.TheVariants.{Range}
use Rattle.form_fields.specs.declared.words.Section.TheVariants as section
use Rattle.form_fields.specs.declared.words.Key.TheVariants as key
use Rattle.form_fields.specs.declared.spelling.Spelling.TheVariants as spelling
use Rattle.form_fields.specs.declared.shape.Shape.TheVariants as shape
use Rattle.method_fields.specs.declared.signature.Signature.{Signature}
use Rattle.store_lists.specs.declared.methods.Listed.{Listed}
use Rattle.store_lists.specs.declared.methods.MethodRows.{MethodRows}
use Rattle.form_fields.specs.Places.{place_of}
use Rattle.form_fields.specs.Fields.{known, text_at, table_in}
use Rattle.method_fields.specs.Positions.{has_key, flag_at, items_at, positions_at, pairs_at, named_at, listed_at}
use Rattle.method_fields.specs.Signature.{proto_at, key_of}
use Rattle.method_fields.specs.Gives.{gives_at}

-- the name is one of these
unfoldable pub is_listed : List Name → Name → Bool
is_listed names name = is_some (place_of same_name name names)

-- the class of a row, which has a row of its own
unfoldable pub listed_class : List Name → Members → Script Fault Name
listed_class classes t = do
  class ← text_at section.Method key.Class spelling.Class t
  _ ← test (is_listed classes class) (Range section.Method key.Class)
  Value class

unfoldable pub signature_at : List Name → Members → Script Fault Signature
signature_at classes t = do
  class ← listed_class classes t
  name ← text_at section.Method key.Name spelling.Text t
  proto ← proto_at section.Method t
  is_static ← flag_at section.Method key.Static t
  Value (record { class = class; name = name; proto = proto.0; descriptor = proto.1; is_static = is_static })

-- the positions are there exactly with a sink; their types are tested before
abbrev pub fits_sink : Option ℕ → Bool → Bool
fits_sink None there = not there
fits_sink (Some n) there = there

unfoldable pub sink_fits : Option ℕ → Bool → Bool
sink_fits sink there = fits_sink sink there

abbrev pub sink_in : Option ℕ → List ℕ → Option (ℕ × List ℕ)
sink_in None positions = None
sink_in (Some n) positions = Some (n, positions)

unfoldable pub sink_with : Option ℕ → List ℕ → Option (ℕ × List ℕ)
sink_with sink positions = sink_in sink positions

unfoldable pub sink_at : List Name → ℕ → Members → Script Fault (Option (ℕ × List ℕ))
sink_at categories count t = do
  sink ← listed_at section.Method key.Sink categories t
  _ ← items_at section.Method key.Positions shape.Number t
  _ ← test (sink_fits sink (has_key key.Positions t)) (Range section.Method key.Positions)
  positions ← positions_at section.Method key.Positions count t
  Value (sink_with sink positions)

-- what a row says beside its signature
unfoldable pub summary_of : Listed → Signature → Members → Script Fault Summary
summary_of listed at t = do
  result ← gives_at listed.shared (position_count at.is_static at.proto) (is_reference at.proto.ret) t
  puts ← pairs_at section.Method key.Puts (position_count at.is_static at.proto) t
  stores ← named_at section.Method key.Stores (position_count at.is_static at.proto) listed.shared t
  copies ← pairs_at section.Method key.Copies (position_count at.is_static at.proto) t
  source ← listed_at section.Method key.Source listed.categories t
  sink ← sink_at listed.categories (position_count at.is_static at.proto) t
  reflective ← flag_at section.Method key.Reflective t
  Value (record {
    class = at.class;
    name = at.name;
    proto = at.proto;
    is_static = at.is_static;
    gives = result;
    puts = puts;
    stores = stores;
    copies = copies;
    source = source;
    sink = sink;
    reflective = reflective;
  })

-- a row more
unfoldable pub method_row : Listed → Data → MethodRows → Script Fault MethodRows
method_row listed d rows = do
  t ← table_in section.Lists key.Method d
  _ ← known section.Method t
  at ← signature_at listed.classes t
  summary ← summary_of listed at t
  Value (record { rows = rows.rows ++ summary ∷ []; keys = rows.keys ++ key_of at ∷ [] })

unfoldable pub methods_of : Listed → List Data → Script Fault MethodRows
methods_of listed tables = each (method_row listed) tables (record { rows = []; keys = [] })

-- The lists of the office: the limit of rows, the categories, what is said of the library, what of a device, and what of large apps.
use Rattle.std.specs.Prelude.{◌==◌, ◌&&◌, nat_le, Bool, List, [], ◌∷◌, ◌++◌, length, map}
use Rattle.toml.specs.Data.{Data, Members}
use Rattle.vet_base.specs.Script.{Script, Value, ◌>>=◌, test, each}
use Rattle.app_machine.specs.Names.{Name}
use Rattle.form_fields.specs.declared.fault.Fault.{Fault}
use Rattle.form_fields.specs.declared.fault.Fault.TheVariants.{Range}
use Rattle.form_fields.specs.declared.words.Section.TheVariants as section
use Rattle.form_fields.specs.declared.words.Key.TheVariants as key
use Rattle.form_fields.specs.declared.spelling.Spelling.TheVariants as spelling
use Rattle.store_lists.specs.declared.device.StaticRows.{StaticRows}
use Rattle.store_lists.specs.declared.lists.SharedObject.{SharedObject}
use Rattle.store_lists.specs.declared.lists.SharedRows.{SharedRows}
use Rattle.store_lists.specs.declared.lists.Rows.{Rows}
use Rattle.store_lists.specs.declared.lists.AllRows.{AllRows}
use Rattle.store_lists.specs.declared.lists.StoreLists.{StoreLists}
use Rattle.form_fields.specs.Once.{names_once, with_new}
use Rattle.form_fields.specs.Fields.{known, text_at, texts_at, number_at, tables_at, table_in}
use Rattle.store_lists.specs.Classes.{classes_of, class_name}
use Rattle.method_fields.specs.Signature.{keys_once}
use Rattle.store_lists.specs.Methods.{methods_of}
use Rattle.store_lists.specs.Callbacks.{callbacks_of}
use Rattle.store_lists.specs.Device.{device_at, statics_of}
use Rattle.store_lists.specs.Large.{large_at}

-- one category at least, and none of them twice
unfoldable pub are_categories : List Name → List Name → Bool
are_categories names distinct = nat_le 1 (length names) && (length distinct == length names)

-- 1 to 200 categories, no two the same
unfoldable pub categories_at : Members → Script Fault (List Name)
categories_at t = do
  names ← texts_at section.Lists key.Categories spelling.Category 200 t
  _ ← test (are_categories names (with_new [] names)) (Range section.Lists key.Categories)
  Value (with_new [] names)

-- the name and the class of a shared object
unfoldable pub shared_object : Data → Script Fault SharedObject
shared_object d = do
  t ← table_in section.Lists key.Shared d
  _ ← known section.Shared t
  name ← text_at section.Shared key.Name spelling.Text t
  class ← text_at section.Shared key.Class spelling.Class t
  Value (record { name = name; class = class })

-- a shared object more
unfoldable pub shared_row : Data → SharedRows → Script Fault SharedRows
shared_row d rows = do
  new ← shared_object d
  Value (record { rows = rows.rows ++ (new.name, new.class) ∷ []; names = rows.names ++ new.name ∷ [] })

unfoldable pub shared_of : List Data → Script Fault SharedRows
shared_of tables = each shared_row tables (record { rows = []; names = [] })

-- the rows of the four arrays, and what a method row may name
unfoldable pub rows_of : List Name → List Data → List Data → List Data → List Data → Script Fault Rows
rows_of categories class_tables shared_tables method_tables callback_tables = do
  classes ← classes_of class_tables
  shared ← shared_of shared_tables
  methods ← methods_of (record { categories = categories; classes = map class_name classes; shared = shared.names }) method_tables
  callbacks ← callbacks_of categories callback_tables
  Value (record {
    listed = record { categories = categories; classes = map class_name classes; shared = shared.names };
    classes = classes;
    shared = shared.rows;
    methods = methods;
    callbacks = callbacks;
  })

-- no class, shared name, method row, callback row or static field stands twice
unfoldable pub rows_once : Rows → StaticRows → Script Fault (Unit {0})
rows_once rows statics = do
  _ ← names_once rows.listed.classes
  _ ← names_once rows.listed.shared
  _ ← keys_once rows.methods.keys
  _ ← keys_once rows.callbacks.keys
  _ ← keys_once statics.keys
  Value tt

-- the tables of the four arrays: of classes and of shared objects, of methods and of callbacks
unfoldable pub arrays_at : Members → Script Fault ((List Data × List Data) × (List Data × List Data))
arrays_at t = do
  classes ← tables_at section.Lists key.Class 65536 t
  shared ← tables_at section.Lists key.Shared 65536 t
  methods ← tables_at section.Lists key.Method 65536 t
  callbacks ← tables_at section.Lists key.Callback 65536 t
  Value ((classes, shared), (methods, callbacks))

-- the rows of all arrays, of which none stands twice
unfoldable pub all_rows : List Name → (List Data × List Data) × (List Data × List Data) → List Data → Script Fault AllRows
all_rows categories arrays static_tables = do
  rows ← rows_of categories arrays.0.0 arrays.0.1 arrays.1.0 arrays.1.1
  statics ← statics_of rows.listed.categories static_tables
  _ ← rows_once rows statics
  Value (record { rows = rows; statics = statics })

unfoldable pub lists_form : Members → Script Fault StoreLists
lists_form t = do
  _ ← known section.Lists t
  most ← number_at section.Lists key.Rows 1 4000000 t
  categories ← categories_at t
  arrays ← arrays_at t
  device ← device_at t
  large ← large_at t
  all ← all_rows categories arrays device.1
  Value (record {
    lists = record { rows = most; categories = all.rows.listed.categories; classes = all.rows.classes; shared = all.rows.shared; methods = all.rows.methods.rows; callbacks = all.rows.callbacks.rows; statics = all.statics.rows };
    device = record { strict = device.0.strict; platform = device.0.platform; bundled = device.0.bundled };
    large = large;
  })

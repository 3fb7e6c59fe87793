-- Lists that are read are sound.
use Rattle.std.proofs.Common.{◌≡◌, ℕ, ◌+◌, ◌<◌, ◌≤◌, false, List, [], ◌∷◌, length, Ok, refl, ap, sym, subst, ◌∙◌, arith, length-append}
use Rattle.std.specs.Prelude.{◌==◌, nat_le, IsTrue, map, is_some, unwrap_or, IfSome}
use Rattle.std.specs.List.{All}
use Rattle.std.proofs.lemmas.Bool.{leb-true, eqb-true, and_parts}
use Rattle.std.proofs.lemmas.List.Elements.{All-nil, All-push}
use Rattle.toml.specs.Data.{Data, Members}
use Rattle.vet_base.specs.Script.{run, test}
use Rattle.app_machine.specs.Names.{Name, is_reference}
use Rattle.app_machine.specs.SoundLists.{SoundLists}
use Rattle.app_machine.specs.declared.lists.LibClass.{LibClass}
use Rattle.app_machine.specs.declared.summary.Summary.{Summary}
use Rattle.form_fields.specs.declared.fault.Fault.TheVariants.{Range}
use Rattle.form_fields.specs.declared.words.Section.TheVariants as section
use Rattle.form_fields.specs.declared.words.Key.TheVariants as key
use Rattle.form_fields.specs.declared.spelling.Spelling.TheVariants as spelling
use Rattle.method_fields.specs.declared.signature.Signature.{Signature}
use Rattle.store_lists.specs.declared.methods.Listed.{Listed}
use Rattle.store_lists.specs.declared.methods.MethodRows.{MethodRows}
use Rattle.store_lists.specs.declared.callbacks.CallbackRows.{CallbackRows}
use Rattle.store_lists.specs.declared.device.StaticRows.{StaticRows}
use Rattle.store_lists.specs.declared.lists.SharedRows.{SharedRows}
use Rattle.store_lists.specs.declared.lists.Rows.{Rows}
use Rattle.store_lists.specs.declared.lists.StoreLists.{StoreLists}
use Rattle.form_fields.specs.Once.{with_new}
use Rattle.form_fields.specs.Fields.{known, text_at, texts_at, number_at, tables_at, table_in}
use Rattle.store_lists.specs.Classes.{above_in, parent_row, parents_at, parents_above, fallback_at, class_at, class_row, classes_of, class_name}
use Rattle.method_fields.specs.Positions.{flag_at, pairs_at, named_at, listed_at}
use Rattle.app_machine.specs.Summaries.{position_count}
use Rattle.method_fields.specs.Gives.{gives_at}
use Rattle.method_fields.specs.Signature.{type_at}
use Rattle.store_lists.specs.Methods.{sink_at, signature_at, summary_of, method_row, methods_of}
use Rattle.store_lists.specs.Callbacks.{called_at, callback_of, callback_at, callback_row, callbacks_of}
use Rattle.store_lists.specs.Device.{device_at, static_at, static_row, statics_of}
use Rattle.store_lists.specs.Large.{large_at}
use Rattle.store_lists.specs.Lists.{are_categories, categories_at, shared_object, shared_row, shared_of, rows_of, rows_once, all_rows, arrays_at, lists_form}
use Rattle.app_machine.specs.SoundLists.{SoundGives, TwoPositions, NamedPosition, SoundSink, SoundClass, SoundSummary, SoundCallback, SoundStatic, SoundLists}
use Rattle.form_fields.proofs.Yields.{Yields, yields_value, yields_tested, yields_then, yields_past, yields_each}
use Rattle.form_fields.proofs.FieldYields.{number_within, tables_few, texts_few}
use Rattle.form_fields.proofs.Adding.{with_new_more}
use Rattle.method_fields.proofs.PositionsSound.{gives_within, pairs_within, named_are_within, listed_within}
use Rattle.store_lists.proofs.DeviceSound.{static_tables_few}
use Rattle.store_lists.proofs.SinkSound.{sink_within}

-- 1 to 200 categories
record FewCategories (names : List Name) : Type 0 where
  one : 1 ≤ length names
  few : length names ≤ 200

are_few : (names distinct : List Name) → length names ≤ 200 → IsTrue (are_categories names distinct) → FewCategories distinct
unfolding are_categories
are_few names distinct few h =
    let both = and_parts (nat_le 1 (length names)) (length distinct == length names) h in
    let one : 1 ≤ length names = leb-true 1 (length names) both.0 in
    let same : length distinct ≡ length names = eqb-true (length distinct) (length names) both.1 in
    record { one = omega arith; few = omega arith }

categories_few : (t : Members) → Yields FewCategories (categories_at t)
unfolding categories_at
categories_few t =
    yields_then _ _ (texts_at section.Lists key.Categories spelling.Category 200 t) _ (texts_few section.Lists key.Categories spelling.Category 200 t)
    (λ names few. yields_tested _ (are_categories names (with_new [] names)) (Range section.Lists key.Categories) (with_new [] names)
    (λ h. are_few names (with_new [] names) few h))

-- 1 to 64 classes above
record Above (n : ℕ) (above : List Name) : Type 0 where
  one : 1 ≤ length above
  few : length above ≤ 64

parent_few : (classes : List LibClass) (n : ℕ) (parent : Name) (above : List Name) → Above n above → Yields (Above (n + 1)) (parent_row classes parent above)
unfolding parent_row
parent_few classes n parent above so_far =
    let more : List Name = unwrap_or (above_in classes parent) [] in
    let all : List Name = with_new above more in
    let grows : length above ≤ length (with_new above more) = with_new_more above more in
    let one : 1 ≤ length above = so_far.one in
    yields_past _ (test (is_some (above_in classes parent)) (Range section.Class key.Parents)) _
    (λ _. yields_tested _ (nat_le (length all) 64) (Range section.Class key.Parents) all
    (λ h. record { one = omega arith; few = leb-true (length all) 64 h }))

parents_few : (classes : List LibClass) (parents : List Name) (name : Name) → Yields (Above (0 + length parents)) (parents_above classes parents name)
unfolding parents_above
parents_few classes parents name = yields_each Above (parent_row classes) (parent_few classes) parents 0 (name ∷ []) (record { one = omega arith; few = omega arith })

-- so many classes, each sound
record SoMany (n : ℕ) (classes : List LibClass) : Type 0 where
  is : length classes ≡ n
  sound : All SoundClass classes

class_sound : (d : Data) (classes : List LibClass) → Yields SoundClass (class_at d classes)
unfolding class_at
class_sound d classes =
    yields_past _ (table_in section.Lists key.Class d) _
    (λ t. yields_past _ (known section.Class t) _
    (λ _. yields_past _ (text_at section.Class key.Name spelling.Class t) _
    (λ name. yields_past _ (parents_at t) _
    (λ parents. yields_then _ _ (parents_above classes parents name) _ (parents_few classes parents name)
    (λ above few. yields_past _ (fallback_at t) _
    (λ fallback. yields_value _ _ (record { one_above = few.one; few_above = few.few })))))))

class_counted : (n : ℕ) (d : Data) (classes : List LibClass) → SoMany n classes → Yields (SoMany (n + 1)) (class_row d classes)
unfolding class_row
class_counted n d classes so_far =
    yields_then SoundClass _ (class_at d classes) _ (class_sound d classes)
    (λ class sound. yields_value _ _ (record {
      is = omega (arith, so_far.is, length-append classes (class ∷ []));
      sound = All-push SoundClass classes class so_far.sound sound;
    }))

classes_counted : (ds : List Data) → Yields (SoMany (0 + length ds)) (classes_of ds)
unfolding classes_of
classes_counted ds = yields_each SoMany class_row class_counted ds 0 [] (record { is = refl; sound = All-nil SoundClass })

-- so many shared objects
record SharedCounted (n : ℕ) (shared : SharedRows) : Type 0 where
  rows : length shared.rows ≡ n
  names : length shared.names ≡ n

shared_row_counted : (n : ℕ) (d : Data) (shared : SharedRows) → SharedCounted n shared → Yields (SharedCounted (n + 1)) (shared_row d shared)
unfolding shared_row
shared_row_counted n d shared so_far =
    yields_past _ (shared_object d) _
    (λ new. yields_value _ _ (record {
      rows = omega (arith, so_far.rows, length-append shared.rows ((new.name, new.class) ∷ []));
      names = omega (arith, so_far.names, length-append shared.names (new.name ∷ []));
    }))

shared_counted : (ds : List Data) → Yields (SharedCounted (0 + length ds)) (shared_of ds)
unfolding shared_of
shared_counted ds = yields_each SharedCounted shared_row shared_row_counted ds 0 (record { rows = []; names = [] }) (record { rows = refl; names = refl })

summary_sound : (listed : Listed) (at : Signature) (t : Members) → Yields (SoundSummary (length listed.categories) (length listed.shared)) (summary_of listed at t)
unfolding summary_of
summary_sound listed at t =
    let count : ℕ = position_count at.is_static at.proto in
    yields_then (SoundGives count (length listed.shared)) _ (gives_at listed.shared count (is_reference at.proto.ret) t) _ (gives_within listed.shared count (is_reference at.proto.ret) t)
    (λ result r. yields_then (All (TwoPositions count)) _ (pairs_at section.Method key.Puts count t) _ (pairs_within section.Method key.Puts count t)
    (λ puts p. yields_then (All (NamedPosition count (length listed.shared))) _ (named_at section.Method key.Stores count listed.shared t) _ (named_are_within section.Method key.Stores count listed.shared t)
    (λ stores s. yields_then (All (TwoPositions count)) _ (pairs_at section.Method key.Copies count t) _ (pairs_within section.Method key.Copies count t)
    (λ copies c. yields_then (λ o. IfSome o (λ n. n < length listed.categories)) _ (listed_at section.Method key.Source listed.categories t) _ (listed_within section.Method key.Source listed.categories t)
    (λ source o. yields_then (λ o. IfSome o (SoundSink count (length listed.categories))) _ (sink_at listed.categories count t) _ (sink_within listed.categories count t)
    (λ sink k. yields_past _ (flag_at section.Method key.Reflective t) _
    (λ reflective. yields_value _ _ (record { result = r; puts = p; stores = s; copies = c; source = o; sink = k }))))))))

-- so many methods, each sound
record MethodsCounted (categories shared n : ℕ) (methods : MethodRows) : Type 0 where
  is : length methods.rows ≡ n
  sound : All (SoundSummary categories shared) methods.rows

method_counted : (listed : Listed) (n : ℕ) (d : Data) (methods : MethodRows) → MethodsCounted (length listed.categories) (length listed.shared) n methods
    → Yields (MethodsCounted (length listed.categories) (length listed.shared) (n + 1)) (method_row listed d methods)
unfolding method_row
method_counted listed n d methods so_far =
    let Sound : Summary → Type 0 = SoundSummary (length listed.categories) (length listed.shared) in
    yields_past _ (table_in section.Lists key.Method d) _
    (λ t. yields_past _ (known section.Method t) _
    (λ _. yields_past _ (signature_at listed.classes t) _
    (λ at. yields_then Sound _ (summary_of listed at t) _ (summary_sound listed at t)
    (λ summary sound. yields_value _ _ (record {
      is = omega (arith, so_far.is, length-append methods.rows (summary ∷ []));
      sound = All-push Sound methods.rows summary so_far.sound sound;
    })))))

methods_counted : (listed : Listed) (ds : List Data) → Yields (MethodsCounted (length listed.categories) (length listed.shared) (0 + length ds)) (methods_of listed ds)
unfolding methods_of
methods_counted listed ds =
    yields_each (MethodsCounted (length listed.categories) (length listed.shared)) (method_row listed) (method_counted listed) ds 0 (record { rows = []; keys = [] })
    (record { is = refl; sound = All-nil (SoundSummary (length listed.categories) (length listed.shared)) })

-- so many callbacks, each sound
record CallbacksCounted (categories n : ℕ) (callbacks : CallbackRows) : Type 0 where
  is : length callbacks.rows ≡ n
  sound : All (SoundCallback categories) callbacks.rows

sources_sound : (categories : List Name) (at : Signature) (t : Members) → Yields (SoundCallback (length categories)) (callback_of categories at t)
unfolding callback_of
sources_sound categories at t =
    yields_then _ _ (named_at section.Callback key.Sources (position_count false at.proto) categories t) _ (named_are_within section.Callback key.Sources (position_count false at.proto) categories t)
    (λ sources within. yields_value _ _ (record { sources = within }))

callback_sound : (categories : List Name) (d : Data) → Yields (λ r. SoundCallback (length categories) r.0) (callback_at categories d)
unfolding callback_at
callback_sound categories d =
    yields_past _ (table_in section.Lists key.Callback d) _
    (λ t. yields_past _ (known section.Callback t) _
    (λ _. yields_past _ (called_at t) _
    (λ at. yields_then (SoundCallback (length categories)) _ (callback_of categories at t) _ (sources_sound categories at t)
    (λ callback sound. yields_value _ _ sound))))

callback_counted : (categories : List Name) (n : ℕ) (d : Data) (callbacks : CallbackRows) → CallbacksCounted (length categories) n callbacks
    → Yields (CallbacksCounted (length categories) (n + 1)) (callback_row categories d callbacks)
unfolding callback_row
callback_counted categories n d callbacks so_far =
    yields_then (λ r. SoundCallback (length categories) r.0) _ (callback_at categories d) _ (callback_sound categories d)
    (λ new sound. yields_value _ _ (record {
      is = omega (arith, so_far.is, length-append callbacks.rows (new.0 ∷ []));
      sound = All-push (SoundCallback (length categories)) callbacks.rows new.0 so_far.sound sound;
    }))

callbacks_counted : (categories : List Name) (ds : List Data) → Yields (CallbacksCounted (length categories) (0 + length ds)) (callbacks_of categories ds)
unfolding callbacks_of
callbacks_counted categories ds =
    yields_each (CallbacksCounted (length categories)) (callback_row categories) (callback_counted categories) ds 0 (record { rows = []; keys = [] })
    (record { is = refl; sound = All-nil (SoundCallback (length categories)) })

-- as many rows as tables
record Counted (categories : List Name) (cs ss ms ks : ℕ) (rows : Rows) : Type 0 where
  same : rows.listed.categories ≡ categories
  classes : length rows.classes ≡ cs
  shared : length rows.shared ≡ ss
  methods : length rows.methods.rows ≡ ms
  callbacks : length rows.callbacks.rows ≡ ks
  sound_classes : All SoundClass rows.classes
  sound_methods : All (SoundSummary (length categories) (length rows.shared)) rows.methods.rows
  sound_callbacks : All (SoundCallback (length categories)) rows.callbacks.rows

rows_counted : (categories : List Name) (cs ss ms ks : List Data) → Yields (Counted categories (length cs) (length ss) (length ms) (length ks)) (rows_of categories cs ss ms ks)
unfolding rows_of
rows_counted categories cs ss ms ks =
    yields_then _ _ (classes_of cs) _ (classes_counted cs)
    (λ classes c. yields_then _ _ (shared_of ss) _ (shared_counted ss)
    (λ shared s.
    let listed : Listed = record { categories = categories; classes = map class_name classes; shared = shared.names } in
    yields_then _ _ (methods_of listed ms) _ (methods_counted listed ms)
    (λ methods m. yields_then _ _ (callbacks_of categories ks) _ (callbacks_counted categories ks)
    (λ callbacks k. yields_value _ _ (record {
      same = refl;
      classes = omega (arith, c.is);
      shared = omega (arith, s.rows);
      methods = omega (arith, m.is);
      callbacks = omega (arith, k.is);
      sound_classes = c.sound;
      sound_methods = subst (λ (n : ℕ). All (SoundSummary (length categories) n) methods.rows) (s.names ∙ sym s.rows) m.sound;
      sound_callbacks = k.sound;
    })))))

-- at most so many tables in each array
record FewTables (arrays : (List Data × List Data) × (List Data × List Data)) : Type 0 where
  classes : length arrays.0.0 ≤ 65536
  shared : length arrays.0.1 ≤ 65536
  methods : length arrays.1.0 ≤ 65536
  callbacks : length arrays.1.1 ≤ 65536

arrays_few : (t : Members) → Yields FewTables (arrays_at t)
unfolding arrays_at
arrays_few t =
    yields_then _ _ (tables_at section.Lists key.Class 65536 t) _ (tables_few section.Lists key.Class 65536 t)
    (λ cs few_classes. yields_then _ _ (tables_at section.Lists key.Shared 65536 t) _ (tables_few section.Lists key.Shared 65536 t)
    (λ ss few_shared. yields_then _ _ (tables_at section.Lists key.Method 65536 t) _ (tables_few section.Lists key.Method 65536 t)
    (λ ms few_methods. yields_then _ _ (tables_at section.Lists key.Callback 65536 t) _ (tables_few section.Lists key.Callback 65536 t)
    (λ ks few_callbacks. yields_value _ _ (record { classes = few_classes; shared = few_shared; methods = few_methods; callbacks = few_callbacks })))))

-- so many static fields, each sound
pub record StaticsCounted (categories n : ℕ) (statics : StaticRows) : Type 0 where
  pub is : length statics.rows ≡ n
  pub sound : All (SoundStatic categories) statics.rows

static_sound : (categories : List Name) (d : Data) → Yields (SoundStatic (length categories)) (static_at categories d)
unfolding static_at
static_sound categories d =
    yields_past _ (table_in section.Lists key.Static d) _
    (λ t. yields_past _ (known section.Static t) _
    (λ _. yields_past _ (text_at section.Static key.Class spelling.Class t) _
    (λ class. yields_past _ (text_at section.Static key.Name spelling.Text t) _
    (λ name. yields_past _ (type_at section.Static t) _
    (λ kind. yields_then (λ o. IfSome o (λ n. n < length categories)) _ (listed_at section.Static key.Source categories t) _ (listed_within section.Static key.Source categories t)
    (λ source within. yields_value _ _ (record { source = within })))))))

static_counted : (categories : List Name) (n : ℕ) (d : Data) (statics : StaticRows) → StaticsCounted (length categories) n statics
    → Yields (StaticsCounted (length categories) (n + 1)) (static_row categories d statics)
unfolding static_row
static_counted categories n d statics so_far =
    yields_then (SoundStatic (length categories)) _ (static_at categories d) _ (static_sound categories d)
    (λ new sound. yields_value _ _ (record {
      is = omega (arith, so_far.is, length-append statics.rows (new ∷ []));
      sound = All-push (SoundStatic (length categories)) statics.rows new so_far.sound sound;
    }))

statics_counted : (categories : List Name) (ds : List Data) → Yields (StaticsCounted (length categories) (0 + length ds)) (statics_of categories ds)
unfolding statics_of
statics_counted categories ds =
    yields_each (StaticsCounted (length categories)) (static_row categories) (static_counted categories) ds 0 (record { rows = []; keys = [] })
    (record { is = refl; sound = All-nil (SoundStatic (length categories)) })

-- what holds of the rows of the four arrays holds of them among all rows, and the static fields are counted
pub all_yields : (P : Rows → Type 0) (categories : List Name) (arrays : (List Data × List Data) × (List Data × List Data)) (ds : List Data)
    → Yields P (rows_of categories arrays.0.0 arrays.0.1 arrays.1.0 arrays.1.1)
    → Yields (λ x. P x.rows × StaticsCounted (length x.rows.listed.categories) (0 + length ds) x.statics) (all_rows categories arrays ds)
unfolding all_rows
all_yields P categories arrays ds sound =
    yields_then P _ (rows_of categories arrays.0.0 arrays.0.1 arrays.1.0 arrays.1.1) _ sound
    (λ rows holds. yields_then (StaticsCounted (length rows.listed.categories) (0 + length ds)) _ (statics_of rows.listed.categories ds) _ (statics_counted rows.listed.categories ds)
    (λ statics counted. yields_past _ (rows_once rows statics) _
    (λ _. yields_value _ _ (holds, counted))))

lists_sound : (t : Members) → Yields (λ d. SoundLists d.lists) (lists_form t)
unfolding lists_form
lists_sound t =
    yields_past _ (known section.Lists t) _
    (λ _. yields_then _ _ (number_at section.Lists key.Rows 1 4000000 t) _ (number_within section.Lists key.Rows 1 4000000 t)
    (λ most within. yields_then _ _ (categories_at t) _ (categories_few t)
    (λ categories named. yields_then _ _ (arrays_at t) _ (arrays_few t)
    (λ arrays few. yields_then (λ x. length x.1 ≤ 65536) _ (device_at t) _ (static_tables_few t)
    (λ device few_statics. yields_past _ (large_at t) _
    (λ large. yields_then _ _ (all_rows categories arrays device.1) _
    (all_yields _ categories arrays device.1 (rows_counted categories arrays.0.0 arrays.0.1 arrays.1.0 arrays.1.1))
    (λ all counted. yields_value _ _ (record {
      one_row = within.0;
      few_rows = within.1;
      one_category = omega (arith, named.one, ap length counted.0.same);
      few_categories = omega (arith, named.few, ap length counted.0.same);
      few_classes = omega (arith, few.classes, counted.0.classes);
      few_shared = omega (arith, few.shared, counted.0.shared);
      few_methods = omega (arith, few.methods, counted.0.methods);
      few_callbacks = omega (arith, few.callbacks, counted.0.callbacks);
      few_statics = omega (arith, few_statics, counted.1.is);
      classes = counted.0.sound_classes;
      methods = subst (λ (n : ℕ). All (SoundSummary n (length all.rows.shared)) all.rows.methods.rows) (sym (ap length counted.0.same)) counted.0.sound_methods;
      callbacks = subst (λ (n : ℕ). All (SoundCallback n) all.rows.callbacks.rows) (sym (ap length counted.0.same)) counted.0.sound_callbacks;
      statics = counted.1.sound;
    }))))))))

pub sound_lists : (t : Members) (d : StoreLists) → run (lists_form t) ≡ Ok d → SoundLists d.lists
sound_lists t d e = (lists_sound t).at d e

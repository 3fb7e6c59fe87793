-- The texts of lists that are read are spelled as their keys say.
use Rattle.std.proofs.Common.{◌≡◌, ℕ, ◌+◌, Bool, true, false, cond, List, [], ◌∷◌, length, Option, Some, Ok, refl, sym, subst, unwrap_or, is_some}
use Rattle.std.specs.Prelude.{nat_le, map, IsTrue}
use Rattle.std.specs.List.{All}
use Rattle.std.proofs.lemmas.List.Elements.{All-nil, All-cons, All-push, All-head, All-tail}
use Rattle.toml.specs.Data.{Data, Members}
use Rattle.vet_base.specs.Script.{run, test}
use Rattle.app_machine.specs.Names.{Name, same_name, is_reference}
use Rattle.app_machine.specs.Summaries.{position_count}
use Rattle.app_machine.specs.declared.lists.LibClass.{LibClass}
use Rattle.app_machine.specs.declared.lists.Callback.{Callback}
use Rattle.app_machine.specs.declared.summary.Summary.{Summary}
use Rattle.form_fields.specs.declared.fault.Fault.TheVariants.{Range}
use Rattle.form_fields.specs.declared.words.Section.TheVariants as section
use Rattle.form_fields.specs.declared.words.Key.TheVariants as key
use Rattle.form_fields.specs.declared.spelling.Spelling.TheVariants as spelling
use Rattle.method_fields.specs.declared.signature.Signature.{Signature}
use Rattle.store_lists.specs.declared.methods.Listed.{Listed}
use Rattle.store_lists.specs.declared.methods.MethodRows.{MethodRows}
use Rattle.store_lists.specs.declared.callbacks.CallbackRows.{CallbackRows}
use Rattle.store_lists.specs.declared.lists.SharedObject.{SharedObject}
use Rattle.store_lists.specs.declared.lists.SharedRows.{SharedRows}
use Rattle.store_lists.specs.declared.lists.Rows.{Rows}
use Rattle.store_lists.specs.declared.lists.StoreLists.{StoreLists}
use Rattle.form_fields.specs.Spelling.{is_class, fits}
use Rattle.form_fields.specs.Once.{with_new}
use Rattle.form_fields.specs.Fields.{known, text_at, texts_at, number_at, table_in}
use Rattle.store_lists.specs.Classes.{above_in, parent_row, parents_at, parents_above, fallback_at, class_at, class_row, classes_of, class_name}
use Rattle.method_fields.specs.Positions.{flag_at, pairs_at, named_at, listed_at}
use Rattle.method_fields.specs.Gives.{gives_at}
use Rattle.method_fields.specs.Signature.{proto_at}
use Rattle.store_lists.specs.Methods.{sink_at, is_listed, listed_class, signature_at, summary_of, method_row, methods_of}
use Rattle.store_lists.specs.Callbacks.{called_at, callback_of, callback_at, callback_row, callbacks_of}
use Rattle.store_lists.specs.Device.{device_at, statics_of}
use Rattle.store_lists.specs.Large.{large_at}
use Rattle.store_lists.specs.Lists.{are_categories, categories_at, shared_object, shared_row, shared_of, rows_of, rows_once, all_rows, arrays_at, lists_form}
use Rattle.method_fields.specs.Spelled.{SpelledProto}
use Rattle.store_lists.specs.Spelled.{SpelledClass, SpelledShared, SpelledMethod, SpelledLists}
use Rattle.store_lists.proofs.ListsSound.{StaticsCounted, all_yields}
use Rattle.form_fields.proofs.Yields.{Yields, yields_value, yields_tested, yields_then, yields_past, yields_each}
use Rattle.form_fields.proofs.Spelled.{Fits, text_fits, texts_fit, all_new}
use Rattle.method_fields.proofs.TypesSpelled.{proto_spelled}

abbrev Classy : Name → Type 0
Classy class = IsTrue (is_class class)

-- the classes above a class, where it is listed
if_above : (b : Bool) (above : List Name) (o : Option (List Name)) → All Classy above → All Classy (unwrap_or o []) → All Classy (unwrap_or (cond b (Some above) o) [])
if_above true above o here later = here
if_above false above o here later = later

above_spelled : (classes : List LibClass) (name : Name) → All SpelledClass classes → All Classy (unwrap_or (above_in classes name) [])
unfolding above_in
above_spelled [] name all = All-nil Classy
above_spelled (c ∷ cs) name all =
    if_above (same_name name c.name) c.above (above_in cs name) (All-head SpelledClass c cs all).above (above_spelled cs name (All-tail SpelledClass c cs all))

parent_spelled : (classes : List LibClass) → All SpelledClass classes → (n : ℕ) (parent : Name) (above : List Name) → All Classy above → Yields (All Classy) (parent_row classes parent above)
unfolding parent_row
parent_spelled classes all n parent above so_far =
    let more : List Name = unwrap_or (above_in classes parent) [] in
    yields_past _ (test (is_some (above_in classes parent)) (Range section.Class key.Parents)) _
    (λ _. yields_tested _ (nat_le (length (with_new above more)) 64) (Range section.Class key.Parents) (with_new above more)
    (λ _. all_new Classy above more so_far (above_spelled classes parent all)))

parents_spelled : (classes : List LibClass) (parents : List Name) (name : Name) → All SpelledClass classes → Classy name → Yields (All Classy) (parents_above classes parents name)
unfolding parents_above
parents_spelled classes parents name all class =
    yields_each (λ n above. All Classy above) (parent_row classes) (parent_spelled classes all) parents 0 (name ∷ []) (All-cons Classy name [] class (All-nil Classy))

class_spelled : (d : Data) (classes : List LibClass) → All SpelledClass classes → Yields SpelledClass (class_at d classes)
unfolding class_at fits
class_spelled d classes so_far =
    yields_past _ (table_in section.Lists key.Class d) _
    (λ t. yields_past _ (known section.Class t) _
    (λ _. yields_then (Fits spelling.Class) _ (text_at section.Class key.Name spelling.Class t) _ (text_fits section.Class key.Name spelling.Class t)
    (λ name class. yields_past _ (parents_at t) _
    (λ parents. yields_then (All Classy) _ (parents_above classes parents name) _ (parents_spelled classes parents name so_far class)
    (λ above all. yields_past _ (fallback_at t) _
    (λ fallback. yields_value _ _ (record { name = class; above = all })))))))

class_row_spelled : (n : ℕ) (d : Data) (classes : List LibClass) → All SpelledClass classes → Yields (All SpelledClass) (class_row d classes)
unfolding class_row
class_row_spelled n d classes so_far =
    yields_then SpelledClass _ (class_at d classes) _ (class_spelled d classes so_far)
    (λ class spelled. yields_value _ _ (All-push SpelledClass classes class so_far spelled))

classes_spelled : (ds : List Data) → Yields (All SpelledClass) (classes_of ds)
unfolding classes_of
classes_spelled ds = yields_each (λ n classes. All SpelledClass classes) class_row class_row_spelled ds 0 [] (All-nil SpelledClass)

-- a name and a class
abbrev Shared : Name × Name → Type 0
Shared shared = SpelledShared shared.0 shared.1

abbrev Object : SharedObject → Type 0
Object object = SpelledShared object.name object.class

object_spelled : (d : Data) → Yields Object (shared_object d)
unfolding shared_object fits
object_spelled d =
    yields_past _ (table_in section.Lists key.Shared d) _
    (λ t. yields_past _ (known section.Shared t) _
    (λ _. yields_then (Fits spelling.Text) _ (text_at section.Shared key.Name spelling.Text t) _ (text_fits section.Shared key.Name spelling.Text t)
    (λ name short. yields_then (Fits spelling.Class) _ (text_at section.Shared key.Class spelling.Class t) _ (text_fits section.Shared key.Class spelling.Class t)
    (λ class named. yields_value _ _ (record { named = short; of_class = named })))))

shared_row_spelled : (n : ℕ) (d : Data) (shared : SharedRows) → All Shared shared.rows → Yields (λ r. All Shared r.rows) (shared_row d shared)
unfolding shared_row
shared_row_spelled n d shared so_far =
    yields_then Object _ (shared_object d) _ (object_spelled d)
    (λ new spelled. yields_value _ _ (All-push Shared shared.rows (new.name, new.class) so_far spelled))

shared_spelled : (ds : List Data) → Yields (λ r. All Shared r.rows) (shared_of ds)
unfolding shared_of
shared_spelled ds = yields_each (λ n r. All Shared r.rows) shared_row shared_row_spelled ds 0 (record { rows = []; names = [] }) (All-nil Shared)

class_listed : (classes : List Name) (t : Members) → Yields (Fits spelling.Class) (listed_class classes t)
unfolding listed_class
class_listed classes t =
    yields_then (Fits spelling.Class) _ (text_at section.Method key.Class spelling.Class t) _ (text_fits section.Method key.Class spelling.Class t)
    (λ class named. yields_tested _ (is_listed classes class) (Range section.Method key.Class) class (λ _. named))

abbrev Signed : Signature → Type 0
Signed at = SpelledMethod at.class at.name at.proto

signature_spelled : (classes : List Name) (t : Members) → Yields Signed (signature_at classes t)
unfolding signature_at fits
signature_spelled classes t =
    yields_then (Fits spelling.Class) _ (listed_class classes t) _ (class_listed classes t)
    (λ class named. yields_then (Fits spelling.Text) _ (text_at section.Method key.Name spelling.Text t) _ (text_fits section.Method key.Name spelling.Text t)
    (λ name short. yields_then (λ r. SpelledProto r.0) _ (proto_at section.Method t) _ (proto_spelled section.Method t)
    (λ proto typed. yields_past _ (flag_at section.Method key.Static t) _
    (λ is_static. yields_value _ _ (record { of_class = named; named = short; typed = typed })))))

abbrev Method : Summary → Type 0
Method m = SpelledMethod m.class m.name m.proto

summary_spelled : (listed : Listed) (at : Signature) (t : Members) → Signed at → Yields Method (summary_of listed at t)
unfolding summary_of
summary_spelled listed at t spelled =
    let count : ℕ = position_count at.is_static at.proto in
    yields_past _ (gives_at listed.shared count (is_reference at.proto.ret) t) _
    (λ result. yields_past _ (pairs_at section.Method key.Puts count t) _
    (λ puts. yields_past _ (named_at section.Method key.Stores count listed.shared t) _
    (λ stores. yields_past _ (pairs_at section.Method key.Copies count t) _
    (λ copies. yields_past _ (listed_at section.Method key.Source listed.categories t) _
    (λ source. yields_past _ (sink_at listed.categories count t) _
    (λ sink. yields_past _ (flag_at section.Method key.Reflective t) _
    (λ reflective. yields_value _ _ spelled)))))))

method_spelled : (listed : Listed) (n : ℕ) (d : Data) (methods : MethodRows) → All Method methods.rows → Yields (λ r. All Method r.rows) (method_row listed d methods)
unfolding method_row
method_spelled listed n d methods so_far =
    yields_past _ (table_in section.Lists key.Method d) _
    (λ t. yields_past _ (known section.Method t) _
    (λ _. yields_then Signed _ (signature_at listed.classes t) _ (signature_spelled listed.classes t)
    (λ at spelled. yields_then Method _ (summary_of listed at t) _ (summary_spelled listed at t spelled)
    (λ summary one. yields_value _ _ (All-push Method methods.rows summary so_far one)))))

methods_spelled : (listed : Listed) (ds : List Data) → Yields (λ r. All Method r.rows) (methods_of listed ds)
unfolding methods_of
methods_spelled listed ds = yields_each (λ n r. All Method r.rows) (method_row listed) (method_spelled listed) ds 0 (record { rows = []; keys = [] }) (All-nil Method)

abbrev Called : Callback → Type 0
Called c = SpelledMethod c.class c.name c.proto

called_spelled : (t : Members) → Yields Signed (called_at t)
unfolding called_at fits
called_spelled t =
    yields_then (Fits spelling.Class) _ (text_at section.Callback key.Class spelling.Class t) _ (text_fits section.Callback key.Class spelling.Class t)
    (λ class named. yields_then (Fits spelling.Text) _ (text_at section.Callback key.Name spelling.Text t) _ (text_fits section.Callback key.Name spelling.Text t)
    (λ name short. yields_then (λ r. SpelledProto r.0) _ (proto_at section.Callback t) _ (proto_spelled section.Callback t)
    (λ proto typed. yields_value _ _ (record { of_class = named; named = short; typed = typed }))))

sources_spelled : (categories : List Name) (at : Signature) (t : Members) → Signed at → Yields Called (callback_of categories at t)
unfolding callback_of
sources_spelled categories at t spelled =
    yields_past _ (named_at section.Callback key.Sources (position_count false at.proto) categories t) _
    (λ sources. yields_value _ _ spelled)

callback_spelled : (categories : List Name) (d : Data) → Yields (λ r. Called r.0) (callback_at categories d)
unfolding callback_at
callback_spelled categories d =
    yields_past _ (table_in section.Lists key.Callback d) _
    (λ t. yields_past _ (known section.Callback t) _
    (λ _. yields_then Signed _ (called_at t) _ (called_spelled t)
    (λ at spelled. yields_then Called _ (callback_of categories at t) _ (sources_spelled categories at t spelled)
    (λ callback one. yields_value _ _ one))))

callback_row_spelled : (categories : List Name) (n : ℕ) (d : Data) (callbacks : CallbackRows) → All Called callbacks.rows → Yields (λ r. All Called r.rows) (callback_row categories d callbacks)
unfolding callback_row
callback_row_spelled categories n d callbacks so_far =
    yields_then (λ r. Called r.0) _ (callback_at categories d) _ (callback_spelled categories d)
    (λ new spelled. yields_value _ _ (All-push Called callbacks.rows new.0 so_far spelled))

callbacks_spelled : (categories : List Name) (ds : List Data) → Yields (λ r. All Called r.rows) (callbacks_of categories ds)
unfolding callbacks_of
callbacks_spelled categories ds =
    yields_each (λ n r. All Called r.rows) (callback_row categories) (callback_row_spelled categories) ds 0 (record { rows = []; keys = [] }) (All-nil Called)

categories_spelled : (t : Members) → Yields (All (Fits spelling.Category)) (categories_at t)
unfolding categories_at
categories_spelled t =
    yields_then (All (Fits spelling.Category)) _ (texts_at section.Lists key.Categories spelling.Category 200 t) _ (texts_fit section.Lists key.Categories spelling.Category 200 t)
    (λ names all. yields_tested _ (are_categories names (with_new [] names)) (Range section.Lists key.Categories) (with_new [] names)
    (λ _. all_new (Fits spelling.Category) [] names (All-nil (Fits spelling.Category)) all))

-- the rows, with the categories that were handed in
record SpelledRows (categories : List Name) (rows : Rows) : Type 0 where
  same : rows.listed.categories ≡ categories
  classes : All SpelledClass rows.classes
  shared : All Shared rows.shared
  methods : All Method rows.methods.rows
  callbacks : All Called rows.callbacks.rows

rows_spelled : (categories : List Name) (cs ss ms ks : List Data) → Yields (SpelledRows categories) (rows_of categories cs ss ms ks)
unfolding rows_of
rows_spelled categories cs ss ms ks =
    yields_then (All SpelledClass) _ (classes_of cs) _ (classes_spelled cs)
    (λ classes c. yields_then (λ r. All Shared r.rows) _ (shared_of ss) _ (shared_spelled ss)
    (λ shared s.
    let listed : Listed = record { categories = categories; classes = map class_name classes; shared = shared.names } in
    yields_then (λ r. All Method r.rows) _ (methods_of listed ms) _ (methods_spelled listed ms)
    (λ methods m. yields_then (λ r. All Called r.rows) _ (callbacks_of categories ks) _ (callbacks_spelled categories ks)
    (λ callbacks k. yields_value _ _ (record { same = refl; classes = c; shared = s; methods = m; callbacks = k })))))

lists_spelled : (t : Members) → Yields (λ d. SpelledLists d.lists) (lists_form t)
unfolding lists_form fits
lists_spelled t =
    yields_past _ (known section.Lists t) _
    (λ _. yields_past _ (number_at section.Lists key.Rows 1 4000000 t) _
    (λ most. yields_then (All (Fits spelling.Category)) _ (categories_at t) _ (categories_spelled t)
    (λ categories named. yields_past _ (arrays_at t) _
    (λ arrays. yields_past _ (device_at t) _
    (λ device. yields_past _ (large_at t) _
    (λ large. yields_then (λ x. SpelledRows categories x.rows × StaticsCounted (length x.rows.listed.categories) (0 + length device.1) x.statics) _ (all_rows categories arrays device.1) _
    (all_yields (SpelledRows categories) categories arrays device.1 (rows_spelled categories arrays.0.0 arrays.0.1 arrays.1.0 arrays.1.1))
    (λ all spelled. yields_value _ _ (record {
      categories = subst (λ (names : List Name). All (Fits spelling.Category) names) (sym spelled.0.same) named;
      classes = spelled.0.classes;
      shared = spelled.0.shared;
      methods = spelled.0.methods;
      callbacks = spelled.0.callbacks;
    }))))))))

pub spelled_lists : (t : Members) (d : StoreLists) → run (lists_form t) ≡ Ok d → SpelledLists d.lists
spelled_lists t d e = (lists_spelled t).at d e

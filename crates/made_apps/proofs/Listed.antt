-- The tables of a generated app.
use Rattle.std.proofs.Common.{ℕ, zero, suc, ◌+◌, ◌*◌, ◌≤◌, List, [], ◌∷◌, arith}
use Rattle.dex_writer.specs.declared.tables.Tables.{Tables}
use Rattle.dex_writer.specs.Tables.{no_tables, with_type, with_field, with_method, and_field, and_method}
use Rattle.dex_maker.specs.Naming.{with_methods, with_class, with_lines, with_bodies, tables_of}
use Rattle.made_apps.specs.declared.body.Body.{Body}
use Rattle.made_apps.specs.declared.body.Body.TheVariants.{Returned, PassedOn, ThroughArray, Stored}
use Rattle.made_apps.specs.Names.{main_class, work_class, activity_class, bundle_class, object_class, object_array, string_class, device_class, net_class, void, on_create, id, post, static_field, method_name}
use Rattle.made_apps.specs.Draws.{body_drawn, state_behind}
use Rattle.made_apps.specs.Code.{returned_lines, passed_on_lines, through_array_lines, stored_lines, body_lines, calls_from, main_lines}
use Rattle.made_apps.specs.Made.{main_method, main_listed, method_listed, methods_from, field_listed, work_listed, made}
use Rattle.made_apps.proofs.Growth.{AtMost, weaker, type_most, field_most, method_most, own_field_most, own_method_most}

-- ---- members

own_methods_most : (n : ℕ) (t : Tables) (class : List ℕ) (left size i x : ℕ) → AtMost n t → AtMost (n + 7 * left) (with_methods t class (methods_from left size i x))
unfolding method_listed
own_methods_most n t class zero size i x a = weaker n (n + 7 * 0) t (omega arith) a
own_methods_most n t class (suc left) size i x a =
    let next = and_method t class (method_name i) (object_class ∷ []) object_class in
    let b : AtMost (n + 6 + 1) next = own_method_most n t class (method_name i) (object_class ∷ []) object_class a in
    weaker (n + 6 + 1 + 7 * left) (n + 7 * suc left) (with_methods next class (methods_from left size (i + 1) (state_behind size i x))) (omega arith) (own_methods_most (n + 6 + 1) next class left size (i + 1) (state_behind size i x) b)

main_class_most : (n : ℕ) (t : Tables) (size : ℕ) → AtMost n t → AtMost (n + 1 + 1 + 6 + 1) (with_class t (main_listed size))
unfolding with_class main_listed main_method
main_class_most n t size a =
    own_method_most (n + 1 + 1) (with_type (with_type t main_class) activity_class) main_class on_create (bundle_class ∷ []) void
    (type_most (n + 1) (with_type t main_class) activity_class (type_most n t main_class a))

work_class_most : (n : ℕ) (t : Tables) (seed size : ℕ) → AtMost n t → AtMost (n + 1 + 1 + 4 + 7 * size) (with_class t (work_listed seed size))
unfolding with_class work_listed field_listed
work_class_most n t seed size a =
    let types = with_type (with_type t work_class) object_class in
    own_methods_most (n + 1 + 1 + 4) (and_field types work_class static_field object_class) work_class size size 0 seed
    (own_field_most (n + 1 + 1) types work_class static_field object_class (type_most (n + 1) (with_type t work_class) object_class (type_most n t work_class a)))

-- ---- code

calls_most : (n : ℕ) (t : Tables) (left i : ℕ) → AtMost n t → AtMost (n + 14 * left) (with_lines t (calls_from left i))
calls_most n t zero i a = weaker n (n + 14 * 0) t (omega arith) a
calls_most n t (suc left) i a =
    let called = with_method t work_class (method_name i) (object_class ∷ []) object_class in
    let posted = with_method called net_class post (object_class ∷ []) void in
    let b : AtMost (n + 6 + 1) called = method_most n t work_class (method_name i) (object_class ∷ []) object_class a in
    let d : AtMost (n + 6 + 1 + 6 + 1) posted = method_most (n + 6 + 1) called net_class post (object_class ∷ []) void b in
    weaker (n + 6 + 1 + 6 + 1 + 14 * left) (n + 14 * suc left) (with_lines posted (calls_from left (i + 1))) (omega arith) (calls_most (n + 6 + 1 + 6 + 1) posted left (i + 1) d)

main_code_most : (n : ℕ) (t : Tables) (size : ℕ) → AtMost n t → AtMost (n + 6 + 0 + 14 * size) (with_bodies t (main_method size ∷ []))
unfolding main_method main_lines
main_code_most n t size a = calls_most (n + 6 + 0) (with_method t device_class id [] string_class) size 0 (method_most n t device_class id [] string_class a)

body_most : (n : ℕ) (t : Tables) (body : Body) → AtMost n t → AtMost (n + 7) (with_lines t (body_lines body))
unfolding returned_lines passed_on_lines through_array_lines stored_lines body_lines
body_most n t Returned a = weaker n (n + 7) t (omega arith) a
body_most n t (PassedOn j) a =
    weaker (n + 6 + 1) (n + 7) (with_method t work_class (method_name j) (object_class ∷ []) object_class) (omega arith) (method_most n t work_class (method_name j) (object_class ∷ []) object_class a)
body_most n t ThroughArray a = weaker (n + 1) (n + 7) (with_type t object_array) (omega arith) (type_most n t object_array a)
body_most n t Stored a = weaker (n + 4) (n + 7) (with_field t work_class static_field object_class) (omega arith) (field_most n t work_class static_field object_class a)

bodies_most : (n : ℕ) (t : Tables) (left size i x : ℕ) → AtMost n t → AtMost (n + 7 * left) (with_bodies t (methods_from left size i x))
unfolding method_listed
bodies_most n t zero size i x a = weaker n (n + 7 * 0) t (omega arith) a
bodies_most n t (suc left) size i x a =
    let next = with_lines t (body_lines (body_drawn size i x)) in
    weaker (n + 7 + 7 * left) (n + 7 * suc left) (with_bodies next (methods_from left size (i + 1) (state_behind size i x))) (omega arith) (bodies_most (n + 7) next left size (i + 1) (state_behind size i x) (body_most n t (body_drawn size i x) a))

-- ---- all

none_most : AtMost 0 no_tables
none_most = record { strings = omega arith; types = omega arith; protos = omega arith; fields = omega arith; methods = omega arith }

pub made_most : (seed size : ℕ) → size ≤ 2000 → AtMost 60000 (tables_of (made seed size))
unfolding tables_of made main_listed work_listed
made_most seed size le =
    let main = with_class no_tables (main_listed size) in
    let work = with_class main (work_listed seed size) in
    let first = with_bodies work (main_method size ∷ []) in
    let a : AtMost (0 + 1 + 1 + 6 + 1) main = main_class_most 0 no_tables size none_most in
    let b : AtMost (0 + 1 + 1 + 6 + 1 + 1 + 1 + 4 + 7 * size) work = work_class_most (0 + 1 + 1 + 6 + 1) main seed size a in
    let d : AtMost (0 + 1 + 1 + 6 + 1 + 1 + 1 + 4 + 7 * size + 6 + 0 + 14 * size) first = main_code_most (0 + 1 + 1 + 6 + 1 + 1 + 1 + 4 + 7 * size) work size b in
    weaker (0 + 1 + 1 + 6 + 1 + 1 + 1 + 4 + 7 * size + 6 + 0 + 14 * size + 7 * size) 60000 (with_bodies first (methods_from size size 0 seed)) (omega arith)
    (bodies_most (0 + 1 + 1 + 6 + 1 + 1 + 1 + 4 + 7 * size + 6 + 0 + 14 * size) first size size 0 seed d)

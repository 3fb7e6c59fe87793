-- A generated app is within the limits of a DEX file.
use Rattle.std.proofs.Common.{◌≡◌, ℕ, zero, suc, ◌+◌, ◌*◌, ◌≤◌, List, [], ◌∷◌, length, refl, ap, ◌∙◌, lit≤, arith}
use Rattle.std.specs.List.{sum_by}
use Rattle.std.proofs.lemmas.List.Sums.{sum_by-cons}
use Rattle.dalvik_formats.specs.Layouts.{row_of, layout_of}
use Rattle.dex_maker.specs.declared.listing.ListedLine.{ListedLine}
use Rattle.dex_maker.specs.Lines.{width_of, width_sum}
use Rattle.dex_maker.specs.Classes.{method_width, class_width, unit_count, member_count, member_total}
use Rattle.dex_maker.specs.Made.{Makeable}
use Rattle.made_apps.specs.declared.body.Body.{Body}
use Rattle.made_apps.specs.declared.body.Body.TheVariants.{Returned, PassedOn, ThroughArray, Stored}
use Rattle.made_apps.specs.Draws.{body_drawn, state_behind}
use Rattle.made_apps.specs.Code.{invoke_static, move_result_object, device_id, net_post, work_method, returned_lines, passed_on_lines, through_array_lines, stored_lines, body_lines, calls_from, main_lines}
use Rattle.made_apps.specs.Made.{main_method, main_listed, method_listed, methods_from, work_listed, made}

-- the lines of a call of a method and of the sending of its result
call_width : (i : ℕ) (rest : List ListedLine) → sum_by width_of (invoke_static (0 ∷ []) (work_method i) ∷ move_result_object 1 ∷ invoke_static (1 ∷ []) net_post ∷ rest) ≡ 3 + (1 + (3 + sum_by width_of rest))
unfolding layout_of row_of
call_width i rest =
    sum_by-cons width_of (invoke_static (0 ∷ []) (work_method i)) (move_result_object 1 ∷ invoke_static (1 ∷ []) net_post ∷ rest)
    ∙ ap (λ (n : ℕ). 3 + n) (sum_by-cons width_of (move_result_object 1) (invoke_static (1 ∷ []) net_post ∷ rest)
    ∙ ap (λ (n : ℕ). 1 + n) (sum_by-cons width_of (invoke_static (1 ∷ []) net_post) rest))

calls_width : (left i : ℕ) → sum_by width_of (calls_from left i) ≡ 1 + 7 * left
unfolding layout_of row_of
calls_width zero i = refl
calls_width (suc left) i = omega (arith, call_width i (calls_from left (i + 1)), calls_width left (i + 1))

main_width : (size : ℕ) → width_sum (main_lines size) ≡ 5 + 7 * size
unfolding width_sum main_lines layout_of row_of
main_width size =
    let rest = calls_from size 0 in
    let a : sum_by width_of (invoke_static [] device_id ∷ move_result_object 0 ∷ rest) ≡ 3 + sum_by width_of (move_result_object 0 ∷ rest) = sum_by-cons width_of (invoke_static [] device_id) (move_result_object 0 ∷ rest) in
    let b : sum_by width_of (move_result_object 0 ∷ rest) ≡ 1 + sum_by width_of rest = sum_by-cons width_of (move_result_object 0) rest in
    omega (arith, a, b, calls_width size 0)

body_width : (body : Body) → width_sum (body_lines body) ≤ 9
unfolding width_sum returned_lines passed_on_lines through_array_lines stored_lines body_lines layout_of row_of
body_width Returned = lit≤ tt
body_width (PassedOn j) = lit≤ tt
body_width ThroughArray = lit≤ tt
body_width Stored = lit≤ tt

methods_length : (left size i x : ℕ) → length (methods_from left size i x) ≡ left
methods_length zero size i x = refl
methods_length (suc left) size i x = ap (λ (n : ℕ). suc n) (methods_length left size (i + 1) (state_behind size i x))

method_most : (i : ℕ) (body : Body) → method_width (method_listed i body) ≤ 9
unfolding method_listed
method_most i body = body_width body

methods_width : (left size i x : ℕ) → sum_by method_width (methods_from left size i x) ≤ 9 * left
methods_width zero size i x = omega arith
methods_width (suc left) size i x =
    let method = method_listed i (body_drawn size i x) in
    let rest = methods_from left size (i + 1) (state_behind size i x) in
    omega (arith, sum_by-cons method_width method rest, method_most i (body_drawn size i x), methods_width left size (i + 1) (state_behind size i x))

-- ---- classes

main_class_width : (size : ℕ) → class_width (main_listed size) ≡ 5 + 7 * size
unfolding main_listed main_method
main_class_width size = omega (arith, main_width size)

work_class_width : (seed size : ℕ) → class_width (work_listed seed size) ≤ 9 * size
unfolding work_listed
work_class_width seed size = methods_width size size 0 seed

units : (seed size : ℕ) → unit_count ((made seed size).classes) ≤ 5 + 16 * size
unfolding made unit_count
units seed size = omega (arith, main_class_width size, work_class_width seed size)

main_members : (size : ℕ) → member_count (main_listed size) ≡ 1
unfolding main_listed
main_members size = refl

work_members : (seed size : ℕ) → member_count (work_listed seed size) ≡ 1 + size
unfolding work_listed
work_members seed size = ap (λ (n : ℕ). 1 + n) (methods_length size size 0 seed)

members : (seed size : ℕ) → member_total ((made seed size).classes) ≡ 2 + size
unfolding made member_total
members seed size = omega (arith, main_members size, work_members seed size)

classes : (seed size : ℕ) → length ((made seed size).classes) ≡ 2
unfolding made
classes seed size = refl

pub made_within : (seed size : ℕ) → size ≤ 2000 → Makeable (made seed size)
made_within seed size le = record {
  classes = omega (arith, classes seed size);
  members = omega (arith, members seed size);
  units = omega (arith, units seed size);
}

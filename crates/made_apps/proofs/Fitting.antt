-- Each line of a generated app fits its format.
use Rattle.std.proofs.Common.{◌≡◌, ℕ, zero, suc, ◌+◌, List, Some, None, refl}
use Rattle.dalvik_formats.specs.Layouts.{row_of, layout_of}
use Rattle.dex_maker.specs.Fits.{line_fits, misfit_from, code_misfit, misfit_in, first_misfit}
use Rattle.made_apps.specs.declared.body.Body.{Body}
use Rattle.made_apps.specs.declared.body.Body.TheVariants.{Returned, PassedOn, ThroughArray, Stored}
use Rattle.made_apps.specs.Draws.{body_drawn, state_behind}
use Rattle.made_apps.specs.Code.{returned_lines, passed_on_lines, through_array_lines, stored_lines, body_lines, calls_from, main_lines}
use Rattle.made_apps.specs.Made.{code_of, main_method, main_listed, method_listed, methods_from, work_listed, made}

calls_fit : (count : ℕ) (starts : List ℕ) (at number left i : ℕ) → misfit_from count starts at number (calls_from left i) ≡ None
unfolding line_fits layout_of row_of
calls_fit count starts at number zero i = refl
calls_fit count starts at number (suc left) i = calls_fit count starts (at + 3 + 1 + 3) (number + 1 + 1 + 1) left (i + 1)

main_fits : (size : ℕ) → code_misfit (Some (code_of 4 2 (main_lines size))) ≡ None
unfolding main_lines line_fits layout_of row_of
main_fits size = calls_fit _ _ _ _ size 0

body_fits : (body : Body) → code_misfit (Some (code_of 3 1 (body_lines body))) ≡ None
unfolding returned_lines passed_on_lines through_array_lines stored_lines body_lines line_fits layout_of row_of
body_fits Returned = refl
body_fits (PassedOn j) = refl
body_fits ThroughArray = refl
body_fits Stored = refl

methods_fit : (first left size i x : ℕ) → misfit_in first (methods_from left size i x) ≡ None
unfolding method_listed
methods_fit first zero size i x = refl
methods_fit first (suc left) size i x = rw (body_fits (body_drawn size i x)) (methods_fit (first + 1) left size (i + 1) (state_behind size i x))

pub made_fits : (seed size : ℕ) → first_misfit 0 ((made seed size).classes) ≡ None
unfolding made main_listed main_method work_listed
made_fits seed size = rw (main_fits size, methods_fit 1 size size 0 seed) refl

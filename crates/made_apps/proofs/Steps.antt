-- One more call, and one more drawn method.
use Rattle.std.proofs.Common.{◌≡◌, ℕ, suc, ◌+◌, ◌-◌, ◌<◌, ◌≤◌, List, [], ◌∷◌, ◌++◌, refl, ◌∙◌, append_assoc, arith}
use Rattle.std.proofs.lemmas.List.{append-nil}
use Rattle.dex_maker.specs.declared.listing.ListedLine.{ListedLine}
use Rattle.dex_maker.specs.declared.listing.ListedMethod.{ListedMethod}
use Rattle.dex_maker.specs.declared.listing.Operand.{Operand}
use Rattle.made_apps.specs.declared.body.Body.{Body}
use Rattle.made_apps.specs.Draws.{body_drawn, state_behind}
use Rattle.made_apps.specs.Code.{invoke_static, move_result_object, return_void, device_id, net_post, work_method, calls_from, main_lines}
use Rattle.made_apps.specs.Made.{method_listed, methods_from}

pub calls_begin : (size : ℕ) (lines : List ListedLine) (first second : ListedLine) (source : Operand) → lines ≡ first ∷ second ∷ [] → first ≡ invoke_static [] source → second ≡ move_result_object 0 → source ≡ device_id
    → lines ++ calls_from (size - 0) 0 ≡ main_lines size
unfolding main_lines
calls_begin size lines first second source lines-is first-is second-is source-is =
    let e : size - 0 ≡ size = omega arith in
    rw (lines-is, first-is, second-is, source-is, e) refl

pub calls_step : (size i : ℕ) (old new whole : List ListedLine) → i < size → old ++ calls_from (size - i) i ≡ whole
    → new ≡ old ++ invoke_static (0 ∷ []) (work_method i) ∷ move_result_object 1 ∷ invoke_static (1 ∷ []) net_post ∷ [] → new ++ calls_from (size - (i + 1)) (i + 1) ≡ whole
calls_step size i old new whole lt so_far one =
    let e : size - i ≡ suc (size - (i + 1)) = omega arith in
    rw one (append_assoc old (invoke_static (0 ∷ []) (work_method i) ∷ move_result_object 1 ∷ invoke_static (1 ∷ []) net_post ∷ []) (calls_from (size - (i + 1)) (i + 1)) ∙ (rw e at so_far))

pub calls_end : (size i : ℕ) (old new whole : List ListedLine) (last : ListedLine) → size ≤ i → old ++ calls_from (size - i) i ≡ whole → new ≡ old ++ last ∷ [] → last ≡ return_void → new ≡ whole
calls_end size i old new whole last le so_far one last-is =
    let e : size - i ≡ 0 = omega arith in
    let so : old ++ return_void ∷ [] ≡ whole = rw e at so_far in
    rw (one, last-is) so

pub methods_step : (size i x y : ℕ) (body : Body) (m : ListedMethod) (old new whole : List ListedMethod) → i < size → body ≡ body_drawn size i x → y ≡ state_behind size i x
    → m ≡ method_listed i body → old ++ methods_from (size - i) size i x ≡ whole → new ≡ old ++ m ∷ [] → new ++ methods_from (size - (i + 1)) size (i + 1) y ≡ whole
methods_step size i x y body m old new whole lt body-is y-is m-is so_far one =
    let e : size - i ≡ suc (size - (i + 1)) = omega arith in
    rw (one, m-is, body-is, y-is) (append_assoc old (method_listed i (body_drawn size i x) ∷ []) (methods_from (size - (i + 1)) size (i + 1) (state_behind size i x)) ∙ (rw e at so_far))

pub methods_end : (size i x : ℕ) (old whole : List ListedMethod) → size ≤ i → old ++ methods_from (size - i) size i x ≡ whole → old ≡ whole
methods_end size i x old whole le so_far =
    let e : size - i ≡ 0 = omega arith in
    let so : old ++ methods_from 0 size i x ≡ whole = rw e at so_far in
    rw (append-nil old) at so

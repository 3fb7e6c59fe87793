-- Static fields by their marks, and the instructions that touch them.
use Rattle.std.proofs.Common.{◌≡◌, ℕ, zero, suc, ◌+◌, ◌<◌, ◌≤◌, Bool, false, List, [], ◌∷◌, ◌++◌, append_assoc, map, length, drop, get_or, Some, None, slice_get, refl, sym, ◌∙◌, ap}
use Rattle.std.proofs.lemmas.List.{append-nil, drop_all}
use Rattle.app_machine.specs.declared.app.App.{App}
use Rattle.app_machine.specs.declared.lists.Lists.{Lists}
use Rattle.app_machine.specs.declared.method.Method.{Method}
use Rattle.link_access.specs.Access.{Accesses}
use Rattle.outcomes.specs.Spots.{Spot}
use Rattle.vet_base.proofs.Lists.{drop_read}
use Rattle.link_listing.specs.Texts.{Triple}
use Rattle.device_causes.specs.Libraries.{is_foreign, is_unknown, mark_of, put_mark, got_mark, static_passes, spots_in, spots_from, static_spots}

module _ (app : App) (access : Accesses) (lists : Lists) where
  put_in : (statics : List Triple) (g : ℕ) → put_mark (map (mark_of access lists) statics) g ≡ elim (slice_get statics g) [ None ↦ false | Some static ↦ is_foreign access static ]
  put_in [] g = refl
  put_in (s ∷ statics) zero = refl
  put_in (s ∷ statics) (suc g) = put_in statics g

  got_in : (statics : List Triple) (g : ℕ) → got_mark (map (mark_of access lists) statics) g ≡ elim (slice_get statics g) [ None ↦ false | Some static ↦ is_unknown access lists static ]
  got_in [] g = refl
  got_in (s ∷ statics) zero = refl
  got_in (s ∷ statics) (suc g) = got_in statics g

  pub put_marked : (marks : List (Bool × Bool)) (g : ℕ) → marks ≡ map (mark_of access lists) app.statics → put_mark marks g ≡ static_passes (is_foreign access) app g
  put_marked marks g are = ap (λ ms. put_mark ms g) are ∙ put_in app.statics g

  pub got_marked : (marks : List (Bool × Bool)) (g : ℕ) → marks ≡ map (mark_of access lists) app.statics → got_mark marks g ≡ static_passes (is_unknown access lists) app g
  got_marked marks g are = ap (λ ms. got_mark ms g) are ∙ got_in app.statics g

  -- these, and then those of the methods from number i on, are all
  pub record SpotsSoFar (i : ℕ) (so_far : List Spot) : Type 0 where
    pub is : so_far ++ spots_from app access lists i (drop i app.methods) ≡ spots_from app access lists 0 app.methods

  pub spots_begin : SpotsSoFar 0 []
  spots_begin = record { is = refl }

  pub spots_go_on : (i : ℕ) (m : Method) (so_far : List Spot) → i < length app.methods → m ≡ get_or app.methods i m → SpotsSoFar i so_far → SpotsSoFar (i + 1) (so_far ++ spots_in app access lists i m)
  unfolding spots_from
  spots_go_on i m so_far lt item before =
      let k : drop i app.methods ≡ m ∷ drop (i + 1) app.methods = drop_read app.methods i m lt item in
      let h : so_far ++ spots_from app access lists i (m ∷ drop (i + 1) app.methods) ≡ spots_from app access lists 0 app.methods = rw k at before.is in
      record { is = append_assoc so_far (spots_in app access lists i m) (spots_from app access lists (i + 1) (drop (i + 1) app.methods)) ∙ h }

  pub spots_done : (i : ℕ) (so_far : List Spot) → length app.methods ≤ i → SpotsSoFar i so_far → so_far ≡ static_spots app access lists
  unfolding static_spots spots_from
  spots_done i so_far le before =
      let k : drop i app.methods ≡ [] = drop_all i app.methods le in
      let h : so_far ++ spots_from app access lists i [] ≡ spots_from app access lists 0 app.methods = rw k at before.is in
      sym (append-nil so_far) ∙ h

-- Shared objects that are made one after the other.
use Rattle.std.proofs.Common.{◌≡◌, ℕ, ◌+◌, ◌<◌, ◌≤◌, List, [], ◌∷◌, ◌++◌, map, take, length, get_or, Option, Some, None, refl, sym, ap, ◌∙◌}
use Rattle.std.proofs.lemmas.List.{map-append, take_more, take_all}
use Rattle.app_machine.specs.declared.app.App.{App}
use Rattle.app_machine.specs.declared.lists.Lists.{Lists}
use Rattle.app_machine.specs.Heap.{Value, Object}
use Rattle.app_machine.specs.Library.{shared_class}
use Rattle.app_machine.specs.Names.{Name}
use Rattle.app_machine.specs.State.{shared_static, write, object_at, new_object}
use Rattle.played_machine.specs.Librarian.{made_shared, shared_there, with_shared}
use Rattle.runner_library.specs.Over.{shared_number}

module _ (app : App) (lists : Lists) where
  pub shared_both : (xs ys : List ℕ) (heap : List Object) (statics : ℕ → Value) → with_shared app lists (xs ++ ys) heap statics ≡ with_shared app lists ys (with_shared app lists xs heap statics).0 (with_shared app lists xs heap statics).1
  shared_both [] ys heap statics = refl
  shared_both (i ∷ xs) ys heap statics =
      let made : List Object × (ℕ → Value) = shared_there (statics (shared_static app i)).place (shared_class lists i) (shared_static app i) heap statics in
      shared_both xs ys made.0 made.1

  -- those that stores name
  module _ (stores : List (ℕ × ℕ)) (heap : List Object) (statics : ℕ → Value) where
    abbrev pub AreMade : List Object × (ℕ → Value) → ℕ → Type 0
    AreMade new i = new ≡ with_shared app lists (map shared_number (take i stores)) heap statics

    pub one_made : (new newer : List Object × (ℕ → Value)) (i : ℕ) (d : ℕ × ℕ) → i < length stores → newer ≡ with_shared app lists ((get_or stores i d).1 ∷ []) new.0 new.1 → AreMade new i → AreMade newer (i + 1)
    one_made new newer i d within more so_far =
        let store : ℕ × ℕ = get_or stores i d in
        more
        ∙ (ap (λ (s : List Object × (ℕ → Value)). with_shared app lists (store.1 ∷ []) s.0 s.1) so_far
        ∙ (sym (shared_both (map shared_number (take i stores)) (store.1 ∷ []) heap statics)
        ∙ ap (λ xs. with_shared app lists xs heap statics) (sym (map-append shared_number (take i stores) (store ∷ []))
        ∙ ap (map shared_number) (sym (take_more stores i d within)))))

    pub all_made : (new : List Object × (ℕ → Value)) (i : ℕ) → length stores ≤ i → AreMade new i → new ≡ with_shared app lists (map shared_number stores) heap statics
    all_made new i past so_far = so_far ∙ ap (λ ss. with_shared app lists (map shared_number ss) heap statics) (take_all i stores past)

  -- one of them
  module _ (i : ℕ) (heap : List Object) (statics : ℕ → Value) where
    pub is_there : (p : ℕ) → (statics (shared_static app i)).place ≡ Some p → (heap, statics) ≡ with_shared app lists (i ∷ []) heap statics
    is_there p is = sym (ap (λ o. shared_there o (shared_class lists i) (shared_static app i) heap statics) is)

    pub is_made : (new : List Object × (ℕ → Value)) (class : Option Name) → (statics (shared_static app i)).place ≡ None → class ≡ shared_class lists i → new ≡ made_shared class (shared_static app i) heap statics → new ≡ with_shared app lists (i ∷ []) heap statics
    is_made new class is same made = made ∙ (ap (λ c. made_shared c (shared_static app i) heap statics) same ∙ sym (ap (λ o. shared_there o (shared_class lists i) (shared_static app i) heap statics) is))

pub made_one : (class : Name) (g : ℕ) (heap new : List Object) (statics after : ℕ → Value) (v : Value) (p : ℕ) (o : Object) → p ≡ length heap → new ≡ heap ++ o ∷ [] → o ≡ new_object class → v ≡ object_at (Some p) → after ≡ write statics g v → (new, after) ≡ made_shared (Some class) g heap statics
made_one class g heap new statics after v p o at more is object wrote =
    ap (λ (h : List Object). (h, after)) (more ∙ ap (λ x. heap ++ x ∷ []) is)
    ∙ ap (λ (s : ℕ → Value). (heap ++ new_object class ∷ [], s)) (wrote ∙ ap (λ w. write statics g w) (object ∙ ap (λ n. object_at (Some n)) at))

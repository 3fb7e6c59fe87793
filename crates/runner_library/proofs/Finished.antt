-- A library call as a whole.
use Rattle.std.proofs.Common.{◌≡◌, ℕ, ◌<◌, true, false, cond, List, [], ◌∷◌, ◌++◌, map, Option, refl, sym, ap, ◌∙◌, subst}
use Rattle.std.specs.List.{All}
use Rattle.std.proofs.lemmas.List.{append-nil}
use Rattle.vet_base.specs.Members.{In}
use Rattle.vet_base.proofs.Members.{all_in, all_from_in, in_back, in_front, in_map}
use Rattle.app_machine.specs.declared.app.App.{App}
use Rattle.app_machine.specs.declared.lists.Lists.{Lists}
use Rattle.app_machine.specs.declared.summary.Gives.{Gives}
use Rattle.app_machine.specs.declared.summary.Gives.TheVariants as gives
use Rattle.app_machine.specs.declared.summary.Summary.{Summary}
use Rattle.app_machine.specs.Heap.{Value, Object, blank, add_all}
use Rattle.app_machine.specs.Library.{result_shared, shared_named}
use Rattle.app_machine.specs.Names.{Name, is_void}
use Rattle.app_machine.specs.State.{World}
use Rattle.app_parts.specs.declared.summary_view.CallResult.{CallResult}
use Rattle.app_parts.specs.declared.summary_view.CallResult.TheVariants as result
use Rattle.app_parts.specs.Views.{call_result}
use Rattle.played_alike.specs.Alike.{AlikeHeap, AlikeObject, AlikeValues}
use Rattle.played_alike.proofs.Heaps.{alike_itself, alike_object}
use Rattle.played_alike.proofs.Pairs.{pair_same}
use Rattle.played_machine.specs.Librarian.{joined_value, with_shared}
use Rattle.played_machine.specs.Reading.{handed_places}
use Rattle.runner_library.specs.declared.giving.Known.{Known}
use Rattle.runner_library.specs.Over.{copies_by, hand_each, joined_by, puts_by, result_by, resulted, shared_number, shared_of, stores_by}
use Rattle.runner_library.specs.Whole.{AlikeCall, arrivals_for, called, given_by}
use Rattle.runner_library.proofs.Added.{add_both}
use Rattle.runner_library.proofs.Made.{shared_both}
use Rattle.runner_state.specs.Shown.{labels_of, value_of}

-- the result by what is known of it
module _ (app : App) (before : List Object) (vs : List Value) (source : Option ℕ) (ret : Name) (statics : ℕ → Value) (heap : List Object) (known : Known) where
  same_kind : (g : Gives) → ((from : List ℕ) → g ≡ gives.Joined from → labels_of known.labels ≡ joined_by before vs from source) → resulted app vs ret statics heap known (call_result g) ≡ given_by app before vs source ret statics heap (value_of known.read) g
  same_kind gives.Blank labels = refl
  same_kind (gives.Same i) labels = refl
  same_kind (gives.Taken i) labels = refl
  same_kind (gives.Joined from) labels = ap (joined_value ret heap) (labels from refl)
  same_kind (gives.Shared i) labels = refl
  same_kind gives.Handed labels = refl

  pub same_result : (g : Gives) (kind : CallResult) → kind ≡ call_result g → ((from : List ℕ) → g ≡ gives.Joined from → labels_of known.labels ≡ joined_by before vs from source) →
      result_by app vs ret statics heap known kind ≡ cond (is_void ret) (heap, blank) (given_by app before vs source ret statics heap (value_of known.read) g)
  same_result g kind is labels = ap (λ k. cond (is_void ret) (heap, blank) (resulted app vs ret statics heap known k)) is ∙ ap (cond (is_void ret) (heap, blank)) (same_kind g labels)

-- the shared objects that are named
same_shared : (g : Gives) → shared_of (call_result g) ≡ result_shared g
same_shared gives.Blank = refl
same_shared (gives.Same i) = refl
same_shared (gives.Taken i) = refl
same_shared (gives.Joined from) = refl
same_shared (gives.Shared i) = refl
same_shared gives.Handed = refl

module _ (row : Summary) (few : All (λ i. i < 65536) (map shared_number row.stores ++ result_shared row.gives)) where
  pub few_stores : All (λ (s : ℕ × ℕ). s.1 < 65536) row.stores
  few_stores = all_from_in (λ (s : ℕ × ℕ). s.1 < 65536) row.stores (λ s h. all_in (λ i. i < 65536) (map shared_number row.stores ++ result_shared row.gives) s.1 few (in_front s.1 (map shared_number row.stores) (result_shared row.gives) (in_map shared_number row.stores s h)))

  pub few_result : (kind : CallResult) → kind ≡ call_result row.gives → All (λ i. i < 65536) (shared_of kind)
  few_result kind is =
      all_from_in (λ i. i < 65536) (shared_of kind) (λ i h. all_in (λ i. i < 65536) (map shared_number row.stores ++ result_shared row.gives) i few
      (in_back i (map shared_number row.stores) (result_shared row.gives) (subst (In i) (ap shared_of is ∙ same_shared row.gives) h)))

module _ (row : Summary) (ret : Name) where
  module _ (app : App) (lists : Lists) (heap : List Object) (statics : ℕ → Value) (one : List Object × (ℕ → Value)) (made : one ≡ with_shared app lists (map shared_number row.stores) heap statics) where
    none_more : (numbers : List ℕ) → numbers ≡ [] → cond (is_void ret) [] (result_shared row.gives) ≡ numbers → one ≡ with_shared app lists (shared_named row ret) heap statics
    none_more numbers none is = made ∙ ap (λ xs. with_shared app lists xs heap statics) (sym (append-nil (map shared_number row.stores)) ∙ ap (λ xs. map shared_number row.stores ++ xs) (sym (is ∙ none)))

    pub of_void : is_void ret ≡ true → one ≡ with_shared app lists (shared_named row ret) heap statics
    of_void void = none_more [] refl (ap (λ b. cond b [] (result_shared row.gives)) void)

    pub of_other : (kind : CallResult) → kind ≡ call_result row.gives → is_void ret ≡ false → shared_of kind ≡ [] → one ≡ with_shared app lists (shared_named row ret) heap statics
    of_other kind is some none = none_more (shared_of kind) none (ap (λ b. cond b [] (result_shared row.gives)) some ∙ sym (ap shared_of is ∙ same_shared row.gives))

    pub of_shared : (kind : CallResult) (number : ℕ) (two : List Object × (ℕ → Value)) → kind ≡ call_result row.gives → is_void ret ≡ false → kind ≡ result.Shared number → two ≡ with_shared app lists (number ∷ []) one.0 one.1 → two ≡ with_shared app lists (shared_named row ret) heap statics
    of_shared kind number two is some at more =
        more
        ∙ (ap (λ (s : List Object × (ℕ → Value)). with_shared app lists (number ∷ []) s.0 s.1) made
        ∙ (sym (shared_both app lists (map shared_number row.stores) (number ∷ []) heap statics)
        ∙ ap (λ xs. with_shared app lists (map shared_number row.stores ++ xs) heap statics) (sym (ap (λ b. cond b [] (result_shared row.gives)) some ∙ (sym (same_shared row.gives) ∙ (ap shared_of (sym is) ∙ ap shared_of at))))))

pub not_shared : (kind : CallResult) → ((n : ℕ) → kind ≡ result.Shared n → ⊥) → shared_of kind ≡ []
not_shared result.Blank other = refl
not_shared (result.Same i) other = refl
not_shared (result.Taken i) other = refl
not_shared result.Joined other = refl
not_shared (result.Shared n) other = absurd (other n refl)
not_shared result.Handed other = refl

-- what is added, in three parts
pub add_three : (old one two new : List Object) (puts stores copies : List (ℕ × Value)) → one ≡ add_all old puts → two ≡ add_all one stores → new ≡ add_all two copies → new ≡ add_all old (puts ++ stores ++ copies)
add_three old one two new puts stores copies first second third =
    third
    ∙ (ap (λ h. add_all h copies) (second ∙ (ap (λ h. add_all h stores) first ∙ sym (add_both old puts stores)))
    ∙ sym (add_both old (puts ++ stores) copies))

same_heap : (heap new : List Object) → heap ≡ new → AlikeHeap heap new
same_heap heap new same = subst (AlikeHeap heap) same (pair_same AlikeObject alike_object heap)

same_statics : (one other : ℕ → Value) → one ≡ other → AlikeValues one other
same_statics one other same = subst (AlikeValues one) same (λ g. alike_itself (one g))

module _ (app : App) (lists : Lists) (w : World) (vs : List Value) (method pc : ℕ) (ret : Name) (row : Summary) (read : Value) where
  abbrev shared : List Object × (ℕ → Value)
  shared = with_shared app lists (shared_named row ret) w.heap w.statics

  abbrev given_from : List Object × (ℕ → Value) → List Object × Value
  given_from s = cond (is_void ret) (s.0, blank) (given_by app w.heap vs row.source ret s.1 s.0 read row.gives)

  pub finished : (new : World) (v : Value) (heap : List Object) (made : List Object × (ℕ → Value)) → made ≡ shared → new.statics ≡ made.1 → (heap, v) ≡ given_from made →
      new.heap ≡ add_all heap (puts_by vs row.puts ++ stores_by app vs made.1 row.stores ++ copies_by w.heap vs row.copies) →
      handed_places new.handed ≡ handed_places (hand_each vs w.handed) → new.arrivals ≡ w.arrivals ++ arrivals_for w.heap vs method pc row.sink → new.components ≡ w.components →
      AlikeCall (called app lists w vs method pc ret row read) new v
  unfolding called
  finished new v heap made is same gave added handed arrivals components =
      let done : (heap, v) ≡ given_from shared = gave ∙ ap given_from is in (
        record {
          heap = same_heap (add_all (given_from shared).0 (puts_by vs row.puts ++ stores_by app vs shared.1 row.stores ++ copies_by w.heap vs row.copies)) new.heap
              (sym (added
              ∙ (ap (λ (g : List Object × Value). add_all g.0 (puts_by vs row.puts ++ stores_by app vs made.1 row.stores ++ copies_by w.heap vs row.copies)) done
              ∙ ap (λ (s : List Object × (ℕ → Value)). add_all (given_from shared).0 (puts_by vs row.puts ++ stores_by app vs s.1 row.stores ++ copies_by w.heap vs row.copies)) is)));
          statics = same_statics shared.1 new.statics (sym (same ∙ ap (λ (s : List Object × (ℕ → Value)). s.1) is));
          components = sym components;
          handed = sym handed;
          arrivals = sym arrivals;
        },
        sym (ap (λ (g : List Object × Value). g.1) done),
      )

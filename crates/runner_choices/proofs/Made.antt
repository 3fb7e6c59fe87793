-- How a table is made.
use Rattle.std.proofs.Common.{◌≡◌, ℕ, ◌+◌, List, [], ◌∷◌, ◌++◌, map, Option, Some, None, option_map, slice_get, sym, ap, ◌∙◌, add-one, append-nil, append_assoc}
use Rattle.std.proofs.lemmas.List.{map_push}
use Rattle.std.specs.Prelude.{option_to_list}
use Rattle.app_machine.specs.declared.app.App.{App}
use Rattle.app_machine.specs.declared.lists.Callback.{Callback}
use Rattle.app_machine.specs.declared.lists.Lists.{Lists}
use Rattle.app_machine.specs.Names.{Name}
use Rattle.app_model.specs.EventBodies.{called, handed_callback}
use Rattle.event_index.specs.declared.comings.Coming.{Coming}
use Rattle.event_index.specs.Comings.{callback_run, coming_of, first_comings}
use Rattle.runner_choices.specs.Choices.{called_by}

pub row_further : (app : App) (lists : Lists) (class : Name) (q : ℕ) (own new : List Coming) (found : Option ℕ) → found ≡ callback_run (handed_callback app lists q class) → new ≡ own ++ coming_of q found → own ≡ first_comings app lists class q → new ≡ first_comings app lists class (q + 1)
row_further app lists class q own new found is more so_far =
    more ∙ (ap (λ xs. xs ++ coming_of q found) so_far ∙ (ap (λ o. first_comings app lists class q ++ coming_of q o) is ∙ ap (first_comings app lists class) (sym (add-one q))))

module _ {A B : Type 0} (show : A → B) where
  -- nothing is added
  pub none_added : (xs : List A) (o : Option B) → o ≡ None → map show xs ≡ map show xs ++ option_to_list o
  none_added xs o none = sym (append-nil (map show xs)) ∙ ap (λ p. map show xs ++ option_to_list p) (sym none)

  pub one_added : (xs new : List A) (x : A) (o : Option B) → new ≡ xs ++ x ∷ [] → o ≡ Some (show x) → map show new ≡ map show xs ++ option_to_list o
  one_added xs new x o more is = ap (map show) more ∙ (map_push show xs x ∙ ap (λ p. map show xs ++ option_to_list p) (sym is))

-- a walk from body to body
pub nothing_found : (found left all : List ℕ) → found ≡ [] → left ≡ all → found ++ left ≡ all
nothing_found found left all none same = ap (λ xs. xs ++ left) none ∙ same

pub one_further : (found new left rest all : List ℕ) (body : ℕ) → left ≡ body ∷ rest → new ≡ found ++ body ∷ [] → found ++ left ≡ all → new ++ rest ≡ all
one_further found new left rest all body next more so_far =
    ap (λ xs. xs ++ rest) more ∙ (append_assoc found (body ∷ []) rest ∙ (ap (λ xs. found ++ xs) (sym next) ∙ so_far))

pub all_found : (found left all : List ℕ) → left ≡ [] → found ++ left ≡ all → found ≡ all
all_found found left all none so_far = sym (append-nil found) ∙ (ap (λ xs. found ++ xs) (sym none) ∙ so_far)

-- a callback that comes, and one that does not
pub none_coming : (own : List Coming) (q : ℕ) (found : Option ℕ) → found ≡ None → own ≡ own ++ coming_of q found
none_coming own q found none = sym (append-nil own) ∙ ap (λ o. own ++ coming_of q o) (sym none)

pub coming_added : (own new : List Coming) (q body : ℕ) (found : Option ℕ) → found ≡ Some body → new ≡ own ++ record { row = q; body = body } ∷ [] → new ≡ own ++ coming_of q found
coming_added own new q body found is more = more ∙ ap (λ o. own ++ coming_of q o) (sym is)

pub not_called : (lists : Lists) (coming : Coming) → None ≡ slice_get lists.callbacks coming.row → called_by lists coming ≡ None
not_called lists coming none = ap (λ (o : Option Callback). option_map (λ (callback : Callback). called callback.sources coming.body) o) (sym none)

pub is_called : (lists : Lists) (coming : Coming) (callback : Callback) (sources : List (ℕ × ℕ)) → Some callback ≡ slice_get lists.callbacks coming.row → sources ≡ callback.sources → called_by lists coming ≡ Some (sources, coming.body)
is_called lists coming callback sources there same =
    ap (λ (o : Option Callback). option_map (λ (row : Callback). called row.sources coming.body) o) (sym there) ∙ ap (λ (s : List (ℕ × ℕ)). Some (called s coming.body)) (sym same)

-- Parameters that are drawn one after the other.
use Rattle.std.proofs.Common.{◌≡◌, ℕ, ◌+◌, ◌<◌, ◌≤◌, List, [], ◌∷◌, ◌++◌, drop, length, get_or, Option, Some, None, option_map, refl, sym, ap, ◌∙◌, append_assoc, append-nil}
use Rattle.std.proofs.lemmas.List.{drop_all, drop_more}
use Rattle.app_machine.specs.declared.app.App.{App}
use Rattle.app_machine.specs.declared.lists.Lists.{Lists}
use Rattle.app_machine.specs.Heap.{Value, Object}
use Rattle.app_machine.specs.Names.{Name}
use Rattle.played_machine.specs.Coming.{parameter}
use Rattle.played_machine.specs.Drawing.{Drawing, continue, give, ◌>>=◌}
use Rattle.runner_begin.specs.Parameters.{parameters_by}

abbrev pub Given : Type 0
Given = (List Value × List Object) × List ℕ

-- with these values in front
abbrev pub with_values : List Value → Given → Given
with_values vs given = ((vs ++ given.0.0, given.0.1), given.1)

module _ (app : App) (lists : Lists) (handed : List ℕ) (labels : ℕ → List ℕ) (types : List Name) (start : List Object) (bytes : List ℕ) where
  -- the first i parameters are drawn
  abbrev pub DrawnFirst : List Value → List Object → List ℕ → ℕ → Type 0
  DrawnFirst vs heap left i = option_map (with_values vs) (parameters_by app lists handed labels (i + 1) (drop i types) heap left) ≡ parameters_by app lists handed labels 1 types start bytes

  in_front : (v : Value) (vs : List Value) (o : Option Given) → option_map (with_values vs) (continue (λ (others : List Value × List Object). give (v ∷ others.0, others.1)) o) ≡ option_map (with_values (vs ++ v ∷ [])) o
  in_front v vs None = refl
  in_front v vs (Some given) = ap (λ ws. Some ((ws, given.0.1), given.1)) (sym (append_assoc vs (v ∷ []) given.0.0))

  no_values : (o : Option Given) → option_map (with_values []) o ≡ o
  no_values None = refl
  no_values (Some given) = refl

  pub none_drawn : (vs : List Value) (heap : List Object) → vs ≡ [] → heap ≡ start → DrawnFirst vs heap bytes 0
  none_drawn vs heap none same =
      ap (λ ws. option_map (with_values ws) (parameters_by app lists handed labels (0 + 1) types heap bytes)) none
      ∙ (no_values (parameters_by app lists handed labels (0 + 1) types heap bytes) ∙ ap (λ os. parameters_by app lists handed labels 1 types os bytes) same)

  -- what follows from one parameter
  abbrev after : ℕ → Value × List Object → Drawing (List Value × List Object)
  after i first = parameters_by app lists handed labels (i + 1 + 1) (drop (i + 1) types) first.1 >>= λ (others : List Value × List Object). give (first.0 ∷ others.0, others.1)

  opened : (vs : List Value) (heap : List Object) (left : List ℕ) (i : ℕ) (type : Name) (l : List ℕ) → i < length types → type ≡ get_or types i type → l ≡ labels (i + 1) →
      DrawnFirst vs heap left i → option_map (with_values vs) (continue (after i) (parameter app lists handed l type heap left)) ≡ parameters_by app lists handed labels 1 types start bytes
  opened vs heap left i type l within at same so_far =
      ap (λ ks. option_map (with_values vs) (continue (after i) (parameter app lists handed ks type heap left))) same
      ∙ (ap (λ t. option_map (with_values vs) (continue (after i) (parameter app lists handed (labels (i + 1)) t heap left))) at
      ∙ (ap (λ ts. option_map (with_values vs) (parameters_by app lists handed labels (i + 1) ts heap left)) (sym (drop_more types i type within)) ∙ so_far))

  pub one_drawn : (vs new : List Value) (heap next : List Object) (left rest : List ℕ) (i : ℕ) (type : Name) (l : List ℕ) (v : Value) → i < length types → type ≡ get_or types i type → l ≡ labels (i + 1) →
      parameter app lists handed l type heap left ≡ Some ((v, next), rest) → new ≡ vs ++ v ∷ [] → DrawnFirst vs heap left i → DrawnFirst new next rest (i + 1)
  one_drawn vs new heap next left rest i type l v within at same is more so_far =
      ap (λ ws. option_map (with_values ws) (parameters_by app lists handed labels (i + 1 + 1) (drop (i + 1) types) next rest)) more
      ∙ (sym (in_front v vs (parameters_by app lists handed labels (i + 1 + 1) (drop (i + 1) types) next rest))
      ∙ (ap (λ o. option_map (with_values vs) (continue (after i) o)) (sym is) ∙ opened vs heap left i type l within at same so_far))

  pub too_few : (vs : List Value) (heap : List Object) (left : List ℕ) (i : ℕ) (type : Name) (l : List ℕ) → i < length types → type ≡ get_or types i type → l ≡ labels (i + 1) →
      parameter app lists handed l type heap left ≡ None → DrawnFirst vs heap left i → None ≡ parameters_by app lists handed labels 1 types start bytes
  too_few vs heap left i type l within at same is so_far = ap (λ o. option_map (with_values vs) (continue (after i) o)) (sym is) ∙ opened vs heap left i type l within at same so_far

  pub all_drawn : (vs : List Value) (heap : List Object) (left : List ℕ) (i : ℕ) → length types ≤ i → DrawnFirst vs heap left i → Some ((vs, heap), left) ≡ parameters_by app lists handed labels 1 types start bytes
  all_drawn vs heap left i past so_far =
      ap (λ ws. Some ((ws, heap), left)) (sym (append-nil vs))
      ∙ (ap (λ ts. option_map (with_values vs) (parameters_by app lists handed labels (i + 1) ts heap left)) (sym (drop_all i types past)) ∙ so_far)

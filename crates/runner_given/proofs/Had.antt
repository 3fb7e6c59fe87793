-- What the library has, part by part.
use Rattle.std.proofs.Common.{◌≡◌, ◌+◌, ◌≤◌, ℕ, zero, suc, true, false, cond, List, [], ◌∷◌, ◌++◌, map, take, length, Option, Some, None, slice_get, refl, sym, ap, ◌∙◌, append_assoc, eq-eqb, arith}
use Rattle.std.specs.Prelude.{filter_map, option_to_list}
use Rattle.std.specs.List.{cons_option}
use Rattle.std.proofs.lemmas.List.{append-nil, take_all}
use Rattle.std.proofs.lemmas.List.Elements.{filter-append, filter_map-append}
use Rattle.std.proofs.lemmas.Bool.{ne_eqb}
use Rattle.app_machine.specs.declared.app.App.{App}
use Rattle.app_machine.specs.declared.lists.Lists.{Lists}
use Rattle.app_machine.specs.Heap.{blank}
use Rattle.app_machine.specs.Names.{Name, is_reference}
use Rattle.app_machine.specs.State.{ComponentState, World, object_at}
use Rattle.app_machine.specs.Summaries.{numbers_from}
use Rattle.played_machine.specs.Drawing.{one_of}
use Rattle.played_machine.specs.Librarian.{given_back, had, live_place, live_places}
use Rattle.played_machine.specs.Reading.{handed_places, is_of_type}
use Rattle.played_growth.specs.Growth.{classes_of}
use Rattle.runner_below.specs.Below.{below_among, if_below}
use Rattle.runner_below.proofs.Looked.{below_is, below_more}
use Rattle.runner_given.specs.Given.{object_there}

-- numbers in order
numbers_more : (s n : ℕ) → numbers_from s (n + 1) ≡ numbers_from s n ++ (s + n) ∷ []
numbers_more s zero = let same : s ≡ s + 0 = omega arith in ap (λ i. i ∷ []) same
numbers_more s (suc n) = let same : s + 1 + n ≡ s + suc n = omega arith in
    let next : suc n + 1 ≡ suc (n + 1) = omega arith in
    ap (numbers_from s) next ∙ ap (λ is. s ∷ is) (numbers_more (s + 1) n ∙ ap (λ i. numbers_from (s + 1) n ++ i ∷ []) same)

option_list : {A : Type 0} (o : Option A) → cons_option o [] ≡ option_to_list o
option_list None = refl
option_list (Some x) = refl

-- the components that are there
module _ (components : ℕ → ComponentState) (old : List ℕ) where
  -- those of the first components were added
  abbrev pub AreLive : ℕ → List ℕ → Type 0
  AreLive i places = places ≡ old ++ filter_map (λ c. live_place (components c)) (numbers_from 0 i)

  pub none_live : AreLive 0 old
  none_live = sym (append-nil old)

  pub one_live : (i : ℕ) (places new : List ℕ) → new ≡ places ++ option_to_list (live_place (components i)) → AreLive i places → AreLive (i + 1) new
  one_live i places new more so_far =
      let same : 0 + i ≡ i = omega arith in
      more ∙ (ap (λ ps. ps ++ option_to_list (live_place (components i))) so_far
      ∙ (append_assoc old (filter_map (λ c. live_place (components c)) (numbers_from 0 i)) (option_to_list (live_place (components i)))
      ∙ ap (λ ps. old ++ ps) (sym (ap (filter_map (λ c. live_place (components c))) (numbers_more 0 i ∙ ap (λ k. numbers_from 0 i ++ k ∷ []) same)
      ∙ (filter_map-append (λ c. live_place (components c)) (numbers_from 0 i) (i ∷ [])
      ∙ ap (λ ps. filter_map (λ c. live_place (components c)) (numbers_from 0 i) ++ ps) (option_list (live_place (components i))))))))

-- one component
module _ (component : ComponentState) (old new : List ℕ) where
  pub is_absent : component.state ≡ 0 → old ≡ old ++ option_to_list (live_place component)
  is_absent none = sym (ap (λ b. old ++ option_to_list (cond b None component.place)) (eq-eqb component.state 0 none) ∙ append-nil old)

  there : (o : Option ℕ) → (component.state ≡ 0 → ⊥) → component.place ≡ o → option_to_list (live_place component) ≡ option_to_list o
  there o some is = ap (λ b. option_to_list (cond b None component.place)) (ne_eqb component.state 0 some) ∙ ap option_to_list is

  pub has_none : (component.state ≡ 0 → ⊥) → component.place ≡ None → old ≡ old ++ option_to_list (live_place component)
  has_none some is = sym (ap (λ ps. old ++ ps) (there None some is) ∙ append-nil old)

  pub has_place : (p : ℕ) → (component.state ≡ 0 → ⊥) → component.place ≡ Some p → new ≡ old ++ p ∷ [] → new ≡ old ++ option_to_list (live_place component)
  has_place p some is more = more ∙ ap (λ ps. old ++ ps) (sym (there (Some p) some is))

-- those below a type
module _ (app : App) (lists : Lists) (classes : List Name) (kind : Name) (places : List ℕ) where
  abbrev pub AreFound : ℕ → List ℕ → Type 0
  AreFound i found = found ≡ below_among app lists classes (take i places) kind

  pub one_found : (i p : ℕ) (found new : List ℕ) → slice_get places i ≡ Some p → new ≡ found ++ if_below app lists kind (slice_get classes p) p → AreFound i found → AreFound (i + 1) new
  one_found i p found new is more so_far = more ∙ (ap (λ ps. ps ++ if_below app lists kind (slice_get classes p) p) so_far ∙ sym (below_more app lists kind classes places i p is))

  pub all_found : (i : ℕ) (found : List ℕ) → length places ≤ i → AreFound i found → found ≡ below_among app lists classes places kind
  all_found i found every so_far = so_far ∙ ap (λ ps. below_among app lists classes ps kind) (take_all i places every)

-- the three parts
module _ (app : App) (lists : Lists) (w : World) (handed : List ℕ) (kind : Name) where
  pub had_is : (before first others behind : List ℕ) → before ++ others ≡ handed_places handed ++ live_places app w →
      first ≡ below_among app lists (classes_of w.heap) before kind → behind ≡ below_among app lists (classes_of w.heap) others kind → first ++ behind ≡ had app lists w handed kind
  had_is before first others behind parts one other =
      ap (λ ps. ps ++ behind) one ∙ (ap (λ ps. below_among app lists (classes_of w.heap) before kind ++ ps) other
      ∙ (sym (filter-append (λ p. is_of_type app lists kind (slice_get (classes_of w.heap) p)) before others)
      ∙ (ap (λ ps. below_among app lists (classes_of w.heap) ps kind) parts ∙ sym (below_is app lists kind w.heap (handed_places handed ++ live_places app w)))))

  pub of_reference : (bytes : List ℕ) → is_reference kind ≡ true → one_of (blank ∷ map object_there (had app lists w handed kind)) bytes ≡ one_of (given_back app lists w handed kind) bytes
  of_reference bytes holds = sym (ap (λ b. one_of (blank ∷ cond b (map (λ p. object_at (Some p)) (had app lists w handed kind)) []) bytes) holds)

  pub of_number : (bytes : List ℕ) → is_reference kind ≡ false → one_of (blank ∷ []) bytes ≡ one_of (given_back app lists w handed kind) bytes
  of_number bytes fails = sym (ap (λ b. one_of (blank ∷ cond b (map (λ p. object_at (Some p)) (had app lists w handed kind)) []) bytes) fails)

-- no object is to come
pub with_none : (app : App) (lists : Lists) (kind : Name) (classes : List Name) (places : List ℕ) → below_among app lists (classes ++ []) places kind ≡ below_among app lists classes places kind
with_none app lists kind classes places = ap (λ cs. below_among app lists cs places kind) (append-nil classes)

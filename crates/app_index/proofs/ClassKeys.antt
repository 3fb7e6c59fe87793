-- The numbers at the name of a class are those of the listed class and of its default.
use Rattle.std.proofs.Common.{◌≡◌, ℕ, suc, Bool, true, false, cond, List, [], ◌∷◌, Option, Some, None, option_map, slice_get, find, refl, sym, ap, ◌∙◌}
use Rattle.std.specs.HashMap.{HashMap, get}
use Rattle.app_machine.specs.declared.lists.Lists.{Lists}
use Rattle.app_machine.specs.Names.{Name}
use Rattle.app_machine.specs.Summaries.{listed_class, default_of}
use Rattle.app_index.specs.contracts.keys.ClassKeyPartialEq.TheImpl.{ghosts as class_key_eq}
use Rattle.app_index.specs.declared.keys.ClassKey.{ClassKey}
use Rattle.app_index.specs.Numbers.{HasClasses, HasDefaults, is_named}
use Rattle.vet_base.specs.Members.{first_index}

-- what stands at the number, where there is one
abbrev pub at_number : {A : Type 0} → List A → Option ℕ → Option A
at_number xs None = None
at_number xs (Some i) = slice_get xs i

at_later : {A : Type 0} (x : A) (xs : List A) (o : Option ℕ) → at_number xs o ≡ at_number (x ∷ xs) (option_map suc o)
at_later x xs None = refl
at_later x xs (Some i) = refl

-- the first element that passes is that at its number
pub find_at : {A : Type 0} (test : A → Bool) (xs : List A) → find test xs ≡ at_number xs (first_index test xs)
find_at test [] = refl
find_at test (x ∷ xs) =
    elim (test x) as (λ b. cond b (Some x) (find test xs) ≡ at_number (x ∷ xs) (cond b (Some 0) (option_map suc (first_index test xs)))) [
      | true ↦ refl
      | false ↦ find_at test xs ∙ at_later x xs (first_index test xs)
    ]

pub class_there : {S : Type 0} (numbers : HashMap ClassKey ℕ S) (lists : Lists) (name : Name) (key : ClassKey) → HasClasses numbers lists.classes → key.name.now ≡ name →
    at_number lists.classes (get class_key_eq.eq numbers key) ≡ listed_class lists name
unfolding listed_class
class_there numbers lists name key has is =
    ap (at_number lists.classes) (has.at key) ∙ (sym (find_at (is_named key) lists.classes) ∙ rw is refl)

pub default_there : {S : Type 0} (numbers : HashMap ClassKey ℕ S) (lists : Lists) (name : Name) (key : ClassKey) → HasDefaults numbers lists.classes → key.name.now ≡ name →
    get class_key_eq.eq numbers key ≡ default_of lists name
unfolding default_of
default_there numbers lists name key has is = has.at key ∙ rw is refl

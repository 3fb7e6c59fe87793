-- The initialisers of a class and of those above it, as a walk comes to them.
use Rattle.std.proofs.Common.{◌≡◌, ◌↔◌, inl, inr, ℕ, Bool, true, false, ◌&&◌, List, [], ◌∷◌, Option, Some, None, slice_get, filter_map, refl, sym, ap, subst, ◌∙◌}
use Rattle.std.specs.List.{cons_option}
use Rattle.std.proofs.lemmas.Option.{same_Some, none-some}
use Rattle.vet_base.specs.Members.{In}
use Rattle.vet_base.proofs.Bools.{and_three}
use Rattle.vet_base.proofs.Firsts.{index_found}
use Rattle.vet_base.proofs.Members.{from_filter_map}
use Rattle.app_machine.specs.declared.app.App.{App}
use Rattle.app_machine.specs.declared.app.Class.{Class}
use Rattle.app_machine.specs.declared.method.Act.{Act}
use Rattle.app_machine.specs.declared.method.Method.{Method}
use Rattle.app_machine.specs.Names.{Name, same_name, same_proto, initialiser_name, initialiser_proto}
use Rattle.app_machine.specs.Lookups.{class_initialised, initialiser_of, initialisers, initialisers_from, method_of, up}
use Rattle.app_model.specs.declared.lookups.initialisers.InitialiserWalk.{InitialiserWalk}
use Rattle.app_model.specs.Initialisers.{class_initialisers, initialisers_among, initialisers_left, MayBeInitialiser}
use Rattle.app_model.specs.ClassWalks.{classes_from, classes_left}

-- a walk that begins
pub walk_begins : (app : App) (class : Option Name) (walk : InitialiserWalk) → classes_left app walk.classes ≡ classes_from app class → initialisers_left app walk ≡ class_initialisers app class
unfolding initialisers_left initialisers_from
walk_begins app class walk from = ap (initialisers_among app) from ∙ from_class class
  where
    from_class : (o : Option Name) → initialisers_among app (classes_from app o) ≡ class_initialisers app o
    from_class None = refl
    from_class (Some name) = refl

-- no class that was passed has one: those that are left have all
pub record Walked (app : App) (walk : InitialiserWalk) (left : List Class) : Type 0 where
  pub same : initialisers_left app walk ≡ initialisers_among app left

pub walked_none : (app : App) (walk : InitialiserWalk) → Walked app walk (classes_left app walk.classes)
unfolding initialisers_left
walked_none app walk = record { same = refl }

module _ (app : App) (walk : InitialiserWalk) (left : List Class) (walked : Walked app walk left) where
  pub walked_found : (c : Class) (classes : List Class) (body : ℕ) (rest : InitialiserWalk) → left ≡ c ∷ classes → initialiser_of app c.name ≡ Some body → classes_left app rest.classes ≡ classes →
      initialisers_left app walk ≡ body ∷ initialisers_left app rest
  unfolding initialisers_left
  walked_found c classes body rest front gives behind =
      walked.same ∙ (ap (initialisers_among app) front ∙ (ap (λ o. cons_option o (initialisers_among app classes)) gives ∙ ap (λ cs. body ∷ initialisers_among app cs) (sym behind)))

  pub walked_on : (c : Class) (classes : List Class) → left ≡ c ∷ classes → initialiser_of app c.name ≡ None → Walked app walk classes
  walked_on c classes front gives = record { same = walked.same ∙ (ap (initialisers_among app) front ∙ ap (λ o. cons_option o (initialisers_among app classes)) gives) }

  pub walked_all : left ≡ [] → initialisers_left app walk ≡ []
  walked_all nothing = walked.same ∙ ap (initialisers_among app) nothing

-- who is among those that are left
pub record SameLeft (app : App) (body : ℕ) (all left : List ℕ) : Type 0 where
  pub same : In body all ↔ In body left

pub none_passed : (app : App) (body : ℕ) (all left : List ℕ) → left ≡ all → SameLeft app body all left
none_passed app body all left same = record { same = (λ at. subst (In body) (sym same) at, λ at. subst (In body) same at) }

pub is_next : (app : App) (body : ℕ) (all left rest : List ℕ) → SameLeft app body all left → left ≡ body ∷ rest → In body all
is_next app body all left rest passed front = passed.same.1 (subst (In body) (sym front) (inl refl))

pub not_next : (app : App) (body other : ℕ) (all left rest : List ℕ) → SameLeft app body all left → left ≡ other ∷ rest → (other ≡ body → ⊥) → SameLeft app body all rest
not_next app body other all left rest passed front differs = record { same = (λ at. behind (subst (In body) front (passed.same.0 at)), λ at. passed.same.1 (subst (In body) (sym front) (inr at))) }
  where
    behind : In body (other ∷ rest) → In body rest
    behind (inl same) = absurd (differs (sym same))
    behind (inr later) = later

pub none_left : (app : App) (body : ℕ) (all left : List ℕ) → SameLeft app body all left → left ≡ [] → In body all → ⊥
none_left app body all left passed nothing at = subst (In body) nothing (passed.same.0 at)

pub not_among : (app : App) (act : Act) (body : ℕ) → MayBeInitialiser app body false → In body (initialisers app act) → ⊥
unfolding initialisers initialisers_from
not_among app act body never at = by_class (class_initialised app act) at
  where
    by_class : (o : Option Name) → In body (elim o [ None ↦ [] | Some class ↦ filter_map (λ (c : Class). initialiser_of app c.name) (up app class) ]) → ⊥
    by_class None is_in = is_in
    by_class (Some class) is_in = let one = from_filter_map (λ (c : Class). initialiser_of app c.name) (up app class) body is_in in never refl one.0.name one.2

-- what is an initialiser has that name
module _ (app : App) (class : Name) (body : ℕ) (is_one : initialiser_of app class ≡ Some body) where
  abbrev is_own : Method → Bool
  is_own m = same_name m.at.class class && same_name m.at.name initialiser_name && same_proto m.at.proto initialiser_proto

  named : (m : Method) × (slice_get app.methods body ≡ Some m) × (same_name m.at.name initialiser_name ≡ true)
  unfolding initialiser_of method_of
  named =
      let found = index_found is_own app.methods body is_one in
      let parts = and_three (same_name found.0.at.class class) (same_name found.0.at.name initialiser_name) (same_proto found.0.at.proto initialiser_proto) found.2 in
      (found.0, found.1, parts.1)

pub no_method : (app : App) (body : ℕ) (answer : Bool) → slice_get app.methods body ≡ None → MayBeInitialiser app body answer
no_method app body answer absent denied class is_one = let found = named app class body is_one in none-some found.0 (sym absent ∙ found.1)

pub other_name : (app : App) (body : ℕ) (m : Method) (answer : Bool) → slice_get app.methods body ≡ Some m → answer ≡ same_name m.at.name initialiser_name → MayBeInitialiser app body answer
other_name app body m answer there told denied class is_one =
    let found = named app class body is_one in
    let same : found.0 ≡ m = same_Some found.0 m (sym found.1 ∙ there) in
    let clash : false ≡ true = sym denied ∙ (told ∙ (ap (λ (x : Method). same_name x.at.name initialiser_name) (sym same) ∙ found.2)) in
    cc

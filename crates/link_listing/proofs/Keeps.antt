-- The components that a manifest gives: each has a class, the application stands first, and there is at most one more than rows.
use Rattle.std.proofs.Common.{◌≡◌, ℕ, ◌+◌, Ok, List, [], ◌∷◌, ◌++◌, length, length-append, ◌≤◌, Option, Some, None, refl, sym, ap, subst, arith, inl, inr}
use Rattle.std.specs.Prelude.{IsTrue}
use Rattle.vet_base.specs.Script.{Script, Value, run, each}
use Rattle.app_machine.specs.declared.app.Class.{Class}
use Rattle.app_machine.specs.declared.component.Kind.{Kind}
use Rattle.app_machine.specs.declared.component.Kind.TheVariants as kinds
use Rattle.app_machine.specs.declared.component.Component.{Component}
use Rattle.app_machine.specs.declared.papers.Word.{Word}
use Rattle.app_machine.specs.declared.papers.Word.TheVariants as words
use Rattle.app_machine.specs.declared.papers.Manifest.{Manifest}
use Rattle.vet_base.specs.Members.{In}
use Rattle.app_machine.specs.Names.{Name}
use Rattle.link_listing.specs.declared.fault.Fault.{Fault}
use Rattle.link_listing.specs.declared.fault.Fault.TheVariants.{NoClass}
use Rattle.link_listing.specs.Orders.{has_name}
use Rattle.link_listing.specs.Components.{NoApplication, OnlyFirst, Fit}
use Rattle.link_listing.specs.Components.{kind_of, one_component, component_row, component_rows, application_row, all_components}
use Rattle.vet_base.proofs.Runs.{value_is, test_ok, bind_ok}
use Rattle.vet_base.proofs.Eaches.{each_keeps}

none_more : (cs : List Component) (c : Component) → (c.kind ≡ kinds.Application → ⊥) → NoApplication cs → NoApplication (cs ++ c ∷ [])
none_more [] c other all = (other, tt)
none_more (d ∷ ds) c other all = (all.0, none_more ds c other all.1)

first_more : (cs : List Component) (c : Component) → (c.kind ≡ kinds.Application → ⊥) → OnlyFirst cs → OnlyFirst (cs ++ c ∷ [])
first_more [] c other all = tt
first_more (d ∷ ds) c other all = none_more ds c other all

known_more : (classes : List (Name × Class)) (cs : List Component) (c : Component) → IsTrue (has_name classes c.class) → ((d : Component) → In d cs → IsTrue (has_name classes d.class)) → (d : Component) → In d (cs ++ c ∷ []) → IsTrue (has_name classes d.class)
known_more classes [] c is all d (inl e) = subst (λ (x : Component). IsTrue (has_name classes x.class)) (sym e) is
known_more classes [] c is all d (inr k) = absurd k
known_more classes (x ∷ xs) c is all d (inl e) = all d (inl e)
known_more classes (x ∷ xs) c is all d (inr k) = known_more classes xs c is (λ y j. all y (inr j)) d k

abbrev made : Kind → Name → Component
made kind name = record { kind = kind; class = name }

one_fits : (classes : List (Name × Class)) (kind : Kind) (name : Name) (cs ds : List Component) → (kind ≡ kinds.Application → ⊥) → run (one_component classes kind name cs) ≡ Ok ds → Fit classes cs → Fit classes ds
unfolding one_component
one_fits classes kind name cs ds other e fit =
    let h = test_ok (has_name classes name) (NoClass name) (Value (cs ++ made kind name ∷ [])) ds e in
    let same : cs ++ made kind name ∷ [] ≡ ds = value_is {F = Fault} (cs ++ made kind name ∷ []) ds h.1 in
    let is : Fit classes (cs ++ made kind name ∷ []) = record { known = known_more classes cs (made kind name) h.0 fit.known; first = first_more cs (made kind name) other fit.first } in
    subst (Fit classes) same is

no_application : (word : Word) (kind : Kind) → kind_of word ≡ Some kind → kind ≡ kinds.Application → ⊥
no_application words.Activity kind e k = let j : kinds.Activity ≡ kind = cc in cc
no_application words.Service kind e k = let j : kinds.Service ≡ kind = cc in cc
no_application words.Receiver kind e k = let j : kinds.Receiver ≡ kind = cc in cc
no_application words.Provider kind e k = cc

by_kind : (classes : List (Name × Class)) (word : Word) (name : Name) (o : Option Kind) → kind_of word ≡ o → (cs ds : List Component)
    → run (elim o [ None ↦ Value cs | Some kind ↦ one_component classes kind name cs ]) ≡ Ok ds → Fit classes cs → Fit classes ds
by_kind classes word name None k cs ds e fit = subst (Fit classes) (value_is {F = Fault} cs ds e) fit
by_kind classes word name (Some kind) k cs ds e fit = one_fits classes kind name cs ds (no_application word kind k) e fit

row_fits : (classes : List (Name × Class)) (row : Word × Name) (cs ds : List Component) → run (component_row classes row cs) ≡ Ok ds → Fit classes cs → Fit classes ds
unfolding component_row
row_fits classes row cs ds e fit = by_kind classes row.0 row.1 (kind_of row.0) refl cs ds e fit

first_fits : (classes : List (Name × Class)) (name : Option Name) (ds : List Component) → run (application_row classes name) ≡ Ok ds → Fit classes ds
unfolding application_row one_component
first_fits classes None ds e = subst (Fit classes) (value_is {F = Fault} [] ds e) (record { known = λ c k. absurd k; first = tt })
first_fits classes (Some name) ds e =
    let h = test_ok (has_name classes name) (NoClass name) (Value (made kinds.Application name ∷ [])) ds e in
    let same : made kinds.Application name ∷ [] ≡ ds = value_is {F = Fault} (made kinds.Application name ∷ []) ds h.1 in
    let is : Fit classes (made kinds.Application name ∷ []) = record { known = known_more classes [] (made kinds.Application name) h.0 (λ d k. absurd k); first = tt } in
    subst (Fit classes) same is

-- the components of a manifest each have a class of the app, and the application stands first
pub components_fit : (classes : List (Name × Class)) (manifest : Manifest) (cs : List Component) → run (all_components classes manifest) ≡ Ok cs → Fit classes cs
unfolding all_components component_rows
components_fit classes manifest cs e =
    let first = bind_ok (application_row classes manifest.application) (λ first. component_rows classes manifest.components first) cs e in
    each_keeps (Fit classes) (component_row classes) (row_fits classes) manifest.components first.0 cs first.2 (first_fits classes manifest.application first.0 first.1)

-- what each row adds at most one to, going through a list adds at most its length to
pub each_counts : {F S X : Type 0} (measure : S → ℕ) (row : X → S → Script F S) → ((x : X) (s t : S) → run (row x s) ≡ Ok t → measure t ≤ measure s + 1)
    → (items : List X) (s t : S) → run (each row items s) ≡ Ok t → measure t ≤ measure s + length items
unfolding each
each_counts {F = F} measure row step [] s t e = let same : measure s ≡ measure t = ap measure (value_is {F = F} s t e) in omega (arith, same)
each_counts measure row step (x ∷ xs) s t e =
    let first = bind_ok (row x s) (λ next. each row xs next) t e in
    let one : measure first.0 ≤ measure s + 1 = step x s first.0 first.1 in
    let others : measure t ≤ measure first.0 + length xs = each_counts measure row step xs first.0 t first.2 in
    omega (arith, one, others)

one_longer : (classes : List (Name × Class)) (kind : Kind) (name : Name) (cs ds : List Component) → run (one_component classes kind name cs) ≡ Ok ds → length ds ≤ length cs + 1
unfolding one_component
one_longer classes kind name cs ds e =
    let h = test_ok (has_name classes name) (NoClass name) (Value (cs ++ made kind name ∷ [])) ds e in
    let same : length (cs ++ made kind name ∷ []) ≡ length ds = ap length (value_is {F = Fault} (cs ++ made kind name ∷ []) ds h.1) in
    omega (arith, same, length-append cs (made kind name ∷ []))

row_longer : (classes : List (Name × Class)) (row : Word × Name) (cs ds : List Component) → run (component_row classes row cs) ≡ Ok ds → length ds ≤ length cs + 1
unfolding component_row
row_longer classes row cs ds e = by_kind_longer (kind_of row.0) e
  where
    by_kind_longer : (o : Option Kind) → run (elim o [ None ↦ Value cs | Some kind ↦ one_component classes kind row.1 cs ]) ≡ Ok ds → length ds ≤ length cs + 1
    by_kind_longer None e = let same : length cs ≡ length ds = ap length (value_is {F = Fault} cs ds e) in omega (arith, same)
    by_kind_longer (Some kind) e = one_longer classes kind row.1 cs ds e

first_short : (classes : List (Name × Class)) (name : Option Name) (ds : List Component) → run (application_row classes name) ≡ Ok ds → length ds ≤ 1
unfolding application_row
first_short classes None ds e = let same : length {A = Component} [] ≡ length ds = ap length (value_is {F = Fault} [] ds e) in omega (arith, same)
first_short classes (Some name) ds e = let h : length ds ≤ 0 + 1 = one_longer classes kinds.Application name [] ds e in omega (arith, h)

-- there is at most one more component than the manifest has
pub components_few : (classes : List (Name × Class)) (manifest : Manifest) (cs : List Component) → run (all_components classes manifest) ≡ Ok cs → length cs ≤ 1 + length manifest.components
unfolding all_components component_rows
components_few classes manifest cs e =
    let first = bind_ok (application_row classes manifest.application) (λ first. component_rows classes manifest.components first) cs e in
    let one : length first.0 ≤ 1 = first_short classes manifest.application first.0 first.1 in
    let others : length cs ≤ length first.0 + length manifest.components = each_counts length (component_row classes) (row_longer classes) manifest.components first.0 cs first.2 in
    omega (arith, one, others)

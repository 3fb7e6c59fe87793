-- Classes in a list, and the entries that they stand for.
use Rattle.std.proofs.Common.{◌≡◌, true, false, List, [], ◌∷◌, map, Some, refl, sym, ◌∙◌, ap, inl, inr}
use Rattle.std.specs.List.Sorted.{IsStrictlySortedBy}
use Rattle.std.specs.Map.{keys_of}
use Rattle.std.specs.BTreeMap.{is_at}
use Rattle.std.specs.Ordering.{is_eq}
use Rattle.std.specs.declared.cmp.Ordering.TheVariants.{Less, Greater}
use Rattle.std.proofs.lemmas.Map.Keys.{sorted_head, sorted_tail}
use Rattle.std.proofs.lemmas.Map.Entries.{lookup_head, lookup_tail}
use Rattle.std.proofs.lemmas.Cmp.{nat_list_cmp_total, tied_itself}
use Rattle.app_machine.specs.declared.app.Class.{Class}
use Rattle.vet_base.specs.Members.{In}
use Rattle.app_machine.specs.Names.{Name}
use Rattle.app_machine.specs.Sound.{name_order}
use Rattle.app_machine.specs.Lookups.{directly_above}
use Rattle.vet_base.proofs.Members.{each_in}
use Rattle.link_listing.specs.Orders.{named}
use Rattle.link_hierarchy.specs.Hierarchy.{without_outer, renamed}

-- what stands for a class among the entries
pub record Entry (entries : List (Name × Class)) (c : Class) : Type 0 where
  pub class : Class
  pub there : In (c.name, class) entries
  pub above : directly_above class ≡ directly_above c

pub entry_of : (list : List Class) (entries : List (Name × Class)) (c : Class) → map without_outer list ≡ map renamed entries → In c list → Entry entries c
entry_of [] entries c same k = absurd k
entry_of (d ∷ ds) [] c same k = absurd cc
entry_of (d ∷ ds) (e ∷ es) c same (inl k) =
    let first : without_outer d ≡ renamed e = cc in
    let name : c.name ≡ e.0 = ap (λ (d : Class). d.name) k ∙ ap (λ (d : Class). d.name) first in
    let above : directly_above e.1 ≡ directly_above c = sym (ap directly_above k ∙ ap directly_above first) in
    record { class = e.1; there = inl (ap (λ (n : Name). (n, e.1)) name); above = above }
entry_of (d ∷ ds) (e ∷ es) c same (inr k) =
    let others : map without_outer ds ≡ map renamed es = cc in
    let found = entry_of ds es c others k in
    record { class = found.class; there = inr found.there; above = found.above }

in_keys : {X : Type 0} (entries : List (Name × X)) (name : Name) (x : X) → In (name, x) entries → In name (keys_of entries)
in_keys [] name x k = absurd k
in_keys (e ∷ es) name x (inl k) = inl (ap (λ (p : Name × _). p.0) k)
in_keys (e ∷ es) name x (inr k) = inr (in_keys es name x k)

-- in an ordered list the entry of a name is what is found
pub found_in : {X : Type 0} (entries : List (Name × X)) (name : Name) (x : X) → IsStrictlySortedBy name_order (keys_of entries) → In (name, x) entries → named entries name ≡ Some x
unfolding named
found_in [] name x sorted k = absurd k
found_in {X = X} (e ∷ es) name x sorted (inl k) =
    let same : name ≡ e.0 = ap (λ (p : Name × X). p.0) k in
    let value : x ≡ e.1 = ap (λ (p : Name × X). p.1) k in
    let tie : is_at (name_order name) e.0 ≡ true = ap (λ (n : Name). is_eq (name_order name n)) (sym same) ∙ ap is_eq (tied_itself nat_list_cmp_total name) in
    lookup_head (is_at (name_order name)) e es tie ∙ ap (λ (y : X). Some y) (sym value)
found_in (e ∷ es) name x sorted (inr k) =
    let less : name_order e.0 name ≡ Less = each_in (λ y. name_order e.0 y ≡ Less) (keys_of es) name (sorted_head name_order e.0 (keys_of es) sorted) (in_keys es name x k) in
    let greater : name_order name e.0 ≡ Greater = rw (nat_list_cmp_total.antisymm name e.0, less) refl in
    let differs : is_at (name_order name) e.0 ≡ false = ap is_eq greater in
    lookup_tail (is_at (name_order name)) e es differs ∙ found_in es name x (sorted_tail name_order e.0 (keys_of es) sorted) k

-- Classes that are given the library classes above them.
use Rattle.std.proofs.Common.{◌≡◌, true, false, List, [], ◌∷◌, ◌++◌, append_assoc, map, Option, Some, None, refl, sym, ◌∙◌, ap, inl, inr}
use Rattle.std.specs.Prelude.{IsTrue, is_some, flat_map}
use Rattle.std.specs.List.Sorted.{IsStrictlySortedBy}
use Rattle.std.specs.Map.{lookup, keys_of}
use Rattle.std.specs.BTreeMap.{is_at}
use Rattle.std.specs.Cmp.Lexicographic.{texts_ties}
use Rattle.std.proofs.lemmas.Map.Entries.{lookup_head, lookup_tail}
use Rattle.std.proofs.lemmas.List.{append-nil}
use Rattle.app_machine.specs.declared.app.Class.{Class}
use Rattle.vet_base.specs.Members.{In}
use Rattle.app_machine.specs.Names.{Name, same_name}
use Rattle.app_machine.specs.Sound.{name_order}
use Rattle.app_machine.specs.Lookups.{directly_above, class_among}
use Rattle.link_hierarchy.specs.Hierarchy.{HasOuters, firsts, given_by, outer_of, without_outer, renamed}
use Rattle.link_listing.specs.Orders.{named, has_name}
use Rattle.link_hierarchy.specs.Settled.{Entries, Outers, AllSettled, filled_by, gives, given_to, listed}
use Rattle.link_hierarchy.proofs.Firsts.{at_either}
use Rattle.link_hierarchy.proofs.Entries.{found_in}
use Rattle.std.proofs.lemmas.Bool.{cond-true, cond-false, cases_Bool}
use Rattle.vet_base.proofs.Members.{flat_map_agree}
use Rattle.vet_base.proofs.Texts.{tied_equal}

-- these are filled, and then those that are left make the whole
pub record Fills (outers : Outers) (front : List Class) (left : Entries) (whole : List Class) : Type 0 where
  pub is : front ++ map (filled_by outers) left ≡ whole

pub fills_begin : (outers : Outers) (entries : Entries) → Fills outers [] entries (map (filled_by outers) entries)
fills_begin outers entries = record { is = refl }

pub one_filled : (outers : Outers) (front : List Class) (left rest : Entries) (whole : List Class) (name : Name) (class new : Class) → left ≡ (name, class) ∷ rest → new ≡ filled_by outers (name, class)
    → Fills outers front left whole → Fills outers (front ++ new ∷ []) rest whole
one_filled outers front left rest whole name class new split_at same fills =
    let a : (front ++ new ∷ []) ++ map (filled_by outers) rest ≡ front ++ new ∷ map (filled_by outers) rest = append_assoc front (new ∷ []) (map (filled_by outers) rest) in
    let b : front ++ new ∷ map (filled_by outers) rest ≡ front ++ filled_by outers (name, class) ∷ map (filled_by outers) rest = ap (λ (c : Class). front ++ c ∷ map (filled_by outers) rest) same in
    let d : front ++ map (filled_by outers) ((name, class) ∷ rest) ≡ whole = ap (λ (es : Entries). front ++ map (filled_by outers) es) (sym split_at) ∙ fills.is in
    record { is = a ∙ (b ∙ d) }

pub fills_end : (outers : Outers) (front : List Class) (left : Entries) (whole : List Class) → left ≡ [] → Fills outers front left whole → front ≡ whole
fills_end outers front left whole none fills = sym (append-nil front) ∙ (ap (λ (es : Entries). front ++ map (filled_by outers) es) (sym none) ∙ fills.is)

pub same_classes : (outers : Outers) (entries : Entries) → map without_outer (map (filled_by outers) entries) ≡ map renamed entries
same_classes outers [] = refl
same_classes outers (e ∷ es) = ap (λ (cs : List Class). renamed e ∷ cs) (same_classes outers es)

abbrev pub outer_if : Outers → Name → Option Class → List Name
outer_if outers name None = name ∷ []
outer_if outers name (Some c) = listed (named outers name)

pub test_same : (a b : Name) → same_name a b ≡ is_at (name_order b) a
test_same a b = texts_ties a b ∙ at_either a b

-- what a name among the classes gives
gives_filled : (outers : Outers) (entries : Entries) (name : Name) → elim (class_among (map (filled_by outers) entries) name) [ None ↦ name ∷ [] | Some c ↦ c.outer ] ≡ outer_if outers name (lookup (is_at (name_order name)) entries)
gives_filled outers [] name = refl
gives_filled outers (e ∷ es) name = elim (cases_Bool (same_name e.0 name)) [
  | inl same ↦ (
      let at : is_at (name_order name) e.0 ≡ true = sym (test_same e.0 name) ∙ same in
      let k : name ≡ e.0 = tied_equal name e.0 at in
      let one : class_among (map (filled_by outers) (e ∷ es)) name ≡ Some (filled_by outers e) = cond-true (same_name e.0 name) (Some (filled_by outers e)) (class_among (map (filled_by outers) es) name) same in
      let two : lookup (is_at (name_order name)) (e ∷ es) ≡ Some e.1 = lookup_head (is_at (name_order name)) e es at in
      ap (λ (o : Option Class). elim o [ None ↦ name ∷ [] | Some c ↦ c.outer ]) one ∙ (ap (λ (n : Name). listed (named outers n)) (sym k) ∙ ap (outer_if outers name) (sym two)))
  | inr other ↦ (
      let at : is_at (name_order name) e.0 ≡ false = sym (test_same e.0 name) ∙ other in
      let one : class_among (map (filled_by outers) (e ∷ es)) name ≡ class_among (map (filled_by outers) es) name = cond-false (same_name e.0 name) (Some (filled_by outers e)) (class_among (map (filled_by outers) es) name) other in
      let two : lookup (is_at (name_order name)) (e ∷ es) ≡ lookup (is_at (name_order name)) es = lookup_tail (is_at (name_order name)) e es at in
      ap (λ (o : Option Class). elim o [ None ↦ name ∷ [] | Some c ↦ c.outer ]) one ∙ (gives_filled outers es name ∙ ap (outer_if outers name) (sym two)))
]

pub gives_as : (classes : Entries) (outers : Outers) (name : Name) (o : Option Class) → named classes name ≡ o → outer_if outers name o ≡ gives classes outers name
unfolding gives
gives_as classes outers name None e =
    let no : has_name classes name ≡ false = ap (λ (o : Option Class). is_some o) e in
    sym (cond-false (has_name classes name) (listed (named outers name)) (name ∷ []) no)
gives_as classes outers name (Some c) e =
    let yes : has_name classes name ≡ true = ap (λ (o : Option Class). is_some o) e in
    sym (cond-true (has_name classes name) (listed (named outers name)) (name ∷ []) yes)

given_same : (outers : Outers) (entries : Entries) (name : Name) → given_by (map (filled_by outers) entries) name ≡ gives entries outers name
unfolding given_by named
given_same outers entries name = gives_filled outers entries name ∙ gives_as entries outers name (named entries name) refl

record From (outers : Outers) (entries : Entries) (c : Class) : Type 0 where
  name : Name
  class : Class
  there : In (name, class) entries
  is : c ≡ filled_by outers (name, class)

from_entry : (outers : Outers) (entries : Entries) (c : Class) → In c (map (filled_by outers) entries) → From outers entries c
from_entry outers [] c k = absurd k
from_entry outers (e ∷ es) c (inl k) = record { name = e.0; class = e.1; there = inl refl; is = k }
from_entry outers (e ∷ es) c (inr k) = let f = from_entry outers es c k in record { name = f.name; class = f.class; there = inr f.there; is = f.is }

-- each class lists the library classes above it
pub has_outers : (outers : Outers) (entries : Entries) → IsStrictlySortedBy name_order (keys_of entries) → AllSettled entries outers → HasOuters (map (filled_by outers) entries)
unfolding outer_of
has_outers outers entries sorted all = record { each = λ c k. of_class c (from_entry outers entries c k) }
  where
    of_class : (c : Class) → From outers entries c → c.outer ≡ outer_of (map (filled_by outers) entries) c
    of_class c from =
        let there : named entries from.name ≡ Some from.class = found_in entries from.name from.class sorted from.there in
        let known : IsTrue (has_name entries from.name) = ap (λ (o : Option Class). is_some o) there in
        let lists : named outers from.name ≡ Some (given_to entries outers from.class) = all.settled.lists from.name from.class there (all.all from.name known) in
        let one : c.outer ≡ listed (named outers from.name) = ap (λ (d : Class). d.outer) from.is in
        let two : listed (named outers from.name) ≡ given_to entries outers from.class = ap listed lists in
        let same : flat_map (gives entries outers) (directly_above from.class) ≡ flat_map (given_by (map (filled_by outers) entries)) (directly_above from.class) = flat_map_agree (gives entries outers) (given_by (map (filled_by outers) entries)) (directly_above from.class) (λ x j. sym (given_same outers entries x)) in
        let three : given_to entries outers from.class ≡ firsts (flat_map (given_by (map (filled_by outers) entries)) (directly_above c)) = ap firsts same ∙ ap (λ (d : Class). firsts (flat_map (given_by (map (filled_by outers) entries)) (directly_above d))) (sym from.is) in
        one ∙ (two ∙ three)

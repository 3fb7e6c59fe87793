-- Sets of names have what their lists have.
use Rattle.std.proofs.Common.{◌≡◌, Bool, ◌&&◌, List, sym, ◌∙◌, ap, subst}
use Rattle.std.specs.Cmp.{IsTotalOrder}
use Rattle.std.specs.Cmp.Lexicographic.{texts_ties, nat_list_cmp_total}
use Rattle.std.specs.List.{list_any}
use Rattle.std.specs.Ordering.{is_eq, ordering_then}
use Rattle.std.specs.BTreeMap.{is_at}
use Rattle.std.proofs.lemmas.Cmp.{on_total, then_total}
use Rattle.app_machine.specs.Names.{Name, same_name}
use Rattle.app_machine.specs.Sound.{name_order}
use Rattle.link_listing.specs.Orders.{triple_order}
use Rattle.link_listing.specs.Texts.{Triple, same_triple}
use Rattle.outcomes.specs.Ascending.{ascending}
use Rattle.outcomes.proofs.Sorting.{any_ascending}
use Rattle.vet_base.proofs.Orders.{is_eq-then}
use Rattle.vet_base.proofs.Lists.{list_any_agree}
use Rattle.device_causes.specs.Sets.{is_among, is_listed, IsSetOf, IsListOf}

name_ties : (k n : Name) → is_at (name_order k) n ≡ same_name k n
name_ties k n = sym (texts_ties k n)

pub contains_name : (keys : List Name) (k : Name) → list_any (is_at (name_order k)) keys ≡ is_among keys k
unfolding is_among
contains_name keys k = list_any_agree (is_at (name_order k)) (λ n. same_name k n) (name_ties k) keys

pub names_same : (set names : List Name) → set ≡ ascending name_order names → IsSetOf set names
names_same set names is = record {
  same = λ name. sym (contains_name set name) ∙ ap (list_any (is_at (name_order name))) is
      ∙ any_ascending name_order nat_list_cmp_total name names ∙ contains_name names name;
}

triple_total : IsTotalOrder triple_order
triple_total =
    then_total (then_total (on_total (λ (t : Triple). t.0) nat_list_cmp_total) (on_total (λ (t : Triple). t.1) nat_list_cmp_total)) (on_total (λ (t : Triple). t.2) nat_list_cmp_total)

triple_ties : (k t : Triple) → is_at (triple_order k) t ≡ same_triple k t
triple_ties k t =
    is_eq-then (ordering_then (name_order k.0 t.0) (name_order k.1 t.1)) (name_order k.2 t.2)
    ∙ ap (λ (b : Bool). b && is_eq (name_order k.2 t.2)) (is_eq-then (name_order k.0 t.0) (name_order k.1 t.1))
    ∙ ap (λ (b : Bool). (b && is_eq (name_order k.1 t.1)) && is_eq (name_order k.2 t.2)) (sym (texts_ties k.0 t.0))
    ∙ ap (λ (b : Bool). (same_name k.0 t.0 && b) && is_eq (name_order k.2 t.2)) (sym (texts_ties k.1 t.1))
    ∙ ap (λ (b : Bool). (same_name k.0 t.0 && same_name k.1 t.1) && b) (sym (texts_ties k.2 t.2))

pub contains_triple : (keys : List Triple) (k : Triple) → list_any (is_at (triple_order k)) keys ≡ is_listed keys k
unfolding is_listed
contains_triple keys k = list_any_agree (is_at (triple_order k)) (λ t. same_triple k t) (triple_ties k) keys

pub triples_same : (set triples : List Triple) → set ≡ ascending triple_order triples → IsListOf set triples
triples_same set triples is = record {
  same = λ triple. sym (contains_triple set triple) ∙ ap (list_any (is_at (triple_order triple))) is
      ∙ any_ascending triple_order triple_total triple triples ∙ contains_triple triples triple;
}

-- whether the set has a name is whether its list has
pub among_by_set : (set names : List Name) (name : Name) → IsSetOf set names → is_among set name ≡ is_among names name
among_by_set set names name is = is.same name

-- the same by another name for its list
pub set_as : (set names others : List Name) → names ≡ others → IsSetOf set names → IsSetOf set others
set_as set names others same is = subst (IsSetOf set) same is

pub list_as : (set triples others : List Triple) → triples ≡ others → IsListOf set triples → IsListOf set others
list_as set triples others same is = subst (IsListOf set) same is

-- The methods of files are listed by the texts of their descriptors.
use Rattle.std.proofs.Common.{◌≡◌, ℕ, true, false, not, Ok, List, [], ◌∷◌, refl, sym, ap, subst, ◌∙◌, inl, inr}
use Rattle.std.specs.BTreeMap.{insert_entry}
use Rattle.std.specs.Ordering.{match_ordering}
use Rattle.std.specs.declared.cmp.Ordering.{Ordering}
use Rattle.std.specs.declared.cmp.Ordering.TheVariants.{Less, Equal, Greater}
use Rattle.vet_base.specs.Script.{Value, ◌>>=◌, run}
use Rattle.dex_tables.specs.declared.dex.Dex.{Dex}
use Rattle.dex_tables.specs.declared.dex.ClassDef.{ClassDef}
use Rattle.dex_tables.specs.declared.dex.Body.{Body}
use Rattle.app_machine.specs.declared.papers.Manifest.{Manifest}
use Rattle.vet_base.specs.Members.{In}
use Rattle.app_machine.specs.Names.{Name, descriptor_of}
use Rattle.link_listing.specs.declared.fault.Fault.{Fault}
use Rattle.link_listing.specs.declared.members.Listed.{Listed}
use Rattle.link_listing.specs.declared.members.Place.{Place}
use Rattle.link_listing.specs.Texts.{Triple, type_of}
use Rattle.link_listing.specs.Orders.{triple_order, has_triple, with_triple}
use Rattle.link_listing.specs.MemberRows.{Fields, Methods, method_named, listed_of, second, place_at, first_of, one_method, nth_method, some_methods, some_fields, class_members, dex_members, all_members}
use Rattle.link_listing.specs.Classes.{all_classes}
use Rattle.link_listing.specs.Components.{all_components}
use Rattle.link_listing.specs.Gathered.{Gathered, gathering}
use Rattle.link_listing.specs.Described.{Described}
use Rattle.link_listing.proofs.Triples.{tied_triples_equal}
use Rattle.vet_base.proofs.Runs.{value_is, test_ok, bind_ok}
use Rattle.vet_base.proofs.Throughs.{through_keeps}

abbrev Told : Triple → Listed → Type 0
Told triple listed = triple.2 ≡ descriptor_of listed.proto

told_more : (es : Methods) (k : Triple) (x : Listed) → Told k x → ((e : Triple × Listed) → In e es → Told e.0 e.1) → (e : Triple × Listed) → In e (insert_entry triple_order es k x) → Told e.0 e.1
told_more [] k x one all e (inl same) = subst (λ (p : Triple × Listed). Told p.0 p.1) (sym same) one
told_more [] k x one all e (inr j) = absurd j
told_more (d ∷ ds) k x one all e j = by_order (triple_order k d.0) refl (told_more ds k x one (λ y i. all y (inr i)) e) j
  where
    by_order : (o : Ordering) → triple_order k d.0 ≡ o → (In e (insert_entry triple_order ds k x) → Told e.0 e.1) → In e (match_ordering o ((k, x) ∷ d ∷ ds) ((d.0, x) ∷ ds) (d ∷ insert_entry triple_order ds k x)) → Told e.0 e.1
    by_order Less o later (inl same) = subst (λ (p : Triple × Listed). Told p.0 p.1) (sym same) one
    by_order Less o later (inr i) = all e i
    by_order Equal o later (inl same) = subst (λ (p : Triple × Listed). Told p.0 p.1) (sym same) (ap (λ (t : Triple). t.2) (sym (tied_triples_equal k d.0 o)) ∙ one)
    by_order Equal o later (inr i) = all e (inr i)
    by_order Greater o later (inl same) = all e (inl same)
    by_order Greater o later (inr i) = later i

one_told : (dex : Dex) (class : Name) (place : Place) (body : Body) (s t : Methods) → run (one_method dex class place body s) ≡ Ok t → Described s → Described t
unfolding one_method with_triple method_named listed_of
one_told dex class place body s t e told =
    let name : Triple = method_named dex class body in
    let made : Methods = with_triple s name (listed_of dex place body) in
    let new = test_ok (not (has_triple s name)) (second name) (Value made) t e in
    let same : made ≡ t = value_is {F = Fault} made t new.1 in
    let is : Described made = record { each = told_more s name (listed_of dex place body) refl told.each } in
    subst Described same is

bodies_told : (dex : Dex) (class : Name) (first : Place) (bodies : List Body) (s t : Methods) → run (some_methods dex class first bodies s) ≡ Ok t → Described s → Described t
unfolding some_methods
bodies_told dex class first bodies s t e told = through_keeps Described (nth_method dex class first) (λ i body. one_told dex class (place_at first i) body) 0 bodies s t e told

abbrev Members : Type 0
Members = Fields × Methods

class_told : (d : ℕ) (dex : Dex) (c : ℕ) (def : ClassDef) (s t : Members) → run (class_members d dex c def s) ≡ Ok t → Described s.1 → Described t.1
unfolding class_members
class_told d dex c def s t e told =
    let class : Name = type_of dex def.class in
    let statics = bind_ok (some_fields dex class true def.statics s.0) (λ statics. some_fields dex class false def.instances statics >>= (λ fields. some_methods dex class (first_of d c false) def.directs s.1 >>= (λ directs. some_methods dex class (first_of d c true) def.virtuals directs >>= (λ methods. Value (fields, methods))))) t e in
    let fields = bind_ok (some_fields dex class false def.instances statics.0) (λ fields. some_methods dex class (first_of d c false) def.directs s.1 >>= (λ directs. some_methods dex class (first_of d c true) def.virtuals directs >>= (λ methods. Value (fields, methods)))) t statics.2 in
    let directs = bind_ok (some_methods dex class (first_of d c false) def.directs s.1) (λ directs. some_methods dex class (first_of d c true) def.virtuals directs >>= (λ methods. Value (fields.0, methods))) t fields.2 in
    let methods = bind_ok (some_methods dex class (first_of d c true) def.virtuals directs.0) (λ methods. Value (fields.0, methods)) t directs.2 in
    let same : (fields.0, methods.0) ≡ t = value_is {F = Fault} (fields.0, methods.0) t methods.2 in
    let one : Described directs.0 = bodies_told dex class (first_of d c false) def.directs s.1 directs.0 directs.1 told in
    let two : Described methods.0 = bodies_told dex class (first_of d c true) def.virtuals directs.0 methods.0 methods.1 one in
    subst (λ (m : Members). Described m.1) {x = (fields.0, methods.0)} same two

dex_told : (d : ℕ) (dex : Dex) (s t : Members) → run (dex_members d dex s) ≡ Ok t → Described s.1 → Described t.1
unfolding dex_members
dex_told d dex s t e told = through_keeps (λ (m : Members). Described m.1) (class_members d dex) (class_told d dex) 0 dex.classes s t e told

members_told : (dexes : List Dex) (t : Members) → run (all_members dexes) ≡ Ok t → Described t.1
unfolding all_members
members_told dexes t e = through_keeps (λ (m : Members). Described m.1) dex_members dex_told 0 dexes ([], []) t e (record { each = λ x k. absurd k })

-- what is gathered is described
pub gathered_described : (dexes : List Dex) (manifest : Manifest) (g : Gathered) → run (gathering dexes manifest) ≡ Ok g → Described g.methods
unfolding gathering
gathered_described dexes manifest g e =
    let classes = bind_ok (all_classes dexes) (λ classes. all_members dexes >>= (λ members. all_components classes manifest >>= (λ components. Value (record { classes = classes; fields = members.0; methods = members.1; components = components })))) g e in
    let members = bind_ok (all_members dexes) (λ members. all_components classes.0 manifest >>= (λ components. Value (record { classes = classes.0; fields = members.0; methods = members.1; components = components }))) g classes.2 in
    let components = bind_ok (all_components classes.0 manifest) (λ components. Value (record { classes = classes.0; fields = members.0.0; methods = members.0.1; components = components })) g members.2 in
    let made : Gathered = record { classes = classes.0; fields = members.0.0; methods = members.0.1; components = components.0 } in
    let same : made ≡ g = value_is {F = Fault} made g components.2 in
    subst (λ (x : Gathered). Described x.methods) {x = made} same (members_told dexes members.0 members.1)

-- What is gathered is what stands in the files and in the manifest.
use Rattle.std.proofs.Common.{◌≡◌, ℕ, Bool, true, false, Ok, Option, Some, None, List, [], ◌∷◌, ◌++◌, append_assoc, map, refl, sym, ap, subst, ◌∙◌, inl, inr}
use Rattle.std.specs.Prelude.{IsTrue, is_some, flat_map, filter_map, option_to_list}
use Rattle.std.specs.BTreeMap.{is_at}
use Rattle.std.specs.List.{enumerate_from}
use Rattle.std.specs.Map.{keys_of}
use Rattle.std.proofs.lemmas.Cmp.{nat_list_cmp_total}
use Rattle.std.proofs.lemmas.List.{append-nil}
use Rattle.std.proofs.lemmas.Map.Entries.{lookup_head, lookup_tail}
use Rattle.vet_base.specs.Script.{Script, Value, Test, ◌>>=◌, run, through}
use Rattle.dex_tables.specs.declared.dex.Dex.{Dex}
use Rattle.dex_tables.specs.declared.dex.ClassDef.{ClassDef}
use Rattle.dex_tables.specs.declared.dex.Member.{Member}
use Rattle.dex_tables.specs.declared.dex.Body.{Body}
use Rattle.app_machine.specs.declared.app.Class.{Class}
use Rattle.app_machine.specs.declared.component.Kind.{Kind}
use Rattle.app_machine.specs.declared.component.Component.{Component}
use Rattle.app_machine.specs.declared.papers.Word.{Word}
use Rattle.app_machine.specs.declared.papers.Manifest.{Manifest}
use Rattle.vet_base.specs.Members.{In}
use Rattle.app_machine.specs.Names.{Name}
use Rattle.app_machine.specs.Sound.{name_order}
use Rattle.link_listing.specs.declared.fault.Fault.{Fault}
use Rattle.link_listing.specs.declared.fault.Fault.TheVariants.{TwoClasses, NoClass}
use Rattle.link_listing.specs.declared.members.Listed.{Listed}
use Rattle.link_listing.specs.Texts.{Triple, type_of}
use Rattle.link_listing.specs.Orders.{triple_order, named, has_name, with_name, named_triple, with_triple}
use Rattle.link_listing.specs.Classes.{class_row, dex_classes, all_classes}
use Rattle.link_listing.specs.MemberRows.{Fields, Methods, second, one_field, some_fields, first_of, one_method, nth_method, some_methods, class_members, dex_members, all_members}
use Rattle.link_listing.specs.Components.{kind_of, of_kind, component_of, application_of, components_of, one_component, component_row, component_rows, application_row, all_components}
use Rattle.link_listing.specs.Gathered.{Gathered, AreGathered, gathering}
use Rattle.link_listing.specs.InFiles.{class_entry, classes_of, classes_in, field_entry, class_fields, fields_of, fields_in, method_entry, class_methods, methods_of, methods_in}
use Rattle.link_listing.proofs.Lookups.{at_itself}
use Rattle.link_listing.proofs.Passes.{IsPass, pass_on, each_pass, through_pass, AreBoth, both_as, two_and_two, through_both}
use Rattle.link_listing.proofs.Triples.{triple_total}
use Rattle.link_listing.proofs.PutIn.{putting, putting_joined, put_ordered, ordered_put}
use Rattle.vet_base.proofs.Runs.{value_is, test_ok, test_passes, bind_ok, bind_runs}
use Rattle.std.proofs.lemmas.Bool.{cases_Bool}
use Rattle.vet_base.proofs.Texts.{tied_equal}

abbrev put_classes : List (Name × Class) → List (Name × Class) → Script Fault (List (Name × Class))
put_classes = putting name_order nat_list_cmp_total TwoClasses

abbrev put_members : {X : Type 0} → List (Triple × X) → List (Triple × X) → Script Fault (List (Triple × X))
put_members = putting triple_order triple_total second

classes_pass : IsPass put_classes
classes_pass = record { none = λ s. refl; joined = putting_joined name_order nat_list_cmp_total TwoClasses }

members_pass : (X : Type 0) → IsPass (put_members {X = X})
members_pass X = record { none = λ s. refl; joined = putting_joined triple_order triple_total second }

one_class : (dex : Dex) (def : ClassDef) (s : List (Name × Class)) → class_row dex def s ≡ put_classes (class_entry dex def ∷ []) s
unfolding class_row class_entry with_name named
one_class dex def s = refl

file_classes : (dex : Dex) (s : List (Name × Class)) → dex_classes dex s ≡ put_classes (classes_of dex) s
unfolding dex_classes classes_of
file_classes dex s = each_pass put_classes classes_pass (class_row dex) (λ def. class_entry dex def ∷ []) (map (class_entry dex)) refl (λ def defs. refl) (one_class dex) dex.classes s

classes_put : (dexes : List Dex) → all_classes dexes ≡ put_classes (classes_in dexes) []
unfolding all_classes classes_in
classes_put dexes = each_pass put_classes classes_pass dex_classes classes_of (flat_map classes_of) refl (λ dex files. refl) file_classes dexes []

field_put : (dex : Dex) (class : Name) (static : Bool) (member : Member) (s : Fields) → one_field dex class static member s ≡ put_members (field_entry dex class static member ∷ []) s
unfolding one_field field_entry with_triple named_triple
field_put dex class static member s = refl

some_fields_put : (dex : Dex) (class : Name) (static : Bool) (members : List Member) (s : Fields) → some_fields dex class static members s ≡ put_members (map (field_entry dex class static) members) s
unfolding some_fields
some_fields_put dex class static members s =
    each_pass put_members (members_pass Bool) (one_field dex class static) (λ member. field_entry dex class static member ∷ []) (map (field_entry dex class static)) refl (λ m ms. refl) (field_put dex class static) members s

method_put : (file : ℕ × Dex) (class : ℕ × ClassDef) (is_virtual : Bool) (i : ℕ) (body : Body) (s : Methods)
    → nth_method file.1 (type_of file.1 class.1.class) (first_of file.0 class.0 is_virtual) i body s ≡ put_members (method_entry file class is_virtual (i, body) ∷ []) s
unfolding one_method method_entry with_triple named_triple
method_put file class is_virtual i body s = refl

some_methods_put : (file : ℕ × Dex) (class : ℕ × ClassDef) (is_virtual : Bool) (bodies : List Body) (s : Methods)
    → some_methods file.1 (type_of file.1 class.1.class) (first_of file.0 class.0 is_virtual) bodies s ≡ put_members (map (method_entry file class is_virtual) (enumerate_from 0 bodies)) s
unfolding some_methods
some_methods_put file class is_virtual bodies s =
    through_pass put_members (members_pass Listed) (nth_method file.1 (type_of file.1 class.1.class) (first_of file.0 class.0 is_virtual)) (λ j body. method_entry file class is_virtual (j, body) ∷ [])
    (λ j bs. map (method_entry file class is_virtual) (enumerate_from j bs)) (λ j. refl) (λ j b bs. refl) (method_put file class is_virtual) 0 bodies s

class_put : (file : ℕ × Dex) (c : ℕ) (def : ClassDef) (a : Fields) (b : Methods)
    → AreBoth (class_members file.0 file.1 c def (a, b)) (put_members (class_fields file.1 def) a) (put_members (class_methods file (c, def)) b)
unfolding class_members class_fields class_methods
class_put file c def a b =
    let dex : Dex = file.1 in
    let class : Name = type_of dex def.class in
    both_as (class_members file.0 dex c def (a, b))
    (some_fields dex class true def.statics a >>= some_fields dex class false def.instances) (put_members (class_fields dex def) a)
    (some_methods dex class (first_of file.0 c false) def.directs b >>= some_methods dex class (first_of file.0 c true) def.virtuals) (put_members (class_methods file (c, def)) b)
    (two_and_two (some_fields dex class true def.statics a) (some_fields dex class false def.instances) (some_methods dex class (first_of file.0 c false) def.directs b) (some_methods dex class (first_of file.0 c true) def.virtuals))
    (pass_on put_members (members_pass Bool) (map (field_entry dex class true) def.statics) (map (field_entry dex class false) def.instances) a (some_fields dex class true def.statics a) (some_fields dex class false def.instances)
    (some_fields_put dex class true def.statics a) (some_fields_put dex class false def.instances))
    (pass_on put_members (members_pass Listed) (map (method_entry file (c, def) false) (enumerate_from 0 def.directs)) (map (method_entry file (c, def) true) (enumerate_from 0 def.virtuals)) b
    (some_methods dex class (first_of file.0 c false) def.directs b) (some_methods dex class (first_of file.0 c true) def.virtuals) (some_methods_put file (c, def) false def.directs b) (some_methods_put file (c, def) true def.virtuals))

file_put : (d : ℕ) (dex : Dex) (a : Fields) (b : Methods) → AreBoth (dex_members d dex (a, b)) (put_members (fields_of dex) a) (put_members (methods_of (d, dex)) b)
unfolding dex_members fields_of methods_of
file_put d dex a b =
    both_as (through (class_members d dex) 0 dex.classes (a, b))
    (through (λ j def. put_members (class_fields dex def)) 0 dex.classes a) (put_members (fields_of dex) a)
    (through (λ j def. put_members (class_methods (d, dex) (j, def))) 0 dex.classes b) (put_members (methods_of (d, dex)) b)
    (through_both (class_members d dex) (λ j def. put_members (class_fields dex def)) (λ j def. put_members (class_methods (d, dex) (j, def))) (class_put (d, dex)) 0 dex.classes a b)
    (through_pass put_members (members_pass Bool) (λ j def. put_members (class_fields dex def)) (λ j def. class_fields dex def) (λ j defs. flat_map (class_fields dex) defs) (λ j. refl) (λ j def defs. refl) (λ j def s. refl) 0 dex.classes a)
    (through_pass put_members (members_pass Listed) (λ j def. put_members (class_methods (d, dex) (j, def))) (λ j def. class_methods (d, dex) (j, def)) (λ j defs. flat_map (class_methods (d, dex)) (enumerate_from j defs)) (λ j. refl) (λ j def defs. refl) (λ j def s. refl) 0 dex.classes b)

members_put : (dexes : List Dex) → AreBoth (all_members dexes) (put_members (fields_in dexes) []) (put_members (methods_in dexes) [])
unfolding all_members fields_in methods_in
members_put dexes =
    both_as (through dex_members 0 dexes ([], []))
    (through (λ j dex. put_members (fields_of dex)) 0 dexes []) (put_members (fields_in dexes) [])
    (through (λ j dex. put_members (methods_of (j, dex))) 0 dexes []) (put_members (methods_in dexes) [])
    (through_both dex_members (λ j dex. put_members (fields_of dex)) (λ j dex. put_members (methods_of (j, dex))) file_put 0 dexes [] [])
    (through_pass put_members (members_pass Bool) (λ j dex. put_members (fields_of dex)) (λ j dex. fields_of dex) (λ j files. flat_map fields_of files) (λ j. refl) (λ j dex files. refl) (λ j dex s. refl) 0 dexes [])
    (through_pass put_members (members_pass Listed) (λ j dex. put_members (methods_of (j, dex))) (λ j dex. methods_of (j, dex)) (λ j files. flat_map methods_of (enumerate_from j files)) (λ j. refl) (λ j dex files. refl) (λ j dex s. refl) 0 dexes [])

there_from : {X : Type 0} (entries : List (Name × X)) (name : Name) → IsTrue (has_name entries name) → In name (keys_of entries)
unfolding named
there_from [] name h = absurd cc
there_from (e ∷ es) name h = elim (cases_Bool (is_at (name_order name) e.0)) [
  | inl here ↦ inl (tied_equal name e.0 here)
  | inr other ↦ inr (there_from es name (subst (λ (o : Option _). IsTrue (is_some o)) (lookup_tail (is_at (name_order name)) e es other) h))
]

there_to : {X : Type 0} (entries : List (Name × X)) (name : Name) → In name (keys_of entries) → IsTrue (has_name entries name)
unfolding named
there_to [] name k = absurd k
there_to (e ∷ es) name (inl same) = rw (lookup_head (is_at (name_order name)) e es (ap (is_at (name_order name)) (sym same) ∙ at_itself name)) refl
there_to (e ∷ es) name (inr k) = elim (cases_Bool (is_at (name_order name) e.0)) [
  | inl here ↦ rw (lookup_head (is_at (name_order name)) e es here) refl
  | inr other ↦ rw (lookup_tail (is_at (name_order name)) e es other) (there_to es name k)
]

module _ (classes : List (Name × Class)) where
  -- each component is listed once its class is found
  abbrev listing : List Component → List Component → Script Fault (List Component)
  listing [] s = Value s
  listing (c ∷ cs) s = Test (has_name classes c.class) (NoClass c.class) (listing cs (s ++ c ∷ []))

  listing_joined : (xs ys s : List Component) → listing (xs ++ ys) s ≡ (listing xs s >>= listing ys)
  listing_joined [] ys s = refl
  listing_joined (x ∷ xs) ys s = ap (λ (rest : Script Fault (List Component)). Test (has_name classes x.class) (NoClass x.class) rest) (listing_joined xs ys (s ++ x ∷ []))

  listing_pass : IsPass listing
  listing_pass = record { none = λ s. refl; joined = listing_joined }

  kind_listed : (o : Option Kind) (name : Name) (s : List Component) → (elim o [ None ↦ Value s | Some kind ↦ one_component classes kind name s ]) ≡ listing (option_to_list (of_kind o name)) s
  unfolding one_component
  kind_listed None name s = refl
  kind_listed (Some kind) name s = refl

  row_listed : (row : Word × Name) (s : List Component) → component_row classes row s ≡ listing (option_to_list (component_of row)) s
  unfolding component_row component_of
  row_listed row s = kind_listed (kind_of row.0) row.1 s

  filtered : (o : Option Component) (rows : List (Word × Name)) (row : Word × Name) → component_of row ≡ o → filter_map component_of (row ∷ rows) ≡ option_to_list (component_of row) ++ filter_map component_of rows
  filtered None rows row e = rw e refl
  filtered (Some c) rows row e = rw e refl

  application_listed : (name : Option Name) → application_row classes name ≡ listing (map application_of (option_to_list name)) []
  unfolding application_row application_of one_component
  application_listed None = refl
  application_listed (Some name) = refl

  rows_listed : (rows : List (Word × Name)) (s : List Component) → component_rows classes rows s ≡ listing (filter_map component_of rows) s
  unfolding component_rows
  rows_listed rows s = each_pass listing listing_pass (component_row classes) (λ row. option_to_list (component_of row)) (filter_map component_of) refl (λ row rows. filtered (component_of row) rows row refl) row_listed rows s

  components_listed : (manifest : Manifest) → all_components classes manifest ≡ listing (components_of manifest) []
  unfolding all_components components_of
  components_listed manifest = pass_on listing listing_pass (map application_of (option_to_list manifest.application)) (filter_map component_of manifest.components) []
      (application_row classes manifest.application) (component_rows classes manifest.components) (application_listed manifest.application) (rows_listed manifest.components)

  abbrev AreKnown : List Component → Type 0
  AreKnown cs = (c : Component) → In c cs → In c.class (keys_of classes)

  listed_stand : (cs s t : List Component) → run (listing cs s) ≡ Ok t → (t ≡ s ++ cs) × AreKnown cs
  listed_stand [] s t e = (sym (append-nil s ∙ value_is {F = Fault} s t e), λ c k. absurd k)
  listed_stand (x ∷ xs) s t e =
      let first = test_ok (has_name classes x.class) (NoClass x.class) (listing xs (s ++ x ∷ [])) t e in
      let rest = listed_stand xs (s ++ x ∷ []) t first.1 in (
        rest.0 ∙ append_assoc s (x ∷ []) xs,
        λ c k. elim k [
          | inl same ↦ subst (λ (d : Component). In d.class (keys_of classes)) (sym same) (there_from classes x.class first.0)
          | inr j ↦ rest.1 c j
        ],
      )

  listed_run : (cs s : List Component) → AreKnown cs → run (listing cs s) ≡ Ok (s ++ cs)
  listed_run [] s known = ap (λ (ds : List Component). Ok ds) (sym (append-nil s))
  listed_run (x ∷ xs) s known =
      test_passes (has_name classes x.class) (NoClass x.class) (listing xs (s ++ x ∷ [])) (there_to classes x.class (known x (inl refl)))
      ∙ (listed_run xs (s ++ x ∷ []) (λ c k. known c (inr k)) ∙ ap (λ (ds : List Component). Ok ds) (append_assoc s (x ∷ []) xs))

module _ (dexes : List Dex) (manifest : Manifest) where
  abbrev made : List (Name × Class) → Fields × Methods → List Component → Gathered
  made classes members components = record { classes = classes; fields = members.0; methods = members.1; components = components }

  -- what the tests lead to stands in the files
  pub gathering_stands : (g : Gathered) → run (gathering dexes manifest) ≡ Ok g → AreGathered dexes manifest g
  unfolding gathering
  gathering_stands g e =
      let classes = bind_ok (all_classes dexes) (λ classes. all_members dexes >>= (λ members. all_components classes manifest >>= (λ components. Value (made classes members components)))) g e in
      let members = bind_ok (all_members dexes) (λ members. all_components classes.0 manifest >>= (λ components. Value (made classes.0 members components))) g classes.2 in
      let components = bind_ok (all_components classes.0 manifest) (λ components. Value (made classes.0 members.0 components)) g members.2 in
      let same : made classes.0 members.0 components.0 ≡ g = value_is {F = Fault} (made classes.0 members.0 components.0) g components.2 in
      let parts = (members_put dexes).parted members.0.0 members.0.1 members.1 in
      let listed = listed_stand classes.0 (components_of manifest) [] components.0 (sym (ap run (components_listed classes.0 manifest)) ∙ components.1) in
      let are : AreGathered dexes manifest (made classes.0 members.0 components.0) = record {
        classes = put_ordered name_order nat_list_cmp_total TwoClasses (classes_in dexes) classes.0 (sym (ap run (classes_put dexes)) ∙ classes.1);
        fields = put_ordered triple_order triple_total second (fields_in dexes) members.0.0 parts.0;
        methods = put_ordered triple_order triple_total second (methods_in dexes) members.0.1 parts.1;
        components = listed.0;
        known = λ c k. listed.1 c (subst (λ (cs : List Component). In c cs) listed.0 k);
      } in
      subst (AreGathered dexes manifest) same are

  -- what stands in the files passes the tests
  pub gathering_runs : (g : Gathered) → AreGathered dexes manifest g → run (gathering dexes manifest) ≡ Ok g
  unfolding gathering
  gathering_runs g are =
      let classes : run (all_classes dexes) ≡ Ok g.classes = ap run (classes_put dexes) ∙ ordered_put name_order nat_list_cmp_total TwoClasses (classes_in dexes) g.classes are.classes in
      let fields : run (put_members (fields_in dexes) []) ≡ Ok g.fields = ordered_put triple_order triple_total second (fields_in dexes) g.fields are.fields in
      let methods : run (put_members (methods_in dexes) []) ≡ Ok g.methods = ordered_put triple_order triple_total second (methods_in dexes) g.methods are.methods in
      let members : run (all_members dexes) ≡ Ok (g.fields, g.methods) = (members_put dexes).made g.fields g.methods fields methods in
      let known : (c : Component) → In c (components_of manifest) → In c.class (keys_of g.classes) = λ c k. are.known c (subst (λ (cs : List Component). In c cs) (sym are.components) k) in
      let components : run (all_components g.classes manifest) ≡ Ok g.components =
      ap run (components_listed g.classes manifest) ∙ (listed_run g.classes (components_of manifest) [] known ∙ ap (λ (cs : List Component). Ok cs) (sym are.components)) in
      bind_runs (all_classes dexes) g.classes (λ classes. all_members dexes >>= (λ members. all_components classes manifest >>= (λ components. Value (made classes members components)))) (Ok g) classes
      (bind_runs (all_members dexes) (g.fields, g.methods) (λ members. all_components g.classes manifest >>= (λ components. Value (made g.classes members components))) (Ok g) members
      (bind_runs (all_components g.classes manifest) g.components (λ components. Value (made g.classes (g.fields, g.methods) components)) (Ok g) components refl))

-- A class that lies deeper than all that is directly above it is not above itself.
use Rattle.std.proofs.Common.{◌≡◌, ℕ, ◌+◌, ◌<◌, ◌≤◌, Bool, true, List, [], ◌∷◌, ◌++◌, Option, Some, None, refl, sym, ◌∙◌, ap, subst, arith, inl, inr}
use Rattle.std.specs.Prelude.{IsTrue, nat_lt, option_to_list, ◌&&◌}
use Rattle.std.specs.List.{list_all}
use Rattle.std.specs.Map.{keys_of}
use Rattle.std.proofs.lemmas.Bool.{and_parts, ltb-true}
use Rattle.app_machine.specs.declared.app.Class.{Class}
use Rattle.app_machine.specs.Lookups.{directly_above}
use Rattle.app_machine.specs.Names.{Name}
use Rattle.vet_base.specs.Members.{In}
use Rattle.vet_base.proofs.Members.{list_all_in}
use Rattle.link_hierarchy.specs.Depths.{NoneDeeper, all_above, depth, lies_below, none_deeper, one_above}
use Rattle.link_hierarchy.specs.Hierarchy.{Above, directly, beyond}
use Rattle.link_listing.specs.Orders.{named, has_name}
use Rattle.link_hierarchy.proofs.Rounds.{all_left}
use Rattle.link_hierarchy.proofs.Stuck.{starts}

module _ (classes : List (Name × Class)) (depths : List (Name × ℕ)) where
  among : (limit : ℕ) (superclass : Option Name) (names : List Name) (above : Name) → (one_above depths limit superclass && all_above depths limit names) ≡ true → In above (option_to_list superclass ++ names) → depth depths above < limit
  among limit None names above e k = ltb-true (depth depths above) limit (list_all_in (λ (n : Name). nat_lt (depth depths n) limit) names above e k)
  among limit (Some s) names above e (inl same) = subst (λ (n : Name). depth depths n < limit) (sym same) (ltb-true (depth depths s) limit (and_parts (nat_lt (depth depths s) limit) (all_above depths limit names) e).0)
  among limit (Some s) names above e (inr k) = ltb-true (depth depths above) limit (list_all_in (λ (n : Name). nat_lt (depth depths n) limit) names above (and_parts (nat_lt (depth depths s) limit) (all_above depths limit names) e).1 k)

  -- what is directly above a class is less deep than the limit
  less_deep : (limit : ℕ) (name above : Name) (class : Class) → named classes name ≡ Some class → lies_below classes depths limit name ≡ true → In above (directly_above class) → depth depths above < limit
  unfolding lies_below
  less_deep limit name above class is e k = among limit class.superclass class.interfaces above (sym (ap (λ (o : Option Class). elim o [ None ↦ true | Some c ↦ one_above depths limit c.superclass && all_above depths limit c.interfaces ]) is) ∙ e) k

  pub nowhere_deeper : (names : List Name) → names ≡ keys_of classes → list_all (none_deeper classes depths) names ≡ true → NoneDeeper classes depths
  unfolding none_deeper named
  nowhere_deeper names is all = record { each = climbs }
    where
      climbs : (name above : Name) → Above classes name above → depth depths above ≤ depth depths name
      climbs name above (directly class there k) =
          let j : In name names = elim ((all_left classes [] names is).each name (starts classes name above (directly class there k))) [ inl had ↦ absurd cc | inr j ↦ j ] in
          let e : none_deeper classes depths name ≡ true = list_all_in (none_deeper classes depths) names name all j in
          let h : depth depths above < (depth depths name + 1) = less_deep (depth depths name + 1) name above class there e k in
          omega (arith, h)
      climbs name above (beyond p q) = let h = climbs _ _ p in let g = climbs _ _ q in omega (arith, h, g)

  pub not_itself : NoneDeeper classes depths → (name : Name) → lies_below classes depths (depth depths name) name ≡ true → Above classes name name → ⊥
  not_itself none name e p = let h = rises name name p e in omega (arith, h)
    where
      rises : (from above : Name) → Above classes from above → lies_below classes depths (depth depths from) from ≡ true → depth depths above < depth depths from
      rises from above (directly class there k) e = less_deep (depth depths from) from above class there e k
      rises from above (beyond p q) e = let h = rises _ _ p e in let g = none.each _ _ q in omega (arith, h, g)

-- without numbers all lie at 0
pub all_level : (classes : List (Name × Class)) → NoneDeeper classes []
unfolding depth named
all_level classes = record { each = λ name above p. omega arith }

-- Names of classes, one after the other.
use Rattle.std.proofs.Common.{◌≡◌, List, [], ◌∷◌, ◌++◌, Option, Some, sym, ap, subst, inl, inr}
use Rattle.std.specs.Prelude.{IsTrue, is_some}
use Rattle.app_machine.specs.declared.app.Class.{Class}
use Rattle.app_machine.specs.Names.{Name}
use Rattle.vet_base.specs.Members.{In}
use Rattle.link_listing.specs.Orders.{named, has_name}
use Rattle.link_hierarchy.specs.Hierarchy.{AreOfClasses}
use Rattle.vet_base.proofs.Members.{in_either}

pub none_yet : (classes : List (Name × Class)) → AreOfClasses classes []
none_yet classes = record { each = λ name k. absurd k }

pub one_more : (classes : List (Name × Class)) (names : List Name) (name : Name) (class : Class) → AreOfClasses classes names → named classes name ≡ Some class → AreOfClasses classes (names ++ name ∷ [])
one_more classes names name class are there = record {
  each = λ other k. elim (in_either other names (name ∷ []) k) [
    | inl j ↦ are.each other j
    | inr (inl same) ↦ subst (λ (n : Name). IsTrue (has_name classes n)) (sym same) (ap (λ (o : Option Class). is_some o) there)
    | inr (inr j) ↦ absurd j
  ];
}

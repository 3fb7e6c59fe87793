-- What is known of an order by the fields that its values are written as.
use Rattle.std.proofs.Common.{refl, sym, ap, ◌∙◌}
use Rattle.std.specs.Prelude.{◌≡◌, ℕ, ◌++◌, List, [], ◌∷◌}
use Rattle.std.specs.List.{flat_map}
use Rattle.std.specs.Ordering.{nat_cmp, ordering_then}
use Rattle.std.specs.Cmp.Lexicographic.{slice_cmp}
use Rattle.std.specs.declared.cmp.Ordering.{Ordering}
use Rattle.std.specs.declared.cmp.Ordering.TheVariants.{Less, Equal, Greater}
use Rattle.std.proofs.lemmas.List.{append-nil}
use Rattle.std.proofs.lemmas.Map.Lookups.{CmpEqualImpliesEq, exact_pairs}
use Rattle.vet_base.proofs.Orders.{then_assoc}
use Rattle.access_path.specs.Compared.{then_by, ComparesAs, compares_pair, compares_same}
use Rattle.fact_rows.specs.declared.field.Field.{Field}
use Rattle.fact_rows.specs.Order.{field_cmp, numbers_of_field as numbers}

-- the order of what a field names
pub record ToldBy {A : Type 0} (R : A → A → Ordering) (field : A → Field) : Type 0 where
  pub exact : CmpEqualImpliesEq R
  pub alike : (a b : A) → field_cmp (field a) (field b) ≡ R a b
  pub stated : ComparesAs nat_cmp R (λ a. numbers (field a))

-- the order of what a field names beside the field before it
pub record ToldBeside {A B : Type 0} (R : A → A → Ordering) (S : B → B → Ordering) (field : A → B → Field) : Type 0 where
  pub exact : CmpEqualImpliesEq S
  pub alike : (a c : A) (b d : B) → field_cmp (field a b) (field c d) ≡ ordering_then (R a c) (S b d)
  pub own : B → List ℕ
  pub written : (a : A) (b : B) → own b ≡ numbers (field a b)
  pub stated : ComparesAs nat_cmp S own

-- the order of what fields name, one behind the other
pub record Told {A : Type 0} (R : A → A → Ordering) (fields : A → List Field) : Type 0 where
  pub exact : CmpEqualImpliesEq R
  pub alike : ComparesAs field_cmp R fields
  pub stated : ComparesAs nat_cmp R (λ a. flat_map numbers (fields a))

-- one field
pub last : {A : Type 0} {R : A → A → Ordering} {f : A → Field} → ToldBy R f → Told R (λ a. f a ∷ [])
last {f = f} t = record {
  exact = t.exact;
  alike = record { is = λ a b xs ys. ap (λ o. ordering_then o (slice_cmp field_cmp xs ys)) (t.alike a b) };
  stated = compares_same (λ a. sym (append-nil (numbers (f a)))) t.stated;
}

-- a field in front of others
pub before : {A B : Type 0} {R : A → A → Ordering} {S : B → B → Ordering} {f : A → Field} {g : B → List Field}
    → ToldBy R f → Told S g → Told (then_by R S) (λ (p : A × B). f p.0 ∷ g p.1)
before {R = R} {S = S} t more = record {
  exact = exact_pairs R S t.exact more.exact;
  alike = record {
    is = λ p q xs ys.
        (λ i. ordering_then (t.alike p.0 q.0 i) (more.alike.is p.1 q.1 xs ys i))
        ∙ then_assoc (R p.0 q.0) (S p.1 q.1) (slice_cmp field_cmp xs ys);
  };
  stated = compares_pair t.stated more.stated;
}

-- a field, and one beside it
own_last : (o s x : Ordering) → ordering_then o (ordering_then (ordering_then o s) x) ≡ ordering_then (ordering_then o s) x
own_last Less s x = refl
own_last Equal s x = refl
own_last Greater s x = refl

pub last_beside : {A B : Type 0} {R : A → A → Ordering} {S : B → B → Ordering} {f : A → Field} {h : A → B → Field}
    → ToldBy R f → ToldBeside R S h → Told (then_by R S) (λ (p : A × B). f p.0 ∷ h p.0 p.1 ∷ [])
last_beside {R = R} {S = S} {f = f} {h = h} t beside = record {
  exact = exact_pairs R S t.exact beside.exact;
  alike = record {
    is = λ p q xs ys.
        (λ i. ordering_then (t.alike p.0 q.0 i) (ordering_then (beside.alike p.0 q.0 p.1 q.1 i) (slice_cmp field_cmp xs ys)))
        ∙ own_last (R p.0 q.0) (S p.1 q.1) (slice_cmp field_cmp xs ys);
  };
  stated = compares_same (λ p i. numbers (f p.0) ++ (beside.written p.0 p.1 ∙ sym (append-nil (numbers (h p.0 p.1)))) i)
      (compares_pair t.stated beside.stated);
}

-- both in front of others
own_before : (o s t x : Ordering)
    → ordering_then o (ordering_then (ordering_then o s) (ordering_then t x)) ≡ ordering_then (ordering_then o (ordering_then s t)) x
own_before Less s t x = refl
own_before Equal s t x = then_assoc s t x
own_before Greater s t x = refl

pub before_beside : {A B C : Type 0} {R : A → A → Ordering} {S : B → B → Ordering} {T : C → C → Ordering}
    → {f : A → Field} {h : A → B → Field} {g : C → List Field}
    → ToldBy R f → ToldBeside R S h → Told T g → Told (then_by R (then_by S T)) (λ (p : A × (B × C)). f p.0 ∷ h p.0 p.1.0 ∷ g p.1.1)
before_beside {R = R} {S = S} {T = T} {f = f} {g = g} t beside more = record {
  exact = exact_pairs R (then_by S T) t.exact (exact_pairs S T beside.exact more.exact);
  alike = record {
    is = λ p q xs ys.
        (λ i. ordering_then (t.alike p.0 q.0 i) (ordering_then (beside.alike p.0 q.0 p.1.0 q.1.0 i) (more.alike.is p.1.1 q.1.1 xs ys i)))
        ∙ own_before (R p.0 q.0) (S p.1.0 q.1.0) (T p.1.1 q.1.1) (slice_cmp field_cmp xs ys);
  };
  stated = compares_same (λ p i. numbers (f p.0) ++ (beside.written p.0 p.1.0 i ++ flat_map numbers (g p.1.1)))
      (compares_pair t.stated (compares_pair beside.stated more.stated));
}

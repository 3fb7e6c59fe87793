-- Where what each item brings is not among what the items before it brought, no two items bring the same.
use Rattle.std.proofs.Common.{◌≡◌, ℕ, suc, Bool, true, false, cond, List, [], ◌∷◌, ◌++◌, map, Option, Some, None, option_map, refl, sym, ap, subst, ◌∙◌, inl, inr}
use Rattle.std.specs.Prelude.{is_none, IsTrue}
use Rattle.vet_base.specs.Script.{Script, each}
use Rattle.vet_base.specs.Members.{In}
use Rattle.vet_base.specs.Apart.{Apart}
use Rattle.vet_base.proofs.Members.{in_front, in_back}
use Rattle.vet_base.proofs.Texts.{same_itself}
use Rattle.app_machine.specs.Names.{Name, same_name}
use Rattle.form_fields.specs.Places.{place_of}
use Rattle.form_fields.proofs.Yields.{Yields, yields_value, yields_then, yields_weaker}

first_fails : (b : Bool) (o : Option ℕ) → is_none (cond b (Some 0) (option_map suc o)) ≡ true → (b ≡ false) × (is_none o ≡ true)
first_fails true o e = absurd cc
first_fails false None e = (refl, refl)
first_fails false (Some n) e = absurd cc

-- a name without a place in a list is not in it
no_place : (x : Name) (seen : List Name) → is_none (place_of same_name x seen) ≡ true → In x seen → ⊥
unfolding place_of
no_place x [] e is_in = is_in
no_place x (y ∷ ys) e (inl same) =
    let fails : same_name x y ≡ false = (first_fails (same_name x y) (place_of same_name x ys) e).0 in
    let holds : same_name x y ≡ true = ap (λ (z : Name). same_name x z) (sym same) ∙ same_itself x in
    let both : true ≡ false = sym holds ∙ fails in
    absurd cc
no_place x (y ∷ ys) e (inr later) = no_place x ys (first_fails (same_name x y) (place_of same_name x ys) e).1 later

module _ {A : Type 0} (f : A → Name) where
  -- what the items bring differs from each other and from what was seen before
  record New (items : List A) (seen : List Name) : Type 0 where
    apart : Apart (map f items)
    new : (x : Name) → In x seen → In x (map f items) → ⊥

  -- the item brings what is not there, and adds it
  pub record Adds (item : A) (seen all : List Name) : Type 0 where
    pub lacks : is_none (place_of same_name (f item) seen) ≡ true
    pub is : all ≡ seen ++ f item ∷ []

  one_more : (item : A) (items : List A) (seen all : List Name) → Adds item seen all → New items all → New (item ∷ items) seen
  one_more item items seen all adds rest = record {
    apart = (λ later. rest.new (f item) (subst (λ (l : List Name). In (f item) l) (sym adds.is) (in_back (f item) seen (f item ∷ []) (inl refl))) later, rest.apart);
    new = λ x before at. after x before at;
  }
    where
      after : (x : Name) → In x seen → In x (f item ∷ map f items) → ⊥
      after x before (inl same) = no_place (f item) seen adds.lacks (subst (λ (z : Name). In z seen) same before)
      after x before (inr later) = rest.new x (subst (λ (l : List Name). In x l) (sym adds.is) (in_front x seen (f item ∷ []) before)) later

  each_new : {F : Type 0} (row : A → List Name → Script F (List Name)) → ((item : A) (seen : List Name) → Yields (Adds item seen) (row item seen))
      → (items : List A) (seen : List Name) → Yields (λ _. New items seen) (each row items seen)
  unfolding each
  each_new row step [] seen = yields_value _ seen (record { apart = tt; new = λ x before at. at })
  each_new row step (item ∷ items) seen =
      yields_then (Adds item seen) (λ _. New (item ∷ items) seen) (row item seen) _ (step item seen)
      (λ all adds. yields_weaker (λ _. New items all) (λ _. New (item ∷ items) seen) (each row items all) (λ _ rest. one_more item items seen all adds rest) (each_new row step items all))

  pub each_apart : {F : Type 0} (row : A → List Name → Script F (List Name)) → ((item : A) (seen : List Name) → Yields (Adds item seen) (row item seen))
      → (items : List A) → Yields (λ _. Apart (map f items)) (each row items [])
  each_apart row step items = yields_weaker (λ _. New items []) (λ _. Apart (map f items)) (each row items []) (λ _ h. h.apart) (each_new row step items [])

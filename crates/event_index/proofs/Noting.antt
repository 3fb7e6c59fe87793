-- Types that get numbers one after the other.
use Rattle.std.proofs.Common.{◌≡◌, ℕ, ◌+◌, ◌<◌, ◌≤◌, Bool, true, false, cond, Option, Some, None, refl, sym, ap, subst, ◌∙◌, arith}
use Rattle.std.specs.HashMap.{get, IsEmpty, Updates}
use Rattle.std.specs.Map.{lookup}
use Rattle.std.proofs.lemmas.Option.{none-some, same_Some}
use Rattle.vet_base.proofs.Texts.{same_equal}
use Rattle.app_machine.specs.Names.{object_class}
use Rattle.event_index.specs.contracts.keys.NameKeyPartialEq.TheImpl.{ghosts as key_eq}
use Rattle.event_index.specs.declared.keys.NameKey.{NameKey}
use Rattle.event_index.specs.declared.kinds.Kinds.{Kinds}
use Rattle.event_index.specs.Kinds.{AreKinds, has_number}

pub none_noted : (kinds : Kinds) → IsEmpty kinds.numbers → kinds.count ≡ 0 → AreKinds kinds
none_noted kinds empty none = record {
  few = omega arith;
  below = λ q k has. absurd (nothing q k has);
  apart = λ q r k has other. absurd (nothing q k has);
  no_object = λ q k has is. nothing q k has;
}
  where
    nothing : (q : NameKey) (k : ℕ) → has_number kinds q k → ⊥
    nothing q k has = let none : get key_eq.eq kinds.numbers q ≡ None = ap (λ es. lookup (key_eq.eq q) es) empty in none-some k (sym none ∙ has)

same_name_of : (q r : NameKey) → key_eq.eq q r ≡ true → q.name.now ≡ r.name.now
same_name_of q r same = same_equal q.name.now r.name.now same

pub one_noted : (old new : Kinds) (key : NameKey) → AreKinds old → old.count < 16384 → (key.name.now ≡ object_class → ⊥) → get key_eq.eq old.numbers key ≡ None →
    Updates key_eq.eq old.numbers new.numbers key (Some old.count) → new.count ≡ old.count + 1 → AreKinds new
one_noted old new key are few other absent updates more = record {
  few = omega arith;
  below = λ q k has. below_by q k (key_eq.eq key q) refl has;
  apart = λ q r k has too. apart_by q r k (key_eq.eq key q) refl (key_eq.eq key r) refl has too;
  no_object = λ q k has. object_by q k (key_eq.eq key q) refl has;
}
  where
    -- what the number of a key is after that
    there : (q : NameKey) (b : Bool) → key_eq.eq key q ≡ b → get key_eq.eq new.numbers q ≡ cond b (Some old.count) (get key_eq.eq old.numbers q)
    there q b e = updates.0 q ∙ ap (λ c. cond c (Some old.count) (get key_eq.eq old.numbers q)) e

    below_by : (q : NameKey) (k : ℕ) (b : Bool) → key_eq.eq key q ≡ b → has_number new q k → k < new.count
    below_by q k true e has = let same : old.count ≡ k = same_Some old.count k (sym (there q true e) ∙ has) in omega arith
    below_by q k false e has = let lt = are.below q k (sym (there q false e) ∙ has) in omega arith

    apart_by : (q r : NameKey) (k : ℕ) (b : Bool) → key_eq.eq key q ≡ b → (c : Bool) → key_eq.eq key r ≡ c → has_number new q k → has_number new r k → q.name.now ≡ r.name.now
    apart_by q r k true e true f has too = sym (same_name_of key q e) ∙ same_name_of key r f
    apart_by q r k true e false f has too =
        let same : old.count ≡ k = same_Some old.count k (sym (there q true e) ∙ has) in
        let lt : k < old.count = are.below r k (sym (there r false f) ∙ too) in
        absurd (omega arith)
    apart_by q r k false e true f has too =
        let same : old.count ≡ k = same_Some old.count k (sym (there r true f) ∙ too) in
        let lt : k < old.count = are.below q k (sym (there q false e) ∙ has) in
        absurd (omega arith)
    apart_by q r k false e false f has too = are.apart q r k (sym (there q false e) ∙ has) (sym (there r false f) ∙ too)

    object_by : (q : NameKey) (k : ℕ) (b : Bool) → key_eq.eq key q ≡ b → has_number new q k → q.name.now ≡ object_class → ⊥
    object_by q k true e has is = other (same_name_of key q e ∙ is)
    object_by q k false e has is = are.no_object q k (sym (there q false e) ∙ has) is

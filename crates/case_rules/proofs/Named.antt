-- The name of a case.
use Rattle.std.proofs.Common.{◌≡◌, ℕ, Bool, true, ◌&&◌, List, ap, ◌∙◌}
use Rattle.std.proofs.lemmas.Bool.{and_from, and_parts}
use Rattle.std.specs.Cmp.Lexicographic.{nat_list_eq_equiv}
use Rattle.vet_base.proofs.Texts.{same_equal, same_itself}
use Rattle.case_rules.specs.declared.case.Case.{Case}
use Rattle.case_rules.specs.Cases.{same, is_named}

pub same_back : (a b : List ℕ) → same a b ≡ same b a
same_back a b = nat_list_eq_equiv.symm a b

pub named_itself : (case : Case) → is_named case.party case.reference case ≡ true
named_itself case = and_from (same case.party case.party) (same case.reference case.reference)
    (same_itself case.party) (same_itself case.reference)

pub named_back : (a b : Case) → is_named a.party a.reference b ≡ is_named b.party b.reference a
named_back a b =
    ap (λ (t : Bool). t && same b.reference a.reference) (same_back b.party a.party)
    ∙ ap (λ (t : Bool). same a.party b.party && t) (same_back b.reference a.reference)

pub named_is : (party reference : List ℕ) (case : Case) → is_named party reference case ≡ true
    → (case.party ≡ party) × (case.reference ≡ reference)
named_is party reference case named =
    let parts = and_parts (same case.party party) (same case.reference reference) named in
    (same_equal case.party party parts.0, same_equal case.reference reference parts.1)

-- a change that leaves the name is not seen by a test of names
pub name_kept : (party reference : List ℕ) (old new : Case) → new.party ≡ old.party → new.reference ≡ old.reference
    → is_named party reference new ≡ is_named party reference old
name_kept party reference old new p r =
    ap (λ (x : List ℕ). same x party && same new.reference reference) p
    ∙ ap (λ (x : List ℕ). same old.party party && same x reference) r

-- The index of names and developers, where a case is added.
use Rattle.std.proofs.Common.{◌≡◌, ◌==◌, ℕ, ◌+◌, suc, Bool, true, false, cond, ◌&&◌, List, [], ◌∷◌, ◌++◌, length, get_or, Option, Some, None, find, option_map, refl, sym, ap, subst, ◌∙◌, arith}
use Rattle.std.specs.List.{slice_get}
use Rattle.std.specs.Option.{option_or}
use Rattle.std.specs.Ordering.{nat_cmp, is_eq}
use Rattle.std.specs.Cmp.Lexicographic.{slice_cmp, texts_ties}
use Rattle.std.specs.BTreeMap.{get, is_at}
use Rattle.std.proofs.lemmas.Bool.{cond-false, and_parts}
use Rattle.std.proofs.lemmas.List.{append-nil}
use Rattle.vet_base.specs.Members.{first_index}
use Rattle.vet_base.proofs.Firsts.{index_below}
use Rattle.vet_base.proofs.Options.{cond_none}
use Rattle.vet_base.proofs.Orders.{is_eq-then}
use Rattle.vet_base.proofs.Texts.{same_equal}
use Rattle.case_rules.specs.declared.case.Case.{Case}
use Rattle.case_rules.specs.Cases.{same, name_cmp, is_named, is_of, has_open_appeal, amended, queued_of}
use Rattle.std.specs.BTreeSet.{contains}
use Rattle.case_keeper.specs.declared.placing.CaseIndex.{CaseIndex}
use Rattle.case_keeper.specs.MemoryKeeper.{Places, Owned, owned_by, waiting_for, places_from, IsIndex, Notes, Adds, NotesChange, SameNotes, is_open_case}
use Rattle.case_keeper.proofs.Placed.{index_added, index_amended, places_added, places_amended, amended_at}
use Rattle.case_keeper.proofs.Leaving.{Leaves}
use Rattle.case_keeper.proofs.Counting.{queued_added, queued_amended, waits_new}
use Rattle.case_keeper.proofs.Appealed.{open_added, open_written}

index_missed : (test : Case → Bool) (cases : List Case) → find test cases ≡ None → first_index test cases ≡ None
index_missed test [] none = refl
index_missed test (c ∷ cases) none =
    let parts = cond_none (test c) c (find test cases) none in
    cond-false (test c) (Some 0) (option_map suc (first_index test cases)) parts.0
    ∙ ap (option_map suc) (index_missed test cases parts.1)

-- names that compare alike are one
tie : (case : Case) (party reference : List ℕ)
    → is_at (name_cmp (case.party, case.reference)) (party, reference) ≡ is_named party reference case
tie case party reference =
    is_eq-then (slice_cmp nat_cmp case.party party) (slice_cmp nat_cmp case.reference reference)
    ∙ ap (λ (t : Bool). t && is_eq (slice_cmp nat_cmp case.reference reference)) (sym (texts_ties case.party party))
    ∙ ap (λ (t : Bool). same case.party party && t) (sym (texts_ties case.reference reference))

-- no case of a new name
missing : (cases : List Case) (case : Case) (party reference : List ℕ)
    → find (is_named case.party case.reference) cases ≡ None → is_named party reference case ≡ true
    → first_index (is_named party reference) cases ≡ None
missing cases case party reference none named =
    let parts = and_parts (same case.party party) (same case.reference reference) named in
    index_missed (is_named party reference) cases
    (subst (λ (r : List ℕ). find (is_named party r) cases ≡ None) (same_equal case.reference reference parts.1)
    (subst (λ (p : List ℕ). find (is_named p case.reference) cases ≡ None) (same_equal case.party party parts.0) none))

pub index_grows : (cases : List Case) (before after : CaseIndex) (case : Case) (place : ℕ) → IsIndex cases before
    → find (is_named case.party case.reference) cases ≡ None → case.entries ≡ [] → place ≡ length cases
    → Adds before after case place → IsIndex (cases ++ case ∷ []) after
index_grows cases before after case place index none new end adds = record {
  named = λ party reference. adds.notes party reference ∙ by_name party reference (is_named party reference case) refl
      ∙ ap (λ (n : ℕ). option_or (first_index (is_named party reference) cases)
      (cond (is_named party reference case) (Some n) None)) end
      ∙ sym (index_added (is_named party reference) cases case);
  own = λ party. adds.owns party ∙ by_party party (same case.party party)
      ∙ sym (places_added (is_of party) 0 cases case);
  waiting = λ party. adds.waiting party ∙ by_count party (same case.party party) refl
      ∙ ap (λ (n : ℕ). queued_of party cases + n) (sym (waits_new party case new))
      ∙ sym (queued_added party cases case);
  open_places = λ place. adds.appealed place ∙ index.open_places place ∙ sym (open_added cases case place new);
}
  where
    or_none : (o : Option ℕ) → o ≡ option_or o None
    or_none None = refl
    or_none (Some i) = refl

    by_name : (party reference : List ℕ) (t : Bool) → t ≡ is_named party reference case
        → cond (is_at (name_cmp (case.party, case.reference)) (party, reference)) (Some place)
        (get name_cmp before.places (party, reference))
        ≡ option_or (first_index (is_named party reference) cases) (cond t (Some place) None)
    by_name party reference true is =
        ap (λ (b : Bool). cond b (Some place) (get name_cmp before.places (party, reference)))
        (tie case party reference ∙ sym is)
        ∙ sym (ap (λ (o : Option ℕ). option_or o (Some place)) (missing cases case party reference none (sym is)))
    by_name party reference false is =
        ap (λ (b : Bool). cond b (Some place) (get name_cmp before.places (party, reference)))
        (tie case party reference ∙ sym is)
        ∙ index.named party reference ∙ or_none (first_index (is_named party reference) cases)

    by_party : (party : List ℕ) (t : Bool)
        → cond t (owned_by before.owned party ++ place ∷ []) (owned_by before.owned party)
        ≡ places_from 0 (is_of party) cases ++ cond t ((0 + length cases) ∷ []) []
    by_party party true =
        let at_end : place ≡ 0 + length cases = omega arith in
        ap (λ (zs : List ℕ). zs ++ place ∷ []) (index.own party)
        ∙ ap (λ (n : ℕ). places_from 0 (is_of party) cases ++ n ∷ []) at_end
    by_party party false = index.own party ∙ sym (append-nil (places_from 0 (is_of party) cases))

    by_count : (party : List ℕ) (t : Bool) → t ≡ same case.party party
        → cond t (waiting_for before.waiting case.party + 1) (waiting_for before.waiting party)
        ≡ queued_of party cases + cond t 1 0
    by_count party true is =
        ap (λ (q : List ℕ). waiting_for before.waiting q + 1) (same_equal case.party party (sym is))
        ∙ ap (λ (n : ℕ). n + 1) (index.waiting party)
    by_count party false is = omega (arith, index.waiting party)

-- the new name was noted and taken out again
pub forgotten : (old noted new : Places) (case : Case) (place : ℕ)
    → get name_cmp old (case.party, case.reference) ≡ None
    → Notes old noted case (Some place) → Notes noted new case None
    → (name : List ℕ × List ℕ) → get name_cmp new name ≡ get name_cmp old name
forgotten old noted new case place none notes forgets name =
    forgets name.0 name.1 ∙ by_name (is_named name.0 name.1 case) refl
  where
    by_name : (t : Bool) → t ≡ is_named name.0 name.1 case
        → cond (is_at (name_cmp (case.party, case.reference)) name) None (get name_cmp noted name)
        ≡ get name_cmp old name
    by_name true is =
        let parts = and_parts (same case.party name.0) (same case.reference name.1) (sym is) in
        ap (λ (b : Bool). cond b None (get name_cmp noted name)) (tie case name.0 name.1 ∙ sym is)
        ∙ sym (subst (λ (r : List ℕ). get name_cmp old (name.0, r) ≡ None)
        (same_equal case.reference name.1 parts.1)
        (subst (λ (p : List ℕ). get name_cmp old (p, case.reference) ≡ None) (same_equal case.party name.0 parts.0)
        none))
    by_name false is =
        ap (λ (b : Bool). cond b None (get name_cmp noted name)) (tie case name.0 name.1 ∙ sym is)
        ∙ notes name.0 name.1
        ∙ ap (λ (b : Bool). cond b (Some place) (get name_cmp old name)) (tie case name.0 name.1 ∙ sym is)

-- no place is noted for a new name
pub unnoted_name : (cases : List Case) (index : CaseIndex) (case : Case) → IsIndex cases index
    → find (is_named case.party case.reference) cases ≡ None
    → get name_cmp index.places (case.party, case.reference) ≡ None
unnoted_name cases index case held none =
    held.named case.party case.reference ∙ index_missed (is_named case.party case.reference) cases none

pub index_stays : (cases : List Case) (before after : CaseIndex) → IsIndex cases before → SameNotes before after
    → IsIndex cases after
index_stays cases before after index same_notes = record {
  named = λ party reference. same_notes.places (party, reference) ∙ index.named party reference;
  own = λ party. same_notes.owned party ∙ index.own party;
  waiting = λ party. same_notes.waiting party ∙ index.waiting party;
  open_places = λ place. same_notes.open_places place ∙ index.open_places place;
}

-- a case that changed
pub index_changes : (test : Case → Bool) (f : Case → Case) (cases : List Case) (before after : CaseIndex) (place : ℕ)
    (old : Case) → Leaves f → IsIndex cases before → first_index test cases ≡ Some place
    → find test cases ≡ Some old → old ≡ get_or cases place old → NotesChange before after place old (f old)
    → IsIndex (amended test f cases) after
index_changes test f cases before after place old leaves index first found read notes = record {
  named = λ party reference. ap (λ (m : Places). get name_cmp m (party, reference)) notes.places
      ∙ index.named party reference
      ∙ sym (index_amended test (is_named party reference) f cases (leaves.named party reference));
  own = λ party. ap (λ (m : Owned). owned_by m party) notes.owned ∙ index.own party
      ∙ sym (places_amended test (is_of party) f 0 cases (leaves.own party));
  waiting = λ party. omega (
    arith,
    notes.waiting party,
    index.waiting party,
    queued_amended test f party cases old found,
  );
  open_places = λ other. notes.open_places other
      ∙ ap (λ (b : Bool). cond (place == other) (has_open_appeal (f old)) b) (index.open_places other)
      ∙ sym (open_written cases place other (f old) (index_below test cases place first))
      ∙ ap (λ (xs : List Case). is_open_case (slice_get xs other)) (amended_at test f cases place old first read);
}

pub notes_name : (old new : Places) (case : Case) (place : Option ℕ) (name : List ℕ × List ℕ)
    → name ≡ (case.party, case.reference)
    → ((other : List ℕ × List ℕ) → get name_cmp new other
    ≡ cond (is_at (name_cmp name) other) place (get name_cmp old other)) → Notes old new case place
notes_name old new case place name is writes = λ party reference.
    writes (party, reference)
    ∙ ap (λ (n : List ℕ × List ℕ). cond (is_at (name_cmp n) (party, reference)) place
    (get name_cmp old (party, reference))) is

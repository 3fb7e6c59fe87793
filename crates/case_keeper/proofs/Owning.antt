-- The places of a developer, in a map that changed at one developer.
use Rattle.std.proofs.Common.{◌≡◌, ℕ, ◌+◌, Bool, true, false, cond, List, [], ◌∷◌, ◌++◌, Option, Some, Vec, unwrap_or, refl, sym, ap, ◌∙◌}
use Rattle.std.specs.Ordering.{nat_cmp}
use Rattle.std.specs.Cmp.Lexicographic.{slice_cmp, texts_ties}
use Rattle.std.specs.BTreeMap.{get, is_at}
use Rattle.std.specs.declared.alloc.Global.{Global}
use Rattle.vet_base.proofs.Texts.{same_equal}
use Rattle.case_rules.specs.Cases.{same}
use Rattle.case_keeper.specs.MemoryKeeper.{Owned, Waiting, items_or_none, owned_by, waiting_for}

abbrev Writes : Owned → Owned → List ℕ → Vec ℕ Global → List ℕ → Type 0
Writes old new party places other =
    get (slice_cmp nat_cmp) new other ≡ cond (is_at (slice_cmp nat_cmp party) other) (Some places)
    (get (slice_cmp nat_cmp) old other)

by_tie : (t : Bool) (party other : List ℕ) → t ≡ same party other → is_at (slice_cmp nat_cmp party) other ≡ t
by_tie t party other is = sym (texts_ties party other) ∙ sym is

-- where the test holds it is that developer
at_owner : (old : Owned) (party other : List ℕ) → same party other ≡ true → owned_by old other ≡ owned_by old party
at_owner old party other is = ap (owned_by old) (sym (same_equal party other is))

pub noted : (old new : Owned) (party other : List ℕ) (places : Vec ℕ Global) (place : ℕ)
    → Writes old new party places other → places.items ≡ owned_by old party ++ place ∷ []
    → owned_by new other ≡ cond (same party other) (owned_by old other ++ place ∷ []) (owned_by old other)
noted old new party other places place writes items = ap items_or_none writes ∙ by_test (same party other) refl
  where
    by_test : (t : Bool) → t ≡ same party other
        → items_or_none (cond (is_at (slice_cmp nat_cmp party) other) (Some places)
        (get (slice_cmp nat_cmp) old other)) ≡ cond t (owned_by old other ++ place ∷ []) (owned_by old other)
    by_test true is =
        ap (λ (b : Bool). items_or_none (cond b (Some places) (get (slice_cmp nat_cmp) old other)))
        (by_tie true party other is)
        ∙ items ∙ ap (λ (zs : List ℕ). zs ++ place ∷ []) (sym (at_owner old party other (sym is)))
    by_test false is = ap (λ (b : Bool). items_or_none (cond b (Some places) (get (slice_cmp nat_cmp) old other)))
        (by_tie false party other is)

pub unnoted : (old new : Owned) (party other : List ℕ) (places : Vec ℕ Global) → Writes old new party places other
    → places.items ≡ owned_by old party → owned_by new other ≡ owned_by old other
unnoted old new party other places writes items = ap items_or_none writes ∙ by_test (same party other) refl
  where
    by_test : (t : Bool) → t ≡ same party other
        → items_or_none (cond (is_at (slice_cmp nat_cmp party) other) (Some places)
        (get (slice_cmp nat_cmp) old other)) ≡ owned_by old other
    by_test true is =
        ap (λ (b : Bool). items_or_none (cond b (Some places) (get (slice_cmp nat_cmp) old other)))
        (by_tie true party other is) ∙ items ∙ sym (at_owner old party other (sym is))
    by_test false is = ap (λ (b : Bool). items_or_none (cond b (Some places) (get (slice_cmp nat_cmp) old other)))
        (by_tie false party other is)

-- the number of a developer, in a map that changed at one developer
pub waiting_noted : (old new : Waiting) (party other : List ℕ) (count : ℕ)
    → get (slice_cmp nat_cmp) new other
    ≡ cond (is_at (slice_cmp nat_cmp party) other) (Some count) (get (slice_cmp nat_cmp) old other)
    → waiting_for new other ≡ cond (same party other) count (waiting_for old other)
waiting_noted old new party other count writes =
    ap number writes ∙ ap (λ (b : Bool). number (cond b (Some count) (get (slice_cmp nat_cmp) old other)))
    (sym (texts_ties party other))
    ∙ by_test (same party other)
  where
    number : Option ℕ → ℕ
    number o = unwrap_or o 0

    by_test : (t : Bool) → unwrap_or (cond t (Some count) (get (slice_cmp nat_cmp) old other)) 0
        ≡ cond t count (waiting_for old other)
    by_test true = refl
    by_test false = refl

-- the number that a developer has is noted again
pub noted_again : (before after : Waiting) (party name : List ℕ) (count : ℕ) → name ≡ party
    → count ≡ waiting_for before party
    → ((other : List ℕ) → waiting_for after other ≡ cond (same name other) count (waiting_for before other))
    → (other : List ℕ) → waiting_for after other ≡ waiting_for before other
noted_again before after party name count is counted writes other =
    writes other ∙ ap (λ (n : List ℕ). cond (same n other) count (waiting_for before other)) is
    ∙ by_test (same party other) refl
  where
    by_test : (t : Bool) → t ≡ same party other → cond t count (waiting_for before other) ≡ waiting_for before other
    by_test true same_name = counted ∙ ap (waiting_for before) (same_equal party other (sym same_name))
    by_test false differs = refl

-- and then one more
pub noted_more : (before middle after : Waiting) (party name : List ℕ) (count : ℕ) → name ≡ party
    → count ≡ waiting_for before party
    → ((other : List ℕ) → waiting_for middle other ≡ waiting_for before other)
    → ((other : List ℕ) → waiting_for after other ≡ cond (same name other) (count + 1) (waiting_for middle other))
    → (other : List ℕ)
    → waiting_for after other ≡ cond (same party other) (waiting_for before party + 1) (waiting_for before other)
noted_more before middle after party name count is counted stays writes other =
    writes other
    ∙ ap (λ (n : List ℕ). cond (same n other) (count + 1) (waiting_for middle other)) is
    ∙ ap (λ (k : ℕ). cond (same party other) (k + 1) (waiting_for middle other)) counted
    ∙ ap (λ (k : ℕ). cond (same party other) (waiting_for before party + 1) k) (stays other)

-- How many cases of a developer are queued, in a list that changed.
use Rattle.std.proofs.Common.{◌≡◌, ◌≤◌, ℕ, ◌+◌, ◌-◌, ◌==◌, Bool, true, false, cond, ◌&&◌, List, [], ◌∷◌, ◌++◌, length, Some, find, filter, count_by, refl, sym, ap, ◌∙◌, arith}
use Rattle.std.proofs.lemmas.Option.{none-some, same_Some}
use Rattle.std.proofs.lemmas.List.Sums.{sum_by-cons}
use Rattle.vet_base.proofs.Texts.{same_equal, same_itself}
use Rattle.case_rules.specs.declared.case.Case.{Case}
use Rattle.case_rules.specs.declared.case.Entry.{Entry}
use Rattle.case_rules.specs.Cases.{same, is_of, is_queued, amended, queued_of}
use Rattle.case_keeper.specs.MemoryKeeper.{waits}

-- each case counts for itself
pub queued_cons : (party : List ℕ) (c : Case) (cases : List Case)
    → queued_of party (c ∷ cases) ≡ waits party c + queued_of party cases
queued_cons party c cases = by_test (is_of party c)
  where
    by_test : (b : Bool) → count_by is_queued (cond b (c ∷ filter (is_of party) cases) (filter (is_of party) cases))
        ≡ cond (b && is_queued c) 1 0 + count_by is_queued (filter (is_of party) cases)
    by_test true = sum_by-cons (λ (x : Case). cond (is_queued x) 1 0) c (filter (is_of party) cases)
    by_test false = omega arith

one_at_most : (b : Bool) → cond b 1 0 ≤ 1
one_at_most true = omega arith
one_at_most false = omega arith

pub queued_within : (party : List ℕ) (cases : List Case) → queued_of party cases ≤ length cases
queued_within party [] = omega arith
queued_within party (c ∷ cases) =
    let one : waits party c ≤ 1 = one_at_most (is_of party c && is_queued c) in
    omega (arith, queued_cons party c cases, queued_within party cases, one)

pub queued_added : (party : List ℕ) (cases : List Case) (case : Case)
    → queued_of party (cases ++ case ∷ []) ≡ queued_of party cases + waits party case
queued_added party [] case = omega (arith, queued_cons party case [])
queued_added party (c ∷ cases) case =
    let last : List Case = case ∷ [] in
    omega (arith, queued_cons party c (cases ++ last), queued_cons party c cases, queued_added party cases case)

-- the case that is found counts among those of the list
pub waits_within : (test : Case → Bool) (party : List ℕ) (cases : List Case) (old : Case)
    → find test cases ≡ Some old → waits party old ≤ queued_of party cases
waits_within test party [] old is = absurd (none-some old is)
waits_within test party (c ∷ cases) old is = by_test (test c) (waits_within test party cases old) is
  where
    by_test : (b : Bool) → (find test cases ≡ Some old → waits party old ≤ queued_of party cases)
        → cond b (Some c) (find test cases) ≡ Some old → waits party old ≤ queued_of party (c ∷ cases)
    by_test true later e =
        let here : waits party c ≡ waits party old = ap (waits party) (same_Some c old e) in
        omega (arith, queued_cons party c cases, here)
    by_test false later e = omega (arith, queued_cons party c cases, later e)

-- a change of the case that is found
pub queued_amended : (test : Case → Bool) (f : Case → Case) (party : List ℕ) (cases : List Case) (old : Case)
    → find test cases ≡ Some old
    → queued_of party (amended test f cases) + waits party old ≡ queued_of party cases + waits party (f old)
queued_amended test f party [] old is = absurd (none-some old is)
queued_amended test f party (c ∷ cases) old is = by_test (test c) (queued_amended test f party cases old) is
  where
    Changed : List Case → List Case → Type 0
    Changed new before = queued_of party new + waits party old ≡ queued_of party before + waits party (f old)

    by_test : (b : Bool) → (find test cases ≡ Some old → Changed (amended test f cases) cases)
        → cond b (Some c) (find test cases) ≡ Some old
        → Changed (cond b (f c ∷ cases) (c ∷ amended test f cases)) (c ∷ cases)
    by_test true later e =
        let same : c ≡ old = same_Some c old e in
        let here : waits party c ≡ waits party old = ap (waits party) same in
        let then' : waits party (f c) ≡ waits party (f old) = ap (λ (z : Case). waits party (f z)) same in
        omega (arith, queued_cons party (f c) cases, queued_cons party c cases, here, then')
    by_test false later e =
        omega (arith, queued_cons party c (amended test f cases), queued_cons party c cases, later e)

-- a case as it is added waits for its developer
pub waits_new : (party : List ℕ) (case : Case) → case.entries ≡ [] → waits party case ≡ cond (is_of party case) 1 0
waits_new party case none = ap waiting none ∙ by_test (is_of party case)
  where
    waiting : List Entry → ℕ
    waiting entries = cond (is_of party case && (length entries == 0)) 1 0

    by_test : (b : Bool) → cond {A = ℕ} (b && true) 1 0 ≡ cond {A = ℕ} b 1 0
    by_test true = refl
    by_test false = refl

-- what a case counts for a developer, by its owner and by whether it is queued
waits_is : (party : List ℕ) (case : Case) (owner : List ℕ) (queued : Bool) → case.party ≡ owner
    → is_queued case ≡ queued → waits party case ≡ cond (same owner party && queued) 1 0
waits_is party case owner queued is waiting = ap by_owner is ∙ ap by_state waiting
  where
    by_owner : List ℕ → ℕ
    by_owner name = cond (same name party && is_queued case) 1 0

    by_state : Bool → ℕ
    by_state b = cond (same owner party && b) 1 0

pub waits_alike : (party : List ℕ) (old new : Case) → new.party ≡ old.party → is_queued new ≡ is_queued old
    → waits party old ≡ waits party new
waits_alike party old new same_party same_state =
    waits_is party old old.party (is_queued old) refl refl
    ∙ sym (waits_is party new old.party (is_queued old) same_party same_state)

pub waits_itself : (case : Case) → is_queued case ≡ true → waits case.party case ≡ 1
waits_itself case queued = waits_is case.party case case.party true refl queued ∙ ap one (same_itself case.party)
  where
    one : Bool → ℕ
    one b = cond (b && true) 1 0

-- a queued case that is no longer queued lowers its developer's number
pub lowered : (party : List ℕ) (old new : Case) (before after : List ℕ → ℕ) → new.party ≡ old.party
    → is_queued old ≡ true → is_queued new ≡ false → 1 ≤ before old.party
    → after party ≡ cond (same old.party party) (before old.party - 1) (before party)
    → after party + waits party old ≡ before party + waits party new
lowered party old new before after same_party queued decided some changed =
    ap (λ (n : ℕ). after party + n) (waits_is party old old.party true refl queued)
    ∙ by_test (same old.party party) refl changed
    ∙ sym (ap (λ (n : ℕ). before party + n) (waits_is party new old.party false same_party decided))
  where
    by_test : (t : Bool) → t ≡ same old.party party → after party ≡ cond t (before old.party - 1) (before party)
        → after party + cond (t && true) 1 0 ≡ before party + cond (t && false) 1 0
    by_test true is e =
        let there : before old.party ≡ before party = ap before (same_equal old.party party (sym is)) in
        omega (arith, e, some, there)
    by_test false is e = omega (arith, e)

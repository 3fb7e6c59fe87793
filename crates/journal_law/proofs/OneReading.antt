-- Bytes have one reading as a journal.
use Rattle.std.proofs.Common.{◌≡◌, ◌<◌, ◌≤◌, ◌+◌, inl, inr, ℕ, List, [], ◌∷◌, length, take, drop, refl, sym, ◌∙◌, ap, subst, arith, Some, None, Ok}
use Rattle.vet_base.specs.Script.{run}
use Rattle.vet_base.proofs.Results.{one_ok}
use Rattle.gated_log.specs.Format.{first_record, NoRecord}
use Rattle.case_rules.specs.declared.case.Case.{Case}
use Rattle.case_rules.specs.declared.reply.Change.{Change}
use Rattle.case_rules.specs.Cases.{after}
use Rattle.case_records.specs.Reading.{change_of}
use Rattle.journal_law.specs.Journal.{Leads, IsTaken, Makes, IsJournal, Holds, IsForeign, IsBad, HaveOneReading}

some_same : {x y : List ℕ} → Some x ≡ Some y → x ≡ y
some_same e = cc

some_none : (x : List ℕ) → Some x ≡ None → ⊥
some_none x e = cc

-- what is behind one and the same record
behind : (p q bytes : List ℕ) → p ≡ q → drop (9 + length p) bytes ≡ drop (9 + length q) bytes
behind p q bytes same = ap (λ (l : List ℕ). drop (9 + length l) bytes) same

pub leads_one : (ps qs : List (List ℕ)) (bytes rest left : List ℕ) → Leads ps bytes rest → Leads qs bytes left
    → NoRecord rest → NoRecord left → ps ≡ qs
leads_one [] [] bytes rest left one other none nothing = refl
leads_one [] (q ∷ qs) bytes rest left one other none nothing =
    absurd (some_none q (sym other.0 ∙ ap first_record one ∙ none))
leads_one (p ∷ ps) [] bytes rest left one other none nothing =
    absurd (some_none p (sym one.0 ∙ ap first_record other ∙ nothing))
leads_one (p ∷ ps) (q ∷ qs) bytes rest left one other none nothing =
    let same : p ≡ q = some_same (sym one.0 ∙ other.0) in
    let moved = subst (λ (l : List ℕ). Leads qs l left) (sym (behind p q bytes same)) other.1 in
    let tails = leads_one ps qs (drop (9 + length p) bytes) rest left one.1 moved none nothing in
    λ i. same i ∷ tails i

-- one payload is of one change
one_change : (p q : List ℕ) (cases : List Case) (c d : Change) → p ≡ q → IsTaken p cases c → IsTaken q cases d → c ≡ d
one_change p q cases c d same one other =
    one_ok (run (change_of p)) c d one.is (ap (λ (l : List ℕ). run (change_of l)) same ∙ other.is)

pub makes_one : (ps : List (List ℕ)) (before cases others : List Case) → Makes ps before cases → Makes ps before others → cases ≡ others
makes_one [] before cases others one other = one ∙ sym other
makes_one (p ∷ ps) before cases others one other =
    let same : one.0 ≡ other.0 = one_change p p before one.0 other.0 refl one.1.0 other.1.0 in
    let moved = subst (λ (c : Change). Makes ps (after c before) others) (sym same) other.1.1 in
    makes_one ps (after one.0 before) cases others one.1.1 moved

-- Where the records go on to the end, none is refused on the way.
none_refused : (ps qs : List (List ℕ)) (bytes rest left p : List ℕ) (before cases others : List Case)
    → Leads ps bytes rest → first_record rest ≡ Some p → Makes ps before cases → ((change : Change) → IsTaken p cases change → ⊥)
    → Leads qs bytes left → NoRecord left → Makes qs before others → ⊥
none_refused [] [] bytes rest left p before cases others leads stands makes refused other none made =
    some_none p (sym stands ∙ ap first_record (sym leads ∙ other) ∙ none)
none_refused [] (q ∷ qs) bytes rest left p before cases others leads stands makes refused other none made =
    let same : q ≡ p = some_same (sym other.0 ∙ ap first_record leads ∙ stands) in
    let there = subst (λ (l : List ℕ). IsTaken l before made.0) same made.1.0 in
    refused made.0 (subst (λ (cs : List Case). IsTaken p cs made.0) (sym makes) there)
none_refused (x ∷ ps) [] bytes rest left p before cases others leads stands makes refused other none made =
    some_none x (sym leads.0 ∙ ap first_record other ∙ none)
none_refused (x ∷ ps) (q ∷ qs) bytes rest left p before cases others leads stands makes refused other none made =
    let same : x ≡ q = some_same (sym leads.0 ∙ other.0) in
    let change : makes.0 ≡ made.0 = one_change x q before makes.0 made.0 same makes.1.0 made.1.0 in
    let moved = subst (λ (l : List ℕ). Leads qs l left) (sym (behind x q bytes same)) other.1 in
    let made_so = subst (λ (c : Change). Makes qs (after c before) others) (sym change) made.1.1 in
    none_refused ps qs (drop (9 + length x) bytes) rest left p (after makes.0 before) cases others
    leads.1 stands makes.1.1 refused moved none made_so

-- Two records that are refused are one.
one_refused : (ps qs : List (List ℕ)) (bytes rest left p q : List ℕ) (before cases others : List Case)
    → Leads ps bytes rest → first_record rest ≡ Some p → Makes ps before cases → ((change : Change) → IsTaken p cases change → ⊥)
    → Leads qs bytes left → first_record left ≡ Some q → Makes qs before others → ((change : Change) → IsTaken q others change → ⊥)
    → rest ≡ left
one_refused [] [] bytes rest left p q before cases others leads stands makes refused other there made refuses = sym leads ∙ other
one_refused [] (x ∷ qs) bytes rest left p q before cases others leads stands makes refused other there made refuses =
    let same : x ≡ p = some_same (sym other.0 ∙ ap first_record leads ∙ stands) in
    let taken = subst (λ (l : List ℕ). IsTaken l before made.0) same made.1.0 in
    absurd (refused made.0 (subst (λ (cs : List Case). IsTaken p cs made.0) (sym makes) taken))
one_refused (x ∷ ps) [] bytes rest left p q before cases others leads stands makes refused other there made refuses =
    let same : x ≡ q = some_same (sym leads.0 ∙ ap first_record other ∙ there) in
    let taken = subst (λ (l : List ℕ). IsTaken l before makes.0) same makes.1.0 in
    absurd (refuses makes.0 (subst (λ (cs : List Case). IsTaken q cs makes.0) (sym made) taken))
one_refused (x ∷ ps) (y ∷ qs) bytes rest left p q before cases others leads stands makes refused other there made refuses =
    let same : x ≡ y = some_same (sym leads.0 ∙ other.0) in
    let change : makes.0 ≡ made.0 = one_change x y before makes.0 made.0 same makes.1.0 made.1.0 in
    let moved = subst (λ (l : List ℕ). Leads qs l left) (sym (behind x y bytes same)) other.1 in
    let made_so = subst (λ (c : Change). Makes qs (after c before) others) (sym change) made.1.1 in
    one_refused ps qs (drop (9 + length x) bytes) rest left p q (after makes.0 before) cases others
    leads.1 stands makes.1.1 refused moved there made_so refuses

one_list : (bytes : List ℕ) (cases others : List Case) → Holds bytes cases → Holds bytes others → cases ≡ others
one_list bytes cases others (inl one) (inl other) = one.1 ∙ sym other.1
one_list bytes cases others (inl one) (inr other) = let long = other.long in let none : ⊥ = omega (arith, one.0, long) in absurd none
one_list bytes cases others (inr one) (inl other) = let long = one.long in let none : ⊥ = omega (arith, other.0, long) in absurd none
one_list bytes cases others (inr one) (inr other) =
    let same : one.payloads ≡ other.payloads = leads_one one.payloads other.payloads (drop 8 bytes) one.rest other.rest one.leads other.leads one.none other.none in
    makes_one one.payloads [] cases others one.made (subst (λ (ps : List (List ℕ)). Makes ps [] others) (sym same) other.made)

one_place : (bytes : List ℕ) (at other : ℕ) → IsBad bytes at → IsBad bytes other → at ≡ other
one_place bytes at other one two =
    let same = one_refused one.payloads two.payloads (drop 8 bytes) one.rest two.rest one.payload two.payload [] one.cases two.cases
    one.leads one.stands one.made one.refused two.leads two.stands two.made two.refused in
    let size : length one.rest ≡ length two.rest = ap (λ (l : List ℕ). length l) same in
    omega (arith, one.gate, two.gate, size)

not_foreign : (bytes : List ℕ) (cases : List Case) → Holds bytes cases → IsForeign bytes → ⊥
not_foreign bytes cases (inl few) foreign = let long = foreign.long in omega (arith, few.0, long)
not_foreign bytes cases (inr journal) foreign = foreign.other journal.known

not_bad : (bytes : List ℕ) (cases : List Case) (at : ℕ) → Holds bytes cases → IsBad bytes at → ⊥
not_bad bytes cases at (inl few) bad = let long = bad.long in omega (arith, few.0, long)
not_bad bytes cases at (inr journal) bad =
    none_refused bad.payloads journal.payloads (drop 8 bytes) bad.rest journal.rest bad.payload [] bad.cases cases
    bad.leads bad.stands bad.made bad.refused journal.leads journal.none journal.made

pub have_one_reading : HaveOneReading
have_one_reading = record {
  one_list = one_list;
  one_place = one_place;
  not_foreign = not_foreign;
  not_bad = not_bad;
  not_both = λ bytes at foreign bad. foreign.other bad.known;
}

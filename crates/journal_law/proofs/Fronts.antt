-- Whole records at the front of a journal, and one more.
use Rattle.std.proofs.Common.{◌≡◌, ◌<◌, ◌≤◌, ◌+◌, ◌⊎◌, inl, inr, ℕ, zero, suc, Bool, true, false, List, [], ◌∷◌, ◌++◌, length, take, drop, refl, sym, ◌∙◌, ap, subst, arith, append_assoc, length-append, Option, Some, None, Ok}
use Rattle.std.specs.Prelude.{nat_le}
use Rattle.std.proofs.lemmas.Bool.{leb-true, leb-false}
use Rattle.std.proofs.lemmas.List.{take_at, drop_at, length-drop}
use Rattle.gated_log.specs.Format.{magic, first_record, NoRecord, EndsWith, record_bytes}
use Rattle.gated_log.proofs.OneLog.{first_again}
use Rattle.gated_log.proofs.Standing.{too_short}
use Rattle.case_rules.specs.declared.case.Case.{Case}
use Rattle.case_rules.specs.declared.reply.Change.{Change}
use Rattle.case_rules.specs.Cases.{after}
use Rattle.journal_law.specs.Journal.{Leads, IsTaken, Makes, IsJournal, Holds}
use Rattle.journal_law.specs.Fronts.{IsFront}

some_none : (x : List ℕ) → Some x ≡ None → ⊥
some_none x e = cc

-- a record takes nine bytes and more
pub record_long : (bytes payload : List ℕ) → first_record bytes ≡ Some payload → 9 ≤ length bytes
record_long bytes payload stands = by_test (nat_le 9 (length bytes)) refl
  where
    by_test : (b : Bool) → nat_le 9 (length bytes) ≡ b → 9 ≤ length bytes
    by_test true holds = leb-true 9 (length bytes) holds
    by_test false fails =
        let short : length bytes < 9 = leb-false 9 (length bytes) fails in
        absurd (some_none payload (sym stands ∙ too_short bytes short))

pub leads_more : (payloads : List (List ℕ)) (payload bytes rest : List ℕ) → Leads payloads bytes rest → first_record rest ≡ Some payload
    → Leads (payloads ++ payload ∷ []) bytes (drop (9 + length payload) rest)
leads_more [] payload bytes rest is stands = (ap first_record is ∙ stands, ap (λ (l : List ℕ). drop (9 + length payload) l) is)
leads_more (p ∷ ps) payload bytes rest leads stands = (leads.0, leads_more ps payload (drop (9 + length p) bytes) rest leads.1 stands)

pub makes_more : (payloads : List (List ℕ)) (payload : List ℕ) (before cases : List Case) (change : Change)
    → Makes payloads before cases → IsTaken payload cases change → Makes (payloads ++ payload ∷ []) before (after change cases)
makes_more [] payload before cases change is taken =
    (change, (subst (λ (cs : List Case). IsTaken payload cs change) is taken, ap (after change) is))
makes_more (p ∷ ps) payload before cases change makes taken =
    (makes.0, (makes.1.0, makes_more ps payload (after makes.0 before) cases change makes.1.1 taken))

pub front_begins : IsFront magic []
front_begins = record { records = []; known = refl; payloads = []; whole = λ rest. refl; made = refl }

-- One record more, in whatever bytes it stands.
pub front_grows : (front : List ℕ) (cases : List Case) (payload piece : List ℕ) (change : Change) → IsFront front cases
    → ((more : List ℕ) → first_record (piece ++ more) ≡ Some payload) → length piece ≡ 9 + length payload
    → IsTaken payload cases change → IsFront (front ++ piece) (after change cases)
front_grows front cases payload piece change is stands size taken = record {
  records = is.records ++ piece;
  known = ap (λ (l : List ℕ). l ++ piece) is.known ∙ append_assoc magic is.records piece;
  payloads = is.payloads ++ payload ∷ [];
  whole = λ rest.
      let more = leads_more is.payloads payload (is.records ++ (piece ++ rest)) (piece ++ rest) (is.whole (piece ++ rest)) (stands rest) in
      let behind : drop (9 + length payload) (piece ++ rest) ≡ rest = drop_at piece rest (9 + length payload) size in
      subst (λ (l : List ℕ). Leads (is.payloads ++ payload ∷ []) l rest) (sym (append_assoc is.records piece rest))
      (subst (λ (l : List ℕ). Leads (is.payloads ++ payload ∷ []) (is.records ++ (piece ++ rest)) l) behind more);
  made = makes_more is.payloads payload [] cases change is.made taken;
}

-- the bytes of a record of its own
pub front_added : (front : List ℕ) (cases : List Case) (payload : List ℕ) (change : Change) → IsFront front cases
    → length payload < 18446744073709551616 → IsTaken payload cases change → IsFront (front ++ record_bytes payload) (after change cases)
front_added front cases payload change is small taken =
    front_grows front cases payload (record_bytes payload) change is (λ more. first_again payload more small) (omega arith) taken

-- what is read of bytes that begin so
pub front_long : (front : List ℕ) (cases : List Case) → IsFront front cases → 8 ≤ length front
front_long front cases is = omega (arith, ap (λ (l : List ℕ). length l) is.known, length-append magic is.records)

pub front_known : (front rest bytes : List ℕ) (cases : List Case) → IsFront front cases → bytes ≡ front ++ rest → take 8 bytes ≡ magic
front_known front rest bytes cases is all =
    let whole : bytes ≡ magic ++ (is.records ++ rest) = all ∙ ap (λ (l : List ℕ). l ++ rest) is.known ∙ append_assoc magic is.records rest in
    ap (λ (l : List ℕ). take 8 l) whole ∙ take_at magic (is.records ++ rest) 8 refl

pub front_leads : (front rest bytes : List ℕ) (cases : List Case) (is : IsFront front cases) → bytes ≡ front ++ rest
    → Leads is.payloads (drop 8 bytes) rest
front_leads front rest bytes cases is all =
    let whole : bytes ≡ magic ++ (is.records ++ rest) = all ∙ ap (λ (l : List ℕ). l ++ rest) is.known ∙ append_assoc magic is.records rest in
    let behind : drop 8 bytes ≡ is.records ++ rest = ap (λ (l : List ℕ). drop 8 l) whole ∙ drop_at magic (is.records ++ rest) 8 refl in
    subst (λ (l : List ℕ). Leads is.payloads l rest) (sym behind) (is.whole rest)

-- nine bytes have no room for a record
no_room : (payloads : List (List ℕ)) (bytes rest : List ℕ) (cases : List Case) → length bytes ≤ 1 → Leads payloads bytes rest → Makes payloads [] cases → cases ≡ []
no_room [] bytes rest cases few leads makes = makes
no_room (p ∷ ps) bytes rest cases few leads makes =
    let long = record_long bytes p leads.0 in
    let none : ⊥ = omega (arith, long, few) in
    absurd none

-- Whatever ends with the front holds its cases.
pub front_holds : (front left : List ℕ) (cases : List Case) → IsFront front cases → EndsWith front left → Holds left cases
front_holds front left cases is ends = by_test (nat_le (length left) 9) refl
  where
    leads : Leads is.payloads (drop 8 left) ends.rest
    leads = front_leads front ends.rest left cases is ends.is

    by_test : (b : Bool) → nat_le (length left) 9 ≡ b → Holds left cases
    by_test true short =
        let few : length left ≤ 9 = leb-true (length left) 9 short in
        inl (few, no_room is.payloads (drop 8 left) ends.rest cases (omega (arith, few, length-drop 8 left)) leads is.made)
    by_test false long = inr (record {
      long = leb-false (length left) 9 long;
      known = front_known front ends.rest left cases is ends.is;
      payloads = is.payloads;
      rest = ends.rest;
      leads = leads;
      none = ends.none;
      made = is.made;
    })

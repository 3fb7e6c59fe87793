-- Records that were read, one after another, and what they come to.
use Rattle.std.proofs.Common.{◌≡◌, ◌<◌, ◌≤◌, ◌+◌, inl, inr, ℕ, zero, suc, Bool, true, false, true≢false, List, [], ◌∷◌, ◌++◌, length, take, drop, refl, sym, ◌∙◌, ap, subst, arith, length-append, add_comm, Option, Some, None, Ok}
use Rattle.std.specs.Prelude.{nat_le, if◌then◌else◌}
use Rattle.std.proofs.lemmas.Bool.{leb-true, le-leb}
use Rattle.std.proofs.lemmas.List.{take_at, length-take-le, length-drop, take-append-drop}
use Rattle.std.proofs.lemmas.Option.{cond_some}
use Rattle.std.proofs.Math.Seq.{take-add}
use Rattle.vet_base.specs.Script.{run}
use Rattle.vet_base.proofs.Results.{one_ok}
use Rattle.gated_log.specs.Format.{u8_of, magic, first_record, payload_by, NoRecord, EndsWith}
use Rattle.case_rules.specs.declared.case.Case.{Case}
use Rattle.case_rules.specs.declared.reply.Change.{Change}
use Rattle.case_rules.specs.Cases.{after}
use Rattle.case_rules.specs.Docket.{Fits}
use Rattle.case_records.specs.Reading.{change_of}
use Rattle.journal_law.specs.Journal.{IsTaken, Holds, IsBad}
use Rattle.journal_law.specs.Fronts.{IsFront, IsRefused, IsReadTo, StopsAt}
use Rattle.journal_law.specs.Reading.{fits}
use Rattle.journal_law.proofs.Fronts.{record_long, front_begins, front_grows, front_leads, front_known, front_holds}
use Rattle.journal_law.proofs.TellsRight.{fits_true, true_fits}

-- a payload whose change does not fit
pub refused_misfit : (payload : List ℕ) (cases : List Case) (change : Change) → run (change_of payload) ≡ Ok change
    → fits change cases ≡ false → IsRefused payload cases
refused_misfit payload cases change is fails other taken =
    let same : other ≡ change = one_ok (run (change_of payload)) other change taken.is is in
    let holds : fits change cases ≡ true = fits_true change cases (subst (λ (c : Change). Fits c cases) same taken.fits) in
    true≢false (sym holds ∙ fails)

pub taken_fit : (payload : List ℕ) (cases : List Case) (change : Change) → run (change_of payload) ≡ Ok change
    → fits change cases ≡ true → IsTaken payload cases change
taken_fit payload cases change is holds = record { is = is; fits = true_fits change cases holds }

-- A record is the same whatever stands behind it.
payload_there : (n : ℕ) (rest payload more : List ℕ) → payload_by (Some n) rest ≡ Some payload
    → payload_by (Some n) (take (length payload) rest ++ more) ≡ Some payload
payload_there n rest payload more stands =
    let parts = cond_some (nat_le n (length rest)) (take n rest) payload stands in
    let long : n ≤ length rest = leb-true n (length rest) parts.0 in
    let size : length payload ≡ n = ap (λ (l : List ℕ). length l) (sym parts.1) ∙ length-take-le n rest long in
    let piece : take (length payload) rest ≡ payload = ap (λ k. take k rest) size ∙ parts.1 in
    let room : nat_le n (length (payload ++ more)) ≡ true = le-leb n (length (payload ++ more)) (omega (arith, size, length-append payload more)) in
    ap (λ (l : List ℕ). payload_by (Some n) (l ++ more)) piece
    ∙ ap (λ b. if b then Some (take n (payload ++ more)) else None) room
    ∙ ap (λ (l : List ℕ). Some l) (take_at payload more n size)

-- nine more, by steps
abbrev nine : ℕ → ℕ
nine n = suc (suc (suc (suc (suc (suc (suc (suc (suc n))))))))

record_there : (bytes payload more : List ℕ) → first_record bytes ≡ Some payload
    → first_record (take (nine (length payload)) bytes ++ more) ≡ Some payload
record_there [] payload more stands = absurd cc
record_there (zero ∷ rest) payload more stands = absurd cc
record_there (suc (suc g) ∷ rest) payload more stands = absurd cc
record_there (suc zero ∷ []) payload more stands = absurd cc
record_there (suc zero ∷ a ∷ []) payload more stands = absurd cc
record_there (suc zero ∷ a ∷ b ∷ []) payload more stands = absurd cc
record_there (suc zero ∷ a ∷ b ∷ c ∷ []) payload more stands = absurd cc
record_there (suc zero ∷ a ∷ b ∷ c ∷ d ∷ []) payload more stands = absurd cc
record_there (suc zero ∷ a ∷ b ∷ c ∷ d ∷ e ∷ []) payload more stands = absurd cc
record_there (suc zero ∷ a ∷ b ∷ c ∷ d ∷ e ∷ f ∷ []) payload more stands = absurd cc
record_there (suc zero ∷ a ∷ b ∷ c ∷ d ∷ e ∷ f ∷ g ∷ []) payload more stands = absurd cc
record_there (suc zero ∷ a ∷ b ∷ c ∷ d ∷ e ∷ f ∷ g ∷ h ∷ rest) payload more stands =
    payload_there (u8_of a b c d e f g h) rest payload more stands

-- a record ends within the bytes
payload_within : (n : ℕ) (rest payload : List ℕ) → payload_by (Some n) rest ≡ Some payload → length payload ≤ length rest
payload_within n rest payload stands =
    let parts = cond_some (nat_le n (length rest)) (take n rest) payload stands in
    let long : n ≤ length rest = leb-true n (length rest) parts.0 in
    let size : length payload ≡ n = ap (λ (l : List ℕ). length l) (sym parts.1) ∙ length-take-le n rest long in
    omega (arith, size, long)

record_within : (bytes payload : List ℕ) → first_record bytes ≡ Some payload → length payload + 9 ≤ length bytes
record_within [] payload stands = absurd cc
record_within (zero ∷ rest) payload stands = absurd cc
record_within (suc (suc g) ∷ rest) payload stands = absurd cc
record_within (suc zero ∷ []) payload stands = absurd cc
record_within (suc zero ∷ a ∷ []) payload stands = absurd cc
record_within (suc zero ∷ a ∷ b ∷ []) payload stands = absurd cc
record_within (suc zero ∷ a ∷ b ∷ c ∷ []) payload stands = absurd cc
record_within (suc zero ∷ a ∷ b ∷ c ∷ d ∷ []) payload stands = absurd cc
record_within (suc zero ∷ a ∷ b ∷ c ∷ d ∷ e ∷ []) payload stands = absurd cc
record_within (suc zero ∷ a ∷ b ∷ c ∷ d ∷ e ∷ f ∷ []) payload stands = absurd cc
record_within (suc zero ∷ a ∷ b ∷ c ∷ d ∷ e ∷ f ∷ g ∷ []) payload stands = absurd cc
record_within (suc zero ∷ a ∷ b ∷ c ∷ d ∷ e ∷ f ∷ g ∷ h ∷ rest) payload stands =
    let within = payload_within (u8_of a b c d e f g h) rest payload stands in
    omega (arith, within)

pub read_begins : (bytes : List ℕ) → 8 ≤ length bytes → take 8 bytes ≡ magic → IsReadTo bytes 8 []
read_begins bytes long known = record { within = long; front = subst (λ (l : List ℕ). IsFront l []) (sym known) front_begins }

-- one record more
pub read_more : (bytes : List ℕ) (end : ℕ) (cases : List Case) (payload : List ℕ) (change : Change) → IsReadTo bytes end cases
    → first_record (drop end bytes) ≡ Some payload → IsTaken payload cases change
    → IsReadTo bytes (end + (length payload + 9)) (after change cases)
read_more bytes end cases payload change so_far stands taken =
    let rest = drop end bytes in
    let k = nine (length payload) in
    let same : k ≡ length payload + 9 = omega arith in
    let piece = take k rest in
    let inside : k ≤ length rest = omega (arith, same, record_within rest payload stands) in
    let size : length piece ≡ 9 + length payload = length-take-le k rest inside ∙ same ∙ add_comm (length payload) 9 in
    let front = front_grows (take end bytes) cases payload piece change so_far.front (λ more. record_there rest payload more stands) size taken in
    let long = so_far.within in
    let read : IsReadTo bytes (end + k) (after change cases) = record {
      within = omega (arith, inside, long, length-drop end bytes);
      front = subst (λ (l : List ℕ). IsFront l (after change cases)) (sym (take-add end k bytes)) front;
    } in
    subst (λ n. IsReadTo bytes (end + n) (after change cases)) same read

-- at the end of the bytes stands no record
pub none_at_end : (bytes : List ℕ) (end : ℕ) → length bytes ≤ end → NoRecord (drop end bytes)
none_at_end bytes end le = by_rest (drop end bytes) (omega (arith, le, length-drop end bytes))
  where
    by_rest : (rest : List ℕ) → length rest ≤ 0 → NoRecord rest
    by_rest [] none = refl
    by_rest (x ∷ rest) none = let fails : ⊥ = omega (arith, none) in absurd fails

-- where reading stopped, the bytes are bad
pub stops_bad : (bytes : List ℕ) (at : ℕ) → 9 < length bytes → StopsAt bytes at → IsBad bytes at
stops_bad bytes at long stops =
    let front = stops.before.front in
    let whole : bytes ≡ take at bytes ++ drop at bytes = sym (take-append-drop at bytes) in
    let within = stops.before.within in
    record {
      long = long;
      known = front_known (take at bytes) (drop at bytes) bytes stops.cases front whole;
      payloads = front.payloads;
      rest = drop at bytes;
      leads = front_leads (take at bytes) (drop at bytes) bytes stops.cases front whole;
      cases = stops.cases;
      made = front.made;
      payload = stops.payload;
      stands = stops.stands;
      refused = stops.refused;
      gate = omega (arith, within, length-drop at bytes);
    }

-- where reading ended, the bytes hold what was made
pub read_holds : (bytes : List ℕ) (end : ℕ) (cases : List Case) → IsReadTo bytes end cases → NoRecord (drop end bytes) → Holds bytes cases
read_holds bytes end cases so_far none =
    front_holds (take end bytes) bytes cases so_far.front (record { rest = drop end bytes; is = sym (take-append-drop end bytes); none = none })

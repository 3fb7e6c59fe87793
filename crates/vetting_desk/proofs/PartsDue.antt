-- What is found of parts, by what is asked of them.
use Rattle.std.proofs.Common.{◌≡◌, ◌≢◌, ◌≤◌, ◌⊎◌, inl, inr, ℕ, List, Option, Some, None, Result, Ok, refl, sym, ◌∙◌, ap, subst, arith}
use Rattle.std.specs.Prelude.{IsErr}
use Rattle.vet_base.specs.declared.stop.Stop.{Stop}
use Rattle.vet_base.specs.declared.stop.Stop.TheVariants as stops
use Rattle.fact_rows.specs.declared.row.Row.{Row}
use Rattle.app_flow.specs.declared.flow_rows.FlowTable.{FlowTable}
use Rattle.cert_rows.specs.declared.sets.Set.{Set}
use Rattle.flow_analyses.specs.declared.Analysis.{Analysis}
use Rattle.certificate.specs.declared.fault.CertFault.{CertFault}
use Rattle.certificate.specs.Cert.{IsCert}
use Rattle.certificate.specs.Laws.{CertLaws, IsStopOf}
use Rattle.certificate.specs.Reading.{FirstCertFault}
use Rattle.cert_report.specs.declared.refusal.CertRefusal.{CertRefusal}
use Rattle.cert_report.specs.declared.refusal.CertRefusal.TheVariants as refusals
use Rattle.verdict.specs.declared.outcome.Judged.{Judged}
use Rattle.verdict.specs.declared.outcome.Outcome.{Outcome}
use Rattle.verdict.specs.declared.outcome.Outcome.TheVariants.{Clear, Flagged, Undecided, Refused}
use Rattle.verdict.specs.declared.outcome.Rechecked.{Rechecked}
use Rattle.verdict.specs.declared.outcome.Rechecked.TheVariants as rechecks
use Rattle.verdict.specs.declared.parts.Parts.{Parts}
use Rattle.verdict.specs.Outcome.{status_of}
use Rattle.verdict.specs.Recheck.{Rejudgement, TellsBy}
use Rattle.verdict_report.specs.Report.{report_text}
use Rattle.verdict.specs.Tells.{IsFollowed, TellsOfApp}
use Rattle.verdict.specs.Verdict.{Judgement, IsSafeApp, Verdict}
use Rattle.vetting_desk.specs.declared.answer.Answer.{Answer}
use Rattle.app_folder.specs.Due.{Due, reported}
use Rattle.vetting_desk.specs.Answer.{ComesByRows}
use Rattle.vetting_desk.specs.Due.{certified, uncertified, due_of}
use Rattle.app_folder.specs.FolderDue.{Checks}
use Rattle.vetting_desk.specs.Sets.{analysis_of}
use Rattle.vetting_desk.specs.PartsDue.{Certifies, digest_of, rechecked, RechecksBy}
use Rattle.vetting_desk.specs.Found.{ReportsAll, FindsOfParts, CertifiedAs, IsUnreadable}

is_clear : (outcome : Outcome) → status_of outcome ≡ 0 → outcome ≡ Clear
is_clear Clear zero = refl
is_clear (Flagged fs) zero = absurd (omega (arith, zero))
is_clear (Undecided cs fs) zero = absurd (omega (arith, zero))
is_clear (Refused part reason) zero = absurd (omega (arith, zero))

-- parts that were judged so come to nothing else
one_judged : {E : Type 0} (parts : Parts) (judged : Judged)
    → ((j : Judged) → Judgement parts j → (let r : Result Judged E = Ok judged in r ≡ Ok j) ⊎ (let r : Result Judged E = Ok judged in IsErr r))
    → (j : Judged) → Judgement parts j → j ≡ judged
one_judged {E} parts judged one j is = of_answer (one j is)
  where
    of_answer : (let r : Result Judged E = Ok judged in r ≡ Ok j) ⊎ (let r : Result Judged E = Ok judged in IsErr r) → j ≡ judged
    of_answer (inl same) = let e : judged ≡ j = cc in sym e
    of_answer (inr fails) = absurd cc

only_checked : (parts : Parts) (judged : Judged) → ((j : Judged) → Judgement parts j → j ≡ judged) → (other : Due) → Checks parts other → other ≡ reported judged.outcome
only_checked parts judged one _ (Checks.report outcome verdict) = ap (λ (j : Judged). reported j.outcome) (one (record { outcome = outcome; table = verdict.0 }) verdict.1)

-- parts that were checked
pub finds_checked : {E : Type 0} (parts : Parts) (judged : Judged)
    → Judgement parts judged → (judged.outcome ≡ Clear → IsSafeApp parts) → (IsFollowed judged.outcome → TellsOfApp parts judged.outcome)
    → ((j : Judged) → Judgement parts j → (let r : Result Judged E = Ok judged in r ≡ Ok j) ⊎ (let r : Result Judged E = Ok judged in IsErr r))
    → FindsOfParts (Unit {0}) Checks Verdict parts (reported judged.outcome)
finds_checked {E} parts judged is safe tells one = record {
  is = Checks.report judged.outcome (judged.table, is);
  only = λ sure. only_checked parts judged (one_judged {E = E} parts judged one);
  safe = λ zero. safe (is_clear judged.outcome zero);
  full = λ found. record { outcome = judged.outcome; comes = (judged.table, is); status = refl; text = refl; tells = tells };
}

certifies : (path : List ℕ) (parts : Parts) (outcome : Outcome) (table : Option FlowTable) (due : Due)
    → Judgement parts (record { outcome = outcome; table = table }) → CertifiedAs path parts outcome table due → Certifies path parts due
certifies path parts outcome None due is same = subst (λ (d : Due). Certifies path parts d) (sym same) (Certifies.no_table outcome is)
certifies path parts outcome (Some table) due is same = subst (λ (d : Due). Certifies path parts d) (sym same.2) (Certifies.table outcome table same.0 is same.1)

only_certified : (path : List ℕ) (parts : Parts) (judged : Judged) (due : Due) → ((j : Judged) → Judgement parts j → j ≡ judged)
    → CertifiedAs path parts judged.outcome judged.table due → (other : Due) → Certifies path parts other → other ≡ due
only_certified path parts judged due one like _ (Certifies.no_table outcome is) =
    let P : Judged → Type 0 = λ j. CertifiedAs path parts j.outcome j.table due in
    let j : Judged = record { outcome = outcome; table = None } in
    let same : due ≡ reported outcome = subst P (sym (one j is)) like in
    sym same
only_certified path parts judged due one like _ (Certifies.table outcome table bytes is cert) =
    let P : Judged → Type 0 = λ j. CertifiedAs path parts j.outcome j.table due in
    let j : Judged = record { outcome = outcome; table = Some table } in
    let same : CertifiedAs path parts outcome (Some table) due = subst P (sym (one j is)) like in
    ap (λ (b : List ℕ). certified outcome path b) (cert.spelled ∙ sym same.1.spelled) ∙ sym same.2

status_as : (path : List ℕ) (parts : Parts) (outcome : Outcome) (table : Option FlowTable) (due : Due) → CertifiedAs path parts outcome table due → due.status ≡ status_of outcome
status_as path parts outcome None due same = ap (λ (d : Due). d.status) same
status_as path parts outcome (Some table) due same = ap (λ (d : Due). d.status) same.2

text_as : (path : List ℕ) (parts : Parts) (outcome : Outcome) (table : Option FlowTable) (due : Due) → CertifiedAs path parts outcome table due → due.text ≡ report_text outcome
text_as path parts outcome None due same = ap (λ (d : Due). d.text) same
text_as path parts outcome (Some table) due same = ap (λ (d : Due). d.text) same.2

-- parts that were certified
pub finds_certified : {E : Type 0} (path : List ℕ) (parts : Parts) (judged : Judged) (due : Due)
    → Judgement parts judged → (judged.outcome ≡ Clear → IsSafeApp parts) → (IsFollowed judged.outcome → TellsOfApp parts judged.outcome)
    → ((j : Judged) → Judgement parts j → (let r : Result Judged E = Ok judged in r ≡ Ok j) ⊎ (let r : Result Judged E = Ok judged in IsErr r))
    → CertifiedAs path parts judged.outcome judged.table due → FindsOfParts (Unit {0}) (Certifies path) Verdict parts due
finds_certified {E} path parts judged due is safe tells one same = record {
  is = certifies path parts judged.outcome judged.table due is same;
  only = λ sure. only_certified path parts judged due (one_judged {E = E} parts judged one) same;
  safe = λ zero. safe (is_clear judged.outcome (sym (status_as path parts judged.outcome judged.table due same) ∙ zero));
  full = λ found. record { outcome = judged.outcome; comes = (judged.table, is); status = status_as path parts judged.outcome judged.table due same; text = text_as path parts judged.outcome judged.table due same; tells = tells };
}

-- a status from 3 on is none of a finding
no_finding : (n : ℕ) → 3 ≤ n → (n ≡ 1) ⊎ (n ≡ 2) → ⊥
no_finding n above (inl one) = omega (arith, above, one)
no_finding n above (inr two) = omega (arith, above, two)

only_unread : (laws : CertLaws) (bytes : List ℕ) (parts : Parts) (fault : CertFault) → FirstCertFault bytes fault → (other : Due) → RechecksBy bytes parts other → other ≡ uncertified (refusals.Fault fault)
only_unread laws bytes parts fault first _ (RechecksBy.unread fault2 first2) = ap (λ (f : CertFault). uncertified (refusals.Fault f)) (laws.one_fault bytes fault2 fault first2 first)
only_unread laws bytes parts fault first _ (RechecksBy.other_digest set digest rows reads apart) = absurd (laws.not_both bytes set digest rows fault reads first)
only_unread laws bytes parts fault first _ (RechecksBy.judged set rows by reads is) = absurd (laws.not_both bytes set (digest_of parts) rows fault reads first)

refuses : (PartsDue : Parts → Due → Type 0) (Comes : Parts → Outcome → Type 0) (parts : Parts) (refusal : CertRefusal) → PartsDue parts (uncertified refusal) → ((other : Due) → PartsDue parts other → other ≡ uncertified refusal)
    → FindsOfParts (Unit {0}) PartsDue Comes parts (uncertified refusal)
refuses PartsDue Comes parts refusal is only = record { is = is; only = λ sure. only; safe = λ zero. absurd (omega (arith, zero)); full = λ found. absurd (no_finding 9 (omega arith) found) }

-- the bytes are no certificate
pub finds_unread : (laws : CertLaws) (bytes : List ℕ) (parts : Parts) (fault : CertFault) → FirstCertFault bytes fault → FindsOfParts (Unit {0}) (RechecksBy bytes) ComesByRows parts (uncertified (refusals.Fault fault))
finds_unread laws bytes parts fault first = refuses (RechecksBy bytes) ComesByRows parts (refusals.Fault fault) (RechecksBy.unread fault first) (only_unread laws bytes parts fault first)

only_other_digest : (laws : CertLaws) (bytes : List ℕ) (parts : Parts) (set : Set) (digest : List ℕ) (rows : List Row) → IsCert bytes set digest rows → digest ≢ digest_of parts
    → (other : Due) → RechecksBy bytes parts other → other ≡ uncertified (refusals.Digest digest (digest_of parts))
only_other_digest laws bytes parts set digest rows reads apart _ (RechecksBy.unread fault first) = absurd (laws.not_both bytes set digest rows fault reads first)
only_other_digest laws bytes parts set digest rows reads apart _ (RechecksBy.other_digest set2 digest2 rows2 reads2 apart2) =
    ap (λ (d : List ℕ). uncertified (refusals.Digest d (digest_of parts))) (laws.one bytes set2 set digest2 digest rows2 rows reads2 reads).1
only_other_digest laws bytes parts set digest rows reads apart _ (RechecksBy.judged set2 rows2 by reads2 is) =
    absurd (apart (laws.one bytes set set2 digest (digest_of parts) rows rows2 reads reads2).1)

-- it is about other files
pub finds_other_digest : (laws : CertLaws) (bytes : List ℕ) (parts : Parts) (set : Set) (digest of_parts : List ℕ) (rows : List Row) → IsCert bytes set digest rows → of_parts ≡ digest_of parts → digest ≢ of_parts
    → FindsOfParts (Unit {0}) (RechecksBy bytes) ComesByRows parts (uncertified (refusals.Digest digest of_parts))
finds_other_digest laws bytes parts set digest of_parts rows reads same apart =
    let P : List ℕ → Type 0 = λ d. FindsOfParts (Unit {0}) (RechecksBy bytes) ComesByRows parts (uncertified (refusals.Digest digest d)) in
    let ne : digest ≢ digest_of parts = λ e. apart (e ∙ sym same) in
    subst P (sym same)
    (refuses (RechecksBy bytes) ComesByRows parts (refusals.Digest digest (digest_of parts)) (RechecksBy.other_digest set digest rows reads ne) (only_other_digest laws bytes parts set digest rows reads ne))

-- what the rows of a certificate make of the parts is one thing
one_rejudged : {E : Type 0} (parts : Parts) (analysis : Analysis) (rows : List Row) (by : Rechecked)
    → ((r : Rechecked) → Rejudgement parts analysis rows r → (let s : Result Rechecked E = Ok by in s ≡ Ok r) ⊎ (let s : Result Rechecked E = Ok by in IsErr s))
    → (r : Rechecked) → Rejudgement parts analysis rows r → r ≡ by
one_rejudged {E} parts analysis rows by one r is = of_answer (one r is)
  where
    of_answer : (let s : Result Rechecked E = Ok by in s ≡ Ok r) ⊎ (let s : Result Rechecked E = Ok by in IsErr s) → r ≡ by
    of_answer (inl same) = let e : by ≡ r = cc in sym e
    of_answer (inr fails) = absurd cc

only_rechecked : (laws : CertLaws) (bytes : List ℕ) (parts : Parts) (set : Set) (rows : List Row) (by : Rechecked) → IsCert bytes set (digest_of parts) rows
    → ((r : Rechecked) → Rejudgement parts (analysis_of set) rows r → r ≡ by)
    → (other : Due) → RechecksBy bytes parts other → other ≡ rechecked by
only_rechecked laws bytes parts set rows by reads one _ (RechecksBy.unread fault first) = absurd (laws.not_both bytes set (digest_of parts) rows fault reads first)
only_rechecked laws bytes parts set rows by reads one _ (RechecksBy.other_digest set2 digest rows2 reads2 apart) =
    absurd (apart (laws.one bytes set2 set digest (digest_of parts) rows2 rows reads2 reads).1)
only_rechecked laws bytes parts set rows by reads one _ (RechecksBy.judged set2 rows2 by2 reads2 is) =
    let same = laws.one bytes set2 set (digest_of parts) (digest_of parts) rows2 rows reads2 reads in
    let here : Rejudgement parts (analysis_of set) rows2 by2 = subst (λ (s : Set). Rejudgement parts (analysis_of s) rows2 by2) same.0 is in
    ap rechecked (one by2 (subst (λ (rs : List Row). Rejudgement parts (analysis_of set) rs by2) same.2 here))

safe_by : (parts : Parts) (by : Rechecked) → (by ≡ rechecks.By Clear → IsSafeApp parts) → (rechecked by).status ≡ 0 → IsSafeApp parts
safe_by parts (rechecks.Refused part reason) safe zero = absurd (omega (arith, zero))
safe_by parts rechecks.Unasked safe zero = absurd (omega (arith, zero))
safe_by parts (rechecks.Defect defect) safe zero = absurd (omega (arith, zero))
safe_by parts (rechecks.By outcome) safe zero = safe (ap (λ (o : Outcome). rechecks.By o) (is_clear outcome zero))

full_by : (parts : Parts) (analysis : Analysis) (rows : List Row) (by : Rechecked) → Rejudgement parts analysis rows by → TellsBy parts by
    → ((rechecked by).status ≡ 1) ⊎ ((rechecked by).status ≡ 2) → ReportsAll ComesByRows parts (rechecked by)
full_by parts analysis rows (rechecks.Refused part reason) is tells found = absurd (no_finding 3 (omega arith) found)
full_by parts analysis rows rechecks.Unasked is tells found = absurd (no_finding 9 (omega arith) found)
full_by parts analysis rows (rechecks.Defect defect) is tells found = absurd (no_finding 9 (omega arith) found)
full_by parts analysis rows (rechecks.By outcome) is tells found = record { outcome = outcome; comes = (analysis, rows, is); status = refl; text = refl; tells = λ followed. tells }

-- what its rows make of the parts
pub finds_rechecked : {E : Type 0} (laws : CertLaws) (bytes : List ℕ) (parts : Parts) (set : Set) (digest of_parts : List ℕ) (rows : List Row) (by : Rechecked) (due : Due)
    → IsCert bytes set digest rows → of_parts ≡ digest_of parts → digest ≡ of_parts
    → Rejudgement parts (analysis_of set) rows by
    → ((r : Rechecked) → Rejudgement parts (analysis_of set) rows r → (let s : Result Rechecked E = Ok by in s ≡ Ok r) ⊎ (let s : Result Rechecked E = Ok by in IsErr s))
    → TellsBy parts by → (by ≡ rechecks.By Clear → IsSafeApp parts) → due ≡ rechecked by
    → FindsOfParts (Unit {0}) (RechecksBy bytes) ComesByRows parts due
finds_rechecked {E} laws bytes parts set digest of_parts rows by due reads same_parts same is one tells safe says =
    let reads_parts : IsCert bytes set (digest_of parts) rows = subst (λ (d : List ℕ). IsCert bytes set d rows) (same ∙ same_parts) reads in
    subst (λ (d : Due). FindsOfParts (Unit {0}) (RechecksBy bytes) ComesByRows parts d) (sym says) (record {
      is = RechecksBy.judged set rows by reads_parts is;
      only = λ sure. only_rechecked laws bytes parts set rows by reads_parts (one_rejudged {E = E} parts (analysis_of set) rows by one);
      safe = safe_by parts by safe;
      full = full_by parts (analysis_of set) rows by is tells;
    })

-- what is answered where the bytes are no certificate
pub finds_unreadable : (laws : CertLaws) (bytes : List ℕ) (parts : Parts) (stop : Stop CertFault) (answer : Answer) → IsStopOf bytes stop → IsUnreadable stop answer
    → FindsOfParts (Unit {0}) (RechecksBy bytes) ComesByRows parts (due_of answer)
finds_unreadable laws bytes parts stops.Memory answer is says = absurd says
finds_unreadable laws bytes parts (stops.Fault fault) answer is says =
    subst (λ (a : Answer). FindsOfParts (Unit {0}) (RechecksBy bytes) ComesByRows parts (due_of a)) (sym says) (finds_unread laws bytes parts fault is)

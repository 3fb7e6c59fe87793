-- The bytes own a certificate tell its set, and parts come to one thing by its rows.
use Rattle.std.proofs.Common.{◌≡◌, ℕ, List, Option, Some, None, refl, sym, ap, ◌∙◌, subst}
use Rattle.std.proofs.lemmas.Option.{same_Some}
use Rattle.app_flow.specs.Defect.{OneDefect}
use Rattle.app_flow.specs.declared.flow_rows.FlowTable.{FlowTable}
use Rattle.app_folder.specs.Due.{Due, NewFile}
use Rattle.cert_report.specs.declared.refusal.CertRefusal.TheVariants.{Fault}
use Rattle.cert_rows.specs.declared.sets.Set.{Set}
use Rattle.cert_rows.specs.declared.sets.Set.TheVariants as set
use Rattle.certificate.specs.Cert.{IsCert}
use Rattle.certificate.specs.Laws.{CertLaws}
use Rattle.certificate.specs.declared.fault.CertFault.TheVariants.{Magic}
use Rattle.fact_rows.specs.declared.row.Row.{Row}
use Rattle.flow_analyses.specs.declared.Analysis.TheVariants.{Cells}
use Rattle.store_lists.specs.declared.large.Large.{Large}
use Rattle.verdict.specs.declared.linking.Linked.{Linked}
use Rattle.verdict.specs.declared.outcome.Outcome.{Outcome}
use Rattle.verdict.specs.declared.outcome.Rechecked.TheVariants.{Unasked}
use Rattle.verdict.specs.declared.parts.Parts.{Parts}
use Rattle.verdict.specs.Linked.{IsLinked}
use Rattle.verdict.specs.OneVerdict.{LowerLaws}
use Rattle.verdict.specs.Recheck.{IsAsked, Rejudgement}
use Rattle.verdict.proofs.Rechecks.{only_rejudged}
use Rattle.vetting_desk.specs.Due.{certified, uncertified}
use Rattle.vetting_desk.specs.Found.{CertifiedAs}
use Rattle.vetting_desk.specs.PartsDue.{RechecksBy, digest_of, rechecked}
use Rattle.vetting_desk.specs.Sets.{set_of, analysis_of}
use Rattle.analysis_witness.specs.OwnRules.{ComesBy, AreCheckedByOwnRules}

other_set : let one : Set = set.Paths in one ≡ set.Cells → ⊥
other_set same = cc

-- the lists have no word
not_asked : (large : Option Large) → large ≡ None → IsAsked Cells large → ⊥
not_asked large none asked = subst (IsAsked Cells) none asked

module _ (laws : CertLaws) (parts : Parts) (bytes : List ℕ) (rows : List Row) where
  by_own : (own : Set) → IsCert bytes own (digest_of parts) rows → (due : Due) → RechecksBy bytes parts due → ComesBy parts (analysis_of own) rows due
  by_own own reads _ (RechecksBy.unread fault first) = absurd (laws.not_both bytes own (digest_of parts) rows fault reads first)
  by_own own reads _ (RechecksBy.other_digest set2 digest rows2 reads2 apart) =
      absurd (apart (laws.one bytes set2 own digest (digest_of parts) rows2 rows reads2 reads).1)
  by_own own reads _ (RechecksBy.judged set2 rows2 r reads2 is) =
      let same = laws.one bytes set2 own (digest_of parts) (digest_of parts) rows2 rows reads2 reads in
      let here : Rejudgement parts (analysis_of own) rows2 r = subst (λ (s : Set). Rejudgement parts (analysis_of s) rows2 r) same.0 is in
      (r, subst (λ (rs : List Row). Rejudgement parts (analysis_of own) rs r) same.2 here, refl)

  unasked : LowerLaws → OneDefect → (due : Due) (l : Linked) → IsLinked parts l → l.papers.large ≡ None →
      IsCert bytes set.Cells (digest_of parts) rows → RechecksBy bytes parts due → due ≡ uncertified (Fault Magic)
  unasked lower law due l is none reads by =
      let own : ComesBy parts Cells rows due = by_own set.Cells reads due by in
      own.2 ∙ ap rechecked (only_rejudged lower parts Cells rows law l Unasked is (not_asked l.papers.large none) own.0 own.1)

  -- the file of a certificate
  written_as : (outcome : Outcome) (path digest : List ℕ) (table : FlowTable) (others : List Row) (own : Set) →
      CertifiedAs path parts outcome (Some table) (certified outcome path bytes) → IsCert bytes own digest others → set_of table.analysis ≡ own
  written_as outcome path digest table others own (text, reads, says) other =
      let file : ◌≡◌ {A = Option NewFile} (Some (path, text)) (Some (path, bytes)) = ap (λ (d : Due). d.written) (sym says) in
      let pair : ◌≡◌ {A = NewFile} (path, text) (path, bytes) = same_Some (path, text) (path, bytes) file in
      let same : text ≡ bytes = ap (λ (f : NewFile). f.1) pair in
      (laws.one bytes (set_of table.analysis) own (digest_of parts) digest table.rows others
      (subst (λ bs. IsCert bs (set_of table.analysis) (digest_of parts) table.rows) same reads) other).0

pub are_checked : CertLaws → LowerLaws → OneDefect → AreCheckedByOwnRules
are_checked laws lower law parts bytes rows due = record {
  of_cells = λ reads by. by_own laws parts bytes rows set.Cells reads due by;
  of_paths = λ reads by. by_own laws parts bytes rows set.Paths reads due by;
  unasked = unasked laws parts bytes rows lower law due;
  not_as_paths = λ outcome path digest table others of_cells is other.
      other_set (sym (written_as laws parts bytes rows outcome path digest table others set.Paths is other) ∙ ap set_of of_cells);
  not_as_cells = λ outcome path digest table others of_paths is other.
      other_set (sym (ap set_of of_paths) ∙ written_as laws parts bytes rows outcome path digest table others set.Cells is other);
}

-- By which rules certificates are checked. Behind each fact stands what code would answer that does otherwise.
use Rattle.std.specs.Prelude.{◌≡◌, ℕ, List, Some, None}
use Rattle.app_flow.specs.declared.flow_rows.FlowTable.{FlowTable}
use Rattle.app_folder.specs.Due.{Due}
use Rattle.cert_report.specs.declared.refusal.CertRefusal.TheVariants.{Fault}
use Rattle.cert_rows.specs.declared.sets.Set.TheVariants as set
use Rattle.certificate.specs.Cert.{IsCert}
use Rattle.certificate.specs.declared.fault.CertFault.TheVariants.{Magic}
use Rattle.fact_rows.specs.declared.row.Row.{Row}
use Rattle.flow_analyses.specs.declared.Analysis.{Analysis}
use Rattle.flow_analyses.specs.declared.Analysis.TheVariants.{Paths, Cells}
use Rattle.verdict.specs.declared.linking.Linked.{Linked}
use Rattle.verdict.specs.declared.outcome.Outcome.{Outcome}
use Rattle.verdict.specs.declared.outcome.Rechecked.{Rechecked}
use Rattle.verdict.specs.declared.parts.Parts.{Parts}
use Rattle.verdict.specs.Linked.{IsLinked}
use Rattle.verdict.specs.Recheck.{Rejudgement}
use Rattle.vetting_desk.specs.Due.{certified, uncertified}
use Rattle.vetting_desk.specs.Found.{CertifiedAs}
use Rattle.vetting_desk.specs.PartsDue.{RechecksBy, digest_of, rechecked}

-- what is due is what the parts come to by the rows of this analysis
abbrev pub ComesBy : Parts → Analysis → List Row → Due → Type 0
ComesBy parts analysis rows due = (r : Rechecked) × Rejudgement parts analysis rows r × (due ≡ rechecked r)

pub record AreChecked (parts : Parts) (bytes : List ℕ) (rows : List Row) (due : Due) : Type 0 where
  -- one of the second set goes by the second analysis, and one of the first by the first; else they are checked by the other's rules
  pub of_cells : IsCert bytes set.Cells (digest_of parts) rows → RechecksBy bytes parts due → ComesBy parts Cells rows due
  pub of_paths : IsCert bytes set.Paths (digest_of parts) rows → RechecksBy bytes parts due → ComesBy parts Paths rows due
  -- where the lists have no word for large apps, one of the second set is refused; else it is accepted
  pub unasked : (l : Linked) →
      IsLinked parts l →
      l.papers.large ≡ None →
      IsCert bytes set.Cells (digest_of parts) rows →
      RechecksBy bytes parts due →
      due ≡ uncertified (Fault Magic)
  -- what is written of a table of the second analysis is no certificate of the first set, nor the other way round
  pub not_as_paths : (outcome : Outcome) (path digest : List ℕ) (table : FlowTable) (others : List Row) →
      table.analysis ≡ Cells →
      CertifiedAs path parts outcome (Some table) (certified outcome path bytes) →
      IsCert bytes set.Paths digest others →
      ⊥
  pub not_as_cells : (outcome : Outcome) (path digest : List ℕ) (table : FlowTable) (others : List Row) →
      table.analysis ≡ Paths →
      CertifiedAs path parts outcome (Some table) (certified outcome path bytes) →
      IsCert bytes set.Cells digest others →
      ⊥

abbrev pub AreCheckedByOwnRules : Type 0
AreCheckedByOwnRules = (parts : Parts) (bytes : List ℕ) (rows : List Row) (due : Due) → AreChecked parts bytes rows due

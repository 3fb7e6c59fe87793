-- What judging by lists does not give, whatever the lists. Behind each fact stands what a slip would give.
use Rattle.std.specs.Prelude.{◌≡◌, ℕ, List, codes}
use Rattle.sha2.specs.Sha256.{sha256}
use Rattle.app_machine.specs.declared.papers.Layouts.{Layouts}
use Rattle.case_rules.specs.declared.case.Content.{Content}
use Rattle.case_rules.specs.declared.case.OutcomeWord.{OutcomeWord}
use Rattle.case_rules.specs.declared.case.OutcomeWord.TheVariants as words
use Rattle.case_rules.specs.Desk.{Judgement}
use Rattle.form_fields.specs.Form.{IsForm}
use Rattle.office_forms.specs.Layouts.{layouts_form}
use Rattle.outcomes.specs.declared.outcome.Finding.{Finding}
use Rattle.verdict.specs.declared.outcome.Outcome.TheVariants.{Clear, Flagged}
use Rattle.verdict_report.specs.Report.{report_text}
use Rattle.desk_service.specs.Judging.{FindsBy}

abbrev pub judgement : OutcomeWord → List ℕ → Judgement
judgement outcome report = record { outcome = outcome; report = report }

-- lists of one category and nothing else
abbrev pub small_lists : List ℕ
small_lists = codes "rows = 11\ncategories = [\"a\"]\n"

pub record JudgementsTell : Type 0 where
  -- the word is that of the report (else a clear app would be flagged, or a flagged one clear)
  pub not_flagged : (lists : List ℕ) (content : Content) → FindsBy lists content (judgement words.Flagged (report_text Clear)) → ⊥
  pub not_clear : (lists : List ℕ) (content : Content) (findings : List Finding) → FindsBy lists content (judgement words.Clear (report_text (Flagged findings))) → ⊥
  -- an app whose layouts are of no form is not clear (else it would be where the declaration is of that form)
  pub own_layouts : (lists : List ℕ) (content : Content) (report : List ℕ) → ((layouts : Layouts) → IsForm layouts_form content.layouts layouts → ⊥) → FindsBy lists content (judgement words.Clear report) → ⊥
  -- small lists have an edition of their own (else all would have that of these five bytes)
  pub own_edition : sha256 small_lists ≡ sha256 (codes "lists") → ⊥

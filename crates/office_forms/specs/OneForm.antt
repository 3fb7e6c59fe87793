-- What a text is as a form, and its first fault: no two of either, and not both.
use Rattle.std.specs.Prelude.{◌≡◌, ℕ, List}
use Rattle.toml.specs.Data.{Members}
use Rattle.vet_base.specs.Script.{Script}
use Rattle.form_fields.specs.declared.fault.Fault.{Fault}
use Rattle.form_fields.specs.declared.told.FormFault.{FormFault}
use Rattle.form_fields.specs.Form.{IsForm, FirstFormFault}
use Rattle.office_forms.specs.Manifest.{manifest_form}
use Rattle.office_forms.specs.Layouts.{layouts_form}
use Rattle.office_forms.specs.Declaration.{declaration_form}
use Rattle.store_lists.specs.Lists.{lists_form}
use Rattle.office_forms.specs.Office.{office_form}

pub record OneForm {A : Type 0} (form : Members → Script Fault A) (text : List ℕ) : Type 0 where
  pub one_form : (a b : A) → IsForm form text a → IsForm form text b → a ≡ b
  pub not_both : (a : A) (e : FormFault) → IsForm form text a → FirstFormFault form text e → ⊥
  pub one_fault : (e f : FormFault) → FirstFormFault form text e → FirstFormFault form text f → e ≡ f

-- each of the five forms, whatever the text
pub record OneFormOrFault : Type 0 where
  pub manifest : (text : List ℕ) → OneForm manifest_form text
  pub layouts : (text : List ℕ) → OneForm layouts_form text
  pub declaration : (text : List ℕ) → OneForm declaration_form text
  pub lists : (text : List ℕ) → OneForm lists_form text
  pub office : (text : List ℕ) → OneForm office_form text

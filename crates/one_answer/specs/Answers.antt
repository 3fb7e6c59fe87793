-- That the code of a method, and a form, is read to exactly one answer.
use Rattle.std.specs.Prelude.{ℕ, List}
use Rattle.toml.specs.Data.{Members}
use Rattle.vet_base.specs.Script.{Script}
use Rattle.dex_tables.specs.declared.dex.RawCode.{RawCode}
use Rattle.dex_code.specs.declared.decoder.Counts.{Counts}
use Rattle.dex_code.specs.Code.{IsCode, FirstFault}
use Rattle.form_fields.specs.declared.fault.Fault.{Fault}
use Rattle.form_fields.specs.Form.{IsForm, FirstFormFault}
use Rattle.office_forms.specs.Manifest.{manifest_form}
use Rattle.office_forms.specs.Layouts.{layouts_form}
use Rattle.office_forms.specs.Declaration.{declaration_form}
use Rattle.store_lists.specs.Lists.{lists_form}
use Rattle.office_forms.specs.Office.{office_form}
use Rattle.client_form.specs.Form.{IsClient, FirstFault as FirstClientFault}
use Rattle.one_answer.specs.ExactlyOne.{ExactlyOne}

-- the code of a method, for a file with so many strings, types, fields and methods
abbrev pub DecodingHasOneAnswer : Type 0
DecodingHasOneAnswer = (code : RawCode) (counts : Counts) → ExactlyOne (IsCode code counts) (FirstFault code counts)

-- a form, whatever the text
abbrev pub FormHasOneAnswer : {A : Type 0} → (Members → Script Fault A) → Type 0
FormHasOneAnswer form = (text : List ℕ) → ExactlyOne (IsForm form text) (FirstFormFault form text)

pub record FormsHaveOneAnswer : Type 0 where
  pub manifest : FormHasOneAnswer manifest_form
  pub layouts : FormHasOneAnswer layouts_form
  pub declaration : FormHasOneAnswer declaration_form
  pub lists : FormHasOneAnswer lists_form
  pub office : FormHasOneAnswer office_form

-- a developer's file, whatever the text
abbrev pub ClientHasOneAnswer : Type 0
ClientHasOneAnswer = (text : List ℕ) → ExactlyOne (IsClient text) (FirstClientFault text)

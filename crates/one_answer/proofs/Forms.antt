-- A text has exactly one answer as a form.
use Rattle.std.proofs.Common.{◌≡◌, ◌⊎◌, ℕ, List, Bool, true, false, true≢false, Option, Some, None, Result, Ok, Err, inl, inr, refl, sym, ◌∙◌}
use Rattle.std.specs.Str.{IsUtf8, is_utf8}
use Rattle.std.proofs.lemmas.Str.{IsUtf8-from_is_utf8, is_utf8-from_IsUtf8}
use Rattle.toml.specs.Data.{Members}
use Rattle.toml.specs.Parse.{parse_document}
use Rattle.vet_base.specs.Script.{Script, run}
use Rattle.vet_base.proofs.Scripts.{all_hold, is_first}
use Rattle.form_fields.specs.declared.fault.Fault.{Fault}
use Rattle.form_fields.specs.declared.told.FormFault.{FormFault}
use Rattle.form_fields.specs.declared.told.FormFault.TheVariants.{NotToml}
use Rattle.form_fields.specs.Form.{IsForm, FirstFormFault, unread, fails, shown}
use Rattle.office_forms.specs.OneForm.{OneForm, OneFormOrFault}
use Rattle.form_fields.specs.Tree.{Reads}
use Rattle.one_answer.specs.Answers.{FormsHaveOneAnswer}
use Rattle.one_answer.specs.ExactlyOne.{ExactlyOne}

abbrev Answer : {A : Type 0} → (Members → Script Fault A) → List ℕ → Type 0
Answer {A} form text = ((value : A) × IsForm form text value) ⊎ ((fault : FormFault) × FirstFormFault form text fault)

module _ {A : Type 0} (form : Members → Script Fault A) (text : List ℕ) where
  -- by the tests of the form, where there is a tree
  of_tree : (tree : Members) → Reads text tree → (r : Result A Fault) → run (form tree) ≡ r → Answer form text
  of_tree tree reads (Ok value) e = let h = all_hold (form tree) value e in inl (value, record { tree = tree; reads = reads; hold = h.0; is = h.1 })
  of_tree tree reads (Err fault) e = inr (shown fault, fails tree fault reads (is_first (form tree) fault e))

  -- by whether there is a tree, where the text is UTF-8
  of_text : IsUtf8 text → (t : Option Members) → parse_document text ≡ t → Answer form text
  of_text utf8 (Some tree) e = of_tree tree (utf8, e) (run (form tree)) refl
  of_text utf8 None e = inr (NotToml, unread (inr e))

  of_bytes : (b : Bool) → is_utf8 text ≡ b → Answer form text
  of_bytes true e = of_text (IsUtf8-from_is_utf8 text e) (parse_document text) refl
  of_bytes false e = inr (NotToml, unread (inl (λ utf8. true≢false (sym (is_utf8-from_IsUtf8 text utf8) ∙ e))))

  exactly_one : OneForm form text → ExactlyOne (IsForm form text) (FirstFormFault form text)
  exactly_one law = record { either = of_bytes (is_utf8 text) refl; one_value = law.one_form; one_fault = law.one_fault; not_both = law.not_both }

pub form_or_fault : OneFormOrFault → FormsHaveOneAnswer
form_or_fault laws = record {
  manifest = λ text. exactly_one _ text (laws.manifest text);
  layouts = λ text. exactly_one _ text (laws.layouts text);
  declaration = λ text. exactly_one _ text (laws.declaration text);
  lists = λ text. exactly_one _ text (laws.lists text);
  office = λ text. exactly_one _ text (laws.office text);
}

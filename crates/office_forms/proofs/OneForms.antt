-- What a text is as a form, and its first fault: no two of either, and not both.
use Rattle.std.proofs.Common.{◌≡◌, ℕ, List, Some, None, Result, Ok, Err, refl, sym, ◌∙◌, ap, subst, inl, inr}
use Rattle.toml.specs.Data.{Members}
use Rattle.vet_base.specs.Script.{Script, tests, value_of, AllHold, IsFirst}
use Rattle.vet_base.proofs.Scripts.{exclusive}
use Rattle.form_fields.specs.declared.fault.Fault.{Fault}
use Rattle.form_fields.specs.declared.told.FormFault.{FormFault}
use Rattle.form_fields.specs.Form.{IsForm, FirstFormFault, unread, fails, shown}
use Rattle.form_fields.specs.Tree.{Reads, IsNotToml}
use Rattle.office_forms.specs.Manifest.{manifest_form}
use Rattle.office_forms.specs.Layouts.{layouts_form}
use Rattle.office_forms.specs.Declaration.{declaration_form}
use Rattle.store_lists.specs.Lists.{lists_form}
use Rattle.office_forms.specs.Office.{office_form}
use Rattle.office_forms.specs.OneForm.{OneForm, OneFormOrFault}
use Rattle.vet_base.proofs.Runs.{one_first}

one_tree : (text : List ℕ) (a b : Members) → Reads text a → Reads text b → a ≡ b
one_tree text a b one two = let both : Some a ≡ Some b = sym one.1 ∙ two.1 in cc

not_read : (text : List ℕ) (tree : Members) → Reads text tree → IsNotToml text → ⊥
not_read text tree reads (inl broken) = broken reads.0
not_read text tree reads (inr none) = let both : Some tree ≡ None = sym reads.1 ∙ none in absurd cc

module _ {A : Type 0} (form : Members → Script Fault A) (text : List ℕ) where
  one_form : (a b : A) → IsForm form text a → IsForm form text b → a ≡ b
  one_form a b one two = one.is ∙ (ap (λ (t : Members). value_of (form t)) (one_tree text one.tree two.tree one.reads two.reads) ∙ sym two.is)

  form_or_fault : (a : A) (e : FormFault) → IsForm form text a → FirstFormFault form text e → ⊥
  form_or_fault a e is (unread none) = not_read text is.tree is.reads none
  form_or_fault a e is (fails tree fault reads first) =
      exclusive (tests (form tree)) fault (subst (λ (t : Members). AllHold (tests (form t))) (one_tree text is.tree tree is.reads reads) is.hold) first

  one_form_fault : (e f : FormFault) → FirstFormFault form text e → FirstFormFault form text f → e ≡ f
  one_form_fault e f (unread a) (unread b) = refl
  one_form_fault e f (unread a) (fails tree fault reads first) = absurd (not_read text tree reads a)
  one_form_fault e f (fails tree fault reads first) (unread b) = absurd (not_read text tree reads b)
  one_form_fault e f (fails one x a first) (fails two y b second) = ap shown (one_first (form two) x y (subst (λ (t : Members). IsFirst (tests (form t)) x) (one_tree text one two a b) first) second)

  is_one : OneForm form text
  is_one = record { one_form = one_form; not_both = form_or_fault; one_fault = one_form_fault }

pub each_is_one : OneFormOrFault
each_is_one = record { manifest = is_one manifest_form; layouts = is_one layouts_form; declaration = is_one declaration_form; lists = is_one lists_form; office = is_one office_form }

-- A text has exactly one answer as a developer's file.
use Rattle.std.proofs.Common.{◌≡◌, ◌⊎◌, ℕ, List, Bool, true, false, true≢false, Option, Some, None, Result, Ok, Err, inl, inr, refl, sym, ◌∙◌, ap, subst}
use Rattle.std.specs.Str.{IsUtf8, is_utf8}
use Rattle.std.proofs.lemmas.Str.{IsUtf8-from_is_utf8, is_utf8-from_IsUtf8}
use Rattle.toml.specs.Data.{Members}
use Rattle.toml.specs.Parse.{parse_document}
use Rattle.vet_base.specs.Script.{Script, run, tests, value_of, AllHold, IsFirst}
use Rattle.vet_base.proofs.Runs.{one_first}
use Rattle.vet_base.proofs.Scripts.{all_hold, exclusive, is_first}
use Rattle.form_fields.specs.declared.told.FormFault.{FormFault}
use Rattle.form_fields.specs.declared.told.FormFault.TheVariants.{NotToml}
use Rattle.form_fields.specs.Tree.{Reads, IsNotToml}
use Rattle.client_form.specs.declared.client.Client.{Client}
use Rattle.client_form.specs.Form.{client_form, IsClient, FirstFault, unread, fails, shown}
use Rattle.one_answer.specs.Answers.{ClientHasOneAnswer}

-- by what a script comes to
by_run : {F A Z : Type 0} (s : Script F A) (r : Result A F) → run s ≡ r → ((x : A) → run s ≡ Ok x → Z) → ((f : F) → run s ≡ Err f → Z) → Z
by_run s (Ok x) e good bad = good x e
by_run s (Err f) e good bad = bad f e

module _ (text : List ℕ) where
  one_tree : (a b : Members) → Reads text a → Reads text b → a ≡ b
  one_tree a b one two = let both : Some a ≡ Some b = sym one.1 ∙ two.1 in cc

  not_read : (tree : Members) → Reads text tree → IsNotToml text → ⊥
  not_read tree reads (inl broken) = broken reads.0
  not_read tree reads (inr none) = let both : Some tree ≡ None = sym reads.1 ∙ none in absurd cc

  one_client : (a b : Client) → IsClient text a → IsClient text b → a ≡ b
  one_client a b one two = one.is ∙ (ap (λ (t : Members). value_of (client_form t)) (one_tree one.tree two.tree one.reads two.reads) ∙ sym two.is)

  not_both : (a : Client) (e : FormFault) → IsClient text a → FirstFault text e → ⊥
  not_both a e is (unread none) = not_read is.tree is.reads none
  not_both a e is (fails tree fault reads first) =
      exclusive (tests (client_form tree)) fault (subst (λ (t : Members). AllHold (tests (client_form t))) (one_tree is.tree tree is.reads reads) is.hold) first

  one_fault : (e f : FormFault) → FirstFault text e → FirstFault text f → e ≡ f
  one_fault e f (unread a) (unread b) = refl
  one_fault e f (unread a) (fails tree fault reads first) = absurd (not_read tree reads a)
  one_fault e f (fails tree fault reads first) (unread b) = absurd (not_read tree reads b)
  one_fault e f (fails one x a first) (fails two y b second) =
      ap shown (one_first (client_form two) x y (subst (λ (t : Members). IsFirst (tests (client_form t)) x) (one_tree one two a b) first) second)

  abbrev Answer : Type 0
  Answer = ((client : Client) × IsClient text client) ⊎ ((fault : FormFault) × FirstFault text fault)

  -- by the tests of the form, where there is a tree
  of_tree : (tree : Members) → Reads text tree → Answer
  of_tree tree reads =
      by_run (client_form tree) (run (client_form tree)) refl
      (λ client e. let h = all_hold (client_form tree) client e in inl (client, record { tree = tree; reads = reads; hold = h.0; is = h.1 }))
      (λ fault e. inr (shown fault, fails tree fault reads (is_first (client_form tree) fault e)))

  -- by whether there is a tree, where the text is UTF-8
  of_text : IsUtf8 text → (t : Option Members) → parse_document text ≡ t → Answer
  of_text utf8 (Some tree) e = of_tree tree (utf8, e)
  of_text utf8 None e = inr (NotToml, unread (inr e))

  of_bytes : (b : Bool) → is_utf8 text ≡ b → Answer
  of_bytes true e = of_text (IsUtf8-from_is_utf8 text e) (parse_document text) refl
  of_bytes false e = inr (NotToml, unread (inl (λ utf8. true≢false (sym (is_utf8-from_IsUtf8 text utf8) ∙ e))))

pub client_or_fault : ClientHasOneAnswer
client_or_fault text = record { either = of_bytes text (is_utf8 text) refl; one_value = one_client text; one_fault = one_fault text; not_both = not_both text }

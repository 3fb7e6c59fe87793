-- What a reader of a form answers, from what running the form's script gives.
use Rattle.std.proofs.Common.{◌≡◌, ◌⊎◌, ◌≢◌, ℕ, List, Ok, ⊎_elim, subst, sym, ap, ◌∙◌}
use Rattle.toml.specs.Data.{Members}
use Rattle.vet_base.specs.declared.stop.Stop.{Stop}
use Rattle.vet_base.specs.declared.stop.Stop.TheVariants as stops
use Rattle.vet_base.specs.Script.{Script, run, Fails}
use Rattle.vet_base.proofs.Scripts.{all_hold, is_first}
use Rattle.form_fields.specs.declared.fault.Fault.{Fault}
use Rattle.form_fields.specs.declared.told.FormFault.{FormFault}
use Rattle.form_fields.specs.declared.told.FormFault.TheVariants as told
use Rattle.form_fields.specs.Tree.{Reads}
use Rattle.form_fields.specs.Form.{IsForm, FirstFormFault, unread, fails, shown, IsTold, IsUnread}

pub is_form : {A : Type 0} (form : Members → Script Fault A) (text : List ℕ) (tree : Members) (value : A) → Reads text tree → run (form tree) ≡ Ok value → IsForm form text value
is_form form text tree value reads gives =
    let h = all_hold (form tree) value gives in
    record { tree = tree; reads = reads; hold = h.0; is = h.1 }

first_of : {A : Type 0} (form : Members → Script Fault A) (text : List ℕ) (tree : Members) (stop : Stop Fault) (e : FormFault)
    → Reads text tree → Fails stop (run (form tree)) → IsTold stop e → e ≢ told.Memory → FirstFormFault form text e
first_of form text tree stops.Memory e reads gives is other = absurd (other is)
first_of form text tree (stops.Fault fault) e reads gives is other =
    let P : FormFault → Type 0 = λ x. FirstFormFault form text x in
    subst P (sym is) (fails tree fault reads (is_first (form tree) fault gives))

-- a tree that fails a test of its form
pub is_fault : {A : Type 0} (form : Members → Script Fault A) (text : List ℕ) (tree : Members) (stop : Stop Fault) (e : FormFault)
    → Reads text tree → Fails stop (run (form tree)) → (e ≡ told.Memory) ⊎ IsTold stop e → e ≢ told.Memory → FirstFormFault form text e
is_fault form text tree stop e reads gives is other = ⊎_elim (λ m. absurd (other m)) (λ t. first_of form text tree stop e reads gives t other) is

unread_of : {A : Type 0} (form : Members → Script Fault A) (text : List ℕ) (stop : Stop Fault) (e : FormFault)
    → IsUnread text stop → IsTold stop e → e ≢ told.Memory → FirstFormFault form text e
unread_of form text stops.Memory e none is other = absurd (other is)
unread_of form text (stops.Fault fault) e none is other =
    let P : FormFault → Type 0 = λ x. FirstFormFault form text x in
    subst P (sym (is ∙ ap shown none.0)) (unread none.1)

-- a text that has no tree
pub is_unread : {A : Type 0} (form : Members → Script Fault A) (text : List ℕ) (stop : Stop Fault) (e : FormFault)
    → IsUnread text stop → (e ≡ told.Memory) ⊎ IsTold stop e → e ≢ told.Memory → FirstFormFault form text e
is_unread form text stop e none is other = ⊎_elim (λ m. absurd (other m)) (λ t. unread_of form text stop e none t other) is

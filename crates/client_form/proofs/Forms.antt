-- What the reader of the client's file answers, from what running its form gives.
use Rattle.std.proofs.Common.{◌≡◌, ◌⊎◌, ◌≢◌, ℕ, List, Ok, ⊎_elim, subst, sym, ap, ◌∙◌}
use Rattle.toml.specs.Data.{Members}
use Rattle.vet_base.specs.declared.stop.Stop.{Stop}
use Rattle.vet_base.specs.declared.stop.Stop.TheVariants as stops
use Rattle.vet_base.specs.Script.{run, Fails}
use Rattle.vet_base.proofs.Scripts.{all_hold, is_first}
use Rattle.form_fields.specs.declared.fault.Fault.{Fault as TreeFault}
use Rattle.form_fields.specs.declared.told.FormFault.{FormFault}
use Rattle.form_fields.specs.declared.told.FormFault.TheVariants as told
use Rattle.form_fields.specs.Tree.{Reads}
use Rattle.form_fields.specs.Form as forms
use Rattle.client_form.specs.declared.client.Client.{Client}
use Rattle.client_form.specs.declared.fault.Fault.{Fault}
use Rattle.client_form.specs.Form.{client_form, IsClient, FirstFault, unread, fails, shown, IsTold}

pub is_client : (text : List ℕ) (tree : Members) (client : Client) → Reads text tree → run (client_form tree) ≡ Ok client → IsClient text client
is_client text tree client reads gives =
    let h = all_hold (client_form tree) client gives in
    record { tree = tree; reads = reads; hold = h.0; is = h.1 }

first_of : (text : List ℕ) (tree : Members) (stop : Stop Fault) (e : FormFault)
    → Reads text tree → Fails stop (run (client_form tree)) → IsTold stop e → e ≢ told.Memory → FirstFault text e
first_of text tree stops.Memory e reads gives is other = absurd (other is)
first_of text tree (stops.Fault fault) e reads gives is other =
    let P : FormFault → Type 0 = λ x. FirstFault text x in
    subst P (sym is) (fails tree fault reads (is_first (client_form tree) fault gives))

-- a tree that fails a test
pub is_fault : (text : List ℕ) (tree : Members) (stop : Stop Fault) (e : FormFault)
    → Reads text tree → Fails stop (run (client_form tree)) → (e ≡ told.Memory) ⊎ IsTold stop e → e ≢ told.Memory → FirstFault text e
is_fault text tree stop e reads gives is other = ⊎_elim (λ m. absurd (other m)) (λ t. first_of text tree stop e reads gives t other) is

unread_of : (text : List ℕ) (stop : Stop TreeFault) (e : FormFault)
    → forms.IsUnread text stop → forms.IsTold stop e → e ≢ told.Memory → FirstFault text e
unread_of text stops.Memory e none is other = absurd (other is)
unread_of text (stops.Fault fault) e none is other =
    let P : FormFault → Type 0 = λ x. FirstFault text x in
    subst P (sym (is ∙ ap forms.shown none.0)) (unread none.1)

-- a text that has no tree
pub is_unread : (text : List ℕ) (stop : Stop TreeFault) (e : FormFault)
    → forms.IsUnread text stop → (e ≡ told.Memory) ⊎ forms.IsTold stop e → e ≢ told.Memory → FirstFault text e
is_unread text stop e none is other = ⊎_elim (λ m. absurd (other m)) (λ t. unread_of text stop e none t other) is

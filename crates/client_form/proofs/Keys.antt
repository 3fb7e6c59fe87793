-- The entries of a table, one after the other, and the least key that the form does not have.
use Rattle.std.proofs.Common.{◌≡◌, ℕ, Bool, true, false, List, ◌∷◌, refl, ap, sym, ◌∙◌, Some, String, Global, string_bytes}
use Rattle.toml.specs.Data.{Data, Members, member}
use Rattle.toml.specs.View.{members_view, view}
use Rattle.toml.specs.declared.value.Value.{Value}
use Rattle.toml.proofs.Views.{Entry}
use Rattle.client_form.specs.Form.{is_known, least_unknown}

first_known : (k : List ℕ) (d : Data) (ms : Members) (b : Bool) → b ≡ is_known k → b ≡ true
    → least_unknown (member k d ms) ≡ least_unknown ms
unfolding least_unknown
first_known k d ms b is e = rw (sym is ∙ e) refl

first_unknown : (k : List ℕ) (d : Data) (ms : Members) (b : Bool) → b ≡ is_known k → b ≡ false
    → least_unknown (member k d ms) ≡ Some k
unfolding least_unknown
first_unknown k d ms b is e = rw (sym is ∙ e) refl

-- the next key is unknown, and so the least that is
pub next_unknown : (k : String Global) (v : Value) (es rest : List Entry) (b : Bool) → es ≡ (k, v) ∷ rest
    → b ≡ is_known (string_bytes k) → b ≡ false → Some (string_bytes k) ≡ least_unknown (members_view es)
next_unknown k v es rest b at is e = sym (ap (λ x. least_unknown (members_view x)) at ∙ first_unknown (string_bytes k) (view v) (members_view rest) b is e)

-- the next key is known: the least unknown is that of the rest
pub next_known : (k : String Global) (v : Value) (es rest : List Entry) (b : Bool) → es ≡ (k, v) ∷ rest
    → b ≡ is_known (string_bytes k) → b ≡ true → least_unknown (members_view rest) ≡ least_unknown (members_view es)
next_known k v es rest b at is e = sym (ap (λ x. least_unknown (members_view x)) at ∙ first_known (string_bytes k) (view v) (members_view rest) b is e)

-- Where the text ends there is no other parameter.
use Rattle.std.proofs.Common.{◌≡◌, ℕ, ◌≤◌, false, List, length, refl}
use Rattle.std.proofs.lemmas.Bool.{le-ltb}
use Rattle.method_fields.specs.Descriptor.{has_param}

pub no_param : (text : List ℕ) (at : ℕ) → length text ≤ at → has_param text at ≡ false
unfolding has_param
no_param text at le = rw (le-ltb at (length text) le) refl

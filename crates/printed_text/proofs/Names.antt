-- Printed names, part by part.
use Rattle.std.proofs.Common.{◌≡◌, ℕ, List, [], ◌∷◌, ◌++◌, append_assoc, refl, sym}
use Rattle.std.specs.List.{flat_map}
use Rattle.std.proofs.lemmas.List.{append-nil}
use Rattle.printed_text.specs.Printed.{escaped, escaped_byte}

pub escaped_append : (a b : List ℕ) → escaped (a ++ b) ≡ escaped a ++ escaped b
unfolding escaped
escaped_append [] b = refl
escaped_append (x ∷ xs) b = rw (escaped_append xs b) (sym (append_assoc (escaped_byte x) (flat_map escaped_byte xs) (flat_map escaped_byte b)))

-- nothing is added before the first name
pub escaped_nothing : (t : List ℕ) → t ≡ t ++ escaped []
unfolding escaped
escaped_nothing t = sym (append-nil t)

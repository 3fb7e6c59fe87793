-- Escaped texts, part by part.
use Rattle.std.proofs.Common.{◌≡◌, ℕ, zero, suc, ◌+◌, ◌<◌, List, [], ◌∷◌, ◌++◌, length, take, get_or, append_assoc, add-one, refl, sym, ap, ◌∙◌, arith}
use Rattle.std.proofs.lemmas.List.{append-nil}
use Rattle.std.specs.Prelude.{codes}
use Rattle.app_machine.specs.declared.call.Proto.{Proto}
use Rattle.app_machine.specs.Names.{Name, joined, descriptor_of}
use Rattle.printed_text.specs.Printed.{escaped}
use Rattle.printed_text.proofs.Names.{escaped_append}

-- one more of the names
pub joined_take : (names : List Name) (i : ℕ) (d : Name) → i < length names → escaped (joined (take (i + 1) names)) ≡ escaped (joined (take i names)) ++ escaped (get_or names i d)
unfolding escaped
joined_take [] i d lt = absurd (omega arith)
joined_take (x ∷ xs) zero d lt = rw append-nil refl
joined_take (x ∷ xs) (suc i) d lt =
    let below : i < length xs = omega arith in
    let later : escaped (joined (take (i + 1) xs)) ≡ escaped (joined (take i xs)) ++ escaped (get_or xs i d) = joined_take xs i d below in
    let next : take (suc i + 1) (x ∷ xs) ≡ x ∷ take (i + 1) xs = rw (add-one, add-one) refl in
    let left : escaped (joined (take (suc i + 1) (x ∷ xs))) ≡ escaped x ++ escaped (joined (take (i + 1) xs)) = rw next (escaped_append x (joined (take (i + 1) xs))) in
    let right : escaped (joined (take (suc i) (x ∷ xs))) ≡ escaped x ++ escaped (joined (take i xs)) = escaped_append x (joined (take i xs)) in
    left ∙ ap (λ (t : List ℕ). escaped x ++ t) later ∙ sym (append_assoc (escaped x) (escaped (joined (take i xs))) (escaped (get_or xs i d))) ∙ ap (λ (t : List ℕ). t ++ escaped (get_or xs i d)) (sym right)

-- one turn of a loop over types
pub types_go_on : (old text new : List ℕ) (names : List Name) (i : ℕ) (item : Name) → i < length names → item ≡ get_or names i item
    → text ≡ old ++ escaped (joined (take i names)) → new ≡ text ++ escaped item → new ≡ old ++ escaped (joined (take (i + 1) names))
types_go_on old text new names i item lt is so_far added =
    let one : escaped (joined (take (i + 1) names)) ≡ escaped (joined (take i names)) ++ escaped (get_or names i item) = joined_take names i item lt in
    rw (one, ← is, ← append_assoc, ← so_far) added

-- the parts of a descriptor, one behind the other
pub descriptor_parts : (old a b c d : List ℕ) (proto : Proto) → a ≡ old ++ escaped (codes "(") → b ≡ a ++ escaped (joined proto.params) → c ≡ b ++ escaped (codes ")") → d ≡ c ++ escaped proto.ret
    → d ≡ old ++ escaped (descriptor_of proto)
unfolding descriptor_of
descriptor_parts old a b c d proto first second third fourth =
    let parts : escaped (codes "(" ++ joined proto.params ++ codes ")" ++ proto.ret) ≡ ((escaped (codes "(") ++ escaped (joined proto.params)) ++ escaped (codes ")")) ++ escaped proto.ret
    = escaped_append (codes "(" ++ joined proto.params ++ codes ")") proto.ret ∙ ap (λ (t : List ℕ). t ++ escaped proto.ret) (escaped_append (codes "(" ++ joined proto.params) (codes ")") ∙ ap (λ (t : List ℕ). t ++ escaped (codes ")")) (escaped_append (codes "(") (joined proto.params))) in
    rw (parts, fourth, third, second, first) (simp append_assoc)

-- What bytes may choose.
use Rattle.std.proofs.Common.{◌≡◌, ℕ, List, length, Option, Some, None, slice_get, refl, sym, ap}
use Rattle.std.proofs.lemmas.Option.{none-some, same_Some}
use Rattle.vet_base.specs.Members.{In}
use Rattle.vet_base.proofs.Members.{in_slice_get}
use Rattle.played_machine.specs.Drawing.{Drawing, give, continue, ◌>>=◌, draw, given, one_of, Draws}

pub gave : {A : Type 0} (x y : A) → Draws (give x) y → y ≡ x
gave {A} x y d = sym (ap (λ (p : A × List ℕ). p.0) (same_Some (x, d.bytes) (y, d.rest) d.drawn))

was_given : {A : Type 0} (o : Option A) (x : A) → Draws (given o) x → o ≡ Some x
was_given None x d = absurd (none-some (x, d.rest) d.drawn)
was_given {A} (Some y) x d = ap (λ (p : A × List ℕ). Some p.0) (same_Some (y, d.bytes) (x, d.rest) d.drawn)

-- the value that was chosen first, and what followed from it
pub record Followed {A B : Type 0} (first : Drawing A) (next : A → Drawing B) (y : B) : Type 0 where
  pub by : A
  pub drawn : Draws first by
  pub after : Draws (next by) y

pub followed : {A B : Type 0} (first : Drawing A) (next : A → Drawing B) (y : B) → Draws (first >>= next) y → Followed first next y
followed {A} {B} first next y d = by_first (first d.bytes) refl d.drawn
  where
    by_first : (o : Option (A × List ℕ)) → first d.bytes ≡ o → continue next o ≡ Some (y, d.rest) → Followed first next y
    by_first None e is = absurd (none-some (y, d.rest) is)
    by_first (Some p) e is = record { by = p.0; drawn = record { bytes = d.bytes; rest = p.1; drawn = e }; after = record { bytes = p.1; rest = d.rest; drawn = is } }

pub one_drawn : {A : Type 0} (xs : List A) (x : A) → Draws (one_of xs) x → In x xs
unfolding one_of
one_drawn xs x d =
    let h = followed (draw (length xs)) (λ i. given (slice_get xs i)) x d in
    in_slice_get xs h.by x (was_given (slice_get xs h.by) x h.after)

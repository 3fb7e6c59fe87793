-- A loop that makes methods, each with at most 65,535 registers.
use Rattle.std.proofs.Common.{◌≡◌, ℕ, ◌+◌, ◌<◌, ◌≤◌, List, [], ◌∷◌, ◌++◌, map, take, length, get_or, sym, ap, ◌∙◌, subst, inl, inr}
use Rattle.app_machine.specs.declared.method.Method.{Method}
use Rattle.link_code.specs.Methods.{Narrow}
use Rattle.vet_base.proofs.Lists.{map_more_read}
use Rattle.vet_base.proofs.Members.{in_either}

pub narrow_begins : Narrow []
narrow_begins = record { each = λ m k. absurd k }

one_narrow : (ms : List Method) (m : Method) → m.registers ≤ 65535 → Narrow ms → Narrow (ms ++ m ∷ [])
one_narrow ms m few all = record {
  each = λ x k. elim (in_either x ms (m ∷ []) k) [
    | inl j ↦ all.each x j
    | inr j ↦ elim j [ inl e ↦ subst (λ (y : Method). y.registers ≤ 65535) (sym e) few | inr i ↦ absurd i ]
  ];
}

pub narrow_goes_on : (ms more : List Method) (m : Method) → more ≡ ms ++ m ∷ [] → m.registers ≤ 65535 → Narrow ms → Narrow more
narrow_goes_on ms more m is few all = subst Narrow (sym is) (one_narrow ms m few all)

-- what is made of the elements so far, and of one more
pub mapped_goes_on : {A B : Type 0} (f : A → B) (xs : List A) (i : ℕ) (x : A) (so_far more : List B) (y : B) → i < length xs → x ≡ get_or xs i x → more ≡ so_far ++ y ∷ [] → y ≡ f x → so_far ≡ map f (take i xs) → more ≡ map f (take (i + 1) xs)
mapped_goes_on {B = B} f xs i x so_far more y lt item is made kept =
    is ∙ (ap (λ (z : B). so_far ++ z ∷ []) made ∙ (ap (λ (zs : List B). zs ++ f x ∷ []) kept ∙ sym (map_more_read f xs i x lt item)))

-- The package of a class, by the place of the last `/`.
use Rattle.std.proofs.Common.{◌≡◌, ℕ, zero, suc, ◌+◌, ◌-◌, ◌<◌, ◌≤◌, ◌≢◌, ◌||◌, Bool, true, false, List, [], ◌∷◌, length, take, drop, get_or, refl, sym, ◌∙◌, ap, cond, arith, subst, eq-eqb, ne_eqb}
use Rattle.std.specs.Prelude.{◌==◌}
use Rattle.std.specs.List.{list_any}
use Rattle.std.proofs.lemmas.Bool.{or_right}
use Rattle.std.proofs.lemmas.List.{drop_all}
use Rattle.vet_base.proofs.Members.{passes_if, in_get_or}
use Rattle.device_causes.specs.Hidden.{is_slash, package_of}

-- where no byte is a slash, there is no package
no_package : (bytes : List ℕ) → list_any is_slash bytes ≡ false → package_of bytes ≡ []
unfolding package_of
no_package [] none = refl
no_package (byte ∷ bytes) none = ap (λ b. cond b (byte ∷ package_of bytes) []) none

package_at : (bytes : List ℕ) (i : ℕ) → i < length bytes → get_or bytes i 0 ≡ 47 → list_any is_slash (drop (suc i) bytes) ≡ false → package_of bytes ≡ take (suc i) bytes
unfolding package_of
package_at [] i within slash none = absurd (omega (arith, within))
package_at (byte ∷ bytes) zero within slash none =
    let has : list_any is_slash (byte ∷ bytes) ≡ true = ap (λ b. b || list_any is_slash bytes) (eq-eqb byte 47 slash) in
    ap (λ b. cond b (byte ∷ package_of bytes) []) has ∙ ap (λ bs. byte ∷ bs) (no_package bytes none)
package_at (byte ∷ bytes) (suc i) within slash none =
    let less : i < length bytes = omega (arith, within) in
    let later : list_any is_slash bytes ≡ true = passes_if is_slash bytes (get_or bytes i 0) (in_get_or bytes i 0 less) (eq-eqb (get_or bytes i 0) 47 slash) in
    let has : list_any is_slash (byte ∷ bytes) ≡ true = or_right (is_slash byte) (list_any is_slash bytes) later in
    ap (λ b. cond b (byte ∷ package_of bytes) []) has ∙ ap (λ bs. byte ∷ bs) (package_at bytes i less slash none)

any_from : (bytes : List ℕ) (i : ℕ) → i < length bytes → list_any is_slash (drop i bytes) ≡ (is_slash (get_or bytes i 0) || list_any is_slash (drop (suc i) bytes))
any_from [] i within = absurd (omega (arith, within))
any_from (byte ∷ bytes) zero within = refl
any_from (byte ∷ bytes) (suc i) within = any_from bytes i (omega (arith, within))

-- no byte from there on is a slash
pub record NoneFrom (bytes : List ℕ) (end : ℕ) : Type 0 where
  pub within : end ≤ length bytes
  pub none : list_any is_slash (drop end bytes) ≡ false

pub none_begins : (bytes : List ℕ) (end : ℕ) → end ≡ length bytes → NoneFrom bytes end
none_begins bytes end is = record { within = omega (arith, is); none = ap (list_any is_slash) (drop_all end bytes (omega (arith, is))) }

module _ (bytes : List ℕ) (end : ℕ) (some : 0 < end) (so_far : NoneFrom bytes end) where
  next : suc (end - 1) ≡ end
  next = omega (arith, some)

  there : end - 1 < length bytes
  there = omega (arith, some, so_far.within)

  pub none_on : get_or bytes (end - 1) 0 ≢ 47 → NoneFrom bytes (end - 1)
  none_on other =
      let here : is_slash (get_or bytes (end - 1) 0) ≡ false = ne_eqb (get_or bytes (end - 1) 0) 47 other in
      record {
        within = omega (arith, so_far.within);
        none = any_from bytes (end - 1) there ∙ ap (λ b. b || list_any is_slash (drop (suc (end - 1)) bytes)) here ∙ ap (λ n. list_any is_slash (drop n bytes)) next ∙ so_far.none;
      }

  pub none_found : get_or bytes (end - 1) 0 ≡ 47 → take end bytes ≡ package_of bytes
  none_found slash =
      subst (λ (n : ℕ). take n bytes ≡ package_of bytes) next
      (sym (package_at bytes (end - 1) there slash (ap (λ n. list_any is_slash (drop n bytes)) next ∙ so_far.none)))

pub none_done : (bytes : List ℕ) (end : ℕ) → end ≤ 0 → NoneFrom bytes end → take 0 bytes ≡ package_of bytes
none_done bytes end over so_far =
    let none : end ≡ 0 = omega (arith, over) in
    sym (no_package bytes (ap (λ n. list_any is_slash (drop n bytes)) (sym none) ∙ so_far.none))

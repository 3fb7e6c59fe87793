-- The laws of paths.
use Rattle.std.proofs.Common.{◌⊎◌, inr, refl, sym, ap, ◌∙◌, subst, eq-eqb, true≢false}
use Rattle.std.specs.Prelude.{◌≡◌, MatchBool, if◌then◌else◌, Bool, true, false, List, [], ◌∷◌, Some, None, drop, nat_eq}
use Rattle.std.specs.List.{slice_index_or}
use Rattle.std.proofs.lemmas.Option.{none-some, same_Some}
use Rattle.vet_base.specs.declared.key_id.KeyId.{KeyId}
use Rattle.vet_base.specs.Members.{In}
use Rattle.vet_base.proofs.Members.{in_front}
use Rattle.access_path.specs.declared.keys.Keys.{Keys}
use Rattle.access_path.specs.declared.keys.Keys.TheVariants.{Zero, One, Two, Three, Four, Five}
use Rattle.access_path.specs.declared.path.Path.{Path}
use Rattle.access_path.specs.Keys.{keys_in, first_keys, first_and_rest, Begins}
use Rattle.access_path.specs.Paths.{Covers, keys_of, cut, rest, empty_path}
use Rattle.access_path.specs.Laws.{PathLaws}

-- a list begins with itself
begins_itself : (ks : List KeyId) → Begins ks ks
begins_itself [] = tt
begins_itself (k ∷ ks) = (refl, begins_itself ks)

-- and with all but the last of what it begins with
but_last : (a b c d e : KeyId) (ks : List KeyId) → Begins (a ∷ b ∷ c ∷ d ∷ e ∷ []) ks → Begins (a ∷ b ∷ c ∷ d ∷ []) ks
but_last a b c d e [] h = absurd h
but_last a b c d e (k ∷ []) h = absurd h.1
but_last a b c d e (k ∷ l ∷ []) h = absurd h.1.1
but_last a b c d e (k ∷ l ∷ m ∷ []) h = absurd h.1.1.1
but_last a b c d e (k ∷ l ∷ m ∷ n ∷ ks) h = (h.0, (h.1.0, (h.1.1.0, (h.1.1.1.0, tt))))

cut-covers : (k : KeyId) (p : Path) (ks : List KeyId) → Covers p ks → Covers (cut k p) (k ∷ ks)
unfolding Covers cut
cut-covers k p ks h = go p.is_open p.keys h
  where
    go : (is_open : Bool) (keys : Keys) → Covers (record { is_open = is_open; keys = keys }) ks
        → Covers (cut k (record { is_open = is_open; keys = keys })) (k ∷ ks)
    go true Zero h = (refl, h)
    go true (One a) h = (refl, h)
    go true (Two a b) h = (refl, h)
    go true (Three a b c) h = (refl, h)
    go true (Four a b c d) h = (refl, h)
    go true (Five a b c d e) h = (refl, but_last a b c d e ks h)
    go false (Five a b c d e) h = let all = a ∷ b ∷ c ∷ d ∷ e ∷ [] in (refl, but_last a b c d e ks (subst (λ x. Begins all x) h (begins_itself all)))
    go false Zero h = ap (λ x. k ∷ x) h
    go false (One a) h = ap (λ x. k ∷ x) h
    go false (Two a b) h = ap (λ x. k ∷ x) h
    go false (Three a b c) h = ap (λ x. k ∷ x) h
    go false (Four a b c d) h = ap (λ x. k ∷ x) h

-- behind a first key: that key is the first of what is covered, and the others cover the rest
behind_first : (is_open : Bool) (a k : KeyId) (more ks : List KeyId)
    → MatchBool is_open (Begins (a ∷ more) (k ∷ ks)) (a ∷ more ≡ k ∷ ks)
    → (a.0 ≡ k.0) × MatchBool is_open (Begins more ks) (more ≡ ks)
behind_first true a k more ks h = (ap (λ (x : KeyId). x.0) h.0, h.1)
behind_first false a k more ks h = (ap (λ (l : List KeyId). (slice_index_or l 0 a).0) h, ap (drop 1) h)

has_keys : List KeyId → Bool
has_keys [] = false
has_keys (k ∷ ks) = true

rest-covers : (k : KeyId) (p : Path) (ks : List KeyId) → Covers p (k ∷ ks) → (q : Path) × (rest p k ≡ Some q) × Covers q ks
unfolding Covers rest has_keys
rest-covers k p ks h = go p.is_open p.keys h
  where
    left : (a : KeyId) (q : Path) → a.0 ≡ k.0 → (if nat_eq a.0 k.0 then Some q else None) ≡ Some q
    left a q same = ap (λ (b : Bool). if b then Some q else None) (eq-eqb a.0 k.0 same)

    go : (is_open : Bool) (keys : Keys) → Covers (record { is_open = is_open; keys = keys }) (k ∷ ks)
        → (q : Path) × (rest (record { is_open = is_open; keys = keys }) k ≡ Some q) × Covers q ks
    go true Zero h = (record { is_open = true; keys = Zero }, refl, tt)
    go false Zero h = absurd (true≢false (sym (ap has_keys h)))
    go o (One a) h = let w = behind_first o a k [] ks h in let q : Path = record { is_open = o; keys = Zero } in (q, left a q w.0, w.1)
    go o (Two a b) h = let w = behind_first o a k (b ∷ []) ks h in let q : Path = record { is_open = o; keys = One b } in (q, left a q w.0, w.1)
    go o (Three a b c) h = let w = behind_first o a k (b ∷ c ∷ []) ks h in let q : Path = record { is_open = o; keys = Two b c } in (q, left a q w.0, w.1)
    go o (Four a b c d) h = let w = behind_first o a k (b ∷ c ∷ d ∷ []) ks h in let q : Path = record { is_open = o; keys = Three b c d } in (q, left a q w.0, w.1)
    go o (Five a b c d e) h = let w = behind_first o a k (b ∷ c ∷ d ∷ e ∷ []) ks h in let q : Path = record { is_open = o; keys = Four b c d e } in (q, left a q w.0, w.1)

empty-covers : Covers empty_path []
unfolding Covers
empty-covers = refl

-- what covers no keys has no keys
covers-empty : (p : Path) → Covers p [] → keys_of p ≡ []
unfolding Covers
covers-empty p h = go p.is_open (keys_of p) h
  where
    go : (is_open : Bool) (ks : List KeyId) → MatchBool is_open (Begins ks []) (ks ≡ []) → ks ≡ []
    go true [] h = refl
    go true (k ∷ ks) h = absurd h
    go false ks h = h

-- the first keys of a list are of the list
first_keys_in : (ks : List KeyId) (j : KeyId) → In j (keys_in (first_keys ks)) → In j ks
first_keys_in [] j h = h
first_keys_in (a ∷ []) j h = h
first_keys_in (a ∷ b ∷ []) j h = h
first_keys_in (a ∷ b ∷ c ∷ []) j h = h
first_keys_in (a ∷ b ∷ c ∷ d ∷ []) j h = h
first_keys_in (a ∷ b ∷ c ∷ d ∷ e ∷ more) j h = in_front j (a ∷ b ∷ c ∷ d ∷ e ∷ []) more h

keys-cut : (k j : KeyId) (p : Path) → In j (keys_of (cut k p)) → (j ≡ k) ⊎ In j (keys_of p)
unfolding cut
keys-cut k j p h = first_keys_in (k ∷ keys_of p) j h

keys-rest : (k j : KeyId) (p q : Path) → rest p k ≡ Some q → In j (keys_of q) → In j (keys_of p)
unfolding rest
keys-rest k j p q e h = go (keys_of p) refl e
  where
    left : Keys → Path
    left keys = record { is_open = p.is_open; keys = keys }

    go : (ks : List KeyId) → keys_of p ≡ ks
        → (elim (first_and_rest ks) [ None ↦ if p.is_open then Some p else None | Some f ↦ if nat_eq f.0.0 k.0 then Some (left f.1) else None ]) ≡ Some q
        → In j ks
    go [] is e = by_tail p.is_open e
      where
        by_tail : (b : Bool) → (if b then Some p else None) ≡ Some q → In j []
        by_tail true e = subst (λ ks. In j ks) (ap (λ x. keys_of x) (sym (same_Some p q e)) ∙ is) h
        by_tail false e = absurd (none-some q e)
    go (a ∷ more) is e = by_key (nat_eq a.0 k.0) e
      where
        by_key : (b : Bool) → (if b then Some (left (first_keys more)) else None) ≡ Some q → In j (a ∷ more)
        by_key true e = inr (first_keys_in more j (subst (λ x. In j (keys_of x)) (sym (same_Some (left (first_keys more)) q e)) h))
        by_key false e = absurd (none-some q e)

pub path_laws : PathLaws
path_laws = record {
  keys_of_cut = keys-cut;
  keys_of_rest = keys-rest;
  cut = cut-covers;
  rest = rest-covers;
  empty = empty-covers;
  without_keys = covers-empty;
}

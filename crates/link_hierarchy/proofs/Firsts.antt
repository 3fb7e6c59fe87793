-- Names of which each is kept where it first comes.
use Rattle.std.proofs.Common.{◌≡◌, ◌+◌, Bool, true, false, cond, List, [], ◌∷◌, ◌++◌, append_assoc, length, length-append, refl, sym, ◌∙◌, ap, subst, ◌⊎◌, inl, inr, arith}
use Rattle.std.proofs.Math.Bool.{or-false}
use Rattle.std.specs.Prelude.{fold, not, ◌||◌}
use Rattle.std.specs.BTreeMap.{is_at}
use Rattle.std.proofs.lemmas.List.{append-nil}
use Rattle.std.proofs.lemmas.List.Folds.{list_any-append}
use Rattle.vet_base.specs.Members.{In}
use Rattle.app_machine.specs.Names.{Name}
use Rattle.app_machine.specs.Sound.{name_order}
use Rattle.link_hierarchy.specs.Hierarchy.{SameNames, add_once, is_among, firsts}
use Rattle.link_listing.proofs.Lookups.{at_itself}
use Rattle.std.proofs.lemmas.List.Sums.{fold-append}
use Rattle.std.proofs.lemmas.Bool.{cond-true, cond-false, cases_Bool}
use Rattle.vet_base.proofs.Texts.{tied_equal}
use Rattle.vet_base.proofs.Members.{in_either, passes_if}
use Rattle.vet_base.specs.Apart.{Apart}

pub at_either : (a b : Name) → is_at (name_order a) b ≡ is_at (name_order b) a
at_either a b = elim (cases_Bool (is_at (name_order a) b)) [
  | inl same ↦ (let e : a ≡ b = tied_equal a b same in same ∙ sym (subst (λ (n : Name). is_at (name_order b) n ≡ true) (sym e) (at_itself b)))
  | inr other ↦ elim (cases_Bool (is_at (name_order b) a)) [
    | inl same ↦ (let e : b ≡ a = tied_equal b a same in let k : is_at (name_order a) b ≡ true = subst (λ (n : Name). is_at (name_order a) n ≡ true) (sym e) (at_itself a) in absurd cc)
    | inr apart ↦ other ∙ sym apart
  ]
]

pub was_there : (there new : Bool) → new ≡ not there → new ≡ false → there ≡ true
was_there true new e h = refl
was_there false new e h = absurd cc

pub none_same : SameNames [] []
none_same = record { each = λ q. refl }

module _ (seen seen_then names : List Name) (name : Name) (same : SameNames seen names) (adds : (q : Name) → is_among seen_then q ≡ cond (is_at (name_order name) q) true (is_among seen q)) where
  in_end : (q : Name) → is_among (names ++ name ∷ []) q ≡ (is_among names q || is_at (name_order q) name)
  in_end q = list_any-append (is_at (name_order q)) names (name ∷ []) ∙ ap (λ b. is_among names q || b) (or-false (is_at (name_order q) name))

  either_way : (a b : Bool) → cond a true b ≡ (b || a)
  either_way true true = refl
  either_way true false = refl
  either_way false true = refl
  either_way false false = refl

  -- a new name is put behind
  pub same_with : SameNames seen_then (names ++ name ∷ [])
  same_with = record { each = λ q. adds q ∙ (either_way (is_at (name_order name) q) (is_among seen q) ∙ (ap (λ b. b || is_at (name_order name) q) (same.each q) ∙ (ap (λ b. is_among names q || b) (at_either name q) ∙ sym (in_end q)))) }

  -- one that was there already is not
  pub same_without : is_among seen name ≡ true → SameNames seen_then names
  same_without old = record { each = λ q. adds q ∙ (kept q ∙ same.each q) }
    where
      kept : (q : Name) → cond (is_at (name_order name) q) true (is_among seen q) ≡ is_among seen q
      kept q = elim (cases_Bool (is_at (name_order name) q)) [
        | inl here ↦ cond-true (is_at (name_order name) q) true (is_among seen q) here ∙ sym (subst (λ (n : Name). is_among seen n ≡ true) (tied_equal name q here) old)
        | inr other ↦ cond-false (is_at (name_order name) q) true (is_among seen q) other
      ]

pub adds_new : (seen names : List Name) (name : Name) → SameNames seen names → is_among seen name ≡ false → names ++ name ∷ [] ≡ add_once names name
adds_new seen names name same fresh = sym (cond-false (is_among names name) names (names ++ name ∷ []) (sym (same.each name) ∙ fresh))

pub adds_none : (seen names : List Name) (name : Name) → SameNames seen names → is_among seen name ≡ true → names ≡ add_once names name
adds_none seen names name same old = sym (cond-true (is_among names name) names (names ++ name ∷ []) (sym (same.each name) ∙ old))

pub firsts_joined : (xs ys : List Name) → firsts (xs ++ ys) ≡ fold add_once (firsts xs) ys
unfolding firsts
firsts_joined xs ys = fold-append add_once [] xs ys

-- the second list begins with the first one
pub record Begins (xs ys : List Name) : Type 0 where
  pub rest : List Name
  pub is : ys ≡ xs ++ rest

pub begins_itself : (xs : List Name) → Begins xs xs
begins_itself xs = record { rest = []; is = sym (append-nil xs) }

pub begins_on : (xs ys zs : List Name) → Begins xs ys → Begins ys zs → Begins xs zs
begins_on xs ys zs a b = record { rest = a.rest ++ b.rest; is = b.is ∙ (ap (λ (ns : List Name). ns ++ b.rest) a.is ∙ append_assoc xs a.rest b.rest) }

-- two lists of which each begins with the other are the same
pub begins_both : (xs ys : List Name) → Begins xs ys → Begins ys xs → xs ≡ ys
begins_both xs ys a b =
    let one : length ys ≡ length xs + length a.rest = ap length a.is ∙ length-append xs a.rest in
    let two : length xs ≡ length ys + length b.rest = ap length b.is ∙ length-append ys b.rest in
    let none : length a.rest ≡ 0 = omega (arith, one, two) in
    sym (a.is ∙ (ap (λ (ns : List Name). xs ++ ns) (nothing a.rest none) ∙ append-nil xs))
  where
    nothing : (ns : List Name) → length ns ≡ 0 → ns ≡ []
    nothing [] none = refl
    nothing (n ∷ ns) none = absurd (omega (arith, none))

once_begins : (names : List Name) (name : Name) → Begins names (add_once names name)
once_begins names name = elim (cases_Bool (is_among names name)) [
  | inl old ↦ subst (λ (ns : List Name). Begins names ns) (sym (cond-true (is_among names name) names (names ++ name ∷ []) old)) (begins_itself names)
  | inr fresh ↦ record { rest = name ∷ []; is = cond-false (is_among names name) names (names ++ name ∷ []) fresh }
]

-- more names stand behind those that were there
pub adding_begins : (value names : List Name) → Begins value (fold add_once value names)
adding_begins value [] = begins_itself value
adding_begins value (name ∷ names) = begins_on value (add_once value name) (fold add_once (add_once value name) names) (once_begins value name) (adding_begins (add_once value name) names)

pub firsts_begin : (xs ys : List Name) → Begins xs ys → Begins (firsts xs) (firsts ys)
firsts_begin xs ys begins = subst (λ (ns : List Name). Begins (firsts xs) ns) (sym (ap firsts begins.is ∙ firsts_joined xs begins.rest)) (adding_begins (firsts xs) begins.rest)

end_apart : (names : List Name) (name : Name) → Apart names → (In name names → ⊥) → Apart (names ++ name ∷ [])
end_apart [] name apart new = (λ k. k, tt)
end_apart (n ∷ ns) name apart new = (λ k. elim (in_either n ns (name ∷ []) k) [ inl j ↦ apart.0 j | inr (inl e) ↦ new (inl (sym e)) | inr (inr j) ↦ j ], end_apart ns name apart.1 (λ k. new (inr k)))

once_apart : (names : List Name) (name : Name) → Apart names → Apart (add_once names name)
once_apart names name apart = elim (cases_Bool (is_among names name)) [
  | inl old ↦ subst (λ (ns : List Name). Apart ns) (sym (cond-true (is_among names name) names (names ++ name ∷ []) old)) apart
  | inr fresh ↦ subst (λ (ns : List Name). Apart ns) (sym (cond-false (is_among names name) names (names ++ name ∷ []) fresh)) (end_apart names name apart (λ k. is_there fresh (passes_if (is_at (name_order name)) names name k (at_itself name))))
]
  where
    is_there : is_among names name ≡ false → is_among names name ≡ true → ⊥
    is_there new there = absurd cc

adding_apart : (value names : List Name) → Apart value → Apart (fold add_once value names)
adding_apart value [] apart = apart
adding_apart value (name ∷ names) apart = adding_apart (add_once value name) names (once_apart value name apart)

-- none comes twice
pub firsts_apart : (names : List Name) → Apart (firsts names)
unfolding firsts
firsts_apart names = adding_apart [] names tt

in_once : (names : List Name) (name x : Name) → In x (add_once names name) → In x names ⊎ (x ≡ name)
in_once names name x k = elim (cases_Bool (is_among names name)) [
  | inl old ↦ inl (subst (λ (ns : List Name). In x ns) (cond-true (is_among names name) names (names ++ name ∷ []) old) k)
  | inr fresh ↦ elim (in_either x names (name ∷ []) (subst (λ (ns : List Name). In x ns) (cond-false (is_among names name) names (names ++ name ∷ []) fresh) k)) [
    | inl j ↦ inl j
    | inr (inl e) ↦ inr e
    | inr (inr j) ↦ absurd j
  ]
]

in_adding : (value names : List Name) (x : Name) → In x (fold add_once value names) → In x value ⊎ In x names
in_adding value [] x k = inl k
in_adding value (name ∷ names) x k = elim (in_adding (add_once value name) names x k) [
  | inl j ↦ elim (in_once value name x j) [ inl i ↦ inl i | inr e ↦ inr (inl e) ]
  | inr j ↦ inr (inr j)
]

-- none is new
pub in_firsts : (names : List Name) (x : Name) → In x (firsts names) → In x names
unfolding firsts
in_firsts names x k = elim (in_adding [] names x k) [ inl j ↦ absurd j | inr j ↦ j ]

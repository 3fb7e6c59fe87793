-- What is known of the methods of a path, as methods come and go.
use Rattle.std.proofs.Common.{◌≡◌, ℕ, ◌+◌, ◌<◌, ◌≤◌, Bool, true, false, ◌&&◌, ◌||◌, not, cond, List, [], ◌∷◌, ◌++◌, length, take, get_or, Option, Some, refl, sym, ◌∙◌, ap, subst}
use Rattle.std.specs.BTreeMap.{is_at}
use Rattle.std.specs.Ordering.{is_eq}
use Rattle.std.specs.Cmp.Lexicographic.{texts_ties}
use Rattle.std.proofs.lemmas.Bool.{and_parts}
use Rattle.std.proofs.lemmas.List.{take_more, take_all, nil_from_length}
use Rattle.app_machine.specs.Names.{Name, same_name}
use Rattle.app_machine.specs.Sound.{name_order}
use Rattle.link_access.specs.declared.access.MethodAccess.{MethodAccess}
use Rattle.vet_base.proofs.Orders.{is_eq-then}
use Rattle.vet_base.proofs.Texts.{same_equal}
use Rattle.device_causes.specs.declared.seen.Seen.{Seen}
use Rattle.device_causes.specs.Hidden.{same_signature, does_not_override, hides, any_hides}
use Rattle.device_causes.specs.Seen.{maybe_hides, begun, with_method}
use Rattle.device_causes.specs.Path.{Signature, signature_order, signature_of, Known, known_hides, with_known, taken_back, Entered}
use Rattle.device_causes.proofs.MoreSeen.{more_seen}

at_ties : (k q : Signature) → is_at (signature_order k) q ≡ (same_name k.0 q.0 && same_name k.1 q.1)
at_ties k q =
    is_eq-then (name_order k.0 q.0) (name_order k.1 q.1)
    ∙ ap (λ (b : Bool). b && is_eq (name_order k.1 q.1)) (sym (texts_ties k.0 q.0)) ∙ ap (λ (b : Bool). same_name k.0 q.0 && b) (sym (texts_ties k.1 q.1))

at_same : (k q : Signature) → is_at (signature_order k) q ≡ true → k ≡ q
at_same k q holds =
    let parts = and_parts (same_name k.0 q.0) (same_name k.1 q.1) (sym (at_ties k q) ∙ holds) in
    let first : k.0 ≡ q.0 = same_equal k.0 q.0 parts.0 in
    let second : k.1 ≡ q.1 = same_equal k.1 q.1 parts.1 in
    λ i. (first i, second i)

-- what is taken back depends on what is known under each signature alone
pub back_alike : (undo : List (Signature × Option Seen)) (one other : Known) → ((q : Signature) → one q ≡ other q) → (q : Signature) → taken_back undo one q ≡ taken_back undo other q
back_alike [] one other alike q = alike q
back_alike (e ∷ undo) one other alike q = ap (λ o. cond (is_at (signature_order e.0) q) e.1 o) (back_alike undo one other alike q)

-- the last change is taken back first
pub back_last : (undo : List (Signature × Option Seen)) (e : Signature × Option Seen) (known : Known) → taken_back (undo ++ e ∷ []) known ≡ taken_back undo (with_known e.0 e.1 known)
back_last [] e known = refl
back_last (x ∷ undo) e known = ap (with_known x.0 x.1) (back_last undo e known)

pub hides_alike : (one other : Known) → ((q : Signature) → one q ≡ other q) → (c : Name) (m : MethodAccess) → known_hides one c m ≡ known_hides other c m
hides_alike one other alike c m = ap (λ o. maybe_hides o c m) (alike (signature_of m))

-- a method more of the class
any_more : (c : Name) (m : MethodAccess) (class : Name) (methods : List MethodAccess) (s : MethodAccess) → any_hides c m class (methods ++ s ∷ []) ≡ (any_hides c m class methods || hides c m class s)
unfolding any_hides
any_more c m class [] s = or_nothing (hides c m class s)
  where
    or_nothing : (b : Bool) → (b || false) ≡ b
    or_nothing true = refl
    or_nothing false = refl
any_more c m class (x ∷ methods) s = ap (λ b. hides c m class x || b) (any_more c m class methods s) ∙ turned (hides c m class x) (any_hides c m class methods) (hides c m class s)
  where
    turned : (a b c : Bool) → (a || (b || c)) ≡ ((a || b) || c)
    turned true b c = refl
    turned false b c = refl

private_hides : (c : Name) (m : MethodAccess) (class : Name) (s : MethodAccess) → s.is_private ≡ true → hides c m class s ≡ false
unfolding hides
private_hides c m class s hidden = ap (λ b. same_signature s m && (not b && does_not_override c m class s)) hidden ∙ none (same_signature s m)
  where
    none : (b : Bool) → (b && false) ≡ false
    none true = refl
    none false = refl

module _ (class : Name) (methods : List MethodAccess) (s : MethodAccess) (start before after : Known) (undo : List (Signature × Option Seen)) (so_far : Entered class methods start before undo) where
  shuffled : (h a o : Bool) → (h || (a || o)) ≡ ((a || h) || o)
  shuffled true true o = refl
  shuffled true false o = refl
  shuffled false true o = refl
  shuffled false false o = refl

  more : (c : Name) (m : MethodAccess) → known_hides after c m ≡ (hides c m class s || known_hides before c m) → known_hides after c m ≡ (any_hides c m class (methods ++ s ∷ []) || known_hides start c m)
  more c m one =
      one ∙ ap (λ b. hides c m class s || b) (so_far.tells c m) ∙ shuffled (hides c m class s) (any_hides c m class methods) (known_hides start c m)
      ∙ ap (λ b. b || known_hides start c m) (sym (any_more c m class methods s))

  module _ (was : Option Seen) (is_was : was ≡ before (signature_of s)) (seen : s.is_private ≡ false)
      (is : (q : Signature) → after q ≡ cond (is_at (signature_order (signature_of s)) q) (Some (with_method (begun was) class s)) (before q)) where
    same_as : (q : Signature) → with_known (signature_of s) was after q ≡ before q
    same_as q = by_test (is_at (signature_order (signature_of s)) q) refl
      where
        by_test : (b : Bool) → is_at (signature_order (signature_of s)) q ≡ b → cond (is_at (signature_order (signature_of s)) q) was (after q) ≡ before q
        by_test true at = ap (λ b. cond b was (after q)) at ∙ is_was ∙ ap before (at_same (signature_of s) q at)
        by_test false other = ap (λ b. cond b was (after q)) other ∙ is q ∙ ap (λ b. cond b (Some (with_method (begun was) class s)) (before q)) other

    one_more : (c : Name) (m : MethodAccess) → known_hides after c m ≡ (hides c m class s || known_hides before c m)
    unfolding hides
    one_more c m = by_test (is_at (signature_order (signature_of s)) (signature_of m)) refl
      where
        by_test : (b : Bool) → is_at (signature_order (signature_of s)) (signature_of m) ≡ b
            → known_hides after c m ≡ ((same_signature s m && (not s.is_private && does_not_override c m class s)) || known_hides before c m)
        by_test true at =
            let new : after (signature_of m) ≡ Some (with_method (begun was) class s) = is (signature_of m) ∙ ap (λ b. cond b (Some (with_method (begun was) class s)) (before (signature_of m))) at in
            let old : was ≡ before (signature_of m) = is_was ∙ ap before (at_same (signature_of s) (signature_of m) at) in
            let same : same_signature s m ≡ true = sym (at_ties (signature_of s) (signature_of m)) ∙ at in
            ap (λ o. maybe_hides o c m) new ∙ more_seen was c m class s ∙ ap (λ o. does_not_override c m class s || maybe_hides o c m) old
            ∙ sym (ap (λ b. (b && (not s.is_private && does_not_override c m class s)) || known_hides before c m) same
            ∙ ap (λ b. (true && (not b && does_not_override c m class s)) || known_hides before c m) seen)
        by_test false other =
            let new : after (signature_of m) ≡ before (signature_of m) = is (signature_of m) ∙ ap (λ b. cond b (Some (with_method (begun was) class s)) (before (signature_of m))) other in
            let differs : same_signature s m ≡ false = sym (at_ties (signature_of s) (signature_of m)) ∙ other in
            ap (λ o. maybe_hides o c m) new
            ∙ sym (ap (λ b. (b && (not s.is_private && does_not_override c m class s)) || known_hides before c m) differs)

    pub enter_seen : Entered class (methods ++ s ∷ []) start after (undo ++ (signature_of s, was) ∷ [])
    enter_seen = record {
      back = λ q. ap (λ (k : Known). k q) (back_last undo (signature_of s, was) after) ∙ back_alike undo (with_known (signature_of s) was after) before same_as q ∙ so_far.back q;
      tells = λ c m. more c m (one_more c m);
    }

-- a private one changes nothing
pub enter_private : (class : Name) (s : MethodAccess) (known : Known) (undo : List (Signature × Option Seen)) → s.is_private ≡ true
    → (methods : List MethodAccess) (start : Known) → Entered class methods start known undo → Entered class (methods ++ s ∷ []) start known undo
enter_private class s known undo hidden methods start so_far = record {
  back = so_far.back;
  tells = λ c m. so_far.tells c m ∙ ap (λ b. b || known_hides start c m) (sym (no_more c m));
}
  where
    or_none : (b : Bool) → (b || false) ≡ b
    or_none true = refl
    or_none false = refl

    no_more : (c : Name) (m : MethodAccess) → any_hides c m class (methods ++ s ∷ []) ≡ any_hides c m class methods
    no_more c m = any_more c m class methods s ∙ ap (λ b. any_hides c m class methods || b) (private_hides c m class s hidden) ∙ or_none (any_hides c m class methods)

-- another one is known too
pub enter_seen_by : (class : Name) (s : MethodAccess) (old new : Known) (was : Option Seen) (seen : Seen) (undo longer : List (Signature × Option Seen)) → s.is_private ≡ false
    → seen ≡ with_method (begun (old (signature_of s))) class s → was ≡ old (signature_of s) → ((q : Signature) → new q ≡ with_known (signature_of s) (Some seen) old q)
    → longer ≡ undo ++ (signature_of s, was) ∷ []
    → (methods : List MethodAccess) (start : Known) → Entered class methods start old undo → Entered class (methods ++ s ∷ []) start new longer
enter_seen_by class s old new was seen undo longer visible is there put more methods start so_far =
    let entered : Entered class (methods ++ s ∷ []) start new (undo ++ (signature_of s, was) ∷ []) = enter_seen class methods s start old new undo so_far was there visible told in
    subst (λ (u : List (Signature × Option Seen)). Entered class (methods ++ s ∷ []) start new u) (sym more) entered
  where
    is_with : seen ≡ with_method (begun was) class s
    is_with = is ∙ ap (λ (o : Option Seen). with_method (begun o) class s) (sym there)

    told : (q : Signature) → new q ≡ cond (is_at (signature_order (signature_of s)) q) (Some (with_method (begun was) class s)) (old q)
    told q = put q ∙ ap (λ (x : Seen). cond (is_at (signature_order (signature_of s)) q) (Some x) (old q)) is_with

-- of no method nothing is known more
pub enter_begins : (class : Name) (known : Known) (undo : List (Signature × Option Seen)) → undo ≡ [] → Entered class [] known known undo
unfolding any_hides
enter_begins class known undo none = subst (λ (u : List (Signature × Option Seen)). Entered class [] known known u) (sym none) (record { back = λ q. refl; tells = λ c m. refl })

pub enter_goes_on : (class : Name) (methods : List MethodAccess) (i : ℕ) (m : MethodAccess) (start before after : Known) (undo longer : List (Signature × Option Seen)) → i < length methods → m ≡ get_or methods i m
    → ((ms : List MethodAccess) (from : Known) → Entered class ms from before undo → Entered class (ms ++ m ∷ []) from after longer)
    → Entered class (take i methods) start before undo → Entered class (take (i + 1) methods) start after longer
enter_goes_on class methods i m start before after undo longer within item one so_far =
    let front : take (i + 1) methods ≡ take i methods ++ m ∷ [] = take_more methods i m within ∙ ap (λ (y : MethodAccess). take i methods ++ y ∷ []) (sym item) in
    subst (λ (ms : List MethodAccess). Entered class ms start after longer) (sym front) (one (take i methods) start so_far)

pub enter_done : (class : Name) (methods : List MethodAccess) (i : ℕ) (start after : Known) (undo : List (Signature × Option Seen)) → length methods ≤ i → Entered class (take i methods) start after undo → Entered class methods start after undo
enter_done class methods i start after undo over so_far = subst (λ (ms : List MethodAccess). Entered class ms start after undo) (take_all i methods over) so_far

-- one change is taken back
pub back_goes_on : (undo rest : List (Signature × Option Seen)) (key : Signature) (was : Option Seen) (old new whole : Known) → undo ≡ rest ++ (key, was) ∷ [] → ((q : Signature) → new q ≡ with_known key was old q)
    → ((q : Signature) → taken_back undo old q ≡ whole q) → (q : Signature) → taken_back rest new q ≡ whole q
back_goes_on undo rest key was old new whole is back so_far q =
    back_alike rest new (with_known key was old) back q ∙ ap (λ (k : Known). k q) (sym (back_last rest (key, was) old)) ∙ ap (λ (u : List (Signature × Option Seen)). taken_back u old q) (sym is) ∙ so_far q

pub back_done : (undo : List (Signature × Option Seen)) (known whole : Known) → length undo ≡ 0 → ((q : Signature) → taken_back undo known q ≡ whole q) → (q : Signature) → known q ≡ whole q
back_done undo known whole none so_far q = ap (λ (u : List (Signature × Option Seen)). taken_back u known q) (sym (nil_from_length undo none)) ∙ so_far q

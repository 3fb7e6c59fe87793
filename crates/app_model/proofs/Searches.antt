-- A search upward that takes each class once.
use Rattle.std.proofs.Common.{◌≡◌, ℕ, zero, suc, ◌+◌, ◌<◌, ◌≤◌, Bool, true, false, ◌||◌, List, [], ◌∷◌, ◌++◌, length, get_or, Option, Some, None, refl, sym, ◌∙◌, ap, subst, inl, inr, arith, eq-eqb}
use Rattle.std.specs.Prelude.{◌==◌, ◌&&◌, not, slice_get, flat_map, option_to_list}
use Rattle.std.specs.List.{list_any}
use Rattle.std.proofs.lemmas.Bool.{and_parts, cases_eq, ne_eqb, or_right}
use Rattle.app_machine.specs.declared.app.App.{App}
use Rattle.app_machine.specs.declared.app.Class.{Class}
use Rattle.vet_base.specs.Members.{In}
use Rattle.app_machine.specs.Names.{Name}
use Rattle.app_machine.specs.Lookups.{class_among, class_named, above_within, all_above, directly_above}
use Rattle.app_machine.specs.Sound.{IsAbove}
use Rattle.app_model.specs.Met.{Settled, IsNumbered, Adds}
use Rattle.std.proofs.lemmas.Option.{same_Some, slice_get_within, slice_get_read}
use Rattle.std.specs.Option.{MatchOption}
use Rattle.app_model.proofs.Above.{slice_of_option}
use Rattle.app_model.proofs.Reach.{within_all}
use Rattle.vet_base.proofs.Members.{in_front, in_back, in_either, passes_if, one_passes, in_flat, from_flat}
use Rattle.vet_base.proofs.Lists.{element_at}

module _ (app : App) where
  pub settled_on : (seen new_seen : ℕ → Bool) → ((j : ℕ) → seen j ≡ true → new_seen j ≡ true) → (name : Name) → Settled app seen name → Settled app new_seen name
  settled_on seen new_seen kept name settled c there = let at = settled c there in (at.0, at.1, kept at.0 at.2)

  numbered_front : (xs ys : List Name) (j : ℕ) → IsNumbered app xs j → IsNumbered app (xs ++ ys) j
  numbered_front xs ys j is = record { name = is.name; class = is.class; is_one = in_front is.name xs ys is.is_one; there = is.there; at = is.at }

  numbered_back : (xs ys : List Name) (j : ℕ) → IsNumbered app ys j → IsNumbered app (xs ++ ys) j
  numbered_back xs ys j is = record { name = is.name; class = is.class; is_one = in_back is.name xs ys is.is_one; there = is.there; at = is.at }

  pub adds_none : (seen waiting : ℕ → Bool) → Adds app [] seen waiting seen waiting
  adds_none seen waiting = record { kept = λ j at. at; settled = λ name is_in. absurd is_in; comes = λ j at. inl at; waits = λ j at. inl at; rest = λ j at free. (at, free) }

  -- first these names, and then those
  pub adds_both : (xs ys : List Name) (s w s1 w1 s2 w2 : ℕ → Bool) → Adds app xs s w s1 w1 → Adds app ys s1 w1 s2 w2 → Adds app (xs ++ ys) s w s2 w2
  adds_both xs ys s w s1 w1 s2 w2 first after = record {
    kept = λ j at. after.kept j (first.kept j at);
    settled = λ name is_in. elim (in_either name xs ys is_in) [ inl front ↦ settled_on s1 s2 after.kept name (first.settled name front) | inr back ↦ after.settled name back ];
    comes = λ j at. elim (after.comes j at) [ inl before ↦ elim (first.comes j before) [ inl old ↦ inl old | inr is ↦ inr (numbered_front xs ys j is) ] | inr is ↦ inr (numbered_back xs ys j is) ];
    waits = λ j at. elim (after.waits j at) [ inl before ↦ elim (first.waits j before) [ inl old ↦ inl old | inr new ↦ inr (new.0, after.kept j new.1) ] | inr new ↦ inr (not_before j (s j) refl new.0, new.1) ];
    rest = λ j at free. let before = after.rest j at free in first.rest j before.0 before.1;
  }
    where
      not_before : (j : ℕ) (b : Bool) → s j ≡ b → s1 j ≡ false → b ≡ false
      not_before j true is fails = let both : true ≡ false = sym (first.kept j is) ∙ fails in absurd (cc)
      not_before j false is fails = refl

  -- no class has the name
  pub adds_no_class : (name : Name) (seen waiting : ℕ → Bool) → class_named app name ≡ None → Adds app (name ∷ []) seen waiting seen waiting
  adds_no_class name seen waiting absent = record {
    kept = λ j at. at;
    settled = λ other is_in c there. no_class other is_in c there;
    comes = λ j at. inl at;
    waits = λ j at. inl at;
    rest = λ j at free. (at, free);
  }
    where
      no_class : (other : Name) → In other (name ∷ []) → (c : Class) → class_named app other ≡ Some c → (j : ℕ) × (slice_get app.classes j ≡ Some c) × (seen j ≡ true)
      no_class other (inl same) c there = let both : None ≡ Some c = sym absent ∙ (ap (λ x. class_named app x) (sym same) ∙ there) in absurd (cc)
      no_class other (inr later) c there = absurd later

  settles_one : (name : Name) (i : ℕ) (seen : ℕ → Bool) → slice_get app.classes i ≡ class_named app name → seen i ≡ true → (other : Name) → In other (name ∷ []) → Settled app seen other
  settles_one name i seen is marked other (inl same) c there = (i, is ∙ (ap (λ x. class_named app x) (sym same) ∙ there), marked)
  settles_one name i seen is marked other (inr later) c there = absurd later

  -- its class was seen
  pub adds_seen : (name : Name) (i : ℕ) (seen waiting : ℕ → Bool) → slice_get app.classes i ≡ class_named app name → seen i ≡ true → Adds app (name ∷ []) seen waiting seen waiting
  adds_seen name i seen waiting is marked = record {
    kept = λ j at. at;
    settled = settles_one name i seen is marked;
    comes = λ j at. inl at;
    waits = λ j at. inl at;
    rest = λ j at free. (at, free);
  }

  -- its class was not seen
  pub adds_new : (name : Name) (i : ℕ) (c : Class) (seen waiting new_seen new_waiting : ℕ → Bool) → slice_get app.classes i ≡ Some c → class_named app name ≡ Some c → seen i ≡ false →
      ((j : ℕ) → new_seen j ≡ ((j == i) || seen j)) → ((j : ℕ) → new_waiting j ≡ ((j == i) || waiting j)) → Adds app (name ∷ []) seen waiting new_seen new_waiting
  adds_new name i c seen waiting new_seen new_waiting at_i there unseen sees awaits = record {
    kept = λ j at. sees j ∙ or_right (j == i) (seen j) at;
    settled = settles_one name i new_seen (at_i ∙ sym there) (sees i ∙ ap (λ b. b || seen i) (eq-eqb i i refl));
    comes = λ j at. elim (cases_eq j i) [
      | inl same ↦ inr (record { name = name; class = c; is_one = inl refl; there = there; at = ap (λ k. slice_get app.classes k) same ∙ at_i })
      | inr other ↦ inl (sym (ap (λ b. b || seen j) (ne_eqb j i other)) ∙ (sym (sees j) ∙ at))
    ];
    waits = λ j at. elim (cases_eq j i) [
      | inl same ↦ inr (ap (λ k. seen k) same ∙ unseen, sees j ∙ ap (λ b. b || seen j) (eq-eqb j i same))
      | inr other ↦ inl (sym (ap (λ b. b || waiting j) (ne_eqb j i other)) ∙ (sym (awaits j) ∙ at))
    ];
    rest = λ j at free. elim (cases_eq j i) [
      | inl same ↦ let waits : true ≡ false = sym (ap (λ b. b || waiting j) (eq-eqb j i same)) ∙ (sym (awaits j) ∙ free) in absurd (cc)
      | inr other ↦ (sym (ap (λ b. b || seen j) (ne_eqb j i other)) ∙ (sym (sees j) ∙ at), sym (ap (λ b. b || waiting j) (ne_eqb j i other)) ∙ (sym (awaits j) ∙ free))
    ];
  }

-- one step further at the far end
further : (app : App) (n : ℕ) (name a : Name) (c d : Class) → In c (above_within n app.classes name) → In a (directly_above c) → class_among app.classes a ≡ Some d → In d (above_within (suc n) app.classes name)
further app zero name a c d at up there = absurd at
further app (suc n) name a c d at up there = by_class (class_among app.classes name) refl (λ b at'. further app n b a c d at' up there) at
  where
    lifted : (e : Class) → ((b : Name) → In c (above_within n app.classes b) → In d (above_within (suc n) app.classes b)) → In c (e ∷ flat_map (λ above. above_within n app.classes above) (directly_above e)) →
        In d (e ∷ flat_map (λ above. above_within (suc n) app.classes above) (directly_above e))
    lifted e again (inl same) = inr (in_flat (λ above. above_within (suc n) app.classes above) (directly_above e) a d (subst (λ (x : Class). In a (directly_above x)) same up)
        (subst (λ o. In d (elim o [ None ↦ [] | Some x ↦ x ∷ flat_map (λ above. above_within n app.classes above) (directly_above x) ])) (sym there) (inl refl)))
    lifted e again (inr later) = let way = from_flat (λ above. above_within n app.classes above) (directly_above e) c later in inr (in_flat (λ above. above_within (suc n) app.classes above) (directly_above e) way.0 d way.1 (again way.0 way.2))

    by_class : (o : Option Class) → class_among app.classes name ≡ o → ((b : Name) → In c (above_within n app.classes b) → In d (above_within (suc n) app.classes b)) →
        In c (elim (class_among app.classes name) [ None ↦ [] | Some x ↦ x ∷ flat_map (λ above. above_within n app.classes above) (directly_above x) ]) →
        In d (elim (class_among app.classes name) [ None ↦ [] | Some x ↦ x ∷ flat_map (λ above. above_within (suc n) app.classes above) (directly_above x) ])
    by_class None is again at = absurd (subst (λ o. In c (elim o [ None ↦ [] | Some x ↦ x ∷ flat_map (λ above. above_within n app.classes above) (directly_above x) ])) is at)
    by_class (Some e) is again at = subst (λ o. In d (elim o [ None ↦ [] | Some x ↦ x ∷ flat_map (λ above. above_within (suc n) app.classes above) (directly_above x) ])) (sym is)
        (lifted e again (subst (λ o. In c (elim o [ None ↦ [] | Some x ↦ x ∷ flat_map (λ above. above_within n app.classes above) (directly_above x) ])) is at))

-- the class numbered j is met from the name
pub record IsMet (app : App) (name : Name) (j : ℕ) : Type 0 where
  pub class : Class
  pub at : slice_get app.classes j ≡ Some class
  pub steps : ℕ
  pub met : In class (above_within steps app.classes name)

-- the search so far: what was seen is met, and what was seen and does not wait fails the test and leads to what was seen
pub record Searched (app : App) (p : Class → Bool) (name : Name) (seen waiting : ℕ → Bool) : Type 0 where
  pub start : Settled app seen name
  pub met : (j : ℕ) → seen j ≡ true → IsMet app name j
  pub waits : (j : ℕ) → waiting j ≡ true → seen j ≡ true
  pub done : (j : ℕ) (c : Class) → slice_get app.classes j ≡ Some c → seen j ≡ true → waiting j ≡ false → (p c ≡ false) × ((a : Name) → In a (directly_above c) → Settled app seen a)

module _ (app : App) (p : Class → Bool) (name : Name) where
  pub search_begins : (seen waiting new_seen new_waiting : ℕ → Bool) → ((j : ℕ) → seen j ≡ false) → ((j : ℕ) → waiting j ≡ false) → Adds app (name ∷ []) seen waiting new_seen new_waiting → Searched app p name new_seen new_waiting
  unfolding class_named
  search_begins seen waiting new_seen new_waiting unseen none_waits adds = record {
    start = adds.settled name (inl refl);
    met = λ j at. elim (adds.comes j at) [ inl old ↦ absurd (never j old) | inr is ↦ first_met j is ];
    waits = λ j at. elim (adds.waits j at) [ inl old ↦ let both : true ≡ false = sym old ∙ none_waits j in absurd (cc) | inr new ↦ new.1 ];
    done = λ j c at seen_j free. absurd (never j (adds.rest j seen_j free).0);
  }
    where
      never : (j : ℕ) → seen j ≡ true → ⊥
      never j old = let both : true ≡ false = sym old ∙ unseen j in absurd (cc)

      first_met : (j : ℕ) → IsNumbered app (name ∷ []) j → IsMet app name j
      first_met j is = record { class = is.class; at = is.at; steps = 1; met = at_once is.name is.class is.is_one is.there }
        where
          at_once : (n : Name) (c : Class) → In n (name ∷ []) → class_among app.classes n ≡ Some c → In c (above_within 1 app.classes name)
          at_once n c (inl same) there = subst (λ o. In c (elim o [ None ↦ [] | Some x ↦ x ∷ flat_map (λ above. above_within 0 app.classes above) (directly_above x) ])) (sym (ap (λ x. class_among app.classes x) (sym same) ∙ there)) (inl refl)
          at_once n c (inr later) there = absurd later

  module _ (seen waiting : ℕ → Bool) (search : Searched app p name seen waiting) where
    -- what waits is a class
    pub waiting_is : (i : ℕ) → waiting i ≡ true → i < length app.classes
    waiting_is i waits = let met = search.met i (search.waits i waits) in slice_get_within app.classes i met.class met.at

    -- where nothing waits, all that is met fails the test
    fails_above : ((j : ℕ) → waiting j ≡ false) → (m : ℕ) (n : Name) → Settled app seen n → (c : Class) → In c (above_within m app.classes n) → p c ≡ false
    unfolding class_named
    fails_above none_waits zero n settled c at = absurd at
    fails_above none_waits (suc m) n settled c at = by_class (class_among app.classes n) refl (λ a settled' at'. fails_above none_waits m a settled' c at') at
      where
        here_or_above : (d : Class) → class_among app.classes n ≡ Some d → ((a : Name) → Settled app seen a → In c (above_within m app.classes a) → p c ≡ false) → In c (d ∷ flat_map (λ above. above_within m app.classes above) (directly_above d)) → p c ≡ false
        here_or_above d there again (inl same) = let at_j = settled d there in ap p same ∙ (search.done at_j.0 d at_j.1 at_j.2 (none_waits at_j.0)).0
        here_or_above d there again (inr later) =
            let at_j = settled d there in
            let way = from_flat (λ above. above_within m app.classes above) (directly_above d) c later in
            again way.0 ((search.done at_j.0 d at_j.1 at_j.2 (none_waits at_j.0)).1 way.0 way.1) way.2

        by_class : (o : Option Class) → class_among app.classes n ≡ o → ((a : Name) → Settled app seen a → In c (above_within m app.classes a) → p c ≡ false) →
            In c (elim (class_among app.classes n) [ None ↦ [] | Some x ↦ x ∷ flat_map (λ above. above_within m app.classes above) (directly_above x) ]) → p c ≡ false
        by_class None is again at = absurd (subst (λ o. In c (elim o [ None ↦ [] | Some x ↦ x ∷ flat_map (λ above. above_within m app.classes above) (directly_above x) ])) is at)
        by_class (Some d) is again at = here_or_above d is again (subst (λ o. In c (elim o [ None ↦ [] | Some x ↦ x ∷ flat_map (λ above. above_within m app.classes above) (directly_above x) ])) is at)

    none_of_all : ((j : ℕ) → waiting j ≡ false) → (b : Bool) → list_any p (all_above app name) ≡ b → b ≡ false
    unfolding all_above
    none_of_all none_waits true is = let one = one_passes p (all_above app name) is in let both : true ≡ false = sym one.2 ∙ fails_above none_waits (length app.classes) name search.start one.0 one.1 in absurd (cc)
    none_of_all none_waits false is = refl

    pub search_ends : ((j : ℕ) → waiting j ≡ false) → list_any p (all_above app name) ≡ false
    search_ends none_waits = none_of_all none_waits (list_any p (all_above app name)) refl

    module _ (no_circle : (class : Name) → IsAbove app class class → ⊥) (i : ℕ) (waits_i : waiting i ≡ true) (c : Class) (at_i : slice_get app.classes i ≡ Some c) where
      c_met : (m : ℕ) × In c (above_within m app.classes name)
      c_met =
          let met = search.met i (search.waits i waits_i) in
          let same : met.class ≡ c = same_Some met.class c (sym met.at ∙ at_i) in
          (met.steps, subst (λ x. In x (above_within met.steps app.classes name)) same met.met)

      pub search_finds : p c ≡ true → list_any p (all_above app name) ≡ true
      search_finds passes = passes_if p (all_above app name) c (within_all app no_circle c_met.0 name c c_met.1) passes

      pub search_goes_on : p c ≡ false → (left s2 w2 : ℕ → Bool) → ((j : ℕ) → left j ≡ (not (j == i) && waiting j)) → Adds app (directly_above c) seen left s2 w2 → Searched app p name s2 w2
      unfolding class_named
      search_goes_on fails left s2 w2 leaves adds = record {
        start = settled_on app seen s2 adds.kept name search.start;
        met = λ j at. elim (adds.comes j at) [ inl old ↦ search.met j old | inr is ↦ record { class = is.class; at = is.at; steps = suc c_met.0; met = further app c_met.0 name is.name c is.class c_met.1 is.is_one is.there } ];
        waits = λ j at. elim (adds.waits j at) [ inl old ↦ adds.kept j (search.waits j ((and_parts (not (j == i)) (waiting j) (sym (leaves j) ∙ old)).1)) | inr new ↦ new.1 ];
        done = λ j d at seen_j free. let old = adds.rest j seen_j free in elim (cases_eq j i) [
          | inl same ↦ let is_c : c ≡ d = same_Some c d (sym at_i ∙ (ap (λ k. slice_get app.classes k) (sym same) ∙ at)) in
              (ap p (sym is_c) ∙ fails, λ a up. adds.settled a (subst (λ (x : Class). In a (directly_above x)) (sym is_c) up))
          | inr other ↦
              let idle : waiting j ≡ false = sym (ap (λ b. not b && waiting j) (ne_eqb j i other)) ∙ (sym (leaves j) ∙ old.1) in
              let before = search.done j d at old.0 idle in
              (before.0, λ a up. settled_on app seen s2 adds.kept a (before.1 a up))
        ];
      }

-- the same with the two lists of names as they are read
pub goes_on_by : (app : App) (p : Class → Bool) (name : Name) (seen waiting : ℕ → Bool) → Searched app p name seen waiting → ((class : Name) → IsAbove app class class → ⊥) →
    (i : ℕ) → waiting i ≡ true → (c : Class) → slice_get app.classes i ≡ Some c → p c ≡ false → (left s1 w1 s2 w2 : ℕ → Bool) → ((j : ℕ) → left j ≡ (not (j == i) && waiting j)) →
    (superclass interfaces : List Name) → MatchOption c.superclass (superclass ≡ []) (λ x. superclass ≡ x ∷ []) → interfaces ≡ c.interfaces →
    Adds app superclass seen left s1 w1 → Adds app interfaces s1 w1 s2 w2 → Searched app p name s2 w2
goes_on_by app p name seen waiting search no_circle i waits_i c at_i fails left s1 w1 s2 w2 leaves superclass interfaces is are first after =
    let both : Adds app (superclass ++ interfaces) seen left s2 w2 = adds_both app superclass interfaces seen left s1 w1 s2 w2 first after in
    let names : superclass ++ interfaces ≡ directly_above c = ap (λ xs. xs ++ interfaces) (slice_of_option c.superclass superclass is) ∙ ap (λ ys. option_to_list c.superclass ++ ys) are in
    search_goes_on app p name seen waiting search no_circle i waits_i c at_i fails left s2 w2 leaves (subst (λ xs. Adds app xs seen left s2 w2) names both)

-- a class that halving found, and that was not seen
pub adds_found : (app : App) (name : Name) (i : ℕ) (seen waiting new_seen new_waiting : ℕ → Bool) → i < length app.classes → slice_get app.classes i ≡ class_named app name → seen i ≡ false →
    ((j : ℕ) → new_seen j ≡ ((j == i) || seen j)) → ((j : ℕ) → new_waiting j ≡ ((j == i) || waiting j)) → Adds app (name ∷ []) seen waiting new_seen new_waiting
adds_found app name i seen waiting new_seen new_waiting within is unseen sees awaits =
    let at : (c : Class) × (c ≡ get_or app.classes i c) = element_at app.classes i within in
    let there : slice_get app.classes i ≡ Some at.0 = slice_get_read app.classes (length app.classes) i at.0 refl within at.1 in
    adds_new app name i at.0 seen waiting new_seen new_waiting there (sym is ∙ there) unseen sees awaits

weight : Bool → ℕ
weight true = 0
weight false = 1

-- how many of the first n are not done: they were not seen, or wait
pub undone : ℕ → (ℕ → Bool) → (ℕ → Bool) → ℕ
undone zero seen waiting = 0
undone (suc n) seen waiting = weight (seen n && not (waiting n)) + undone n seen waiting

-- what is done stays done
Stays : (s w s2 w2 : ℕ → Bool) → Type 0
Stays s w s2 w2 = (j : ℕ) → (s j && not (w j)) ≡ true → (s2 j && not (w2 j)) ≡ true

at_most : (a b : Bool) → (a ≡ true → b ≡ true) → weight b ≤ weight a
unfolding weight
at_most true true stays = omega arith
at_most true false stays = let clash : false ≡ true = stays refl in absurd (cc)
at_most false true stays = omega arith
at_most false false stays = omega arith

no_more_undone : (n : ℕ) (s w s2 w2 : ℕ → Bool) → Stays s w s2 w2 → undone n s2 w2 ≤ undone n s w
unfolding undone Stays
no_more_undone zero s w s2 w2 stays = omega arith
no_more_undone (suc n) s w s2 w2 stays =
    let here : weight (s2 n && not (w2 n)) ≤ weight (s n && not (w n)) = at_most (s n && not (w n)) (s2 n && not (w2 n)) (stays n) in
    let rest : undone n s2 w2 ≤ undone n s w = no_more_undone n s w s2 w2 stays in
    omega arith

stays_at : (j : ℕ) (s w s2 w2 : ℕ → Bool) → Stays s w s2 w2 → (s j && not (w j)) ≡ true → (s2 j && not (w2 j)) ≡ true
unfolding Stays
stays_at j s w s2 w2 stays = stays j

fewer_undone : (n i : ℕ) (s w s2 w2 : ℕ → Bool) → Stays s w s2 w2 → i < n → (s i && not (w i)) ≡ false → (s2 i && not (w2 i)) ≡ true → undone n s2 w2 < undone n s w
unfolding undone weight
fewer_undone zero i s w s2 w2 stays below before now = absurd (omega arith)
fewer_undone (suc n) i s w s2 w2 stays below before now = elim (cases_eq i n) [
  | inl same ↦
      let was : weight (s n && not (w n)) ≡ 1 = ap weight (ap (λ k. s k && not (w k)) (sym same) ∙ before) in
      let is : weight (s2 n && not (w2 n)) ≡ 0 = ap weight (ap (λ k. s2 k && not (w2 k)) (sym same) ∙ now) in
      let rest : undone n s2 w2 ≤ undone n s w = no_more_undone n s w s2 w2 stays in
      rw (was, is) (omega arith)
  | inr other ↦
      let here : weight (s2 n && not (w2 n)) ≤ weight (s n && not (w n)) = here_at_most n s w s2 w2 stays in
      let rest : undone n s2 w2 < undone n s w = fewer_undone n i s w s2 w2 stays (omega arith) before now in
      omega arith
]
  where
    here_at_most : (n : ℕ) (s w s2 w2 : ℕ → Bool) → Stays s w s2 w2 → weight (s2 n && not (w2 n)) ≤ weight (s n && not (w n))
    here_at_most n s w s2 w2 stays = at_most (s n && not (w n)) (s2 n && not (w2 n)) (stays_at n s w s2 w2 stays)

-- a turn leaves fewer that are not done
pub turn_takes_one : (app : App) (i : ℕ) (xs ys : List Name) (s w left s1 w1 s2 w2 : ℕ → Bool) → i < 131072 → s i ≡ true → w i ≡ true → ((j : ℕ) → left j ≡ (not (j == i) && w j)) → Adds app xs s left s1 w1 → Adds app ys s1 w1 s2 w2 → undone 131072 s2 w2 < undone 131072 s w
unfolding Stays
turn_takes_one app i xs ys s w left s1 w1 s2 w2 below seen_i waits_i leaves first after =
    let both : Adds app (xs ++ ys) s left s2 w2 = adds_both app xs ys s left s1 w1 s2 w2 first after in
    fewer_undone 131072 i s w s2 w2 (λ j done. stays both j (s j) (w j) refl refl done) below (was_waiting (s i) (w i) waits_i) (both_so (s2 i) (w2 i) (both.kept i seen_i) (idle both i seen_i (w2 i) refl left_i))
  where
    left_i : left i ≡ false
    left_i = leaves i ∙ ap (λ b. not b && w i) (eq-eqb i i refl)

    was_waiting : (a b : Bool) → b ≡ true → (a && not b) ≡ false
    was_waiting true true e = refl
    was_waiting false b e = refl
    was_waiting true false e = absurd (cc)

    both_so : (a b : Bool) → a ≡ true → b ≡ false → (a && not b) ≡ true
    both_so true false e f = refl
    both_so true true e f = absurd (cc)
    both_so false b e f = absurd (cc)

    idle : Adds app (xs ++ ys) s left s2 w2 → (j : ℕ) → s j ≡ true → (b : Bool) → w2 j ≡ b → left j ≡ false → b ≡ false
    idle both j seen_j true is free = elim (both.waits j is) [ inl old ↦ let clash : true ≡ false = sym old ∙ free in absurd (cc) | inr new ↦ let clash : true ≡ false = sym seen_j ∙ new.0 in absurd (cc) ]
    idle both j seen_j false is free = refl

    stays : Adds app (xs ++ ys) s left s2 w2 → (j : ℕ) (a b : Bool) → s j ≡ a → w j ≡ b → (a && not b) ≡ true → (s2 j && not (w2 j)) ≡ true
    stays both j true false is_a is_b done = both_so (s2 j) (w2 j) (both.kept j is_a) (idle both j is_a (w2 j) refl (leaves j ∙ (ap (λ b. not (j == i) && b) is_b ∙ never (not (j == i)))))
      where
        never : (b : Bool) → (b && false) ≡ false
        never true = refl
        never false = refl
    stays both j true true is_a is_b done = absurd (cc)
    stays both j false b is_a is_b done = absurd (cc)

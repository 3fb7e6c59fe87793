-- The labels of a search are those that the value reaches.
use Rattle.std.proofs.Common.{◌≡◌, ◌⊎◌, inl, inr, ℕ, zero, suc, ◌<◌, ◌≤◌, Bool, true, false, List, [], ◌∷◌, ◌++◌, length, Some, refl, sym, ap, ◌∙◌, subst, arith}
use Rattle.std.specs.Prelude.{◌↔◌}
use Rattle.std.proofs.lemmas.Option.{same_Some}
use Rattle.vet_base.specs.declared.key_id.KeyId.{KeyId}
use Rattle.vet_base.specs.Members.{In}
use Rattle.vet_base.proofs.Members.{in_front, in_back, in_either}
use Rattle.app_machine.specs.Heap.{Value, Object, EntryAt, Reaches}
use Rattle.played_machine.specs.Reading.{values_at, reached}
use Rattle.played_machine.proofs.Ordered.{false_true}
use Rattle.played_machine.proofs.Reached.{value_there, value_read, reached_so, reached_all}
use Rattle.runner_heap.specs.Shown.{AddsValues}
use Rattle.runner_state.specs.declared.value.Held.{Held}
use Rattle.runner_state.specs.Shown.{value_of}

module _ (heap : List Object) (from : Value) where
  -- whatever is reached from the value is reached from the first
  abbrev pub IsLedTo : Value → Type 0
  IsLedTo w = (ks : List KeyId) (l : ℕ) → Reaches heap w ks l → In l (reached heap from)

  -- the value waits
  pub record Waits (waiting : List Held) (w : Value) : Type 0 where
    pub held : Held
    pub is_one : In held waiting
    pub shows : value_of held ≡ w

  -- its labels are there, and its object was met
  pub record IsDone (labels : List ℕ) (met : ℕ → Bool) (w : Value) : Type 0 where
    pub own : (l : ℕ) → In l w.labels → In l labels
    pub object : (p : ℕ) → w.place ≡ Some p → (length heap ≤ p) ⊎ (met p ≡ true)

  abbrev pub IsCovered : List ℕ → (ℕ → Bool) → List Held → Value → Type 0
  IsCovered labels met waiting w = Waits waiting w ⊎ IsDone labels met w

  pub record Searched (labels : List ℕ) (met : ℕ → Bool) (waiting : List Held) : Type 0 where
    pub sound : (l : ℕ) → In l labels → In l (reached heap from)
    pub led : (v : Held) → In v waiting → IsLedTo (value_of v)
    pub begun : IsCovered labels met waiting from
    pub closed : (p : ℕ) → met p ≡ true → (k : KeyId) (w : Value) → EntryAt heap p k w → IsCovered labels met waiting w

  pub begins : (labels : List ℕ) (met : ℕ → Bool) (waiting : List Held) (v : Held) → labels ≡ [] → ((p : ℕ) → met p ≡ false) → value_of v ≡ from → waiting ≡ v ∷ [] → Searched labels met waiting
  begins labels met waiting v none unmet is alone = record {
    sound = λ l h. absurd (subst (In l) none h);
    led = λ w h. elim (subst (In w) alone h) [
      | inl same ↦ λ ks l walk. reached_all heap from l ks (subst (λ z. Reaches heap z ks l) (ap value_of same ∙ is) walk)
      | inr no_one ↦ absurd no_one
    ];
    begun = inl (record { held = v; is_one = subst (In v) (sym alone) (inl refl); shows = is });
    closed = λ p there k w entry. absurd (false_true (sym (unmet p) ∙ there));
  }

  -- when nothing waits
  entry_within : (os : List Object) (p : ℕ) (k : KeyId) (w : Value) → EntryAt os p k w → p < length os
  entry_within [] p k w h = absurd h
  entry_within (o ∷ os) zero k w h = omega arith
  entry_within (o ∷ os) (suc p) k w h = let below : p < length os = entry_within os p k w h in omega (arith, below)

  nothing_in : (xs : List Held) (x : Held) → length xs ≡ 0 → In x xs → ⊥
  nothing_in [] x none h = h
  nothing_in (y ∷ ys) x none h = absurd (omega (arith, none))

  module _ (labels : List ℕ) (met : ℕ → Bool) (waiting : List Held) (none : length waiting ≡ 0) (searched : Searched labels met waiting) where
    done_if : (w : Value) → IsCovered labels met waiting w → IsDone labels met w
    done_if w (inl waits) = absurd (nothing_in waiting waits.held none waits.is_one)
    done_if w (inr done) = done

    all_there : (ks : List KeyId) (w : Value) (l : ℕ) → IsDone labels met w → Reaches heap w ks l → In l labels
    all_there [] w l done walk = done.own l walk
    all_there (k ∷ ks) w l done walk = elim (done.object walk.0 walk.1) [
      | inl past ↦ let below : walk.0 < length heap = entry_within heap walk.0 k walk.2.0 walk.2.1 in absurd (omega (arith, past, below))
      | inr there ↦ all_there ks walk.2.0 l (done_if walk.2.0 (searched.closed walk.0 there k walk.2.0 walk.2.1)) walk.2.2
    ]

    pub found_all : (l : ℕ) → In l (reached heap from) → In l labels
    found_all l h = let walk = reached_so heap from l h in all_there walk.0 from l (done_if from searched.begun) walk.1

  -- a value is taken from those that wait
  module _ (labels new_labels : List ℕ) (met new_met : ℕ → Bool) (waiting rest new_waiting : List Held) (v : Held)
      (joins : (l : ℕ) → In l new_labels ↔ (In l labels ⊎ In l (value_of v).labels)) (taken : waiting ≡ rest ++ v ∷ []) (searched : Searched labels met waiting) where
    wider : (w : Value) → ((p : ℕ) → met p ≡ true → new_met p ≡ true) → IsDone labels met w → IsDone new_labels new_met w
    wider w kept done = record {
      own = λ l h. (joins l).1 (inl (done.own l h));
      object = λ p is. elim (done.object p is) [ inl past ↦ inl past | inr there ↦ inr (kept p there) ];
    }

    still : ((p : ℕ) → met p ≡ true → new_met p ≡ true) → ((u : Held) → In u rest → In u new_waiting) → IsDone new_labels new_met (value_of v) → (w : Value) → IsCovered labels met waiting w → IsCovered new_labels new_met new_waiting w
    still kept stays done w (inr before) = inr (wider w kept before)
    still kept stays done w (inl waits) = elim (in_either waits.held rest (v ∷ []) (subst (In waits.held) taken waits.is_one)) [
      | inl later ↦ inl (record { held = waits.held; is_one = stays waits.held later; shows = waits.shows })
      | inr now ↦ elim now [
        | inl same ↦ inr (subst (IsDone new_labels new_met) (ap value_of (sym same) ∙ waits.shows) done)
        | inr none ↦ absurd none
      ]
    ]

    led_here : IsLedTo (value_of v)
    led_here = searched.led v (subst (In v) (sym taken) (in_back v rest (v ∷ []) (inl refl)))

    sound_still : (l : ℕ) → In l new_labels → In l (reached heap from)
    sound_still l h = elim ((joins l).0 h) [ inl before ↦ searched.sound l before | inr own ↦ led_here [] l own ]

    led_still : (u : Held) → In u rest → IsLedTo (value_of u)
    led_still u h = searched.led u (subst (In u) (sym taken) (in_front u rest (v ∷ []) h))

    -- its object is not new
    pub goes_on : new_waiting ≡ rest → ((p : ℕ) → met p ≡ new_met p) → ((p : ℕ) → (value_of v).place ≡ Some p → (length heap ≤ p) ⊎ (met p ≡ true)) → Searched new_labels new_met new_waiting
    goes_on same same_met old =
        let kept : (p : ℕ) → met p ≡ true → new_met p ≡ true = λ p h. sym (same_met p) ∙ h in
        let stays : (u : Held) → In u rest → In u new_waiting = λ u h. subst (In u) (sym same) h in
        let done : IsDone new_labels new_met (value_of v) = record {
          own = λ l h. (joins l).1 (inr h);
          object = λ p is. elim (old p is) [ inl past ↦ inl past | inr there ↦ inr (kept p there) ];
        } in
        record {
          sound = sound_still;
          led = λ u h. led_still u (subst (In u) same h);
          begun = still kept stays done from searched.begun;
          closed = λ p there k w entry. still kept stays done w (searched.closed p (same_met p ∙ there) k w entry);
        }

    -- its object is met now
    module _ (place : ℕ) (is_place : (value_of v).place ≡ Some place) (adds : AddsValues (values_at heap place) rest new_waiting)
        (kept : (p : ℕ) → met p ≡ true → new_met p ≡ true) (there : new_met place ≡ true) (comes : (p : ℕ) → new_met p ≡ true → (p ≡ place) ⊎ (met p ≡ true)) where
      done_now : IsDone new_labels new_met (value_of v)
      done_now = record {
        own = λ l h. (joins l).1 (inr h);
        object = λ p is. inr (subst (λ q. new_met q ≡ true) (same_Some place p (sym is_place ∙ is)) there);
      }

      stays_now : (u : Held) → In u rest → In u new_waiting
      stays_now u h = subst (In u) (sym adds.behind) (in_front u rest adds.added h)

      led_now : (u : Held) → In u rest ⊎ In u adds.added → IsLedTo (value_of u)
      led_now u (inl old) ks l walk = led_still u old ks l walk
      led_now u (inr new) ks l walk =
          let at = adds.stand u new in
          led_here (at.0 ∷ ks) l (place, is_place, (value_of u, value_there heap place at.0 (value_of u) at.1, walk))

      waits_now : (k : KeyId) (w : Value) → EntryAt heap place k w → IsCovered new_labels new_met new_waiting w
      waits_now k w entry =
          let at = adds.all k w (value_read heap place k w entry) in
          inl (record { held = at.0; is_one = subst (In at.0) (sym adds.behind) (in_back at.0 rest adds.added at.1); shows = at.2 })

      pub meets : Searched new_labels new_met new_waiting
      meets = record {
        sound = sound_still;
        led = λ u h. led_now u (in_either u rest adds.added (subst (In u) adds.behind h));
        begun = still kept stays_now done_now from searched.begun;
        closed = λ p met_now k w entry. elim (comes p met_now) [
          | inl same ↦ waits_now k w (subst (λ q. EntryAt heap q k w) same entry)
          | inr before ↦ still kept stays_now done_now w (searched.closed p before k w entry)
        ];
      }

-- The places of a method at which rules ask are among those asked at, and so in each method.
use Rattle.std.proofs.Common.{◌≡◌, ◌⊎◌, ◌↔◌, ℕ, zero, suc, ◌+◌, ◌-◌, ◌<◌, ◌≤◌, Bool, true, false, cond, List, [], ◌∷◌, ◌++◌, length, map, get_or, Option, Some, None, slice_get, refl, sym, ap, subst, ◌∙◌, inl, inr, arith}
use Rattle.std.specs.Prelude.{IsTrue, is_some}
use Rattle.std.specs.BTreeMap.{BTreeMap, IsEmpty, is_at}
use Rattle.std.specs.Map.{lookup}
use Rattle.std.specs.declared.vec.Vec.{Vec}
use Rattle.std.proofs.lemmas.Option.{none-some, same_Some, slice_get_within, slice_get_read}
use Rattle.app_machine.specs.declared.method.Method.{Method}
use Rattle.app_machine.specs.declared.method.Step.{Step}
use Rattle.app_machine.specs.declared.app.App.{App}
use Rattle.app_machine.specs.State.{result_register, holds}
use Rattle.app_machine.specs.Sound.{SoundApp, SoundCode}
use Rattle.vet_base.specs.Members.{In}
use Rattle.vet_base.proofs.Members.{in_slice_get}
use Rattle.vet_base.proofs.Lists.{slice_get-map_at}
use Rattle.cell_rules.specs.Reading.{ReadAt}
use Rattle.register_readers.specs.declared.places.Place.{Place}
use Rattle.register_readers.specs.contracts.places.PlaceOrd.TheImpl.{ghosts as place_order}
use Rattle.register_readers.specs.Bounds.{most_of_all}
use Rattle.register_readers.specs.Asked.{IsAsked, at_entry, behind, result_behind, at_handler, given_to}
use Rattle.register_readers.specs.Readings.{Readings, listed, listed_in, readers_from, AreReaders}
use Rattle.register_readers.specs.Found.{held, places_of, places_of_all, IsRight, Asks, IsOfOne, IsBehindOne, IsArgument, IsIndexed, AreIndexed, count_of_all}
use Rattle.register_readers.specs.Results.{any_late}
use Rattle.register_readers.proofs.Asking.{right_none}
use Rattle.register_readers.proofs.Late.{given_in, unread_behind}
use Rattle.register_readers.proofs.Steps.{step_among, method_of_step}

-- a method with code is sound
sound_code : (app : App) (method : ℕ) (m : Method) → SoundApp app → slice_get app.methods method ≡ Some m → m.is_native ≡ false → SoundCode app m
sound_code app method m sound there code = (sound.bodies m (in_slice_get app.methods method m there)).of_code code

pub code_within : (app : App) (method : ℕ) (m : Method) → SoundApp app → slice_get app.methods method ≡ Some m → m.is_native ≡ false → m.ins ≤ m.registers
code_within app method m sound there code = (sound_code app method m sound there code).within

pub code_fits : (app : App) (method : ℕ) (m : Method) → SoundApp app → slice_get app.methods method ≡ Some m → m.is_native ≡ false → m.registers ≤ 65535
code_fits app method m sound there code = (sound_code app method m sound there code).registers

module _ (app : App) (method : ℕ) where
  -- where rules ask is behind a step of the method, at a handler of one, or at its entry
  asked_is : (m : Method) → slice_get app.methods method ≡ Some m → (r pc : ℕ) → IsAsked app method r pc →
      IsOfOne m.steps r pc ⊎ (((m.is_native ≡ false) × IsArgument (m.registers - m.ins) m.ins r pc) ⊎ ((r ≡ result_register) × IsBehindOne m.steps pc))
  asked_is m there r pc (at_entry {m = own} {i = i} has below is) =
      let same : own ≡ m = same_Some own m (sym has.there ∙ there) in
      inr (inl (subst (λ (z : Method). (z.is_native ≡ false) × IsArgument (z.registers - z.ins) z.ins r 0) same (has.code, (i, below, is, refl))))
  asked_is m there r pc (behind {act = act} at given goes) =
      let same : at.step ≡ goes.step = same_Some at.step goes.step (sym at.there ∙ goes.there) in
      let gives : In r (given_to goes.step.act) = subst (λ (s : Step). In r (given_to s.act)) same (subst (λ a. In r (given_to a)) (sym at.same) given) in
      inl (goes.step, step_among app method _ m goes.step there goes.there, inl (gives, goes.next))
  asked_is m there r pc (result_behind is goes) = inr (inr (is, (goes.step, step_among app method _ m goes.step there goes.there, goes.next)))
  asked_is m there r pc (at_handler is caught) = inl (caught.step, step_among app method _ m caught.step there caught.there, inr (is, caught.catch))

module _ {A : Type 0} (app : App) (method : ℕ) where
  module _ (m : Method) (first between asked found : BTreeMap Place (Vec ℕ A)) (there : slice_get app.methods method ≡ Some m) (arguments : Asks (IsArgument (m.registers - m.ins) m.ins) first between) (steps : Asks (IsOfOne m.steps) between asked) (results : Asks (λ r pc. IsTrue (any_late app method m.steps) × ((r ≡ result_register) × IsBehindOne m.steps pc)) asked found) where
    -- of the result behind a step: it is asked for, or read nowhere
    of_result : (step : Step) (pc : ℕ) → In step m.steps → In pc step.next → IsTrue (is_some (held found result_register pc)) ⊎ ((u : ℕ) → ReadAt app method result_register pc u → ⊥)
    of_result step pc i next = by_late (any_late app method m.steps) refl
      where
        by_gift : any_late app method m.steps ≡ false → (b : Bool) → holds (given_to step.act) result_register ≡ b →
            IsTrue (is_some (held found result_register pc)) ⊎ ((u : ℕ) → ReadAt app method result_register pc u → ⊥)
        by_gift none true is = inl (results.kept result_register pc (steps.asked result_register pc (step, i, inl (given_in step.act result_register is, next))))
        by_gift none false is = inr (λ u read. unread_behind app method m there none step pc u i is next read)

        by_late : (b : Bool) → any_late app method m.steps ≡ b → IsTrue (is_some (held found result_register pc)) ⊎ ((u : ℕ) → ReadAt app method result_register pc u → ⊥)
        by_late true is = inl (results.asked result_register pc (is, (refl, (step, i, next))))
        by_late false is = by_gift is (holds (given_to step.act) result_register) refl

    pub indexed_code : IsRight app method found → IsIndexed app method found
    indexed_code right = record {
      right = right;
      asked = λ r pc asked. elim (asked_is app method m there r pc asked) [
        | inl of_one ↦ inl (results.kept r pc (steps.asked r pc of_one))
        | inr other ↦ elim other [
          | inl of_argument ↦ inl (results.kept r pc (steps.kept r pc (arguments.asked r pc of_argument.1)))
          | inr h ↦ subst (λ z. IsTrue (is_some (held found z pc)) ⊎ ((u : ℕ) → ReadAt app method z pc u → ⊥)) (sym h.0) (of_result h.1.0 pc h.1.1 h.1.2)
        ]
      ];
    }

  -- a native method has no steps and no arguments in registers
  pub indexed_native : (m : Method) (found : BTreeMap Place (Vec ℕ A)) → SoundApp app → slice_get app.methods method ≡ Some m → m.is_native ≡ true → IsEmpty found → IsIndexed app method found
  indexed_native m found sound there native empty = record {
    right = right_none app method found empty;
    asked = λ r pc asked. elim (asked_is app method m there r pc asked) [
      | inl of_one ↦ absurd (no_step of_one.0 of_one.1)
      | inr other ↦ elim other [
        | inl of_argument ↦ let clash : true ≡ false = sym native ∙ of_argument.0 in absurd cc
        | inr h ↦ absurd (no_step h.1.0 h.1.1)
      ]
    ];
  }
    where
      no_step : (step : Step) → In step m.steps → ⊥
      no_step step i = subst (In step) ((sound.bodies m (in_slice_get app.methods method m there)).of_native native) i

module _ {A : Type 0} where
  -- the first so many methods
  pub record IndexedUpTo (app : App) (methods : List (BTreeMap Place (Vec ℕ A))) (i : ℕ) : Type 0 where
    pub long : length methods ≡ i
    pub each : (method : ℕ) (found : BTreeMap Place (Vec ℕ A)) → slice_get methods method ≡ Some found → IsIndexed app method found

  pub indexed_none : (app : App) → IndexedUpTo app [] 0
  indexed_none app = record { long = refl; each = λ method found there. absurd (none-some found there) }

  pub indexed_more : (app : App) (methods : List (BTreeMap Place (Vec ℕ A))) (i : ℕ) (found : BTreeMap Place (Vec ℕ A)) → IndexedUpTo app methods i → IsIndexed app i found →
      IndexedUpTo app (methods ++ found ∷ []) (i + 1)
  indexed_more app methods i found so_far one = record {
    long = one_longer methods ∙ ap (λ n. n + 1) so_far.long;
    each = λ method own there. elim (before_or_last methods method own there) [
      | inl before ↦ so_far.each method own before
      | inr last ↦ subst (λ (b : BTreeMap Place (Vec ℕ A)). IsIndexed app method b) (sym last.1) (subst (λ k. IsIndexed app k found) (sym so_far.long ∙ sym last.0) one)
    ];
  }
    where
      one_longer : (bs : List (BTreeMap Place (Vec ℕ A))) → length (bs ++ found ∷ []) ≡ length bs + 1
      one_longer [] = refl
      one_longer (b ∷ bs) = let e : suc (length bs + 1) ≡ suc (length bs) + 1 = omega arith in ap suc (one_longer bs) ∙ e

      before_or_last : (bs : List (BTreeMap Place (Vec ℕ A))) (k : ℕ) (own : BTreeMap Place (Vec ℕ A)) → slice_get (bs ++ found ∷ []) k ≡ Some own →
          (slice_get bs k ≡ Some own) ⊎ ((k ≡ length bs) × (own ≡ found))
      before_or_last [] zero own there = inr (refl, sym (same_Some found own there))
      before_or_last [] (suc k) own there = absurd (none-some own there)
      before_or_last (b ∷ bs) zero own there = inl there
      before_or_last (b ∷ bs) (suc k) own there = elim (before_or_last bs k own there) [ inl before ↦ inl before | inr last ↦ inr (ap suc last.0, last.1) ]

  pub indexed_all : (app : App) (methods : List (BTreeMap Place (Vec ℕ A))) (i : ℕ) → length app.methods ≤ i → count_of_all methods ≤ most_of_all → IndexedUpTo app methods i →
      AreIndexed app methods
  indexed_all app methods i past few so_far = record { few = few; long = subst (λ n. length app.methods ≤ n) (sym so_far.long) past; each = so_far.each }

  -- what stands at a place, as it is told
  told : (test : Place → Bool) (es : List (Place × Vec ℕ A)) →
      ◌≡◌ {A = List ℕ} (elim (lookup test (map (λ (e : Place × Vec ℕ A). (e.0, e.1.items)) es)) [ Some readers ↦ readers | None ↦ [] ]) (elim (lookup test es) [ Some own ↦ own.items | None ↦ [] ])
  told test [] = refl
  told test (e ∷ es) = by_test (test e.0) (told test es)
    where
      by_test : (b : Bool) →
          ◌≡◌ {A = List ℕ} (elim (lookup test (map (λ (e : Place × Vec ℕ A). (e.0, e.1.items)) es)) [ Some readers ↦ readers | None ↦ [] ]) (elim (lookup test es) [ Some own ↦ own.items | None ↦ [] ]) →
          ◌≡◌ {A = List ℕ} (elim (cond b (Some e.1.items) (lookup test (map (λ (e : Place × Vec ℕ A). (e.0, e.1.items)) es))) [ Some readers ↦ readers | None ↦ [] ])
          (elim (cond b (Some e.1) (lookup test es)) [ Some own ↦ own.items | None ↦ [] ])
      by_test true rest = refl
      by_test false rest = rest

  pub told_at : (found : BTreeMap Place (Vec ℕ A)) (r pc : ℕ) (own : Vec ℕ A) → held found r pc ≡ Some own → listed (places_of found) r pc ≡ own.items
  told_at found r pc own there = told (is_at (place_order.cmp (record { register = r; pc = pc }))) found.entries ∙ ap (λ o. elim o [ Some v ↦ v.items | None ↦ [] ]) there

  pub told_none : (found : BTreeMap Place (Vec ℕ A)) (r pc : ℕ) → held found r pc ≡ None → listed (places_of found) r pc ≡ []
  told_none found r pc absent = told (is_at (place_order.cmp (record { register = r; pc = pc }))) found.entries ∙ ap (λ (o : Option (Vec ℕ A)). elim o [ Some v ↦ v.items | None ↦ [] ]) absent

  -- the places of a method that is there, and of one that is not
  pub method_told : (methods : List (BTreeMap Place (Vec ℕ A))) (method : ℕ) (found : BTreeMap Place (Vec ℕ A)) (r pc : ℕ) → slice_get methods method ≡ Some found →
      listed_in (places_of_all methods) method r pc ≡ listed (places_of found) r pc
  method_told methods method found r pc there =
      ap (λ o. elim o [ Some places ↦ listed places r pc | None ↦ [] ]) (slice_get-map_at places_of methods method found there)

  pub method_untold : (methods : List (BTreeMap Place (Vec ℕ A))) (method : ℕ) (r pc : ℕ) → slice_get methods method ≡ None →
      listed_in (places_of_all methods) method r pc ≡ []
  method_untold methods method r pc absent = ap (λ o. elim o [ Some places ↦ listed places r pc | None ↦ [] ]) (none_mapped methods method absent)
    where
      none_mapped : (ms : List (BTreeMap Place (Vec ℕ A))) (k : ℕ) → slice_get ms k ≡ None → slice_get (map places_of ms) k ≡ None
      none_mapped [] k none = refl
      none_mapped (m ∷ ms) zero none = absurd (none-some m (sym none))
      none_mapped (m ∷ ms) (suc k) none = none_mapped ms k none

  -- what an index of all methods tells
  module _ (app : App) (methods : List (BTreeMap Place (Vec ℕ A))) (indexed : AreIndexed app methods) where
    abbrev tells : Readings
    tells = record { app = app; methods = places_of_all methods }

    is_sound : (method r pc u : ℕ) → In u (readers_from tells method r pc) → ReadAt app method r pc u
    is_sound method r pc u at = by_method (slice_get methods method) refl
      where
        by_place : (found : BTreeMap Place (Vec ℕ A)) → slice_get methods method ≡ Some found → (h : Option (Vec ℕ A)) → held found r pc ≡ h → ReadAt app method r pc u
        by_place found there None absent = absurd (subst (In u) (method_told methods method found r pc there ∙ told_none found r pc absent) at)
        by_place found there (Some own) is =
            ((indexed.each method found there).right.at r pc own is u).0 (subst (In u) (method_told methods method found r pc there ∙ told_at found r pc own is) at)

        by_method : (o : Option (BTreeMap Place (Vec ℕ A))) → slice_get methods method ≡ o → ReadAt app method r pc u
        by_method None absent = absurd (subst (In u) (method_untold methods method r pc absent) at)
        by_method (Some found) there = by_place found there (held found r pc) refl

    -- the method of a place at which rules ask
    has_method : (method r : ℕ) {pc : ℕ} → IsAsked app method r pc → (m : Method) × (slice_get app.methods method ≡ Some m)
    has_method method r (at_entry {m = m} has below same) = (m, has.there)
    has_method method r (behind at given goes) = method_of_step app method _ goes.step goes.there
    has_method method r (result_behind same goes) = method_of_step app method _ goes.step goes.there
    has_method method r (at_handler same caught) = method_of_step app method _ caught.step caught.there

    none_within : {X : Type 0} (xs : List X) (k : ℕ) → k < length xs → slice_get xs k ≡ None → ⊥
    none_within [] k within none = omega (arith, within)
    none_within (x ∷ xs) zero within none = none-some x (sym none)
    none_within (x ∷ xs) (suc k) within none = none_within xs k (omega (arith, within)) none

    is_complete : (method r pc u : ℕ) → IsAsked app method r pc → ReadAt app method r pc u → In u (readers_from tells method r pc)
    is_complete method r pc u asked read = by_method (slice_get methods method) refl
      where
        by_place : (found : BTreeMap Place (Vec ℕ A)) → slice_get methods method ≡ Some found → (h : Option (Vec ℕ A)) → held found r pc ≡ h → In u (readers_from tells method r pc)
        by_place found there None absent = elim ((indexed.each method found there).asked r pc asked) [
          | inl is ↦ let clash : false ≡ true = sym (ap is_some absent) ∙ is in absurd cc
          | inr nowhere ↦ absurd (nowhere u read)
        ]
        by_place found there (Some own) is =
            subst (In u) (sym (method_told methods method found r pc there ∙ told_at found r pc own is)) (((indexed.each method found there).right.at r pc own is u).1 read)

        by_method : (o : Option (BTreeMap Place (Vec ℕ A))) → slice_get methods method ≡ o → In u (readers_from tells method r pc)
        by_method None absent =
            let m = has_method method r asked in
            absurd (none_within methods method (omega (arith, slice_get_within app.methods method m.0 m.1, indexed.long)) absent)
        by_method (Some found) there = by_place found there (held found r pc) refl

    pub are_readers : AreReaders (record { app = app; methods = places_of_all methods })
    are_readers = record { sound = is_sound; complete = is_complete }

-- what an index tells of a place at which rules ask
pub exact_from : (readings : Readings) → AreReaders readings → (method r pc : ℕ) → IsAsked readings.app method r pc → (readers : List ℕ) → readers ≡ readers_from readings method r pc →
    (u : ℕ) → In u readers ↔ ReadAt readings.app method r pc u
exact_from readings are method r pc asked readers is u = (
  λ at. are.sound method r pc u (subst (In u) is at),
  λ read. subst (In u) (sym is) (are.complete method r pc u asked read),
)

-- the method of a number
pub method_at : (methods : List Method) (i : ℕ) (m : Method) → i < length methods → m ≡ get_or methods i m → slice_get methods i ≡ Some m
method_at methods i m within is = slice_get_read methods (length methods) i m refl within is

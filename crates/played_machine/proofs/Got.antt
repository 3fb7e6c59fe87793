-- Steps within a method, and raises, are the machine's.
use Rattle.std.proofs.Common.{◌≡◌, ◌==◌, inl, inr, ℕ, Bool, true, false, cond, List, [], ◌∷◌, ◌++◌, map, flat_map, length, Option, Some, None, refl, sym, ◌∙◌, subst}
use Rattle.std.specs.Prelude.{option_to_list}
use Rattle.std.proofs.lemmas.Bool.{eqb-true}
use Rattle.std.proofs.lemmas.Option.{none-some, same_Some}
use Rattle.vet_base.specs.declared.key_id.KeyId.{KeyId}
use Rattle.vet_base.specs.Members.{In}
use Rattle.vet_base.proofs.Members.{in_either, in_flat, from_flat, in_map, from_map}
use Rattle.app_machine.specs.declared.app.App.{App}
use Rattle.app_machine.specs.declared.lists.Lists.{Lists}
use Rattle.app_machine.specs.declared.method.Act.{Act}
use Rattle.app_machine.specs.declared.method.Act.TheVariants.{Skip, Join, Move, Blank, New, Fill, Get, Put, GetStatic, PutStatic, Call, Return, Throw, TakeResult, TakeException, Go}
use Rattle.app_machine.specs.declared.method.Step.{Step}
use Rattle.app_machine.specs.Calls.{Raises, is_caught, unwinds, ends_event}
use Rattle.app_machine.specs.Heap.{Value, Object, blank, labelled, put_to, EntryAt, Gets, entry_of, no_element, no_entry}
use Rattle.app_machine.specs.Local.{AreElements, AreOwnLabels, Local, skips, goes, blanks, moves, takes_result, takes_exception, joins, makes, fills, gets, puts, gets_static, puts_static}
use Rattle.app_machine.specs.Lookups.{elem_key, step_at, ActAt, Goes, Catches}
use Rattle.app_machine.specs.State.{result_register, exception_register, write_all, write, World, Frame, object_at, new_object}
use Rattle.played_machine.specs.Drawing.{give, one_of, Draws}
use Rattle.played_machine.specs.Local.{Playing, playing, catches_of, moved, first_or_blank, got_at, got, own_labels, elements, with_object, static_read, local, raised_to, raised}
use Rattle.played_machine.specs.Reading.{values_at}
use Rattle.played_machine.proofs.Chosen.{gave, followed, one_drawn}
use Rattle.played_machine.proofs.Ordered.{in_reverse, from_reverse, in_ascending, from_ascending}
use Rattle.played_machine.proofs.Reached.{value_there, value_read, same_key}

-- a get
module _ (heap : List Object) (v : Value) (k : KeyId) where
  no_place : v.place ≡ None → Gets heap v k blank
  no_place none = no_entry (λ p w is at. absurd (none-some p (sym none ∙ is)))

  is_same_place : (p q : ℕ) → v.place ≡ Some p → v.place ≡ Some q → q ≡ p
  is_same_place p q one other = same_Some q p (sym other ∙ one)

  of_field : (p : ℕ) → v.place ≡ Some p → (vs : List Value) → ((w : Value) → In w vs → EntryAt heap p k w) → ((w : Value) → EntryAt heap p k w → In w vs) → Gets heap v k (first_or_blank vs)
  of_field p is [] there read = no_entry (λ q w at entry. read w (subst (λ x. EntryAt heap x k w) (is_same_place p q is at) entry))
  of_field p is (w ∷ vs) there read = entry_of is (there w (inl refl))

  of_element : (p : ℕ) → v.place ≡ Some p → k ≡ elem_key → (x : Value) → In x (values_at heap p k ++ blank ∷ []) → Gets heap v k x
  of_element p is element x h = elim (in_either x (values_at heap p k) (blank ∷ []) h) [
    | inl value ↦ entry_of is (value_there heap p k x value)
    | inr last ↦ elim last [ inl same ↦ subst (λ y. Gets heap v k y) (sym same) (no_element element) | inr none ↦ absurd none ]
  ]

  pub gets_so : (x : Value) → Draws (got heap v k) x → Gets heap v k x
  unfolding got
  gets_so x d = by_place v.place refl d
    where
      at_place : (p : ℕ) → v.place ≡ Some p → (b : Bool) → (k.0 == 0) ≡ b → Draws (cond b (one_of (values_at heap p k ++ blank ∷ [])) (give (first_or_blank (values_at heap p k)))) x → Gets heap v k x
      at_place p is true e d = of_element p is (same_key k elem_key (eqb-true k.0 0 e)) x (one_drawn (values_at heap p k ++ blank ∷ []) x d)
      at_place p is false e d = subst (λ y. Gets heap v k y) (sym (gave (first_or_blank (values_at heap p k)) x d)) (of_field p is (values_at heap p k) (value_there heap p k) (value_read heap p k))

      by_place : (o : Option ℕ) → v.place ≡ o → Draws (got_at heap o k) x → Gets heap v k x
      by_place None is d = subst (λ y. Gets heap v k y) (sym (gave blank x d)) (no_place is)
      by_place (Some p) is d = at_place p is (k.0 == 0) refl d

-- labels and elements of registers
pub own_labels_so : (f : Frame) (xs : List ℕ) → AreOwnLabels f xs (own_labels f xs)
own_labels_so f xs l = (
  λ h. from_flat (λ x. (f.registers x).labels) xs l (from_ascending (flat_map (λ x. (f.registers x).labels) xs) l h),
  λ h. in_ascending (flat_map (λ x. (f.registers x).labels) xs) l (in_flat (λ x. (f.registers x).labels) xs h.0 l h.1 h.2),
)

elements_so : (f : Frame) (xs : List ℕ) → AreElements f xs (elements f xs)
elements_so f xs e = (
  λ h. from_map (λ x. (elem_key, f.registers x)) xs e (from_reverse (map (λ x. (elem_key, f.registers x)) xs) e h),
  λ h. in_reverse (map (λ x. (elem_key, f.registers x)) xs) e (subst (λ z. In z (map (λ x. (elem_key, f.registers x)) xs)) (sym h.2) (in_map (λ x. (elem_key, f.registers x)) xs h.0 h.1)),
)

-- an act that neither calls, returns nor throws
abbrev pub is_local : Act → Bool
is_local (Call kind at args) = false
is_local (Return x) = false
is_local (Throw x) = false
is_local act = true

module _ (app : App) (lists : Lists) (w : World) (f : Frame) (pc : ℕ) (next : Goes app f.method f.pc pc) where
  abbrev LocalTo : World × (ℕ → Value) → Type 0
  LocalTo done = Local app lists w f done.0 (moved f pc done.1)

  as_given : (one done : World × (ℕ → Value)) → LocalTo one → Draws (give one) done → LocalTo done
  as_given one done step d = subst LocalTo (sym (gave one done d)) step

  pub local_so : (act : Act) → is_local act ≡ true → ActAt app f.method f.pc act → (done : World × (ℕ → Value)) → Draws (local app lists w f act) done → LocalTo done
  unfolding local
  local_so Skip stays at done d = as_given (w, f.registers) done (skips at next) d
  local_so Go stays at done d = as_given (w, f.registers) done (goes at next) d
  local_so (Blank ds) stays at done d = as_given (w, write_all f.registers ds blank) done (blanks at next) d
  local_so (Move ds x) stays at done d = as_given (w, write_all f.registers ds (f.registers x)) done (moves at next) d
  local_so (TakeResult ds) stays at done d = as_given (w, write_all f.registers ds (f.registers result_register)) done (takes_result at next) d
  local_so (TakeException r) stays at done d = as_given (w, write f.registers r (f.registers exception_register)) done (takes_exception at next) d
  local_so (Join ds xs) stays at done d = as_given (w, write_all f.registers ds (labelled (own_labels f xs))) done (joins (own_labels f xs) at next (own_labels_so f xs)) d
  local_so (New r class size) stays at done d =
      as_given (with_object w (new_object class), write f.registers r (record { place = Some (length w.heap); labels = own_labels f (option_to_list size) })) done
      (makes (own_labels f (option_to_list size)) at next (own_labels_so f (option_to_list size))) d
  local_so (Fill xs class) stays at done d =
      as_given (with_object w (record { class = class; entries = elements f xs }), write f.registers result_register (object_at (Some (length w.heap)))) done
      (fills (elements f xs) at next (elements_so f xs)) d
  local_so (Get ds o k) stays at done d =
      let h = followed (got w.heap (f.registers o) k) (λ v. give (w, write_all f.registers ds v)) done d in
      as_given (w, write_all f.registers ds h.by) done (gets at next (gets_so w.heap (f.registers o) k h.by h.drawn)) h.after
  local_so (Put o k x) stays at done d = as_given (record w { heap = put_to w.heap (f.registers o).place k (f.registers x) }, f.registers) done (puts at next) d
  local_so (GetStatic ds g) stays at done d = as_given (w, write_all f.registers ds (static_read app lists w g)) done (gets_static at next) d
  local_so (PutStatic g x) stays at done d = as_given (record w { statics = write w.statics g (f.registers x) }, f.registers) done (puts_static at next) d
  local_so (Call kind to args) stays at done d = absurd cc
  local_so (Return x) stays at done d = absurd cc
  local_so (Throw x) stays at done d = absurd cc

-- a raise
module _ (app : App) (v : Value) (w : World) where
  pub record RaisedTo (fs : List Frame) (t : Playing) : Type 0 where
    pub world : t.world ≡ w
    pub frames : Raises app fs v t.frames

  covers : (f : Frame) (pc : ℕ) (o : Option Step) → step_at app f.method f.pc ≡ o → In pc (catches_of o) → Catches app f.method f.pc pc
  covers f pc None e h = absurd h
  covers f pc (Some step) e h = record { step = step; there = e; catch = h }

  is_handler : (f : Frame) (pc : ℕ) → In (Some pc) (map (λ pc. Some pc) (catches_of (step_at app f.method f.pc)) ++ None ∷ []) → In pc (catches_of (step_at app f.method f.pc))
  is_handler f pc h = elim (in_either (Some pc) (map (λ pc. Some pc) (catches_of (step_at app f.method f.pc))) (None ∷ []) h) [
    | inl one ↦ let found = from_map (λ (pc : ℕ). Some pc) (catches_of (step_at app f.method f.pc)) (Some pc) one in subst (λ z. In z (catches_of (step_at app f.method f.pc))) (sym (same_Some pc found.0 found.2)) found.1
    | inr last ↦ elim last [ inl same ↦ absurd (none-some pc (sym same)) | inr none ↦ absurd none ]
  ]

  pub raised_so : (fs : List Frame) (t : Playing) → Draws (raised app v w fs) t → RaisedTo fs t
  raised_so [] t d = subst (RaisedTo []) (sym (gave (playing w []) t d)) (record { world = refl; frames = ends_event })
  raised_so (f ∷ fs) t d =
      let h = followed (one_of (map (λ pc. Some pc) (catches_of (step_at app f.method f.pc)) ++ None ∷ [])) (raised_to app v w f fs (raised app v w fs)) t d in
      by_choice h.by (one_drawn (map (λ pc. Some pc) (catches_of (step_at app f.method f.pc)) ++ None ∷ []) h.by h.drawn) h.after (raised_so fs t)
    where
      by_choice : (to : Option ℕ) → In to (map (λ pc. Some pc) (catches_of (step_at app f.method f.pc)) ++ None ∷ []) → Draws (raised_to app v w f fs (raised app v w fs) to) t →
          (Draws (raised app v w fs) t → RaisedTo fs t) → RaisedTo (f ∷ fs) t
      by_choice (Some pc) at d upward =
          subst (RaisedTo (f ∷ fs)) (sym (gave (playing w (moved f pc (write f.registers exception_register v) ∷ fs)) t d))
          (record { world = refl; frames = is_caught (covers f pc (step_at app f.method f.pc) refl (is_handler f pc at)) })
      by_choice None at d upward = let rest = upward d in record { world = rest.world; frames = unwinds rest.frames }

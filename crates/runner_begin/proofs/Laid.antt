-- The argument registers of a body, parameter by parameter.
use Rattle.std.proofs.Common.{◌≡◌, ℕ, ◌+◌, ◌<◌, ◌≤◌, Bool, true, false, cond, List, [], ◌∷◌, ◌++◌, map, drop, length, get_or, Option, Some, None, refl, sym, ap, ◌∙◌, append_assoc, append-nil}
use Rattle.std.proofs.lemmas.List.{drop_all, drop_more, map_push}
use Rattle.app_machine.specs.declared.method.Method.{Method}
use Rattle.app_machine.specs.Events.{layout, layout_from}
use Rattle.app_machine.specs.Heap.{Value}
use Rattle.app_machine.specs.Names.{Name, is_wide}
use Rattle.app_machine.specs.Run.{frame_of}
use Rattle.app_machine.specs.State.{Frame, value_or_blank}
use Rattle.played_machine.specs.Coming.{event_frame}
use Rattle.runner_begin.specs.Begun.{frames_with, receiver_by}
use Rattle.runner_begin.specs.Parameters.{labels_by}
use Rattle.runner_calls.specs.Frames.{entered_with}
use Rattle.runner_state.specs.declared.labels.Labels.{Labels}
use Rattle.runner_state.specs.declared.value.Held.{Held}
use Rattle.runner_state.specs.Shown.{labels_of, value_of}

-- the registers of one value
abbrev pub both_of : Bool → Value → List Value
both_of b v = cond b (v ∷ v ∷ []) (v ∷ [])

module _ (values : List Value) where
  abbrev pub laid : ℕ → List Name → List Value
  laid i types = map (value_or_blank values) (layout_from i types)

  first_laid : (i : ℕ) (type : Name) (types : List Name) → laid i (type ∷ types) ≡ both_of (is_wide type) (value_or_blank values i) ++ laid (i + 1) types
  first_laid i type types = by_test (is_wide type)
    where
      by_test : (b : Bool) → map (value_or_blank values) (cond b (i ∷ i ∷ layout_from (i + 1) types) (i ∷ layout_from (i + 1) types)) ≡ both_of b (value_or_blank values i) ++ laid (i + 1) types
      by_test true = refl
      by_test false = refl

  module _ (old : List Value) (types : List Name) where
    -- those of the first i parameters are there
    abbrev pub LaidFirst : List Value → ℕ → Type 0
    LaidFirst ys i = ys ++ laid (i + 1) (drop i types) ≡ old ++ laid 1 types

    pub none_laid : LaidFirst old 0
    none_laid = refl

    pub one_laid : (ys new : List Value) (i : ℕ) (type : Name) (v : Value) (b : Bool) → i < length types → type ≡ get_or types i type → v ≡ value_or_blank values (i + 1) → b ≡ is_wide type → new ≡ ys ++ both_of b v → LaidFirst ys i → LaidFirst new (i + 1)
    one_laid ys new i type v b within at is wide more so_far =
        ap (λ vs. vs ++ laid (i + 1 + 1) (drop (i + 1) types)) (more ∙ (ap (λ w. ys ++ both_of b w) is ∙ ap (λ t. ys ++ both_of t (value_or_blank values (i + 1))) wide))
        ∙ (append_assoc ys (both_of (is_wide type) (value_or_blank values (i + 1))) (laid (i + 1 + 1) (drop (i + 1) types))
        ∙ (ap (λ vs. ys ++ vs) (sym (first_laid (i + 1) type (drop (i + 1) types)) ∙ ap (λ t. laid (i + 1) (t ∷ drop (i + 1) types)) at)
        ∙ (ap (λ ts. ys ++ laid (i + 1) ts) (sym (drop_more types i type within)) ∙ so_far)))

    pub all_laid : (ys : List Value) (i : ℕ) → length types ≤ i → LaidFirst ys i → ys ≡ old ++ laid 1 types
    all_laid ys i past so_far = sym (append-nil ys) ∙ (ap (λ ts. ys ++ laid (i + 1) ts) (sym (drop_all i types past)) ∙ so_far)

  -- with the receiver in front
  pub all_with : (types : List Name) (first ys : List Value) → first ≡ value_or_blank values 0 ∷ [] → ys ≡ first ++ laid 1 types → ys ≡ map (value_or_blank values) (layout types)
  unfolding layout
  all_with types first ys one is = is ∙ ap (λ vs. vs ++ laid 1 types) one

abbrev held_with : Option ℕ → Labels → Held
held_with place labels = record { place = place; labels = labels }

abbrev value_with : Option ℕ → List ℕ → Value
value_with place labels = record { place = place; labels = labels }

-- the receiver in front of the parameters
pub with_receiver : (place : Option ℕ) (sources : List (ℕ × ℕ)) (labels : Labels) (before first all parameters : List Held) → before ≡ [] → first ≡ before ++ held_with place labels ∷ [] → all ≡ first ++ parameters → labels_of labels ≡ labels_by sources 0 →
    map value_of all ≡ receiver_by place sources ∷ map value_of parameters
with_receiver place sources labels before first all parameters none one more are =
    ap (map value_of) (more ∙ ap (λ hs. hs ++ parameters) (one ∙ ap (λ hs. hs ++ held_with place labels ∷ []) none))
    ∙ ap (λ (ls : List ℕ). value_with place ls ∷ map value_of parameters) are

-- the frame of a body that begins where none runs
module _ (body : ℕ) (o : Option Method) where
  pub entered_none : (values : List Value) (fs : List Frame) → None ≡ o → fs ≡ [] → fs ≡ frames_with body o values
  entered_none values fs none idle = idle ∙ ap (λ (p : Option Method). frames_with body p values) none

  pub entered_is : (m : Method) (values arguments : List Value) (fs : List Frame) → Some m ≡ o → arguments ≡ map (value_or_blank values) (layout m.at.proto.params) → fs ≡ [] → entered_with o body arguments false fs ≡ frames_with body o values
  entered_is m values arguments fs some are idle =
      ap (λ (p : Option Method). entered_with p body arguments false fs) (sym some)
      ∙ (ap (λ (vs : List Value). frame_of body m vs false ∷ fs) are
      ∙ (ap (λ (gs : List Frame). event_frame body m values ∷ gs) idle
      ∙ ap (λ (p : Option Method). frames_with body p values) some))

-- the second register of a wide value
module _ (held : Held) (b : Bool) (old : List Held) where
  pub no_second : b ≡ false → map value_of old ≡ map value_of old ++ cond b (value_of held ∷ []) []
  no_second narrow = sym (append-nil (map value_of old)) ∙ ap (λ c. map value_of old ++ cond c (value_of held ∷ []) []) (sym narrow)

  pub with_second : (new : List Held) → b ≡ true → new ≡ old ++ held ∷ [] → map value_of new ≡ map value_of old ++ cond b (value_of held ∷ []) []
  with_second new wide more = ap (map value_of) more ∙ (map_push value_of old held ∙ ap (λ c. map value_of old ++ cond c (value_of held ∷ []) []) (sym wide))

  -- and both
  pub with_both : (first : List Held) (new : List Value) → first ≡ old ++ held ∷ [] → new ≡ map value_of first ++ cond b (value_of held ∷ []) [] → new ≡ map value_of old ++ both_of b (value_of held)
  with_both first new one two =
      two
      ∙ (ap (λ vs. vs ++ cond b (value_of held ∷ []) []) (ap (map value_of) one ∙ map_push value_of old held)
      ∙ (append_assoc (map value_of old) (value_of held ∷ []) (cond b (value_of held ∷ []) []) ∙ ap (λ vs. map value_of old ++ vs) (by_test b)))
    where
      by_test : (t : Bool) → value_of held ∷ cond t (value_of held ∷ []) [] ≡ both_of t (value_of held)
      by_test true = refl
      by_test false = refl

-- the first register
pub first_register : (before first : List Held) (held : Held) (v : Value) → before ≡ [] → first ≡ before ++ held ∷ [] → value_of held ≡ v → map value_of first ≡ v ∷ []
first_register before first held v none one is = ap (map value_of) (one ∙ ap (λ hs. hs ++ held ∷ []) none) ∙ ap (λ w. w ∷ []) is

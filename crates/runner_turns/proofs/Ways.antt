-- The ways of the machine as the code has them, and one of them by its index.
use Rattle.std.proofs.Common.{◌≡◌, ◌+◌, ◌-◌, ◌<◌, ◌≤◌, ℕ, zero, suc, true, List, [], ◌∷◌, ◌++◌, map, length, Option, Some, None, slice_get, refl, sym, ap, ◌∙◌, subst, append_assoc, length-append, arith}
use Rattle.std.specs.Prelude.{option_map, option_to_list}
use Rattle.std.specs.List.{cons_option}
use Rattle.std.proofs.lemmas.List.{length-map}
use Rattle.std.proofs.lemmas.Option.{none-some, same_Some}
use Rattle.vet_base.proofs.Lists.{slice_get-append, slice_get-map_at}
use Rattle.app_machine.specs.declared.app.App.{App}
use Rattle.app_machine.specs.declared.lists.Lists.{Lists}
use Rattle.app_machine.specs.declared.method.Method.{Method}
use Rattle.app_machine.specs.declared.method.Step.{Step}
use Rattle.app_machine.specs.Heap.{blank}
use Rattle.app_machine.specs.Lookups.{initialisers, step_at}
use Rattle.app_machine.specs.State.{World, Frame}
use Rattle.played_machine.specs.Calling.{bodies_with_code, code_of}
use Rattle.played_machine.specs.Drawing.{Drawing, continue, draw, given, one_of, ◌>>=◌}
use Rattle.played_machine.specs.Local.{Playing, playing, raised}
use Rattle.played_machine.specs.Step.{enters, initialisers_at, step_there, ways}
use Rattle.runner_calls.specs.Frames.{entered_with, number_of}
use Rattle.runner_below.proofs.Looked.{behind}
use Rattle.runner_calls.proofs.Raising.{one_none}
use Rattle.runner_steps.specs.declared.doing.Doing.{Doing}
use Rattle.runner_steps.specs.Doing.{does_there, drawing_in, drawing_of}
use Rattle.runner_steps.specs.State.{on_running}
use Rattle.runner_turns.specs.Ways.{begins, way_at, ways_of}

module _ (app : App) (w : World) (fs : List Frame) where
  begins_code : (body : ℕ) (m : Method) → code_of app body ≡ Some m → enters w fs (body, m) ≡ begins app w fs body
  begins_code body m is = ap (λ (o : Option Method). λ (bytes : List ℕ). Some (playing w (entered_with o body [] true fs), bytes)) (sym is)

  by_code : (body : ℕ) (rest : List (ℕ × Method)) (o : Option Method) → code_of app body ≡ o → map (enters w fs) rest ≡ map (begins app w fs) (map number_of rest) →
      map (enters w fs) (cons_option (option_map (λ (m : Method). (body, m)) o) rest) ≡ map (begins app w fs) (map number_of (cons_option (option_map (λ (m : Method). (body, m)) o) rest))
  by_code body rest None is later = later
  by_code body rest (Some m) is later = ap (λ d. d ∷ map (enters w fs) rest) (begins_code body m is) ∙ ap (λ ds. begins app w fs body ∷ ds) later

  all_begin : (bodies : List ℕ) → map (enters w fs) (bodies_with_code app bodies) ≡ map (begins app w fs) (map number_of (bodies_with_code app bodies))
  all_begin [] = refl
  all_begin (body ∷ bodies) = by_code body (bodies_with_code app bodies) (code_of app body) refl (all_begin bodies)

  first_begin : (o : Option Step) → map (enters w fs) (initialisers_at app o) ≡ map (begins app w fs) (map number_of (initialisers_at app o))
  first_begin None = refl
  first_begin (Some step) = all_begin (initialisers app step.act)

pub ways_are : (app : App) (lists : Lists) (w : World) (f : Frame) (fs : List Frame) (first : List ℕ) → first ≡ map number_of (initialisers_at app (step_at app f.method f.pc)) →
    ways_of app w (f ∷ fs) first (step_there app lists w f fs (step_at app f.method f.pc)) ≡ ways app lists w f fs
unfolding ways
ways_are app lists w f fs first is =
    ap (λ (ds : List (Drawing Playing)). ds ++ option_to_list (step_there app lists w f fs (step_at app f.method f.pc)) ++ raised app blank w (f ∷ fs) ∷ [])
    (ap (map (begins app w (f ∷ fs))) is ∙ sym (first_begin app w (f ∷ fs) (step_at app f.method f.pc)))

-- one of the ways
module _ (ways : List (Drawing Playing)) (n : ℕ) (bytes : List ℕ) (long : n ≡ length ways) where
  pub none_drawn : None ≡ draw n bytes → (one_of ways >>= λ way. way) bytes ≡ None
  none_drawn drawn = sym (ap (continue (λ way. way)) (one_none ways n bytes long drawn))

  pub one_drawn : (i : ℕ) (left : List ℕ) → Some (i, left) ≡ draw n bytes → way_at ways i left ≡ (one_of ways >>= λ way. way) bytes
  unfolding one_of
  one_drawn i left drawn = ap (continue (λ way. way)) (ap (continue (λ k. given (slice_get ways k))) (drawn ∙ ap (λ m. draw m bytes) long))

way_there : (ways : List (Drawing Playing)) (i : ℕ) (way : Drawing Playing) (bytes : List ℕ) → slice_get ways i ≡ Some way → way_at ways i bytes ≡ way bytes
way_there ways i way bytes is = ap (λ o. continue (λ w. w) (given o bytes)) is

module _ (app : App) (w : World) (fs : List Frame) (first : List ℕ) (does : Option (Drawing Playing)) where
  pub count_ways : (n m : ℕ) → m ≡ length (option_to_list does) → n ≡ length first + m + 1 → n ≡ length (ways_of app w fs first does)
  count_ways n m own is =
      let one : length (map (begins app w fs) first ++ option_to_list does ++ raised app blank w fs ∷ []) ≡ length (map (begins app w fs) first ++ option_to_list does) + 1 = length-append (map (begins app w fs) first ++ option_to_list does) (raised app blank w fs ∷ []) in
      let two : length (map (begins app w fs) first ++ option_to_list does) ≡ length (map (begins app w fs) first) + length (option_to_list does) = length-append (map (begins app w fs) first) (option_to_list does) in
      let three : length (map (begins app w fs) first) ≡ length first = length-map first (begins app w fs) in
      omega (arith, own, is, one, two, three)

  split : ways_of app w fs first does ≡ map (begins app w fs) first ++ (option_to_list does ++ raised app blank w fs ∷ [])
  split = append_assoc (map (begins app w fs) first) (option_to_list does) (raised app blank w fs ∷ [])

  pub of_first : (i body : ℕ) (bytes : List ℕ) → slice_get first i ≡ Some body → begins app w fs body bytes ≡ way_at (ways_of app w fs first does) i bytes
  of_first i body bytes is =
      sym (way_there (ways_of app w fs first does) i (begins app w fs body) bytes
      (ap (λ ds. slice_get ds i) split ∙ slice_get-append (map (begins app w fs) first) (option_to_list does ++ raised app blank w fs ∷ []) i (begins app w fs body) (slice_get-map_at (begins app w fs) first i body is)))

  pub of_others : (i : ℕ) (bytes : List ℕ) → length first ≤ i → way_at (option_to_list does ++ raised app blank w fs ∷ []) (i - length first) bytes ≡ way_at (ways_of app w fs first does) i bytes
  of_others i bytes past =
      let three : length (map (begins app w fs) first) ≡ length first = length-map first (begins app w fs) in
      ap (λ o. continue (λ (way : Drawing Playing). way) (given o bytes))
      (sym (ap (λ ds. slice_get ds i) split ∙ (behind (map (begins app w fs) first) (option_to_list does ++ raised app blank w fs ∷ []) i (omega (arith, past, three)) ∙ ap (λ n. slice_get (option_to_list does ++ raised app blank w fs ∷ []) (i - n)) three)))

-- what the instruction does, where there is a frame
module _ (app : App) (lists : Lists) (w : World) where
  pub count_own : (fs : List Frame) (does : Option Doing) → 0 < length fs → length (option_to_list does) ≡ length (option_to_list (drawing_of app lists w fs does))
  count_own [] does runs = absurd (omega (arith, runs))
  count_own (f ∷ fs) None runs = refl
  count_own (f ∷ fs) (Some d) runs = refl

  pub none_own : (fs : List Frame) (i : ℕ) (bytes : List ℕ) → 0 < length fs → i ≤ 0 → raised app blank w fs bytes ≡ way_at (option_to_list (drawing_of app lists w fs None) ++ raised app blank w fs ∷ []) i bytes
  none_own [] i bytes runs none = absurd (omega (arith, runs))
  none_own (f ∷ fs) zero bytes runs none = refl
  none_own (f ∷ fs) (suc i) bytes runs none = absurd (omega (arith, none))

  pub some_own : (fs : List Frame) (d : Doing) (i : ℕ) (bytes : List ℕ) → 0 < length fs →
      way_at (on_running (λ g gs. drawing_in app lists w g gs d) fs ∷ raised app blank w fs ∷ []) i bytes ≡ way_at (option_to_list (drawing_of app lists w fs (Some d)) ++ raised app blank w fs ∷ []) i bytes
  some_own [] d i bytes runs = absurd (omega (arith, runs))
  some_own (f ∷ fs) d i bytes runs = refl

  pub is_own : (fs : List Frame) (d : Doing) (i : ℕ) (bytes : List ℕ) → i ≡ 0 → on_running (λ g gs. drawing_in app lists w g gs d) fs bytes ≡ way_at (on_running (λ g gs. drawing_in app lists w g gs d) fs ∷ raised app blank w fs ∷ []) i bytes
  is_own fs d i bytes is = sym (ap (λ k. way_at (on_running (λ g gs. drawing_in app lists w g gs d) fs ∷ raised app blank w fs ∷ []) k bytes) is)

  pub is_raise : (fs : List Frame) (d : Doing) (i : ℕ) (bytes : List ℕ) → i ≡ 1 → raised app blank w fs bytes ≡ way_at (on_running (λ g gs. drawing_in app lists w g gs d) fs ∷ raised app blank w fs ∷ []) i bytes
  is_raise fs d i bytes is = sym (ap (λ k. way_at (on_running (λ g gs. drawing_in app lists w g gs d) fs ∷ raised app blank w fs ∷ []) k bytes) is)

  -- a step of the running frame is one of its ways
  pub turn_is : (fs : List Frame) (f : Frame) (first : List ℕ) (does : Option (Drawing Playing)) (bytes : List ℕ) → Some f ≡ slice_get fs 0 →
      first ≡ map number_of (initialisers_at app (step_at app f.method f.pc)) → does ≡ does_there app lists w fs →
      (one_of (ways_of app w fs first does) >>= λ way. way) bytes ≡ on_running (λ g gs. one_of (ways app lists w g gs) >>= λ way. way) fs bytes
  turn_is [] f first does bytes top are is = absurd (none-some f (sym top))
  turn_is (g ∷ fs) f first does bytes top are is =
      ap (λ ds. (one_of ds >>= λ way. way) bytes)
      (ap (ways_of app w (g ∷ fs) first) is
      ∙ ways_are app lists w g fs first (subst (λ h. first ≡ map number_of (initialisers_at app (step_at app h.method h.pc))) (same_Some f g top) are))

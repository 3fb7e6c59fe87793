-- A step that is drawn is the machine's, and so is a run.
use Rattle.std.proofs.Common.{◌≡◌, ◌==◌, ◌⊎◌, inl, inr, ℕ, zero, suc, Bool, true, false, cond, List, [], ◌∷◌, ◌++◌, map, length, Option, Some, None, option_map, refl, sym, ap, subst}
use Rattle.std.specs.Prelude.{option_to_list}
use Rattle.std.proofs.lemmas.Option.{none-some, same_Some}
use Rattle.vet_base.specs.Members.{In}
use Rattle.vet_base.proofs.Members.{in_either, from_map, from_filter_map}
use Rattle.app_machine.specs.declared.app.App.{App}
use Rattle.app_machine.specs.declared.call.CallKind.{CallKind}
use Rattle.app_machine.specs.declared.call.MethodRef.{MethodRef}
use Rattle.app_machine.specs.declared.lists.Lists.{Lists}
use Rattle.app_machine.specs.declared.method.Act.{Act}
use Rattle.app_machine.specs.declared.method.Act.TheVariants.{Skip, Join, Move, Blank, New, Fill, Get, Put, GetStatic, PutStatic, Call, Return, Throw, TakeResult, TakeException, Go}
use Rattle.app_machine.specs.declared.method.Method.{Method}
use Rattle.app_machine.specs.declared.method.Step.{Step}
use Rattle.app_machine.specs.declared.summary.Summary.{Summary}
use Rattle.app_machine.specs.Calls.{arguments, returned, hand}
use Rattle.app_machine.specs.Heap.{Value, blank}
use Rattle.app_machine.specs.Library.{positions, shared_named, UsesRow}
use Rattle.app_machine.specs.Lookups.{Target, Body, Library, Nothing, step_at, initialisers, is_static_call, ActAt, Goes}
use Rattle.app_machine.specs.Names.{Name}
use Rattle.app_machine.specs.Run.{frame_of, Steps, goes_on, raises, throws, calls, calls_library, library_raises, returns, initialises, has_initialised, ends, Run, starts, then}
use Rattle.app_machine.specs.SoundLists.{SoundLists}
use Rattle.app_machine.specs.State.{result_register, write, World, Frame}
use Rattle.app_model.specs.EventLaws.{EventsAreExact}
use Rattle.played_machine.specs.Calling.{code_of, with_code, call_target, called_row}
use Rattle.played_machine.specs.Coming.{events, begun}
use Rattle.played_machine.specs.Drawing.{Drawing, give, ◌>>=◌, draw, one_of, Draws}
use Rattle.played_machine.specs.Drawn.{start, drawn_step, and_after, drawn_within, drawn}
use Rattle.played_machine.specs.Librarian.{library_call}
use Rattle.played_machine.specs.Local.{Playing, playing, next_of, moved, local, raised}
use Rattle.played_machine.specs.Step as stepping
use Rattle.played_machine.specs.Step.{where_next, acts, resumes, resumes_or_raises, calls_body, calls_row, calls_target, does, enters, initialisers_at, step_there, ways, step}
use Rattle.played_machine.proofs.Called.{has_code, calls_so, uses_so, Named, named_so, shared_within}
use Rattle.played_machine.proofs.Chosen.{gave, followed, one_drawn}
use Rattle.played_machine.proofs.Got.{is_local, local_so, raised_so}
use Rattle.played_machine.proofs.Librarian.{library_so}
use Rattle.played_machine.proofs.Running.{events_so, begun_so}

-- control goes to one of the next
goes_there : (app : App) (method pc : ℕ) (o : Option Step) → step_at app method pc ≡ o → (to : ℕ) → In to (next_of o) → Goes app method pc to
goes_there app method pc None there to h = absurd h
goes_there app method pc (Some s) there to h = record { step = s; there = there; next = h }

module _ (app : App) (lists : Lists) (exact : EventsAreExact app lists) (sound : SoundLists lists) (w : World) (f : Frame) (fs : List Frame) where
  abbrev StepsTo : Playing → Type 0
  StepsTo t = Steps app lists w (f ∷ fs) t.world t.frames

  as_given : (one t : Playing) → StepsTo one → Draws (give one) t → StepsTo t
  as_given one t is d = subst StepsTo (sym (gave one t d)) is

  raise_so : (t : Playing) → Draws (raised app blank w (f ∷ fs)) t → StepsTo t
  raise_so t d =
      let to = raised_so app blank w (f ∷ fs) t d in
      subst (λ (z : World). Steps app lists w (f ∷ fs) z t.frames) (sym to.world) (raises to.frames)

  module _ (next : List ℕ) (there : (to : ℕ) → In to next → Goes app f.method f.pc to) where
    -- an act that neither calls, returns nor throws
    acts_so : (act : Act) → is_local act ≡ true → ActAt app f.method f.pc act → (t : Playing) → Draws (acts app lists w f fs next act) t → StepsTo t
    acts_so act stays at t d =
        let done = followed (local app lists w f act) (λ (done : World × (ℕ → Value)). one_of next >>= λ pc. give (playing done.0 (moved f pc done.1 ∷ fs))) t d in
        let to = followed (one_of next) (λ pc. give (playing done.by.0 (moved f pc done.by.1 ∷ fs))) t done.after in
        as_given (playing done.by.0 (moved f to.by done.by.1 ∷ fs)) t (goes_on (local_so app lists w f to.by (there to.by (one_drawn next to.by to.drawn)) act stays at done.by done.drawn)) to.after

  -- a library call
  module _ (kind : CallKind) (at : MethodRef) (args : List ℕ) (row : Summary) (next : List ℕ) (there : (to : ℕ) → In to next → Goes app f.method f.pc to) (is : ActAt app f.method f.pc (Call kind at args)) (uses : UsesRow app lists w.heap f kind at args row) where
    named : Named lists (shared_named row at.proto.ret)
    named = named_so lists row at.proto.ret (shared_within lists sound uses.key at (is_static_call kind) row uses.is_row)

    by_way : (done : World × Value) → Draws (library_call app lists w f (positions kind at args) at.proto.ret row) done → (way : ℕ) (t : Playing) → Draws (resumes_or_raises app done.0 done.1 f fs next way) t → StepsTo t
    by_way done call way t d = by_zero (way == 0) d
      where
        by_zero : (b : Bool) → Draws (cond b (resumes done.0 done.1 f fs next) (raised app blank done.0 (f ∷ fs))) t → StepsTo t
        by_zero true d =
            let to = followed (one_of next) (λ pc. give (playing done.0 (moved f pc (write f.registers result_register done.1) ∷ fs))) t d in
            as_given (playing done.0 (moved f to.by (write f.registers result_register done.1) ∷ fs)) t
            (calls_library is (there to.by (one_drawn next to.by to.drawn)) uses (library_so app lists exact w f (positions kind at args) at.proto.ret row named done call)) to.after
        by_zero false d =
            let to = raised_so app blank done.0 (f ∷ fs) t d in
            subst (λ (z : World). Steps app lists w (f ∷ fs) z t.frames) (sym to.world) (library_raises is uses (library_so app lists exact w f (positions kind at args) at.proto.ret row named done call) to.frames)

    library_step_so : (t : Playing) → Draws (stepping.calls_library app lists w f fs next kind at args row) t → StepsTo t
    library_step_so t d =
        let done = followed (library_call app lists w f (positions kind at args) at.proto.ret row) (λ (done : World × Value). draw 2 >>= λ way. resumes_or_raises app done.0 done.1 f fs next way) t d in
        let way = followed (draw 2) (λ way. resumes_or_raises app done.by.0 done.by.1 f fs next way) t done.after in
        by_way done.by done.drawn way.by t way.after

  -- a call
  module _ (kind : CallKind) (at : MethodRef) (args : List ℕ) (next : List ℕ) (there : (to : ℕ) → In to next → Goes app f.method f.pc to) (is : ActAt app f.method f.pc (Call kind at args)) (way : Drawing Playing) (t : Playing) (d : Draws way t) where
    by_body : (body : ℕ) → call_target app w.heap f kind at args ≡ Some (Body body) → (o : Option Method) → code_of app body ≡ o → calls_body w f fs args body o ≡ Some way → StepsTo t
    by_body body goes None code gives = absurd (none-some way gives)
    by_body body goes (Some m) code gives =
        as_given (playing w (frame_of body m (arguments f args) false ∷ f ∷ fs)) t (calls is (calls_so app w.heap f kind at args (Body body) goes) (has_code app body m code))
        (subst (λ (z : Drawing Playing). Draws z t) (sym (same_Some (give (playing w (frame_of body m (arguments f args) false ∷ f ∷ fs))) way gives)) d)

    by_next : (row : Summary) → UsesRow app lists w.heap f kind at args row → (ns : List ℕ) → where_next ns (stepping.calls_library app lists w f fs next kind at args row) ≡ Some way → StepsTo t
    by_next row uses [] gives = absurd (none-some way gives)
    by_next row uses (n ∷ ns) gives =
        library_step_so kind at args row next there is uses t
        (subst (λ (z : Drawing Playing). Draws z t) (sym (same_Some (stepping.calls_library app lists w f fs next kind at args row) way gives)) d)

    by_row : (class : Name) → call_target app w.heap f kind at args ≡ Some (Library class) → (o : Option Summary) → called_row app lists class kind at ≡ o → calls_row app lists w f fs next kind at args o ≡ Some way → StepsTo t
    by_row class goes None row gives = absurd (none-some way gives)
    by_row class goes (Some r) row gives = by_plain r.reflective refl gives
      where
        by_plain : (b : Bool) → r.reflective ≡ b → cond b None (where_next next (stepping.calls_library app lists w f fs next kind at args r)) ≡ Some way → StepsTo t
        by_plain true plain gives = absurd (none-some way gives)
        by_plain false plain gives = by_next r (uses_so app w.heap f kind at args lists class r goes row plain) next gives

    call_so : (o : Option Target) → call_target app w.heap f kind at args ≡ o → calls_target app lists w f fs next kind at args o ≡ Some way → StepsTo t
    call_so None goes gives = absurd (none-some way gives)
    call_so (Some (Body body)) goes gives = by_body body goes (code_of app body) refl gives
    call_so (Some (Library class)) goes gives = by_row class goes (called_row app lists class kind at) refl gives
    call_so (Some Nothing) goes gives = absurd (none-some way gives)

-- a return
module _ (app : App) (lists : Lists) (w : World) (f : Frame) (x : Option ℕ) (is : ActAt app f.method f.pc (Return x)) (way : Drawing Playing) (t : Playing) (d : Draws way t) where
  returns_as : (fs : List Frame) (one : Drawing Playing) → (Draws one t → Steps app lists w (f ∷ fs) t.world t.frames) → Some one ≡ Some way → Steps app lists w (f ∷ fs) t.world t.frames
  returns_as fs one step gives = step (subst (λ (z : Drawing Playing). Draws z t) (sym (same_Some one way gives)) d)

  ends_so : Draws (give (playing (record w { handed = hand (returned f x).place w.handed }) [])) t → Steps app lists w (f ∷ []) t.world t.frames
  ends_so d = subst (λ (z : Playing). Steps app lists w (f ∷ []) z.world z.frames) (sym (gave (playing (record w { handed = hand (returned f x).place w.handed }) []) t d)) (ends is)

  module _ (g : Frame) (fs : List Frame) where
    resumes_so : f.initialises ≡ false → Draws (resumes w (returned f x) g fs (next_of (step_at app g.method g.pc))) t → Steps app lists w (f ∷ g ∷ fs) t.world t.frames
    resumes_so plain d =
        let next : List ℕ = next_of (step_at app g.method g.pc) in
        let to = followed (one_of next) (λ pc. give (playing w (moved g pc (write g.registers result_register (returned f x)) ∷ fs))) t d in
        subst (λ (z : Playing). Steps app lists w (f ∷ g ∷ fs) z.world z.frames) (sym (gave (playing w (moved g to.by (write g.registers result_register (returned f x)) ∷ fs)) t to.after))
        (returns plain is (goes_there app g.method g.pc (step_at app g.method g.pc) refl to.by (one_drawn next to.by to.drawn)))

    goes_back : f.initialises ≡ false → (ns : List ℕ) → where_next ns (resumes w (returned f x) g fs (next_of (step_at app g.method g.pc))) ≡ Some way → Steps app lists w (f ∷ g ∷ fs) t.world t.frames
    goes_back plain [] gives = absurd (none-some way gives)
    goes_back plain (n ∷ ns) gives = returns_as (g ∷ fs) (resumes w (returned f x) g fs (next_of (step_at app g.method g.pc))) (resumes_so plain) gives

    initialised_so : f.initialises ≡ true → Draws (give (playing w (g ∷ fs))) t → Steps app lists w (f ∷ g ∷ fs) t.world t.frames
    initialised_so first d = subst (λ (z : Playing). Steps app lists w (f ∷ g ∷ fs) z.world z.frames) (sym (gave (playing w (g ∷ fs)) t d)) (has_initialised first is)

  return_so : (fs : List Frame) → stepping.returns app w f x fs ≡ Some way → Steps app lists w (f ∷ fs) t.world t.frames
  return_so [] gives = returns_as [] (give (playing (record w { handed = hand (returned f x).place w.handed }) [])) ends_so gives
  return_so (g ∷ fs) gives = by_kind f.initialises refl gives
    where
      by_kind : (b : Bool) → f.initialises ≡ b → cond b (Some (give (playing w (g ∷ fs)))) (where_next (next_of (step_at app g.method g.pc)) (resumes w (returned f x) g fs (next_of (step_at app g.method g.pc)))) ≡ Some way → Steps app lists w (f ∷ g ∷ fs) t.world t.frames
      by_kind true kind gives = returns_as (g ∷ fs) (give (playing w (g ∷ fs))) (initialised_so g fs kind) gives
      by_kind false kind gives = goes_back g fs kind (next_of (step_at app g.method g.pc)) gives

-- the running frame
module _ (app : App) (lists : Lists) (exact : EventsAreExact app lists) (sound : SoundLists lists) (w : World) (f : Frame) (fs : List Frame) where
  throw_so : (x : ℕ) → ActAt app f.method f.pc (Throw x) → (t : Playing) → Draws (raised app (f.registers x) w (f ∷ fs)) t → Steps app lists w (f ∷ fs) t.world t.frames
  throw_so x is t d =
      let to = raised_so app (f.registers x) w (f ∷ fs) t d in
      subst (λ (z : World). Steps app lists w (f ∷ fs) z t.frames) (sym to.world) (throws is to.frames)

  module _ (next : List ℕ) (there : (to : ℕ) → In to next → Goes app f.method f.pc to) (way : Drawing Playing) (t : Playing) (d : Draws way t) where
    stays_so : (act : Act) → is_local act ≡ true → ActAt app f.method f.pc act → (ns : List ℕ) → where_next ns (acts app lists w f fs next act) ≡ Some way → Steps app lists w (f ∷ fs) t.world t.frames
    stays_so act stays is [] gives = absurd (none-some way gives)
    stays_so act stays is (n ∷ ns) gives = acts_so app lists exact sound w f fs next there act stays is t (subst (λ (z : Drawing Playing). Draws z t) (sym (same_Some (acts app lists w f fs next act) way gives)) d)

    does_so : (act : Act) → ActAt app f.method f.pc act → does app lists w f fs next act ≡ Some way → Steps app lists w (f ∷ fs) t.world t.frames
    does_so (Call kind at args) is gives = call_so app lists exact sound w f fs kind at args next there is way t d (call_target app w.heap f kind at args) refl gives
    does_so (Return x) is gives = return_so app lists w f x is way t d fs gives
    does_so (Throw x) is gives = throw_so x is t (subst (λ (z : Drawing Playing). Draws z t) (sym (same_Some (raised app (f.registers x) w (f ∷ fs)) way gives)) d)
    does_so Skip is gives = stays_so Skip refl is next gives
    does_so Go is gives = stays_so Go refl is next gives
    does_so (Join ds xs) is gives = stays_so (Join ds xs) refl is next gives
    does_so (Move ds x) is gives = stays_so (Move ds x) refl is next gives
    does_so (Blank ds) is gives = stays_so (Blank ds) refl is next gives
    does_so (New r class size) is gives = stays_so (New r class size) refl is next gives
    does_so (Fill xs class) is gives = stays_so (Fill xs class) refl is next gives
    does_so (Get ds o k) is gives = stays_so (Get ds o k) refl is next gives
    does_so (Put o k x) is gives = stays_so (Put o k x) refl is next gives
    does_so (GetStatic ds g) is gives = stays_so (GetStatic ds g) refl is next gives
    does_so (PutStatic g x) is gives = stays_so (PutStatic g x) refl is next gives
    does_so (TakeResult ds) is gives = stays_so (TakeResult ds) refl is next gives
    does_so (TakeException r) is gives = stays_so (TakeException r) refl is next gives

  of_option : {A : Type 0} (o : Option A) (x : A) → In x (option_to_list o) → o ≡ Some x
  of_option None x h = absurd h
  of_option (Some y) x (inl same) = ap (λ z. Some z) (sym same)
  of_option (Some y) x (inr h) = absurd h

  step_so : (o : Option Step) → step_at app f.method f.pc ≡ o → (way : Drawing Playing) (t : Playing) → Draws way t → step_there app lists w f fs o ≡ Some way → Steps app lists w (f ∷ fs) t.world t.frames
  step_so None there way t d gives = absurd (none-some way gives)
  step_so (Some s) there way t d gives = does_so s.next (goes_there app f.method f.pc (Some s) there) way t d s.act (record { step = s; there = there; same = refl }) gives

  enters_so : (o : Option Step) → step_at app f.method f.pc ≡ o → (entered : ℕ × Method) → In entered (initialisers_at app o) → Steps app lists w (f ∷ fs) w (frame_of entered.0 entered.1 [] true ∷ f ∷ fs)
  enters_so None there entered h = absurd h
  enters_so (Some s) there entered h = let found = from_filter_map (with_code app) (initialisers app s.act) entered h in by_code found.0 found.1 (code_of app found.0) refl found.2
    where
      by_code : (body : ℕ) → In body (initialisers app s.act) → (o : Option Method) → code_of app body ≡ o → option_map (λ m. (body, m)) o ≡ Some entered → Steps app lists w (f ∷ fs) w (frame_of entered.0 entered.1 [] true ∷ f ∷ fs)
      by_code body at None code gives = absurd (none-some entered gives)
      by_code body at (Some m) code gives =
          subst (λ (z : ℕ × Method). Steps app lists w (f ∷ fs) w (frame_of z.0 z.1 [] true ∷ f ∷ fs)) (same_Some (body, m) entered gives)
          (initialises (record { act = s.act; at = record { step = s; there = there; same = refl }; is_one = at }) (has_code app body m code))

  way_so : (way : Drawing Playing) → In way (ways app lists w f fs) → (t : Playing) → Draws way t → Steps app lists w (f ∷ fs) t.world t.frames
  unfolding ways
  way_so way h t d = by_last (in_either way (map (enters w (f ∷ fs)) (initialisers_at app (step_at app f.method f.pc)) ++ option_to_list (step_there app lists w f fs (step_at app f.method f.pc))) (raised app blank w (f ∷ fs) ∷ []) h)
    where
      by_first : In way (map (enters w (f ∷ fs)) (initialisers_at app (step_at app f.method f.pc))) ⊎ In way (option_to_list (step_there app lists w f fs (step_at app f.method f.pc))) → Steps app lists w (f ∷ fs) t.world t.frames
      by_first (inl one) =
          let found = from_map (enters w (f ∷ fs)) (initialisers_at app (step_at app f.method f.pc)) way one in
          subst (λ (z : Playing). Steps app lists w (f ∷ fs) z.world z.frames)
          (sym (gave (playing w (frame_of found.0.0 found.0.1 [] true ∷ f ∷ fs)) t (subst (λ (z : Drawing Playing). Draws z t) found.2 d)))
          (enters_so (step_at app f.method f.pc) refl found.0 found.1)
      by_first (inr one) = step_so (step_at app f.method f.pc) refl way t d (of_option (step_there app lists w f fs (step_at app f.method f.pc)) way one)

      by_last : In way (map (enters w (f ∷ fs)) (initialisers_at app (step_at app f.method f.pc)) ++ option_to_list (step_there app lists w f fs (step_at app f.method f.pc))) ⊎ In way (raised app blank w (f ∷ fs) ∷ []) → Steps app lists w (f ∷ fs) t.world t.frames
      by_last (inl first) = by_first (in_either way (map (enters w (f ∷ fs)) (initialisers_at app (step_at app f.method f.pc))) (option_to_list (step_there app lists w f fs (step_at app f.method f.pc))) first)
      by_last (inr (inl same)) = raise_so app lists exact sound w f fs t (subst (λ (z : Drawing Playing). Draws z t) same d)
      by_last (inr (inr none)) = absurd none

-- the state
module _ (app : App) (lists : Lists) (exact : EventsAreExact app lists) (sound : SoundLists lists) where
  any_step_so : (w : World) (fs : List Frame) (t : Playing) → Draws (step app lists w fs) t → Steps app lists w fs t.world t.frames ⊎ (t ≡ playing w fs)
  unfolding step
  any_step_so w [] t d =
      let h = followed (one_of (events app lists w)) (begun app lists w) t d in
      begun_so app lists exact w h.by (events_so app lists exact w h.by (one_drawn (events app lists w) h.by h.drawn)) t h.after
  any_step_so w (f ∷ fs) t d =
      let h = followed (one_of (ways app lists w f fs)) (λ way. way) t d in
      inl (way_so app lists exact sound w f fs h.by (one_drawn (ways app lists w f fs) h.by h.drawn) t h.after)

  pub steps_so : (s t : Playing) (bytes rest : List ℕ) → drawn_step app lists s bytes ≡ Some (t, rest) → Steps app lists s.world s.frames t.world t.frames ⊎ (t ≡ s)
  steps_so s t bytes rest is = any_step_so s.world s.frames t (record { bytes = bytes; rest = rest; drawn = is })

  abbrev IsRun : Playing → Type 0
  IsRun s = Run app lists s.world s.frames

  run_further : (s : Playing) → IsRun s → (bytes : List ℕ) (drawn : Playing × List ℕ) → drawn_step app lists s bytes ≡ Some drawn → IsRun drawn.0
  run_further s run bytes drawn is = by_step (steps_so s drawn.0 bytes drawn.1 is)
    where
      by_step : Steps app lists s.world s.frames drawn.0.world drawn.0.frames ⊎ (drawn.0 ≡ s) → IsRun drawn.0
      by_step (inl one) = then run one
      by_step (inr same) = subst IsRun (sym same) run

  within_so : (n : ℕ) (s : Playing) (bytes : List ℕ) → IsRun s → (t : Playing) → In t (drawn_within n app lists s bytes) → IsRun t
  within_so zero s bytes run t h = absurd h
  within_so (suc n) s bytes run t h = by_step (drawn_step app lists s bytes) refl h (λ u bytes' run'. within_so n u bytes' run' t)
    where
      by_step : (o : Option (Playing × List ℕ)) → drawn_step app lists s bytes ≡ o → In t (and_after (drawn_within n app lists) o) →
          ((u : Playing) (bytes' : List ℕ) → IsRun u → In t (drawn_within n app lists u bytes') → IsRun t) → IsRun t
      by_step None is h later = absurd h
      by_step (Some drawn) is (inl same) later = subst IsRun (sym same) (run_further s run bytes drawn is)
      by_step (Some drawn) is (inr h) later = later drawn.0 drawn.1 (run_further s run bytes drawn is) h

  pub runs_so : (script : List ℕ) (s : Playing) → In s (drawn app lists script) → IsRun s
  unfolding drawn
  runs_so script s h = by_first h
    where
      by_first : In s (start ∷ drawn_within (length script) app lists start script) → IsRun s
      by_first (inl same) = subst IsRun (sym same) starts
      by_first (inr later) = within_so (length script) start script starts s later

-- Steps from alike states.
use Rattle.std.proofs.Common.{◌≡◌, ◌==◌, ℕ, zero, suc, Bool, true, false, cond, List, [], ◌∷◌, ◌++◌, map, Option, Some, None, option_map, slice_get, refl, ap, ◌∙◌, subst}
use Rattle.std.specs.Prelude.{option_to_list}
use Rattle.app_machine.specs.declared.app.App.{App}
use Rattle.app_machine.specs.declared.call.CallKind.{CallKind}
use Rattle.app_machine.specs.declared.call.MethodRef.{MethodRef}
use Rattle.app_machine.specs.declared.lists.Lists.{Lists}
use Rattle.app_machine.specs.declared.method.Act.{Act}
use Rattle.app_machine.specs.declared.method.Act.TheVariants.{Skip, Join, Move, Blank, New, Fill, Get, Put, GetStatic, PutStatic, Call, Return, Throw, TakeResult, TakeException, Go}
use Rattle.app_machine.specs.declared.method.Method.{Method}
use Rattle.app_machine.specs.declared.method.Step.{Step}
use Rattle.app_machine.specs.declared.summary.Summary.{Summary}
use Rattle.app_machine.specs.Calls.{arguments, returned, hand}
use Rattle.app_machine.specs.Heap.{Value, blank}
use Rattle.app_machine.specs.Library.{positions}
use Rattle.app_machine.specs.Lookups.{Target, Body, Library, Nothing, target, step_at, is_by_receiver}
use Rattle.app_machine.specs.Names.{Name}
use Rattle.app_machine.specs.Run.{frame_of}
use Rattle.app_machine.specs.State.{result_register, write, World, Frame}
use Rattle.played_machine.specs.Calling.{code_of, receiver_place, target_at, call_target, called_row}
use Rattle.played_machine.specs.Coming.{events, begun}
use Rattle.played_machine.specs.Drawing.{Drawing, give, ◌>>=◌, draw, one_of}
use Rattle.played_machine.specs.Drawn.{drawn_step, and_after, drawn_within}
use Rattle.played_machine.specs.Librarian.{library_call}
use Rattle.played_machine.specs.Local.{Playing, playing, next_of, moved, local, raised}
use Rattle.played_machine.specs.Step as stepping
use Rattle.played_machine.specs.Step.{where_next, acts, resumes, resumes_or_raises, calls_body, calls_row, calls_target, does, enters, initialisers_at, step_there, ways, step}
use Rattle.played_alike.specs.Alike.{Pairwise, AlikeValue, AlikeFrame, AlikeFrames, AlikeWorld, AlikePlaying, AlikeDrawn}
use Rattle.played_alike.proofs.Events.{alike_frame, AlikeEvent, alike_events, alike_begun}
use Rattle.played_alike.proofs.Heaps.{alike_itself, alike_write, same_class}
use Rattle.played_alike.proofs.Librarian.{handed_one, AlikeCalled, alike_library}
use Rattle.played_alike.proofs.Local.{AlikeDone, alike_local, alike_moved, same_step, alike_raised}
use Rattle.played_alike.proofs.Pairs.{AlikeOption, AlikeDrawings, pair_append, pair_map, alike_give, alike_if, alike_one, alike_after, alike_then}

abbrev pub PlayAlike : Drawing Playing → Drawing Playing → Type 0
PlayAlike = AlikeDrawings AlikePlaying

abbrev pub WayAlike : Option (Drawing Playing) → Option (Drawing Playing) → Type 0
WayAlike = AlikeOption PlayAlike

-- a call has the same target
module _ (app : App) (w u : World) (alike : AlikeWorld w u) (f g : Frame) (frames : AlikeFrame f g) (kind : CallKind) (at : MethodRef) (args : List ℕ) where
  same_receiver : (o : Option ℕ) → receiver_place f o ≡ receiver_place g o
  same_receiver None = refl
  same_receiver (Some x) = (frames.registers x).place

  same_at : (method : ℕ) (o : Option ℕ) → target_at app w.heap method kind at o ≡ target_at app u.heap method kind at o
  same_at method None = refl
  same_at method (Some p) = ap (λ (c : Option Name). option_map (λ class. target app kind method at (Some class)) c) (same_class w.heap u.heap alike.heap p)

  pub same_target : call_target app w.heap f kind at args ≡ call_target app u.heap g kind at args
  unfolding call_target
  same_target =
      ap (λ m. cond (is_by_receiver kind) (target_at app w.heap m kind at (receiver_place f (slice_get args 0))) (Some (target app kind m at None))) frames.method
      ∙ (ap (λ o. cond (is_by_receiver kind) (target_at app w.heap g.method kind at o) (Some (target app kind g.method at None))) (same_receiver (slice_get args 0))
      ∙ ap (λ t. cond (is_by_receiver kind) t (Some (target app kind g.method at None))) (same_at g.method (receiver_place g (slice_get args 0))))

alike_resumes : (w u : World) → AlikeWorld w u → (v v' : Value) → AlikeValue v v' → (f g : Frame) → AlikeFrame f g → (fs gs : List Frame) → AlikeFrames fs gs → (next : List ℕ) → PlayAlike (resumes w v f fs next) (resumes u v' g gs next)
alike_resumes w u alike v v' value f g frame fs gs frames next =
    alike_then AlikePlaying (one_of next) (λ pc. give (playing w (moved f pc (write f.registers result_register v) ∷ fs))) (λ pc. give (playing u (moved g pc (write g.registers result_register v') ∷ gs)))
    (λ pc. alike_give AlikePlaying (playing w (moved f pc (write f.registers result_register v) ∷ fs)) (playing u (moved g pc (write g.registers result_register v') ∷ gs)) (record {
      world = alike;
      frames = (alike_moved f g frame pc (write f.registers result_register v) (write g.registers result_register v') (alike_write f.registers g.registers result_register v v' frame.registers value), frames);
    }))

alike_where_next : (next : List ℕ) (d e : Drawing Playing) → PlayAlike d e → WayAlike (where_next next d) (where_next next e)
alike_where_next [] d e one = tt
alike_where_next (n ∷ next) d e one = one

module _ (app : App) (lists : Lists) (w u : World) (alike : AlikeWorld w u) (f g : Frame) (frame : AlikeFrame f g) (fs gs : List Frame) (frames : AlikeFrames fs gs) where
  alike_arguments : (args : List ℕ) → Pairwise AlikeValue (arguments f args) (arguments g args)
  alike_arguments args = pair_map AlikeValue f.registers g.registers frame.registers args

  alike_raise : (v v' : Value) → AlikeValue v v' → PlayAlike (raised app v w (f ∷ fs)) (raised app v' u (g ∷ gs))
  alike_raise v v' value = alike_raised app v v' value w u alike (f ∷ fs) (g ∷ gs) (frame, frames)

  alike_acts : (next : List ℕ) (act : Act) → PlayAlike (acts app lists w f fs next act) (acts app lists u g gs next act)
  alike_acts next act =
      alike_after AlikeDone AlikePlaying (local app lists w f act) (local app lists u g act)
      (λ (done : World × (ℕ → Value)). one_of next >>= λ pc. give (playing done.0 (moved f pc done.1 ∷ fs))) (λ (done : World × (ℕ → Value)). one_of next >>= λ pc. give (playing done.0 (moved g pc done.1 ∷ gs)))
      (alike_local w u alike f g frame.registers app lists act)
      (λ x y one. alike_then AlikePlaying (one_of next) (λ pc. give (playing x.0 (moved f pc x.1 ∷ fs))) (λ pc. give (playing y.0 (moved g pc y.1 ∷ gs)))
      (λ pc. alike_give AlikePlaying (playing x.0 (moved f pc x.1 ∷ fs)) (playing y.0 (moved g pc y.1 ∷ gs)) (record { world = one.0; frames = (alike_moved f g frame pc x.1 y.1 one.1, frames) })))

  alike_calls_library : (next : List ℕ) (kind : CallKind) (at : MethodRef) (args : List ℕ) (row : Summary) → PlayAlike (stepping.calls_library app lists w f fs next kind at args row) (stepping.calls_library app lists u g gs next kind at args row)
  alike_calls_library next kind at args row =
      alike_after AlikeCalled AlikePlaying (library_call app lists w f (positions kind at args) at.proto.ret row) (library_call app lists u g (positions kind at args) at.proto.ret row)
      (λ (done : World × Value). draw 2 >>= λ way. resumes_or_raises app done.0 done.1 f fs next way) (λ (done : World × Value). draw 2 >>= λ way. resumes_or_raises app done.0 done.1 g gs next way)
      (alike_library app lists w u alike f g frame (positions kind at args) at.proto.ret row)
      (λ x y one. alike_then AlikePlaying (draw 2) (λ way. resumes_or_raises app x.0 x.1 f fs next way) (λ way. resumes_or_raises app y.0 y.1 g gs next way)
      (λ way. alike_if AlikePlaying (way == 0) (resumes x.0 x.1 f fs next) (resumes y.0 y.1 g gs next) (raised app blank x.0 (f ∷ fs)) (raised app blank y.0 (g ∷ gs))
      (alike_resumes x.0 y.0 one.0 x.1 y.1 one.1 f g frame fs gs frames next)
      (alike_raised app blank blank (alike_itself blank) x.0 y.0 one.0 (f ∷ fs) (g ∷ gs) (frame, frames))))

  alike_calls : (next : List ℕ) (kind : CallKind) (at : MethodRef) (args : List ℕ) (o : Option Target) → WayAlike (calls_target app lists w f fs next kind at args o) (calls_target app lists u g gs next kind at args o)
  alike_calls next kind at args None = tt
  alike_calls next kind at args (Some Nothing) = tt
  alike_calls next kind at args (Some (Body body)) = by_code (code_of app body)
    where
      by_code : (o : Option Method) → WayAlike (calls_body w f fs args body o) (calls_body u g gs args body o)
      by_code None = tt
      by_code (Some m) = alike_give AlikePlaying (playing w (frame_of body m (arguments f args) false ∷ f ∷ fs)) (playing u (frame_of body m (arguments g args) false ∷ g ∷ gs)) (record {
        world = alike;
        frames = (alike_frame body m (arguments f args) (arguments g args) false (alike_arguments args), (frame, frames));
      })
  alike_calls next kind at args (Some (Library class)) = by_row (called_row app lists class kind at)
    where
      by_plain : (row : Summary) (b : Bool) → WayAlike (cond b None (where_next next (stepping.calls_library app lists w f fs next kind at args row))) (cond b None (where_next next (stepping.calls_library app lists u g gs next kind at args row)))
      by_plain row true = tt
      by_plain row false = alike_where_next next (stepping.calls_library app lists w f fs next kind at args row) (stepping.calls_library app lists u g gs next kind at args row) (alike_calls_library next kind at args row)

      by_row : (o : Option Summary) → WayAlike (calls_row app lists w f fs next kind at args o) (calls_row app lists u g gs next kind at args o)
      by_row None = tt
      by_row (Some row) = by_plain row row.reflective

  alike_returned : (x : Option ℕ) → AlikeValue (returned f x) (returned g x)
  alike_returned None = alike_itself blank
  alike_returned (Some x) = frame.registers x

  alike_local_way : (next : List ℕ) (act : Act) → WayAlike (where_next next (acts app lists w f fs next act)) (where_next next (acts app lists u g gs next act))
  alike_local_way next act = alike_where_next next (acts app lists w f fs next act) (acts app lists u g gs next act) (alike_acts next act)

-- what a return comes to, by whether it is from an initialiser, in the caller
abbrev by_kind_of : Bool → World → Frame → List Frame → Value → Option Step → Option (Drawing Playing)
by_kind_of b w h hs v o = cond b (Some (give (playing w (h ∷ hs)))) (where_next (next_of o) (resumes w v h hs (next_of o)))

alike_returns : (app : App) (w u : World) → AlikeWorld w u → (f g : Frame) → AlikeFrame f g → (x : Option ℕ) → AlikeValue (returned f x) (returned g x) → (fs gs : List Frame) → AlikeFrames fs gs → WayAlike (stepping.returns app w f x fs) (stepping.returns app u g x gs)
alike_returns app w u alike f g frame x value [] [] frames =
    alike_give AlikePlaying (playing (record w { handed = hand (returned f x).place w.handed }) []) (playing (record u { handed = hand (returned g x).place u.handed }) []) (record {
      world = record { heap = alike.heap; statics = alike.statics; components = alike.components; handed = handed_one (returned f x).place (returned g x).place value.place w.handed u.handed alike.handed; arrivals = alike.arrivals };
      frames = tt;
    })
alike_returns app w u alike f g frame x value [] (k ∷ gs) frames = absurd frames
alike_returns app w u alike f g frame x value (h ∷ fs) [] frames = absurd frames
alike_returns app w u alike f g frame x value (h ∷ fs) (k ∷ gs) frames =
    subst (λ b. WayAlike (by_kind_of f.initialises w h fs (returned f x) (step_at app h.method h.pc)) (by_kind_of b u k gs (returned g x) (step_at app k.method k.pc))) frame.initialises
    (subst (λ o. WayAlike (by_kind_of f.initialises w h fs (returned f x) (step_at app h.method h.pc)) (by_kind_of f.initialises u k gs (returned g x) o)) (same_step app h k frames.0)
    (by_kind f.initialises (step_at app h.method h.pc)))
  where
    by_kind : (b : Bool) (o : Option Step) → WayAlike (by_kind_of b w h fs (returned f x) o) (by_kind_of b u k gs (returned g x) o)
    by_kind true o = alike_give AlikePlaying (playing w (h ∷ fs)) (playing u (k ∷ gs)) (record { world = alike; frames = frames })
    by_kind false o = alike_where_next (next_of o) (resumes w (returned f x) h fs (next_of o)) (resumes u (returned g x) k gs (next_of o)) (alike_resumes w u alike (returned f x) (returned g x) value h k frames.0 fs gs frames.1 (next_of o))

module _ (app : App) (lists : Lists) (w u : World) (alike : AlikeWorld w u) (f g : Frame) (frame : AlikeFrame f g) (fs gs : List Frame) (frames : AlikeFrames fs gs) where
  alike_stays : (next : List ℕ) (act : Act) → WayAlike (where_next next (acts app lists w f fs next act)) (where_next next (acts app lists u g gs next act))
  alike_stays next act = alike_local_way app lists w u alike f g frame fs gs frames next act

  alike_does : (next : List ℕ) (act : Act) → WayAlike (does app lists w f fs next act) (does app lists u g gs next act)
  alike_does next (Call kind at args) =
      subst (λ o. WayAlike (calls_target app lists w f fs next kind at args (call_target app w.heap f kind at args)) (calls_target app lists u g gs next kind at args o)) (same_target app w u alike f g frame kind at args)
      (alike_calls app lists w u alike f g frame fs gs frames next kind at args (call_target app w.heap f kind at args))
  alike_does next (Return x) = alike_returns app w u alike f g frame x (alike_returned app lists w u alike f g frame fs gs frames x) fs gs frames
  alike_does next (Throw x) = alike_raise app lists w u alike f g frame fs gs frames (f.registers x) (g.registers x) (frame.registers x)
  alike_does next Skip = alike_stays next Skip
  alike_does next Go = alike_stays next Go
  alike_does next (Join ds xs) = alike_stays next (Join ds xs)
  alike_does next (Move ds x) = alike_stays next (Move ds x)
  alike_does next (Blank ds) = alike_stays next (Blank ds)
  alike_does next (New r class size) = alike_stays next (New r class size)
  alike_does next (Fill xs class) = alike_stays next (Fill xs class)
  alike_does next (Get ds o k) = alike_stays next (Get ds o k)
  alike_does next (Put o k x) = alike_stays next (Put o k x)
  alike_does next (GetStatic ds n) = alike_stays next (GetStatic ds n)
  alike_does next (PutStatic n x) = alike_stays next (PutStatic n x)
  alike_does next (TakeResult ds) = alike_stays next (TakeResult ds)
  alike_does next (TakeException r) = alike_stays next (TakeException r)

  alike_there : (o : Option Step) → WayAlike (step_there app lists w f fs o) (step_there app lists u g gs o)
  alike_there None = tt
  alike_there (Some s) = alike_does s.next s.act

  listed : (o q : Option (Drawing Playing)) → WayAlike o q → Pairwise PlayAlike (option_to_list o) (option_to_list q)
  listed None None one = tt
  listed None (Some y) one = absurd one
  listed (Some x) None one = absurd one
  listed (Some x) (Some y) one = (one, tt)

  alike_enters : (entered : ℕ × Method) → PlayAlike (enters w (f ∷ fs) entered) (enters u (g ∷ gs) entered)
  alike_enters entered = alike_give AlikePlaying (playing w (frame_of entered.0 entered.1 [] true ∷ f ∷ fs)) (playing u (frame_of entered.0 entered.1 [] true ∷ g ∷ gs)) (record {
    world = alike;
    frames = (alike_frame entered.0 entered.1 [] [] true tt, (frame, frames));
  })

  abbrev ways_by : World → Frame → List Frame → Option Step → List (Drawing Playing)
  ways_by v h hs o = map (enters v (h ∷ hs)) (initialisers_at app o) ++ option_to_list (step_there app lists v h hs o) ++ raised app blank v (h ∷ hs) ∷ []

  alike_ways : Pairwise PlayAlike (ways app lists w f fs) (ways app lists u g gs)
  unfolding ways
  alike_ways = subst (λ o. Pairwise PlayAlike (ways_by w f fs (step_at app f.method f.pc)) (ways_by u g gs o)) (same_step app f g frame) (by_step (step_at app f.method f.pc))
    where
      by_step : (o : Option Step) → Pairwise PlayAlike (ways_by w f fs o) (ways_by u g gs o)
      by_step o =
          pair_append PlayAlike (map (enters w (f ∷ fs)) (initialisers_at app o) ++ option_to_list (step_there app lists w f fs o)) (map (enters u (g ∷ gs)) (initialisers_at app o) ++ option_to_list (step_there app lists u g gs o)) (raised app blank w (f ∷ fs) ∷ []) (raised app blank u (g ∷ gs) ∷ [])
          (pair_append PlayAlike (map (enters w (f ∷ fs)) (initialisers_at app o)) (map (enters u (g ∷ gs)) (initialisers_at app o)) (option_to_list (step_there app lists w f fs o)) (option_to_list (step_there app lists u g gs o))
          (pair_map PlayAlike (enters w (f ∷ fs)) (enters u (g ∷ gs)) alike_enters (initialisers_at app o)) (listed (step_there app lists w f fs o) (step_there app lists u g gs o) (alike_there o)))
          (alike_raise app lists w u alike f g frame fs gs frames blank blank (alike_itself blank), tt)

alike_any : (app : App) (lists : Lists) (w u : World) → AlikeWorld w u → (fs gs : List Frame) → AlikeFrames fs gs → PlayAlike (step app lists w fs) (step app lists u gs)
unfolding step
alike_any app lists w u alike [] [] frames =
    alike_after AlikeEvent AlikePlaying (one_of (events app lists w)) (one_of (events app lists u)) (begun app lists w) (begun app lists u)
    (alike_one AlikeEvent (events app lists w) (events app lists u) (alike_events app lists w u alike)) (alike_begun app lists w u alike)
alike_any app lists w u alike [] (g ∷ gs) frames = absurd frames
alike_any app lists w u alike (f ∷ fs) [] frames = absurd frames
alike_any app lists w u alike (f ∷ fs) (g ∷ gs) frames =
    alike_after PlayAlike AlikePlaying (one_of (ways app lists w f fs)) (one_of (ways app lists u g gs)) (λ way. way) (λ way. way)
    (alike_one PlayAlike (ways app lists w f fs) (ways app lists u g gs) (alike_ways app lists w u alike f g frames.0 fs gs frames.1)) (λ x y one. one)

pub alike_step : (app : App) (lists : Lists) (s t : Playing) → AlikePlaying s t → (bytes : List ℕ) → AlikeDrawn AlikePlaying (drawn_step app lists s bytes) (drawn_step app lists t bytes)
alike_step app lists s t alike bytes = alike_any app lists s.world t.world alike.world s.frames t.frames alike.frames bytes

pub alike_run : (app : App) (lists : Lists) (n : ℕ) (s t : Playing) → AlikePlaying s t → (bytes : List ℕ) → Pairwise AlikePlaying (drawn_within n app lists s bytes) (drawn_within n app lists t bytes)
alike_run app lists zero s t alike bytes = tt
alike_run app lists (suc n) s t alike bytes = by_step (drawn_step app lists s bytes) (drawn_step app lists t bytes) (alike_step app lists s t alike bytes) (λ s' t' one rest. alike_run app lists n s' t' one rest)
  where
    by_step : (o q : Option (Playing × List ℕ)) → AlikeDrawn AlikePlaying o q →
        ((s' t' : Playing) → AlikePlaying s' t' → (rest : List ℕ) → Pairwise AlikePlaying (drawn_within n app lists s' rest) (drawn_within n app lists t' rest)) →
        Pairwise AlikePlaying (and_after (drawn_within n app lists) o) (and_after (drawn_within n app lists) q)
    by_step None None one later = tt
    by_step None (Some q) one later = absurd one
    by_step (Some p) None one later = absurd one
    by_step (Some p) (Some q) one later = (one.0, subst (λ rest. Pairwise AlikePlaying (drawn_within n app lists p.0 p.1) (drawn_within n app lists q.0 rest)) one.1 (later p.0 q.0 one.0 p.1))

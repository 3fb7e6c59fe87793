-- Each step takes a byte at least, so as many turns as there are bytes are enough.
use Rattle.std.proofs.Common.{◌≡◌, ◌==◌, ◌⊎◌, inl, inr, ℕ, zero, suc, ◌+◌, ◌-◌, ◌<◌, ◌≤◌, Bool, true, false, cond, List, [], ◌∷◌, ◌++◌, map, length, Option, Some, None, slice_get, refl, sym, ap, ◌∙◌, subst, arith}
use Rattle.std.specs.Prelude.{◌%◌, option_to_list}
use Rattle.std.proofs.lemmas.Option.{none-some, same_Some}
use Rattle.vet_base.specs.declared.key_id.KeyId.{KeyId}
use Rattle.vet_base.specs.Members.{In}
use Rattle.vet_base.proofs.Members.{in_either, from_map}
use Rattle.app_machine.specs.declared.app.App.{App}
use Rattle.app_machine.specs.declared.call.CallKind.{CallKind}
use Rattle.app_machine.specs.declared.call.MethodRef.{MethodRef}
use Rattle.app_machine.specs.declared.lists.Lists.{Lists}
use Rattle.app_machine.specs.declared.method.Act.{Act}
use Rattle.app_machine.specs.declared.method.Act.TheVariants.{Skip, Join, Move, Blank, New, Fill, Get, Put, GetStatic, PutStatic, Call, Return, Throw, TakeResult, TakeException, Go}
use Rattle.app_machine.specs.declared.method.Method.{Method}
use Rattle.app_machine.specs.declared.method.Step.{Step}
use Rattle.app_machine.specs.declared.summary.Gives.{Gives}
use Rattle.app_machine.specs.declared.summary.Gives.TheVariants as gives
use Rattle.app_machine.specs.declared.summary.Summary.{Summary}
use Rattle.app_machine.specs.Calls.{returned}
use Rattle.app_machine.specs.Events.{labels_at}
use Rattle.app_machine.specs.Heap.{Value, Object, blank, labelled}
use Rattle.app_machine.specs.Library.{positions, value_at, shared_named}
use Rattle.app_machine.specs.Lookups.{Target, Body, Library, Nothing, elem_key, step_at}
use Rattle.app_machine.specs.Names.{Name, is_reference, is_void}
use Rattle.app_machine.specs.State.{result_register, write_all, write, World, Frame}
use Rattle.played_machine.specs.Calling.{code_of, call_target, called_row}
use Rattle.played_machine.specs.Coming.{Event, Receives, Initialiser, events, parameter_values, parameter, parameters, receiver, event_frame, begins_with, begun}
use Rattle.played_machine.specs.Drawing.{Drawing, give, continue, ◌>>=◌, draw, given, one_of}
use Rattle.played_machine.specs.Drawn.{start, drawn_step, and_after, drawn_within, drawn}
use Rattle.played_machine.specs.Librarian.{with_shared, given_result, result, after_call, library_call, given_back, hand_all}
use Rattle.played_machine.specs.Local.{Playing, playing, catches_of, next_of, moved, first_or_blank, got_at, got, local, raised_to, raised}
use Rattle.played_machine.specs.Reading.{values_at}
use Rattle.played_machine.specs.Step as stepping
use Rattle.played_machine.proofs.Chosen.{one_drawn}
use Rattle.played_machine.specs.Step.{where_next, acts, resumes, resumes_or_raises, calls_body, calls_row, calls_target, does, enters, initialisers_at, step_there, ways, step}

-- what is drawn leaves no more bytes than there were
abbrev pub Keeps : {A : Type 0} → Drawing A → Type 0
Keeps {A} d = (bytes : List ℕ) (x : A) (rest : List ℕ) → d bytes ≡ Some (x, rest) → length rest ≤ length bytes

-- and here one fewer
abbrev pub Takes : {A : Type 0} → Drawing A → Type 0
Takes {A} d = (bytes : List ℕ) (x : A) (rest : List ℕ) → d bytes ≡ Some (x, rest) → length rest < length bytes

keeps_give : {A : Type 0} (x : A) → Keeps (give x)
keeps_give {A} x bytes y rest is = let same : bytes ≡ rest = ap (λ (p : A × List ℕ). p.1) (same_Some (x, bytes) (y, rest) is) in subst (λ (r : List ℕ). length r ≤ length bytes) same (omega arith)

keeps_after : {A B : Type 0} (first : Drawing A) (next : A → Drawing B) → Keeps first → ((x : A) → Keeps (next x)) → Keeps (first >>= next)
keeps_after {A} {B} first next one others bytes y rest is = by_first (first bytes) refl is
  where
    by_first : (o : Option (A × List ℕ)) → first bytes ≡ o → continue next o ≡ Some (y, rest) → length rest ≤ length bytes
    by_first None e is = absurd (none-some (y, rest) is)
    by_first (Some p) e is =
        let front : length p.1 ≤ length bytes = one bytes p.0 p.1 e in
        let back : length rest ≤ length p.1 = others p.0 p.1 y rest is in
        omega (arith, front, back)

takes_after : {A B : Type 0} (first : Drawing A) (next : A → Drawing B) → Takes first → ((x : A) → ((bytes rest : List ℕ) → first bytes ≡ Some (x, rest) → Keeps (next x))) → Takes (first >>= next)
takes_after {A} {B} first next one others bytes y rest is = by_first (first bytes) refl is
  where
    by_first : (o : Option (A × List ℕ)) → first bytes ≡ o → continue next o ≡ Some (y, rest) → length rest < length bytes
    by_first None e is = absurd (none-some (y, rest) is)
    by_first (Some p) e is =
        let front : length p.1 < length bytes = one bytes p.0 p.1 e in
        let back : length rest ≤ length p.1 = others p.0 bytes p.1 e p.1 y rest is in
        omega (arith, front, back)

takes_one : {A : Type 0} (xs : List A) → Takes (one_of xs)
unfolding one_of
takes_one xs [] x rest is = absurd (none-some (x, rest) is)
takes_one {A} xs (b ∷ bytes) x rest is = by_element (slice_get xs (b % length xs)) is
  where
    by_element : (o : Option A) → given o bytes ≡ Some (x, rest) → length rest < length (b ∷ bytes)
    by_element None is = absurd (none-some (x, rest) is)
    by_element (Some y) is = let same : bytes ≡ rest = ap (λ (p : A × List ℕ). p.1) (same_Some (y, bytes) (x, rest) is) in subst (λ (r : List ℕ). length r < length (b ∷ bytes)) same (omega arith)

keeps_one : {A : Type 0} (xs : List A) → Keeps (one_of xs)
keeps_one xs bytes x rest is = let taken : length rest < length bytes = takes_one xs bytes x rest is in omega (arith, taken)

keeps_draw : (m : ℕ) → Keeps (draw m)
keeps_draw m [] x rest is = absurd (none-some (x, rest) is)
keeps_draw m (b ∷ bytes) x rest is = let same : bytes ≡ rest = ap (λ (p : ℕ × List ℕ). p.1) (same_Some (b % m, bytes) (x, rest) is) in subst (λ (r : List ℕ). length r ≤ length (b ∷ bytes)) same (omega arith)

keeps_if : {A : Type 0} (b : Bool) (one other : Drawing A) → Keeps one → Keeps other → Keeps (cond b one other)
keeps_if true one other k l = k
keeps_if false one other k l = l

keeps_got : (heap : List Object) (v : Value) (k : KeyId) → Keeps (got heap v k)
unfolding got
keeps_got heap v k = by_place v.place
  where
    by_place : (o : Option ℕ) → Keeps (got_at heap o k)
    by_place None = keeps_give blank
    by_place (Some p) = keeps_if (k.0 == 0) (one_of (values_at heap p k ++ blank ∷ [])) (give (first_or_blank (values_at heap p k))) (keeps_one (values_at heap p k ++ blank ∷ [])) (keeps_give (first_or_blank (values_at heap p k)))

keeps_local : (app : App) (lists : Lists) (w : World) (f : Frame) (act : Act) → Keeps (local app lists w f act)
unfolding local
keeps_local app lists w f (Join ds xs) = keeps_give _
keeps_local app lists w f (Move ds x) = keeps_give _
keeps_local app lists w f (Blank ds) = keeps_give _
keeps_local app lists w f (New d class size) = keeps_give _
keeps_local app lists w f (Fill xs class) = keeps_give _
keeps_local app lists w f (Get ds o k) = keeps_after (got w.heap (f.registers o) k) (λ v. give (w, write_all f.registers ds v)) (keeps_got w.heap (f.registers o) k) (λ v. keeps_give (w, write_all f.registers ds v))
keeps_local app lists w f (Put o k x) = keeps_give _
keeps_local app lists w f (GetStatic ds g) = keeps_give _
keeps_local app lists w f (PutStatic g x) = keeps_give _
keeps_local app lists w f (TakeResult ds) = keeps_give _
keeps_local app lists w f (TakeException d) = keeps_give _
keeps_local app lists w f Skip = keeps_give _
keeps_local app lists w f Go = keeps_give _
keeps_local app lists w f (Call kind at args) = keeps_give _
keeps_local app lists w f (Return x) = keeps_give _
keeps_local app lists w f (Throw x) = keeps_give _

keeps_raised : (app : App) (v : Value) (w : World) (fs : List Frame) → Keeps (raised app v w fs)
keeps_raised app v w [] = keeps_give (playing w [])
keeps_raised app v w (f ∷ fs) =
    keeps_after (one_of (map (λ pc. Some pc) (catches_of (step_at app f.method f.pc)) ++ None ∷ [])) (raised_to app v w f fs (raised app v w fs))
    (keeps_one (map (λ pc. Some pc) (catches_of (step_at app f.method f.pc)) ++ None ∷ [])) (by_choice (keeps_raised app v w fs))
  where
    by_choice : Keeps (raised app v w fs) → (to : Option ℕ) → Keeps (raised_to app v w f fs (raised app v w fs) to)
    by_choice upward (Some pc) = keeps_give _
    by_choice upward None = upward

-- events
keeps_parameter : (app : App) (lists : Lists) (handed labels : List ℕ) (type : Name) (heap : List Object) → Keeps (parameter app lists handed labels type heap)
keeps_parameter app lists handed labels type heap =
    keeps_if (is_reference type) (one_of (parameter_values app lists handed labels type heap)) (give (labelled labels, heap)) (keeps_one (parameter_values app lists handed labels type heap)) (keeps_give (labelled labels, heap))

abbrev with_others : Value × List Object → List Value × List Object → Drawing (List Value × List Object)
with_others first others = give (first.0 ∷ others.0, others.1)

abbrev others_after : App → Lists → List ℕ → List (ℕ × ℕ) → ℕ → List Name → Value × List Object → Drawing (List Value × List Object)
others_after app lists handed sources i types first = parameters app lists handed sources (i + 1) types first.1 >>= with_others first

keeps_parameters : (app : App) (lists : Lists) (handed : List ℕ) (sources : List (ℕ × ℕ)) (i : ℕ) (types : List Name) (heap : List Object) → Keeps (parameters app lists handed sources i types heap)
keeps_parameters app lists handed sources i [] heap = keeps_give ([], heap)
keeps_parameters app lists handed sources i (type ∷ types) heap =
    keeps_after (parameter app lists handed (labels_at sources i) type heap) (others_after app lists handed sources i types) (keeps_parameter app lists handed (labels_at sources i) type heap)
    (λ first. keeps_after (parameters app lists handed sources (i + 1) types first.1) (with_others first) (keeps_parameters app lists handed sources (i + 1) types first.1) (λ others. keeps_give (first.0 ∷ others.0, others.1)))

keeps_begun : (app : App) (lists : Lists) (w : World) (event : Event) → Keeps (begun app lists w event)
unfolding begun
keeps_begun app lists w (Receives None place sources new) = keeps_give (playing new [])
keeps_begun app lists w (Receives (Some body) place sources new) = by_code (code_of app body)
  where
    by_code : (o : Option Method) → Keeps (begins_with app lists body place sources new o)
    by_code None = keeps_give (playing new [])
    by_code (Some m) =
        keeps_after (parameters app lists new.handed sources 1 m.at.proto.params new.heap) (λ (drawn : List Value × List Object). give (playing (record new { heap = drawn.1 }) (event_frame body m (receiver place sources ∷ drawn.0) ∷ [])))
        (keeps_parameters app lists new.handed sources 1 m.at.proto.params new.heap) (λ drawn. keeps_give _)
keeps_begun app lists w (Initialiser body) = keeps_give _

-- library calls
keeps_given : (app : App) (lists : Lists) (w : World) (handed : List ℕ) (f : Frame) (places : List ℕ) (source : Option ℕ) (ret : Name) (statics : ℕ → Value) (heap : List Object) (g : Gives) → Keeps (given_result app lists w handed f places source ret statics heap g)
keeps_given app lists w handed f places source ret statics heap gives.Blank = keeps_give _
keeps_given app lists w handed f places source ret statics heap (gives.Same i) = keeps_give _
keeps_given app lists w handed f places source ret statics heap (gives.Taken i) =
    keeps_after (got w.heap (value_at f places i) elem_key) (λ v. give (heap, v)) (keeps_got w.heap (value_at f places i) elem_key) (λ v. keeps_give (heap, v))
keeps_given app lists w handed f places source ret statics heap (gives.Shared i) = keeps_give _
keeps_given app lists w handed f places source ret statics heap (gives.Joined from) = keeps_give _
keeps_given app lists w handed f places source ret statics heap gives.Handed =
    keeps_after (one_of (given_back app lists w handed ret)) (λ v. give (heap, v)) (keeps_one (given_back app lists w handed ret)) (λ v. keeps_give (heap, v))

keeps_library : (app : App) (lists : Lists) (w : World) (f : Frame) (places : List ℕ) (ret : Name) (row : Summary) → Keeps (library_call app lists w f places ret row)
unfolding library_call
keeps_library app lists w f places ret row =
    let shared : List Object × (ℕ → Value) = with_shared app lists (shared_named row ret) w.heap w.statics in
    keeps_after (result app lists w (hand_all f places w.handed) f places row.source ret shared.1 shared.0 row.gives) (λ (given : List Object × Value). give (after_call app w f places row shared.1 given.0, given.1))
    (keeps_if (is_void ret) (give (shared.0, blank)) (given_result app lists w (hand_all f places w.handed) f places row.source ret shared.1 shared.0 row.gives) (keeps_give (shared.0, blank)) (keeps_given app lists w (hand_all f places w.handed) f places row.source ret shared.1 shared.0 row.gives))
    (λ given. keeps_give _)

-- the ways of a frame
keeps_resumes : (w : World) (v : Value) (f : Frame) (fs : List Frame) (next : List ℕ) → Keeps (resumes w v f fs next)
keeps_resumes w v f fs next = keeps_after (one_of next) (λ pc. give (playing w (moved f pc (write f.registers result_register v) ∷ fs))) (keeps_one next) (λ pc. keeps_give (playing w (moved f pc (write f.registers result_register v) ∷ fs)))

module _ (app : App) (lists : Lists) (w : World) (f : Frame) (fs : List Frame) (next : List ℕ) where
  abbrev arrives : World × (ℕ → Value) → ℕ → Drawing Playing
  arrives done pc = give (playing done.0 (moved f pc done.1 ∷ fs))

  abbrev goes_on : World × (ℕ → Value) → Drawing Playing
  goes_on done = one_of next >>= arrives done

  abbrev then_drawn : World × Value → Drawing Playing
  then_drawn done = draw 2 >>= resumes_or_raises app done.0 done.1 f fs next

  keeps_acts : (act : Act) → Keeps (acts app lists w f fs next act)
  keeps_acts act =
      keeps_after (local app lists w f act) goes_on (keeps_local app lists w f act) (λ done. keeps_after (one_of next) (arrives done) (keeps_one next) (λ pc. keeps_give (playing done.0 (moved f pc done.1 ∷ fs))))

  keeps_calls : (kind : CallKind) (at : MethodRef) (args : List ℕ) (row : Summary) → Keeps (stepping.calls_library app lists w f fs next kind at args row)
  keeps_calls kind at args row =
      keeps_after (library_call app lists w f (positions kind at args) at.proto.ret row) then_drawn (keeps_library app lists w f (positions kind at args) at.proto.ret row)
      (λ done. keeps_after (draw 2) (resumes_or_raises app done.0 done.1 f fs next) (keeps_draw 2)
      (λ way. keeps_if (way == 0) (resumes done.0 done.1 f fs next) (raised app blank done.0 (f ∷ fs)) (keeps_resumes done.0 done.1 f fs next) (keeps_raised app blank done.0 (f ∷ fs))))

-- where there is a way, it keeps to its bytes
abbrev pub WayKeeps : Option (Drawing Playing) → Type 0
WayKeeps o = (way : Drawing Playing) → o ≡ Some way → Keeps way

no_way : WayKeeps None
no_way way is = absurd (none-some way is)

one_way : (one : Drawing Playing) → Keeps one → WayKeeps (Some one)
one_way one keeps way is = subst (λ (z : Drawing Playing). Keeps z) (same_Some one way is) keeps

keeps_where_next : (ns : List ℕ) (one : Drawing Playing) → Keeps one → WayKeeps (where_next ns one)
keeps_where_next [] one keeps = no_way
keeps_where_next (n ∷ ns) one keeps = one_way one keeps

module _ (app : App) (lists : Lists) (w : World) (f : Frame) (fs : List Frame) where
  keeps_target : (next : List ℕ) (kind : CallKind) (at : MethodRef) (args : List ℕ) (o : Option Target) → WayKeeps (calls_target app lists w f fs next kind at args o)
  keeps_target next kind at args None = no_way
  keeps_target next kind at args (Some (Body body)) = by_code (code_of app body)
    where
      by_code : (o : Option Method) → WayKeeps (calls_body w f fs args body o)
      by_code None = no_way
      by_code (Some m) = one_way _ (keeps_give _)
  keeps_target next kind at args (Some (Library class)) = by_row (called_row app lists class kind at)
    where
      by_plain : (row : Summary) (b : Bool) → WayKeeps (cond b None (where_next next (stepping.calls_library app lists w f fs next kind at args row)))
      by_plain row true = no_way
      by_plain row false = keeps_where_next next (stepping.calls_library app lists w f fs next kind at args row) (keeps_calls app lists w f fs next kind at args row)

      by_row : (o : Option Summary) → WayKeeps (calls_row app lists w f fs next kind at args o)
      by_row None = no_way
      by_row (Some row) = by_plain row row.reflective
  keeps_target next kind at args (Some Nothing) = no_way

  keeps_return : (x : Option ℕ) (gs : List Frame) → WayKeeps (stepping.returns app w f x gs)
  keeps_return x [] = one_way _ (keeps_give _)
  keeps_return x (g ∷ gs) = by_kind f.initialises
    where
      by_kind : (b : Bool) → WayKeeps (cond b (Some (give (playing w (g ∷ gs)))) (where_next (next_of (step_at app g.method g.pc)) (resumes w (returned f x) g gs (next_of (step_at app g.method g.pc)))))
      by_kind true = one_way (give (playing w (g ∷ gs))) (keeps_give (playing w (g ∷ gs)))
      by_kind false = keeps_where_next (next_of (step_at app g.method g.pc)) (resumes w (returned f x) g gs (next_of (step_at app g.method g.pc))) (keeps_resumes w (returned f x) g gs (next_of (step_at app g.method g.pc)))

  keeps_local_way : (next : List ℕ) (act : Act) → WayKeeps (where_next next (acts app lists w f fs next act))
  keeps_local_way next act = keeps_where_next next (acts app lists w f fs next act) (keeps_acts app lists w f fs next act)

  keeps_does : (next : List ℕ) (act : Act) → WayKeeps (does app lists w f fs next act)
  keeps_does next (Call kind at args) = keeps_target next kind at args (call_target app w.heap f kind at args)
  keeps_does next (Return x) = keeps_return x fs
  keeps_does next (Throw x) = one_way (raised app (f.registers x) w (f ∷ fs)) (keeps_raised app (f.registers x) w (f ∷ fs))
  keeps_does next Skip = keeps_local_way next Skip
  keeps_does next Go = keeps_local_way next Go
  keeps_does next (Join ds xs) = keeps_local_way next (Join ds xs)
  keeps_does next (Move ds x) = keeps_local_way next (Move ds x)
  keeps_does next (Blank ds) = keeps_local_way next (Blank ds)
  keeps_does next (New r class size) = keeps_local_way next (New r class size)
  keeps_does next (Fill xs class) = keeps_local_way next (Fill xs class)
  keeps_does next (Get ds o k) = keeps_local_way next (Get ds o k)
  keeps_does next (Put o k x) = keeps_local_way next (Put o k x)
  keeps_does next (GetStatic ds g) = keeps_local_way next (GetStatic ds g)
  keeps_does next (PutStatic g x) = keeps_local_way next (PutStatic g x)
  keeps_does next (TakeResult ds) = keeps_local_way next (TakeResult ds)
  keeps_does next (TakeException r) = keeps_local_way next (TakeException r)

  keeps_there : (o : Option Step) → WayKeeps (step_there app lists w f fs o)
  keeps_there None = no_way
  keeps_there (Some s) = keeps_does s.next s.act

  in_option : (o : Option (Drawing Playing)) → WayKeeps o → (way : Drawing Playing) → In way (option_to_list o) → Keeps way
  in_option None keeps way h = absurd h
  in_option (Some one) keeps way (inl same) = keeps way (ap (λ (z : Drawing Playing). Some z) (sym same))
  in_option (Some one) keeps way (inr h) = absurd h

  keeps_way : (way : Drawing Playing) → In way (ways app lists w f fs) → Keeps way
  unfolding ways
  keeps_way way h = by_last (in_either way (map (enters w (f ∷ fs)) (initialisers_at app (step_at app f.method f.pc)) ++ option_to_list (step_there app lists w f fs (step_at app f.method f.pc))) (raised app blank w (f ∷ fs) ∷ []) h)
    where
      by_first : In way (map (enters w (f ∷ fs)) (initialisers_at app (step_at app f.method f.pc))) ⊎ In way (option_to_list (step_there app lists w f fs (step_at app f.method f.pc))) → Keeps way
      by_first (inl one) = let found = from_map (enters w (f ∷ fs)) (initialisers_at app (step_at app f.method f.pc)) way one in subst (λ (z : Drawing Playing). Keeps z) (sym found.2) (keeps_give _)
      by_first (inr one) = in_option (step_there app lists w f fs (step_at app f.method f.pc)) (keeps_there (step_at app f.method f.pc)) way one

      by_last : In way (map (enters w (f ∷ fs)) (initialisers_at app (step_at app f.method f.pc)) ++ option_to_list (step_there app lists w f fs (step_at app f.method f.pc))) ⊎ In way (raised app blank w (f ∷ fs) ∷ []) → Keeps way
      by_last (inl first) = by_first (in_either way (map (enters w (f ∷ fs)) (initialisers_at app (step_at app f.method f.pc))) (option_to_list (step_there app lists w f fs (step_at app f.method f.pc))) first)
      by_last (inr (inl same)) = subst (λ (z : Drawing Playing). Keeps z) (sym same) (keeps_raised app blank w (f ∷ fs))
      by_last (inr (inr none)) = absurd none

module _ (app : App) (lists : Lists) where
  takes_step : (w : World) (fs : List Frame) → Takes (step app lists w fs)
  unfolding step
  takes_step w [] = takes_after (one_of (events app lists w)) (begun app lists w) (takes_one (events app lists w)) (λ event bytes rest is. keeps_begun app lists w event)
  takes_step w (f ∷ fs) =
      takes_after (one_of (ways app lists w f fs)) (λ way. way) (takes_one (ways app lists w f fs))
      (λ way bytes rest is. keeps_way app lists w f fs way (one_drawn (ways app lists w f fs) way (record { bytes = bytes; rest = rest; drawn = is })))

  one_turn_more : (n : ℕ) (s : Playing) (bytes : List ℕ) → length bytes ≤ n → drawn_within (suc n) app lists s bytes ≡ drawn_within n app lists s bytes
  one_turn_more zero s bytes few = by_step (drawn_step app lists s bytes) refl
    where
      by_step : (o : Option (Playing × List ℕ)) → drawn_step app lists s bytes ≡ o → and_after (drawn_within 0 app lists) o ≡ []
      by_step None is = refl
      by_step (Some d) is = let taken : length d.1 < length bytes = takes_step s.world s.frames bytes d.0 d.1 is in absurd (omega (arith, few, taken))
  one_turn_more (suc n) s bytes few = by_step (drawn_step app lists s bytes) refl (λ t rest. one_turn_more n t rest)
    where
      by_step : (o : Option (Playing × List ℕ)) → drawn_step app lists s bytes ≡ o →
          ((t : Playing) (rest : List ℕ) → length rest ≤ n → drawn_within (suc n) app lists t rest ≡ drawn_within n app lists t rest) →
          and_after (drawn_within (suc n) app lists) o ≡ and_after (drawn_within n app lists) o
      by_step None is later = refl
      by_step (Some d) is later = let taken : length d.1 < length bytes = takes_step s.world s.frames bytes d.0 d.1 is in ap (λ ts. d.0 ∷ ts) (later d.0 d.1 (omega (arith, few, taken)))

  more_turns : (k n : ℕ) (s : Playing) (bytes : List ℕ) → length bytes ≤ n → drawn_within (k + n) app lists s bytes ≡ drawn_within n app lists s bytes
  more_turns zero n s bytes few = let same : 0 + n ≡ n = omega arith in ap (λ m. drawn_within m app lists s bytes) same
  more_turns (suc k) n s bytes few =
      let same : suc k + n ≡ suc (k + n) = omega arith in
      ap (λ m. drawn_within m app lists s bytes) same ∙ (one_turn_more (k + n) s bytes (omega (arith, few)) ∙ more_turns k n s bytes few)

  pub to_its_end : (script : List ℕ) (n : ℕ) → length script ≤ n → start ∷ drawn_within n app lists start script ≡ drawn app lists script
  unfolding drawn
  to_its_end script n enough =
      let same : n ≡ n - length script + length script = omega (arith, enough) in
      ap (λ ts. start ∷ ts) (ap (λ m. drawn_within m app lists start script) same ∙ more_turns (n - length script) (length script) start script (omega arith))

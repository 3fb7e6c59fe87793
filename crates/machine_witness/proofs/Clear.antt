-- No run of the clear app arrives: at the call of `post` the register is blank.
use Rattle.std.proofs.Common.{◌≡◌, ◌==◌, ℕ, zero, suc, List, [], ◌∷◌, Bool, true, false, cond, inl, inr, Option, Some, None, refl, ap, sym, subst, arith}
use Rattle.std.proofs.lemmas.Bool.{eqb-true}
use Rattle.std.specs.Prelude.{IsFalse, find}
use Rattle.vet_base.specs.declared.key_id.KeyId.{KeyId}
use Rattle.app_machine.specs.declared.call.MethodRef.{MethodRef}
use Rattle.app_machine.specs.declared.call.CallKind.{CallKind}
use Rattle.app_machine.specs.declared.call.CallKind.TheVariants.{Static}
use Rattle.app_machine.specs.declared.method.Method.{Method}
use Rattle.app_machine.specs.declared.method.Step.{Step}
use Rattle.app_machine.specs.declared.method.Act.{Act}
use Rattle.app_machine.specs.declared.method.Act.TheVariants.{Blank, Call, Return, TakeResult}
use Rattle.app_machine.specs.declared.summary.Summary.{Summary}
use Rattle.app_machine.specs.declared.lists.SummaryId.TheVariants.{Row}
use Rattle.vet_base.specs.Members.{In}
use Rattle.app_machine.specs.Names.{is_wide, is_array}
use Rattle.app_machine.specs.Lookups.{Target, Body, Library, ActAt, Goes, Catches, HasCode, Initialises, initialisers, class_initialised, initialisers_from, step_at, target, find_body, up, method_of, class_named, is_by_receiver}
use Rattle.app_machine.specs.Summaries.{library_key, summary, row_walk, library_classes, listed_above, listed_class, row_of}
use Rattle.app_machine.specs.Heap.{Value, Object, blank, Reaches}
use Rattle.app_machine.specs.State.{Arrival, World, Frame, write_all}
use Rattle.app_machine.specs.Local.{Local, skips, goes, blanks, moves, takes_result, takes_exception, joins, makes, fills, gets, puts, gets_static, puts_static}
use Rattle.app_machine.specs.Calls.{CallsTo, by_name, by_nothing, by_class, Raises, is_caught, unwinds, ends_event}
use Rattle.app_machine.specs.Library.{positions, value_at, AtSink, CallsLibrary, UsesRow}
use Rattle.app_machine.specs.Events.{Comes, lives, is_born, calls_back, is_clicked, is_handed}
use Rattle.app_machine.specs.Run.{Steps, goes_on, raises, throws, calls, calls_library, library_raises, initialises, ends, passes, begins, begins_initialiser, Run, starts, then}
use Rattle.machine_witness.specs.Apps.{device_class, net_class, id, post, step, clear_steps, clear_app, small_lists, ClearSiblingNeverArrives}
use Rattle.machine_witness.proofs.Leaking.{source_row}
use Rattle.std.proofs.lemmas.Option.{none-some}

-- the instructions of the one method
data OneOf : ℕ → Act → List ℕ → List ℕ → Type 0 where
  at_source : OneOf 0 (Call Static id []) (3 ∷ []) []
  at_take : OneOf 3 (TakeResult (0 ∷ [])) (4 ∷ []) []
  at_constant : OneOf 4 (Blank (0 ∷ [])) (5 ∷ []) []
  at_sink : OneOf 5 (Call Static post (0 ∷ [])) (8 ∷ []) []
  at_return : OneOf 8 (Return None) [] []

one_in : (steps : List Step) (pc : ℕ) (s : Step) → ((x : Step) → In x steps → OneOf x.pc x.act x.next x.catches) → find (λ (x : Step). x.pc == pc) steps ≡ Some s → OneOf pc s.act s.next s.catches
one_in [] pc s each e = absurd (let none : ⊥ = cc in none)
one_in (x ∷ xs) pc s each e = go (x.pc == pc) refl (one_in xs pc s (λ y h. each y (inr h))) e
  where
    go : (b : Bool) → (x.pc == pc) ≡ b → (find (λ (x : Step). x.pc == pc) xs ≡ Some s → OneOf pc s.act s.next s.catches) → cond b (Some x) (find (λ (x : Step). x.pc == pc) xs) ≡ Some s → OneOf pc s.act s.next s.catches
    go true is later e = let same : x ≡ s = cc in subst (λ (y : Step). OneOf pc y.act y.next y.catches) same (subst (λ j. OneOf j x.act x.next x.catches) (eqb-true x.pc pc is) (each x (inl refl)))
    go false is later e = later e

each_one : (x : Step) → In x clear_steps → OneOf x.pc x.act x.next x.catches
each_one x (inl e) = subst (λ (y : Step). OneOf y.pc y.act y.next y.catches) (sym e) at_source
each_one x (inr (inl e)) = subst (λ (y : Step). OneOf y.pc y.act y.next y.catches) (sym e) at_take
each_one x (inr (inr (inl e))) = subst (λ (y : Step). OneOf y.pc y.act y.next y.catches) (sym e) at_constant
each_one x (inr (inr (inr (inl e)))) = subst (λ (y : Step). OneOf y.pc y.act y.next y.catches) (sym e) at_sink
each_one x (inr (inr (inr (inr (inl e))))) = subst (λ (y : Step). OneOf y.pc y.act y.next y.catches) (sym e) at_return
each_one x (inr (inr (inr (inr (inr none))))) = absurd none

one_of : (pc : ℕ) (s : Step) → step_at clear_app 0 pc ≡ Some s → OneOf pc s.act s.next s.catches
unfolding step_at clear_app
one_of pc s e = one_in clear_steps pc s each_one e

-- an act of the method, with its successors and handlers
acts : {pc : ℕ} {act : Act} → ActAt clear_app 0 pc act → (next : List ℕ) × ((catches : List ℕ) × OneOf pc act next catches)
acts {pc} a = (a.step.next, (a.step.catches, subst (λ x. OneOf pc x a.step.next a.step.catches) a.same (one_of pc a.step a.there)))

-- control comes to 5 from the constant alone
from_constant : {pc : ℕ} → Goes clear_app 0 pc 5 → pc ≡ 4
from_constant {pc} g = by (one_of pc g.step g.there) g.next
  where
    by : {pc : ℕ} {act : Act} {next catches : List ℕ} → OneOf pc act next catches → In 5 next → pc ≡ 4
    by at_source (inl e) = absurd (omega arith)
    by at_source (inr none) = absurd none
    by at_take (inl e) = absurd (omega arith)
    by at_take (inr none) = absurd none
    by at_constant h = refl
    by at_sink (inl e) = absurd (omega arith)
    by at_sink (inr none) = absurd none
    by at_return h = absurd h

constant_at : {pc : ℕ} {act : Act} → ActAt clear_app 0 pc act → pc ≡ 4 → act ≡ Blank (0 ∷ [])
constant_at a e = let x = acts a in by x.1.1 e
  where
    by : {pc : ℕ} {act : Act} {next catches : List ℕ} → OneOf pc act next catches → pc ≡ 4 → act ≡ Blank (0 ∷ [])
    by at_source e = absurd (omega arith)
    by at_take e = absurd (omega arith)
    by at_constant e = refl
    by at_sink e = absurd (omega arith)
    by at_return e = absurd (omega arith)

-- nothing is caught
uncaught : (pc to : ℕ) → Catches clear_app 0 pc to → ⊥
uncaught pc to c = by to (one_of pc c.step c.there) c.catch
  where
    by : {pc : ℕ} {act : Act} {next catches : List ℕ} (to : ℕ) → OneOf pc act next catches → In to catches → ⊥
    by to at_source h = h
    by to at_take h = h
    by to at_constant h = h
    by to at_sink h = h
    by to at_return h = h

-- the two calls
data TheCall : ℕ → CallKind → MethodRef → List ℕ → Type 0 where
  the_source : TheCall 0 Static id []
  the_sink : TheCall 5 Static post (0 ∷ [])

same_call : {pc : ℕ} {k kind : CallKind} {m at : MethodRef} {xs args : List ℕ} → TheCall pc k m xs → Call k m xs ≡ Call kind at args → TheCall pc kind at args
same_call {pc} {k} {kind} {m} {at} {xs} {args} c e =
    let kinds : k ≡ kind = cc in
    let methods : m ≡ at = cc in
    let registers : xs ≡ args = cc in
    subst (λ x. TheCall pc x at args) kinds (subst (λ x. TheCall pc k x args) methods (subst (λ x. TheCall pc k m x) registers c))

the_call : {pc : ℕ} {kind : CallKind} {at : MethodRef} {args : List ℕ} → ActAt clear_app 0 pc (Call kind at args) → TheCall pc kind at args
the_call {pc} {kind} {at} {args} a = let x = acts a in by x.1.1 refl
  where
    by : {j : ℕ} {act : Act} {next catches : List ℕ} → OneOf j act next catches → act ≡ Call kind at args → TheCall j kind at args
    by at_source e = same_call the_source e
    by at_take e = absurd (let none : ⊥ = cc in none)
    by at_constant e = absurd (let none : ⊥ = cc in none)
    by at_sink e = same_call the_sink e
    by at_return e = absurd (let none : ⊥ = cc in none)

-- both come to the library, and initialise nothing of the app
source_target : target clear_app Static 0 id None ≡ Library device_class
unfolding clear_app target find_body up method_of class_named
source_target = refl

sink_target : target clear_app Static 0 post None ≡ Library net_class
unfolding clear_app target find_body up method_of class_named
sink_target = refl

static_is_plain : IsFalse (is_by_receiver Static)
unfolding is_by_receiver
static_is_plain = refl

-- what a static call comes to
plain_target : {heap : List Object} {f : Frame} {at : MethodRef} {args : List ℕ} {t : Target} → CallsTo clear_app heap f Static at args t → target clear_app Static f.method at None ≡ t
plain_target (by_name plain to) = to
plain_target (by_nothing virtual none to) = to
plain_target (by_class class virtual first there of_class to) = let plain = static_is_plain in let none : ⊥ = cc in absurd none

no_body_called : {heap : List Object} {f : Frame} {kind : CallKind} {at : MethodRef} {args : List ℕ} {body : ℕ} → f.method ≡ 0 → TheCall f.pc kind at args → CallsTo clear_app heap f kind at args (Body body) → ⊥
no_body_called {f = f} in_method call called = by call called
  where
    by : {pc : ℕ} {kind : CallKind} {at : MethodRef} {args : List ℕ} {body : ℕ} {heap : List Object} → TheCall pc kind at args → CallsTo clear_app heap f kind at args (Body body) → ⊥
    by {body = body} the_source called = let to : target clear_app Static 0 id None ≡ Body body = subst (λ m. target clear_app Static m id None ≡ Body body) in_method (plain_target called) in let found = source_target in let none : ⊥ = cc in none
    by {body = body} the_sink called = let to : target clear_app Static 0 post None ≡ Body body = subst (λ m. target clear_app Static m post None ≡ Body body) in_method (plain_target called) in let found = sink_target in let none : ⊥ = cc in none

source_key : library_key clear_app small_lists device_class id.name id.proto true ≡ Some (Row 0)
unfolding clear_app small_lists library_key row_walk library_classes class_named listed_above listed_class row_of is_array
source_key = refl

source_summary : summary small_lists (Row 0) id true ≡ Some source_row
unfolding small_lists summary
source_summary = refl

-- the row of the source is no sink
source_is_no_sink : {heap : List Object} {f : Frame} {row : Summary} → f.method ≡ 0 → UsesRow clear_app small_lists heap f Static id [] row → row.sink ≡ None
source_is_no_sink {f = f} {row = row} in_method u =
    let to = subst (λ m. target clear_app Static m id None ≡ Library u.class) in_method (plain_target u.goes) in
    let found = source_target in
    let class : device_class ≡ u.class = cc in
    let key = subst (λ c. library_key clear_app small_lists c id.name id.proto true ≡ Some u.key) (sym class) u.is_key in
    let known_key = source_key in
    let same_key : Row 0 ≡ u.key = cc in
    let is_row = subst (λ k. summary small_lists k id true ≡ Some row) (sym same_key) u.is_row in
    let known_row = source_summary in
    let same_row : source_row ≡ row = cc in
    ap (λ (r : Summary). r.sink) (sym same_row)

sink_positions : positions Static post (0 ∷ []) ≡ 0 ∷ []
unfolding positions is_wide
sink_positions = refl

blank_reaches : (heap : List Object) (ks : List KeyId) (l : ℕ) → Reaches heap blank ks l → ⊥
blank_reaches heap [] l h = h
blank_reaches heap (k ∷ ks) l h = absurd (none-some h.0 h.1)

-- nothing arrives from a blank register
nothing_at_sink : {heap : List Object} {f : Frame} {row : Summary} → f.registers 0 ≡ blank → (a : Arrival) → AtSink heap f (0 ∷ []) row a → ⊥
nothing_at_sink {heap} {f} none a s = by s.at s.walk
  where
    by : (at : ℕ) → Reaches heap (value_at f (0 ∷ []) at) s.keys a.label → ⊥
    by zero walk = blank_reaches heap s.keys a.label (subst (λ v. Reaches heap v s.keys a.label) none walk)
    by (suc at) walk = blank_reaches heap s.keys a.label walk

abbrev NothingArrived : World → Type 0
NothingArrived w = (a : Arrival) → In a w.arrivals → ⊥

-- no call of the app brings a label to a sink
nothing_arrives : {w new : World} {f : Frame} {kind : CallKind} {at : MethodRef} {args : List ℕ} {row : Summary} {result : Value} → f.method ≡ 0 → (f.pc ≡ 5 → f.registers 0 ≡ blank) → TheCall f.pc kind at args → UsesRow clear_app small_lists w.heap f kind at args row → NothingArrived w → CallsLibrary clear_app small_lists w f (positions kind at args) at.proto.ret row new result → NothingArrived new
nothing_arrives {w} {new} {f} {row = row} in_method quiet call u before c = λ a h. elim ((c.arrivals a).0 h) [ inl old ↦ before a old | inr s ↦ by call refl u a s ]
  where
    by : {pc : ℕ} {kind : CallKind} {at : MethodRef} {args : List ℕ} → TheCall pc kind at args → f.pc ≡ pc → UsesRow clear_app small_lists w.heap f kind at args row → (a : Arrival) → AtSink w.heap f (positions kind at args) row a → ⊥
    by the_source e u a s = let none = source_is_no_sink in_method u in let some = s.is_sink.1 in let absurd_sink : ⊥ = cc in absurd_sink
    by the_sink e u a s = nothing_at_sink (quiet e) a (subst (λ places. AtSink w.heap f places row a) sink_positions s)

-- The invariant: nothing arrived, and one frame at most, of the one method, whose register is blank at the call of the sink.
data Quiet : World → List Frame → Type 0 where
  idle : {w : World} → NothingArrived w → Quiet w []
  busy : {w : World} {f : Frame} → NothingArrived w → f.method ≡ 0 → (f.pc ≡ 5 → f.registers 0 ≡ blank) → Quiet w (f ∷ [])

-- an act that is no constant does not lead to the call of the sink
elsewhere : {A : Type 0} {method pc to : ℕ} {act : Act} → method ≡ 0 → ActAt clear_app method pc act → Goes clear_app method pc to → (act ≡ Blank (0 ∷ []) → ⊥) → to ≡ 5 → A
elsewhere {method = method} {pc = pc} {to = to} {act = act} in_method there next other e =
    let there0 = subst (λ m. ActAt clear_app m pc act) in_method there in
    let next0 = subst (λ x. Goes clear_app 0 pc x) e (subst (λ m. Goes clear_app m pc to) in_method next) in
    absurd (other (constant_at there0 (from_constant next0)))

the_constant : (registers : ℕ → Value) {method pc to : ℕ} {ds : List ℕ} → method ≡ 0 → ActAt clear_app method pc (Blank ds) → Goes clear_app method pc to → to ≡ 5 → write_all registers ds blank 0 ≡ blank
the_constant registers {method} {pc} {to} {ds} in_method there next e =
    let there0 = subst (λ m. ActAt clear_app m pc (Blank ds)) in_method there in
    let next0 = subst (λ x. Goes clear_app 0 pc x) e (subst (λ m. Goes clear_app m pc to) in_method next) in
    let same : Blank ds ≡ Blank (0 ∷ []) = constant_at there0 (from_constant next0) in
    let list : ds ≡ 0 ∷ [] = cc in
    subst (λ x. write_all registers x blank 0 ≡ blank) (sym list) refl

quiet_local : {w : World} {f : Frame} {new : World} {g : Frame} → NothingArrived w → f.method ≡ 0 → Local clear_app small_lists w f new g → Quiet new (g ∷ [])
quiet_local none in_method (skips act next) = busy none in_method (elsewhere in_method act next (λ e. let no_way : ⊥ = cc in no_way))
quiet_local none in_method (goes act next) = busy none in_method (elsewhere in_method act next (λ e. let no_way : ⊥ = cc in no_way))
quiet_local {f = f} none in_method (blanks act next) = busy none in_method (the_constant f.registers in_method act next)
quiet_local none in_method (moves act next) = busy none in_method (elsewhere in_method act next (λ e. let no_way : ⊥ = cc in no_way))
quiet_local none in_method (takes_result act next) = busy none in_method (elsewhere in_method act next (λ e. let no_way : ⊥ = cc in no_way))
quiet_local none in_method (takes_exception act next) = busy none in_method (elsewhere in_method act next (λ e. let no_way : ⊥ = cc in no_way))
quiet_local none in_method (joins labels act next which) = busy none in_method (elsewhere in_method act next (λ e. let no_way : ⊥ = cc in no_way))
quiet_local none in_method (makes labels act next which) = busy none in_method (elsewhere in_method act next (λ e. let no_way : ⊥ = cc in no_way))
quiet_local none in_method (fills entries act next which) = busy none in_method (elsewhere in_method act next (λ e. let no_way : ⊥ = cc in no_way))
quiet_local none in_method (gets act next given) = busy none in_method (elsewhere in_method act next (λ e. let no_way : ⊥ = cc in no_way))
quiet_local none in_method (puts act next) = busy none in_method (elsewhere in_method act next (λ e. let no_way : ⊥ = cc in no_way))
quiet_local none in_method (gets_static act next) = busy none in_method (elsewhere in_method act next (λ e. let no_way : ⊥ = cc in no_way))
quiet_local none in_method (puts_static act next) = busy none in_method (elsewhere in_method act next (λ e. let no_way : ⊥ = cc in no_way))

-- a raised value ends the event
quiet_raise : {w : World} {f : Frame} {v : Value} {gs : List Frame} → NothingArrived w → f.method ≡ 0 → Raises clear_app (f ∷ []) v gs → Quiet w gs
quiet_raise {f = f} none in_method (is_caught {pc = pc} catch) = absurd (uncaught f.pc pc (subst (λ m. Catches clear_app m f.pc pc) in_method catch))
quiet_raise none in_method (unwinds ends_event) = idle none

-- no initialiser of the app may run before an instruction
no_initialiser : {pc body : ℕ} → Initialises clear_app 0 pc body → ⊥
unfolding initialisers class_initialised initialisers_from up clear_app
no_initialiser {pc} {body} i = let x = acts i.at in by x.1.1 i.is_one
  where
    by : {pc : ℕ} {act : Act} {next catches : List ℕ} → OneOf pc act next catches → In body (initialisers clear_app act) → ⊥
    by at_source h = h
    by at_take h = h
    by at_constant h = h
    by at_sink h = h
    by at_return h = h

-- the one method
one_method : {body : ℕ} {m : Method} → HasCode clear_app body m → body ≡ 0
unfolding clear_app
one_method {body = zero} code = refl
one_method {body = suc body} code = let e = code.there in absurd (let none : ⊥ = cc in none)

nothing_came : {w new : World} {body place : Option ℕ} {sources : List (ℕ × ℕ)} → Comes clear_app small_lists w body place sources new → NothingArrived w → NothingArrived new
nothing_came (lives at in_state alive) none = none
nothing_came (is_born at in_state absent may) none = none
nothing_came (calls_back at alive) none = none
nothing_came (is_clicked at alive) none = none
nothing_came (is_handed is_one of_class at) none = none

not_five : {A : Type 0} → ◌≡◌ {A = ℕ} 0 5 → A
not_five e = absurd (omega arith)

quiet_step : {w new : World} {fs gs : List Frame} → Quiet w fs → Steps clear_app small_lists w fs new gs → Quiet new gs
quiet_step (busy none in_method quiet) (goes_on step) = quiet_local none in_method step
quiet_step (busy none in_method quiet) (raises raised) = quiet_raise none in_method raised
quiet_step (busy none in_method quiet) (throws act raised) = quiet_raise none in_method raised
quiet_step (busy {f = f} none in_method quiet) (calls {kind = kind} {at = at} {args = args} act to code) = absurd (no_body_called in_method (the_call (subst (λ m. ActAt clear_app m f.pc (Call kind at args)) in_method act)) to)
quiet_step (busy {f = f} none in_method quiet) (calls_library {kind = kind} {at = at} {args = args} act next used call) =
    busy (nothing_arrives in_method quiet (the_call (subst (λ m. ActAt clear_app m f.pc (Call kind at args)) in_method act)) used none call) in_method (elsewhere in_method act next (λ e. let no_way : ⊥ = cc in no_way))
quiet_step (busy {f = f} none in_method quiet) (library_raises {kind = kind} {at = at} {args = args} act used call raised) =
    quiet_raise (nothing_arrives in_method quiet (the_call (subst (λ m. ActAt clear_app m f.pc (Call kind at args)) in_method act)) used none call) in_method raised
quiet_step (busy {f = f} none in_method quiet) (initialises {body = body} is_one code) = absurd (no_initialiser (subst (λ m. Initialises clear_app m f.pc body) in_method is_one))
quiet_step (busy none in_method quiet) (ends act) = idle none
quiet_step (idle none) (passes comes without) = idle (nothing_came comes none)
quiet_step (idle none) (begins comes code receiver parameters) = busy (nothing_came comes none) (one_method code) (λ e. not_five e)
quiet_step (idle none) (begins_initialiser may code) = busy none (one_method code) (λ e. not_five e)

quiet_run : {w : World} {fs : List Frame} → Run clear_app small_lists w fs → Quiet w fs
quiet_run starts = idle (λ a h. h)
quiet_run (then run step) = quiet_step (quiet_run run) step

pub never_arrives : ClearSiblingNeverArrives
never_arrives w fs run a h = by (quiet_run run) h
  where
    by : {w : World} {fs : List Frame} → Quiet w fs → In a w.arrivals → ⊥
    by (idle none) h = none a h
    by (busy none in_method quiet) h = none a h

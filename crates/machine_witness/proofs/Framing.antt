-- The steps between frames.
use Rattle.std.proofs.Common.{◌≡◌, ℕ, [], ◌∷◌, true, false, inl, Some, None, refl}
use Rattle.std.specs.Prelude.{codes}
use Rattle.app_machine.specs.declared.call.CallKind.TheVariants.{Static, Virtual}
use Rattle.app_machine.specs.declared.method.Step.{Step}
use Rattle.app_machine.specs.declared.method.Method.{Method}
use Rattle.app_machine.specs.declared.method.Act.TheVariants.{Call, Return, Throw}
use Rattle.vet_base.specs.Members.{In}
use Rattle.app_machine.specs.Names.{initialiser_name, initialiser_proto}
use Rattle.app_machine.specs.Lookups.{Body, HasCode, Catches, Initialises, step_at, target, find_body, up, method_of, class_named, is_by_receiver, initialisers, class_initialised, initialisers_from, initialiser_of}
use Rattle.app_machine.specs.Heap.{ClassAt}
use Rattle.app_machine.specs.State.{World, Frame}
use Rattle.app_machine.specs.Calls.{by_name, by_class, CallsTo, is_caught, unwinds, ends_event}
use Rattle.app_machine.specs.Run.{calls, returns, ends, throws, raises, initialises, has_initialised}
use Rattle.machine_witness.specs.Apps.{main_class, step}
use Rattle.machine_witness.specs.Flows.{ref, void, tries}
use Rattle.machine_witness.specs.Frames.{pass, turn, method_at, frames_app, in_method, FramesStep}
use Rattle.machine_witness.proofs.Acting.{act_of, next_of}

-- the steps of `onCreate`
abbrev passes_on : Step
passes_on = tries 0 (Call Static pass (1 ∷ [])) (3 ∷ []) (7 ∷ [])

abbrev turns : Step
turns = tries 3 (Call Virtual turn (1 ∷ [])) (6 ∷ []) (7 ∷ [])

abbrev pass_body : Method
pass_body = method_at pass true 1 (step 0 (Return (Some 1)) [] ∷ step 1 (Throw 1) [] ∷ [])

abbrev turn_body : Method
turn_body = method_at turn false 1 (step 0 (Return None) [] ∷ [])

abbrev own_initialiser : Method
own_initialiser = method_at (ref main_class (codes "<clinit>") [] void) true 0 (step 0 (Return None) [] ∷ [])

at_pass : step_at frames_app 1 0 ≡ Some passes_on
unfolding frames_app step_at
at_pass = refl

at_turn : step_at frames_app 1 3 ≡ Some turns
unfolding frames_app step_at
at_turn = refl

at_end : step_at frames_app 1 7 ≡ Some (step 7 (Return (Some 1)) [])
unfolding frames_app step_at
at_end = refl

at_throw : step_at frames_app 1 8 ≡ Some (tries 8 (Throw 1) [] (7 ∷ []))
unfolding frames_app step_at
at_throw = refl

at_own_end : step_at frames_app 2 0 ≡ Some (step 0 (Return (Some 1)) [])
unfolding frames_app step_at
at_own_end = refl

at_own_throw : step_at frames_app 2 1 ≡ Some (step 1 (Throw 1) [])
unfolding frames_app step_at
at_own_throw = refl

at_initialiser : step_at frames_app 0 0 ≡ Some (step 0 (Return None) [])
unfolding frames_app step_at
at_initialiser = refl

codes_of : HasCode frames_app 0 own_initialiser × HasCode frames_app 2 pass_body × HasCode frames_app 3 turn_body
unfolding frames_app
codes_of = (record { there = refl; code = refl }, record { there = refl; code = refl }, record { there = refl; code = refl })

called : (w : World) (f : Frame) → CallsTo frames_app w.heap f Static pass (1 ∷ []) (Body 2)
unfolding frames_app target find_body up method_of class_named is_by_receiver
called w f = by_name refl refl

called_by_class : (w : World) (f : Frame) (p : ℕ) → (f.registers 1).place ≡ Some p → ClassAt w.heap p main_class → CallsTo frames_app w.heap f Virtual turn (1 ∷ []) (Body 3)
unfolding frames_app target find_body up method_of class_named is_by_receiver
called_by_class w f p place class = by_class main_class refl (record { there = refl }) place class refl

own : Initialises frames_app 1 0 0
unfolding frames_app step_at initialisers class_initialised initialisers_from initialiser_of initialiser_name initialiser_proto up method_of
own = record { act = Call Static pass (1 ∷ []); at = record { step = _; there = refl; same = refl }; is_one = inl refl }

caught : {method pc to : ℕ} (s : Step) → step_at frames_app method pc ≡ Some s → In to s.catches → Catches frames_app method pc to
caught s there catch = record { step = s; there = there; catch = catch }

pub frames_step : FramesStep
frames_step lists w r q fs = record {
  calls = record { registers = _; is_argument = refl; steps = calls (act_of passes_on at_pass) (called w (in_method 1 0 r)) codes_of.1 };
  calls_by_class = λ p place class. record { registers = _; is_argument = refl; steps = calls (act_of turns at_turn) (called_by_class w (in_method 1 3 r) p place class) codes_of.2 };
  returns = returns refl (act_of (step 0 (Return (Some 1)) []) at_own_end) (next_of passes_on at_pass (inl refl));
  ends = ends (act_of (step 7 (Return (Some 1)) []) at_end);
  throws = throws (act_of (tries 8 (Throw 1) [] (7 ∷ [])) at_throw) (is_caught (caught (tries 8 (Throw 1) [] (7 ∷ [])) at_throw (inl refl)));
  throws_to_caller = throws (act_of (step 1 (Throw 1) []) at_own_throw) (unwinds (is_caught (caught passes_on at_pass (inl refl))));
  throws_out = throws (act_of (step 1 (Throw 1) []) at_own_throw) (unwinds (unwinds ends_event));
  raises = raises (is_caught (caught turns at_turn (inl refl)));
  initialises = (_, initialises own codes_of.0);
  has_initialised = has_initialised refl (act_of (step 0 (Return None) []) at_initialiser);
}

-- Frames from the back, where the running one is the last that is kept.
use Rattle.std.proofs.Common.{◌≡◌, ℕ, ◌+◌, ◌-◌, ◌<◌, ◌≤◌, Bool, true, false, cond, ◌&&◌, List, [], ◌∷◌, ◌++◌, map, reverse, take, drop, length, get_or, Option, Some, None, slice_get, refl, sym, ap, ◌∙◌, arith, ltb-true, ltb-false}
use Rattle.std.specs.Prelude.{◌↔◌, option_map, nat_le, nat_lt, slice_set}
use Rattle.std.proofs.lemmas.List.{reverse-append, get_or-reverse, length-reverse, length-drop, length-map, length-set, length-take-le, take_all, take_more, take_more_set}
use Rattle.std.proofs.lemmas.Bool.{le-leb, lt-leb}
use Rattle.std.proofs.lemmas.Option.{slice_get-get_or, slice_get-map, slice_get_past}
use Rattle.vet_base.proofs.Lists.{element_at}
use Rattle.app_machine.specs.declared.method.Method.{Method}
use Rattle.app_machine.specs.Heap.{Value, blank}
use Rattle.app_machine.specs.State.{Frame, write, entered, value_or_blank}
use Rattle.played_machine.proofs.Ordered.{false_true}
use Rattle.runner_calls.specs.Frames.{gone_on}
use Rattle.runner_calls.specs.Landing.{down_to}
use Rattle.runner_state.specs.declared.frame.Called.{Called}
use Rattle.runner_state.specs.Shown.{entered_from, frame_in, register_in}

-- the running frame first
abbrev pub stack : List Called → List Frame
stack called = map frame_in (reverse called)

take_none : {A : Type 0} (xs : List A) → length xs ≤ 0 → xs ≡ []
take_none [] none = refl
take_none (x ∷ xs) none = absurd (omega (arith, none))

pub length_stack : (called : List Called) → length (stack called) ≡ length called
length_stack called = length-map (reverse called) frame_in ∙ length-reverse called

pub stack_push : (called : List Called) (c : Called) → stack (called ++ c ∷ []) ≡ frame_in c ∷ stack called
stack_push called c = ap (map frame_in) (reverse-append called (c ∷ []))

-- one frame by its number from the top
get_back : (called : List Called) (i : ℕ) → i < length called → slice_get (reverse called) i ≡ slice_get called (length called - 1 - i)
get_back called i within =
    let at = element_at called (length called - 1 - i) (omega (arith, within)) in
    let many : length (reverse called) ≡ length called = length-reverse called in
    slice_get-get_or (reverse called) i at.0 (omega (arith, many, within))
    ∙ (ap (λ c. Some c) (get_or-reverse called i at.0 within) ∙ sym (slice_get-get_or called (length called - 1 - i) at.0 (omega (arith, within))))

pub frame_back : (called : List Called) (i : ℕ) (o : Option Called) → i < length called → o ≡ slice_get called (length called - 1 - i) → option_map frame_in o ≡ slice_get (stack called) i
frame_back called i o within is = ap (option_map frame_in) (is ∙ sym (get_back called i within)) ∙ sym (slice_get-map frame_in (reverse called) i)

pub no_frame : (called : List Called) (i : ℕ) → length called ≤ i → None ≡ slice_get (stack called) i
no_frame called i past = let many : length (stack called) ≡ length called = length_stack called in sym (slice_get_past (stack called) i (omega (arith, many, past)))

pub running_is : (called : List Called) (o : Option Called) → o ≡ slice_get called (length called - 1) → option_map frame_in o ≡ slice_get (stack called) 0
running_is [] o is = ap (option_map frame_in) is
running_is (c ∷ called) o is =
    let last : length (c ∷ called) - 1 ≡ length (c ∷ called) - 1 - 0 = omega arith in
    frame_back (c ∷ called) 0 o (omega arith) (is ∙ ap (slice_get (c ∷ called)) last)

-- the last one apart
module _ (called : List Called) (n : ℕ) (c : Called) (many : length called ≡ n + 1) where
  split : c ≡ get_or called n c → called ≡ take n called ++ c ∷ []
  split is = sym (take_all (n + 1) called (omega (arith, many))) ∙ (take_more called n c (omega (arith, many)) ∙ ap (λ y. take n called ++ y ∷ []) (sym is))

  pub stack_top : c ≡ get_or called n c → stack called ≡ frame_in c ∷ stack (take n called)
  stack_top is = ap stack (split is) ∙ stack_push (take n called) c

  set_split : slice_set called n c ≡ take n called ++ c ∷ []
  set_split = sym (take_all (n + 1) (slice_set called n c) (let same : length (slice_set called n c) ≡ length called = length-set called n c in omega (arith, same, many))) ∙ take_more_set called n c (omega (arith, many))

  pub stack_set : stack (slice_set called n c) ≡ frame_in c ∷ stack (take n called)
  stack_set = ap stack set_split ∙ stack_push (take n called) c

pub without_last : (called : List Called) → stack (take (length called - 1) called) ≡ drop 1 (stack called)
without_last [] = refl
without_last (c ∷ called) =
    let at = element_at (c ∷ called) (length called) (omega arith) in
    let same : length (c ∷ called) - 1 ≡ length called = omega arith in
    ap (λ k. stack (take k (c ∷ called))) same ∙ sym (ap (drop 1) (stack_top (c ∷ called) (length called) at.0 (omega arith) at.1))

-- the running frame goes on
pub goes_on : (called : List Called) (n : ℕ) (c new : Called) (register : ℕ) (v : Value) (pc : ℕ) → length called ≡ n + 1 → c ≡ get_or called n c →
    frame_in new ≡ record (frame_in c) { pc = pc; registers = write (register_in c.registers) register v } →
    stack (slice_set called n new) ≡ gone_on register v pc (stack called)
goes_on called n c new register v pc many is made =
    stack_set called n new many
    ∙ (ap (λ f. f ∷ stack (take n called)) made ∙ ap (gone_on register v pc) (sym (stack_top called n c many is)))

-- a body begins
pub entered_is : (m : Method) (arguments : List Value) → m.registers - m.ins + m.ins ≡ m.registers → entered_from (m.registers - m.ins) m.ins arguments ≡ entered m arguments
entered_is m arguments same = ap {B = ℕ → Value} (λ (n : ℕ). λ (r : ℕ). cond (nat_le (m.registers - m.ins) r && nat_lt r n) (value_or_blank arguments (r - (m.registers - m.ins))) blank) same

-- down to a frame
passed_by : (below : ℕ) (f : Frame) (fs : List Frame) → below < length fs → down_to below (f ∷ fs) ≡ down_to below fs
passed_by below f fs above = ap (λ b. cond b (f ∷ fs) (down_to below fs)) (lt-leb (length fs) below above)

stays_at : (below : ℕ) (f : Frame) (fs : List Frame) → length fs ≤ below → f ∷ fs ≡ down_to below (f ∷ fs)
stays_at below f fs within = sym (ap (λ b. cond b (f ∷ fs) (down_to below fs)) (le-leb (length fs) below within))

module _ (below : ℕ) (called : List Called) where
  -- the frame at the top, and those below it
  top : 0 < length called → (c : Called) × (stack called ≡ frame_in c ∷ stack (take (length called - 1) called))
  top some =
      let at = element_at called (length called - 1) (omega (arith, some)) in
      (at.0, stack_top called (length called - 1) at.0 (omega (arith, some)) at.1)

  fewer : 0 < length called → length (stack (take (length called - 1) called)) ≡ length called - 1
  fewer some = length_stack (take (length called - 1) called) ∙ length-take-le (length called - 1) called (omega arith)

  pub down_one : below + 1 < length called → down_to below (drop 1 (stack called)) ≡ down_to below (stack called)
  down_one above =
      let at = top (omega (arith, above)) in
      let many : length (stack (take (length called - 1) called)) ≡ length called - 1 = fewer (omega (arith, above)) in
      ap (λ fs. down_to below (drop 1 fs)) at.1
      ∙ (sym (passed_by below (frame_in at.0) (stack (take (length called - 1) called)) (omega (arith, many, above))) ∙ ap (down_to below) (sym at.1))

  pub down_all : length called ≤ below + 1 → stack called ≡ down_to below (stack called)
  down_all within = by_some (nat_lt 0 (length called)) refl
    where
      none_there : length called ≤ 0 → stack called ≡ down_to below (stack called)
      none_there none = let empty : called ≡ [] = take_none called none in ap stack empty ∙ sym (ap (λ cs. down_to below (stack cs)) empty)

      some_there : 0 < length called → stack called ≡ down_to below (stack called)
      some_there some =
          let at = top some in
          let many : length (stack (take (length called - 1) called)) ≡ length called - 1 = fewer some in
          at.1 ∙ (stays_at below (frame_in at.0) (stack (take (length called - 1) called)) (omega (arith, many, within)) ∙ ap (down_to below) (sym at.1))

      by_some : (b : Bool) → nat_lt 0 (length called) ≡ b → stack called ≡ down_to below (stack called)
      by_some true is = some_there (ltb-true 0 (length called) is)
      by_some false is = none_there (ltb-false 0 (length called) is)

pub go_on_none : (called : List Called) (register : ℕ) (v : Value) (pc : ℕ) → length called ≡ 0 → stack called ≡ gone_on register v pc (stack called)
go_on_none called register v pc none = let empty : called ≡ [] = take_none called (omega (arith, none)) in ap stack empty ∙ sym (ap (λ cs. gone_on register v pc (stack cs)) empty)

pub none_left : (called : List Called) → called ≡ [] → stack called ≡ []
none_left called empty = ap stack empty

pub fewer_left : (old new : List Called) → stack new ≡ drop 1 (stack old) → 0 < length old → length new < length old
fewer_left old new is some =
    let one : length (stack new) ≡ length (stack old) - 1 = ap length is ∙ length-drop 1 (stack old) in
    let two : length (stack new) ≡ length new = length_stack new in
    let three : length (stack old) ≡ length old = length_stack old in
    omega (arith, one, two, three, some)

pub not_above : (n below : ℕ) (b : Bool) → (b ≡ true) ↔ (below + 1 < n) → b ≡ false → n ≤ below + 1
not_above n below b is fails = by_test (nat_lt (below + 1) n) refl
  where
    by_test : (t : Bool) → nat_lt (below + 1) n ≡ t → n ≤ below + 1
    by_test true e = absurd (false_true (sym fails ∙ is.1 (ltb-true (below + 1) n e)))
    by_test false e = ltb-false (below + 1) n e

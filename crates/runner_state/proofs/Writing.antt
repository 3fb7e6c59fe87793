-- One value is written, and several.
use Rattle.std.proofs.Common.{◌≡◌, ◌==◌, ◌+◌, ◌-◌, ◌<◌, ℕ, zero, suc, Bool, true, false, cond, ◌||◌, ◌&&◌, List, [], ◌∷◌, ◌++◌, length, slice_get, take, get_or, map, refl, sym, ap, ◌∙◌, arith, eqb-true, eq-eqb, leb-true, leb-false, ltb-true, ltb-false}
use Rattle.std.specs.Prelude.{slice_set, nat_le, nat_lt, Result, Ok, Err, OnErr}
use Rattle.std.specs.List.{list_any}
use Rattle.std.proofs.lemmas.List.{take_more}
use Rattle.app_machine.specs.Heap.{Value, blank}
use Rattle.app_machine.specs.State.{write, write_all, holds, value_or_blank}
use Rattle.played_machine.proofs.Ordered.{false_true}
use Rattle.runner_state.specs.declared.value.Held.{Held}
use Rattle.runner_state.specs.Shown.{value_of, shown_or_blank, entered_from}

-- a list of values with a blank past the end
abbrev pub values_in : List Held → ℕ → Value
values_in xs i = shown_or_blank (slice_get xs i)

same : (xs : List Held) (k : ℕ) (v : Held) → k < length xs → values_in (slice_set xs k v) k ≡ value_of v
same [] k v lt = absurd (omega (arith, lt))
same (x ∷ xs) zero v lt = refl
same (x ∷ xs) (suc k) v lt = same xs k v (omega (arith, lt))

other : (xs : List Held) (k : ℕ) (v : Held) (r : ℕ) → (r ≡ k → ⊥) → slice_get (slice_set xs k v) r ≡ slice_get xs r
other [] k v r neq = refl
other (x ∷ xs) zero v zero neq = absurd (neq refl)
other (x ∷ xs) zero v (suc r) neq = refl
other (x ∷ xs) (suc k) v zero neq = refl
other (x ∷ xs) (suc k) v (suc r) neq = other xs k v r (λ e. neq (ap suc e))

set_at : (xs : List Held) (k : ℕ) (v : Held) (r : ℕ) → k < length xs → values_in (slice_set xs k v) r ≡ cond (r == k) (value_of v) (values_in xs r)
set_at xs k v r lt = by_same (r == k) refl
  where
    by_same : (b : Bool) → (r == k) ≡ b → values_in (slice_set xs k v) r ≡ cond b (value_of v) (values_in xs r)
    by_same true e = ap (λ z. values_in (slice_set xs k v) z) (eqb-true r k e) ∙ same xs k v lt
    by_same false e = ap shown_or_blank (other xs k v r (λ is. false_true (sym e ∙ eq-eqb r k is)))

pub set_value : (xs : List Held) (k : ℕ) (v : Held) → k < length xs → values_in (slice_set xs k v) ≡ write (values_in xs) k (value_of v)
set_value xs k v lt = λ i r. set_at xs k v r lt i

pushed_at : (xs : List Held) (b : Held) → value_of b ≡ blank → (r : ℕ) → values_in (xs ++ b ∷ []) r ≡ values_in xs r
pushed_at [] b is zero = is
pushed_at [] b is (suc r) = refl
pushed_at (x ∷ xs) b is zero = refl
pushed_at (x ∷ xs) b is (suc r) = pushed_at xs b is r

pub push_value : (xs : List Held) (b : Held) → value_of b ≡ blank → values_in (xs ++ b ∷ []) ≡ values_in xs
push_value xs b is = λ i r. pushed_at xs b is r i

pub none_held : (xs : List Held) → xs ≡ [] → values_in xs ≡ (λ i. blank)
none_held xs is = ap values_in is

-- registers
apart : (a b c : Bool) (w x v y : Value) → (a ≡ true → c ≡ true → ⊥) → (b ≡ true → c ≡ true → ⊥) → cond a w (cond b x (cond c v y)) ≡ cond c v (cond a w (cond b x y))
apart true b true w x v y f g = absurd (f refl refl)
apart true b false w x v y f g = refl
apart false true true w x v y f g = absurd (g refl refl)
apart false true false w x v y f g = refl
apart false false true w x v y f g = refl
apart false false false w x v y f g = refl

-- the registers as a function of these parts
abbrev pub registers_by : (ℕ → Value) → Value → Value → ℕ → Value
registers_by values result exception r = cond (r == 65536) result (cond (r == 65537) exception (values r))

pub blank_registers : (values : ℕ → Value) (result exception : Value) → values ≡ (λ i. blank) → result ≡ blank → exception ≡ blank → registers_by values result exception ≡ (λ r. blank)
blank_registers values result exception one two three =
    ap (λ vs. registers_by vs result exception) one ∙ (ap (λ v. registers_by (λ i. blank) v exception) two ∙ (ap (λ v. registers_by (λ i. blank) blank v) three ∙ (λ i r. at (r == 65536) (r == 65537) i)))
  where
    at : (a b : Bool) → cond a blank (cond b blank blank) ≡ blank
    at true b = refl
    at false true = refl
    at false false = refl

pub set_register : (values new : ℕ → Value) (result exception : Value) (k : ℕ) (v : Value) → (k ≡ 65536 → ⊥) → (k ≡ 65537 → ⊥) → new ≡ write values k v →
    registers_by new result exception ≡ write (registers_by values result exception) k v
set_register values new result exception k v one two is = ap (λ vs. registers_by vs result exception) is ∙ (λ i r. at r i)
  where
    at : (r : ℕ) → registers_by (write values k v) result exception r ≡ write (registers_by values result exception) k v r
    at r = apart (r == 65536) (r == 65537) (r == k) result exception v (values r) (λ a c. one (sym (eqb-true r k c) ∙ eqb-true r 65536 a)) (λ b c. two (sym (eqb-true r k c) ∙ eqb-true r 65537 b))

pub set_result : (values : ℕ → Value) (result exception v : Value) → registers_by values v exception ≡ write (registers_by values result exception) 65536 v
set_result values result exception v = λ i r. at (r == 65536) (cond (r == 65537) exception (values r)) i
  where
    at : (a : Bool) (z : Value) → cond a v z ≡ cond a v (cond a result z)
    at true z = refl
    at false z = refl

pub set_exception : (values : ℕ → Value) (result exception v : Value) → registers_by values result v ≡ write (registers_by values result exception) 65537 v
set_exception values result exception v = λ i r. at r (r == 65536) (r == 65537) refl refl i
  where
    at : (r : ℕ) (a b : Bool) → (r == 65536) ≡ a → (r == 65537) ≡ b → cond a result (cond b v (values r)) ≡ cond b v (cond a result (cond b exception (values r)))
    at r true true e f = absurd (omega (arith, eqb-true r 65536 e, eqb-true r 65537 f))
    at r true false e f = refl
    at r false true e f = refl
    at r false false e f = refl

-- several
any_end : (p : ℕ → Bool) (ds : List ℕ) (d : ℕ) → list_any p (ds ++ d ∷ []) ≡ (p d || list_any p ds)
any_end p [] d = refl
any_end p (e ∷ ds) d = ap (λ b. p e || b) (any_end p ds d) ∙ swapped (p e) (p d) (list_any p ds)
  where
    swapped : (a b c : Bool) → (a || (b || c)) ≡ (b || (a || c))
    swapped true true c = refl
    swapped true false c = refl
    swapped false b c = refl

pub write_more : (registers : ℕ → Value) (ds : List ℕ) (d : ℕ) (v : Value) → write (write_all registers ds v) d v ≡ write_all registers (ds ++ d ∷ []) v
write_more registers ds d v = λ i r. at r i
  where
    either : (a b : Bool) (z : Value) → cond a v (cond b v z) ≡ cond (a || b) v z
    either true b z = refl
    either false b z = refl

    at : (r : ℕ) → write (write_all registers ds v) d v r ≡ write_all registers (ds ++ d ∷ []) v r
    at r = either (r == d) (holds ds r) (registers r) ∙ ap (λ b. cond b v (registers r)) (sym (any_end (λ e. r == e) ds d))

pub write_front : (registers : ℕ → Value) (ds : List ℕ) (i : ℕ) (v : Value) → i < length ds → write (write_all registers (take i ds) v) (get_or ds i 0) v ≡ write_all registers (take (i + 1) ds) v
write_front registers ds i v within = write_more registers (take i ds) (get_or ds i 0) v ∙ ap (λ xs. write_all registers xs v) (sym (take_more ds i 0 within))

-- a body that is entered
pub argument_here : (xs : List Held) (i : ℕ) → shown_or_blank (slice_get xs i) ≡ value_or_blank (map value_of xs) i
argument_here [] zero = refl
argument_here [] (suc i) = refl
argument_here (x ∷ xs) zero = refl
argument_here (x ∷ xs) (suc i) = argument_here xs i

pub enter_none : (first : ℕ) (arguments : List Value) (registers : ℕ → Value) → registers ≡ (λ r. blank) → registers ≡ entered_from first 0 arguments
enter_none first arguments registers is = is ∙ (λ i r. at r (nat_le first r) (nat_lt r (first + 0)) refl refl i)
  where
    at : (r : ℕ) (a b : Bool) → nat_le first r ≡ a → nat_lt r (first + 0) ≡ b → blank ≡ cond (a && b) (value_or_blank arguments (r - first)) blank
    at r true true e f = absurd (omega (arith, leb-true first r e, ltb-true r (first + 0) f))
    at r true false e f = refl
    at r false b e f = refl

pub enter_more : (first count : ℕ) (arguments : List Value) (v : Value) → value_or_blank arguments count ≡ v →
    write (entered_from first count arguments) (first + count) v ≡ entered_from first (count + 1) arguments
enter_more first count arguments v is = λ i r. at r (r == first + count) (nat_le first r) (nat_lt r (first + count)) (nat_lt r (first + (count + 1))) refl refl refl refl i
  where
    at : (r : ℕ) (d a b c : Bool) → (r == first + count) ≡ d → nat_le first r ≡ a → nat_lt r (first + count) ≡ b → nat_lt r (first + (count + 1)) ≡ c →
        cond d v (cond (a && b) (value_or_blank arguments (r - first)) blank) ≡ cond (a && c) (value_or_blank arguments (r - first)) blank
    at r true true b true e f g h = let place : count ≡ r - first = omega (arith, eqb-true r (first + count) e) in sym is ∙ ap (value_or_blank arguments) place
    at r true true b false e f g h = absurd (omega (arith, eqb-true r (first + count) e, ltb-false r (first + (count + 1)) h))
    at r true false b c e f g h = absurd (omega (arith, eqb-true r (first + count) e, leb-false first r f))
    at r false false b c e f g h = refl
    at r false true true true e f g h = refl
    at r false true false false e f g h = refl
    at r false true true false e f g h = absurd (omega (arith, ltb-true r (first + count) g, ltb-false r (first + (count + 1)) h))
    at r false true false true e f g h =
        let here : r ≡ first + count = omega (arith, ltb-false r (first + count) g, ltb-true r (first + (count + 1)) h) in
        absurd (false_true (sym e ∙ eq-eqb r (first + count) here))

pub on_err : {T E P : Type 0} (r : Result T E) → P → OnErr r P
on_err (Ok x) p = tt
on_err (Err e) p = p

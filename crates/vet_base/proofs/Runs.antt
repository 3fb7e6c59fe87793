-- What a run to its end says of the parts of a script, and a run that fails.
use Rattle.std.proofs.Common.{◌≡◌, Bool, true, false, true≢false, Result, Ok, Err, List, [], ◌∷◌, ◌++◌, refl, sym, ap, ◌∙◌}
use Rattle.vet_base.specs.Script.{Script, Value, Test, ◌>>=◌, run, then_run, tests, AllHold, IsFirst}
use Rattle.vet_base.proofs.Scripts.{run_bind}

pub value_is : {F A : Type 0} (x y : A) → run {F = F} (Value x) ≡ Ok y → x ≡ y
value_is x y e = cc

-- a test that held, and what came behind it
pub test_ok : {F A : Type 0} (b : Bool) (fault : F) (rest : Script F A) (y : A) → run (Test b fault rest) ≡ Ok y → (b ≡ true) × (run rest ≡ Ok y)
test_ok true fault rest y e = (refl, e)
test_ok false fault rest y e = absurd cc

pub test_passes : {F A : Type 0} (b : Bool) (fault : F) (rest : Script F A) → b ≡ true → run (Test b fault rest) ≡ run rest
test_passes true fault rest h = refl
test_passes false fault rest h = absurd cc

-- a first script that gave a value, and what the second made of it
pub then_ok : {F A B : Type 0} (r : Result A F) (f : A → Script F B) (y : B) → then_run r f ≡ Ok y → (x : A) × (r ≡ Ok x) × (run (f x) ≡ Ok y)
then_ok (Ok x) f y e = (x, refl, e)
then_ok (Err e) f y h = absurd cc

pub bind_ok : {F A B : Type 0} (m : Script F A) (f : A → Script F B) (y : B) → run (m >>= f) ≡ Ok y → (x : A) × (run m ≡ Ok x) × (run (f x) ≡ Ok y)
bind_ok m f y e = then_ok (run m) f y (sym (run_bind m f) ∙ e)

pub bind_runs : {F A B : Type 0} (m : Script F A) (x : A) (f : A → Script F B) (r : Result B F) → run m ≡ Ok x → run (f x) ≡ r → run (m >>= f) ≡ r
bind_runs m x f r first then = rw (run_bind m f, first) then

pub run_after : {F A B : Type 0} (m : Script F A) (x : A) → run m ≡ Ok x → (f : A → Script F B) → run (m >>= f) ≡ run (f x)
run_after m x first f = bind_runs m x f (run (f x)) first refl

pub bind_agree : {F A B : Type 0} (m : Script F A) (f g : A → Script F B) → ((x : A) → f x ≡ g x) → (m >>= f) ≡ (m >>= g)
bind_agree (Value x) f g same = same x
bind_agree (Test holds fault rest) f g same = ap (λ (s : Script _ _). Test holds fault s) (bind_agree rest f g same)

first_in : {F A : Type 0} (s : Script F A) (f : F) (before after : List (Bool × F)) → tests s ≡ before ++ (false, f) ∷ after → AllHold before → run s ≡ Err f
first_in (Value x) f [] after e h = absurd cc
first_in (Value x) f (t ∷ before) after e h = absurd cc
first_in {F = F} (Test true fault rest) f [] after e h = let k : (true, fault) ≡ (false, f) = cc in absurd (true≢false (ap (λ (t : Bool × F). t.0) k))
first_in {F = F} (Test false fault rest) f [] after e h = let k : (false, fault) ≡ (false, f) = cc in ap (λ (t : Bool × F). Err t.1) k
first_in (Test true fault rest) f (t ∷ before) after e h = let others : tests rest ≡ before ++ (false, f) ∷ after = cc in first_in rest f before after others h.1
first_in {F = F} (Test false fault rest) f (t ∷ before) after e h = let k : t ≡ (false, fault) = cc in absurd (true≢false (sym h.0 ∙ ap (λ (x : Bool × F). x.0) k))

-- where the fault is the first, running gives it
pub fails_first : {F A : Type 0} (s : Script F A) (f : F) → IsFirst (tests s) f → run s ≡ Err f
fails_first s f first = first_in s f first.before first.after first.stands first.hold

-- and so there is one first fault
pub one_first : {F A : Type 0} (s : Script F A) (f g : F) → IsFirst (tests s) f → IsFirst (tests s) g → f ≡ g
one_first {A = A} s f g one two = ap (λ (r : Result A _). elim r [ Ok _ ↦ f | Err e ↦ e ]) (sym (fails_first s f one) ∙ fails_first s g two)

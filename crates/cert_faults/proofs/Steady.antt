-- Readers that say the same of bytes whatever follows them, unless the bytes end too early.
use Rattle.std.proofs.Common.{◌≡◌, ◌<◌, ◌⊎◌, inl, inr, ℕ, Bool, true, false, Result, Ok, Err, List, [], ◌∷◌, ◌++◌, refl, sym, ap, ◌∙◌, append_assoc, lit<}
use Rattle.std.specs.Prelude.{if◌then◌else◌}
use Rattle.vet_base.specs.Script.{Script, Value, Test, run, then_run, ◌>>=◌}
use Rattle.vet_base.proofs.Every.{each_append}
use Rattle.vet_base.proofs.Results.{ok_parts}
use Rattle.vet_base.proofs.Runs.{bind_ok, bind_runs}
use Rattle.vet_base.proofs.Scripts.{run_bind}
use Rattle.cert_rows.specs.declared.fault.RowFault.{RowFault}
use Rattle.cert_rows.specs.declared.fault.RowFault.TheVariants.{Cut, Bad}
use Rattle.cert_rows.specs.Laws.{AreBytes}
use Rattle.cert_rows.specs.Reading.{From, byte_from, u4_from}

pub then_err : {F A B : Type 0} (r : Result A F) (f : A → Script F B) (e : F) → then_run r f ≡ Err e → (r ≡ Err e) ⊎ ((x : A) × (r ≡ Ok x) × (run (f x) ≡ Err e))
then_err (Ok x) f e h = inr (x, refl, h)
then_err (Err d) f e h = inl cc

-- a fault of the first script, or of what comes behind it
pub bind_err : {F A B : Type 0} (m : Script F A) (f : A → Script F B) (e : F) → run (m >>= f) ≡ Err e → (run m ≡ Err e) ⊎ ((x : A) × (run m ≡ Ok x) × (run (f x) ≡ Err e))
bind_err m f e h = then_err (run m) f e (sym (run_bind m f) ∙ h)

pub bind_fails : {F A B : Type 0} (m : Script F A) (f : A → Script F B) (e : F) → run m ≡ Err e → run (m >>= f) ≡ Err e
bind_fails m f e h = rw (run_bind m f, h) refl

-- some bytes more make it whole
pub record Completed {A : Type 0} (read : List ℕ → From A) (bytes : List ℕ) : Type 0 where
  pub more : List ℕ
  pub are : AreBytes more
  pub value : A
  pub whole : run (read (bytes ++ more)) ≡ Ok (value, [])

pub record Steady {A : Type 0} (read : List ℕ → From A) : Type 0 where
  pub ok : (bytes more : List ℕ) (x : A) (rest : List ℕ) → run (read bytes) ≡ Ok (x, rest) → run (read (bytes ++ more)) ≡ Ok (x, rest ++ more)
  pub bad : (bytes more : List ℕ) → run (read bytes) ≡ Err Bad → run (read (bytes ++ more)) ≡ Err Bad
  pub cut : (bytes : List ℕ) → run (read bytes) ≡ Err Cut → Completed read bytes

-- and something is read of some bytes
pub record Reader {A : Type 0} (read : List ℕ → From A) : Type 0 where
  pub steady : Steady read
  pub sample : Completed read []

no_fault : {A : Type 0} (x : A) (fault : RowFault) → run {F = RowFault} (Value x) ≡ Err fault → ⊥
no_fault x fault e = absurd cc

not_both : {A : Type 0} (r : Result A RowFault) → r ≡ Err Bad → r ≡ Err Cut → ⊥
not_both r one two = absurd cc

pub value_reader : {A : Type 0} (x : A) → Reader (λ bytes. Value (x, bytes))
value_reader x = record {
  steady = record {
    ok = λ bytes more y rest e.
        let p = ok_parts x y bytes rest (Ok (x, bytes)) refl e in
        λ i. Ok (p.0 i, p.1 i ++ more);
    bad = λ bytes more e. absurd (no_fault (x, bytes) Bad e);
    cut = λ bytes e. absurd (no_fault (x, bytes) Cut e);
  };
  sample = record { more = []; are = tt; value = x; whole = refl };
}

-- where a test fails, whatever follows
pub steady_bad : {A : Type 0} (x : A × List ℕ) → Steady (λ bytes. Test false Bad (Value x))
steady_bad x = record { ok = λ bytes more y rest e. absurd cc; bad = λ bytes more e. refl; cut = λ bytes e. absurd cc }

pub steady_test : {A : Type 0} (b : Bool) (read : List ℕ → From A) → Steady read → Steady (λ bytes. Test b Bad (read bytes))
steady_test true read s = record { ok = s.ok; bad = s.bad; cut = λ bytes e. let c = s.cut bytes e in record { more = c.more; are = c.are; value = c.value; whole = c.whole } }
steady_test false read s = record { ok = λ bytes more y rest e. absurd cc; bad = λ bytes more e. refl; cut = λ bytes e. absurd cc }

pub steady_if : {A : Type 0} (b : Bool) (read other : List ℕ → From A) → Steady read → Steady other → Steady (λ bytes. if b then read bytes else other bytes)
steady_if true read other s t = s
steady_if false read other s t = t

module _ {A B : Type 0} (a : List ℕ → From A) (f : A → List ℕ → From B) where
  -- one behind the other
  abbrev pub then_from : List ℕ → From B
  then_from bytes = a bytes >>= λ x. f x.0 x.1

  both : Steady a → (bytes more : List ℕ) (x : A) (rest : List ℕ) (r : Result (B × List ℕ) RowFault) → run (a bytes) ≡ Ok (x, rest) → run (f x (rest ++ more)) ≡ r → run (then_from (bytes ++ more)) ≡ r
  both s bytes more x rest r first behind = bind_runs (a (bytes ++ more)) (x, rest ++ more) (λ x. f x.0 x.1) r (s.ok bytes more x rest first) behind

  completed : (steady : Steady a) → ((x : A) → Reader (f x)) → (bytes : List ℕ) → Completed a bytes → Completed then_from bytes
  completed s readers bytes one =
      let two = (readers one.value).sample in
      let first : run (a ((bytes ++ one.more) ++ two.more)) ≡ Ok (one.value, two.more) = s.ok (bytes ++ one.more) two.more one.value [] one.whole in
      let all : run (then_from ((bytes ++ one.more) ++ two.more)) ≡ Ok (two.value, []) = bind_runs (a ((bytes ++ one.more) ++ two.more)) (one.value, two.more) (λ x. f x.0 x.1) (Ok (two.value, [])) first two.whole in
      record {
        more = one.more ++ two.more;
        are = each_append (λ n. n < 256) one.more two.more one.are two.are;
        value = two.value;
        whole = ap (λ bs. run (then_from bs)) (sym (append_assoc bytes one.more two.more)) ∙ all;
      }

  pub reader_then : Reader a → ((x : A) → Reader (f x)) → Reader then_from
  reader_then r readers = record {
    steady = record {
      ok = λ bytes more y rest e.
          let w = bind_ok (a bytes) (λ x. f x.0 x.1) (y, rest) e in
          both r.steady bytes more w.0.0 w.0.1 (Ok (y, rest ++ more)) w.1 ((readers w.0.0).steady.ok w.0.1 more y rest w.2);
      bad = λ bytes more e. elim (bind_err (a bytes) (λ x. f x.0 x.1) Bad e) [
        | inl first ↦ bind_fails (a (bytes ++ more)) (λ x. f x.0 x.1) Bad (r.steady.bad bytes more first)
        | inr w ↦ both r.steady bytes more w.0.0 w.0.1 (Err Bad) w.1 ((readers w.0.0).steady.bad w.0.1 more w.2)
      ];
      cut = λ bytes e. elim (bind_err (a bytes) (λ x. f x.0 x.1) Cut e) [
        | inl first ↦ completed r.steady readers bytes (r.steady.cut bytes first)
        | inr w ↦
            let c = (readers w.0.0).steady.cut w.0.1 w.2 in
            record { more = c.more; are = c.are; value = c.value; whole = both r.steady bytes c.more w.0.0 w.0.1 (Ok (c.value, [])) w.1 c.whole }
      ];
    };
    sample = completed r.steady readers [] r.sample;
  }

-- a byte, by which it is told what is read behind it
module _ {A : Type 0} (f : ℕ → List ℕ → From A) where
  pub steady_byte : Completed (then_from byte_from f) [] → ((n : ℕ) → Steady (f n)) → Steady (then_from byte_from f)
  steady_byte sample steady = record { ok = ok; bad = bad; cut = cut }
    where
      ok : (bytes more : List ℕ) (x : A) (rest : List ℕ) → run (then_from byte_from f bytes) ≡ Ok (x, rest) → run (then_from byte_from f (bytes ++ more)) ≡ Ok (x, rest ++ more)
      ok [] more x rest e = absurd cc
      ok (n ∷ bytes) more x rest e = (steady n).ok bytes more x rest e

      bad : (bytes more : List ℕ) → run (then_from byte_from f bytes) ≡ Err Bad → run (then_from byte_from f (bytes ++ more)) ≡ Err Bad
      bad [] more e = absurd cc
      bad (n ∷ bytes) more e = (steady n).bad bytes more e

      cut : (bytes : List ℕ) → run (then_from byte_from f bytes) ≡ Err Cut → Completed (then_from byte_from f) bytes
      cut [] e = sample
      cut (n ∷ bytes) e = let c = (steady n).cut bytes e in record { more = c.more; are = c.are; value = c.value; whole = c.whole }

  pub reader_byte : Completed (then_from byte_from f) [] → ((n : ℕ) → Steady (f n)) → Reader (then_from byte_from f)
  reader_byte sample steady = record { steady = steady_byte sample steady; sample = sample }

-- what is run alike is read alike
pub steady_same : {A : Type 0} (read other : List ℕ → From A) → ((bytes : List ℕ) → run (read bytes) ≡ run (other bytes)) → Steady other → Steady read
steady_same read other same s = record {
  ok = λ bytes more x rest e. same (bytes ++ more) ∙ s.ok bytes more x rest (sym (same bytes) ∙ e);
  bad = λ bytes more e. same (bytes ++ more) ∙ s.bad bytes more (sym (same bytes) ∙ e);
  cut = λ bytes e. let c = s.cut bytes (sym (same bytes) ∙ e) in record { more = c.more; are = c.are; value = c.value; whole = same (bytes ++ c.more) ∙ c.whole };
}

pub reader_same : {A : Type 0} (read other : List ℕ → From A) → ((bytes : List ℕ) → run (read bytes) ≡ run (other bytes)) → Reader other → Reader read
reader_same read other same r = record {
  steady = steady_same read other same r.steady;
  sample = let c = r.sample in record { more = c.more; are = c.are; value = c.value; whole = same c.more ∙ c.whole };
}

pub byte : Reader byte_from
byte = record {
  steady = record { ok = ok; bad = bad; cut = cut };
  sample = record { more = 0 ∷ []; are = (lit< tt, tt); value = 0; whole = refl };
}
  where
    ok : (bytes more : List ℕ) (x : ℕ) (rest : List ℕ) → run (byte_from bytes) ≡ Ok (x, rest) → run (byte_from (bytes ++ more)) ≡ Ok (x, rest ++ more)
    ok [] more x rest e = absurd cc
    ok (n ∷ bytes) more x rest e = let p = ok_parts n x bytes rest (Ok (n, bytes)) refl e in λ i. Ok (p.0 i, p.1 i ++ more)

    bad : (bytes more : List ℕ) → run (byte_from bytes) ≡ Err Bad → run (byte_from (bytes ++ more)) ≡ Err Bad
    bad [] more e = absurd cc
    bad (n ∷ bytes) more e = absurd cc

    cut : (bytes : List ℕ) → run (byte_from bytes) ≡ Err Cut → Completed byte_from bytes
    cut [] e = record { more = 0 ∷ []; are = (lit< tt, tt); value = 0; whole = refl }
    cut (n ∷ bytes) e = absurd cc

pub u4 : Reader u4_from
u4 = record {
  steady = record { ok = ok; bad = bad; cut = cut };
  sample = record { more = 0 ∷ 0 ∷ 0 ∷ 0 ∷ []; are = (lit< tt, (lit< tt, (lit< tt, (lit< tt, tt)))); value = 0; whole = refl };
}
  where
    ok : (bytes more : List ℕ) (x : ℕ) (rest : List ℕ) → run (u4_from bytes) ≡ Ok (x, rest) → run (u4_from (bytes ++ more)) ≡ Ok (x, rest ++ more)
    ok [] more x rest e = absurd cc
    ok (a ∷ []) more x rest e = absurd cc
    ok (a ∷ b ∷ []) more x rest e = absurd cc
    ok (a ∷ b ∷ c ∷ []) more x rest e = absurd cc
    ok (a ∷ b ∷ c ∷ d ∷ bytes) more x rest e =
        let p = ok_parts _ x bytes rest (run (u4_from (a ∷ b ∷ c ∷ d ∷ bytes))) refl e in
        λ i. Ok (p.0 i, p.1 i ++ more)

    bad : (bytes more : List ℕ) → run (u4_from bytes) ≡ Err Bad → run (u4_from (bytes ++ more)) ≡ Err Bad
    bad [] more e = absurd cc
    bad (a ∷ []) more e = absurd cc
    bad (a ∷ b ∷ []) more e = absurd cc
    bad (a ∷ b ∷ c ∷ []) more e = absurd cc
    bad (a ∷ b ∷ c ∷ d ∷ bytes) more e = absurd cc

    cut : (bytes : List ℕ) → run (u4_from bytes) ≡ Err Cut → Completed u4_from bytes
    cut [] e = record { more = 0 ∷ 0 ∷ 0 ∷ 0 ∷ []; are = (lit< tt, (lit< tt, (lit< tt, (lit< tt, tt)))); value = _; whole = refl }
    cut (a ∷ []) e = record { more = 0 ∷ 0 ∷ 0 ∷ []; are = (lit< tt, (lit< tt, (lit< tt, tt))); value = _; whole = refl }
    cut (a ∷ b ∷ []) e = record { more = 0 ∷ 0 ∷ []; are = (lit< tt, (lit< tt, tt)); value = _; whole = refl }
    cut (a ∷ b ∷ c ∷ []) e = record { more = 0 ∷ []; are = (lit< tt, tt); value = _; whole = refl }
    cut (a ∷ b ∷ c ∷ d ∷ bytes) e = absurd cc

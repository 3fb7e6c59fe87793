-- What was read of each part of a row is written in the bytes.
use Rattle.std.proofs.Common.{◌≡◌, ◌⊎◌, inl, inr, ℕ, ◌+◌, ◌*◌, ◌/◌, ◌%◌, ◌<◌, ◌==◌, Bool, true, false, List, [], ◌∷◌, ◌++◌, Ok, refl, sym, ap, subst, ◌∙◌, append_assoc, arith}
use Rattle.std.specs.Prelude.{if◌then◌else◌}
use Rattle.std.proofs.lemmas.Bool.Decides.{nat_tests}
use Rattle.vet_base.specs.Script.{Value, run, ◌>>=◌}
use Rattle.vet_base.proofs.Every.{each_append}
use Rattle.vet_base.proofs.Results.{ok_parts}
use Rattle.vet_base.proofs.Runs.{bind_ok, test_ok}
use Rattle.fact_rows.specs.declared.context.Ctx.{Ctx}
use Rattle.fact_rows.specs.declared.context.Ctx.TheVariants as ctx
use Rattle.fact_rows.specs.declared.context.Activation.{Activation}
use Rattle.fact_rows.specs.declared.context.Node.{Node}
use Rattle.fact_rows.specs.Order.{numbers_of_ctx, numbers_of_activation, numbers_of_node}
use Rattle.cert_rows.specs.declared.fault.RowFault.TheVariants.{Bad}
use Rattle.cert_rows.specs.Fitting.{IsSmall, AreSmall}
use Rattle.cert_rows.specs.Laws.{AreBytes, Begins}
use Rattle.cert_rows.specs.Reading.{From, with, no_ctx, byte_from, u4_from, zero_byte_from, zero_from, two_from, lone_from, call2_from, ctx_of, ctx_from, activation_from, node_from}
use Rattle.cert_rows.specs.Spelling.{u4_bytes, ctx_bytes, activation_bytes, node_bytes}

pub record Finds {A : Type 0} (spelled : A → List ℕ) (Fits : A → Type 0) (read : List ℕ → From A) : Type 0 where
  pub found : (bytes : List ℕ) (x : A) (rest : List ℕ) → AreBytes bytes → run (read bytes) ≡ Ok (x, rest) → Begins spelled Fits bytes x rest

abbrev pub IsByte : ℕ → Type 0
IsByte n = n < 256

abbrev pub byte_bytes : ℕ → List ℕ
byte_bytes n = n ∷ []

byte_found : (bytes : List ℕ) (n : ℕ) (rest : List ℕ) → AreBytes bytes → run (byte_from bytes) ≡ Ok (n, rest) → Begins byte_bytes IsByte bytes n rest
byte_found [] n rest b e = absurd cc
byte_found (x ∷ more) n rest b e =
    let p = ok_parts x n more rest (Ok (x, more)) refl e in
    record { is = λ i. p.0 i ∷ p.1 i; fits = subst IsByte p.0 b.0; left = subst AreBytes p.1 b.1 }

pub byte : Finds byte_bytes IsByte byte_from
byte = record { found = byte_found }

four : (a b c d : ℕ) → a < 256 → b < 256 → c < 256 → d < 256 → u4_bytes (a + 256 * b + 65536 * c + 16777216 * d) ≡ a ∷ b ∷ c ∷ d ∷ []
four a b c d ha hb hc hd =
    let n = a + 256 * b + 65536 * c + 16777216 * d in
    let one : n % 256 ≡ a = omega arith in
    let two : n / 256 % 256 ≡ b = omega arith in
    let three : n / 65536 % 256 ≡ c = omega arith in
    let last : n / 16777216 % 256 ≡ d = omega arith in
    λ i. one i ∷ two i ∷ three i ∷ last i ∷ []

abbrev pub FitsU4 : ℕ → Type 0
FitsU4 n = AreSmall (n ∷ [])

u4_found : (bytes : List ℕ) (n : ℕ) (rest : List ℕ) → AreBytes bytes → run (u4_from bytes) ≡ Ok (n, rest) → Begins u4_bytes FitsU4 bytes n rest
u4_found [] n rest h e = absurd cc
u4_found (a ∷ []) n rest h e = absurd cc
u4_found (a ∷ b ∷ []) n rest h e = absurd cc
u4_found (a ∷ b ∷ c ∷ []) n rest h e = absurd cc
u4_found (a ∷ b ∷ c ∷ d ∷ more) n rest h e =
    let ha : a < 256 = h.0 in
    let hb : b < 256 = h.1.0 in
    let hc : c < 256 = h.1.1.0 in
    let hd : d < 256 = h.1.1.1.0 in
    let p = ok_parts (a + 256 * b + 65536 * c + 16777216 * d) n more rest (Ok (a + 256 * b + 65536 * c + 16777216 * d, more)) refl e in
    let small : a + 256 * b + 65536 * c + 16777216 * d < 4294967296 = omega arith in
    record {
      is = ap (λ (bs : List ℕ). bs ++ more) (sym (four a b c d ha hb hc hd)) ∙ (λ i. u4_bytes (p.0 i) ++ p.1 i);
      fits = (subst IsSmall p.0 small, tt);
      left = subst AreBytes p.1 h.1.1.1.1;
    }

pub u4 : Finds u4_bytes FitsU4 u4_from
u4 = record { found = u4_found }

is_zero : (x : ℕ) → (x == 0) ≡ true → x ≡ 0
is_zero x h = grind (arith, nat_tests)

zero_byte_found : (bytes rest : List ℕ) → AreBytes bytes → run (zero_byte_from bytes) ≡ Ok rest → (bytes ≡ 0 ∷ rest) × AreBytes rest
unfolding zero_byte_from
zero_byte_found [] rest b e = absurd cc
zero_byte_found (x ∷ more) rest b e =
    let t = test_ok (x == 0) Bad (Value more) rest e in
    let same : more ≡ rest = cc in
    ((λ i. is_zero x t.0 i ∷ same i), subst AreBytes same b.1)

zero_found : (bytes rest : List ℕ) → AreBytes bytes → run (zero_from bytes) ≡ Ok rest → (bytes ≡ u4_bytes 0 ++ rest) × AreBytes rest
unfolding zero_from
zero_found bytes rest h e =
    let a = bind_ok (zero_byte_from bytes) (λ one. zero_byte_from one >>= λ two. zero_byte_from two >>= λ three. zero_byte_from three) rest e in
    let one = zero_byte_found bytes a.0 h a.1 in
    let b = bind_ok (zero_byte_from a.0) (λ two. zero_byte_from two >>= λ three. zero_byte_from three) rest a.2 in
    let two = zero_byte_found a.0 b.0 one.1 b.1 in
    let c = bind_ok (zero_byte_from b.0) (λ three. zero_byte_from three) rest b.2 in
    let three = zero_byte_found b.0 c.0 two.1 c.1 in
    let last = zero_byte_found c.0 rest three.1 c.2 in
    (one.0 ∙ ap (λ (bs : List ℕ). 0 ∷ bs) (two.0 ∙ ap (λ (bs : List ℕ). 0 ∷ bs) (three.0 ∙ ap (λ (bs : List ℕ). 0 ∷ bs) last.0)), last.1)

pub by_test : {A : Type 0} (b : Bool) (s t : From A) (y : A × List ℕ) → run (if b then s else t) ≡ Ok y → ((b ≡ true) × (run s ≡ Ok y)) ⊎ ((b ≡ false) × (run t ≡ Ok y))
by_test true s t y e = inl (refl, e)
by_test false s t y e = inr (refl, e)

pub is_number : (x n : ℕ) → (x == n) ≡ true → x ≡ n
is_number x n h = grind (arith, nat_tests)

pub with_found : {A B : Type 0} (make : A → B) (script : From A) (y : B) (rest : List ℕ) → run (with make script) ≡ Ok (y, rest) → (x : A) × (run script ≡ Ok (x, rest)) × (make x ≡ y)
with_found make script y rest e =
    let b = bind_ok script (λ x. Value (make x.0, x.1)) (y, rest) e in
    let p = ok_parts (make b.0.0) y b.0.1 rest (Ok (make b.0.0, b.0.1)) refl b.2 in
    (b.0.0, b.1 ∙ (λ i. Ok (b.0.0, p.1 i)), p.0)

pub two_found : (bytes : List ℕ) (p : ℕ × ℕ) (rest : List ℕ) → AreBytes bytes → run (two_from bytes) ≡ Ok (p, rest)
    → Begins (λ (q : ℕ × ℕ). u4_bytes q.0 ++ u4_bytes q.1) (λ (q : ℕ × ℕ). IsSmall q.0 × IsSmall q.1) bytes p rest
unfolding two_from
two_found bytes p rest h e =
    let a = bind_ok (u4_from bytes) (λ a. u4_from a.1 >>= λ b. Value ((a.0, b.0), b.1)) (p, rest) e in
    let fa = u4_found bytes a.0.0 a.0.1 h a.1 in
    let b = bind_ok (u4_from a.0.1) (λ b. Value ((a.0.0, b.0), b.1)) (p, rest) a.2 in
    let fb = u4_found a.0.1 b.0.0 b.0.1 fa.left b.1 in
    let s = ok_parts (a.0.0, b.0.0) p b.0.1 rest (Ok ((a.0.0, b.0.0), b.0.1)) refl b.2 in
    record {
      is = fa.is ∙ ap (λ (bs : List ℕ). u4_bytes a.0.0 ++ bs) fb.is ∙ (λ i. u4_bytes (s.0 i).0 ++ (u4_bytes (s.0 i).1 ++ s.1 i));
      fits = subst (λ (q : ℕ × ℕ). IsSmall q.0 × IsSmall q.1) s.0 (fa.fits.0, fb.fits.0);
      left = subst AreBytes s.1 fb.left;
    }

lone_found : (bytes : List ℕ) (n : ℕ) (rest : List ℕ) → AreBytes bytes → run (lone_from bytes) ≡ Ok (n, rest)
    → Begins (λ n. u4_bytes n ++ u4_bytes 0) IsSmall bytes n rest
unfolding lone_from
lone_found bytes n rest h e =
    let a = bind_ok (u4_from bytes) (λ a. zero_from a.1 >>= λ rest. Value (a.0, rest)) (n, rest) e in
    let fa = u4_found bytes a.0.0 a.0.1 h a.1 in
    let b = bind_ok (zero_from a.0.1) (λ rest. Value (a.0.0, rest)) (n, rest) a.2 in
    let z = zero_found a.0.1 b.0 fa.left b.1 in
    let s = ok_parts a.0.0 n b.0 rest (Ok (a.0.0, b.0)) refl b.2 in
    record {
      is = fa.is ∙ ap (λ (bs : List ℕ). u4_bytes a.0.0 ++ bs) z.0 ∙ (λ i. u4_bytes (s.0 i) ++ (u4_bytes 0 ++ s.1 i));
      fits = subst IsSmall s.0 fa.fits.0;
      left = subst AreBytes s.1 z.1;
    }

abbrev pub FitsCtx : Ctx → Type 0
FitsCtx c = AreSmall (numbers_of_ctx c)

call2_found : (bytes : List ℕ) (c : Ctx) (rest : List ℕ) → AreBytes bytes → run (call2_from bytes) ≡ Ok (c, rest) → Begins ctx_bytes FitsCtx (6 ∷ bytes) c rest
unfolding call2_from ctx_bytes
call2_found bytes c rest h e =
    let a = bind_ok (two_from bytes) (λ a. two_from a.1 >>= λ b. Value (ctx.Call2 a.0.0 a.0.1 b.0.0 b.0.1, b.1)) (c, rest) e in
    let fa = two_found bytes a.0.0 a.0.1 h a.1 in
    let b = bind_ok (two_from a.0.1) (λ b. Value (ctx.Call2 a.0.0.0 a.0.0.1 b.0.0 b.0.1, b.1)) (c, rest) a.2 in
    let fb = two_found a.0.1 b.0.0 b.0.1 fa.left b.1 in
    let s = ok_parts (ctx.Call2 a.0.0.0 a.0.0.1 b.0.0.0 b.0.0.1) c b.0.1 rest (Ok (ctx.Call2 a.0.0.0 a.0.0.1 b.0.0.0 b.0.0.1, b.0.1)) refl b.2 in
    let kind : IsSmall 6 = omega arith in
    let made : Begins ctx_bytes FitsCtx (6 ∷ bytes) (ctx.Call2 a.0.0.0 a.0.0.1 b.0.0.0 b.0.0.1) b.0.1 = record {
      is = ap (λ (bs : List ℕ). 6 ∷ bs) (fa.is ∙ ap (λ (bs : List ℕ). u4_bytes a.0.0.0 ++ (u4_bytes a.0.0.1 ++ bs)) fb.is);
      fits = (kind, (fa.fits.0, (fa.fits.1, (fb.fits.0, (fb.fits.1, tt)))));
      left = fb.left;
    } in
    let P : Ctx × List ℕ → Type 0 = λ (q : Ctx × List ℕ). Begins ctx_bytes FitsCtx (6 ∷ bytes) q.0 q.1 in
    subst P (λ i. (s.0 i, s.1 i)) made

pair_made : (n kind : ℕ) (make : ℕ × ℕ → Ctx) → ((p : ℕ × ℕ) → ctx_bytes (make p) ≡ n ∷ (u4_bytes p.0 ++ u4_bytes p.1)) → ((p : ℕ × ℕ) → IsSmall p.0 → IsSmall p.1 → FitsCtx (make p))
    → (bytes : List ℕ) (c : Ctx) (rest : List ℕ) → AreBytes bytes → kind ≡ n → run (with make (two_from bytes)) ≡ Ok (c, rest) → Begins ctx_bytes FitsCtx (kind ∷ bytes) c rest
pair_made n kind make spelled fit bytes c rest h same e =
    let w = with_found make (two_from bytes) c rest e in
    let t = two_found bytes w.0 rest h w.1 in
    let made : Begins ctx_bytes FitsCtx (kind ∷ bytes) (make w.0) rest = record {
      is = (λ i. same i ∷ t.is i) ∙ ap (λ (bs : List ℕ). bs ++ rest) (sym (spelled w.0));
      fits = fit w.0 t.fits.0 t.fits.1;
      left = t.left;
    } in
    subst (λ (d : Ctx). Begins ctx_bytes FitsCtx (kind ∷ bytes) d rest) w.2 made

lone_made : (n kind : ℕ) (make : ℕ → Ctx) → ((a : ℕ) → ctx_bytes (make a) ≡ n ∷ (u4_bytes a ++ u4_bytes 0)) → ((a : ℕ) → IsSmall a → FitsCtx (make a))
    → (bytes : List ℕ) (c : Ctx) (rest : List ℕ) → AreBytes bytes → kind ≡ n → run (with make (lone_from bytes)) ≡ Ok (c, rest) → Begins ctx_bytes FitsCtx (kind ∷ bytes) c rest
lone_made n kind make spelled fit bytes c rest h same e =
    let w = with_found make (lone_from bytes) c rest e in
    let t = lone_found bytes w.0 rest h w.1 in
    let made : Begins ctx_bytes FitsCtx (kind ∷ bytes) (make w.0) rest = record {
      is = (λ i. same i ∷ t.is i) ∙ ap (λ (bs : List ℕ). bs ++ rest) (sym (spelled w.0));
      fits = fit w.0 t.fits;
      left = t.left;
    } in
    subst (λ (d : Ctx). Begins ctx_bytes FitsCtx (kind ∷ bytes) d rest) w.2 made

ctx_of_found : (kind : ℕ) (bytes : List ℕ) (c : Ctx) (rest : List ℕ) → AreBytes bytes → run (ctx_of kind bytes) ≡ Ok (c, rest) → Begins ctx_bytes FitsCtx (kind ∷ bytes) c rest
unfolding ctx_of ctx_bytes
ctx_of_found kind bytes c rest h e =
    let k0 : IsSmall 0 = omega arith in
    let k1 : IsSmall 1 = omega arith in
    let k2 : IsSmall 2 = omega arith in
    let k3 : IsSmall 3 = omega arith in
    let k4 : IsSmall 4 = omega arith in
    let k5 : IsSmall 5 = omega arith in
    elim (by_test (kind == 0) _ _ (c, rest) e) [
      | inl x ↦ pair_made 0 kind (λ (p : ℕ × ℕ). ctx.Row p.0 p.1) (λ p. refl) (λ p a b. (k0, (a, (b, tt)))) bytes c rest h (is_number kind 0 x.0) x.1
      | inr e0 ↦ elim (by_test (kind == 1) _ _ (c, rest) e0.1) [
        | inl x ↦ pair_made 1 kind (λ (p : ℕ × ℕ). ctx.Callback p.0 p.1) (λ p. refl) (λ p a b. (k1, (a, (b, tt)))) bytes c rest h (is_number kind 1 x.0) x.1
        | inr e1 ↦ elim (by_test (kind == 2) _ _ (c, rest) e1.1) [
          | inl x ↦ pair_made 2 kind (λ (p : ℕ × ℕ). ctx.Click p.0 p.1) (λ p. refl) (λ p a b. (k2, (a, (b, tt)))) bytes c rest h (is_number kind 2 x.0) x.1
          | inr e2 ↦ elim (by_test (kind == 3) _ _ (c, rest) e2.1) [
            | inl x ↦ lone_made 3 kind ctx.Handed (λ a. refl) (λ a s. (k3, (s, (k0, tt)))) bytes c rest h (is_number kind 3 x.0) x.1
            | inr e3 ↦ elim (by_test (kind == 4) _ _ (c, rest) e3.1) [
              | inl x ↦ lone_made 4 kind ctx.Init (λ a. refl) (λ a s. (k4, (s, (k0, tt)))) bytes c rest h (is_number kind 4 x.0) x.1
              | inr e4 ↦ elim (by_test (kind == 5) _ _ (c, rest) e4.1) [
                | inl x ↦ pair_made 5 kind (λ (p : ℕ × ℕ). ctx.Call p.0 p.1) (λ p. refl) (λ p a b. (k5, (a, (b, tt)))) bytes c rest h (is_number kind 5 x.0) x.1
                | inr e5 ↦ elim (by_test (kind == 6) _ _ (c, rest) e5.1) [
                  | inl x ↦ subst (λ (k : ℕ). Begins ctx_bytes FitsCtx (k ∷ bytes) c rest) (sym (is_number kind 6 x.0)) (call2_found bytes c rest h x.1)
                  | inr e6 ↦ absurd (no_ok c rest e6.1)
                ]
              ]
            ]
          ]
        ]
      ]
    ]
  where
    no_ok : (c : Ctx) (rest : List ℕ) → run no_ctx ≡ Ok (c, rest) → ⊥
    no_ok c rest e = absurd cc

pub ctx_found : (bytes : List ℕ) (c : Ctx) (rest : List ℕ) → AreBytes bytes → run (ctx_from bytes) ≡ Ok (c, rest) → Begins ctx_bytes FitsCtx bytes c rest
unfolding ctx_from
ctx_found [] c rest h e = absurd cc
ctx_found (kind ∷ bytes) c rest h e = ctx_of_found kind bytes c rest h.1 e

-- something, and a number of four bytes behind it
pub after_found : {A X : Type 0} {sa : A → List ℕ} {FA : A → Type 0} (ra : List ℕ → From A) (make : A → ℕ → X) → ((bytes : List ℕ) (a : A) (rest : List ℕ) → AreBytes bytes → run (ra bytes) ≡ Ok (a, rest) → Begins sa FA bytes a rest)
    → (bytes : List ℕ) (x : X) (rest : List ℕ) → AreBytes bytes → run {A = X × List ℕ} (ra bytes >>= λ a. u4_from a.1 >>= λ n. Value (make a.0 n.0, n.1)) ≡ Ok (x, rest)
    → (a : A) × (n : ℕ) × (make a n ≡ x) × (bytes ≡ sa a ++ (u4_bytes n ++ rest)) × FA a × IsSmall n × AreBytes rest
after_found {sa = sa} ra make found bytes x rest h e =
    let a = bind_ok (ra bytes) (λ a. u4_from a.1 >>= λ n. Value (make a.0 n.0, n.1)) (x, rest) e in
    let fa = found bytes a.0.0 a.0.1 h a.1 in
    let n = bind_ok (u4_from a.0.1) (λ n. Value (make a.0.0 n.0, n.1)) (x, rest) a.2 in
    let fn = u4_found a.0.1 n.0.0 n.0.1 fa.left n.1 in
    let s = ok_parts (make a.0.0 n.0.0) x n.0.1 rest (Ok (make a.0.0 n.0.0, n.0.1)) refl n.2 in
    (a.0.0, n.0.0, s.0, fa.is ∙ ap (λ (bs : List ℕ). sa a.0.0 ++ bs) (fn.is ∙ (λ i. u4_bytes n.0.0 ++ s.1 i)), fa.fits, fn.fits.0, subst AreBytes s.1 fn.left)

abbrev pub FitsActivation : Activation → Type 0
FitsActivation a = AreSmall (numbers_of_activation a)

activation_found : (bytes : List ℕ) (a : Activation) (rest : List ℕ) → AreBytes bytes → run (activation_from bytes) ≡ Ok (a, rest) → Begins activation_bytes FitsActivation bytes a rest
unfolding activation_from
activation_found bytes a rest h e =
    let make : Ctx → ℕ → Activation = λ c m. record { ctx = c; method = m } in
    let f = after_found ctx_from make ctx_found bytes a rest h e in
    let made : Begins activation_bytes FitsActivation bytes (make f.0 f.1) rest = record {
      is = f.3 ∙ sym (append_assoc (ctx_bytes f.0) (u4_bytes f.1) rest);
      fits = each_append IsSmall (numbers_of_ctx f.0) (f.1 ∷ []) f.4 (f.5, tt);
      left = f.6;
    } in
    subst (λ (b : Activation). Begins activation_bytes FitsActivation bytes b rest) f.2 made

pub activation : Finds activation_bytes FitsActivation activation_from
activation = record { found = activation_found }

abbrev pub FitsNode : Node → Type 0
FitsNode n = AreSmall (numbers_of_node n)

node_found : (bytes : List ℕ) (n : Node) (rest : List ℕ) → AreBytes bytes → run (node_from bytes) ≡ Ok (n, rest) → Begins node_bytes FitsNode bytes n rest
unfolding node_from
node_found bytes n rest h e =
    let make : Activation → ℕ → Node = λ a pc. record { by = a; pc = pc } in
    let f = after_found activation_from make activation_found bytes n rest h e in
    let made : Begins node_bytes FitsNode bytes (make f.0 f.1) rest = record {
      is = f.3 ∙ sym (append_assoc (activation_bytes f.0) (u4_bytes f.1) rest);
      fits = each_append IsSmall (numbers_of_activation f.0) (f.1 ∷ []) f.4 (f.5, tt);
      left = f.6;
    } in
    subst (λ (b : Node). Begins node_bytes FitsNode bytes b rest) f.2 made

pub node : Finds node_bytes FitsNode node_from
node = record { found = node_found }

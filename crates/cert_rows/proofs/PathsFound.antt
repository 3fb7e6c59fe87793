-- What was read of sites, paths and the small fields is written in the bytes.
use Rattle.std.proofs.Common.{◌≡◌, inl, inr, ℕ, zero, suc, ◌+◌, ◌%◌, ◌<◌, ◌≤◌, ◌==◌, ◌&&◌, Bool, true, false, nat_lt, nat_le, List, [], ◌∷◌, ◌++◌, length, map, Ok, refl, sym, ap, subst, ◌∙◌, append_assoc, arith}
use Rattle.std.proofs.lemmas.Bool.Decides.{nat_tests}
use Rattle.vet_base.specs.Script.{Value, Test, run, ◌>>=◌}
use Rattle.vet_base.specs.declared.key_id.KeyId.{KeyId}
use Rattle.vet_base.proofs.Every.{each_append}
use Rattle.vet_base.proofs.Results.{ok_parts}
use Rattle.vet_base.proofs.Runs.{bind_ok, test_ok}
use Rattle.access_path.specs.declared.keys.Keys.{Keys}
use Rattle.access_path.specs.declared.keys.Keys.TheVariants.{Zero, One, Two, Three, Four, Five}
use Rattle.access_path.specs.declared.keys.TheConstants.{MOST_KEYS}
use Rattle.access_path.specs.declared.path.Path.{Path}
use Rattle.access_path.specs.Order.{numbers_of_path, first_number}
use Rattle.access_path.specs.Paths.{cut, keys_of}
use Rattle.app_machine.specs.declared.lists.SummaryId.{SummaryId}
use Rattle.app_machine.specs.declared.lists.SummaryId.TheVariants as uses
use Rattle.fact_rows.specs.declared.site.Site.{Site}
use Rattle.fact_rows.specs.declared.site.Site.TheVariants.{At, Param, Component, Shared, Made}
use Rattle.fact_rows.specs.Order.{numbers_of_ctx, numbers_of_use}
use Rattle.cert_rows.specs.declared.fault.RowFault.TheVariants.{Bad}
use Rattle.cert_rows.specs.Fitting.{IsSmall, AreSmall, SiteFits}
use Rattle.cert_rows.specs.Laws.{AreBytes, Begins}
use Rattle.cert_rows.specs.declared.sets.Set.{Set}
use Rattle.cert_rows.specs.declared.sets.Set.TheVariants.{Paths, Cells}
use Rattle.cert_rows.specs.Sets.{is_paths, is_cells}
use Rattle.cert_rows.specs.Parts.{key, bare, param_from, made_from, site_of, site_from, keys_from, path_from}
use Rattle.cert_rows.specs.Reading.{with, byte_from, u4_from, two_from, ctx_from, node_from}
use Rattle.cert_rows.specs.Rows.{key_from, exit_from, cause_from, use_of_kind, use_from, labelled_from}
use Rattle.cert_rows.specs.Spelling.{u4_bytes, ctx_bytes, site_bytes, keys_bytes, path_bytes, use_bytes}
use Rattle.cert_rows.proofs.PartsFound.{Finds, byte, u4, node, ctx_found, two_found, by_test, is_number, with_found, after_found}

-- of which set rows are that have paths, and of which those that have labels of values
pub paths_are : (set : Set) → is_paths set ≡ true → set ≡ Paths
paths_are Paths e = refl
paths_are Cells e = absurd cc

pub cells_are : (set : Set) → is_cells set ≡ true → set ≡ Cells
cells_are Paths e = absurd cc
cells_are Cells e = refl

module _ (set : Set) where
  abbrev SiteFound : ℕ → List ℕ → List ℕ → Site → Type 0
  SiteFound kind bytes rest s = Begins site_bytes (SiteFits set) (kind ∷ bytes) s rest

  param_found : (bytes : List ℕ) (s : Site) (rest : List ℕ) → AreBytes bytes → run (param_from bytes) ≡ Ok (s, rest) → SiteFound 1 bytes rest s
  unfolding param_from site_bytes
  param_found bytes s rest h e =
      let f = after_found ctx_from Param ctx_found bytes s rest h e in
      let kind : IsSmall 1 = omega arith in
      let made : SiteFound 1 bytes rest (Param f.0 f.1) = record {
        is = ap (λ (bs : List ℕ). 1 ∷ bs) (f.3 ∙ sym (append_assoc (ctx_bytes f.0) (u4_bytes f.1) rest));
        fits = (tt, (kind, each_append IsSmall (numbers_of_ctx f.0) (f.1 ∷ []) f.4 (f.5, tt)));
        left = f.6;
      } in
      subst (SiteFound 1 bytes rest) f.2 made

  at_found : (bytes : List ℕ) (s : Site) (rest : List ℕ) → AreBytes bytes → (n : _) × (run (node_from bytes) ≡ Ok (n, rest)) × (At n ≡ s) → SiteFound 0 bytes rest s
  unfolding site_bytes
  at_found bytes s rest h w =
      let f = node.found bytes w.0 rest h w.1 in
      let kind : IsSmall 0 = omega arith in
      let made : SiteFound 0 bytes rest (At w.0) = record { is = ap (λ (bs : List ℕ). 0 ∷ bs) f.is; fits = (tt, (kind, f.fits)); left = f.left } in
      subst (SiteFound 0 bytes rest) w.2 made

  component_found : (bytes : List ℕ) (s : Site) (rest : List ℕ) → AreBytes bytes → (n : ℕ) × (run (u4_from bytes) ≡ Ok (n, rest)) × (Component n ≡ s) → SiteFound 2 bytes rest s
  unfolding site_bytes
  component_found bytes s rest h w =
      let f = u4.found bytes w.0 rest h w.1 in
      let kind : IsSmall 2 = omega arith in
      let made : SiteFound 2 bytes rest (Component w.0) = record { is = ap (λ (bs : List ℕ). 2 ∷ bs) f.is; fits = (tt, (kind, f.fits)); left = f.left } in
      subst (SiteFound 2 bytes rest) w.2 made

  shared_found : (bytes : List ℕ) (s : Site) (rest : List ℕ) → AreBytes bytes → (n : ℕ) × (run (u4_from bytes) ≡ Ok (n, rest)) × (Shared n ≡ s) → SiteFound 3 bytes rest s
  unfolding site_bytes
  shared_found bytes s rest h w =
      let f = u4.found bytes w.0 rest h w.1 in
      let kind : IsSmall 3 = omega arith in
      let made : SiteFound 3 bytes rest (Shared w.0) = record { is = ap (λ (bs : List ℕ). 3 ∷ bs) f.is; fits = (tt, (kind, f.fits)); left = f.left } in
      subst (SiteFound 3 bytes rest) w.2 made

  made_found : (bytes : List ℕ) (s : Site) (rest : List ℕ) → AreBytes bytes → run (made_from set bytes) ≡ Ok (s, rest) → SiteFound 4 bytes rest s
  unfolding made_from site_bytes
  made_found bytes s rest h e =
      let t = test_ok (is_cells set) Bad (with (λ (p : ℕ × ℕ). Made p.0 p.1) (two_from bytes)) (s, rest) e in
      let w = with_found (λ (p : ℕ × ℕ). Made p.0 p.1) (two_from bytes) s rest t.1 in
      let f = two_found bytes w.0 rest h w.1 in
      let kind : IsSmall 4 = omega arith in
      let spelled : bytes ≡ (u4_bytes w.0.0 ++ u4_bytes w.0.1) ++ rest = f.is in
      let made : SiteFound 4 bytes rest (Made w.0.0 w.0.1) = record {
        is = ap (λ (bs : List ℕ). 4 ∷ bs) spelled;
        fits = (cells_are set t.0, (kind, (f.fits.0, (f.fits.1, tt))));
        left = f.left;
      } in
      subst (SiteFound 4 bytes rest) w.2 made

  no_site : (s : Site) (rest : List ℕ) → run {A = Site × List ℕ} (Test false Bad (Value (Component 0, []))) ≡ Ok (s, rest) → ⊥
  no_site s rest e = absurd cc

  site_of_found : (kind : ℕ) (bytes : List ℕ) (s : Site) (rest : List ℕ) → AreBytes bytes → run (site_of set kind bytes) ≡ Ok (s, rest) → SiteFound kind bytes rest s
  unfolding site_of
  site_of_found kind bytes s rest h e =
      let P : ℕ → Type 0 = λ k. SiteFound k bytes rest s in
      elim (by_test (kind == 0) _ _ (s, rest) e) [
        | inl x ↦ subst P (sym (is_number kind 0 x.0)) (at_found bytes s rest h (with_found At (node_from bytes) s rest x.1))
        | inr e0 ↦ elim (by_test (kind == 1) _ _ (s, rest) e0.1) [
          | inl x ↦ subst P (sym (is_number kind 1 x.0)) (param_found bytes s rest h x.1)
          | inr e1 ↦ elim (by_test (kind == 2) _ _ (s, rest) e1.1) [
            | inl x ↦ subst P (sym (is_number kind 2 x.0)) (component_found bytes s rest h (with_found Component (u4_from bytes) s rest x.1))
            | inr e2 ↦ elim (by_test (kind == 3) _ _ (s, rest) e2.1) [
              | inl x ↦ subst P (sym (is_number kind 3 x.0)) (shared_found bytes s rest h (with_found Shared (u4_from bytes) s rest x.1))
              | inr e3 ↦ elim (by_test (kind == 4) _ _ (s, rest) e3.1) [
                | inl x ↦ subst P (sym (is_number kind 4 x.0)) (made_found bytes s rest h x.1)
                | inr e4 ↦ absurd (no_site s rest e4.1)
              ]
            ]
          ]
        ]
      ]

  site_found : (bytes : List ℕ) (s : Site) (rest : List ℕ) → AreBytes bytes → run (site_from set bytes) ≡ Ok (s, rest) → Begins site_bytes (SiteFits set) bytes s rest
  unfolding site_from
  site_found [] s rest h e = absurd cc
  site_found (kind ∷ bytes) s rest h e = site_of_found kind bytes s rest h.1 e

  pub site : Finds site_bytes (SiteFits set) (site_from set)
  site = record { found = site_found }

-- a key in front of at most four others
put_in_front : (k : KeyId) (is_open : Bool) (keys : Keys) → length (keys_of (record { is_open = is_open; keys = keys })) < 5
    → (keys_of (cut k (record { is_open = is_open; keys = keys })) ≡ k ∷ keys_of (record { is_open = is_open; keys = keys })) × ((cut k (record { is_open = is_open; keys = keys })).is_open ≡ is_open)
unfolding cut
put_in_front k true Zero few = (refl, refl)
put_in_front k true (One a) few = (refl, refl)
put_in_front k true (Two a b) few = (refl, refl)
put_in_front k true (Three a b c) few = (refl, refl)
put_in_front k true (Four a b c d) few = (refl, refl)
put_in_front k true (Five a b c d e) few = absurd (omega arith)
put_in_front k false Zero few = (refl, refl)
put_in_front k false (One a) few = (refl, refl)
put_in_front k false (Two a b) few = (refl, refl)
put_in_front k false (Three a b c) few = (refl, refl)
put_in_front k false (Four a b c d) few = (refl, refl)
put_in_front k false (Five a b c d e) few = absurd (omega arith)

abbrev numbers_in : List KeyId → List ℕ
numbers_in keys = map (λ (k : KeyId). k.0) keys

record KeysFound (is_open : Bool) (n : ℕ) (bytes : List ℕ) (p : Path) (rest : List ℕ) : Type 0 where
  open_so : p.is_open ≡ is_open
  count : length (keys_of p) ≡ n
  is : bytes ≡ keys_bytes (keys_of p) ++ rest
  fits : AreSmall (numbers_in (keys_of p))
  left : AreBytes rest

keys_found : (is_open : Bool) (n : ℕ) (bytes : List ℕ) (p : Path) (rest : List ℕ) → n ≤ 5 → AreBytes bytes → run (keys_from is_open n bytes) ≡ Ok (p, rest) → KeysFound is_open n bytes p rest
unfolding keys_from
keys_found o zero bytes p rest few h e =
    let s = ok_parts (bare o) p bytes rest (Ok (bare o, bytes)) refl e in
    let made : KeysFound o 0 bytes (bare o) bytes = record { open_so = refl; count = refl; is = refl; fits = tt; left = h } in
    let P : Path × List ℕ → Type 0 = λ (q : Path × List ℕ). KeysFound o 0 bytes q.0 q.1 in
    subst P (λ i. (s.0 i, s.1 i)) made
keys_found o (suc n) bytes p rest few h e =
    let a = bind_ok (u4_from bytes) (λ first. keys_from o n first.1 >>= λ others. Value (cut (key first.0) others.0, others.1)) (p, rest) e in
    let fa = u4.found bytes a.0.0 a.0.1 h a.1 in
    let b = bind_ok (keys_from o n a.0.1) (λ others. Value (cut (key a.0.0) others.0, others.1)) (p, rest) a.2 in
    let fewer : n ≤ 5 = omega arith in
    let fb = keys_found o n a.0.1 b.0.0 b.0.1 fewer fa.left b.1 in
    let s = ok_parts (cut (key a.0.0) b.0.0) p b.0.1 rest (Ok (cut (key a.0.0) b.0.0, b.0.1)) refl b.2 in
    let room : length (keys_of b.0.0) < 5 = omega (arith, fb.count) in
    let c = put_in_front (key a.0.0) b.0.0.is_open b.0.0.keys room in
    let counted : length (key a.0.0 ∷ keys_of b.0.0) ≡ suc n = ap suc fb.count in
    let made : KeysFound o (suc n) bytes (cut (key a.0.0) b.0.0) b.0.1 = record {
      open_so = c.1 ∙ fb.open_so;
      count = ap length c.0 ∙ counted;
      is = (fa.is ∙ ap (λ (bs : List ℕ). u4_bytes a.0.0 ++ bs) fb.is) ∙ ap (λ (ks : List KeyId). keys_bytes ks ++ b.0.1) (sym c.0);
      fits = subst (λ (ks : List KeyId). AreSmall (numbers_in ks)) (sym c.0) (fa.fits.0, fb.fits);
      left = fb.left;
    } in
    let P : Path × List ℕ → Type 0 = λ (q : Path × List ℕ). KeysFound o (suc n) bytes q.0 q.1 in
    subst P (λ i. (s.0 i, s.1 i)) made

first_is : (f : ℕ) → f < 256 → f ≡ first_number (nat_le 128 f) (f % 128)
first_is f small = grind (arith, nat_tests)

five : (n : ℕ) → nat_le n MOST_KEYS ≡ true → n ≤ 5
five n h = grind (arith, nat_tests)

abbrev pub FitsPath : Path → Type 0
FitsPath p = AreSmall (numbers_of_path p)

path_found : (bytes : List ℕ) (p : Path) (rest : List ℕ) → AreBytes bytes → run (path_from bytes) ≡ Ok (p, rest) → Begins path_bytes FitsPath bytes p rest
unfolding path_from path_bytes
path_found [] p rest h e = absurd cc
path_found (f ∷ more) p rest h e =
    let t = test_ok (nat_le (f % 128) MOST_KEYS) Bad (keys_from (nat_le 128 f) (f % 128) more) (p, rest) e in
    let k = keys_found (nat_le 128 f) (f % 128) more p rest (five (f % 128) t.0) h.1 t.1 in
    let first : f ≡ first_number p.is_open (length (keys_of p)) = first_is f h.0 ∙ (λ i. first_number (sym k.open_so i) (sym k.count i)) in
    let byte : f < 256 = h.0 in
    let small : IsSmall f = omega arith in
    record {
      is = λ i. first i ∷ k.is i;
      fits = (subst IsSmall first small, k.fits);
      left = k.left;
    }

abbrev pub FitsLabelled : Path × ℕ → Type 0
FitsLabelled t = AreSmall (numbers_of_path t.0) × (t.1 < 256)

abbrev pub labelled_bytes : Path × ℕ → List ℕ
labelled_bytes t = path_bytes t.0 ++ t.1 ∷ []

labelled_found : (bytes : List ℕ) (t : Path × ℕ) (rest : List ℕ) → AreBytes bytes → run (labelled_from bytes) ≡ Ok (t, rest) → Begins labelled_bytes FitsLabelled bytes t rest
unfolding labelled_from
labelled_found bytes t rest h e =
    let a = bind_ok (path_from bytes) (λ path. byte_from path.1 >>= λ label. Value ((path.0, label.0), label.1)) (t, rest) e in
    let fa = path_found bytes a.0.0 a.0.1 h a.1 in
    let b = bind_ok (byte_from a.0.1) (λ label. Value ((a.0.0, label.0), label.1)) (t, rest) a.2 in
    let fb = byte.found a.0.1 b.0.0 b.0.1 fa.left b.1 in
    let s = ok_parts (a.0.0, b.0.0) t b.0.1 rest (Ok ((a.0.0, b.0.0), b.0.1)) refl b.2 in
    let made : Begins labelled_bytes FitsLabelled bytes (a.0.0, b.0.0) b.0.1 = record {
      is = fa.is ∙ ap (λ (bs : List ℕ). path_bytes a.0.0 ++ bs) fb.is ∙ sym (append_assoc (path_bytes a.0.0) (b.0.0 ∷ []) b.0.1);
      fits = (fa.fits, fb.fits);
      left = fb.left;
    } in
    let P : (Path × ℕ) × List ℕ → Type 0 = λ (q : (Path × ℕ) × List ℕ). Begins labelled_bytes FitsLabelled bytes q.0 q.1 in
    subst P (λ i. (s.0 i, s.1 i)) made

pub labelled : Finds labelled_bytes FitsLabelled labelled_from
labelled = record { found = labelled_found }

abbrev pub key_bytes : KeyId → List ℕ
key_bytes k = u4_bytes k.0

abbrev pub FitsKey : KeyId → Type 0
FitsKey k = AreSmall (k.0 ∷ [])

key_found : (bytes : List ℕ) (k : KeyId) (rest : List ℕ) → AreBytes bytes → run (key_from bytes) ≡ Ok (k, rest) → Begins key_bytes FitsKey bytes k rest
key_found bytes k rest h e =
    let w = with_found key (u4_from bytes) k rest e in
    let f = u4.found bytes w.0 rest h w.1 in
    let made : Begins key_bytes FitsKey bytes (key w.0) rest = record { is = f.is; fits = f.fits; left = f.left } in
    subst (λ (j : KeyId). Begins key_bytes FitsKey bytes j rest) w.2 made

pub keyed : Finds key_bytes FitsKey key_from
keyed = record { found = key_found }

abbrev pub IsExit : ℕ → Type 0
IsExit n = n < 2

abbrev pub one_byte : ℕ → List ℕ
one_byte n = n ∷ []

is_exit : (n : ℕ) → nat_lt n 2 ≡ true → n < 2
is_exit n h = grind (arith, nat_tests)

exit_found : (bytes : List ℕ) (n : ℕ) (rest : List ℕ) → AreBytes bytes → run (exit_from bytes) ≡ Ok (n, rest) → Begins one_byte IsExit bytes n rest
unfolding exit_from
exit_found [] n rest h e = absurd cc
exit_found (b ∷ more) n rest h e =
    let t = test_ok (nat_lt b 2) Bad (Value (b, more)) (n, rest) e in
    let s = ok_parts b n more rest (Ok (b, more)) refl t.1 in
    record { is = λ i. s.0 i ∷ s.1 i; fits = subst IsExit s.0 (is_exit b t.0); left = subst AreBytes s.1 h.1 }

pub exit : Finds one_byte IsExit exit_from
exit = record { found = exit_found }

abbrev pub IsCause : ℕ → Type 0
IsCause n = (0 < n) × (n < 4)

is_cause : (n : ℕ) → (nat_lt 0 n && nat_lt n 4) ≡ true → IsCause n
is_cause n h =
    let low : 0 < n = grind (arith, nat_tests) in
    let high : n < 4 = grind (arith, nat_tests) in
    (low, high)

cause_found : (bytes : List ℕ) (n : ℕ) (rest : List ℕ) → AreBytes bytes → run (cause_from bytes) ≡ Ok (n, rest) → Begins one_byte IsCause bytes n rest
unfolding cause_from
cause_found [] n rest h e = absurd cc
cause_found (b ∷ more) n rest h e =
    let t = test_ok (nat_lt 0 b && nat_lt b 4) Bad (Value (b, more)) (n, rest) e in
    let s = ok_parts b n more rest (Ok (b, more)) refl t.1 in
    record { is = λ i. s.0 i ∷ s.1 i; fits = subst IsCause s.0 (is_cause b t.0); left = subst AreBytes s.1 h.1 }

pub cause : Finds one_byte IsCause cause_from
cause = record { found = cause_found }

abbrev pub FitsUse : SummaryId → Type 0
FitsUse u = AreSmall (numbers_of_use u)

no_use : (u : SummaryId) (rest : List ℕ) → run {A = SummaryId × List ℕ} (Test false Bad (Value (uses.Row 0, []))) ≡ Ok (u, rest) → ⊥
no_use u rest e = absurd cc

use_of_found : (kind : ℕ) (bytes : List ℕ) (u : SummaryId) (rest : List ℕ) → AreBytes bytes → run (use_of_kind kind bytes) ≡ Ok (u, rest) → Begins use_bytes FitsUse (kind ∷ bytes) u rest
unfolding use_of_kind use_bytes
use_of_found kind bytes u rest h e =
    let k0 : IsSmall 0 = omega arith in
    let k1 : IsSmall 1 = omega arith in
    let P : SummaryId → Type 0 = λ (v : SummaryId). Begins use_bytes FitsUse (kind ∷ bytes) v rest in
    elim (by_test (kind == 0) _ _ (u, rest) e) [
      | inl x ↦
          let w = with_found uses.Row (u4_from bytes) u rest x.1 in
          let f = u4.found bytes w.0 rest h w.1 in
          let same = is_number kind 0 x.0 in
          let made : P (uses.Row w.0) = record { is = λ i. same i ∷ f.is i; fits = (k0, f.fits); left = f.left } in
          subst P w.2 made
      | inr e0 ↦ elim (by_test (kind == 1) _ _ (u, rest) e0.1) [
        | inl x ↦
            let w = with_found uses.Fallback (u4_from bytes) u rest x.1 in
            let f = u4.found bytes w.0 rest h w.1 in
            let same = is_number kind 1 x.0 in
            let made : P (uses.Fallback w.0) = record { is = λ i. same i ∷ f.is i; fits = (k1, f.fits); left = f.left } in
            subst P w.2 made
        | inr e1 ↦ absurd (no_use u rest e1.1)
      ]
    ]

use_found : (bytes : List ℕ) (u : SummaryId) (rest : List ℕ) → AreBytes bytes → run (use_from bytes) ≡ Ok (u, rest) → Begins use_bytes FitsUse bytes u rest
unfolding use_from
use_found [] u rest h e = absurd cc
use_found (kind ∷ bytes) u rest h e = use_of_found kind bytes u rest h.1 e

pub use_of : Finds use_bytes FitsUse use_from
use_of = record { found = use_found }

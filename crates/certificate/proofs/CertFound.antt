-- What is read of any bytes is what they are the certificate of.
use Rattle.std.proofs.Common.{Bool, ◌≡◌, ℕ, zero, suc, ◌<◌, ◌≤◌, ◌-◌, ◌==◌, true, false, not, nat_le, Ok, List, [], ◌∷◌, ◌++◌, length, take, drop, get_or, Option, Some, None, refl, sym, ap, subst, ◌∙◌, append_assoc, arith}
use Rattle.std.specs.Prelude.{nat_eq, if◌then◌else◌}
use Rattle.std.specs.List.{AllByRecursion, flat_map, starts_with}
use Rattle.std.specs.Cmp.Lexicographic.{same_text}
use Rattle.std.proofs.lemmas.Bool.Decides.{nat_tests}
use Rattle.std.proofs.lemmas.List.{append-nil, take-append-drop, length-take-le}
use Rattle.std.proofs.lemmas.List.Elements.{All-from_recursion}
use Rattle.vet_base.specs.Script.{Script, Value, Test, run, repeat, ◌>>=◌}
use Rattle.vet_base.proofs.Orders.{is_less}
use Rattle.vet_base.proofs.Results.{ok_parts}
use Rattle.vet_base.proofs.Runs.{bind_ok, test_ok, value_is}
use Rattle.fact_rows.specs.declared.row.Row.{Row}
use Rattle.fact_rows.specs.Order.{row_cmp}
use Rattle.cert_rows.specs.declared.fault.RowFault.{RowFault}
use Rattle.cert_rows.specs.declared.sets.Set.{Set}
use Rattle.cert_rows.specs.declared.sets.Set.TheVariants.{Paths, Cells}
use Rattle.cert_rows.specs.Fitting.{RowFits}
use Rattle.cert_rows.specs.Laws.{AreBytes, Begins, RowsAreFound}
use Rattle.cert_rows.specs.Reading.{u4_from}
use Rattle.cert_rows.specs.Rows.{row_from}
use Rattle.cert_rows.specs.Spelling.{u4_bytes, row_bytes}
use Rattle.certificate.specs.declared.cert.Cert.{Cert}
use Rattle.certificate.specs.declared.fault.CertFault.{CertFault}
use Rattle.certificate.specs.declared.fault.CertFault.TheVariants.{Magic, Cut, Order, Rest, Version}
use Rattle.certificate.specs.Cert.{IsCert, magic, cert_bytes}
use Rattle.certificate.specs.Reading.{old_magic, placed, set_told, is_above, magic_from, digest_from, count_from, next_row, rows_from, cert_from}
use Rattle.certificate.proofs.CertAgain.{Rises, named_from}

bytes_behind : (xs ys : List ℕ) → AreBytes (xs ++ ys) → AreBytes ys
bytes_behind [] ys are = are
bytes_behind (x ∷ xs) ys are = bytes_behind xs ys are.1

pub bytes_are : (bytes : List ℕ) → ((i : ℕ) → get_or bytes i 0 < 256) → AreBytes bytes
bytes_are [] small = tt
bytes_are (x ∷ xs) small = (small 0, bytes_are xs (λ i. small (suc i)))

placed_ok : {A : Type 0} (at : ℕ) (script : Script RowFault A) (y : A) → run (placed at script) ≡ Ok y → run script ≡ Ok y
placed_ok at (Value x) y e = ap Ok (value_is x y e)
placed_ok at (Test true fault rest) y e = placed_ok at rest y e
placed_ok at (Test false fault rest) y e = absurd cc

-- the set that is told, where the bytes begin so
by_starts : (bytes : List ℕ) (set : Set) (paths cells : Bool) → starts_with nat_eq bytes (magic Paths) ≡ paths → starts_with nat_eq bytes (magic Cells) ≡ cells
    → (if paths then Some Paths else if cells then Some Cells else None) ≡ Some set → starts_with nat_eq bytes (magic set) ≡ true
by_starts bytes set true cells p c e =
    let same : Paths ≡ set = cc in
    subst (λ (s : Set). starts_with nat_eq bytes (magic s) ≡ true) same p
by_starts bytes set false true p c e =
    let same : Cells ≡ set = cc in
    subst (λ (s : Set). starts_with nat_eq bytes (magic s) ≡ true) same c
by_starts bytes set false false p c e = absurd cc

front_is : (set : Set) (bytes : List ℕ) → starts_with nat_eq bytes (magic set) ≡ true → take 8 bytes ≡ magic set
unfolding magic
front_is Paths bytes e = sym (same_text (magic Paths) (take 8 bytes) (sym e))
front_is Cells bytes e = sym (same_text (magic Cells) (take 8 bytes) (sym e))

pub begins_as_told : (bytes : List ℕ) (set : Set) → set_told bytes ≡ Some set → bytes ≡ magic set ++ drop 8 bytes
unfolding set_told
begins_as_told bytes set told =
    let front : take 8 bytes ≡ magic set = front_is set bytes (by_starts bytes set (starts_with nat_eq bytes (magic Paths)) (starts_with nat_eq bytes (magic Cells)) refl refl told) in
    sym (take-append-drop 8 bytes) ∙ ap (λ (bs : List ℕ). bs ++ drop 8 bytes) front

-- what is told, and what is behind it
record Told (bytes : List ℕ) (set : Set) (rest : List ℕ) : Type 0 where
  told : set_told bytes ≡ Some set
  behind : drop 8 bytes ≡ rest

by_told : (bytes : List ℕ) (set : Set) (rest : List ℕ) (o : Option Set) → set_told bytes ≡ o → run (named_from bytes o) ≡ Ok (set, rest) → Told bytes set rest
by_told bytes set rest None is e = absurd cc
by_told bytes set rest (Some s) is e =
    let p = ok_parts s set (drop 8 bytes) rest (Ok (s, drop 8 bytes)) refl e in
    record { told = is ∙ ap (λ (x : Set). Some x) p.0; behind = p.1 }

pub magic_found : (bytes : List ℕ) (set : Set) (rest : List ℕ) → run (magic_from bytes) ≡ Ok (set, rest) → bytes ≡ magic set ++ rest
unfolding magic_from
magic_found bytes set rest e =
    let a = test_ok (not (starts_with nat_eq bytes old_magic)) Version _ (set, rest) e in
    let b = test_ok (nat_le 8 (length bytes)) Magic _ (set, rest) a.1 in
    let t = by_told bytes set rest (set_told bytes) refl b.1 in
    begins_as_told bytes set t.told ∙ ap (λ (bs : List ℕ). magic set ++ bs) t.behind

digest_found : (bytes digest rest : List ℕ) → run (digest_from bytes) ≡ Ok (digest, rest) → (bytes ≡ digest ++ rest) × (length digest ≡ 32)
unfolding digest_from
digest_found bytes digest rest e =
    let a = test_ok (nat_le 32 (length bytes)) (Cut 8) (Value (take 32 bytes, drop 32 bytes)) (digest, rest) e in
    let p = ok_parts (take 32 bytes) digest (drop 32 bytes) rest (Ok (take 32 bytes, drop 32 bytes)) refl a.1 in
    let long : 32 ≤ length bytes = grind (arith, nat_tests) in
    (sym (take-append-drop 32 bytes) ∙ (λ i. p.0 i ++ p.1 i), ap length (sym p.0) ∙ length-take-le 32 bytes long)

-- what one row leaves
record RowFound (set : Set) (last : Option Row) (bytes : List ℕ) (r : Row) (s : Option Row × List ℕ) : Type 0 where
  begins : Begins row_bytes (RowFits set) bytes r s.1
  next : s.0 ≡ Some r
  above : is_above last r ≡ true

next_found : RowsAreFound → (set : Set) (size : ℕ) (last : Option Row) (bytes : List ℕ) (r : Row) (s : Option Row × List ℕ) → AreBytes bytes
    → run (next_row set size (last, bytes)) ≡ Ok (r, s) → RowFound set last bytes r s
unfolding next_row
next_found laws set size last bytes r s are e =
    let at = size - length bytes in
    let a = bind_ok (placed at (row_from set bytes)) (λ row. Test (is_above last row.0) (Order at) (Value (row.0, (Some row.0, row.1)))) (r, s) e in
    let found = laws.row set bytes a.0.1 a.0.0 are (placed_ok at (row_from set bytes) a.0 a.1) in
    let b = test_ok (is_above last a.0.0) (Order at) (Value (a.0.0, (Some a.0.0, a.0.1))) (r, s) a.2 in
    let p = ok_parts a.0.0 r (Some a.0.0, a.0.1) s (Ok (a.0.0, (Some a.0.0, a.0.1))) refl b.1 in
    let made : RowFound set last bytes a.0.0 (Some a.0.0, a.0.1) = record { begins = found; next = refl; above = b.0 } in
    let P : Row × (Option Row × List ℕ) → Type 0 = λ (q : Row × (Option Row × List ℕ)). RowFound set last bytes q.0 q.1 in
    subst P (λ i. (p.0 i, p.1 i)) made

rises : (last : Option Row) (r : Row) (rows : List Row) → is_above last r ≡ true → Rises (Some r) rows → Rises last (r ∷ rows)
rises None r rows above up = up
rises (Some last) r rows above up = (is_less (row_cmp last r) above, up)

none_rise : (last : Option Row) → Rises last []
none_rise None = tt
none_rise (Some r) = tt

-- what so many rows leave
record ManyFound (set : Set) (last : Option Row) (n : ℕ) (bytes : List ℕ) (rows : List Row) (rest : List ℕ) : Type 0 where
  count : length rows ≡ n
  is : bytes ≡ flat_map row_bytes rows ++ rest
  fit : AllByRecursion (RowFits set) rows
  rise : Rises last rows

many_found : RowsAreFound → (set : Set) (size n : ℕ) (last : Option Row) (bytes : List ℕ) (rows : List Row) (s : Option Row × List ℕ) → AreBytes bytes
    → run (repeat n (next_row set size) (last, bytes)) ≡ Ok (rows, s) → ManyFound set last n bytes rows s.1
unfolding repeat
many_found laws set size zero last bytes rows s are e =
    let p = ok_parts [] rows (last, bytes) s (Ok ([], (last, bytes))) refl e in
    let made : ManyFound set last 0 bytes [] bytes = record { count = refl; is = refl; fit = tt; rise = none_rise last } in
    let P : List Row × (Option Row × List ℕ) → Type 0 = λ (q : List Row × (Option Row × List ℕ)). ManyFound set last 0 bytes q.0 q.1.1 in
    subst P (λ i. (p.0 i, p.1 i)) made
many_found laws set size (suc n) last bytes rows s are e =
    let a = bind_ok (next_row set size (last, bytes)) (λ first. repeat n (next_row set size) first.1 >>= λ others. Value (first.0 ∷ others.0, others.1)) (rows, s) e in
    let r = a.0.0 in
    let t = a.0.1 in
    let one = next_found laws set size last bytes r t are a.1 in
    let b = bind_ok (repeat n (next_row set size) t) (λ others. Value (r ∷ others.0, others.1)) (rows, s) a.2 in
    let from : run (repeat n (next_row set size) (Some r, t.1)) ≡ Ok b.0 = subst (λ (o : Option Row). run (repeat n (next_row set size) (o, t.1)) ≡ Ok b.0) one.next b.1 in
    let more = many_found laws set size n (Some r) t.1 b.0.0 b.0.1 one.begins.left from in
    let p = ok_parts (r ∷ b.0.0) rows b.0.1 s (Ok (r ∷ b.0.0, b.0.1)) refl b.2 in
    let made : ManyFound set last (suc n) bytes (r ∷ b.0.0) b.0.1.1 = record {
      count = ap suc more.count;
      is = one.begins.is ∙ ap (λ (bs : List ℕ). row_bytes r ++ bs) more.is ∙ sym (append_assoc (row_bytes r) (flat_map row_bytes b.0.0) b.0.1.1);
      fit = (one.begins.fits, more.fit);
      rise = rises last r b.0.0 one.above more.rise;
    } in
    let P : List Row × (Option Row × List ℕ) → Type 0 = λ (q : List Row × (Option Row × List ℕ)). ManyFound set last (suc n) bytes q.0 q.1.1 in
    subst P (λ i. (p.0 i, p.1 i)) made

no_more : (xs : List ℕ) → (length xs == 0) ≡ true → xs ≡ []
no_more [] e = refl
no_more (x ∷ xs) e = absurd (grind (arith, nat_tests))

whole_found : (set : Set) (digest rest r1 r2 r3 bytes : List ℕ) (n : ℕ) (rows : List Row) → bytes ≡ magic set ++ r1 → r1 ≡ digest ++ r2 → r2 ≡ u4_bytes n ++ r3 → length rows ≡ n → r3 ≡ flat_map row_bytes rows ++ rest → rest ≡ []
    → bytes ≡ cert_bytes set digest rows
unfolding cert_bytes
whole_found set digest rest r1 r2 r3 bytes n rows m d c same rs none =
    let rows_alone : r3 ≡ flat_map row_bytes rows = rs ∙ ap (λ (bs : List ℕ). flat_map row_bytes rows ++ bs) none ∙ append-nil (flat_map row_bytes rows) in
    let back : n ≡ length rows = sym same in
    let counted : r2 ≡ u4_bytes (length rows) ++ flat_map row_bytes rows = c ∙ (λ i. u4_bytes (back i) ++ rows_alone i) in
    m ∙ ap (λ (bs : List ℕ). magic set ++ bs) (d ∙ ap (λ (bs : List ℕ). digest ++ bs) counted)

-- what is read behind the rows, behind the count, and behind the digest
abbrev at_end : List ℕ → Set → List ℕ → List Row × (Option Row × List ℕ) → Script CertFault Cert
at_end bytes set digest rows = Test (length rows.1.1 == 0) (Rest (length bytes - length rows.1.1)) (Value (record { set = set; digest = digest; rows = rows.0 }))

abbrev at_rows : List ℕ → Set → List ℕ → ℕ × List ℕ → Script CertFault Cert
at_rows bytes set digest count = rows_from set (length bytes) count.0 count.1 >>= at_end bytes set digest

abbrev at_count : List ℕ → Set → List ℕ × List ℕ → Script CertFault Cert
at_count bytes set digest = count_from digest.1 >>= at_rows bytes set digest.0

pub cert_found : RowsAreFound → (bytes : List ℕ) (cert : Cert) → AreBytes bytes → run (cert_from bytes) ≡ Ok cert → IsCert bytes cert.set cert.digest cert.rows
unfolding cert_from rows_from count_from
cert_found laws bytes cert are e =
    let a = bind_ok (magic_from bytes) (λ told. digest_from told.1 >>= at_count bytes told.0) cert e in
    let set = a.0.0 in
    let m = magic_found bytes set a.0.1 a.1 in
    let are1 : AreBytes a.0.1 = bytes_behind (magic set) a.0.1 (subst AreBytes m are) in
    let b = bind_ok (digest_from a.0.1) (at_count bytes set) cert a.2 in
    let d = digest_found a.0.1 b.0.0 b.0.1 b.1 in
    let are2 : AreBytes b.0.1 = bytes_behind b.0.0 b.0.1 (subst AreBytes d.0 are1) in
    let c = bind_ok (count_from b.0.1) (at_rows bytes set b.0.0) cert b.2 in
    let n = laws.number b.0.1 c.0.1 c.0.0 are2 (placed_ok 40 (u4_from b.0.1) c.0 c.1) in
    let r = bind_ok (rows_from set (length bytes) c.0.0 c.0.1) (at_end bytes set b.0.0) cert c.2 in
    let many = many_found laws set (length bytes) c.0.0 None c.0.1 r.0.0 r.0.1 n.left r.1 in
    let made : Cert = record { set = set; digest = b.0.0; rows = r.0.0 } in
    let t = test_ok (length r.0.1.1 == 0) (Rest (length bytes - length r.0.1.1)) (Value made) cert r.2 in
    let whole : IsCert bytes made.set made.digest made.rows = record {
      spelled = whole_found set b.0.0 r.0.1.1 a.0.1 b.0.1 c.0.1 bytes c.0.0 r.0.0 m d.0 n.is many.count many.is (no_more r.0.1.1 t.0);
      digest_len = d.1;
      few = subst (λ (k : ℕ). k < 4294967296) (sym many.count) n.fits;
      fit = All-from_recursion (RowFits set) r.0.0 many.fit;
      ascend = many.rise;
    } in
    subst (λ (x : Cert). IsCert bytes x.set x.digest x.rows) (value_is {F = CertFault} made cert t.1) whole

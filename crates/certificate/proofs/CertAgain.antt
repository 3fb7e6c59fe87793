-- A certificate is read as it was written.
use Rattle.std.proofs.Common.{◌≡◌, ℕ, suc, ◌+◌, ◌*◌, ◌/◌, ◌%◌, ◌<◌, true, List, [], ◌∷◌, ◌++◌, length, take, drop, Option, Some, None, Ok, refl, sym, ap, ◌∙◌, append_assoc, length-append, arith}
use Rattle.std.specs.Prelude.{nat_le}
use Rattle.std.specs.List.{All, flat_map}
use Rattle.std.specs.Ordering.{is_lt}
use Rattle.std.proofs.lemmas.Bool.Decides.{nat_tests}
use Rattle.std.proofs.lemmas.List.{append-nil}
use Rattle.std.proofs.lemmas.List.Elements.{All-head, All-tail}
use Rattle.vet_base.specs.Ascending.{Ascends}
use Rattle.vet_base.specs.Script.{Script, Value, run, repeat, ◌>>=◌}
use Rattle.vet_base.proofs.Runs.{test_passes}
use Rattle.vet_base.proofs.Scripts.{run_bind}
use Rattle.fact_rows.specs.declared.row.Row.{Row}
use Rattle.fact_rows.specs.Order.{row_cmp}
use Rattle.cert_rows.specs.declared.sets.Set.{Set}
use Rattle.cert_rows.specs.declared.sets.Set.TheVariants.{Paths, Cells}
use Rattle.cert_rows.specs.Fitting.{RowFits}
use Rattle.cert_rows.specs.Laws.{RowsAreReadAgain}
use Rattle.cert_rows.specs.Spelling.{u4_bytes, row_bytes}
use Rattle.certificate.specs.declared.fault.CertFault.{CertFault}
use Rattle.certificate.specs.declared.fault.CertFault.TheVariants.{Magic}
use Rattle.certificate.specs.Cert.{IsCert, magic, cert_bytes}
use Rattle.certificate.specs.Reading.{old_magic, set_told, set_named, is_above, magic_from, digest_from, count_from, next_row, rows_from, cert_from}
use Rattle.certificate.proofs.Placing.{run_placed}

-- the bytes are read as this set, this digest and these rows
abbrev pub ReadAs : List ℕ → Set → List ℕ → List Row → Type 0
ReadAs bytes set digest rows = run (cert_from bytes) ≡ Ok (record { set = set; digest = digest; rows = rows })

-- the set, where one is told, and the bytes behind the first eight
abbrev pub named_from : List ℕ → Option Set → Script CertFault (Set × List ℕ)
named_from bytes told = set_named told >>= λ set. Value (set, drop 8 bytes)

long_enough : (set : Set) (more : List ℕ) → nat_le 8 (length (magic set ++ more)) ≡ true
unfolding magic
long_enough Paths more = grind (arith, nat_tests)
long_enough Cells more = grind (arith, nat_tests)

pub magic_again : (set : Set) (more : List ℕ) → run (magic_from (magic set ++ more)) ≡ Ok (set, more)
unfolding magic old_magic magic_from set_told
magic_again Paths more = let bytes = magic Paths ++ more in test_passes (nat_le 8 (length bytes)) Magic (named_from bytes (set_told bytes)) (long_enough Paths more)
magic_again Cells more = let bytes = magic Cells ++ more in test_passes (nat_le 8 (length bytes)) Magic (named_from bytes (set_told bytes)) (long_enough Cells more)

front : (xs ys : List ℕ) → take (length xs) (xs ++ ys) ≡ xs
front [] ys = refl
front (x ∷ xs) ys = ap (λ zs. x ∷ zs) (front xs ys)

behind : (xs ys : List ℕ) → drop (length xs) (xs ++ ys) ≡ ys
behind [] ys = refl
behind (x ∷ xs) ys = behind xs ys

digest_again : (digest more : List ℕ) → length digest ≡ 32 → run (digest_from (digest ++ more)) ≡ Ok (digest, more)
unfolding digest_from
digest_again digest more len =
    let long : nat_le 32 (length (digest ++ more)) ≡ true = grind (arith, length-append digest more) in
    let first : take 32 (digest ++ more) ≡ digest = ap (λ n. take n (digest ++ more)) (sym len) ∙ front digest more in
    let others : drop 32 (digest ++ more) ≡ more = ap (λ n. drop n (digest ++ more)) (sym len) ∙ behind digest more in
    rw (long, first, others) refl

count_again : (n : ℕ) (more : List ℕ) → n < 4294967296 → run (count_from (u4_bytes n ++ more)) ≡ Ok (n, more)
unfolding count_from
count_again n more h =
    let whole : n % 256 + 256 * (n / 256 % 256) + 65536 * (n / 65536 % 256) + 16777216 * (n / 16777216 % 256) ≡ n = omega arith in
    λ i. Ok (whole i, more)

-- the rows behind the last one rise from it
abbrev pub Rises : Option Row → List Row → Type 0
Rises None rows = Ascends row_cmp rows
Rises (Some last) rows = Ascends row_cmp (last ∷ rows)

above : (last : Option Row) (r : Row) (rows : List Row) → Rises last (r ∷ rows) → (is_above last r ≡ true) × Rises (Some r) rows
above None r rows up = (refl, up)
above (Some last) r rows up = (ap is_lt up.0, up.1)

next_again : RowsAreReadAgain → (set : Set) (size : ℕ) (last : Option Row) (r : Row) (more : List ℕ) → RowFits set r → is_above last r ≡ true
    → run (next_row set size (last, row_bytes r ++ more)) ≡ Ok (r, (Some r, more))
unfolding next_row
next_again again set size last r more fit up = rw (run_bind, run_placed, again set r more fit, up) refl

repeat_step : {F S X : Type 0} (n : ℕ) (row : S → Script F (X × S)) (s : S) (x : X) (t : S) (xs : List X) (u : S)
    → run (row s) ≡ Ok (x, t) → run (repeat n row t) ≡ Ok (xs, u) → run (repeat (suc n) row s) ≡ Ok (x ∷ xs, u)
unfolding repeat
repeat_step n row s x t xs u one more = rw (run_bind, one, run_bind, more) refl

abbrev last_of : Option Row → List Row → Option Row
last_of last [] = last
last_of last (r ∷ rows) = last_of (Some r) rows

rows_again : RowsAreReadAgain → (set : Set) (size : ℕ) (rows : List Row) (last : Option Row) (rest : List ℕ) → All (RowFits set) rows → Rises last rows
    → run (repeat (length rows) (next_row set size) (last, flat_map row_bytes rows ++ rest)) ≡ Ok (rows, (last_of last rows, rest))
unfolding repeat
rows_again again set size [] last rest fit up = refl
rows_again again set size (r ∷ rows) last rest fit up =
    let more = flat_map row_bytes rows ++ rest in
    let rises = above last r rows up in
    let one : run (next_row set size (last, row_bytes r ++ more)) ≡ Ok (r, (Some r, more)) = next_again again set size last r more (All-head (RowFits set) r rows fit) rises.0 in
    let others = rows_again again set size rows (Some r) rest (All-tail (RowFits set) r rows fit) rises.1 in
    ap (λ (bs : List ℕ). run (repeat (suc (length rows)) (next_row set size) (last, bs))) (append_assoc (row_bytes r) (flat_map row_bytes rows) rest)
    ∙ repeat_step (length rows) (next_row set size) (last, row_bytes r ++ more) r (Some r, more) rows (last_of (Some r) rows, rest) one others

rows_are : RowsAreReadAgain → (set : Set) (size : ℕ) (rows : List Row) → All (RowFits set) rows → Ascends row_cmp rows
    → run (rows_from set size (length rows) (flat_map row_bytes rows)) ≡ Ok (rows, (last_of None rows, []))
unfolding rows_from
rows_are again set size rows fit up =
    ap (λ (bs : List ℕ). run (repeat (length rows) (next_row set size) (None, bs))) (sym (append-nil (flat_map row_bytes rows)))
    ∙ rows_again again set size rows None [] fit up

spelled_again : RowsAreReadAgain → (set : Set) (digest : List ℕ) (rows : List Row) → length digest ≡ 32 → length rows < 4294967296 → All (RowFits set) rows → Ascends row_cmp rows
    → ReadAs (cert_bytes set digest rows) set digest rows
unfolding cert_bytes cert_from
spelled_again again set digest rows len few fit up =
    let behind_count = flat_map row_bytes rows in
    let behind_digest = u4_bytes (length rows) ++ behind_count in
    rw (
      run_bind,
      magic_again set (digest ++ behind_digest),
      run_bind,
      digest_again digest behind_digest len,
      run_bind,
      count_again (length rows) behind_count few,
      run_bind,
      rows_are again set (length (magic set ++ (digest ++ behind_digest))) rows fit up,
    ) refl

pub cert_again : RowsAreReadAgain → (bytes : List ℕ) (set : Set) (digest : List ℕ) (rows : List Row) → IsCert bytes set digest rows → ReadAs bytes set digest rows
cert_again again bytes set digest rows is = rw is.spelled (spelled_again again set digest rows is.digest_len is.few is.fit is.ascend)

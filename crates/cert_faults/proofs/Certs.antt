-- Bytes that have a fault by themselves fail the test of that fault first.
use Rattle.std.proofs.Common.{◌≡◌, ℕ, suc, ◌+◌, ◌*◌, ◌/◌, ◌%◌, ◌-◌, ◌<◌, ◌==◌, not, Bool, true, false, nat_le, Result, Ok, Err, List, [], ◌∷◌, ◌++◌, length, take, drop, Option, Some, None, refl, sym, ap, subst, ◌∙◌, append_assoc, length-append, arith}
use Rattle.std.specs.Prelude.{◌≢◌, nat_eq}
use Rattle.std.specs.List.{All, flat_map, starts_with}
use Rattle.std.proofs.lemmas.Bool.Decides.{nat_tests}
use Rattle.std.proofs.lemmas.List.Elements.{All-head, All-tail}
use Rattle.vet_base.specs.Script.{Script, Value, Test, run, then_run, repeat, ◌>>=◌}
use Rattle.vet_base.proofs.Runs.{bind_runs, fails_first}
use Rattle.vet_base.proofs.Scripts.{run_bind, is_first, with_front, with_none}
use Rattle.fact_rows.specs.declared.row.Row.{Row}
use Rattle.cert_rows.specs.declared.fault.RowFault.{RowFault}
use Rattle.cert_rows.specs.declared.fault.RowFault.TheVariants as row_fault
use Rattle.cert_rows.specs.declared.sets.Set.{Set}
use Rattle.cert_rows.specs.Fitting.{RowFits}
use Rattle.cert_rows.specs.Laws.{AreBytes, RowsAreReadAgain, RowsAreFound}
use Rattle.cert_rows.specs.Rows.{row_from}
use Rattle.cert_rows.specs.Spelling.{u4_bytes, row_bytes}
use Rattle.certificate.specs.declared.cert.Cert.{Cert}
use Rattle.certificate.specs.declared.fault.CertFault.{CertFault}
use Rattle.certificate.specs.declared.fault.CertFault.TheVariants.{Magic, Cut, Order, Bad, Rest, Version}
use Rattle.certificate.specs.Cert.{magic}
use Rattle.certificate.specs.Reading.{old_magic, fault_at, placed, set_told, is_above, magic_from, digest_from, count_from, next_row, rows_from, cert_from}
use Rattle.certificate.proofs.CertAgain.{named_from, magic_again}
use Rattle.certificate.proofs.CertFound.{begins_as_told}
use Rattle.certificate.proofs.Placing.{run_placed, placed_result}
use Rattle.cert_faults.specs.FirstFault.{FirstFault, of_version, of_magic, of_digest, of_count, of_cut, of_byte, of_order, of_rest, Holds, offset}
use Rattle.cert_faults.specs.Laws.{FaultsAreOfTheBytes}
use Rattle.cert_faults.proofs.Faults.{bytes_behind, last_of, Rises, rises_behind, is_above_first, rises_more, starts_is, fault_of_bytes}
use Rattle.cert_faults.proofs.Fronts.{is_cut, is_bad}
use Rattle.cert_faults.proofs.Steady.{bind_fails}

front : (xs ys : List ℕ) → take (length xs) (xs ++ ys) ≡ xs
front [] ys = refl
front (x ∷ xs) ys = ap (λ zs. x ∷ zs) (front xs ys)

behind : (xs ys : List ℕ) → drop (length xs) (xs ++ ys) ≡ ys
behind [] ys = refl
behind (x ∷ xs) ys = behind xs ys

digest_again : (digest more : List ℕ) → length digest ≡ 32 → run (digest_from (digest ++ more)) ≡ Ok (digest, more)
unfolding digest_from
digest_again digest more len =
    let long : nat_le 32 (length (digest ++ more)) ≡ true = grind (arith, length-append digest more) in
    let first : take 32 (digest ++ more) ≡ digest = ap (λ n. take n (digest ++ more)) (sym len) ∙ front digest more in
    let others : drop 32 (digest ++ more) ≡ more = ap (λ n. drop n (digest ++ more)) (sym len) ∙ behind digest more in
    rw (long, first, others) refl

count_again : (n : ℕ) (more : List ℕ) → n < 4294967296 → run (count_from (u4_bytes n ++ more)) ≡ Ok (n, more)
unfolding count_from
count_again n more h =
    let whole : n % 256 + 256 * (n / 256 % 256) + 65536 * (n / 65536 % 256) + 16777216 * (n / 16777216 % 256) ≡ n = omega arith in
    λ i. Ok (whole i, more)

too_short : (rest : List ℕ) → length rest < 4 → run (count_from rest) ≡ Err (Cut 40)
unfolding count_from
too_short [] few = refl
too_short (a ∷ []) few = refl
too_short (a ∷ b ∷ []) few = refl
too_short (a ∷ b ∷ c ∷ []) few = refl
too_short (a ∷ b ∷ c ∷ d ∷ rest) few = absurd (omega arith)

too_few : (rest : List ℕ) → length rest < 32 → run (digest_from rest) ≡ Err (Cut 8)
unfolding digest_from
too_few rest few =
    let short : nat_le 32 (length rest) ≡ false = grind (arith, nat_tests) in
    rw short refl

abbrev Many : Type 0
Many = Result (List Row × (Option Row × List ℕ)) CertFault

one_front : (r : Row) (rows : List Row) (many : Many) → then_run (with_front rows many) (λ others. Value (r ∷ others.0, others.1)) ≡ with_front (r ∷ rows) many
one_front r rows (Ok s) = refl
one_front r rows (Err e) = refl

abbrev as_cons : Row → List Row × (Option Row × List ℕ) → Script CertFault (List Row × (Option Row × List ℕ))
as_cons r others = Value (r ∷ others.0, others.1)

module _ (again : RowsAreReadAgain) (set : Set) (size : ℕ) where
  next_stands : (last : Option Row) (r : Row) (more : List ℕ) → RowFits set r → is_above last r ≡ true → run (next_row set size (last, row_bytes r ++ more)) ≡ Ok (r, (Some r, more))
  unfolding next_row
  next_stands last r more fit up = rw (run_bind, run_placed, again set r more fit, up) refl

  next_fails : (last : Option Row) (rest : List ℕ) (d : RowFault) → run (row_from set rest) ≡ Err d → run (next_row set size (last, rest)) ≡ Err (fault_at (size - length rest) d)
  unfolding next_row
  next_fails last rest d e =
      bind_fails (placed (size - length rest) (row_from set rest)) (λ row. Test (is_above last row.0) (Order (size - length rest)) (Value (row.0, (Some row.0, row.1)))) (fault_at (size - length rest) d)
      (run_placed (size - length rest) (row_from set rest) ∙ ap (placed_result (size - length rest)) e)

  next_below : (last : Option Row) (r : Row) (more : List ℕ) → RowFits set r → is_above last r ≡ false → run (next_row set size (last, row_bytes r ++ more)) ≡ Err (Order (size - length (row_bytes r ++ more)))
  unfolding next_row
  next_below last r more fit below = rw (run_bind, run_placed, again set r more fit, below) refl

  -- some rows, and what comes behind them
  rows_then : (k : ℕ) (rows : List Row) (last : Option Row) (rest : List ℕ) (many : Many) → All (RowFits set) rows → Rises last rows → run (repeat k (next_row set size) (last_of last rows, rest)) ≡ many
      → run (repeat (length rows + k) (next_row set size) (last, flat_map row_bytes rows ++ rest)) ≡ with_front rows many
  unfolding repeat
  rows_then k [] last rest many fit up e = let none : length {A = Row} [] + k ≡ k = omega arith in rw none (e ∙ sym (with_none many))
  rows_then k (r ∷ rows) last rest many fit up e =
      let more = flat_map row_bytes rows ++ rest in
      let one : run (next_row set size (last, row_bytes r ++ more)) ≡ Ok (r, (Some r, more)) = next_stands last r more (All-head (RowFits set) r rows fit) (is_above_first last r rows up) in
      let others : run (repeat (length rows + k) (next_row set size) (Some r, more)) ≡ with_front rows many = rows_then k rows (Some r) rest many (All-tail (RowFits set) r rows fit) (rises_behind last r rows up) e in
      let count : length (r ∷ rows) + k ≡ suc (length rows + k) = omega arith in
      let spelled : flat_map row_bytes (r ∷ rows) ++ rest ≡ row_bytes r ++ more = append_assoc (row_bytes r) (flat_map row_bytes rows) rest in
      let step : run (repeat (suc (length rows + k)) (next_row set size) (last, row_bytes r ++ more)) ≡ then_run (with_front rows many) (as_cons r) =
      rw (run_bind, one, run_bind, others) refl in
      (λ i. run (repeat (count i) (next_row set size) (last, spelled i))) ∙ step ∙ one_front r rows many

abbrev at_end : List ℕ → Set → List ℕ → List Row × (Option Row × List ℕ) → Script CertFault Cert
at_end bytes set digest rows = Test (length rows.1.1 == 0) (Rest (length bytes - length rows.1.1)) (Value (record { set = set; digest = digest; rows = rows.0 }))

abbrev at_rows : List ℕ → Set → List ℕ → ℕ × List ℕ → Script CertFault Cert
at_rows bytes set digest count = rows_from set (length bytes) count.0 count.1 >>= at_end bytes set digest

abbrev at_count : List ℕ → Set → List ℕ × List ℕ → Script CertFault Cert
at_count bytes set digest = count_from digest.1 >>= at_rows bytes set digest.0

module _ (again : RowsAreReadAgain) (found : RowsAreFound) (bytes : List ℕ) where
  behind_magic : (set : Set) (rest : List ℕ) (r : Result Cert CertFault) → bytes ≡ magic set ++ rest → run (digest_from rest >>= at_count bytes set) ≡ r → run (cert_from bytes) ≡ r
  unfolding cert_from
  behind_magic set rest r is e = bind_runs (magic_from bytes) (set, rest) (λ told. digest_from told.1 >>= at_count bytes told.0) r (ap (λ bs. run (magic_from bs)) is ∙ magic_again set rest) e

  behind_digest : (set : Set) (digest rest : List ℕ) (r : Result Cert CertFault) → bytes ≡ magic set ++ (digest ++ rest) → length digest ≡ 32 → run (count_from rest >>= at_rows bytes set digest) ≡ r → run (cert_from bytes) ≡ r
  behind_digest set digest rest r is len e = behind_magic set (digest ++ rest) r is (bind_runs (digest_from (digest ++ rest)) (digest, rest) (at_count bytes set) r (digest_again digest rest len) e)

  behind_count : {set : Set} {digest rest : List ℕ} {count : ℕ} {rows : List Row} (r : Result Cert CertFault) → Holds bytes set digest count rows rest
      → run (rows_from set (length bytes) count (flat_map row_bytes rows ++ rest) >>= at_end bytes set digest) ≡ r → run (cert_from bytes) ≡ r
  behind_count {set = set} {digest = digest} {rest = rest} {count = count} {rows = rows} r h e =
      behind_digest set digest (u4_bytes count ++ (flat_map row_bytes rows ++ rest)) r h.is h.digest_len
      (bind_runs (count_from (u4_bytes count ++ (flat_map row_bytes rows ++ rest))) (count, flat_map row_bytes rows ++ rest) (at_rows bytes set digest) r (count_again count (flat_map row_bytes rows ++ rest) h.few) e)

  -- fewer rows stand there than are announced, and the next one has a fault
  next_has : {set : Set} {digest rest : List ℕ} {count : ℕ} {rows : List Row} (fault : CertFault) → Holds bytes set digest count rows rest → length rows < count
      → run (next_row set (length bytes) (last_of None rows, rest)) ≡ Err fault → run (cert_from bytes) ≡ Err fault
  unfolding rows_from repeat
  next_has {set = set} {digest = digest} {rest = rest} {count = count} {rows = rows} fault h few e =
      let left = count - length rows - 1 in
      let all : length rows + suc left ≡ count = omega arith in
      let one : run (repeat (suc left) (next_row set (length bytes)) (last_of None rows, rest)) ≡ Err fault =
      bind_fails (next_row set (length bytes) (last_of None rows, rest)) (λ first. repeat left (next_row set (length bytes)) first.1 >>= λ others. Value (first.0 ∷ others.0, others.1)) fault e in
      let many : run (repeat (length rows + suc left) (next_row set (length bytes)) (None, flat_map row_bytes rows ++ rest)) ≡ Err fault = rows_then again set (length bytes) (suc left) rows None rest (Err fault) h.fit h.ascend one in
      behind_count (Err fault) h
      (bind_fails (repeat count (next_row set (length bytes)) (None, flat_map row_bytes rows ++ rest)) (at_end bytes set digest) fault
      (subst (λ n. run (repeat n (next_row set (length bytes)) (None, flat_map row_bytes rows ++ rest)) ≡ Err fault) all many))

  no_more : (rest : List ℕ) → rest ≢ [] → (length rest == 0) ≡ false
  no_more [] some = absurd (some refl)
  no_more (x ∷ rest) some = grind (arith, nat_tests)

  all_there : {set : Set} {digest rest : List ℕ} {rows : List Row} → Holds bytes set digest (length rows) rows rest → rest ≢ [] → run (cert_from bytes) ≡ Err (Rest (offset bytes rest))
  unfolding rows_from repeat
  all_there {set = set} {digest = digest} {rest = rest} {rows = rows} h some =
      let none : length rows + 0 ≡ length rows = omega arith in
      let many : run (repeat (length rows + 0) (next_row set (length bytes)) (None, flat_map row_bytes rows ++ rest)) ≡ Ok (rows ++ [], (last_of None rows, rest)) =
      rows_then again set (length bytes) 0 rows None rest (Ok ([], (last_of None rows, rest))) h.fit h.ascend refl in
      let end : run (at_end bytes set digest (rows ++ [], (last_of None rows, rest))) ≡ Err (Rest (offset bytes rest)) = rw (no_more rest some) refl in
      behind_count (Err (Rest (offset bytes rest))) h
      (bind_runs (repeat (length rows) (next_row set (length bytes)) (None, flat_map row_bytes rows ++ rest)) (rows ++ [], (last_of None rows, rest)) (at_end bytes set digest) (Err (Rest (offset bytes rest)))
      (subst (λ n. run (repeat n (next_row set (length bytes)) (None, flat_map row_bytes rows ++ rest)) ≡ Ok (rows ++ [], (last_of None rows, rest))) none many) end)

  old_is : (rest : List ℕ) → run (cert_from (old_magic ++ rest)) ≡ Err Version
  unfolding cert_from magic_from old_magic
  old_is rest = refl

  by_tests : (old long : Bool) (told : Option Set) → (old ≡ true → ⊥) → ((set : Set) → told ≡ Some set → ⊥) → run (Test (not old) Version (Test long Magic (named_from bytes told))) ≡ Err Magic
  by_tests true long told no_old no_new = absurd (no_old refl)
  by_tests false false told no_old no_new = refl
  by_tests false true (Some set) no_old no_new = absurd (no_new set refl)
  by_tests false true None no_old no_new = refl

  no_magic : ((rest : List ℕ) → bytes ≢ old_magic ++ rest) → ((set : Set) (rest : List ℕ) → bytes ≢ magic set ++ rest) → run (magic_from bytes) ≡ Err Magic
  unfolding magic_from
  no_magic no_old no_new =
      by_tests (starts_with nat_eq bytes old_magic) (nat_le 8 (length bytes)) (set_told bytes)
      (λ e. no_old (drop (length old_magic) bytes) (starts_is again found bytes old_magic bytes e))
      (λ set e. no_new set (drop 8 bytes) (begins_as_told bytes set e))

  magic_fails : run (magic_from bytes) ≡ Err Magic → run (cert_from bytes) ≡ Err Magic
  unfolding cert_from
  magic_fails e = bind_fails (magic_from bytes) (λ told. digest_from told.1 >>= at_count bytes told.0) Magic e

  below : (b : Bool) → (b ≡ true → ⊥) → b ≡ false
  below true never = absurd (never refl)
  below false never = refl

  left_are_bytes : {set : Set} {digest rest : List ℕ} {count : ℕ} {rows : List Row} → AreBytes bytes → Holds bytes set digest count rows rest → AreBytes rest
  left_are_bytes {set = set} {digest = digest} {rest = rest} {count = count} {rows = rows} are h =
      bytes_behind (flat_map row_bytes rows) rest (bytes_behind (u4_bytes count) (flat_map row_bytes rows ++ rest) (bytes_behind digest (u4_bytes count ++ (flat_map row_bytes rows ++ rest))
      (bytes_behind (magic set) (digest ++ (u4_bytes count ++ (flat_map row_bytes rows ++ rest))) (subst AreBytes h.is are))))

  runs_to : AreBytes bytes → (fault : CertFault) → FirstFault bytes fault → run (cert_from bytes) ≡ Err fault
  runs_to are _ (of_version rest is) = ap (λ bs. run (cert_from bs)) is ∙ old_is rest
  runs_to are _ (of_magic no_old no_new) = magic_fails (no_magic no_old no_new)
  runs_to are _ (of_digest set rest is few) = behind_magic set rest (Err (Cut 8)) is (bind_fails (digest_from rest) (at_count bytes set) (Cut 8) (too_few rest few))
  runs_to are _ (of_count set digest rest is len few) = behind_digest set digest rest (Err (Cut 40)) is len (bind_fails (count_from rest) (at_rows bytes set digest) (Cut 40) (too_short rest few))
  runs_to are _ (of_cut set digest rest count rows h few c) =
      next_has (Cut (offset bytes rest)) h few (next_fails again set (length bytes) (last_of None rows) rest row_fault.Cut (is_cut again found set rest c))
  runs_to are _ (of_byte set digest rest count rows h few none uncut) =
      next_has (Bad (offset bytes rest)) h few (next_fails again set (length bytes) (last_of None rows) rest row_fault.Bad (is_bad again found set rest (left_are_bytes are h) none uncut))
  runs_to are _ (of_order set digest rest more count rows row h few is fits down) =
      let not_above : is_above (last_of None rows) row ≡ false = below (is_above (last_of None rows) row) (λ above. down (rises_more None rows row h.ascend above)) in
      let one : run (next_row set (length bytes) (last_of None rows, rest)) ≡ Err (Order (offset bytes rest)) =
      subst (λ bs. run (next_row set (length bytes) (last_of None rows, bs)) ≡ Err (Order (length bytes - length bs))) (sym is) (next_below again set (length bytes) (last_of None rows) row more fits not_above) in
      next_has (Order (offset bytes rest)) h few one
  runs_to are _ (of_rest set digest rest rows h some) = all_there h some

pub faults_are_of_the_bytes : RowsAreReadAgain → RowsAreFound → FaultsAreOfTheBytes
faults_are_of_the_bytes again found bytes fault are = (
  λ first. fault_of_bytes again found bytes are fault (fails_first (cert_from bytes) fault first),
  λ own. is_first (cert_from bytes) fault (runs_to again found bytes are fault own),
)

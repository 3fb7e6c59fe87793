-- The first test that fails is that of the fault of the bytes.
use Rattle.std.proofs.Common.{◌≡◌, inl, inr, ℕ, zero, suc, ◌+◌, ◌-◌, ◌<◌, ◌≤◌, ◌==◌, not, Bool, true, false, nat_le, Result, Ok, Err, List, [], ◌∷◌, ◌++◌, length, take, drop, Option, Some, None, refl, sym, ap, subst, ◌∙◌, append_assoc, length-append, arith}
use Rattle.std.specs.Prelude.{nat_eq}
use Rattle.std.specs.List.{All, flat_map, starts_with}
use Rattle.std.specs.Ordering.{is_lt}
use Rattle.std.specs.Cmp.Lexicographic.{same_text}
use Rattle.std.proofs.lemmas.Bool.Decides.{nat_tests}
use Rattle.std.proofs.lemmas.List.{append-nil, take-append-drop, length-take-le}
use Rattle.std.proofs.lemmas.List.Concat.{flat_map-append}
use Rattle.std.proofs.lemmas.List.Elements.{All-append, All-from_recursion}
use Rattle.vet_base.specs.Ascending.{Ascends}
use Rattle.vet_base.specs.Script.{Script, Value, Test, run, repeat, ◌>>=◌}
use Rattle.vet_base.proofs.Orders.{is_less}
use Rattle.vet_base.proofs.Results.{ok_parts}
use Rattle.vet_base.proofs.Runs.{bind_ok, test_ok, value_is}
use Rattle.fact_rows.specs.declared.row.Row.{Row}
use Rattle.fact_rows.specs.Order.{row_cmp}
use Rattle.cert_rows.specs.declared.fault.RowFault.{RowFault}
use Rattle.cert_rows.specs.declared.fault.RowFault.TheVariants as row_fault
use Rattle.cert_rows.specs.declared.sets.Set.{Set}
use Rattle.cert_rows.specs.declared.sets.Set.TheVariants.{Paths, Cells}
use Rattle.cert_rows.specs.Fitting.{RowFits}
use Rattle.cert_rows.specs.Laws.{AreBytes, RowsAreReadAgain, RowsAreFound}
use Rattle.cert_rows.specs.Reading.{u4_from}
use Rattle.cert_rows.specs.Rows.{row_from}
use Rattle.cert_rows.specs.Spelling.{u4_bytes, row_bytes}
use Rattle.certificate.specs.declared.cert.Cert.{Cert}
use Rattle.certificate.specs.declared.fault.CertFault.{CertFault}
use Rattle.certificate.specs.declared.fault.CertFault.TheVariants.{Magic, Cut, Order, Bad, Rest, Version}
use Rattle.certificate.specs.Cert.{magic}
use Rattle.certificate.specs.Reading.{old_magic, fault_at, placed, set_told, is_above, magic_from, digest_from, count_from, next_row, rows_from, cert_from}
use Rattle.certificate.proofs.CertAgain.{named_from}
use Rattle.certificate.proofs.CertFound.{magic_found}
use Rattle.cert_faults.specs.FirstFault.{FirstFault, of_version, of_magic, of_digest, of_count, of_cut, of_byte, of_order, of_rest, Holds, offset}
use Rattle.cert_faults.proofs.Fronts.{cut_row, bad_begins_none, bad_is_not_cut}
use Rattle.cert_faults.proofs.Steady.{bind_err}

pub bytes_behind : (xs ys : List ℕ) → AreBytes (xs ++ ys) → AreBytes ys
bytes_behind [] ys are = are
bytes_behind (x ∷ xs) ys are = bytes_behind xs ys are.1

-- the run of what is placed
pub placed_ok : {A : Type 0} (at : ℕ) (script : Script RowFault A) (y : A) → run (placed at script) ≡ Ok y → run script ≡ Ok y
placed_ok at (Value x) y e = ap Ok (value_is x y e)
placed_ok at (Test true fault rest) y e = placed_ok at rest y e
placed_ok at (Test false fault rest) y e = absurd cc

placed_err : {A : Type 0} (at : ℕ) (script : Script RowFault A) (e : CertFault) → run (placed at script) ≡ Err e → (d : RowFault) × (run script ≡ Err d) × (fault_at at d ≡ e)
placed_err at (Value x) e h = absurd cc
placed_err at (Test true fault rest) e h = placed_err at rest e h
placed_err at (Test false fault rest) e h = (fault, refl, cc)

-- the last of rows
abbrev pub last_of : Option Row → List Row → Option Row
last_of last [] = last
last_of last (r ∷ rows) = last_of (Some r) rows

abbrev pub Rises : Option Row → List Row → Type 0
Rises None rows = Ascends row_cmp rows
Rises (Some last) rows = Ascends row_cmp (last ∷ rows)

none_rise : (last : Option Row) → Rises last []
none_rise None = tt
none_rise (Some r) = tt

pub rises_behind : (last : Option Row) (r : Row) (rows : List Row) → Rises last (r ∷ rows) → Rises (Some r) rows
rises_behind None r rows up = up
rises_behind (Some last) r rows up = up.1

pub is_above_first : (last : Option Row) (r : Row) (rows : List Row) → Rises last (r ∷ rows) → is_above last r ≡ true
is_above_first None r rows up = refl
is_above_first (Some last) r rows up = ap is_lt up.0

pub rises_on : (last : Option Row) (r : Row) (rows : List Row) → is_above last r ≡ true → Rises (Some r) rows → Rises last (r ∷ rows)
rises_on None r rows above up = up
rises_on (Some last) r rows above up = (is_less (row_cmp last r) above, up)

-- one row more
pub rises_more : (last : Option Row) (rows : List Row) (r : Row) → Rises last rows → is_above (last_of last rows) r ≡ true → Rises last (rows ++ r ∷ [])
rises_more last [] r up above = rises_on last r [] above tt
rises_more last (x ∷ rows) r up above = rises_on last x (rows ++ r ∷ []) (is_above_first last x rows up) (rises_more (Some x) rows r (rises_behind last x rows up) above)

pub above_more : (last : Option Row) (rows : List Row) (r : Row) → Rises last (rows ++ r ∷ []) → is_above (last_of last rows) r ≡ true
above_more last [] r up = is_above_first last r [] up
above_more last (x ∷ rows) r up = above_more (Some x) rows r (rises_behind last x (rows ++ r ∷ []) up)

last_more : (last : Option Row) (rows : List Row) (r : Row) → last_of last (rows ++ r ∷ []) ≡ Some r
last_more last [] r = refl
last_more last (x ∷ rows) r = last_more (Some x) rows r

true_or_false : (b : Bool) → b ≡ true → b ≡ false → ⊥
true_or_false b one two = absurd cc

no_err : (x : List Row × (Option Row × List ℕ)) (f : CertFault) → run {F = CertFault} (Value x) ≡ Err f → ⊥
no_err x f e = absurd cc

module _ (again : RowsAreReadAgain) (found : RowsAreFound) (bytes : List ℕ) where
  module _ (set : Set) (digest : List ℕ) (count : ℕ) where
    -- what a run of rows comes to
    abbrev Comes : Result (List Row × (Option Row × List ℕ)) CertFault → Type 0
    Comes (Err fault) = FirstFault bytes fault
    Comes (Ok s) = (rows : List Row) × (Holds bytes set digest count rows s.1.1 × (length rows ≡ count))

    behind_one : (rows : List Row) (r : Row) (rest more : List ℕ) → rest ≡ row_bytes r ++ more → flat_map row_bytes rows ++ rest ≡ flat_map row_bytes (rows ++ r ∷ []) ++ more
    behind_one rows r rest more is =
        let one : flat_map row_bytes (r ∷ []) ≡ row_bytes r = append-nil (row_bytes r) in
        let all : flat_map row_bytes (rows ++ r ∷ []) ≡ flat_map row_bytes rows ++ row_bytes r = flat_map-append row_bytes rows (r ∷ []) ∙ ap (λ bs. flat_map row_bytes rows ++ bs) one in
        ap (λ bs. flat_map row_bytes rows ++ bs) is
        ∙ sym (append_assoc (flat_map row_bytes rows) (row_bytes r) more)
        ∙ ap (λ bs. bs ++ more) (sym all)

    holds_more : (rows : List Row) (r : Row) (rest more : List ℕ) → Holds bytes set digest count rows rest → rest ≡ row_bytes r ++ more → RowFits set r → is_above (last_of None rows) r ≡ true
        → Holds bytes set digest count (rows ++ r ∷ []) more
    holds_more rows r rest more h is fits above = record {
      is = h.is ∙ ap (λ bs. magic set ++ (digest ++ (u4_bytes count ++ bs))) (behind_one rows r rest more is);
      digest_len = h.digest_len;
      few = h.few;
      fit = All-append (RowFits set) rows (r ∷ []) h.fit (All-from_recursion (RowFits set) (r ∷ []) (fits, tt));
      ascend = rises_more None rows r h.ascend above;
    }

    by_fault : (rows : List Row) (rest : List ℕ) → AreBytes rest → Holds bytes set digest count rows rest → length rows < count → (d : RowFault) → run (row_from set rest) ≡ Err d
        → FirstFault bytes (fault_at (offset bytes rest) d)
    by_fault rows rest are h few row_fault.Cut e = of_cut set digest rest count rows h few (cut_row again found set rest are e)
    by_fault rows rest are h few row_fault.Bad e = of_byte set digest rest count rows h few (bad_begins_none again found set rest e) (bad_is_not_cut again found set rest e)

    by_order : (rows : List Row) (rest more : List ℕ) (r : Row) → Holds bytes set digest count rows rest → length rows < count → rest ≡ row_bytes r ++ more → RowFits set r
        → (b : Bool) → is_above (last_of None rows) r ≡ b → (fault : CertFault) → run {A = Row × (Option Row × List ℕ)} (Test b (Order (offset bytes rest)) (Value (r, (Some r, more)))) ≡ Err fault → FirstFault bytes fault
    by_order rows rest more r h few is fits true above fault e = absurd cc
    by_order rows rest more r h few is fits false above fault e =
        let same : Order (offset bytes rest) ≡ fault = cc in
        subst (FirstFault bytes) same (of_order set digest rest more count rows r h few is fits (λ up. true_or_false (is_above (last_of None rows) r) (above_more None rows r up) above))

    rows_come : (k : ℕ) (rows : List Row) (last : Option Row) (rest : List ℕ) → last ≡ last_of None rows → length rows + k ≡ count → AreBytes rest → Holds bytes set digest count rows rest
        → (r : Result (List Row × (Option Row × List ℕ)) CertFault) → run (repeat k (next_row set (length bytes)) (last, rest)) ≡ r → Comes r
    unfolding repeat next_row
    rows_come zero rows last rest is_last all are h (Err fault) e = absurd cc
    rows_come zero rows last rest is_last all are h (Ok s) e =
        let p = ok_parts [] s.0 (last, rest) s.1 (Ok ([], (last, rest))) refl e in
        let same : rest ≡ s.1.1 = ap (λ (q : Option Row × List ℕ). q.1) p.1 in
        (rows, (subst (Holds bytes set digest count rows) same h, omega arith))
    rows_come (suc k) rows last rest is_last all are h (Err fault) e =
        let few : length rows < count = omega arith in
        let at = offset bytes rest in
        elim (bind_err (next_row set (length bytes) (last, rest)) (λ first. repeat k (next_row set (length bytes)) first.1 >>= λ others. Value (first.0 ∷ others.0, others.1)) fault e) [
          | inl one ↦ elim (bind_err (placed at (row_from set rest)) (λ row. Test (is_above last row.0) (Order at) (Value (row.0, (Some row.0, row.1)))) fault one) [
            | inl read ↦
                let p = placed_err at (row_from set rest) fault read in
                subst (FirstFault bytes) p.2 (by_fault rows rest are h few p.0 p.1)
            | inr w ↦
                let b = found.row set rest w.0.1 w.0.0 are (placed_ok at (row_from set rest) w.0 w.1) in
                by_order rows rest w.0.1 w.0.0 h few b.is b.fits (is_above last w.0.0) (ap (λ l. is_above l w.0.0) (sym is_last)) fault w.2
          ]
          | inr w ↦
              let a = bind_ok (placed at (row_from set rest)) (λ row. Test (is_above last row.0) (Order at) (Value (row.0, (Some row.0, row.1)))) w.0 w.1 in
              let b = found.row set rest a.0.1 a.0.0 are (placed_ok at (row_from set rest) a.0 a.1) in
              let t = test_ok (is_above last a.0.0) (Order at) (Value (a.0.0, (Some a.0.0, a.0.1))) w.0 a.2 in
              let same : (a.0.0, (Some a.0.0, a.0.1)) ≡ w.0 = value_is {F = CertFault} (a.0.0, (Some a.0.0, a.0.1)) w.0 t.1 in
              let next = holds_more rows a.0.0 rest a.0.1 h b.is b.fits (ap (λ l. is_above l a.0.0) (sym is_last) ∙ t.0) in
              let behind : run (repeat k (next_row set (length bytes)) (Some a.0.0, a.0.1) >>= λ others. Value (a.0.0 ∷ others.0, others.1)) ≡ Err fault =
              subst (λ (f : Row × (Option Row × List ℕ)). run (repeat k (next_row set (length bytes)) f.1 >>= λ others. Value (f.0 ∷ others.0, others.1)) ≡ Err fault) (sym same) w.2 in
              elim (bind_err (repeat k (next_row set (length bytes)) (Some a.0.0, a.0.1)) (λ others. Value (a.0.0 ∷ others.0, others.1)) fault behind) [
                | inl later ↦
                    rows_come k (rows ++ a.0.0 ∷ []) (Some a.0.0) a.0.1 (sym (last_more None rows a.0.0)) (let more : length (rows ++ a.0.0 ∷ []) ≡ length rows + 1 = length-append rows (a.0.0 ∷ []) in omega arith) b.left next (Err fault) later
                | inr v ↦ absurd (no_err (a.0.0 ∷ v.0.0, v.0.1) fault v.2)
              ]
        ]
    rows_come (suc k) rows last rest is_last all are h (Ok s) e =
        let at = offset bytes rest in
        let w = bind_ok (next_row set (length bytes) (last, rest)) (λ first. repeat k (next_row set (length bytes)) first.1 >>= λ others. Value (first.0 ∷ others.0, others.1)) s e in
        let a = bind_ok (placed at (row_from set rest)) (λ row. Test (is_above last row.0) (Order at) (Value (row.0, (Some row.0, row.1)))) w.0 w.1 in
        let b = found.row set rest a.0.1 a.0.0 are (placed_ok at (row_from set rest) a.0 a.1) in
        let t = test_ok (is_above last a.0.0) (Order at) (Value (a.0.0, (Some a.0.0, a.0.1))) w.0 a.2 in
        let same : (a.0.0, (Some a.0.0, a.0.1)) ≡ w.0 = value_is {F = CertFault} (a.0.0, (Some a.0.0, a.0.1)) w.0 t.1 in
        let next = holds_more rows a.0.0 rest a.0.1 h b.is b.fits (ap (λ l. is_above l a.0.0) (sym is_last) ∙ t.0) in
        let behind : run (repeat k (next_row set (length bytes)) (Some a.0.0, a.0.1) >>= λ others. Value (a.0.0 ∷ others.0, others.1)) ≡ Ok s =
        subst (λ (f : Row × (Option Row × List ℕ)). run (repeat k (next_row set (length bytes)) f.1 >>= λ others. Value (f.0 ∷ others.0, others.1)) ≡ Ok s) (sym same) w.2 in
        let v = bind_ok (repeat k (next_row set (length bytes)) (Some a.0.0, a.0.1)) (λ others. Value (a.0.0 ∷ others.0, others.1)) s behind in
        let p = ok_parts (a.0.0 ∷ v.0.0) s.0 v.0.1 s.1 (Ok (a.0.0 ∷ v.0.0, v.0.1)) refl v.2 in
        let later = rows_come k (rows ++ a.0.0 ∷ []) (Some a.0.0) a.0.1 (sym (last_more None rows a.0.0)) (let more : length (rows ++ a.0.0 ∷ []) ≡ length rows + 1 = length-append rows (a.0.0 ∷ []) in omega arith) b.left next (Ok v.0) v.1 in
        (later.0, (subst (λ (q : Option Row × List ℕ). Holds bytes set digest count later.0 q.1) p.1 later.1.0, later.1.1))

  -- the first eight bytes
  pub starts_is : (front xs : List ℕ) → starts_with nat_eq xs front ≡ true → xs ≡ front ++ drop (length front) xs
  starts_is front xs e = sym (take-append-drop (length front) xs) ∙ ap (λ bs. bs ++ drop (length front) xs) (sym (same_text front (take (length front) xs) (sym e)))

  old_starts : (rest : List ℕ) → starts_with nat_eq (old_magic ++ rest) old_magic ≡ true
  unfolding old_magic
  old_starts rest = refl

  told_of : (set : Set) (rest : List ℕ) → set_told (magic set ++ rest) ≡ Some set
  unfolding magic set_told
  told_of Paths rest = refl
  told_of Cells rest = refl

  new_is_long : (set : Set) (rest : List ℕ) → nat_le 8 (length (magic set ++ rest)) ≡ true
  unfolding magic
  new_is_long Paths rest = grind (arith, nat_tests)
  new_is_long Cells rest = grind (arith, nat_tests)

  none_or_some : (o : Option Set) (set : Set) → o ≡ None → o ≡ Some set → ⊥
  none_or_some o set one two = absurd cc

  not_true : (b : Bool) → not b ≡ false → b ≡ true
  not_true true e = refl
  not_true false e = absurd cc

  not_false : (b : Bool) → not b ≡ true → b ≡ false
  not_false true e = absurd cc
  not_false false e = refl

  by_magic : (old long : Bool) (told : Option Set) → starts_with nat_eq bytes old_magic ≡ old → nat_le 8 (length bytes) ≡ long → set_told bytes ≡ told → (fault : CertFault)
      → run (Test (not old) Version (Test long Magic (named_from bytes told))) ≡ Err fault → FirstFault bytes fault
  by_magic true long told is_old is_long is_told fault e = let same : Version ≡ fault = cc in subst (FirstFault bytes) same (of_version (drop (length old_magic) bytes) (starts_is old_magic bytes is_old))
  by_magic false false told is_old is_long is_told fault e =
      let same : Magic ≡ fault = cc in
      subst (FirstFault bytes) same (of_magic
      (λ rest is. true_or_false (starts_with nat_eq bytes old_magic) (ap (λ bs. starts_with nat_eq bs old_magic) is ∙ old_starts rest) is_old)
      (λ set rest is. true_or_false (nat_le 8 (length bytes)) (ap (λ bs. nat_le 8 (length bs)) is ∙ new_is_long set rest) is_long))
  by_magic false true None is_old is_long is_told fault e =
      let same : Magic ≡ fault = cc in
      subst (FirstFault bytes) same (of_magic
      (λ rest is. true_or_false (starts_with nat_eq bytes old_magic) (ap (λ bs. starts_with nat_eq bs old_magic) is ∙ old_starts rest) is_old)
      (λ set rest is. none_or_some (set_told bytes) set is_told (ap set_told is ∙ told_of set rest)))
  by_magic false true (Some set) is_old is_long is_told fault e = absurd cc

  magic_fails : (fault : CertFault) → run (magic_from bytes) ≡ Err fault → FirstFault bytes fault
  unfolding magic_from
  magic_fails fault e = by_magic (starts_with nat_eq bytes old_magic) (nat_le 8 (length bytes)) (set_told bytes) refl refl refl fault e

  -- the digest
  digest_is : (rest digest more : List ℕ) → run (digest_from rest) ≡ Ok (digest, more) → (rest ≡ digest ++ more) × (length digest ≡ 32)
  unfolding digest_from
  digest_is rest digest more e =
      let a = test_ok (nat_le 32 (length rest)) (Cut 8) (Value (take 32 rest, drop 32 rest)) (digest, more) e in
      let p = ok_parts (take 32 rest) digest (drop 32 rest) more (Ok (take 32 rest, drop 32 rest)) refl a.1 in
      let long : 32 ≤ length rest = grind (arith, nat_tests) in
      (sym (take-append-drop 32 rest) ∙ (λ i. p.0 i ++ p.1 i), ap length (sym p.0) ∙ length-take-le 32 rest long)

  by_digest : (set : Set) (rest : List ℕ) → bytes ≡ magic set ++ rest → (long : Bool) → nat_le 32 (length rest) ≡ long → (fault : CertFault)
      → run {A = List ℕ × List ℕ} (Test long (Cut 8) (Value (take 32 rest, drop 32 rest))) ≡ Err fault → FirstFault bytes fault
  by_digest set rest is true is_long fault e = absurd cc
  by_digest set rest is false is_long fault e = let same : Cut 8 ≡ fault = cc in let short : length rest < 32 = grind (arith, nat_tests) in subst (FirstFault bytes) same (of_digest set rest is short)

  digest_fails : (set : Set) (rest : List ℕ) → bytes ≡ magic set ++ rest → (fault : CertFault) → run (digest_from rest) ≡ Err fault → FirstFault bytes fault
  unfolding digest_from
  digest_fails set rest is fault e = by_digest set rest is (nat_le 32 (length rest)) refl fault e

  -- the count
  count_fails : (set : Set) (digest rest : List ℕ) → bytes ≡ magic set ++ (digest ++ rest) → length digest ≡ 32 → (fault : CertFault) → run (count_from rest) ≡ Err fault → FirstFault bytes fault
  unfolding count_from
  count_fails set digest [] is len fault e = let same : Cut 40 ≡ fault = cc in let short : length {A = ℕ} [] < 4 = omega arith in subst (FirstFault bytes) same (of_count set digest _ is len short)
  count_fails set digest (a ∷ []) is len fault e = let same : Cut 40 ≡ fault = cc in let short : length (a ∷ []) < 4 = omega arith in subst (FirstFault bytes) same (of_count set digest _ is len short)
  count_fails set digest (a ∷ b ∷ []) is len fault e = let same : Cut 40 ≡ fault = cc in let short : length (a ∷ b ∷ []) < 4 = omega arith in subst (FirstFault bytes) same (of_count set digest _ is len short)
  count_fails set digest (a ∷ b ∷ c ∷ []) is len fault e = let same : Cut 40 ≡ fault = cc in let short : length (a ∷ b ∷ c ∷ []) < 4 = omega arith in subst (FirstFault bytes) same (of_count set digest _ is len short)
  count_fails set digest (a ∷ b ∷ c ∷ d ∷ rest) is len fault e = absurd cc

  -- what is left behind the rows
  by_rest : (set : Set) (digest : List ℕ) (count : ℕ) (rows : List Row) (rest : List ℕ) (x : Cert) → Holds bytes set digest count rows rest → length rows ≡ count → (none : Bool) → (length rest == 0) ≡ none
      → (fault : CertFault) → run (Test none (Rest (offset bytes rest)) (Value x)) ≡ Err fault → FirstFault bytes fault
  by_rest set digest count rows rest x h all true is_none fault e = absurd cc
  by_rest set digest count rows rest x h all false is_none fault e =
      let same : Rest (offset bytes rest) ≡ fault = cc in
      let all_there : Holds bytes set digest (length rows) rows rest = subst (λ n. Holds bytes set digest n rows rest) (sym all) h in
      subst (FirstFault bytes) same (of_rest set digest rest rows all_there (λ none. true_or_false (length rest == 0) (ap (λ bs. length bs == 0) none) is_none))

  abbrev at_end : Set → List ℕ → List Row × (Option Row × List ℕ) → Script CertFault Cert
  at_end set digest rows = Test (length rows.1.1 == 0) (Rest (length bytes - length rows.1.1)) (Value (record { set = set; digest = digest; rows = rows.0 }))

  abbrev at_rows : Set → List ℕ → ℕ × List ℕ → Script CertFault Cert
  at_rows set digest count = rows_from set (length bytes) count.0 count.1 >>= at_end set digest

  abbrev at_count : Set → List ℕ × List ℕ → Script CertFault Cert
  at_count set digest = count_from digest.1 >>= at_rows set digest.0

  -- behind the count
  rows_fail : (set : Set) (digest rest more : List ℕ) (count : ℕ) → AreBytes more → bytes ≡ magic set ++ (digest ++ rest) → length digest ≡ 32 → rest ≡ u4_bytes count ++ more → count < 4294967296 → (fault : CertFault)
      → run (at_rows set digest (count, more)) ≡ Err fault → FirstFault bytes fault
  unfolding rows_from
  rows_fail set digest rest more count are is len counted few fault e =
      let first : Holds bytes set digest count [] more = record {
        is = is ∙ ap (λ bs. magic set ++ (digest ++ bs)) counted;
        digest_len = len;
        few = few;
        fit = All-from_recursion (RowFits set) [] tt;
        ascend = tt;
      } in
      elim (bind_err (repeat count (next_row set (length bytes)) (None, more)) (at_end set digest) fault e) [
        | inl one ↦ rows_come set digest count count [] None more refl (omega arith) are first (Err fault) one
        | inr w ↦
            let all = rows_come set digest count count [] None more refl (omega arith) are first (Ok w.0) w.1 in
            by_rest set digest count all.0 w.0.1.1 (record { set = set; digest = digest; rows = w.0.0 }) all.1.0 all.1.1 (length w.0.1.1 == 0) refl fault w.2
      ]

  pub fault_of_bytes : AreBytes bytes → (fault : CertFault) → run (cert_from bytes) ≡ Err fault → FirstFault bytes fault
  unfolding cert_from count_from
  fault_of_bytes are fault e =
      elim (bind_err (magic_from bytes) (λ told. digest_from told.1 >>= at_count told.0) fault e) [
        | inl one ↦ magic_fails fault one
        | inr a ↦
            let set = a.0.0 in
            let m = magic_found bytes set a.0.1 a.1 in
            let are1 : AreBytes a.0.1 = bytes_behind (magic set) a.0.1 (subst AreBytes m are) in
            elim (bind_err (digest_from a.0.1) (at_count set) fault a.2) [
              | inl one ↦ digest_fails set a.0.1 m fault one
              | inr b ↦
                  let d = digest_is a.0.1 b.0.0 b.0.1 b.1 in
                  let are2 : AreBytes b.0.1 = bytes_behind b.0.0 b.0.1 (subst AreBytes d.0 are1) in
                  let whole : bytes ≡ magic set ++ (b.0.0 ++ b.0.1) = m ∙ ap (λ bs. magic set ++ bs) d.0 in
                  elim (bind_err (count_from b.0.1) (at_rows set b.0.0) fault b.2) [
                    | inl one ↦ count_fails set b.0.0 b.0.1 whole d.1 fault one
                    | inr c ↦
                        let n = found.number b.0.1 c.0.1 c.0.0 are2 (placed_ok 40 (u4_from b.0.1) c.0 c.1) in
                        rows_fail set b.0.0 b.0.1 c.0.1 c.0.0 n.left whole d.1 n.is n.fits fault c.2
                  ]
            ]
      ]

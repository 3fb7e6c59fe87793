-- What was read of a row is written in the bytes.
use Rattle.std.proofs.Common.{◌≡◌, ℕ, zero, suc, ◌+◌, ◌-◌, ◌<◌, ◌≤◌, ◌&&◌, nat_lt, nat_le, true, List, [], ◌∷◌, ◌++◌, Ok, refl, sym, ap, subst, ◌∙◌, append_assoc, arith}
use Rattle.std.specs.List.{flat_map}
use Rattle.std.proofs.lemmas.Bool.Decides.{nat_tests}
use Rattle.std.proofs.lemmas.List.{append-nil}
use Rattle.vet_base.specs.Script.{Value, run, ◌>>=◌}
use Rattle.vet_base.proofs.Results.{ok_parts}
use Rattle.vet_base.proofs.Runs.{bind_ok, test_ok}
use Rattle.fact_rows.specs.declared.kind.Kind.{Kind}
use Rattle.fact_rows.specs.declared.kind.Kind.TheVariants as kind
use Rattle.fact_rows.specs.declared.row.Row.{Row}
use Rattle.fact_rows.specs.declared.row.Row.TheVariants as row
use Rattle.fact_rows.specs.Kinds.{number_of}
use Rattle.fact_rows.specs.Parts.{parts_of}
use Rattle.cert_rows.specs.declared.fault.RowFault.TheVariants.{Bad}
use Rattle.cert_rows.specs.declared.sets.Set.{Set}
use Rattle.cert_rows.specs.Fitting.{IsSmall, RowFits}
use Rattle.cert_rows.specs.Laws.{AreBytes, Begins, RowsAreFound}
use Rattle.cert_rows.specs.Reading.{From, byte_from, u4_from, activation_from, node_from}
use Rattle.cert_rows.specs.Parts.{site_from}
use Rattle.cert_rows.specs.Rows.{key_from, exit_from, labelled_from, one, two, three, row_of, kind_at, kind_from, row_from}
use Rattle.cert_rows.specs.Sets.{is_paths, is_cells}
use Rattle.cert_rows.specs.Spelling.{u4_bytes, node_bytes, activation_bytes, site_bytes, path_bytes, use_bytes, field_bytes, row_bytes}
use Rattle.cert_rows.proofs.PartsFound.{Finds, byte, u4, node, activation}
use Rattle.cert_rows.proofs.PathsFound.{paths_are, cells_are, site, labelled, keyed, exit, cause, use_of}

module _ (set : Set) where
  -- the bytes are the fields of a row of the kind
  record RowFound (k : Kind) (bytes : List ℕ) (r : Row) (rest : List ℕ) : Type 0 where
    kind_is : (parts_of r).kind ≡ k
    is : bytes ≡ flat_map field_bytes (parts_of r).fields ++ rest
    fits : RowFits set r
    left : AreBytes rest

  moved : (k : Kind) (bytes : List ℕ) (r s : Row) (rest others : List ℕ) → r ≡ s → rest ≡ others → RowFound k bytes r rest → RowFound k bytes s others
  moved k bytes r s rest others same left made =
      let P : Row × List ℕ → Type 0 = λ (q : Row × List ℕ). RowFound k bytes q.0 q.1 in
      subst P (λ i. (same i, left i)) made

  one_behind : (xs zs rest : List ℕ) → zs ≡ xs → xs ++ rest ≡ zs ++ rest
  one_behind xs zs rest e = ap (λ (bs : List ℕ). bs ++ rest) (sym e)

  two_behind : (xs ys zs rest : List ℕ) → zs ≡ ys → xs ++ (ys ++ rest) ≡ (xs ++ zs) ++ rest
  two_behind xs ys zs rest e = rw (e, append_assoc) refl

  three_behind : (xs ys us zs rest : List ℕ) → zs ≡ us → xs ++ (ys ++ (us ++ rest)) ≡ (xs ++ (ys ++ zs)) ++ rest
  three_behind xs ys us zs rest e = rw (e, append_assoc, append_assoc) refl

  one_found : {A : Type 0} {sa : A → List ℕ} {FA : A → Type 0} {ra : List ℕ → From A} → Finds sa FA ra → (k : Kind) (make : A → Row)
      → ((a : A) (rest : List ℕ) → FA a → AreBytes rest → RowFound k (sa a ++ rest) (make a) rest)
      → (bytes : List ℕ) (r : Row) (rest : List ℕ) → AreBytes bytes → run (one ra make bytes) ≡ Ok (r, rest) → RowFound k bytes r rest
  one_found {ra = ra} fa k make whole bytes r rest h e =
      let a = bind_ok (ra bytes) (λ x. Value (make x.0, x.1)) (r, rest) e in
      let ha = fa.found bytes a.0.0 a.0.1 h a.1 in
      let s = ok_parts (make a.0.0) r a.0.1 rest (Ok (make a.0.0, a.0.1)) refl a.2 in
      let made = whole a.0.0 a.0.1 ha.fits ha.left in
      moved k bytes (make a.0.0) r a.0.1 rest s.0 s.1 (subst (λ (bs : List ℕ). RowFound k bs (make a.0.0) a.0.1) (sym ha.is) made)

  two_found : {A B : Type 0} {sa : A → List ℕ} {FA : A → Type 0} {ra : List ℕ → From A} {sb : B → List ℕ} {FB : B → Type 0} {rb : List ℕ → From B}
      → Finds sa FA ra → Finds sb FB rb → (k : Kind) (make : A → B → Row)
      → ((a : A) (b : B) (rest : List ℕ) → FA a → FB b → AreBytes rest → RowFound k (sa a ++ (sb b ++ rest)) (make a b) rest)
      → (bytes : List ℕ) (r : Row) (rest : List ℕ) → AreBytes bytes → run (two ra rb make bytes) ≡ Ok (r, rest) → RowFound k bytes r rest
  two_found {sa = sa} {ra = ra} {rb = rb} fa fb k make whole bytes r rest h e =
      let a = bind_ok (ra bytes) (λ x. rb x.1 >>= λ y. Value (make x.0 y.0, y.1)) (r, rest) e in
      let ha = fa.found bytes a.0.0 a.0.1 h a.1 in
      let b = bind_ok (rb a.0.1) (λ y. Value (make a.0.0 y.0, y.1)) (r, rest) a.2 in
      let hb = fb.found a.0.1 b.0.0 b.0.1 ha.left b.1 in
      let s = ok_parts (make a.0.0 b.0.0) r b.0.1 rest (Ok (make a.0.0 b.0.0, b.0.1)) refl b.2 in
      let made = whole a.0.0 b.0.0 b.0.1 ha.fits hb.fits hb.left in
      let is = ha.is ∙ ap (λ (bs : List ℕ). sa a.0.0 ++ bs) hb.is in
      moved k bytes (make a.0.0 b.0.0) r b.0.1 rest s.0 s.1 (subst (λ (bs : List ℕ). RowFound k bs (make a.0.0 b.0.0) b.0.1) (sym is) made)

  three_found : {A B C : Type 0} {sa : A → List ℕ} {FA : A → Type 0} {ra : List ℕ → From A} {sb : B → List ℕ} {FB : B → Type 0} {rb : List ℕ → From B}
      → {sc : C → List ℕ} {FC : C → Type 0} {rc : List ℕ → From C}
      → Finds sa FA ra → Finds sb FB rb → Finds sc FC rc → (k : Kind) (make : A → B → C → Row)
      → ((a : A) (b : B) (c : C) (rest : List ℕ) → FA a → FB b → FC c → AreBytes rest → RowFound k (sa a ++ (sb b ++ (sc c ++ rest))) (make a b c) rest)
      → (bytes : List ℕ) (r : Row) (rest : List ℕ) → AreBytes bytes → run (three ra rb rc make bytes) ≡ Ok (r, rest) → RowFound k bytes r rest
  three_found {sa = sa} {ra = ra} {sb = sb} {rb = rb} {rc = rc} fa fb fc k make whole bytes r rest h e =
      let a = bind_ok (ra bytes) (λ x. rb x.1 >>= λ y. rc y.1 >>= λ z. Value (make x.0 y.0 z.0, z.1)) (r, rest) e in
      let ha = fa.found bytes a.0.0 a.0.1 h a.1 in
      let b = bind_ok (rb a.0.1) (λ y. rc y.1 >>= λ z. Value (make a.0.0 y.0 z.0, z.1)) (r, rest) a.2 in
      let hb = fb.found a.0.1 b.0.0 b.0.1 ha.left b.1 in
      let c = bind_ok (rc b.0.1) (λ z. Value (make a.0.0 b.0.0 z.0, z.1)) (r, rest) b.2 in
      let hc = fc.found b.0.1 c.0.0 c.0.1 hb.left c.1 in
      let s = ok_parts (make a.0.0 b.0.0 c.0.0) r c.0.1 rest (Ok (make a.0.0 b.0.0 c.0.0, c.0.1)) refl c.2 in
      let made = whole a.0.0 b.0.0 c.0.0 c.0.1 ha.fits hb.fits hc.fits hc.left in
      let is = ha.is ∙ ap (λ (bs : List ℕ). sa a.0.0 ++ bs) (hb.is ∙ ap (λ (bs : List ℕ). sb b.0.0 ++ bs) hc.is) in
      moved k bytes (make a.0.0 b.0.0 c.0.0) r c.0.1 rest s.0 s.1 (subst (λ (bs : List ℕ). RowFound k bs (make a.0.0 b.0.0 c.0.0) c.0.1) (sym is) made)

  row_of_found : (k : Kind) (bytes : List ℕ) (r : Row) (rest : List ℕ) → AreBytes bytes → run (row_of set k bytes) ≡ Ok (r, rest) → RowFound k bytes r rest
  unfolding row_of field_bytes
  row_of_found kind.Reached bytes r rest h e =
      one_found node kind.Reached row.Reached
      (λ n rest hn left. record { kind_is = refl; is = one_behind (node_bytes n) _ rest (append-nil (node_bytes n)); fits = (hn, tt); left = left }) bytes r rest h e
  row_of_found kind.Points bytes r rest h e =
      three_found node u4 (site set) kind.Points row.Points
      (λ n r s rest hn hr hs left. record { kind_is = refl; is = three_behind (node_bytes n) (u4_bytes r) (site_bytes s) _ rest (append-nil (site_bytes s)); fits = (hn, (hr, (hs, tt))); left = left }) bytes r rest h e
  row_of_found kind.Taint bytes r rest h e =
      let guard = test_ok (is_paths set) Bad (three node_from u4_from labelled_from (λ n r t. row.Taint n r t.0 t.1) bytes) (r, rest) e in
      three_found node u4 labelled kind.Taint (λ n r t. row.Taint n r t.0 t.1)
      (λ n r t rest hn hr ht left. record { kind_is = refl; is = three_behind (node_bytes n) (u4_bytes r) (path_bytes t.0 ++ t.1 ∷ []) _ rest refl; fits = (hn, (hr, ((paths_are set guard.0, ht.0), (ht.1, tt)))); left = left }) bytes r rest h guard.1
  row_of_found kind.Cell bytes r rest h e =
      three_found (site set) keyed (site set) kind.Cell row.Cell
      (λ s k t rest hs hk ht left. record { kind_is = refl; is = three_behind (site_bytes s) (u4_bytes k.0) (site_bytes t) _ rest (append-nil (site_bytes t)); fits = (hs, (hk, (ht, tt))); left = left }) bytes r rest h e
  row_of_found kind.Back bytes r rest h e =
      three_found (site set) keyed (site set) kind.Back row.Back
      (λ t k s rest ht hk hs left. record { kind_is = refl; is = three_behind (site_bytes t) (u4_bytes k.0) (site_bytes s) _ rest (append-nil (site_bytes s)); fits = (ht, (hk, (hs, tt))); left = left }) bytes r rest h e
  row_of_found kind.StaticPoints bytes r rest h e =
      two_found u4 (site set) kind.StaticPoints row.StaticPoints
      (λ g s rest hg hs left. record { kind_is = refl; is = two_behind (u4_bytes g) (site_bytes s) _ rest (append-nil (site_bytes s)); fits = (hg, (hs, tt)); left = left }) bytes r rest h e
  row_of_found kind.StaticTaint bytes r rest h e =
      let guard = test_ok (is_paths set) Bad (two u4_from labelled_from (λ g t. row.StaticTaint g t.0 t.1) bytes) (r, rest) e in
      two_found u4 labelled kind.StaticTaint (λ g t. row.StaticTaint g t.0 t.1)
      (λ g t rest hg ht left. record { kind_is = refl; is = two_behind (u4_bytes g) (path_bytes t.0 ++ t.1 ∷ []) _ rest refl; fits = (hg, ((paths_are set guard.0, ht.0), (ht.1, tt))); left = left }) bytes r rest h guard.1
  row_of_found kind.Calls bytes r rest h e =
      two_found node activation kind.Calls row.Calls
      (λ n b rest hn hb left. record { kind_is = refl; is = two_behind (node_bytes n) (activation_bytes b) _ rest (append-nil (activation_bytes b)); fits = (hn, (hb, tt)); left = left }) bytes r rest h e
  row_of_found kind.CalledBy bytes r rest h e =
      two_found activation node kind.CalledBy row.CalledBy
      (λ b n rest hb hn left. record { kind_is = refl; is = two_behind (activation_bytes b) (node_bytes n) _ rest (append-nil (node_bytes n)); fits = (hb, (hn, tt)); left = left }) bytes r rest h e
  row_of_found kind.Effect bytes r rest h e =
      let guard = test_ok (is_paths set) Bad (three node_from (site_from set) labelled_from (λ n s t. row.Effect n s t.0 t.1) bytes) (r, rest) e in
      three_found node (site set) labelled kind.Effect (λ n s t. row.Effect n s t.0 t.1)
      (λ n s t rest hn hs ht left. record { kind_is = refl; is = three_behind (node_bytes n) (site_bytes s) (path_bytes t.0 ++ t.1 ∷ []) _ rest refl; fits = (hn, (hs, ((paths_are set guard.0, ht.0), (ht.1, tt)))); left = left }) bytes r rest h guard.1
  row_of_found kind.MethodEffect bytes r rest h e =
      let guard = test_ok (is_paths set) Bad (three activation_from (site_from set) labelled_from (λ a s t. row.MethodEffect a s t.0 t.1) bytes) (r, rest) e in
      three_found activation (site set) labelled kind.MethodEffect (λ a s t. row.MethodEffect a s t.0 t.1)
      (λ a s t rest ha hs ht left. record { kind_is = refl; is = three_behind (activation_bytes a) (site_bytes s) (path_bytes t.0 ++ t.1 ∷ []) _ rest refl; fits = (ha, (hs, ((paths_are set guard.0, ht.0), (ht.1, tt)))); left = left }) bytes r rest h guard.1
  row_of_found kind.ExitPoints bytes r rest h e =
      three_found activation exit (site set) kind.ExitPoints row.ExitPoints
      (λ a how s rest ha hhow hs left. record { kind_is = refl; is = three_behind (activation_bytes a) (how ∷ []) (site_bytes s) _ rest (append-nil (site_bytes s)); fits = (ha, (hhow, (hs, tt))); left = left }) bytes r rest h e
  row_of_found kind.ExitTaint bytes r rest h e =
      let guard = test_ok (is_paths set) Bad (three activation_from exit_from labelled_from (λ a how t. row.ExitTaint a how t.0 t.1) bytes) (r, rest) e in
      three_found activation exit labelled kind.ExitTaint (λ a how t. row.ExitTaint a how t.0 t.1)
      (λ a how t rest ha hhow ht left. record { kind_is = refl; is = three_behind (activation_bytes a) (how ∷ []) (path_bytes t.0 ++ t.1 ∷ []) _ rest refl; fits = (ha, (hhow, ((paths_are set guard.0, ht.0), (ht.1, tt)))); left = left }) bytes r rest h guard.1
  row_of_found kind.Live bytes r rest h e =
      two_found u4 byte kind.Live row.Live
      (λ c state rest hc hstate left. record { kind_is = refl; is = two_behind (u4_bytes c) (state ∷ []) _ rest refl; fits = (hc, (hstate, tt)); left = left }) bytes r rest h e
  row_of_found kind.CompTaint bytes r rest h e =
      let guard = test_ok (is_paths set) Bad (three u4_from byte_from labelled_from (λ c state t. row.CompTaint c state t.0 t.1) bytes) (r, rest) e in
      three_found u4 byte labelled kind.CompTaint (λ c state t. row.CompTaint c state t.0 t.1)
      (λ c state t rest hc hstate ht left. record { kind_is = refl; is = three_behind (u4_bytes c) (state ∷ []) (path_bytes t.0 ++ t.1 ∷ []) _ rest refl; fits = (hc, (hstate, ((paths_are set guard.0, ht.0), (ht.1, tt)))); left = left }) bytes r rest h guard.1
  row_of_found kind.Handed bytes r rest h e =
      one_found (site set) kind.Handed row.Handed
      (λ s rest hs left. record { kind_is = refl; is = one_behind (site_bytes s) _ rest (append-nil (site_bytes s)); fits = (hs, tt); left = left }) bytes r rest h e
  row_of_found kind.HandedTaint bytes r rest h e =
      let guard = test_ok (is_paths set) Bad (two (site_from set) labelled_from (λ s t. row.HandedTaint s t.0 t.1) bytes) (r, rest) e in
      two_found (site set) labelled kind.HandedTaint (λ s t. row.HandedTaint s t.0 t.1)
      (λ s t rest hs ht left. record { kind_is = refl; is = two_behind (site_bytes s) (path_bytes t.0 ++ t.1 ∷ []) _ rest refl; fits = (hs, ((paths_are set guard.0, ht.0), (ht.1, tt))); left = left }) bytes r rest h guard.1
  row_of_found kind.Arrive bytes r rest h e =
      three_found byte byte node kind.Arrive row.Arrive
      (λ l sink n rest hl hsink hn left. record { kind_is = refl; is = three_behind (l ∷ []) (sink ∷ []) (node_bytes n) _ rest (append-nil (node_bytes n)); fits = (hl, (hsink, (hn, tt))); left = left }) bytes r rest h e
  row_of_found kind.Unknown bytes r rest h e =
      two_found node cause kind.Unknown row.Unknown
      (λ n cause rest hn hcause left. record { kind_is = refl; is = two_behind (node_bytes n) (cause ∷ []) _ rest refl; fits = (hn, (hcause, tt)); left = left }) bytes r rest h e
  row_of_found kind.Uses bytes r rest h e =
      two_found node use_of kind.Uses row.Uses
      (λ n u rest hn hu left. record { kind_is = refl; is = two_behind (node_bytes n) (use_bytes u) _ rest (append-nil (use_bytes u)); fits = (hn, (hu, tt)); left = left }) bytes r rest h e
  row_of_found kind.Label bytes r rest h e =
      let guard = test_ok (is_cells set) Bad (three node_from u4_from byte_from row.Label bytes) (r, rest) e in
      three_found node u4 byte kind.Label row.Label
      (λ n r l rest hn hr hl left. record { kind_is = refl; is = three_behind (node_bytes n) (u4_bytes r) (l ∷ []) _ rest refl; fits = (hn, (hr, ((cells_are set guard.0, hl), tt))); left = left }) bytes r rest h guard.1
  row_of_found kind.StaticLabel bytes r rest h e =
      let guard = test_ok (is_cells set) Bad (two u4_from byte_from row.StaticLabel bytes) (r, rest) e in
      two_found u4 byte kind.StaticLabel row.StaticLabel
      (λ g l rest hg hl left. record { kind_is = refl; is = two_behind (u4_bytes g) (l ∷ []) _ rest refl; fits = (hg, ((cells_are set guard.0, hl), tt)); left = left }) bytes r rest h guard.1
  row_of_found kind.CellLabel bytes r rest h e =
      let guard = test_ok (is_cells set) Bad (three (site_from set) key_from byte_from row.CellLabel bytes) (r, rest) e in
      three_found (site set) keyed byte kind.CellLabel row.CellLabel
      (λ s k l rest hs hk hl left. record { kind_is = refl; is = three_behind (site_bytes s) (u4_bytes k.0) (l ∷ []) _ rest refl; fits = (hs, (hk, ((cells_are set guard.0, hl), tt))); left = left }) bytes r rest h guard.1
  row_of_found kind.Holds bytes r rest h e =
      let guard = test_ok (is_cells set) Bad (two (site_from set) byte_from row.Holds bytes) (r, rest) e in
      two_found (site set) byte kind.Holds row.Holds
      (λ s l rest hs hl left. record { kind_is = refl; is = two_behind (site_bytes s) (l ∷ []) _ rest refl; fits = (hs, ((cells_are set guard.0, hl), tt)); left = left }) bytes r rest h guard.1
  row_of_found kind.ExitLabel bytes r rest h e =
      let guard = test_ok (is_cells set) Bad (three activation_from exit_from byte_from row.ExitLabel bytes) (r, rest) e in
      three_found activation exit byte kind.ExitLabel row.ExitLabel
      (λ a how l rest ha hhow hl left. record { kind_is = refl; is = three_behind (activation_bytes a) (how ∷ []) (l ∷ []) _ rest refl; fits = (ha, (hhow, ((cells_are set guard.0, hl), tt))); left = left }) bytes r rest h guard.1

numbered : (i : ℕ) → i < 25 → number_of (kind_at (i + 1)) ≡ i + 1
unfolding kind_at
numbered zero h = refl
numbered (suc zero) h = refl
numbered (suc (suc zero)) h = refl
numbered (suc (suc (suc zero))) h = refl
numbered (suc (suc (suc (suc zero)))) h = refl
numbered (suc (suc (suc (suc (suc zero))))) h = refl
numbered (suc (suc (suc (suc (suc (suc zero)))))) h = refl
numbered (suc (suc (suc (suc (suc (suc (suc zero))))))) h = refl
numbered (suc (suc (suc (suc (suc (suc (suc (suc zero)))))))) h = refl
numbered (suc (suc (suc (suc (suc (suc (suc (suc (suc zero))))))))) h = refl
numbered (suc (suc (suc (suc (suc (suc (suc (suc (suc (suc zero)))))))))) h = refl
numbered (suc (suc (suc (suc (suc (suc (suc (suc (suc (suc (suc zero))))))))))) h = refl
numbered (suc (suc (suc (suc (suc (suc (suc (suc (suc (suc (suc (suc zero)))))))))))) h = refl
numbered (suc (suc (suc (suc (suc (suc (suc (suc (suc (suc (suc (suc (suc zero))))))))))))) h = refl
numbered (suc (suc (suc (suc (suc (suc (suc (suc (suc (suc (suc (suc (suc (suc zero)))))))))))))) h = refl
numbered (suc (suc (suc (suc (suc (suc (suc (suc (suc (suc (suc (suc (suc (suc (suc zero))))))))))))))) h = refl
numbered (suc (suc (suc (suc (suc (suc (suc (suc (suc (suc (suc (suc (suc (suc (suc (suc zero)))))))))))))))) h = refl
numbered (suc (suc (suc (suc (suc (suc (suc (suc (suc (suc (suc (suc (suc (suc (suc (suc (suc zero))))))))))))))))) h = refl
numbered (suc (suc (suc (suc (suc (suc (suc (suc (suc (suc (suc (suc (suc (suc (suc (suc (suc (suc zero)))))))))))))))))) h = refl
numbered (suc (suc (suc (suc (suc (suc (suc (suc (suc (suc (suc (suc (suc (suc (suc (suc (suc (suc (suc zero))))))))))))))))))) h = refl
numbered (suc (suc (suc (suc (suc (suc (suc (suc (suc (suc (suc (suc (suc (suc (suc (suc (suc (suc (suc (suc zero)))))))))))))))))))) h = refl
numbered (suc (suc (suc (suc (suc (suc (suc (suc (suc (suc (suc (suc (suc (suc (suc (suc (suc (suc (suc (suc (suc zero))))))))))))))))))))) h = refl
numbered (suc (suc (suc (suc (suc (suc (suc (suc (suc (suc (suc (suc (suc (suc (suc (suc (suc (suc (suc (suc (suc (suc zero)))))))))))))))))))))) h = refl
numbered (suc (suc (suc (suc (suc (suc (suc (suc (suc (suc (suc (suc (suc (suc (suc (suc (suc (suc (suc (suc (suc (suc (suc zero))))))))))))))))))))))) h = refl
numbered (suc (suc (suc (suc (suc (suc (suc (suc (suc (suc (suc (suc (suc (suc (suc (suc (suc (suc (suc (suc (suc (suc (suc (suc zero)))))))))))))))))))))))) h = refl
numbered (suc (suc (suc (suc (suc (suc (suc (suc (suc (suc (suc (suc (suc (suc (suc (suc (suc (suc (suc (suc (suc (suc (suc (suc (suc n))))))))))))))))))))))))) h = absurd (omega arith)

kind_number : (n : ℕ) → (nat_lt 0 n && nat_le n 25) ≡ true → number_of (kind_at n) ≡ n
kind_number n h =
    let low : 0 < n = grind (arith, nat_tests) in
    let high : n ≤ 25 = grind (arith, nat_tests) in
    let same : n - 1 + 1 ≡ n = omega arith in
    let below : n - 1 < 25 = omega arith in
    subst (λ (m : ℕ). number_of (kind_at m) ≡ m) same (numbered (n - 1) below)

row_found : (set : Set) (bytes rest : List ℕ) (r : Row) → AreBytes bytes → run (row_from set bytes) ≡ Ok (r, rest) → Begins row_bytes (RowFits set) bytes r rest
unfolding row_from kind_from row_bytes
row_found set [] rest r h e = absurd cc
row_found set (n ∷ more) rest r h e =
    let t = test_ok (nat_lt 0 n && nat_le n 25) Bad (row_of set (kind_at n) more) (r, rest) e in
    let f = row_of_found set (kind_at n) more r rest h.1 t.1 in
    let number : n ≡ number_of (parts_of r).kind = sym (kind_number n t.0) ∙ ap number_of (sym f.kind_is) in
    record { is = λ i. number i ∷ f.is i; fits = f.fits; left = f.left }

number_found : (bytes rest : List ℕ) (n : ℕ) → AreBytes bytes → run (u4_from bytes) ≡ Ok (n, rest) → Begins u4_bytes IsSmall bytes n rest
number_found bytes rest n h e = let f = u4.found bytes n rest h e in record { is = f.is; fits = f.fits.0; left = f.left }

pub rows_found : RowsAreFound
rows_found = record { number = number_found; row = row_found }

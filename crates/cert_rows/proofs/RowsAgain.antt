-- Each row is read as it was written.
use Rattle.std.proofs.Common.{◌≡◌, ℕ, Bool, true, List, ◌++◌, Ok, refl, ap, append_assoc}
use Rattle.std.proofs.lemmas.List.{append-nil}
use Rattle.vet_base.specs.Script.{Test, run}
use Rattle.vet_base.proofs.Scripts.{run_bind}
use Rattle.fact_rows.specs.declared.row.Row.{Row}
use Rattle.fact_rows.specs.declared.row.Row.TheVariants as row
use Rattle.cert_rows.specs.declared.fault.RowFault.TheVariants.{Bad}
use Rattle.cert_rows.specs.declared.sets.Set.{Set}
use Rattle.cert_rows.specs.Fitting.{RowFits}
use Rattle.cert_rows.specs.Reading.{From}
use Rattle.cert_rows.specs.Rows.{one, two, three, row_of, kind_at, kind_from, row_from}
use Rattle.cert_rows.specs.Sets.{is_paths, is_cells}
use Rattle.cert_rows.specs.Spelling.{node_bytes, activation_bytes, site_bytes, use_bytes, field_bytes, row_bytes}
use Rattle.cert_rows.proofs.PartsAgain.{Again, byte, u4, key, node, activation, site, exit, cause, use_of, labelled}

one_row : {A X : Type 0} {sa : A → List ℕ} {FA : A → Type 0} {ra : List ℕ → From A} → Again sa FA ra → (make : A → X) (a : A) (rest zs : List ℕ)
    → zs ≡ sa a → FA a → run (one ra make (zs ++ rest)) ≡ Ok (make a, rest)
one_row ka make a rest zs e ha = rw (e, run_bind, ka.again a rest ha) refl

two_row : {A B X : Type 0} {sa : A → List ℕ} {FA : A → Type 0} {ra : List ℕ → From A} {sb : B → List ℕ} {FB : B → Type 0} {rb : List ℕ → From B}
    → Again sa FA ra → Again sb FB rb → (make : A → B → X) (a : A) (b : B) (rest zs : List ℕ)
    → zs ≡ sb b → FA a → FB b → run (two ra rb make ((sa a ++ zs) ++ rest)) ≡ Ok (make a b, rest)
two_row {sb = sb} ka kb make a b rest zs e ha hb = rw (e, append_assoc, run_bind, ka.again a (sb b ++ rest) ha, run_bind, kb.again b rest hb) refl

three_row : {A B C X : Type 0} {sa : A → List ℕ} {FA : A → Type 0} {ra : List ℕ → From A} {sb : B → List ℕ} {FB : B → Type 0} {rb : List ℕ → From B}
    → {sc : C → List ℕ} {FC : C → Type 0} {rc : List ℕ → From C}
    → Again sa FA ra → Again sb FB rb → Again sc FC rc → (make : A → B → C → X) (a : A) (b : B) (c : C) (rest zs : List ℕ)
    → zs ≡ sc c → FA a → FB b → FC c → run (three ra rb rc make ((sa a ++ (sb b ++ zs)) ++ rest)) ≡ Ok (make a b c, rest)
three_row {sb = sb} {sc = sc} ka kb kc make a b c rest zs e ha hb hc =
    rw (e, append_assoc, append_assoc, run_bind, ka.again a (sb b ++ (sc c ++ rest)) ha, run_bind, kb.again b (sc c ++ rest) hb, run_bind, kc.again c rest hc) refl

-- likewise where a test stands before the fields
two_tested : {A B X : Type 0} {sa : A → List ℕ} {FA : A → Type 0} {ra : List ℕ → From A} {sb : B → List ℕ} {FB : B → Type 0} {rb : List ℕ → From B}
    → (holds : Bool) → holds ≡ true → Again sa FA ra → Again sb FB rb → (make : A → B → X) (a : A) (b : B) (rest zs : List ℕ)
    → zs ≡ sb b → FA a → FB b → run (Test holds Bad (two ra rb make ((sa a ++ zs) ++ rest))) ≡ Ok (make a b, rest)
two_tested holds is ka kb make a b rest zs e ha hb = rw is (two_row ka kb make a b rest zs e ha hb)

three_tested : {A B C X : Type 0} {sa : A → List ℕ} {FA : A → Type 0} {ra : List ℕ → From A} {sb : B → List ℕ} {FB : B → Type 0} {rb : List ℕ → From B}
    → {sc : C → List ℕ} {FC : C → Type 0} {rc : List ℕ → From C}
    → (holds : Bool) → holds ≡ true → Again sa FA ra → Again sb FB rb → Again sc FC rc → (make : A → B → C → X) (a : A) (b : B) (c : C) (rest zs : List ℕ)
    → zs ≡ sc c → FA a → FB b → FC c → run (Test holds Bad (three ra rb rc make ((sa a ++ (sb b ++ zs)) ++ rest))) ≡ Ok (make a b c, rest)
three_tested holds is ka kb kc make a b c rest zs e ha hb hc = rw is (three_row ka kb kc make a b c rest zs e ha hb hc)

pub row_again : (set : Set) (r : Row) (rest : List ℕ) → RowFits set r → run (row_from set (row_bytes r ++ rest)) ≡ Ok (r, rest)
unfolding row_bytes field_bytes row_from kind_from kind_at row_of
row_again set (row.Reached n) rest h = one_row node row.Reached n rest _ (append-nil (node_bytes n)) h.0
row_again set (row.Points n r s) rest h = three_row node u4 (site set) row.Points n r s rest _ (append-nil (site_bytes s)) h.0 h.1.0 h.1.1.0
row_again set (row.Taint n r p lab) rest h = three_tested (is_paths set) (ap is_paths h.1.1.0.0) node u4 labelled (λ n r t. row.Taint n r t.0 t.1) n r (p, lab) rest _ refl h.0 h.1.0 (h.1.1.0.1, h.1.1.1.0)
row_again set (row.Cell s k t) rest h = three_row (site set) key (site set) row.Cell s k t rest _ (append-nil (site_bytes t)) h.0 h.1.0 h.1.1.0
row_again set (row.Back t k s) rest h = three_row (site set) key (site set) row.Back t k s rest _ (append-nil (site_bytes s)) h.0 h.1.0 h.1.1.0
row_again set (row.StaticPoints g s) rest h = two_row u4 (site set) row.StaticPoints g s rest _ (append-nil (site_bytes s)) h.0 h.1.0
row_again set (row.StaticTaint g p lab) rest h = two_tested (is_paths set) (ap is_paths h.1.0.0) u4 labelled (λ g t. row.StaticTaint g t.0 t.1) g (p, lab) rest _ refl h.0 (h.1.0.1, h.1.1.0)
row_again set (row.Calls n b) rest h = two_row node activation row.Calls n b rest _ (append-nil (activation_bytes b)) h.0 h.1.0
row_again set (row.CalledBy b n) rest h = two_row activation node row.CalledBy b n rest _ (append-nil (node_bytes n)) h.0 h.1.0
row_again set (row.Effect n s p lab) rest h = three_tested (is_paths set) (ap is_paths h.1.1.0.0) node (site set) labelled (λ n s t. row.Effect n s t.0 t.1) n s (p, lab) rest _ refl h.0 h.1.0 (h.1.1.0.1, h.1.1.1.0)
row_again set (row.MethodEffect a s p lab) rest h = three_tested (is_paths set) (ap is_paths h.1.1.0.0) activation (site set) labelled (λ a s t. row.MethodEffect a s t.0 t.1) a s (p, lab) rest _ refl h.0 h.1.0 (h.1.1.0.1, h.1.1.1.0)
row_again set (row.ExitPoints a how s) rest h = three_row activation exit (site set) row.ExitPoints a how s rest _ (append-nil (site_bytes s)) h.0 h.1.0 h.1.1.0
row_again set (row.ExitTaint a how p lab) rest h = three_tested (is_paths set) (ap is_paths h.1.1.0.0) activation exit labelled (λ a how t. row.ExitTaint a how t.0 t.1) a how (p, lab) rest _ refl h.0 h.1.0 (h.1.1.0.1, h.1.1.1.0)
row_again set (row.Live c state) rest h = two_row u4 byte row.Live c state rest _ refl h.0 h.1.0
row_again set (row.CompTaint c state p lab) rest h = three_tested (is_paths set) (ap is_paths h.1.1.0.0) u4 byte labelled (λ c state t. row.CompTaint c state t.0 t.1) c state (p, lab) rest _ refl h.0 h.1.0 (h.1.1.0.1, h.1.1.1.0)
row_again set (row.Handed s) rest h = one_row (site set) row.Handed s rest _ (append-nil (site_bytes s)) h.0
row_again set (row.HandedTaint s p lab) rest h = two_tested (is_paths set) (ap is_paths h.1.0.0) (site set) labelled (λ s t. row.HandedTaint s t.0 t.1) s (p, lab) rest _ refl h.0 (h.1.0.1, h.1.1.0)
row_again set (row.Arrive l sink n) rest h = three_row byte byte node row.Arrive l sink n rest _ (append-nil (node_bytes n)) h.0 h.1.0 h.1.1.0
row_again set (row.Unknown n why) rest h = two_row node cause row.Unknown n why rest _ refl h.0 h.1.0
row_again set (row.Uses n u) rest h = two_row node use_of row.Uses n u rest _ (append-nil (use_bytes u)) h.0 h.1.0
row_again set (row.Label n r lab) rest h = three_tested (is_cells set) (ap is_cells h.1.1.0.0) node u4 byte row.Label n r lab rest _ refl h.0 h.1.0 h.1.1.0.1
row_again set (row.StaticLabel g lab) rest h = two_tested (is_cells set) (ap is_cells h.1.0.0) u4 byte row.StaticLabel g lab rest _ refl h.0 h.1.0.1
row_again set (row.CellLabel s k lab) rest h = three_tested (is_cells set) (ap is_cells h.1.1.0.0) (site set) key byte row.CellLabel s k lab rest _ refl h.0 h.1.0 h.1.1.0.1
row_again set (row.Holds s lab) rest h = two_tested (is_cells set) (ap is_cells h.1.0.0) (site set) byte row.Holds s lab rest _ refl h.0 h.1.0.1
row_again set (row.ExitLabel a how lab) rest h = three_tested (is_cells set) (ap is_cells h.1.1.0.0) activation exit byte row.ExitLabel a how lab rest _ refl h.0 h.1.0 h.1.1.0.1

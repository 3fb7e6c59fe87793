-- Each part of a row, and a row, is read by a reader that says the same whatever follows.
use Rattle.std.proofs.Common.{◌≡◌, ◌<◌, ℕ, zero, suc, Ok, ◌==◌, ◌&&◌, ◌%◌, Bool, true, false, nat_lt, nat_le, List, [], ◌∷◌, refl, ap, ◌∙◌, lit<}
use Rattle.std.specs.Prelude.{if◌then◌else◌}
use Rattle.vet_base.specs.Script.{Script, Value, Test, run, ◌>>=◌}
use Rattle.access_path.specs.declared.path.Path.{Path}
use Rattle.access_path.specs.declared.keys.TheConstants.{MOST_KEYS}
use Rattle.access_path.specs.Paths.{cut}
use Rattle.app_machine.specs.declared.lists.SummaryId.TheVariants as uses
use Rattle.fact_rows.specs.declared.context.Ctx.TheVariants as ctx
use Rattle.fact_rows.specs.declared.kind.Kind.{Kind}
use Rattle.fact_rows.specs.declared.kind.Kind.TheVariants as kind
use Rattle.fact_rows.specs.declared.row.Row.{Row}
use Rattle.fact_rows.specs.declared.row.Row.TheVariants as row
use Rattle.fact_rows.specs.declared.site.Site.TheVariants.{At, Param, Component, Shared, Made}
use Rattle.cert_rows.specs.declared.fault.RowFault.{RowFault}
use Rattle.cert_rows.specs.declared.fault.RowFault.TheVariants.{Bad}
use Rattle.cert_rows.specs.declared.sets.Set.{Set}
use Rattle.cert_rows.specs.Sets.{is_paths, is_cells}
use Rattle.cert_rows.specs.Parts.{key, bare, param_from, made_from, site_of, site_from, keys_from, path_from}
use Rattle.cert_rows.specs.Reading.{From, with, byte_from, u4_from, zero_byte_from, zero_from, two_from, lone_from, call2_from, ctx_of, ctx_from, activation_from, node_from}
use Rattle.cert_rows.specs.Rows.{key_from, exit_from, cause_from, use_of_kind, use_from, labelled_from, one, two, three, row_of, kind_at, kind_from, row_from}
use Rattle.cert_faults.proofs.Steady.{Completed, Steady, Reader, then_from, value_reader, steady_bad, steady_test, steady_if, reader_then, reader_byte, reader_same, byte, u4}

assoc : {F A B C : Type 0} (m : Script F A) (f : A → Script F B) (g : B → Script F C) → ((m >>= f) >>= g) ≡ (m >>= λ x. f x >>= g)
assoc (Value x) f g = refl
assoc (Test holds fault rest) f g = ap (λ (s : Script _ _). Test holds fault s) (assoc rest f g)

-- something, made into something else
with_reader : {A B : Type 0} (make : A → B) (read : List ℕ → From A) → Reader read → Reader (λ bytes. with make (read bytes))
with_reader make read r = reader_then read (λ x bytes. Value (make x, bytes)) r (λ x. value_reader (make x))

two_reader : Reader two_from
unfolding two_from
two_reader = reader_then u4_from (λ a. then_from u4_from (λ b bytes. Value ((a, b), bytes))) u4 (λ a.
    reader_then u4_from (λ b bytes. Value ((a, b), bytes)) u4 (λ b. value_reader (a, b)))

-- a byte that is 0, and then something
abbrev if_zero : {A : Type 0} → (List ℕ → From A) → ℕ → List ℕ → From A
if_zero g n bytes = Test (n == 0) Bad (g bytes)

zero_same : {A : Type 0} (g : List ℕ → From A) (bytes : List ℕ) → run (zero_byte_from bytes >>= g) ≡ run (then_from byte_from (if_zero g) bytes)
unfolding zero_byte_from
zero_same g [] = refl
zero_same g (n ∷ bytes) = refl

zero_then : {A : Type 0} (g : List ℕ → From A) → Reader g → Reader (λ bytes. zero_byte_from bytes >>= g)
zero_then g r =
    reader_same (λ bytes. zero_byte_from bytes >>= g) (then_from byte_from (if_zero g)) (zero_same g)
    (reader_byte (if_zero g) (let c = r.sample in record { more = 0 ∷ c.more; are = (lit< tt, c.are); value = c.value; whole = c.whole }) (λ n. steady_test (n == 0) g r.steady))

abbrev behind_two : List ℕ → Script RowFault (List ℕ)
behind_two two = zero_byte_from two >>= λ three. zero_byte_from three

abbrev behind_one : List ℕ → Script RowFault (List ℕ)
behind_one one = zero_byte_from one >>= behind_two

zeros_are : {A : Type 0} (g : List ℕ → From A) (bytes : List ℕ)
    → run (zero_from bytes >>= g) ≡ run (zero_byte_from bytes >>= λ one. zero_byte_from one >>= λ two. zero_byte_from two >>= λ three. zero_byte_from three >>= g)
unfolding zero_from
zeros_are g bytes = ap run (assoc (zero_byte_from bytes) behind_one g ∙ (λ i. zero_byte_from bytes >>= λ one. middle one i))
  where
    inner : (two : List ℕ) → (behind_two two >>= g) ≡ (zero_byte_from two >>= λ three. zero_byte_from three >>= g)
    inner two = assoc (zero_byte_from two) zero_byte_from g

    middle : (one : List ℕ) → (behind_one one >>= g) ≡ (zero_byte_from one >>= λ two. zero_byte_from two >>= λ three. zero_byte_from three >>= g)
    middle one = assoc (zero_byte_from one) behind_two g ∙ (λ i. zero_byte_from one >>= λ two. inner two i)

zeros_then : {A : Type 0} (g : List ℕ → From A) → Reader g → Reader (λ bytes. zero_from bytes >>= g)
zeros_then g r =
    reader_same (λ bytes. zero_from bytes >>= g) (λ bytes. zero_byte_from bytes >>= λ one. zero_byte_from one >>= λ two. zero_byte_from two >>= λ three. zero_byte_from three >>= g) (zeros_are g)
    (zero_then (λ one. zero_byte_from one >>= λ two. zero_byte_from two >>= λ three. zero_byte_from three >>= g)
    (zero_then (λ two. zero_byte_from two >>= λ three. zero_byte_from three >>= g)
    (zero_then (λ three. zero_byte_from three >>= g) (zero_then g r))))

lone_reader : Reader lone_from
unfolding lone_from
lone_reader = reader_then u4_from (λ a bytes. zero_from bytes >>= λ rest. Value (a, rest)) u4 (λ a. zeros_then (λ rest. Value (a, rest)) (value_reader a))

call2_reader : Reader call2_from
unfolding call2_from
call2_reader = reader_then two_from (λ a. then_from two_from (λ b bytes. Value (ctx.Call2 a.0 a.1 b.0 b.1, bytes))) two_reader (λ a.
    reader_then two_from (λ b bytes. Value (ctx.Call2 a.0 a.1 b.0 b.1, bytes)) two_reader (λ b. value_reader (ctx.Call2 a.0 a.1 b.0 b.1)))

ctx_steady : (k : ℕ) → Steady (ctx_of k)
unfolding ctx_of
ctx_steady k =
    steady_if (k == 0) _ _ (with_reader (λ (p : ℕ × ℕ). ctx.Row p.0 p.1) two_from two_reader).steady
    (steady_if (k == 1) _ _ (with_reader (λ (p : ℕ × ℕ). ctx.Callback p.0 p.1) two_from two_reader).steady
    (steady_if (k == 2) _ _ (with_reader (λ (p : ℕ × ℕ). ctx.Click p.0 p.1) two_from two_reader).steady
    (steady_if (k == 3) _ _ (with_reader ctx.Handed lone_from lone_reader).steady
    (steady_if (k == 4) _ _ (with_reader ctx.Init lone_from lone_reader).steady
    (steady_if (k == 5) _ _ (with_reader (λ (p : ℕ × ℕ). ctx.Call p.0 p.1) two_from two_reader).steady
    (steady_if (k == 6) _ _ call2_reader.steady (steady_bad (ctx.Init 0, []))))))))

no_row_ctx : Completed (then_from byte_from ctx_of) []
unfolding ctx_of two_from
no_row_ctx = record {
  more = 0 ∷ 0 ∷ 0 ∷ 0 ∷ 0 ∷ 0 ∷ 0 ∷ 0 ∷ 0 ∷ [];
  are = (lit< tt, (lit< tt, (lit< tt, (lit< tt, (lit< tt, (lit< tt, (lit< tt, (lit< tt, (lit< tt, tt)))))))));
  value = ctx.Row 0 0;
  whole = refl;
}

ctx_reader : Reader ctx_from
unfolding ctx_from
ctx_reader = reader_byte ctx_of no_row_ctx ctx_steady

activation_reader : Reader activation_from
unfolding activation_from
activation_reader = reader_then ctx_from (λ c. then_from u4_from (λ m bytes. Value (record { ctx = c; method = m }, bytes))) ctx_reader (λ c.
    reader_then u4_from (λ m bytes. Value (record { ctx = c; method = m }, bytes)) u4 (λ m. value_reader (record { ctx = c; method = m })))

node_reader : Reader node_from
unfolding node_from
node_reader = reader_then activation_from (λ a. then_from u4_from (λ pc bytes. Value (record { by = a; pc = pc }, bytes))) activation_reader (λ a.
    reader_then u4_from (λ pc bytes. Value (record { by = a; pc = pc }, bytes)) u4 (λ pc. value_reader (record { by = a; pc = pc })))

param_reader : Reader param_from
unfolding param_from
param_reader = reader_then ctx_from (λ c. then_from u4_from (λ i bytes. Value (Param c i, bytes))) ctx_reader (λ c.
    reader_then u4_from (λ i bytes. Value (Param c i, bytes)) u4 (λ i. value_reader (Param c i)))

made_steady : (set : Set) → Steady (made_from set)
unfolding made_from
made_steady set = steady_test (is_cells set) (λ bytes. with (λ (p : ℕ × ℕ). Made p.0 p.1) (two_from bytes)) (with_reader (λ (p : ℕ × ℕ). Made p.0 p.1) two_from two_reader).steady

site_steady : (set : Set) (k : ℕ) → Steady (site_of set k)
unfolding site_of
site_steady set k =
    steady_if (k == 0) _ _ (with_reader At node_from node_reader).steady
    (steady_if (k == 1) _ _ param_reader.steady
    (steady_if (k == 2) _ _ (with_reader Component u4_from u4).steady
    (steady_if (k == 3) _ _ (with_reader Shared u4_from u4).steady
    (steady_if (k == 4) _ _ (made_steady set) (steady_bad (Component 0, []))))))

first_component : (set : Set) → Completed (then_from byte_from (site_of set)) []
unfolding site_of
first_component set = record { more = 2 ∷ 0 ∷ 0 ∷ 0 ∷ 0 ∷ []; are = (lit< tt, (lit< tt, (lit< tt, (lit< tt, (lit< tt, tt))))); value = Component 0; whole = refl }

site_reader : (set : Set) → Reader (site_from set)
unfolding site_from
site_reader set = reader_byte (site_of set) (first_component set) (site_steady set)

keys_reader : (is_open : Bool) (count : ℕ) → Reader (keys_from is_open count)
unfolding keys_from
keys_reader is_open zero = value_reader (bare is_open)
keys_reader is_open (suc count) = reader_then u4_from (λ k. then_from (keys_from is_open count) (λ p bytes. Value (cut (key k) p, bytes))) u4 (λ k.
    reader_then (keys_from is_open count) (λ p bytes. Value (cut (key k) p, bytes)) (keys_reader is_open count) (λ p. value_reader (cut (key k) p)))

abbrev keys_behind : ℕ → List ℕ → From Path
keys_behind n bytes = Test (nat_le (n % 128) MOST_KEYS) Bad (keys_from (nat_le 128 n) (n % 128) bytes)

no_keys : Completed (then_from byte_from keys_behind) []
unfolding keys_from
no_keys = record { more = 0 ∷ []; are = (lit< tt, tt); value = bare false; whole = refl }

path_reader : Reader path_from
unfolding path_from
path_reader = reader_byte keys_behind no_keys (λ n. steady_test (nat_le (n % 128) MOST_KEYS) (keys_from (nat_le 128 n) (n % 128)) (keys_reader (nat_le 128 n) (n % 128)).steady)

key_reader : Reader key_from
key_reader = with_reader key u4_from u4

-- a byte that a test allows
tested : (allowed : ℕ → Bool) (sample : ℕ) → sample < 256 → allowed sample ≡ true → Reader (then_from byte_from (λ n bytes. Test (allowed n) Bad (Value (n, bytes))))
tested allowed sample small is =
    reader_byte (λ n bytes. Test (allowed n) Bad (Value (n, bytes)))
    (record { more = sample ∷ []; are = (small, tt); value = sample; whole = holds (allowed sample) is })
    (λ n. steady_test (allowed n) (λ bytes. Value (n, bytes)) (value_reader n).steady)
  where
    holds : (b : Bool) → b ≡ true → run {A = ℕ × List ℕ} (Test b Bad (Value (sample, []))) ≡ Ok (sample, [])
    holds true e = refl
    holds false e = absurd cc

exit_reader : Reader exit_from
unfolding exit_from
exit_reader = tested (λ n. nat_lt n 2) 0 (lit< tt) refl

cause_reader : Reader cause_from
unfolding cause_from
cause_reader = tested (λ n. nat_lt 0 n && nat_lt n 4) 1 (lit< tt) refl

use_steady : (k : ℕ) → Steady (use_of_kind k)
unfolding use_of_kind
use_steady k =
    steady_if (k == 0) _ _ (with_reader uses.Row u4_from u4).steady
    (steady_if (k == 1) _ _ (with_reader uses.Fallback u4_from u4).steady (steady_bad (uses.Row 0, [])))

first_use : Completed (then_from byte_from use_of_kind) []
unfolding use_of_kind
first_use = record { more = 0 ∷ 0 ∷ 0 ∷ 0 ∷ 0 ∷ []; are = (lit< tt, (lit< tt, (lit< tt, (lit< tt, (lit< tt, tt))))); value = uses.Row 0; whole = refl }

use_reader : Reader use_from
unfolding use_from
use_reader = reader_byte use_of_kind first_use use_steady

labelled_reader : Reader labelled_from
unfolding labelled_from
labelled_reader = reader_then path_from (λ p. then_from byte_from (λ l bytes. Value ((p, l), bytes))) path_reader (λ p.
    reader_then byte_from (λ l bytes. Value ((p, l), bytes)) byte (λ l. value_reader (p, l)))

one_steady : {A X : Type 0} (a : List ℕ → From A) (make : A → X) → Reader a → Steady (one a make)
one_steady a make ra = (reader_then a (λ x bytes. Value (make x, bytes)) ra (λ x. value_reader (make x))).steady

two_steady : {A B X : Type 0} (a : List ℕ → From A) (b : List ℕ → From B) (make : A → B → X) → Reader a → Reader b → Steady (two a b make)
two_steady a b make ra rb =
    (reader_then a (λ x. then_from b (λ y bytes. Value (make x y, bytes))) ra (λ x.
    reader_then b (λ y bytes. Value (make x y, bytes)) rb (λ y. value_reader (make x y)))).steady

three_steady : {A B C X : Type 0} (a : List ℕ → From A) (b : List ℕ → From B) (c : List ℕ → From C) (make : A → B → C → X) → Reader a → Reader b → Reader c → Steady (three a b c make)
three_steady a b c make ra rb rc =
    (reader_then a (λ x. then_from b (λ y. then_from c (λ z bytes. Value (make x y z, bytes)))) ra (λ x.
    reader_then b (λ y. then_from c (λ z bytes. Value (make x y z, bytes))) rb (λ y.
    reader_then c (λ z bytes. Value (make x y z, bytes)) rc (λ z. value_reader (make x y z))))).steady

row_steady : (set : Set) (k : Kind) → Steady (row_of set k)
unfolding row_of
row_steady set kind.Reached = one_steady node_from row.Reached node_reader
row_steady set kind.Points = three_steady node_from u4_from (site_from set) row.Points node_reader u4 (site_reader set)
row_steady set kind.Taint = steady_test (is_paths set) (three node_from u4_from labelled_from (λ n r t. row.Taint n r t.0 t.1)) (three_steady node_from u4_from labelled_from (λ n r t. row.Taint n r t.0 t.1) node_reader u4 labelled_reader)
row_steady set kind.Cell = three_steady (site_from set) key_from (site_from set) row.Cell (site_reader set) key_reader (site_reader set)
row_steady set kind.Back = three_steady (site_from set) key_from (site_from set) row.Back (site_reader set) key_reader (site_reader set)
row_steady set kind.StaticPoints = two_steady u4_from (site_from set) row.StaticPoints u4 (site_reader set)
row_steady set kind.StaticTaint = steady_test (is_paths set) (two u4_from labelled_from (λ g t. row.StaticTaint g t.0 t.1)) (two_steady u4_from labelled_from (λ g t. row.StaticTaint g t.0 t.1) u4 labelled_reader)
row_steady set kind.Calls = two_steady node_from activation_from row.Calls node_reader activation_reader
row_steady set kind.CalledBy = two_steady activation_from node_from row.CalledBy activation_reader node_reader
row_steady set kind.Effect = steady_test (is_paths set) (three node_from (site_from set) labelled_from (λ n s t. row.Effect n s t.0 t.1)) (three_steady node_from (site_from set) labelled_from (λ n s t. row.Effect n s t.0 t.1) node_reader (site_reader set) labelled_reader)
row_steady set kind.MethodEffect = steady_test (is_paths set) (three activation_from (site_from set) labelled_from (λ a s t. row.MethodEffect a s t.0 t.1)) (three_steady activation_from (site_from set) labelled_from (λ a s t. row.MethodEffect a s t.0 t.1) activation_reader (site_reader set) labelled_reader)
row_steady set kind.ExitPoints = three_steady activation_from exit_from (site_from set) row.ExitPoints activation_reader exit_reader (site_reader set)
row_steady set kind.ExitTaint = steady_test (is_paths set) (three activation_from exit_from labelled_from (λ a how t. row.ExitTaint a how t.0 t.1)) (three_steady activation_from exit_from labelled_from (λ a how t. row.ExitTaint a how t.0 t.1) activation_reader exit_reader labelled_reader)
row_steady set kind.Live = two_steady u4_from byte_from row.Live u4 byte
row_steady set kind.CompTaint = steady_test (is_paths set) (three u4_from byte_from labelled_from (λ c state t. row.CompTaint c state t.0 t.1)) (three_steady u4_from byte_from labelled_from (λ c state t. row.CompTaint c state t.0 t.1) u4 byte labelled_reader)
row_steady set kind.Handed = one_steady (site_from set) row.Handed (site_reader set)
row_steady set kind.HandedTaint = steady_test (is_paths set) (two (site_from set) labelled_from (λ s t. row.HandedTaint s t.0 t.1)) (two_steady (site_from set) labelled_from (λ s t. row.HandedTaint s t.0 t.1) (site_reader set) labelled_reader)
row_steady set kind.Arrive = three_steady byte_from byte_from node_from row.Arrive byte byte node_reader
row_steady set kind.Unknown = two_steady node_from cause_from row.Unknown node_reader cause_reader
row_steady set kind.Uses = two_steady node_from use_from row.Uses node_reader use_reader
row_steady set kind.Label = steady_test (is_cells set) (three node_from u4_from byte_from row.Label) (three_steady node_from u4_from byte_from row.Label node_reader u4 byte)
row_steady set kind.StaticLabel = steady_test (is_cells set) (two u4_from byte_from row.StaticLabel) (two_steady u4_from byte_from row.StaticLabel u4 byte)
row_steady set kind.CellLabel = steady_test (is_cells set) (three (site_from set) key_from byte_from row.CellLabel) (three_steady (site_from set) key_from byte_from row.CellLabel (site_reader set) key_reader byte)
row_steady set kind.Holds = steady_test (is_cells set) (two (site_from set) byte_from row.Holds) (two_steady (site_from set) byte_from row.Holds (site_reader set) byte)
row_steady set kind.ExitLabel = steady_test (is_cells set) (three activation_from exit_from byte_from row.ExitLabel) (three_steady activation_from exit_from byte_from row.ExitLabel activation_reader exit_reader byte)

abbrev row_behind : Set → ℕ → List ℕ → From Row
row_behind set n bytes = Test (nat_lt 0 n && nat_le n 25) Bad (row_of set (kind_at n) bytes)

row_same : (set : Set) (bytes : List ℕ) → run (row_from set bytes) ≡ run (then_from byte_from (row_behind set) bytes)
unfolding row_from kind_from
row_same set [] = refl
row_same set (n ∷ bytes) = refl

first_handed : (set : Set) → Completed (then_from byte_from (row_behind set)) []
unfolding kind_at row_of site_from site_of
first_handed set = record {
  more = 16 ∷ 2 ∷ 0 ∷ 0 ∷ 0 ∷ 0 ∷ [];
  are = (lit< tt, (lit< tt, (lit< tt, (lit< tt, (lit< tt, (lit< tt, tt))))));
  value = row.Handed (Component 0);
  whole = refl;
}

pub row_reader : (set : Set) → Reader (row_from set)
row_reader set =
    reader_same (row_from set) (then_from byte_from (row_behind set)) (row_same set)
    (reader_byte (row_behind set) (first_handed set) (λ n. steady_test (nat_lt 0 n && nat_le n 25) (row_of set (kind_at n)) (row_steady set (kind_at n))))

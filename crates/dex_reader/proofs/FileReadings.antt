-- A file that is read is a DEX file in which that stands, and a DEX file is read.
use Rattle.std.proofs.Common.{Result, Err, ◌≡◌, ◌⊎◌, inl, inr, ℕ, ◌+◌, ◌≤◌, List, length, take, Ok, refl, sym, subst, ◌∙◌, arith}
use Rattle.std.specs.Prelude.{sum_by}
use Rattle.vet_base.specs.Script.{run, rows, walk}
use Rattle.vet_base.proofs.Scripts.{is_first}
use Rattle.dex_tables.specs.declared.fault.Fault.{Fault}
use Rattle.dex_tables.specs.declared.dex.Dex.{Dex}
use Rattle.dex_tables.specs.declared.header.Header.{Header}
use Rattle.dex_tables.specs.declared.place.Sizes.{Sizes}
use Rattle.dex_tables.specs.declared.place.Totals.{Totals}
use Rattle.dex_tables.specs.Parts.{table_test}
use Rattle.dex_tables.specs.Headers.{header_at}
use Rattle.dex_tables.specs.TypeLists.{place}
use Rattle.dex_reader.specs.ClassDefs.{class_row, class_rows_at}
use Rattle.dex_reader.specs.ClassData.{class_of, classes_at}
use Rattle.dex_reader.specs.Whole.{FirstDexFault, sizes_of, ids_at, file_at, dex_at}
use Rattle.dex_reader.specs.Dex.{params_of, interfaces_of, HasTables, WithinLimits, IsDex, ExactlyOne}
use Rattle.dex_tables.specs.Totals.{no_totals, plus}
use Rattle.dex_tables.proofs.RunningTotals.{same_totals, WithinTotals}
use Rattle.dex_reader.proofs.ClassRowReadings.{in_row, class_rows_are}
use Rattle.dex_reader.proofs.ClassDefReadings.{classes_are, join, classes_again, heads_again}
use Rattle.dex_reader.proofs.IdReadings.{table_is, ids_are, table_again, made_ids, ids_again}
use Rattle.dex_reader.proofs.HeaderReadings.{header_is, header_again}
use Rattle.vet_base.proofs.Runs.{bind_ok, bind_runs, value_is, fails_first, one_first}
use Rattle.vet_base.proofs.Results.{one_ok, ok_or_err}

-- the file behind its header
record FileRead (file : List ℕ) (header : Header) (sizes : Sizes) (dex : Dex) : Type 0 where
  totals : Totals
  tables : HasTables file header sizes dex totals
  limits : WithinLimits dex totals

sum_none : (t : Totals) → plus no_totals t ≡ t
sum_none t = same_totals _ _ (omega arith) (omega arith) (omega arith)

file_is : (file : List ℕ) (header : Header) (sizes : Sizes) (dex : Dex) → run (file_at file header sizes) ≡ Ok dex → FileRead file header sizes dex
unfolding file_at classes_at
file_is file header sizes dex e =
    let a = bind_ok (ids_at file header sizes) _ _ e in
    let b = bind_ok (table_test file header.classes.size header.classes.at 32) _ _ a.2 in
    let c = bind_ok (class_rows_at file sizes.types header.classes a.0.listed) _ _ b.2 in
    let d = bind_ok (classes_at file sizes c.0.0) _ _ c.2 in
    let ids = ids_are file header sizes a.0 a.1 in
    let heads = class_rows_are file sizes.types header.classes a.0.listed c.0.0 c.0.1 ids.listed c.1 in
    let classes = classes_are file sizes c.0.0 no_totals d.0.0 d.0.1 (record { members = omega arith; units = omega arith; tries = omega arith }) d.1 in
    let joined = join file sizes header.classes.at c.0.0 d.0.0 classes.adds heads.stand classes.paired in
    let fits : WithinTotals classes.adds = subst WithinTotals (sum_none classes.adds) classes.fits in
    let listed : a.0.listed ≡ sum_by params_of a.0.protos = ids.listed_is in
    let interfaces : sum_by in_row c.0.0 ≡ sum_by interfaces_of d.0.0 = joined.interfaces in
    let lists : a.0.listed + sum_by in_row c.0.0 ≤ 4000000 = heads.limit in
    let count : length d.0.0 ≡ header.classes.size = sym joined.count ∙ heads.count in
    let many : header.classes.size ≤ 65536 = heads.rows_limit in
    subst (λ (x : Dex). FileRead file header sizes x) (value_is _ _ d.2)
    (record {
      totals = classes.adds;
      tables = record {
        end = joined.end;
        strings = ids.strings;
        types = ids.types;
        protos = ids.protos;
        fields = ids.fields;
        methods = ids.methods;
        classes_count = count;
        classes_within = table_is file header.classes.size header.classes.at 32 b.0 b.1;
        classes = joined.stand;
      };
      limits = record { names = ids.names; type_lists = omega arith; class_defs = omega arith; class_data = fits.members; units = fits.units; tries = fits.tries };
    })

file_again : (file : List ℕ) (header : Header) (sizes : Sizes) (dex : Dex) (totals : Totals) → HasTables file header sizes dex totals → WithinLimits dex totals → run (file_at file header sizes) ≡ Ok dex
unfolding file_at classes_at class_rows_at made_ids
file_again file header sizes dex totals has limits =
    let lists : sum_by params_of dex.protos + sum_by interfaces_of dex.classes ≤ 4000000 = limits.type_lists in
    let listed : sum_by params_of dex.protos ≤ 4000000 = omega arith in
    let many : 0 + length dex.classes ≤ 65536 = (let k : length dex.classes ≤ 65536 = limits.class_defs in omega arith) in
    let ids = ids_again file header sizes dex totals has limits.names listed in
    let heads = heads_again file sizes header.classes.at 0 header.classes.at (sum_by params_of dex.protos) dex.classes totals has.end has.classes lists many in
    let fits : WithinTotals (plus no_totals totals) = subst WithinTotals (sym (sum_none totals)) (record { members = limits.class_data; units = limits.units; tries = limits.tries }) in
    let classes = classes_again file sizes heads.heads no_totals dex.classes totals heads.paired fits in
    let class-rows : run (rows header.classes.size 0 (class_row file sizes.types header.classes.at) (place header.classes.at (sum_by params_of dex.protos))) ≡ Ok (heads.heads, heads.end) =
    subst (λ (n : ℕ). run (rows n 0 (class_row file sizes.types header.classes.at) (place header.classes.at (sum_by params_of dex.protos))) ≡ Ok (heads.heads, heads.end)) has.classes_count heads.read in
    bind_runs (ids_at file header sizes) _ _ _ ids
    (bind_runs (table_test file header.classes.size header.classes.at 32) _ _ _ (table_again file header.classes.size header.classes.at 32 has.classes_within)
    (bind_runs (rows header.classes.size 0 (class_row file sizes.types header.classes.at) (place header.classes.at (sum_by params_of dex.protos))) _ _ _ class-rows
    (bind_runs (walk (class_of file sizes) heads.heads no_totals) _ _ _ classes refl)))

-- the whole: what all tests let through is what stands there, and the other way round
pub dex_is : (bytes : List ℕ) (dex : Dex) → run (dex_at bytes) ≡ Ok dex → IsDex bytes dex
unfolding dex_at
dex_is bytes dex e =
    let a = bind_ok (header_at bytes) _ _ e in
    let read = file_is (take a.0.file_size bytes) a.0 (sizes_of a.0) dex a.2 in
    record { header = a.0; totals = read.totals; header_is = header_is bytes a.0 a.1; tables = read.tables; limits = read.limits }

pub dex_again : (bytes : List ℕ) (dex : Dex) → IsDex bytes dex → run (dex_at bytes) ≡ Ok dex
unfolding dex_at
dex_again bytes dex is =
    bind_runs (header_at bytes) _ _ _ (header_again bytes is.header is.header_is) (file_again (take is.header.file_size bytes) is.header (sizes_of is.header) dex is.totals is.tables is.limits)

some_answer : (bytes : List ℕ) (r : Result Dex Fault) → run (dex_at bytes) ≡ r → ((dex : Dex) × IsDex bytes dex) ⊎ ((fault : Fault) × FirstDexFault bytes fault)
some_answer bytes (Ok dex) e = inl (dex, dex_is bytes dex e)
some_answer bytes (Err f) e = inr (f, is_first (dex_at bytes) f e)

pub exactly_one : (bytes : List ℕ) → ExactlyOne bytes
exactly_one bytes = record {
  either = some_answer bytes (run (dex_at bytes)) refl;
  one_dex = λ d e a b. one_ok (run (dex_at bytes)) d e (dex_again bytes d a) (dex_again bytes e b);
  one_fault = λ f g a b. one_first (dex_at bytes) f g a b;
  not_both = λ d f a b. ok_or_err (run (dex_at bytes)) d f (dex_again bytes d a) (fails_first (dex_at bytes) f b);
}

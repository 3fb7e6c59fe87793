-- The index of each line is one of two bytes where no table has more rows than that.
use Rattle.std.proofs.Common.{◌≡◌, ℕ, suc, ◌+◌, ◌<◌, ◌≤◌, Bool, true, false, cond, List, [], ◌∷◌, length, Option, Some, None, refl, arith}
use Rattle.std.specs.Prelude.{unwrap_or}
use Rattle.std.specs.Option.{option_map}
use Rattle.std.specs.declared.cmp.Ordering.{Ordering}
use Rattle.std.specs.Ordering.{is_eq, nat_cmp}
use Rattle.std.proofs.lemmas.Option.{none-some, same_Some}
use Rattle.vet_base.proofs.Options.{unwrap_below}
use Rattle.dex_tables.specs.declared.dex.ClassDef.{ClassDef}
use Rattle.dex_writer.specs.declared.tables.Tables.{Tables}
use Rattle.dex_maker.specs.declared.listing.Operand.{Operand}
use Rattle.dex_maker.specs.declared.listing.Operand.TheVariants.{Nothing, Text, Class, Field, Method}
use Rattle.dex_maker.specs.Codes.{index_for}
use Rattle.dex_writer.specs.File.{AreShort}
use Rattle.dex_writer.specs.Rows.{place}
use Rattle.dex_writer.specs.Tables.{list_cmp, string_index, type_index, field_row, field_index, method_row, method_index}

-- a row that is found is one of the rows
place_within : {K : Type 0} (cmp : K → K → Ordering) (rows : List K) (row : K) (j : ℕ) → place cmp rows row ≡ Some j → j < length rows
place_within cmp [] row j e = absurd (none-some j e)
place_within cmp (x ∷ rows) row j e = by_test (is_eq (cmp row x)) (place cmp rows row) (place_within cmp rows row) e
  where
    by_test : (b : Bool) (o : Option ℕ) → ((k : ℕ) → o ≡ Some k → k < length rows) → cond b (Some 0) (option_map (λ n. n + 1) o) ≡ Some j → j < suc (length rows)
    by_test true o rest is = let zero-is : 0 ≡ j = same_Some 0 j is in omega (arith, zero-is)
    by_test false None rest is = absurd (none-some j is)
    by_test false (Some k) rest is = let more : k + 1 ≡ j = same_Some (k + 1) j is in omega (arith, more, rest k refl)

index_small : {K : Type 0} (cmp : K → K → Ordering) (rows : List K) (row : K) → length rows ≤ 65536 → unwrap_or (place cmp rows row) 0 < 65536
index_small cmp rows row few = unwrap_below (place cmp rows row) 65536 (omega arith) (λ j e. omega (arith, few, place_within cmp rows row j e))

pub operand_small : (t : Tables) (classes : List ClassDef) (operand : Operand) → AreShort t classes → index_for t operand < 65536
unfolding string_index type_index field_index method_index
operand_small t classes Nothing short = omega arith
operand_small t classes (Text text) short = index_small list_cmp t.strings text short.strings
operand_small t classes (Class class) short = index_small nat_cmp t.types (string_index t class) (omega (arith, short.types))
operand_small t classes (Field class name kind) short = index_small list_cmp t.fields (field_row t class name kind) short.fields
operand_small t classes (Method class name params ret) short = index_small list_cmp t.methods (method_row t class name params ret) short.methods

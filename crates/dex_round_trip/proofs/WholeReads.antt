-- A whole file stands as it was written.
use Rattle.std.proofs.Common.{◌≡◌, ℕ, ◌+◌, ◌<◌, ◌≤◌, List, length, map, take, sym, subst, arith}
use Rattle.std.specs.Prelude.{sum_by}
use Rattle.std.specs.List.{AllByRecursion}
use Rattle.std.proofs.Math.Seq.{take-length}
use Rattle.dex_tables.specs.declared.dex.ClassDef.{ClassDef}
use Rattle.dex_reader.specs.Dex.{params_of, interfaces_of, HasTables, IsDex}
use Rattle.dex_reader.specs.Sound.{class_members, class_units}
use Rattle.dex_reader.specs.Whole.{sizes_of}
use Rattle.dex_writer.specs.declared.tables.Tables.{Tables}
use Rattle.dex_writer.specs.File.{file_bytes, AreShort}
use Rattle.dex_round_trip.specs.Costs.{class_cost}
use Rattle.dex_round_trip.specs.Values.{proto_value, dex_value}
use Rattle.dex_round_trip.proofs.ClassRows.{ClassFits}
use Rattle.dex_round_trip.proofs.FileReads.{header_value, header_stands, tables_stand}
use Rattle.dex_round_trip.proofs.Fits.{classes_total, classes_count}
use Rattle.dex_round_trip.proofs.IdTables.{params_in}
use Rattle.dex_round_trip.proofs.TableGrowth.{Sound}

-- tables and classes that keep to the limits of a DEX file
pub record Limited (t : Tables) (cs : List ClassDef) : Type 0 where
  pub names : sum_by length t.strings ≤ 33554432
  pub lists : sum_by params_in t.protos + sum_by interfaces_of cs ≤ 4000000
  pub told_lists : sum_by params_of (map proto_value t.protos) + sum_by interfaces_of cs ≤ 4000000
  pub members : sum_by class_members cs ≤ 400000
  pub units : sum_by class_units cs ≤ 8388608
  pub tries : sum_by class_cost cs ≤ 1000000

pub dex_stands : (t : Tables) (cs : List ClassDef) → AreShort t cs → length (file_bytes t cs) < 4294967296 → Sound t → Limited t cs → AllByRecursion (ClassFits (sizes_of (header_value t cs))) cs
    → IsDex (file_bytes t cs) (dex_value t cs)
dex_stands t cs short small sound limited fit =
    let file = file_bytes t cs in
    let header = header_value t cs in
    let total = classes_count cs in
    let whole : take (length file) file ≡ file = take-length file in
    let tables = tables_stand t cs short small sound limited.names limited.lists fit in
    record {
      header = header;
      totals = classes_total cs;
      header_is = header_stands t cs short small;
      tables = subst (λ (bytes : List ℕ). HasTables bytes header (sizes_of header) (dex_value t cs) (classes_total cs)) (sym whole) tables;
      limits = record {
        names = limited.names;
        type_lists = limited.told_lists;
        class_defs = short.class_defs;
        class_data = omega (arith, total.members_is, limited.members);
        units = omega (arith, total.units_is, limited.units);
        tries = omega (arith, total.tries_is, limited.tries);
      };
    }

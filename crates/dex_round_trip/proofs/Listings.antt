-- The file of a listing is read as the listing.
use Rattle.std.proofs.Common.{◌≡◌, ℕ, suc, ◌+◌, ◌<◌, ◌≤◌, List, [], ◌∷◌, length, map, None, refl, sym, ap, subst, arith}
use Rattle.std.specs.Prelude.{sum_by}
use Rattle.std.specs.List.{AllByRecursion}
use Rattle.std.proofs.lemmas.List.Sums.{sum_by-cons}
use Rattle.dex_tables.specs.declared.dex.ClassDef.{ClassDef}
use Rattle.dex_tables.specs.declared.place.Sizes.{Sizes}
use Rattle.dex_reader.specs.Dex.{params_of, interfaces_of, IsDex}
use Rattle.dex_reader.specs.Sound.{class_members, class_units}
use Rattle.dex_reader.specs.Whole.{sizes_of}
use Rattle.dex_writer.specs.declared.tables.Tables.{Tables}
use Rattle.dex_maker.specs.declared.listing.Listing.{Listing}
use Rattle.dex_maker.specs.declared.listing.ListedClass.{ListedClass}
use Rattle.dex_maker.specs.Naming.{tables_of}
use Rattle.dex_maker.specs.Classes.{class_defs_from, class_width, unit_count, member_total}
use Rattle.dex_maker.specs.Made.{dex_bytes, fault_of, TablesAreShort}
use Rattle.dex_round_trip.specs.Listings.{ClassCanBeRead, dex_of, CanBeRead, ListingsReadAgain, EachClassIsReadBack}
use Rattle.dex_round_trip.specs.Values.{proto_value}
use Rattle.dex_round_trip.proofs.ClassRows.{ClassRowFits, ClassFits}
use Rattle.dex_round_trip.proofs.FileReads.{header_value}
use Rattle.dex_round_trip.proofs.FileSize.{file_small}
use Rattle.dex_round_trip.proofs.Fits.{DataFits}
use Rattle.dex_round_trip.proofs.IdTables.{params_in}
use Rattle.dex_round_trip.proofs.ListingFits.{all_data_fit, rows_fit, members_total, units_total}
use Rattle.dex_round_trip.proofs.NamedClasses.{listing_named}
use Rattle.dex_round_trip.proofs.NamingGrowth.{fields_in, methods_in, listing_tables}
use Rattle.dex_round_trip.proofs.WholeReads.{dex_stands}

params_are : (protos : List (List ℕ)) → sum_by params_of (map proto_value protos) ≡ sum_by params_in protos
params_are [] = refl
params_are (p ∷ ps) = omega (arith, params_are ps, sum_by-cons params_of (proto_value p) (map proto_value ps), sum_by-cons params_in p ps)

-- no class, or a table of types
data_fit : (t : Tables) (sizes : Sizes) (cs : List ListedClass) → (0 < length cs → 0 < length t.types) → sizes.types ≡ length t.types → sum_by fields_in cs ≤ sizes.fields → sum_by methods_in cs ≤ sizes.methods
    → sum_by class_width cs ≤ 8388608 → AllByRecursion ClassCanBeRead cs → AllByRecursion (DataFits sizes) (class_defs_from t 0 0 cs)
data_fit t sizes [] some types fields methods units are = tt
data_fit t sizes (c ∷ cs) some types fields methods units are = all_data_fit t sizes 0 0 (c ∷ cs) types (some (omega arith)) (omega arith) (omega arith) units are

heads_fit : (t : Tables) (cs : List ListedClass) → (0 < length cs → 0 < length t.types) → AllByRecursion ClassCanBeRead cs → AllByRecursion (ClassRowFits (length t.types)) (class_defs_from t 0 0 cs)
heads_fit t [] some are = tt
heads_fit t (c ∷ cs) some are = rows_fit t 0 0 (c ∷ cs) (some (omega arith)) are

classes_fit : (sizes : Sizes) (cs : List ClassDef) → AllByRecursion (ClassRowFits sizes.types) cs → AllByRecursion (DataFits sizes) cs → sum_by class_members cs ≤ 400000 → sum_by class_units cs ≤ 8388608
    → AllByRecursion (ClassFits sizes) cs
classes_fit sizes [] rows lists members units = tt
classes_fit sizes (c ∷ cs) rows lists members units =
    let m : sum_by class_members (c ∷ cs) ≡ class_members c + sum_by class_members cs = sum_by-cons class_members c cs in
    let u : sum_by class_units (c ∷ cs) ≡ class_units c + sum_by class_units cs = sum_by-cons class_units c cs in
    (record { row = rows.0; lists = lists.0; members = omega arith; units = omega arith }, classes_fit sizes cs rows.1 lists.1 (omega arith) (omega arith))

read_again : TablesAreShort → (listing : Listing) → CanBeRead listing → fault_of listing ≡ None → IsDex (dex_bytes listing) (dex_of listing)
unfolding dex_bytes dex_of unit_count member_total
read_again short_tables listing can none =
    let cs = listing.classes in
    let t = tables_of listing in
    let classes = class_defs_from t 0 0 cs in
    let sizes = sizes_of (header_value t classes) in
    let tables = listing_tables listing can.classes in
    let short = short_tables listing can.within none in
    let names : sum_by length t.strings ≤ 33554432 = can.names in
    let lists : sum_by params_in t.protos + sum_by interfaces_of classes ≤ 4000000 = omega (arith, params_are t.protos, can.type_lists) in
    let members : sum_by class_members classes ≤ 400000 = omega (arith, members_total t 0 0 cs, can.within.members) in
    let units : sum_by class_units classes ≤ 8388608 = omega (arith, units_total t 0 0 cs, can.within.units) in
    dex_stands t classes short (file_small t classes short names lists members units can.tries) tables.sound
    (record { names = names; lists = lists; told_lists = can.type_lists; members = members; units = units; tries = can.tries })
    (classes_fit sizes classes (heads_fit t cs tables.types can.classes) (data_fit t sizes cs tables.types refl tables.fields tables.methods can.within.units can.classes) members units)

pub listings_again : TablesAreShort → ListingsReadAgain
unfolding dex_of
listings_again short listing can none = record { stands = read_again short listing can none; classes = listing_named listing (class_defs_from (tables_of listing) 0 0 listing.classes) }

pub made_stands : ListingsReadAgain → (bytes : List ℕ) (listing : Listing) → bytes ≡ dex_bytes listing → CanBeRead listing → fault_of listing ≡ None → IsDex bytes (dex_of listing)
made_stands read bytes listing e can none = subst (λ (b : List ℕ). IsDex b (dex_of listing)) (sym e) (read listing can none).stands

as_many : (t : Tables) (field method : ℕ) (cs : List ListedClass) → length (class_defs_from t field method cs) ≡ length cs
as_many t field method [] = refl
as_many t field method (c ∷ cs) = ap (λ (n : ℕ). suc n) (as_many t (field + length c.fields) (method + length c.methods) cs)

pub classes_read_back : EachClassIsReadBack
unfolding dex_of
classes_read_back listing dex is = rw is (as_many (tables_of listing) 0 0 listing.classes)

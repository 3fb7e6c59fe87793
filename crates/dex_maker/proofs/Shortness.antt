-- Tables of which none is too long.
use Rattle.std.proofs.Common.{◌≡◌, ℕ, suc, ◌+◌, ◌≤◌, cond, ltb, List, [], ◌∷◌, length, Option, Some, None, refl, ap, arith}
use Rattle.std.proofs.lemmas.Bool.{ltb-false}
use Rattle.dex_tables.specs.declared.dex.ClassDef.{ClassDef}
use Rattle.dex_writer.specs.declared.tables.Tables.{Tables}
use Rattle.dex_maker.specs.declared.fault.IdTable.{IdTable}
use Rattle.dex_maker.specs.declared.fault.IdTable.TheVariants as ids
use Rattle.dex_maker.specs.declared.listing.ListedClass.{ListedClass}
use Rattle.dex_maker.specs.Classes.{class_defs_from}
use Rattle.dex_writer.specs.File.{AreShort}
use Rattle.dex_maker.specs.Fits.{first_misfit}
use Rattle.dex_maker.specs.Naming.{tables_of}
use Rattle.dex_maker.specs.Made.{long_table, no_file, fault_of, TablesAreShort}
use Rattle.vet_base.proofs.Options.{cond_none}

pub classes_length : (t : Tables) (field method : ℕ) (cs : List ListedClass) → length (class_defs_from t field method cs) ≡ length cs
classes_length t field method [] = refl
classes_length t field method (c ∷ cs) = ap (λ (n : ℕ). suc n) (classes_length t (field + length c.fields) (method + length c.methods) cs)

pub tables_short : (t : Tables) (classes : List ClassDef) → long_table t ≡ None → length classes ≤ 65536 → AreShort t classes
unfolding long_table
tables_short t classes e few =
    let methods : Option IdTable = cond (ltb 65536 (length t.methods)) (Some ids.Methods) None in
    let fields : Option IdTable = cond (ltb 65536 (length t.fields)) (Some ids.Fields) methods in
    let protos : Option IdTable = cond (ltb 65535 (length t.protos)) (Some ids.Protos) fields in
    let types : Option IdTable = cond (ltb 65535 (length t.types)) (Some ids.Types) protos in
    let a = cond_none (ltb 65536 (length t.strings)) ids.Strings types e in
    let b = cond_none (ltb 65535 (length t.types)) ids.Types protos a.1 in
    let c = cond_none (ltb 65535 (length t.protos)) ids.Protos fields b.1 in
    let d = cond_none (ltb 65536 (length t.fields)) ids.Fields methods c.1 in
    let f = cond_none (ltb 65536 (length t.methods)) ids.Methods None d.1 in
    record {
      strings = ltb-false _ _ a.0;
      types = ltb-false _ _ b.0;
      protos = ltb-false _ _ c.0;
      fields = ltb-false _ _ d.0;
      methods = ltb-false _ _ f.0;
      class_defs = few;
    }

not_long : (table : Option IdTable) (misfit : Option (ℕ × ℕ)) → no_file table misfit ≡ None → table ≡ None
not_long None misfit e = refl
not_long (Some table) misfit e = absurd cc

pub listing_short : TablesAreShort
unfolding fault_of
listing_short listing makeable none =
    let t = tables_of listing in
    let few : length listing.classes ≤ 65536 = makeable.classes in
    let classes : length (class_defs_from t 0 0 listing.classes) ≤ 65536 = omega (arith, classes_length t 0 0 listing.classes) in
    tables_short t (class_defs_from t 0 0 listing.classes) (not_long (long_table t) (first_misfit 0 listing.classes) none) classes

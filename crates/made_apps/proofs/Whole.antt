-- Each generated app has a DEX file.
use Rattle.std.proofs.Common.{◌≡◌, ℕ, ◌≤◌, false, ltb, length, None, refl, arith}
use Rattle.std.proofs.lemmas.Bool.{le-ltb}
use Rattle.dex_writer.specs.declared.tables.Tables.{Tables}
use Rattle.dex_maker.specs.Naming.{tables_of}
use Rattle.dex_maker.specs.Made.{long_table, fault_of}
use Rattle.made_apps.specs.Law.{MadeListingsHaveFiles}
use Rattle.made_apps.specs.Made.{made}
use Rattle.made_apps.proofs.Growth.{AtMost}
use Rattle.made_apps.proofs.Listed.{made_most}
use Rattle.made_apps.proofs.Fitting.{made_fits}
use Rattle.made_apps.proofs.Limits.{made_within}

not_long : (t : Tables) → AtMost 60000 t → long_table t ≡ None
unfolding long_table
not_long t a =
    let strings : ltb 65536 (length t.strings) ≡ false = le-ltb _ _ (omega (arith, a.strings)) in
    let types : ltb 65535 (length t.types) ≡ false = le-ltb _ _ (omega (arith, a.types)) in
    let protos : ltb 65535 (length t.protos) ≡ false = le-ltb _ _ (omega (arith, a.protos)) in
    let fields : ltb 65536 (length t.fields) ≡ false = le-ltb _ _ (omega (arith, a.fields)) in
    let methods : ltb 65536 (length t.methods) ≡ false = le-ltb _ _ (omega (arith, a.methods)) in
    rw (strings, types, protos, fields, methods) refl

no_fault : (seed size : ℕ) → size ≤ 2000 → fault_of (made seed size) ≡ None
unfolding fault_of
no_fault seed size le = rw (not_long (tables_of (made seed size)) (made_most seed size le), made_fits seed size) refl

pub made_has_file : MadeListingsHaveFiles
made_has_file seed size _ some le = record { within = made_within seed size le; without_fault = no_fault seed size le }

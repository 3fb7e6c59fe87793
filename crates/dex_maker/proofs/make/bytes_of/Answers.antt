use Rattle.std.proofs.Common.{◌≡◌, ◌≤◌, length, rules}
use Rattle.dex_maker.specs.Classes.{class_defs_from}
use Rattle.dex_maker.proofs.Shortness.{tables_short, classes_length}
use Rattle.dex_maker.proofs.make.bytes_of.Goals as goal

pub write_dex-requires : goal.write_dex-requires
write_dex-requires c =
    let made : c.deref.result.now ≡ class_defs_from c.args.tables.now 0 0 c.args.listing.now.classes = search rules in
    let few : length c.args.listing.now.classes ≤ 65536 = c.requires.makeable.classes in
    tables_short c.args.tables.now c.deref.result.now c.requires.short (rw (made, classes_length c.args.tables.now 0 0 c.args.listing.now.classes) few)

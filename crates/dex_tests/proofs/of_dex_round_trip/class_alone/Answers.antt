use Rattle.std.proofs.Common.{[], ◌∷◌, None, lit<, lit≤}
use Rattle.dex_maker.specs.declared.listing.ListedClass.{ListedClass}
use Rattle.dex_maker.specs.Classes.{class_def, member_total, unit_count}
use Rattle.dex_maker.specs.Naming.{with_class, tables_of}
use Rattle.dex_writer.specs.Tables.{string_index, type_index, with_string, with_type}
use Rattle.dex_round_trip.specs.Listings.{dex_of, CanBeRead}
use Rattle.dex_tests.proofs.of_dex_round_trip.class_alone.Goals as goal

abbrev alone : ListedClass
alone = record { name = 76 ∷ 97 ∷ 59 ∷ []; flags = 17; superclass = None; interfaces = []; fields = []; methods = [] }

alone_can_be_read : CanBeRead (record { classes = alone ∷ [] })
unfolding dex_of tables_of with_class with_type with_string string_index type_index class_def member_total unit_count
alone_can_be_read = record {
  within = record { classes = lit≤ tt; members = lit≤ tt; units = lit≤ tt };
  classes = (record { name = (lit< tt, (lit< tt, (lit< tt, tt))); superclass = tt; interfaces = tt; flags = lit< tt; fields = tt; methods = tt }, tt);
  names = lit≤ tt;
  type_lists = lit≤ tt;
  tries = lit≤ tt;
}

pub returns : goal.returns
returns c = rw (c.from_vec.ensures, c.in_ok-classes.ensures.items, c.in_ok-from_bytes.ensures, c.new.ensures, c.new-2.ensures, c.new-3.ensures) alone_can_be_read

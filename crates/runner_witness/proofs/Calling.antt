-- What library calls do, computed.
use Rattle.std.proofs.Common.{refl}
use Rattle.app_machine.specs.Names.{is_void}
use Rattle.played_machine.specs.Drawing.{one_of}
use Rattle.played_machine.specs.Local.{got}
use Rattle.played_machine.specs.Ordered.{ascending}
use Rattle.played_machine.specs.Reading.{entries_at, reached, values_at}
use Rattle.runner_library.specs.Over.{joined_by}
use Rattle.runner_library.specs.Whole.{read_for}
use Rattle.runner_witness.specs.Calls.{CallsTell}

pub tells : CallsTell
unfolding reached ascending values_at entries_at joined_by read_for got one_of is_void
tells = record {
  by_position = refl;
  twice = refl;
  from_within = λ class. refl;
  no_sink = refl;
  joins = refl;
  puts = refl;
  puts_nowhere = refl;
  copies = λ class. refl;
  hands = refl;
  takes = λ app lists w class bytes. refl;
  too_few = λ app lists w class. refl;
  of_nothing = λ app lists w bytes. refl;
  of_void = λ app lists w bytes. refl;
  of_same = λ app lists w bytes. refl;
  same = λ app statics heap v. refl;
}

-- What instructions do, computed.
use Rattle.std.proofs.Common.{ℕ, List, refl}
use Rattle.app_machine.specs.declared.app.App.{App}
use Rattle.app_machine.specs.declared.lists.Lists.{Lists}
use Rattle.app_machine.specs.Heap.{Value}
use Rattle.app_machine.specs.Names.{Name}
use Rattle.app_machine.specs.State.{World}
use Rattle.played_machine.specs.Drawing.{one_of}
use Rattle.played_machine.specs.Local.{got}
use Rattle.played_machine.specs.Ordered.{ascending}
use Rattle.played_machine.specs.Reading.{entries_at, values_at}
use Rattle.runner_local.specs.Changed.{changed, written}
use Rattle.runner_witness.specs.Acts.{ActsTell, Makes, Puts, Reads, Writes}

writes : (app : App) (lists : Lists) (w : World) (v : Value) → Writes app lists w v
unfolding written ascending
writes app lists w v = record {
  joins_all = refl;
  joins_to_all = refl;
  joins_no_other = refl;
  moves = refl;
  blanks = refl;
  gets = λ k. refl;
  takes_the_result = refl;
  takes_the_exception = refl;
  returns = refl;
  throws = refl;
}

makes : (app : App) (lists : Lists) (w : World) (v : Value) (class : Name) → Makes app lists w v class
unfolding changed ascending
makes app lists w v class = record {
  sized = refl;
  plain = refl;
  is_new = refl;
  fills = refl;
  filled = refl;
}

puts : (app : App) (lists : Lists) (w : World) (v : Value) (class : Name) → Puts app lists w v class
unfolding changed
puts app lists w v class = record {
  nowhere = λ k. refl;
  element = refl;
  field = refl;
  static = refl;
  no_other_static = refl;
}

reads : (class : Name) (bytes : List ℕ) → Reads class bytes
unfolding got one_of values_at entries_at
reads class bytes = record {
  chooses = refl;
  or_a_blank = refl;
  too_few = refl;
  of_field = refl;
  no_field = refl;
  of_nothing = λ k. refl;
  by_others = refl;
}

pub tells : ActsTell
tells = record { writes = writes; makes = makes; puts = puts; reads = reads }

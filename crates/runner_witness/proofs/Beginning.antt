-- How events begin, computed.
use Rattle.std.proofs.Common.{ℕ, List, refl}
use Rattle.app_machine.specs.declared.app.App.{App}
use Rattle.app_machine.specs.declared.lists.Lists.{Lists}
use Rattle.app_machine.specs.Events.{layout}
use Rattle.app_machine.specs.Names.{Name, is_reference, is_wide, object_class}
use Rattle.app_machine.specs.State.{World}
use Rattle.app_model.specs.Above.{is_below, is_class_below}
use Rattle.played_machine.specs.Calling.{code_of}
use Rattle.played_machine.specs.Coming.{begun}
use Rattle.played_machine.specs.Drawing.{one_of}
use Rattle.played_machine.specs.Reading.{class_at, handed_places}
use Rattle.runner_witness.specs.Begins.{Begins, BeginsTell, Draws, Lives}

draws : (app : App) (lists : Lists) (bytes : List ℕ) → Draws app lists bytes
unfolding one_of handed_places class_at is_reference is_below is_class_below object_class
draws app lists bytes = record {
  of_number = refl;
  of_class = refl;
  no_byte = refl;
  one_byte = refl;
  is_fresh = refl;
  without_labels = refl;
  one_behind_other = refl;
  not_there = refl;
  there_then = refl;
}

lives : (app : App) (lists : Lists) (w : World) (class : Name) (bytes : List ℕ) → Lives app lists w class bytes
unfolding begun
lives app lists w class bytes = record { is_born = refl; is_gone = refl }

begins : (lists : Lists) (w : World) (bytes : List ℕ) → Begins lists w bytes
unfolding begun code_of one_of handed_places is_reference is_wide layout
begins lists w bytes = record {
  with_both = refl;
  too_few = refl;
  labelled_receiver = refl;
  initialises = refl;
  without_code = refl;
}

pub tells : BeginsTell
unfolding layout is_wide
tells = record { draws = draws; lives = lives; begins = begins; wide = λ u v w. refl }

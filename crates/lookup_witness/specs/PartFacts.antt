-- What the parts of calls, events and defaults say. Behind each fact stands what code would answer that does otherwise.
use Rattle.std.specs.Prelude.{◌≡◌, ℕ, true, false, List, [], ◌∷◌, length, Some, codes}
use Rattle.app_machine.specs.declared.call.CallKind.{CallKind}
use Rattle.app_machine.specs.declared.call.CallKind.TheVariants.{Static}
use Rattle.app_machine.specs.declared.call.MethodRef.{MethodRef}
use Rattle.app_machine.specs.declared.lists.FallbackWord.TheVariants as fallback
use Rattle.app_machine.specs.declared.method.Act.TheVariants.{Call, PutStatic}
use Rattle.app_machine.specs.Names.{Name}
use Rattle.app_machine.specs.Events.{layout}
use Rattle.app_machine.specs.Library.{positions}
use Rattle.app_machine.specs.Local.{writes}
use Rattle.app_machine.specs.Lookups.{class_initialised}
use Rattle.app_machine.specs.State.{result_register}
use Rattle.app_parts.specs.declared.summary_view.SummaryView.TheVariants as view
use Rattle.app_parts.specs.Views.{joined_from, shown_summary}
use Rattle.lookup_witness.specs.Shapes.{base_class, int, void, ref, shapes}

abbrev pub long : Name
long = codes "J"

-- methods of a number, and of a wide number and a narrow one
abbrev pub one : MethodRef
one = ref base_class (codes "one") (int ∷ []) int

abbrev pub two : MethodRef
two = ref base_class (codes "two") (long ∷ int ∷ []) void

pub record PartsTell : Type 0 where
  -- any call writes RES; code that passes over calls says false
  pub writes_result : (kind : CallKind) (at : MethodRef) (args : List ℕ) → writes (Call kind at args) result_register ≡ true
  -- a default of a static method of one parameter joins position 0 alone; counting a receiver it joins 1 too
  pub joins_first : joined_from (shown_summary (view.Default fallback.Joined) one true).gives 0 ≡ true
  pub joins_no_more : joined_from (shown_summary (view.Default fallback.Joined) one true).gives 1 ≡ false
  -- a mixed default puts the one argument into the receiver; code without puts counts 0
  pub puts_one : length (shown_summary (view.Default fallback.Mixed) one false).puts ≡ 1
  -- A static call has no receiver, and its wide argument two registers: the second position is register 7. With a receiver, and
  -- with one register for a wide argument, it is 6.
  pub places : positions Static two (5 ∷ 6 ∷ 7 ∷ []) ≡ 5 ∷ 7 ∷ []
  -- a put to a static initialises its class; code that passes over puts gives None
  pub put_initialises : class_initialised shapes (PutStatic 0 0) ≡ Some base_class
  -- a wide parameter of an event has two registers, and the next one the fourth; with one register there is no fourth
  pub has_four : layout (long ∷ int ∷ []) ≡ 0 ∷ 1 ∷ 1 ∷ 2 ∷ []

abbrev pub PartsAreTold : Type 0
PartsAreTold = PartsTell

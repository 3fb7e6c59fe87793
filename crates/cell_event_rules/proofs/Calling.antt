-- The callbacks that come to objects of a class give what all callback rows give.
use Rattle.std.proofs.Common.{◌≡◌, ℕ, zero, suc, ◌++◌, Option, Some, None, flat_map, length, refl, ap, ◌∙◌, append-nil}
use Rattle.std.proofs.lemmas.Grind.{flat_map-append}
use Rattle.app_machine.specs.declared.lists.Lists.{Lists}
use Rattle.app_machine.specs.declared.app.App.{App}
use Rattle.app_machine.specs.Names.{Name}
use Rattle.app_model.specs.EventBodies.{handed_callback}
use Rattle.event_index.specs.Comings.{callback_run, coming_of, comings, first_comings}
use Rattle.rule_ground.specs.Below.{for_below}
use Rattle.event_rules.specs.Calling.{sources_at}
use Rattle.register_readers.specs.Readings.{Readings}
use Rattle.cell_event_rules.specs.declared.receiver.Receiver.{Receiver}
use Rattle.cell_event_rules.specs.Receivers.{callback_arrival}
use Rattle.cell_event_rules.specs.CellEventGiven.{callback_gives, callbacks_give, coming_gives, runs}

module _ (app : App) (readings : Readings) (lists : Lists) (receiver : Receiver) (class : Name) where
  row_called : (q : ℕ) (o : Option ℕ) →
      flat_map (coming_gives app readings lists receiver) (coming_of q o) ≡ runs app readings (callback_arrival receiver q) (sources_at lists q) o
  row_called q None = refl
  row_called q (Some body) = append-nil (coming_gives app readings lists receiver (record { row = q; body = body }))

  first_called : (n : ℕ) →
      flat_map (coming_gives app readings lists receiver) (first_comings app lists class n) ≡ for_below (callback_gives app readings lists receiver class) n
  first_called zero = refl
  first_called (suc q) =
      let body = callback_run (handed_callback app lists q class) in
      flat_map-append (coming_gives app readings lists receiver) (first_comings app lists class q) (coming_of q body)
      ∙ (ap (λ xs. xs ++ flat_map (coming_gives app readings lists receiver) (coming_of q body)) (first_called q)
      ∙ ap (λ xs. for_below (callback_gives app readings lists receiver class) q ++ xs) (row_called q body))

  pub all_called : flat_map (coming_gives app readings lists receiver) (comings app lists class) ≡ callbacks_give app readings lists receiver class
  all_called = first_called (length lists.callbacks)

-- A row of the table of events as the event that it is of.
use Rattle.app_model.specs.declared.answers.EventRow.{EventRow}
use Rattle.app_machine.specs.LifeEvents.{LifeEvent}

abbrev pub shown_event : EventRow → LifeEvent
shown_event row = record { from = row.from; name = row.name.now; descriptor = row.proto.now; to = row.to }

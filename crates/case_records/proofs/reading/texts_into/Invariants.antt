use Rattle.vet_base.specs.Script.{run, repeat}
use Rattle.vet_base.proofs.Repeats.{Repeats}
use Rattle.case_records.specs.Reading.{text_from}
use Rattle.case_records.proofs.reading.texts_into.Given as goal

abbrev pub invariant-loop : goal.invariant-loop
invariant-loop l = Repeats l.count l.counter text_from l.texts.items l.rest (run (repeat l.count text_from l.fn.bytes))

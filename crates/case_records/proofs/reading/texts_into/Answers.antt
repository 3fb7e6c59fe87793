use Rattle.std.proofs.Common.{List, ℕ, sym, subst}
use Rattle.vet_base.specs.Script.{run, repeat}
use Rattle.vet_base.proofs.Repeats.{Repeats, repeat_begins}
use Rattle.case_records.specs.Reading.{text_from}
use Rattle.case_records.proofs.reading.texts_into.Goals as goal

pub loop-init : goal.loop-init
loop-init c =
    subst (λ (texts : List (List ℕ)). Repeats c.args.count 0 text_from texts c.args.bytes.now (run (repeat c.args.count text_from c.args.bytes.now)))
    (sym c.requires) (repeat_begins c.args.count text_from c.args.bytes.now)

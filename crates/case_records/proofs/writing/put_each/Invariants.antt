use Rattle.std.proofs.Common.{◌≡◌, ◌++◌, take}
use Rattle.std.specs.List.{flat_map}
use Rattle.case_records.specs.Fitting.{AllFit}
use Rattle.case_records.specs.Spelling.{text_bytes}
use Rattle.case_records.proofs.writing.put_each.Given as goal

abbrev pub invariant-loop-text : goal.invariant-loop-text
invariant-loop-text l = record {
  bytes : l.out.items ≡ l.fn.out.items ++ flat_map text_bytes (take l.text-index l.texts);
  fit : AllFit (take l.text-index l.texts);
}

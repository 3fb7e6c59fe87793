use Rattle.std.proofs.Common.{◌≡◌, take, map}
use Rattle.device_causes.specs.Libraries.{mark_of}
use Rattle.device_causes.proofs.libraries.marks_of.Given as goal

abbrev pub invariant-loop-field : goal.invariant-loop-field
invariant-loop-field l = l.marks.items ≡ map (mark_of l.access.entries l.lists) (take l.field-index l.app.statics)

use Rattle.std.proofs.Common.{◌≡◌, drop}
use Rattle.vet_base.specs.MemoryFiles.{file_in}
use Rattle.vet_base.proofs.memory_files.bytes_of.Given as goal

abbrev pub invariant-loop-known : goal.invariant-loop-known
invariant-loop-known l = file_in (drop l.known-index l.files) l.name ≡ file_in l.files l.name

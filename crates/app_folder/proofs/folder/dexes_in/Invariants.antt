use Rattle.std.proofs.Common.{◌≡◌, ◌++◌, length}
use Rattle.std.specs.Prelude.{IsTrue, is_some}
use Rattle.std.specs.List.{AllByRecursion}
use Rattle.certificate.specs.Digests.{IsShort}
use Rattle.vet_base.specs.Outside.{held_by}
use Rattle.vet_base.specs.Script.{run}
use Rattle.vet_base.proofs.Scripts.{Continues}
use Rattle.app_folder.specs.Folder.{dex_row, dexes_at}
use Rattle.app_folder.specs.Heard.{dex_entries}
use Rattle.app_folder.proofs.folder.dexes_in.Given as goal

abbrev pub invariant-loop-i : goal.invariant-loop-i
invariant-loop-i g l = record {
  told : g.F.Files.told l.files ≡ g.F.Files.told l.fn.files;
  count : g.F.Files.fault_count l.files ≡ g.F.Files.fault_count l.fn.files;
  read : length l.dexes.items ≡ l.i;
  heard : g.F.Files.heard l.files ≡ g.F.Files.heard l.fn.files ++ dex_entries l.dir 0 l.dexes.items;
  short : AllByRecursion IsShort l.dexes.items;
  rows : IsTrue (is_some (g.F.Files.told l.fn.files)) → Continues l.count l.i (dex_row (held_by (g.F.Files.told l.fn.files)) l.dir) l.dexes.items tt (run (dexes_at (held_by (g.F.Files.told l.fn.files)) l.dir l.count));
}

use Rattle.std.proofs.Common.{◌≡◌, length}
use Rattle.std.specs.Prelude.{IsTrue, is_some}
use Rattle.vet_base.specs.Outside.{held_by}
use Rattle.vet_base.specs.Script.{run}
use Rattle.vet_base.proofs.Scripts.{Continues}
use Rattle.app_folder.specs.Folder.{dex_row, dexes_at}
use Rattle.client_service.proofs.content.dexes_in.Given as goal

abbrev pub invariant-loop-i : goal.invariant-loop-i
invariant-loop-i g l = record {
  told : g.F.Files.told l.files ≡ g.F.Files.told l.fn.files;
  count : g.F.Files.fault_count l.files ≡ g.F.Files.fault_count l.fn.files;
  made : length l.dexes.items ≡ l.i;
  rows : IsTrue (is_some (g.F.Files.told l.fn.files)) → Continues l.count l.i (dex_row (held_by (g.F.Files.told l.fn.files)) l.dir) l.dexes.items tt (run (dexes_at (held_by (g.F.Files.told l.fn.files)) l.dir l.count));
}

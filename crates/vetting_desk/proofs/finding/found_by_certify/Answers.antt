use Rattle.verdict.specs.Verdict.{Verdict}
use Rattle.app_folder.specs.FolderDue.{FolderDue}
use Rattle.vetting_desk.proofs.Commands.{certify_asks, found_said, found_halted}
use Rattle.vetting_desk.proofs.finding.found_by_certify.Goals as goal

pub returns-in-Ok : goal.returns-in-Ok
returns-in-Ok g c =
    rw c.said.ensures (found_said c.one_form_or_fault.ensures _ _ _ _ _ _ (certify_asks c.args.dir.now c.args.path.now (g.F.Files.told c.args.files.now) (g.F.Files.heard c.args.files.now) (g.F.Files.heard c.parts_in.new.files)) Verdict (λ printed status text has. has) (λ parts due gave is. FolderDue.given parts due gave is) c.in-Ok.parts _ _ _ c.certified.result c.in-Ok.ensures.gave c.in-Ok.ensures.value c.certified.ensures c.in-Ok.ensures.leaves.0 c.in-Ok.ensures.leaves.1)

pub returns-in-Err : goal.returns-in-Err
returns-in-Err g c =
    rw c.halted.ensures (found_halted c.one_form_or_fault.ensures _ _ _ _ _ _ (certify_asks c.args.dir.now c.args.path.now (g.F.Files.told c.args.files.now) (g.F.Files.heard c.args.files.now) (g.F.Files.heard c.parts_in.new.files)) _ _ _ c.in-Err.halt c.in-Err.ensures.value c.in-Err.ensures.gave c.in-Err.ensures.leaves c.in-Err.ensures.file)

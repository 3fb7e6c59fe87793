use Rattle.vetting_desk.proofs.Commands.{story_asks, found_stories, found_halted}
use Rattle.vetting_desk.proofs.finding.found_by_story.Goals as goal

pub returns-in-Ok : goal.returns-in-Ok
returns-in-Ok g c =
    rw c.said.ensures (found_stories c.one_form_or_fault.ensures _ _ _ _ c.in-Ok.parts _ _ _ c.storied.result c.in-Ok.ensures.gave c.in-Ok.ensures.value c.storied.ensures c.in-Ok.ensures.leaves.0 c.in-Ok.ensures.leaves.1)

pub returns-in-Err : goal.returns-in-Err
returns-in-Err g c =
    rw c.halted.ensures (found_halted c.one_form_or_fault.ensures _ _ _ _ _ _ (story_asks c.args.dir.now (g.F.Files.told c.args.files.now) (g.F.Files.heard c.args.files.now) (g.F.Files.heard c.parts_in.new.files)) _ _ _ c.in-Err.halt c.in-Err.ensures.value c.in-Err.ensures.gave c.in-Err.ensures.leaves c.in-Err.ensures.file)

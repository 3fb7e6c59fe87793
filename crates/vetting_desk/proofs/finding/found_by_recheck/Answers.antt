use Rattle.std.proofs.Common.{ℕ, List, Some, subst}
use Rattle.desk_words.specs.Words.{Recheck}
use Rattle.vetting_desk.specs.Found.{IsFound}
use Rattle.vetting_desk.proofs.Commands.{recheck_asks, found_by_file, found_halted}
use Rattle.vetting_desk.proofs.finding.found_by_recheck.Goals as goal

pub returns-in-Ok-parts_in : goal.returns-in-Ok-parts_in
returns-in-Ok-parts_in g c =
    let AtPath : List ℕ → Type 0 = λ p. IsFound (Some (Recheck c.args.dir.now p)) (g.F.Files.told c.args.files.now) (g.F.Files.told c.found_by_file.new.files) (g.F.Files.fault_count c.args.files.now) (g.F.Files.fault_count c.found_by_file.new.files) (g.F.Files.heard c.args.files.now) (g.F.Files.heard c.found_by_file.new.files) c.found_by_file.result in
    subst AtPath c.in-Ok.ensures.ok (found_by_file c.one_form_or_fault.ensures c.args.dir.now _ (g.F.Files.told c.args.files.now) (g.F.Files.told c.parts_in.new.files) (g.F.Files.heard c.args.files.now) (g.F.Files.heard c.parts_in.new.files) (g.F.Files.heard c.found_by_file.new.files) c.in-Ok-parts_in.parts _ _ _ _ c.found_by_file.result
    c.in-Ok-parts_in.ensures.gave c.found_by_file.ensures.heard c.in-Ok-parts_in.ensures.value c.in-Ok-parts_in.ensures.leaves.0 c.in-Ok-parts_in.ensures.leaves.1 c.found_by_file.ensures.finds)

pub returns-in-Err : goal.returns-in-Err
returns-in-Err g c =
    rw c.halted.ensures (found_halted c.one_form_or_fault.ensures _ _ _ _ _ _ (recheck_asks c.args.dir.now c.args.path.now (g.F.Files.told c.args.files.now) (g.F.Files.heard c.args.files.now) (g.F.Files.heard c.parts_in.new.files)) _ _ _ c.in-Err.halt c.in-Err.ensures.value c.in-Err.ensures.gave c.in-Err.ensures.leaves c.in-Err.ensures.file)

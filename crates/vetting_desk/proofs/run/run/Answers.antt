use Rattle.vetting_desk.proofs.Ending.{ends_heard, ends_finished}
use Rattle.vetting_desk.proofs.run.run.Goals as goal

pub returns : goal.returns
returns g c =
    ends_heard (g.F.Files.heard c.args.files.now) (g.F.Files.heard c.found_in-found.new.files) (g.F.Files.heard c.finished.new.files) _ _ _ c.finished.result.0 c.finished.ensures.heard
    (ends_finished (g.F.Files.heard c.args.files.now) (g.F.Files.heard c.found_in-found.new.files) _ (g.F.Files.told c.args.files.now) (g.F.Files.told c.found_in-found.new.files) (g.F.Files.told c.finished.new.files)
    (g.F.Files.fault_count c.args.files.now) (g.F.Files.fault_count c.found_in-found.new.files) (g.F.Files.fault_count c.finished.new.files)
    (g.O.Sink.taken c.args.out.now) (g.O.Sink.taken c.finished.new.out) (g.O.Sink.fault_count c.args.out.now) (g.O.Sink.fault_count c.finished.new.out)
    (g.O.Sink.handed c.args.out.now) (g.O.Sink.handed c.finished.new.out)
    c.found_in-found.result c.finished.result c.found_in-found.ensures c.finished.ensures.finishes)

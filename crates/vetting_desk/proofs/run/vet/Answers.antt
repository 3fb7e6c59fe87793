use Rattle.app_folder.specs.Outside.{outside}
use Rattle.vetting_desk.proofs.Clearing.{clear_end, handed_end}
use Rattle.vetting_desk.proofs.Ending.{ends_as_due, ends_as_read, ends_as_only_due, safe_end, full_end}
use Rattle.vetting_desk.proofs.run.vet.Goals as goal

pub returns-clause-ends : goal.returns-clause-ends
returns-clause-ends g c =
    ends_as_due (g.F.Files.heard c.args.files.now) (g.F.Files.heard c.run.new.files) _ (outside (g.F.Files.told c.args.files.now) (g.F.Files.fault_count c.args.files.now) (g.O.Sink.taken c.args.out.now) (g.O.Sink.fault_count c.args.out.now) (g.O.Sink.handed c.args.out.now))
    (outside (g.F.Files.told c.run.new.files) (g.F.Files.fault_count c.run.new.files) (g.O.Sink.taken c.run.new.out) (g.O.Sink.fault_count c.run.new.out) (g.O.Sink.handed c.run.new.out)) c.run.result.0 c.run.ensures

pub returns-clause-reads : goal.returns-clause-reads
returns-clause-reads g c =
    ends_as_read (g.F.Files.heard c.args.files.now) (g.F.Files.heard c.run.new.files) _ (outside (g.F.Files.told c.args.files.now) (g.F.Files.fault_count c.args.files.now) (g.O.Sink.taken c.args.out.now) (g.O.Sink.fault_count c.args.out.now) (g.O.Sink.handed c.args.out.now))
    (outside (g.F.Files.told c.run.new.files) (g.F.Files.fault_count c.run.new.files) (g.O.Sink.taken c.run.new.out) (g.O.Sink.fault_count c.run.new.out) (g.O.Sink.handed c.run.new.out)) c.run.result.0 c.run.ensures

pub returns-clause-only : goal.returns-clause-only
returns-clause-only g c =
    ends_as_only_due (g.F.Files.heard c.args.files.now) (g.F.Files.heard c.run.new.files) _ (outside (g.F.Files.told c.args.files.now) (g.F.Files.fault_count c.args.files.now) (g.O.Sink.taken c.args.out.now) (g.O.Sink.fault_count c.args.out.now) (g.O.Sink.handed c.args.out.now))
    (outside (g.F.Files.told c.run.new.files) (g.F.Files.fault_count c.run.new.files) (g.O.Sink.taken c.run.new.out) (g.O.Sink.fault_count c.run.new.out) (g.O.Sink.handed c.run.new.out)) c.run.result.0 c.run.ensures

pub returns-clause-sound : goal.returns-clause-sound
returns-clause-sound g c =
    safe_end (g.F.Files.heard c.args.files.now) (g.F.Files.heard c.run.new.files) _ (outside (g.F.Files.told c.args.files.now) (g.F.Files.fault_count c.args.files.now) (g.O.Sink.taken c.args.out.now) (g.O.Sink.fault_count c.args.out.now) (g.O.Sink.handed c.args.out.now))
    (outside (g.F.Files.told c.run.new.files) (g.F.Files.fault_count c.run.new.files) (g.O.Sink.taken c.run.new.out) (g.O.Sink.fault_count c.run.new.out) (g.O.Sink.handed c.run.new.out)) c.run.result.0 c.run.ensures

pub returns-clause-clear : goal.returns-clause-clear
returns-clause-clear g c =
    clear_end (g.F.Files.heard c.args.files.now) (g.F.Files.heard c.run.new.files) _ (outside (g.F.Files.told c.args.files.now) (g.F.Files.fault_count c.args.files.now) (g.O.Sink.taken c.args.out.now) (g.O.Sink.fault_count c.args.out.now) (g.O.Sink.handed c.args.out.now))
    (outside (g.F.Files.told c.run.new.files) (g.F.Files.fault_count c.run.new.files) (g.O.Sink.taken c.run.new.out) (g.O.Sink.fault_count c.run.new.out) (g.O.Sink.handed c.run.new.out)) c.run.result.0 c.run.ensures

pub returns-clause-handed : goal.returns-clause-handed
returns-clause-handed g c =
    handed_end (g.F.Files.heard c.args.files.now) (g.F.Files.heard c.run.new.files) _ (outside (g.F.Files.told c.args.files.now) (g.F.Files.fault_count c.args.files.now) (g.O.Sink.taken c.args.out.now) (g.O.Sink.fault_count c.args.out.now) (g.O.Sink.handed c.args.out.now))
    (outside (g.F.Files.told c.run.new.files) (g.F.Files.fault_count c.run.new.files) (g.O.Sink.taken c.run.new.out) (g.O.Sink.fault_count c.run.new.out) (g.O.Sink.handed c.run.new.out)) c.run.result.0 c.run.ensures

pub returns-clause-full : goal.returns-clause-full
returns-clause-full g c =
    full_end (g.F.Files.heard c.args.files.now) (g.F.Files.heard c.run.new.files) _ (outside (g.F.Files.told c.args.files.now) (g.F.Files.fault_count c.args.files.now) (g.O.Sink.taken c.args.out.now) (g.O.Sink.fault_count c.args.out.now) (g.O.Sink.handed c.args.out.now))
    (outside (g.F.Files.told c.run.new.files) (g.F.Files.fault_count c.run.new.files) (g.O.Sink.taken c.run.new.out) (g.O.Sink.fault_count c.run.new.out) (g.O.Sink.handed c.run.new.out)) c.run.result.0 c.run.ensures

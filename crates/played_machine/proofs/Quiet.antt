-- A safe app brings nothing undeclared to a sink, and comes to nothing that is not modelled.
use Rattle.std.proofs.Common.{ℕ, List}
use Rattle.vet_base.specs.Members.{In}
use Rattle.vet_base.proofs.Members.{none_in}
use Rattle.app_machine.specs.declared.app.App.{App}
use Rattle.app_machine.specs.declared.lists.Lists.{Lists}
use Rattle.app_machine.specs.declared.papers.Declaration.{Declaration}
use Rattle.app_machine.specs.Safe.{Safe}
use Rattle.app_machine.specs.SoundLists.{SoundLists}
use Rattle.app_model.specs.EventLaws.{EventsAreExact}
use Rattle.played_machine.specs.Drawn.{drawn}
use Rattle.played_machine.specs.Laws.{Quiet}
use Rattle.played_machine.specs.Local.{Playing}
use Rattle.played_machine.specs.Standing.{stands_of}
use Rattle.played_machine.proofs.Standing.{stands_from}
use Rattle.played_machine.proofs.Stepping.{runs_so}

pub quiet : (app : App) (lists : Lists) → EventsAreExact app lists → SoundLists lists → (declaration : Declaration) → Safe app lists declaration →
    (script : List ℕ) (s : Playing) → In s (drawn app lists script) → Quiet app lists declaration s
quiet app lists exact sound declaration safe script s h = record {
  declared = safe.declared s.world s.frames (runs_so app lists exact sound script s h);
  never_stands = none_in (stands_of app lists s.world s.frames) (λ stand at. safe.never_stands s.world s.frames (runs_so app lists exact sound script s h) stand.method stand.pc stand.cause (stands_from app lists exact s.world s.frames stand at));
}

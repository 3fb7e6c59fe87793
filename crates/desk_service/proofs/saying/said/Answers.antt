use Rattle.std.proofs.Common.{List, ap, refl, sym, subst, ◌∙◌}
use Rattle.heard_files.specs.Outside.{Entry}
use Rattle.desk_words.specs.Serve.{asked_words}
use Rattle.desk_service.specs.Opening.{GaveOffice, opened_of}
use Rattle.desk_service.proofs.Ended.{said_of_desk, said_of_halt}
use Rattle.desk_service.proofs.saying.said.Goals as goal

pub returns-in-Ok-clause-says : goal.returns-in-Ok-clause-says
returns-in-Ok-clause-says g c =
    let Gave : List Entry → Type 0 = λ h. GaveOffice (g.F.Files.heard c.args.outside.now.files) h c.args.asked.now.office.now (opened_of c.in-Ok.desk) in
    said_of_desk (asked_words c.args.asked.now) (g.C.Clock.told c.args.outside.now.clock) _ _ c.in-Ok.desk
    c.taken.result _ c.in-Ok.ensures.opens (
      ap g.F.Files.told c.taken.ensures.files ∙ c.in-Ok.ensures.leaves.0,
      ap g.F.Files.fault_count c.taken.ensures.files ∙ c.in-Ok.ensures.leaves.1,
    )
    (subst Gave (sym (ap g.F.Files.heard c.taken.ensures.files)) c.in-Ok.ensures.gave)
    c.taken.ensures.serves c.taken.ensures.cause c.closed.ensures

pub returns-in-Err-clause-says : goal.returns-in-Err-clause-says
returns-in-Err-clause-says g c =
    said_of_halt (asked_words c.args.asked.now) (g.C.Clock.told c.args.outside.now.clock) _ _ c.in-Err.halt _
    c.in-Err.ensures.opens c.in-Err.ensures.leaves refl c.halted.ensures

use Rattle.std.proofs.Common.{ℕ, List, Option, Some, refl, sym, ◌∙◌, ap, subst}
use Rattle.vet_base.specs.Outside.{Told}
use Rattle.heard_files.specs.Outside.{Entry}
use Rattle.desk_words.specs.declared.vetting.Vetting.{Vetting}
use Rattle.desk_words.specs.Words.{Words, vetting_words}
use Rattle.vetting_desk.specs.Due.{usage}
use Rattle.vetting_desk.specs.Found.{FindsDue, IsFound}
use Rattle.vetting_desk.proofs.Commands.{finds_usage}
use Rattle.vetting_desk.proofs.finding.found_in.Goals as goal

pub returns-in-None : goal.returns-in-None
returns-in-None g c =
    let At : Option Words → Type 0 = λ w. FindsDue w (g.F.Files.told c.args.files.now) (g.F.Files.heard c.args.files.now) (g.F.Files.heard c.args.files.now) usage in
    (subst At c.in-None.ensures.parsed (finds_usage (g.F.Files.told c.args.files.now) (g.F.Files.heard c.args.files.now)), refl, refl)

pub returns-in-Some-Make : goal.returns-in-Some-Make
returns-in-Some-Make g c =
    let told : Option Told = g.F.Files.told c.args.files.now in
    let count : ℕ = g.F.Files.fault_count c.args.files.now in
    let heard : List Entry = g.F.Files.heard c.args.files.now in
    let At : Option Words → Type 0 = λ w. IsFound w told told count count heard heard c.found_by_make.result in
    subst At (sym (ap (λ (k : Vetting). Some (vetting_words k)) c.in-Some-Make.field-0-is) ∙ c.in-Some-Make.ensures.parsed) (c.found_by_make.ensures told count heard)

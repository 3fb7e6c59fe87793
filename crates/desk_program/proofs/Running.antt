-- From how the parts of the program end to how it ends.
use Rattle.std.proofs.Common.{◌≡◌, ℕ, Option, Some, None, refl, sym, subst}
use Rattle.desk_service.specs.Serving as serving
use Rattle.desk_service.specs.Serving.{Seen, Ends}
use Rattle.desk_words.specs.Serve.{Serve}
use Rattle.vet_program.specs.Program.{Task as Other}
use Rattle.vet_program.specs.Program.{Runs as RunsOther}
use Rattle.desk_program.specs.Program.{task_in, World, without_desk, Runs}

-- the desk that the words ask for was served
pub of_serving : (parsed : Option Serve) (asked : Serve) (other : Other) (today : Option ℕ) (old new : World) (code : ℕ)
    → Some asked ≡ parsed → Ends asked today old.desk new.desk code → new.dials ≡ old.dials
    → Runs (task_in parsed other) today old new code
of_serving parsed asked other today old new code is ends dials =
    subst (λ (p : Option Serve). Runs (task_in p other) today old new code) is (ends, dials)

-- they ask for none
pub of_other : (parsed : Option Serve) (other : Other) (today : Option ℕ) (old new : World) (code : ℕ)
    → None ≡ parsed → RunsOther other (without_desk old) (without_desk new) code → new.desk.desk ≡ old.desk.desk
    → Runs (task_in parsed other) today old new code
of_other parsed other today old new code is runs desk =
    subst (λ (p : Option Serve). Runs (task_in p other) today old new code) is (runs, desk)

desk_seven : (asked : Serve) (today : Option ℕ) (old : Seen) → Ends asked today old old 7
desk_seven asked today old =
    serving.Ends.memory (serving.RunsOut.unopened (record { files = refl; faults = refl }) refl)
    (record { printed = refl; count = refl; handed = refl })

-- memory ran out before anything was done
pub of_no_memory : (asked : Serve) (today : Option ℕ) (old new : Seen) (code : ℕ) → new ≡ old → code ≡ 7
    → Ends asked today old new code
of_no_memory asked today old new code same seven =
    let AtNew : Seen → Type 0 = λ seen. Ends asked today old seen code in
    let AtCode : ℕ → Type 0 = λ n. Ends asked today old old n in
    subst AtNew (sym same) (subst AtCode (sym seven) (desk_seven asked today old))

-- How the program does not end, whatever runs it. Behind each fact stands what a slip would do.
use Rattle.std.specs.Prelude.{◌≡◌, ℕ, ◌≤◌, List, [], ◌∷◌, Option, Some, None, Err, Ok, codes}
use Rattle.std.specs.declared.io.Error.{Error}
use Rattle.std.specs.declared.io.ErrorKind.TheVariants.{OutOfMemory}
use Rattle.std.specs.IoError.{error_kind}
use Rattle.vet_base.specs.Outside.{WritesFile}
use Rattle.app_folder.specs.Due.{Due, NewFile}
use Rattle.app_folder.specs.Outside.{TellsInput}
use Rattle.desk_words.specs.Words.{Certify}
use Rattle.vetting_desk.specs.Answer.{Answers}
use Rattle.vet_program.specs.Program.{Submitting, Vetting, vetted_of, RunsGiven}
use Rattle.desk_program.specs.Program.{Serving, Without, task_of, World, without_desk, Runs}

-- the words `certify d c`, `serve o 2` and `submit d r`
abbrev pub certify_words : List (List ℕ)
certify_words = codes "certify" ∷ codes "d" ∷ codes "c" ∷ []

abbrev pub serve_words : List (List ℕ)
serve_words = codes "serve" ∷ codes "o" ∷ codes "2" ∷ []

abbrev pub submit_words : List (List ℕ)
submit_words = codes "submit" ∷ codes "d" ∷ codes "r" ∷ []

-- where the program is asked for a certificate and this is due, and nothing else
pub record NoProgram (dir cert : List ℕ) (today : Option ℕ) (old new : World) (due : Due) : Type 0 where
  -- what is flagged is not clear (else status 0)
  pub flagged : Answers (Some (Certify dir cert)) (vetted_of (without_desk old)).tells due → due.status ≡ 1
      → TellsInput (vetted_of (without_desk old)).tells → Runs (Without (Vetting (Some (Certify dir cert)))) today old new 0 → ⊥
  -- a certificate that is due is written (else none, as by `check`)
  pub written : Answers (Some (Certify dir cert)) (vetted_of (without_desk old)).tells due → (file : NewFile) → due.written ≡ Some file
      → TellsInput (vetted_of (without_desk old)).tells → (n : ℕ) → n ≤ 2 → Runs (Without (Vetting (Some (Certify dir cert)))) today old new n
      → WritesFile old.desk.files new.desk.files file.0 file.1 (Ok tt)

pub record ProgramsEnd : Type 0 where
  pub no_program : (dir cert : List ℕ) (today : Option ℕ) (old new : World) (due : Due) → NoProgram dir cert today old new due
  -- the words say what is asked for (else what another word asks for, or a usage)
  pub certifies : task_of certify_words ≡ Without (Vetting (Some (Certify (codes "d") (codes "c"))))
  pub serves : task_of serve_words ≡ Serving (record { office = codes "o"; most = 2 })
  pub submits : task_of submit_words ≡ Without (Submitting (record { dir = codes "d"; reference = codes "r" }))
  pub no_command : task_of [] ≡ Without (Vetting None)
  -- words for which memory ran out end with 7 (else with 4, as a usage)
  pub no_words : (e : Error) (today : Option ℕ) (old new : World) (status : ℕ) → error_kind e ≡ OutOfMemory → status ≡ 4
      → RunsGiven (Err e) (λ words. Runs (task_of words) today old new status) ((status ≡ 7) × (new ≡ old)) → ⊥

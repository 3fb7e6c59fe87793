-- The program ends as its words ask.
use Rattle.std.proofs.Common.{◌≡◌, ℕ, List, Option, Some, Err, refl, arith, subst}
use Rattle.std.specs.declared.io.Error.{Error}
use Rattle.std.specs.declared.io.ErrorKind.TheVariants.{OutOfMemory}
use Rattle.std.specs.IoError.{error_kind}
use Rattle.desk_words.specs.Numbers.{digits as spelled, number, positive}
use Rattle.desk_words.specs.Serve.{is_serve, count_of}
use Rattle.desk_words.specs.Words.{Certify, is_file_name, is_check, is_certify, is_recheck}
use Rattle.client_service.specs.Words.{is_submit}
use Rattle.app_folder.specs.Due.{Due, NewFile}
use Rattle.vetting_desk.specs.Top.{Writes}
use Rattle.vet_program.specs.Program.{vetted_of, RunsGiven}
use Rattle.desk_program.specs.Program.{World, without_desk, task_of, Runs}
use Rattle.run_witness.specs.Programs.{NoProgram, ProgramsEnd}
use Rattle.run_witness.proofs.Vetting.{no_vetting, ends_written}

no_program : (dir cert : List ℕ) (today : Option ℕ) (old new : World) (due : Due) → NoProgram dir cert today old new due
no_program dir cert today old new due = record {
  flagged = λ answers is told runs.
      (no_vetting (Some (Certify dir cert)) (vetted_of (without_desk old)) (vetted_of (without_desk new)) due).flagged is (runs.0.0.only told due answers);
  written = λ answers file is told n low runs.
      let AtFile : Option NewFile → Type 0 = λ f. Writes f old.desk.files new.desk.files in
      subst AtFile is (ends_written (Some (Certify dir cert)) (vetted_of (without_desk old)) (vetted_of (without_desk new)) due n low (runs.0.0.only told due answers)).files;
}

no_words : (e : Error) (today : Option ℕ) (old new : World) (status : ℕ) → error_kind e ≡ OutOfMemory → status ≡ 4
    → RunsGiven (Err e) (λ words. Runs (task_of words) today old new status) ((status ≡ 7) × (new ≡ old)) → ⊥
no_words e today old new status is four given = let seven : status ≡ 7 = (given.0 is).0 in omega (arith, four, seven)

pub programs_end : ProgramsEnd
unfolding is_serve is_file_name count_of positive number spelled is_check is_certify is_recheck is_submit
programs_end = record {
  no_program = no_program;
  certifies = refl;
  serves = refl;
  submits = refl;
  no_command = refl;
  no_words = no_words;
}

use Rattle.std.proofs.Common.{refl, ◌∙◌}
use Rattle.vet_base.specs.declared.outside.FileFault.TheVariants as faults
use Rattle.app_folder.proofs.Hearing.{refused_at}
use Rattle.app_folder.proofs.folder.part_in.Goals as goal

pub returns-in-Err-Absent-clause-heard : goal.returns-in-Err-Absent-clause-heard
returns-in-Err-Absent-clause-heard g c =
    refused_at _ _ c.as_str.result.now _ _ faults.Absent _ _ (c.as_str.ensures.value ∙ c.in_ok-name.ensures) c.in-Err-Absent.field-0-is c.in-Err-Absent.ensures.heard refl

pub returns-in-Err-TooLong-clause-heard : goal.returns-in-Err-TooLong-clause-heard
returns-in-Err-TooLong-clause-heard g c =
    refused_at _ _ c.as_str.result.now _ _ faults.TooLong _ _ (c.as_str.ensures.value ∙ c.in_ok-name.ensures) c.in-Err-TooLong.field-0-is c.in-Err-TooLong.ensures.heard refl

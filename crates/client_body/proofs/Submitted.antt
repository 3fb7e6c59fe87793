-- The value of a body is a submission, and so a POST with that body is one.
use Rattle.std.proofs.Common.{◌≡◌, ℕ, true, nat_le, List, length, map, Some, Ok, refl}
use Rattle.std.proofs.lemmas.List.{length-map}
use Rattle.store_office.specs.Reference.{is_reference}
use Rattle.case_rules.specs.declared.command.Command.TheVariants as commands
use Rattle.desk_routes.specs.Faults.{key_of}
use Rattle.desk_routes.specs.Bodies.{json_of, text_at, name_at, list_at, dex_at, submission, all_decoded}
use Rattle.desk_routes.specs.Routes.{cases}
use Rattle.desk_routes.specs.Turns.{command_for, run_of}
use Rattle.client_body.specs.Bodies.{dex_text, body_value, IsSubmission}
use Rattle.client_body.proofs.Encoded.{listed_texts}

module _ (reference manifest layouts declaration : List ℕ) (dex : List (List ℕ)) where
  submission_there : is_reference reference ≡ true → nat_le 1 (length dex) ≡ true → nat_le (length dex) 16 ≡ true → all_decoded (map dex_text dex) ≡ Some dex
      → submission (body_value reference manifest layouts declaration dex)
      ≡ Ok (commands.Submit reference (record { manifest = manifest; layouts = layouts; declaration = declaration; dex = dex }))
  unfolding submission name_at text_at list_at dex_at body_value key_of
  submission_there formed some few back = rw (formed, listed_texts (map dex_text dex), length-map dex dex_text, some, few, back) refl

  -- the submission of a body with this value
  pub submission_of : (body : List ℕ) → json_of body ≡ Ok (body_value reference manifest layouts declaration dex)
      → is_reference reference ≡ true → nat_le 1 (length dex) ≡ true → nat_le (length dex) 16 ≡ true → all_decoded (map dex_text dex) ≡ Some dex
      → IsSubmission reference (record { manifest = manifest; layouts = layouts; declaration = declaration; dex = dex }) body
  unfolding run_of cases command_for
  submission_of body reads formed some few back office party token found role = rw (found, role, reads, submission_there formed some few back) refl

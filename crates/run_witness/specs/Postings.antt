-- That a folder gives one thing to be sent. Behind the fact stands what a slip would leave open.
use Rattle.std.specs.Prelude.{◌≡◌, Option, Result, IsTrue, is_some}
use Rattle.vet_base.specs.Outside.{Told}
use Rattle.client_service.specs.declared.ready.Refusal.{Refusal}
use Rattle.client_service.specs.Posting.{Posting, Posts}
use Rattle.client_service.specs.Words.{Submit}

-- Where its files are told, a folder gives one client with one app, or one refusal (else of two faults either might be said, or
-- something be sent where there is a fault).
abbrev pub OnePosting : Type 0
OnePosting =
    (told : Option Told) (asked : Submit) (a b : Result Posting Refusal) → IsTrue (is_some told)
    → Posts told asked a → Posts told asked b → a ≡ b

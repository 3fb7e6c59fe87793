-- From the files of a folder and the request, to what the folder gives to be sent.
use Rattle.std.proofs.Common.{◌≡◌, ℕ, List, Option, Ok, Err, refl, sym, subst}
use Rattle.std.specs.Prelude.{Vec}
use Rattle.std.specs.declared.alloc.Global.{Global}
use Rattle.vet_base.specs.Outside.{Told}
use Rattle.case_rules.specs.declared.case.Content.{Content}
use Rattle.client_form.specs.declared.client.Client.{Client}
use Rattle.client_http.specs.ReadAs.{IsReadAs}
use Rattle.verdict.specs.declared.outcome.Part.{Part}
use Rattle.client_service.specs.declared.ready.Refusal.TheVariants.{Client as BadClient, File, NotText, TooLong}
use Rattle.client_service.specs.declared.ready.Halt.{Halt}
use Rattle.client_service.specs.declared.ready.Halt.TheVariants.{Refused, ReadFault, Memory}
use Rattle.client_service.specs.Clients.{SaysClient, ReadsClient}
use Rattle.client_service.specs.Content.{GathersTold}
use Rattle.client_service.specs.Posting.{Posting, IsIn, Posts, GivesApp, MakesRequest, Readies}
use Rattle.client_service.specs.Words.{Submit}

module _ (told : Option Told) (asked : Submit) where
  -- the client's file is refused, or was not read
  pub no_client : (halt : Halt) → ReadsClient told asked.dir (Err halt) → Readies told asked (Err halt)
  no_client (Refused (BadClient unfit)) is = Posts.bad_client unfit is
  no_client (Refused (File part reason)) is = absurd is
  no_client (Refused (NotText part)) is = absurd is
  no_client (Refused TooLong) is = absurd is
  no_client (ReadFault name) is = tt
  no_client Memory is = tt

  module _ (client : Client) (says : SaysClient told asked.dir client) (mid : Option Told) (same : mid ≡ told) where
    -- a file of the app is refused, or was not read
    pub no_app : (halt : Halt) → GivesApp mid asked.dir (Err halt) → Readies told asked (Err halt)
    no_app (Refused (BadClient unfit)) is = absurd is
    no_app (Refused (File part reason)) is =
        Posts.bad_file client part reason says (subst (λ (t : Option Told). GathersTold t asked.dir (Err (part, reason))) same is)
    no_app (Refused (NotText part)) is = absurd is
    no_app (Refused TooLong) is = absurd is
    no_app (ReadFault name) is = tt
    no_app Memory is = tt

    module _ (content : Content) (gives : GivesApp mid asked.dir (Ok content)) where
      abbrev Given : Posting
      Given = record { client = client; content = content }

      given : IsIn told asked.dir Given
      given = record {
        client = says;
        content = subst (λ (t : Option Told). GathersTold t asked.dir (Ok content)) same gives;
      }

      -- no request is made of it
      pub no_request : (halt : Halt) → MakesRequest client.token asked.reference content (Err halt) → Readies told asked (Err halt)
      no_request (Refused (BadClient unfit)) is = absurd is
      no_request (Refused (File part reason)) is = absurd is
      no_request (Refused (NotText part)) is =
          subst (λ (p : Part). Posts told asked (Err (NotText p))) (sym is.2) (Posts.not_text Given is.0 given is.1)
      no_request (Refused TooLong) is = Posts.long_body Given given is.0 is.1
      no_request (ReadFault name) is = absurd is
      no_request Memory is = tt

      -- the request is made
      pub readied : (request : Vec ℕ Global) → MakesRequest client.token asked.reference content (Ok request)
          → Readies told asked (Ok (record { client = client; request = request }))
      readied request is = record {
        posting = Given;
        posts = Posts.fits Given given is.0 is.1;
        client_is = refl;
        request_is = is.2;
        read = subst (λ (bytes : List ℕ). IsReadAs client.token asked.reference content bytes) is.2 is.3;
      }

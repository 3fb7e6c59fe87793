-- What a folder gives to be sent under a reference: a client and its app, or the first refusal.
use Rattle.std.specs.Prelude.{◌≡◌, ◌<◌, ◌≤◌, ℕ, ◌==◌, List, length, Option, Some, None, Result, Ok, Err, Vec, if◌then◌else◌}
use Rattle.std.specs.declared.alloc.Global.{Global}
use Rattle.vet_base.specs.Outside.{Told}
use Rattle.case_rules.specs.declared.case.Content.{Content}
use Rattle.client_form.specs.declared.client.Client.{Client}
use Rattle.client_body.specs.Bodies.{body_of}
use Rattle.client_http.specs.ReadAs.{IsReadAs}
use Rattle.client_http.specs.Submissions.{first_not_text, request_of}
use Rattle.verdict.specs.declared.outcome.Part.{Part}
use Rattle.verdict.specs.declared.outcome.Part.TheVariants.{Manifest, Layouts, Declaration}
use Rattle.verdict.specs.declared.outcome.Reason.{Reason}
use Rattle.app_folder.specs.declared.folder.Halt.{Halt as FolderHalt}
use Rattle.app_folder.specs.declared.folder.Halt.TheVariants as folders
use Rattle.verdict_report.specs.declared.unfit.Unfit.{Unfit}
use Rattle.client_service.specs.declared.ready.Refusal.{Refusal}
use Rattle.client_service.specs.declared.ready.Refusal.TheVariants.{Client as BadClient, File, NotText, TooLong}
use Rattle.client_service.specs.declared.ready.Halt.{Halt}
use Rattle.client_service.specs.declared.ready.Halt.TheVariants.{Refused, ReadFault, Memory}
use Rattle.client_service.specs.declared.ready.Ready.{Ready}
use Rattle.client_service.specs.Clients.{IsUnfit, SaysClient}
use Rattle.client_service.specs.Content.{GathersTold}
use Rattle.client_service.specs.Words.{Submit}

-- a client, and an app that it hands in
pub record Posting : Type 0 where
  pub client : Client
  pub content : Content

-- The folder gives both.
pub record IsIn (told : Option Told) (dir : List ℕ) (posting : Posting) : Type 0 where
  pub client : SaysClient told dir posting.client
  pub content : GathersTold told dir (Ok posting.content)

-- the request that is sent
abbrev pub request_for : List ℕ → Posting → List ℕ
request_for reference posting = request_of posting.client.token reference posting.content

-- the first text of an app that is not UTF-8, by its number
abbrev pub text_part : ℕ → Part
text_part number = if number == 0 then Manifest else if number == 1 then Layouts else Declaration

-- What a folder gives to be sent: the client's file is refused, or a file of the app, or a text that is not UTF-8, or a body of
-- more than 67,108,864 bytes; or else there are both.
pub data Posts (told : Option Told) (asked : Submit) : Result Posting Refusal → Type 0 where
  bad_client : (unfit : Unfit) → IsUnfit told asked.dir unfit → Posts told asked (Err (BadClient unfit))
  bad_file : (client : Client) (part : Part) (reason : Reason) → SaysClient told asked.dir client
      → GathersTold told asked.dir (Err (part, reason)) → Posts told asked (Err (File part reason))
  not_text : (posting : Posting) (number : ℕ) → IsIn told asked.dir posting → first_not_text posting.content ≡ Some number
      → Posts told asked (Err (NotText (text_part number)))
  long_body : (posting : Posting) → IsIn told asked.dir posting → first_not_text posting.content ≡ None
      → 67108864 < length (body_of asked.reference posting.content) → Posts told asked (Err TooLong)
  fits : (posting : Posting) → IsIn told asked.dir posting → first_not_text posting.content ≡ None
      → length (body_of asked.reference posting.content) ≤ 67108864 → Posts told asked (Ok posting)

-- The folder gives this to be sent, and these bytes are its request, which the desk reads as that submission.
pub record IsReady (told : Option Told) (asked : Submit) (ready : Ready) : Type 0 where
  pub posting : Posting
  pub posts : Posts told asked (Ok posting)
  pub client_is : ready.client ≡ posting.client
  pub request_is : ready.request.items ≡ request_for asked.reference posting
  pub read : IsReadAs posting.client.token asked.reference posting.content (request_for asked.reference posting)

-- what a folder came to, unless its reading was broken off
abbrev pub Readies : Option Told → Submit → Result Ready Halt → Type 0
Readies told asked (Ok ready) = IsReady told asked ready
Readies told asked (Err (Refused refusal)) = Posts told asked (Err refusal)
Readies told asked (Err (ReadFault name)) = Unit {0}
Readies told asked (Err Memory) = Unit {0}

-- the same, as a halt of the submission
abbrev pub HaltsAs : FolderHalt → Halt → Type 0
HaltsAs (folders.Refused part reason) halt = halt ≡ Refused (File part reason)
HaltsAs (folders.ReadFault name) halt = halt ≡ ReadFault name
HaltsAs folders.Memory halt = halt ≡ Memory

-- what the files of the app came to
abbrev pub GivesApp : Option Told → List ℕ → Result Content Halt → Type 0
GivesApp told dir (Ok content) = GathersTold told dir (Ok content)
GivesApp told dir (Err (Refused (File part reason))) = GathersTold told dir (Err (part, reason))
GivesApp told dir (Err (Refused _)) = ⊥
GivesApp told dir (Err (ReadFault name)) = Unit {0}
GivesApp told dir (Err Memory) = Unit {0}

-- what making the request came to
abbrev pub MakesRequest : List ℕ → List ℕ → Content → Result (Vec ℕ Global) Halt → Type 0
MakesRequest token reference content (Ok bytes) =
    (first_not_text content ≡ None) × (length (body_of reference content) ≤ 67108864) × (bytes.items ≡ request_of token reference content)
    × IsReadAs token reference content bytes.items
MakesRequest token reference content (Err (Refused (NotText part))) =
    (number : ℕ) × (first_not_text content ≡ Some number) × (part ≡ text_part number)
MakesRequest token reference content (Err (Refused TooLong)) =
    (first_not_text content ≡ None) × (67108864 < length (body_of reference content))
MakesRequest token reference content (Err (Refused _)) = ⊥
MakesRequest token reference content (Err (ReadFault name)) = ⊥
MakesRequest token reference content (Err Memory) = Unit {0}

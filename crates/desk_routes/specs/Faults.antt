-- Why a request is no command, what it is answered, and how tests follow each other.
use Rattle.std.specs.Prelude.{◌≡◌, ℕ, Bool, true, false, List, ◌++◌, Option, Some, None, Result, Ok, Err, codes}
use Rattle.vet_base.specs.declared.stop.Stop.{Stop}
use Rattle.vet_base.specs.declared.stop.Stop.TheVariants as stops
use Rattle.desk_http.specs.declared.reply.Answer.{Answer}
use Rattle.desk_answers.specs.Answers.{error_answer}
use Rattle.desk_routes.specs.declared.fault.Field.{Field}
use Rattle.desk_routes.specs.declared.fault.Field.TheVariants.{Declaration, Developer, Dex, Layouts, Manifest, Reference, Ruling, Text}
use Rattle.desk_routes.specs.declared.fault.Fault.{Fault}
use Rattle.desk_routes.specs.declared.fault.Fault.TheVariants.{NoRoute, NoMethod, NoToken, WrongRole, NotJson, Bad}

-- the key of a field in a body
unfoldable pub key_of : Field → List ℕ
key_of Declaration = codes "declaration"
key_of Developer = codes "developer"
key_of Dex = codes "dex"
key_of Layouts = codes "layouts"
key_of Manifest = codes "manifest"
key_of Reference = codes "reference"
key_of Ruling = codes "ruling"
key_of Text = codes "text"

-- the status (RFC 9110, section 15.5)
abbrev pub status_of : Fault → ℕ
status_of NoRoute = 404
status_of NoMethod = 405
status_of NoToken = 401
status_of WrongRole = 403
status_of NotJson = 400
status_of (Bad field) = 422

unfoldable pub text_of : Fault → List ℕ
text_of NoRoute = codes "no route"
text_of NoMethod = codes "no such method"
text_of NoToken = codes "no such token"
text_of WrongRole = codes "wrong role"
text_of NotJson = codes "not json"
text_of (Bad field) = codes "field " ++ key_of field

abbrev pub answer_to : Fault → Answer
answer_to fault = error_answer (status_of fault) (text_of fault)

-- one test after another, up to the first fault; this is what `do` stands for
infixl 10 ◌>>=◌
abbrev pub ◌>>=◌ : {A B : Type 0} → Result A Fault → (A → Result B Fault) → Result B Fault
(Ok x) >>= f = f x
(Err fault) >>= f = Err fault

-- goes on where the test holds
abbrev pub allow : Bool → Fault → Result (Unit {0}) Fault
allow true fault = Ok tt
allow false fault = Err fault

-- goes on with what is there
abbrev pub known : {A : Type 0} → Option A → Fault → Result A Fault
known None fault = Err fault
known (Some x) fault = Ok x

-- What a function returned, seen by a view of its value, is what is due, unless memory ran out.
abbrev pub Gives : {X Y : Type 0} → (X → Y) → Result X (Stop Fault) → Result Y Fault → Type 0
Gives view (Ok x) due = due ≡ Ok (view x)
Gives view (Err stops.Memory) due = Unit {0}
Gives view (Err (stops.Fault fault)) due = due ≡ Err fault

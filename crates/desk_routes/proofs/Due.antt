-- What holds of a command that passed the tests.
use Rattle.std.proofs.Common.{◌≡◌, ℕ, List, Bool, true, false, Option, Some, None, Result, Ok, Err, refl, ap, sym, subst, option_map, option_and_then}
use Rattle.std.specs.Prelude.{IsTrue}
use Rattle.serde_json.specs.Data.{Data}
use Rattle.case_rules.specs.declared.case.Content.{Content}
use Rattle.case_rules.specs.declared.case.RulingWord.{RulingWord}
use Rattle.store_office.specs.declared.party.Party.{Party}
use Rattle.case_rules.specs.declared.command.Command.{Command}
use Rattle.case_rules.specs.declared.command.Command.TheVariants as commands
use Rattle.case_rules.specs.Docket.{IsFormed, is_appeal_text}
use Rattle.store_office.specs.Reference.{is_reference}
use Rattle.store_office.specs.declared.office.Office.{Office}
use Rattle.desk_routes.specs.declared.fault.Field.{Field}
use Rattle.desk_routes.specs.declared.fault.Field.TheVariants.{Declaration, Developer, Dex, Layouts, Manifest, Reference, Ruling, Text}
use Rattle.desk_routes.specs.declared.fault.Fault.{Fault}
use Rattle.desk_routes.specs.declared.fault.Fault.TheVariants.{NoRoute, NoMethod, NoToken, WrongRole, NotJson, Bad}
use Rattle.desk_routes.specs.declared.target.Page.{Page}
use Rattle.desk_routes.specs.declared.target.Act.{Act}
use Rattle.desk_routes.specs.declared.target.Act.TheVariants.{Submit, List as ListCases, Show, Report, Appeal, Decide, Review, Rule}
use Rattle.desk_routes.specs.Faults.{◌>>=◌, allow, known}
use Rattle.desk_routes.specs.Routes.{route_of, act_of, may_ask}
use Rattle.desk_routes.specs.Bodies.{json_of, text_at, name_at, dex_at, word_at, submission, appeal, review, ruling}
use Rattle.desk_routes.specs.Turns.{command_for, party_of, run_of}

abbrev passed : {A : Type 0} → A → Result A Fault
passed x = Ok x

same_Ok : {A : Type 0} (x y : A) → passed x ≡ passed y → x ≡ y
same_Ok x y e = cc

-- a text that passed a test has it
tested : (test : List ℕ → Bool) (b : Bool) (t : List ℕ) (fault : Fault) (text : List ℕ) → test t ≡ b
    → (allow b fault >>= λ _. Ok t) ≡ Ok text → test text ≡ true
tested test true t fault text is e = subst (λ (u : List ℕ). test u ≡ true) (same_Ok t text e) is
tested test false t fault text is e = absurd cc

named_by : (found : Result (List ℕ) Fault) (fault : Fault) (text : List ℕ)
    → (found >>= λ t. allow (is_reference t) fault >>= λ _. Ok t) ≡ Ok text → is_reference text ≡ true
named_by (Ok t) fault text e = tested is_reference (is_reference t) t fault text refl e
named_by (Err other) fault text e = absurd cc

named : (field : Field) (value : Data) (text : List ℕ) → name_at field value ≡ Ok text → is_reference text ≡ true
unfolding name_at
named field value text e = named_by (text_at field value) (Bad field) text e

submitted_by : (r m l d : Result (List ℕ) Fault) (x : Result (List (List ℕ)) Fault) (command : Command)
    → ((text : List ℕ) → r ≡ Ok text → is_reference text ≡ true)
    → (r >>= λ reference. m >>= λ manifest. l >>= λ layouts. d >>= λ declaration. x >>= λ dex.
    Ok (commands.Submit reference (record { manifest = manifest; layouts = layouts; declaration = declaration; dex = dex })))
    ≡ Ok command → IsFormed command
submitted_by (Ok r) (Ok m) (Ok l) (Ok d) (Ok x) command h e = subst IsFormed (same_Ok _ _ e) (h r refl)
submitted_by (Ok r) (Ok m) (Ok l) (Ok d) (Err fault) command h e = absurd cc
submitted_by (Ok r) (Ok m) (Ok l) (Err fault) x command h e = absurd cc
submitted_by (Ok r) (Ok m) (Err fault) d x command h e = absurd cc
submitted_by (Ok r) (Err fault) l d x command h e = absurd cc
submitted_by (Err fault) m l d x command h e = absurd cc

submitted : (value : Data) (command : Command) → submission value ≡ Ok command → IsFormed command
unfolding submission
submitted value command e =
    submitted_by (name_at Reference value) (text_at Manifest value) (text_at Layouts value) (text_at Declaration value)
    (dex_at value) command (named Reference value) e

appealed_at : (b : Bool) (reference text : List ℕ) (command : Command) → is_appeal_text text ≡ b
    → (allow b (Bad Text) >>= λ _. Ok (commands.Appeal reference text)) ≡ Ok command → IsFormed command
appealed_at true reference text command is e = subst IsFormed (same_Ok _ _ e) is
appealed_at false reference text command is e = absurd cc

appealed_by : (t : Result (List ℕ) Fault) (reference : List ℕ) (command : Command)
    → (t >>= λ text. allow (is_appeal_text text) (Bad Text) >>= λ _. Ok (commands.Appeal reference text)) ≡ Ok command
    → IsFormed command
appealed_by (Ok text) reference command e = appealed_at (is_appeal_text text) reference text command refl e
appealed_by (Err fault) reference command e = absurd cc

appealed : (reference : List ℕ) (value : Data) (command : Command) → appeal reference value ≡ Ok command → IsFormed command
unfolding appeal
appealed reference value command e = appealed_by (text_at Text value) reference command e

reviewed_by : (d r : Result (List ℕ) Fault) (command : Command)
    → (d >>= λ developer. r >>= λ reference. Ok (commands.Review developer reference)) ≡ Ok command → IsFormed command
reviewed_by (Ok d) (Ok r) command e = subst IsFormed (same_Ok _ _ e) tt
reviewed_by (Ok d) (Err fault) command e = absurd cc
reviewed_by (Err fault) r command e = absurd cc

reviewed : (value : Data) (command : Command) → review value ≡ Ok command → IsFormed command
unfolding review
reviewed value command e = reviewed_by (name_at Developer value) (name_at Reference value) command e

ruled_by : (d r : Result (List ℕ) Fault) (w : Result RulingWord Fault) (command : Command)
    → (d >>= λ developer. r >>= λ reference. w >>= λ word. Ok (commands.Rule developer reference word)) ≡ Ok command
    → IsFormed command
ruled_by (Ok d) (Ok r) (Ok w) command e = subst IsFormed (same_Ok _ _ e) tt
ruled_by (Ok d) (Ok r) (Err fault) command e = absurd cc
ruled_by (Ok d) (Err fault) w command e = absurd cc
ruled_by (Err fault) r w command e = absurd cc

ruled : (value : Data) (command : Command) → ruling value ≡ Ok command → IsFormed command
unfolding ruling
ruled value command e = ruled_by (name_at Developer value) (name_at Reference value) (word_at value) command e

-- a command out of a body
read_by : (read : Result Data Fault) (f : Data → Result Command Fault) (command : Command)
    → ((value : Data) (c : Command) → f value ≡ Ok c → IsFormed c) → read >>= f ≡ Ok command → IsFormed command
read_by (Ok value) f command h e = h value command e
read_by (Err fault) f command h e = absurd cc

formed : (act : Act) (reference body : List ℕ) (command : Command) → command_for act reference body ≡ Ok command → IsFormed command
unfolding command_for
formed Submit reference body command e = read_by (json_of body) submission command submitted e
formed ListCases reference body command e = subst IsFormed (same_Ok _ _ e) tt
formed Show reference body command e = subst IsFormed (same_Ok _ _ e) tt
formed Report reference body command e = subst IsFormed (same_Ok _ _ e) tt
formed Appeal reference body command e = read_by (json_of body) (appeal reference) command (appealed reference) e
formed Decide reference body command e = subst IsFormed (same_Ok _ _ e) tt
formed Review reference body command e = read_by (json_of body) review command reviewed e
formed Rule reference body command e = read_by (json_of body) ruling command ruled e

abbrev both : Party → Command → Result (Party × Command) Fault
both party command = Ok (party, command)

-- the tests from the last to the first
at_body : (asking : Party) (m : Result Command Fault) (party : Party) (command : Command)
    → ((c : Command) → m ≡ Ok c → IsFormed c) → (m >>= λ c. both asking c) ≡ Ok (party, command)
    → (asking ≡ party) × IsFormed command
at_body asking (Ok c) party command h e =
    let same : (asking, c) ≡ (party, command) = same_Ok _ _ e in
    (ap (λ (r : Party × Command). r.0) same, subst IsFormed (ap (λ (r : Party × Command). r.1) same) (h c refl))
at_body asking (Err fault) party command h e = absurd cc

at_role : (b : Bool) (asking : Party) (m : Result Command Fault) (party : Party) (command : Command)
    → ((c : Command) → m ≡ Ok c → IsFormed c)
    → (allow b WrongRole >>= λ _. m >>= λ c. both asking c) ≡ Ok (party, command)
    → (asking ≡ party) × IsFormed command
at_role true asking m party command h e = at_body asking m party command h e
at_role false asking m party command h e = absurd cc

at_token : (o : Option Party) (act : Act) (m : Result Command Fault) (party : Party) (command : Command)
    → ((c : Command) → m ≡ Ok c → IsFormed c)
    → (known o NoToken >>= λ asking. allow (may_ask asking.role act) WrongRole >>= λ _. m >>= λ c. both asking c)
    ≡ Ok (party, command)
    → (o ≡ Some party) × IsFormed command
at_token (Some asking) act m party command h e =
    let done = at_role (may_ask asking.role act) asking m party command h e in
    (ap Some done.0, done.1)
at_token None act m party command h e = absurd cc

at_method : (a : Option Act) (o : Option Party) (reference body : List ℕ) (party : Party) (command : Command)
    → (known a NoMethod >>= λ act. known o NoToken >>= λ asking. allow (may_ask asking.role act) WrongRole
    >>= λ _. command_for act reference body >>= λ c. both asking c)
    ≡ Ok (party, command)
    → (o ≡ Some party) × IsFormed command
at_method (Some act) o reference body party command e =
    at_token o act (command_for act reference body) party command (formed act reference body) e
at_method None o reference body party command e = absurd cc

at_target : (found : Option (Page × List ℕ)) (post : Bool) (o : Option Party) (body : List ℕ) (party : Party) (command : Command)
    → (known found NoRoute >>= λ route. known (act_of route.0 post) NoMethod >>= λ act. known o NoToken
    >>= λ asking. allow (may_ask asking.role act) WrongRole >>= λ _. command_for act route.1 body
    >>= λ c. both asking c)
    ≡ Ok (party, command)
    → (o ≡ Some party) × IsFormed command
at_target (Some route) post o body party command e = at_method (act_of route.0 post) o route.1 body party command e
at_target None post o body party command e = absurd cc

pub is_due : (post : Bool) (target : List ℕ) (token : Option (List ℕ)) (body : List ℕ) (office : Office) (party : Party) (command : Command)
    → run_of post target token body office ≡ Ok (party, command)
    → (party_of office token ≡ Some party) × IsFormed command
unfolding run_of
is_due post target token body office party command e =
    at_target (route_of target) post (party_of office token) body party command e

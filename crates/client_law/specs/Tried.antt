-- Connections at the desk in which one submission of a developer comes any number of times.
use Rattle.std.specs.Prelude.{◌≡◌, ◌≢◌, ℕ, ◌⊎◌, ◌==◌, ◌||◌, Bool, true, false, List, [], ◌∷◌, ◌++◌, map, take, Option, Some, None}
use Rattle.store_office.specs.declared.office.Office.{Office}
use Rattle.store_office.specs.declared.party.Party.{Party}
use Rattle.case_rules.specs.declared.case.Case.{Case}
use Rattle.case_rules.specs.declared.case.Content.{Content}
use Rattle.case_rules.specs.Cases.{rows_of}
use Rattle.case_rules.specs.Rules.{is_developer}
use Rattle.case_rules.specs.Desk.{Judgement, Turn}
use Rattle.case_rules.specs.Runs.{Standing, PassesOn, carried_out}
use Rattle.desk_links.specs.Links.{Told}
use Rattle.desk_routes.specs.Turns.{party_of}
use Rattle.desk_serving.specs.declared.serving.Served.{Served}
use Rattle.desk_serving.specs.declared.serving.Served.TheVariants.{Replied, Ended, ReadFault, WriteFault, Memory}
use Rattle.desk_serving.specs.Responding.{setting_of}
use Rattle.desk_serving.specs.Serving.{IsServed}
use Rattle.client_http.specs.ReadAs.{IsReadAs}

-- a case by its reference and its app; what reviewers add to it is not spoken of
abbrev pub HandedIn : Type 0
HandedIn = List ℕ × Content

abbrev pub handed_in : Case → HandedIn
handed_in case = (case.reference, case.content)

-- what the desk has of a developer, in its order
abbrev pub held_of : List ℕ → List Case → List HandedIn
held_of party cases = map handed_in (rows_of party cases)

abbrev pub IsAmong : HandedIn → List HandedIn → Type 0
IsAmong x [] = ⊥
IsAmong x (y ∷ ys) = (x ≡ y) ⊎ IsAmong x ys

-- One connection: the day, how the desk stood before and after, what was told of it before and after, and what is said
-- of it.
pub record Visit : Type 0 where
  pub day : ℕ
  pub before : Standing
  pub after : Standing
  pub told : Told
  pub told_after : Option Told
  pub said : Served

abbrev pub IsVisit : (Content → Judgement → Type 0) → List ℕ → Office → Visit → Type 0
IsVisit finds edition office v = IsServed finds (setting_of office edition v.day) v.before v.after v.told v.told_after v.said

-- The command that was carried out, if any, is none of this developer.
abbrev pub IsAnothers : List ℕ → Option Turn → Type 0
IsAnothers party None = Unit {0}
IsAnothers party (Some turn) = is_developer turn.session.party.role ≡ true → turn.session.party.name ≢ party

-- Connections one after the other: in those of the client comes a front of the request, or all of it, and what is said
-- of them is listed; those of others may stand between.
pub data Tried (finds : Content → Judgement → Type 0) (edition : List ℕ) (office : Office) (party request : List ℕ) : Standing → List Served → Standing → Type 0 where
  none_left : {from to : Standing} → PassesOn from to → Tried finds edition office party request from [] to
  of_client : {from to : Standing} (v : Visit) (said : List Served) (n : ℕ)
      → PassesOn from v.before → IsVisit finds edition office v → v.told.coming ≡ take n request
      → Tried finds edition office party request v.after said to → Tried finds edition office party request from (v.said ∷ said) to
  of_another : {from to : Standing} (v : Visit) (said : List Served)
      → PassesOn from v.before → (is : IsVisit finds edition office v) → IsAnothers party (carried_out is.kept.ending)
      → Tried finds edition office party request v.after said to → Tried finds edition office party request from said to

-- the desk wrote a whole reply of 200 or 201
abbrev pub is_accepted : Served → Bool
is_accepted (Replied status) = (status == 200) || (status == 201)
is_accepted Ended = false
is_accepted ReadFault = false
is_accepted WriteFault = false
is_accepted Memory = false

abbrev pub any_accepted : List Served → Bool
any_accepted [] = false
any_accepted (said ∷ more) = is_accepted said || any_accepted more

-- as before, or with one more behind
abbrev pub HasAtMostOneMore : HandedIn → List HandedIn → List HandedIn → Type 0
HasAtMostOneMore x before after = (after ≡ before) ⊎ (after ≡ before ++ x ∷ [])

-- A request that is read as the submission of one of the office's developers acts once.
abbrev pub ActsOnce : (Content → Judgement → Type 0) → List ℕ → Type 0
ActsOnce finds edition =
    (office : Office) (party : Party) (token reference : List ℕ) (content : Content) (request : List ℕ) (from to : Standing) (said : List Served)
    → IsReadAs token reference content request → party_of office (Some token) ≡ Some party → is_developer party.role ≡ true
    → Tried finds edition office party.name request from said to
    → HasAtMostOneMore (reference, content) (held_of party.name from.cases) (held_of party.name to.cases)
    × (any_accepted said ≡ true → IsAmong (reference, content) (held_of party.name to.cases))

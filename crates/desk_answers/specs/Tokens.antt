-- The tokens that are written for a body, as the crate `json` has them.
use Rattle.std.specs.Prelude.{◌≡◌, ℕ, List, [], ◌∷◌, ◌++◌, codes, decimal, Option, Some, None}
use Rattle.json.specs.Token.{Token, begin_object, end_object, key, string, number, null}
use Rattle.json.specs.Written.{Written}
use Rattle.case_rules.specs.declared.case.Line.{Line}
use Rattle.case_rules.specs.declared.case.State.{State}
use Rattle.store_office.specs.declared.party.Role.{Role}
use Rattle.store_office.specs.declared.party.Role.TheVariants.{Developer, Reviewer}
use Rattle.desk_answers.specs.Json.{latin1}
use Rattle.desk_answers.specs.Words.{state_word}

-- these tokens were written, behind what stood there
pub record Adds (old new : Written) (tokens : List Token) : Type 0 where
  pub before : new.before ≡ old.before
  pub added : new.tokens ≡ old.tokens ++ tokens

abbrev pub text_member : List ℕ → List ℕ → List Token
text_member name text = key name ∷ string (latin1 text) ∷ []

abbrev pub number_token : Option ℕ → Token
number_token None = null
number_token (Some n) = number (decimal n)

abbrev pub word_token : Option (List ℕ) → Token
word_token None = null
word_token (Some word) = string word

-- an object: the reference of a case, and how far it is
unfoldable pub state_tokens : List ℕ → State → List Token
state_tokens reference state =
    begin_object ∷ key (codes "reference") ∷ string (latin1 reference)
    ∷ key (codes "state") ∷ string (state_word state) ∷ end_object ∷ []

-- the same with the developer first
unfoldable pub named_tokens : Line → List Token
named_tokens line =
    begin_object ∷ key (codes "developer") ∷ string (latin1 line.party)
    ∷ key (codes "reference") ∷ string (latin1 line.reference)
    ∷ key (codes "state") ∷ string (state_word line.state) ∷ end_object ∷ []

abbrev pub line_tokens : Role → Line → List Token
line_tokens Developer line = state_tokens line.reference line.state
line_tokens Reviewer line = named_tokens line

-- What the writer prints for the tokens of each body.
use Rattle.std.proofs.Common.{◌≡◌, ℕ, true, false, List, [], ◌∷◌, ◌++◌, codes, Option, Some, None, refl, sym, ap, ◌∙◌, append_assoc, flat_map, decimal}
use Rattle.std.specs.Char.{encode_utf8}
use Rattle.std.specs.List.{join_by}
use Rattle.json.specs.Token.{Token, begin_object, end_object, begin_array, end_array, key, number, string}
use Rattle.json.specs.Print.{escape_byte, quoted, print_from, print}
use Rattle.case_rules.specs.declared.case.Line.{Line}
use Rattle.case_rules.specs.declared.case.OutcomeWord.{OutcomeWord}
use Rattle.case_rules.specs.declared.case.RulingWord.{RulingWord}
use Rattle.case_rules.specs.declared.case.State.{State}
use Rattle.store_office.specs.declared.party.Role.{Role}
use Rattle.store_office.specs.declared.party.Role.TheVariants.{Developer, Reviewer}
use Rattle.desk_answers.specs.Bodies.{error_body, state_body, decided_body, ruled_body, shown_json, named_json, line_json, lines_body}
use Rattle.desk_answers.specs.Json.{latin1, text_json, number_or_null, word_or_null}
use Rattle.desk_answers.specs.Tokens.{state_tokens, named_tokens, line_tokens, number_token, word_token}
use Rattle.desk_answers.specs.Texts.{no_memory}
use Rattle.desk_answers.specs.Words.{state_word, outcome_word, ruling_word}

pub error_printed : (text : List ℕ)
    → print (begin_object ∷ key (codes "error") ∷ string (latin1 text) ∷ end_object ∷ []) ≡ error_body text
unfolding print_from escape_byte error_body
error_printed text = refl

pub no_memory_printed : error_body no_memory ≡ codes "{\"error\":\"no memory\"}"
unfolding error_body no_memory latin1 encode_utf8 escape_byte
no_memory_printed = refl

-- one object of reference and state, and what comes behind it
state_then : (reference : List ℕ) (state : State) (ts : List Token)
    → print_from false (state_tokens reference state ++ ts) ≡ state_body reference state ++ print_from true ts
unfolding print_from escape_byte state_body state_tokens
state_then reference state ts = simp append_assoc

pub state_printed : (reference : List ℕ) (state : State)
    → print (state_tokens reference state) ≡ state_body reference state
unfolding print_from escape_byte state_body state_tokens
state_printed reference state = simp append_assoc

pub decided_printed : (developer reference : List ℕ) (outcome : OutcomeWord)
    → print (begin_object ∷ key (codes "developer") ∷ string (latin1 developer)
    ∷ key (codes "outcome") ∷ string (outcome_word outcome)
    ∷ key (codes "reference") ∷ string (latin1 reference) ∷ end_object ∷ [])
    ≡ decided_body developer reference outcome
unfolding print_from escape_byte decided_body
decided_printed developer reference outcome = simp append_assoc

pub ruled_printed : (developer reference : List ℕ) (ruling : RulingWord)
    → print (begin_object ∷ key (codes "developer") ∷ string (latin1 developer)
    ∷ key (codes "reference") ∷ string (latin1 reference)
    ∷ key (codes "ruling") ∷ string (ruling_word ruling) ∷ end_object ∷ [])
    ≡ ruled_body developer reference ruling
unfolding print_from escape_byte ruled_body
ruled_printed developer reference ruling = simp append_assoc

-- the ruling and the state of a case, as its last members
abbrev ruling_and_state : Option (List ℕ) → List ℕ → List ℕ
ruling_and_state ruling state =
    codes ",\"ruling\":" ++ (word_or_null ruling ++ (codes ",\"state\":" ++ (quoted state ++ codes "}")))

ruling_then : (ruling : Option (List ℕ)) (state : List ℕ)
    → print_from true (key (codes "ruling") ∷ word_token ruling ∷ key (codes "state") ∷ string state ∷ end_object ∷ [])
    ≡ ruling_and_state ruling state
unfolding print_from escape_byte
ruling_then None state = refl
ruling_then (Some ruling) state = refl

abbrev outcome_and_reference : Option (List ℕ) → List ℕ → List ℕ → List ℕ
outcome_and_reference outcome reference rest =
    codes ",\"outcome\":" ++ (word_or_null outcome ++ (codes ",\"reference\":" ++ (text_json reference ++ rest)))

outcome_then : (outcome : Option (List ℕ)) (reference : List ℕ) (ts : List Token)
    → print_from true (key (codes "outcome") ∷ word_token outcome ∷ key (codes "reference") ∷ string (latin1 reference) ∷ ts)
    ≡ outcome_and_reference outcome reference (print_from true ts)
unfolding print_from escape_byte
outcome_then None reference ts = refl
outcome_then (Some outcome) reference ts = refl

decided_then : (decided : Option ℕ) (ts : List Token)
    → print_from true (key (codes "decided") ∷ number_token decided ∷ ts)
    ≡ codes ",\"decided\":" ++ (number_or_null decided ++ print_from true ts)
unfolding print_from escape_byte
decided_then None ts = refl
decided_then (Some decided) ts = refl

editions_then : (editions : ℕ) (ts : List Token)
    → print_from true (key (codes "editions") ∷ number (decimal editions) ∷ ts)
    ≡ codes ",\"editions\":" ++ (decimal editions ++ print_from true ts)
unfolding print_from escape_byte
editions_then editions ts = refl

appeal_then : (appeal : Option ℕ) (ts : List Token)
    → print (begin_object ∷ key (codes "appeal") ∷ number_token appeal ∷ ts)
    ≡ codes "{\"appeal\":" ++ (number_or_null appeal ++ print_from true ts)
unfolding print_from escape_byte
appeal_then None ts = refl
appeal_then (Some appeal) ts = refl

in_order : (a b c d e f g h i j k l m n o : List ℕ)
    → a ++ (b ++ (c ++ (d ++ (e ++ (f ++ (g ++ (h ++ (i ++ (j ++ (k ++ (l ++ (m ++ (n ++ o)))))))))))))
    ≡ a ++ b ++ c ++ d ++ e ++ f ++ g ++ h ++ i ++ j ++ k ++ l ++ m ++ n ++ o
in_order a b c d e f g h i j k l m n o = simp append_assoc

shown_in_order : (appeal decided : Option ℕ) (editions : ℕ) (outcome : Option (List ℕ)) (reference : List ℕ)
    (ruling : Option (List ℕ)) (state : List ℕ)
    → codes "{\"appeal\":" ++ (number_or_null appeal ++ (codes ",\"decided\":" ++ (number_or_null decided
    ++ (codes ",\"editions\":" ++ (decimal editions
    ++ outcome_and_reference outcome reference (ruling_and_state ruling state))))))
    ≡ shown_json appeal decided editions outcome reference ruling state
unfolding shown_json
shown_in_order appeal decided editions outcome reference ruling state =
    in_order (codes "{\"appeal\":") (number_or_null appeal) (codes ",\"decided\":") (number_or_null decided)
    (codes ",\"editions\":") (decimal editions) (codes ",\"outcome\":") (word_or_null outcome) (codes ",\"reference\":") (text_json reference)
    (codes ",\"ruling\":") (word_or_null ruling) (codes ",\"state\":") (quoted state) (codes "}")

pub shown_printed : (appeal decided : Option ℕ) (editions : ℕ) (outcome : Option (List ℕ)) (reference : List ℕ)
    (ruling : Option (List ℕ)) (state : List ℕ)
    → print (begin_object ∷ key (codes "appeal") ∷ number_token appeal
    ∷ key (codes "decided") ∷ number_token decided
    ∷ key (codes "editions") ∷ number (decimal editions)
    ∷ key (codes "outcome") ∷ word_token outcome
    ∷ key (codes "reference") ∷ string (latin1 reference)
    ∷ key (codes "ruling") ∷ word_token ruling
    ∷ key (codes "state") ∷ string state ∷ end_object ∷ [])
    ≡ shown_json appeal decided editions outcome reference ruling state
shown_printed appeal decided editions outcome reference ruling state =
    rw (appeal_then appeal, decided_then decided, editions_then editions, outcome_then outcome reference, ruling_then ruling state)
    (shown_in_order appeal decided editions outcome reference ruling state)

named_then : (line : Line) (ts : List Token)
    → print_from false (named_tokens line ++ ts) ≡ named_json line ++ print_from true ts
unfolding print_from escape_byte named_json named_tokens
named_then line ts = simp append_assoc

-- a line and what comes behind it, and the comma before it
line_then : (role : Role) (line : Line) (ts : List Token)
    → print_from false (line_tokens role line ++ ts) ≡ line_json role line ++ print_from true ts
line_then Developer line ts = state_then line.reference line.state ts
line_then Reviewer line ts = named_then line ts

comma_then : (role : Role) (line : Line) (ts : List Token)
    → print_from true (line_tokens role line ++ ts) ≡ codes "," ++ print_from false (line_tokens role line ++ ts)
unfolding print_from state_tokens named_tokens
comma_then Developer line ts = refl
comma_then Reviewer line ts = refl

abbrev closing : List Token
closing = end_array ∷ end_object ∷ []

closing_printed : print_from true closing ≡ codes "]}"
unfolding print_from
closing_printed = refl

empty_printed : print_from false closing ≡ codes "]}"
unfolding print_from
empty_printed = refl

cases_then : (ts : List Token)
    → print (begin_object ∷ key (codes "cases") ∷ begin_array ∷ ts) ≡ codes "{\"cases\":[" ++ print_from false ts
unfolding print_from escape_byte
cases_then ts = refl

-- a line with the comma before it
abbrev behind : Role → Line → List ℕ
behind role line = codes "," ++ line_json role line

next_then : (role : Role) (line : Line) (ts : List Token)
    → print_from true (line_tokens role line ++ ts) ≡ behind role line ++ print_from true ts
next_then role line ts = comma_then role line ts ∙ ap (λ l. codes "," ++ l) (line_then role line ts)

-- the lines behind the first
rest_printed : (role : Role) (lines : List Line)
    → print_from true (flat_map (line_tokens role) lines ++ closing) ≡ flat_map (behind role) lines ++ codes "]}"
rest_printed role [] = closing_printed
rest_printed role (line ∷ lines) =
    ap (print_from true) (append_assoc (line_tokens role line) (flat_map (line_tokens role) lines) closing)
    ∙ next_then role line (flat_map (line_tokens role) lines ++ closing)
    ∙ ap (λ l. behind role line ++ l) (rest_printed role lines)
    ∙ sym (append_assoc (behind role line) (flat_map (behind role) lines) (codes "]}"))

joined_printed : (role : Role) (lines : List Line)
    → print_from false (flat_map (line_tokens role) lines ++ closing)
    ≡ join_by (line_json role) (codes ",") lines ++ codes "]}"
joined_printed role [] = empty_printed
joined_printed role (line ∷ lines) =
    ap (print_from false) (append_assoc (line_tokens role line) (flat_map (line_tokens role) lines) closing)
    ∙ line_then role line (flat_map (line_tokens role) lines ++ closing)
    ∙ ap (λ l. line_json role line ++ l) (rest_printed role lines)
    ∙ sym (append_assoc (line_json role line) (flat_map (behind role) lines) (codes "]}"))

pub lines_printed : (role : Role) (lines : List Line)
    → print (begin_object ∷ key (codes "cases") ∷ begin_array ∷ (flat_map (line_tokens role) lines ++ closing))
    ≡ lines_body role lines
unfolding lines_body
lines_printed role lines =
    cases_then (flat_map (line_tokens role) lines ++ closing)
    ∙ ap (λ l. codes "{\"cases\":[" ++ l) (joined_printed role lines)

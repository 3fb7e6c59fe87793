-- Tokens that are written one after the other.
use Rattle.std.proofs.Common.{◌≡◌, ℕ, ◌+◌, ◌<◌, List, [], ◌∷◌, ◌++◌, length, take, get_or, Result, Ok, Err, OnOk, ◌∙◌, append_assoc, append-nil, flat_map}
use Rattle.std.proofs.lemmas.List.{take_more}
use Rattle.std.proofs.lemmas.List.Concat.{flat_map-append}
use Rattle.json.specs.Print.{print}
use Rattle.json.specs.Token.{Token}
use Rattle.json.specs.Written.{Written, Writes}
use Rattle.case_rules.specs.declared.case.Line.{Line}
use Rattle.store_office.specs.declared.party.Role.{Role}
use Rattle.desk_answers.specs.Tokens.{Adds, line_tokens}

pub wrote : {E : Type 0} {u : Unit {0}} {old new : Written} {t : Token}
    → Writes {E = E} (Ok u) old new t → Adds old new (t ∷ [])
wrote w = record { before = w.room.0; added = w.ok }

pub and_then : {a b c : Written} {xs ys : List Token} → Adds a b xs → Adds b c ys → Adds a c (xs ++ ys)
and_then {a} {b} {c} {xs} {ys} first second = record {
  before = second.before ∙ first.before;
  added = rw (second.added, first.added) (append_assoc a.tokens xs ys);
}

-- the last token, where it is written
pub and_last : {E : Type 0} {a b c : Written} {xs : List Token} {t : Token} (r : Result (Unit {0}) E)
    → Adds a b xs → Writes r b c t → OnOk r (Adds a c (xs ++ t ∷ []))
and_last (Ok u) first last = and_then first (wrote last)
and_last (Err e) first last = tt

-- what is printed of all that was written
pub printed : (items body : List ℕ) (start new : Written) (tokens : List Token) → start.before ≡ []
    → start.tokens ≡ [] → Adds start new tokens → items ≡ new.before ++ print new.tokens → print tokens ≡ body
    → items ≡ body
printed items body start new tokens before none adds is prints =
    is ∙ (rw (adds.before, before, adds.added, none) prints)

-- one more line is written
pub adds_more : (old now new : Written) (role : Role) (lines : List Line) (i : ℕ) (d : Line) → i < length lines
    → Adds old now (flat_map (line_tokens role) (take i lines)) → Adds now new (line_tokens role (get_or lines i d))
    → Adds old new (flat_map (line_tokens role) (take (i + 1) lines))
adds_more old now new role lines i d lt so_far one = record {
  before = one.before ∙ so_far.before;
  added =
      rw (take_more lines i d lt, flat_map-append (line_tokens role) (take i lines) (get_or lines i d ∷ []), one.added, so_far.added)
      (simp (append_assoc, append-nil));
}

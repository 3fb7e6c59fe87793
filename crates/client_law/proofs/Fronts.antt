-- Where a front of a request is read as a request, it is the whole of it.
use Rattle.std.proofs.Common.{◌≡◌, ℕ, ◌+◌, ◌-◌, ◌∷◌, ◌≤◌, true, List, [], ◌++◌, length, take, drop, Some, Ok, refl, ap, sym, subst, ◌∙◌, arith, length-append, length-drop}
use Rattle.std.proofs.lemmas.List.{take-append-drop, take-append-le}
use Rattle.httparse.specs.Grammar.{RequestHead}
use Rattle.store_office.specs.declared.office.Office.{Office}
use Rattle.store_office.specs.declared.party.Party.{Party}
use Rattle.case_rules.specs.declared.case.Content.{Content}
use Rattle.case_rules.specs.declared.command.Command.TheVariants as commands
use Rattle.case_rules.specs.Rules.{is_developer}
use Rattle.desk_http.specs.declared.asked.Asked.{Asked}
use Rattle.desk_http.specs.Heads.{IsWholeHead}
use Rattle.desk_http.specs.Fields.{body_length}
use Rattle.desk_http.specs.Requests.{IsHead, IsRequest}
use Rattle.desk_http.proofs.Ends.{head_end_stays}
use Rattle.desk_routes.specs.declared.command.Turn.TheVariants as turns
use Rattle.desk_routes.specs.Turns.{party_of, turn_of}
use Rattle.client_http.specs.ReadAs.{IsReadAs}
use Rattle.client_http.proofs.OneReading.{one_head, known, turn_is}

-- a head of the front is one of the whole
head_of_whole : (front rest : List ℕ) (n : ℕ) (head : RequestHead) → IsHead front n head → IsHead (front ++ rest) n head
head_of_whole front rest n head is = record {
  ends = head_end_stays front rest n is.ends;
  small = is.small;
  whole = subst (λ (bytes : List ℕ). IsWholeHead bytes head) (sym (take-append-le n front rest is.ends.within)) is.whole;
}

-- a request in the front has the body that the whole announces, and so the front is the whole
enough : (token reference : List ℕ) (content : Content) (front rest : List ℕ) (asked : Asked) → IsReadAs token reference content (front ++ rest) → IsRequest front asked → rest ≡ []
enough token reference content front rest asked read request =
    let same = one_head (front ++ rest) read.n request.n read.head request.head read.is_head (head_of_whole front rest request.n request.head request.is_head) in
    let P : RequestHead → Type 0 = λ h. body_length h ≡ Ok (length (drop read.n (front ++ rest))) in
    let count : Ok request.count ≡ Ok (length (drop read.n (front ++ rest))) = sym request.announced ∙ subst P same.1 read.announced in
    let size : request.count ≡ length (drop read.n (front ++ rest)) = cc in
    let whole : length (drop read.n (front ++ rest)) ≡ length front + length rest - read.n = length-drop read.n (front ++ rest) ∙ ap (λ k. k - read.n) (length-append front rest) in
    let part : length (drop request.n front) ≡ length front - request.n = length-drop request.n front in
    none rest (omega (arith, size, whole, part, request.came, same.0, request.is_head.ends.within))
  where
    none : (xs : List ℕ) → length xs ≤ 0 → xs ≡ []
    none [] h = refl
    none (x ∷ xs) h = absurd (omega arith)

pub front_is_whole : (token reference : List ℕ) (content : Content) (request : List ℕ) (n : ℕ) (asked : Asked) → IsReadAs token reference content request
    → IsRequest (take n request) asked → take n request ≡ request
front_is_whole token reference content request n asked read is =
    let split = take-append-drop n request in
    let rest = enough token reference content (take n request) (drop n request) asked (subst (IsReadAs token reference content) (sym split) read) is in
    sym (append_none (take n request)) ∙ ap (λ xs. take n request ++ xs) (sym rest) ∙ split
  where
    append_none : (xs : List ℕ) → xs ++ [] ≡ xs
    append_none [] = refl
    append_none (x ∷ xs) = ap (λ ys. x ∷ ys) (append_none xs)

-- so what is due to it is the submission
pub turn_of_front : (token reference : List ℕ) (content : Content) (request : List ℕ) (n : ℕ) (office : Office) (party : Party) (asked : Asked) → IsReadAs token reference content request
    → party_of office (Some token) ≡ Some party → is_developer party.role ≡ true → IsRequest (take n request) asked
    → turn_of asked.post asked.path asked.token asked.body.items office ≡ turns.Run party (commands.Submit reference content)
turn_of_front token reference content request n office party asked read found role is =
    let whole = front_is_whole token reference content request n asked read is in
    turn_is office party token reference content asked found role
    (known token reference content request asked read (subst (λ (bytes : List ℕ). IsRequest bytes asked) whole is))

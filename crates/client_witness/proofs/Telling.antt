-- How tries end, by what was told before and after.
use Rattle.std.proofs.Common.{◌≡◌, ℕ, zero, suc, ◌≤◌, ◌⊎◌, true, false, List, [], ◌∷◌, ◌++◌, length, take, Option, Some, Result, Ok, Err, refl, ap, sym, subst, ◌∙◌, arith, inl, inr}
use Rattle.std.proofs.lemmas.List.Elements.{All-from_recursion}
use Rattle.std.specs.Prelude.{All}
use Rattle.desk_links.specs.Links.{Told}
use Rattle.client_replies.specs.declared.answered.Answered.{Answered}
use Rattle.client_replies.specs.declared.answered.ReplyFault.{ReplyFault}
use Rattle.client_replies.specs.declared.answered.ReplyFault.TheVariants.{Ended, ReadFault, BadReply, TooLong, Memory}
use Rattle.client_replies.specs.Laws.{IsOfBytes}
use Rattle.client_replies.specs.Replies.{Answers, IsReply}
use Rattle.desk_http.specs.Heads.{ends_empty_line}
use Rattle.desk_client.specs.declared.one_try.TryFault.{TryFault}
use Rattle.desk_client.specs.declared.one_try.TryFault.TheVariants.{NotDialled, NotWritten, NotAnswered}
use Rattle.desk_client.specs.declared.submission.SubmitFault.{SubmitFault}
use Rattle.desk_client.specs.declared.submission.SubmitFault.TheVariants.{NoReply}
use Rattle.desk_client.specs.declared.submission.SubmitFault.TheVariants as submits
use Rattle.desk_client.specs.Tries.{Moment, is_final, IsInVain, Ends, Runs, none_left, ended, again}
use Rattle.client_witness.specs.Replies.{created_bytes}
use Rattle.client_witness.specs.Tries.{TriesTell, IsOfSecond, calling, written_in, written_by, conflict, unavailable}
use Rattle.client_witness.proofs.Answering.{HasStatus, is_created, created_status, is_conflict, is_unavailable}
use Rattle.client_witness.proofs.Trying.{Gave, Makes, makes, ran_before, not_by_try, Went, went, First, first}

-- before the first dial
abbrev start : List (List ℕ) → Told
start replies = record { coming = []; written = []; begun = false; ended = []; left = replies; missed = 0 }

goes : (request : List ℕ) (n : ℕ) (replies : List (List ℕ)) (r : Result Answered SubmitFault) (b : Moment) → Runs request n (calling replies) r b → b.faults ≡ 0 → Went request n (start replies) r b
goes request n replies r b run none = went request n (calling replies) b r (start replies) refl none run

written_is : (request : List ℕ) (n : ℕ) (replies : List (List ℕ)) (r : Result Answered SubmitFault) (b : Moment) (h : Went request n (start replies) r b) → written_by b.told ≡ h.more
written_is request n replies r b h = ap written_by h.told ∙ h.written

whole : (request : List ℕ) (n : ℕ) (replies : List (List ℕ)) (r : Result Answered SubmitFault) (b : Moment)
    → Runs request n (calling replies) r b → b.faults ≡ 0 → All (λ bytes. bytes ≡ request) (written_by b.told)
whole request n replies r b run none =
    let h = goes request n replies r b run none in
    subst (λ (written : List (List ℕ)). All (λ bytes. bytes ≡ request) written) (sym (written_is request n replies r b h)) (All-from_recursion (λ (bytes : List ℕ). bytes ≡ request) h.more h.same)

no_more : (request : List ℕ) (n : ℕ) (replies : List (List ℕ)) (r : Result Answered SubmitFault) (b : Moment)
    → Runs request n (calling replies) r b → b.faults ≡ 0 → length (written_by b.told) ≤ n
no_more request n replies r b run none =
    let h = goes request n replies r b run none in
    subst (λ (written : List (List ℕ)). length written ≤ n) (sym (written_is request n replies r b h)) h.few

no_fewer : (request : List ℕ) (n : ℕ) (replies : List (List ℕ)) (b : Moment)
    → Runs request n (calling replies) (Err NoReply) b → b.faults ≡ 0 → length (written_by b.told) ≡ n
no_fewer request n replies b run none =
    let h = goes request n replies (Err NoReply) b run none in
    ap length (written_is request n replies (Err NoReply) b h) ∙ h.all refl

-- what came has this status, where it is of the bytes
abbrev HasReply : List ℕ → ℕ → Type 0
HasReply reply status = (r : Result Answered ReplyFault) → IsOfBytes r → Answers reply r → HasStatus status r

-- a try that a final reply comes to is not in vain
not_in_vain : (reply : List ℕ) (status : ℕ) → HasReply reply status → is_final status ≡ true → (r : Result Answered TryFault) → Gave reply r → IsInVain r → ⊥
not_in_vain reply status has final (Ok answer) gave vain =
    let clash : true ≡ false = sym final ∙ ap is_final (sym (has (Ok answer) tt gave)) ∙ vain in
    cc
not_in_vain reply status has final (Err NotDialled) gave vain = absurd gave
not_in_vain reply status has final (Err NotWritten) gave vain = absurd gave
not_in_vain reply status has final (Err (NotAnswered Ended)) gave vain = absurd (has (Err Ended) tt gave.0)
not_in_vain reply status has final (Err (NotAnswered ReadFault)) gave vain = absurd (gave.1 refl)
not_in_vain reply status has final (Err (NotAnswered BadReply)) gave vain = absurd (has (Err BadReply) tt gave.0)
not_in_vain reply status has final (Err (NotAnswered TooLong)) gave vain = absurd (has (Err TooLong) tt gave.0)
not_in_vain reply status has final (Err (NotAnswered Memory)) gave vain = absurd vain

-- what a submission that ended with a reply says of it
abbrev EndsFinal : ℕ → Result Answered SubmitFault → Type 0
EndsFinal status (Ok reply) = reply.status ≡ status
EndsFinal status (Err fault) = Unit {0}

ends_with : (reply : List ℕ) (status : ℕ) → HasReply reply status → (r : Result Answered TryFault) (end : Result Answered SubmitFault) → Gave reply r → Ends r end
    → (EndsFinal status end) × ((answer : Answered) → end ≡ Ok answer → is_final status ≡ true)
ends_with reply status has (Ok answer) (Ok end) gave ends =
    let is : answer.status ≡ status = has (Ok answer) tt gave in
    (ap (λ (x : Answered). x.status) ends.0 ∙ is, λ other same. ap is_final (sym is) ∙ ends.1)
ends_with reply status has (Ok answer) (Err fault) gave ends = absurd ends
ends_with reply status has (Err NotDialled) end gave ends = absurd ends
ends_with reply status has (Err NotWritten) end gave ends = absurd ends
ends_with reply status has (Err (NotAnswered Ended)) end gave ends = absurd ends
ends_with reply status has (Err (NotAnswered ReadFault)) end gave ends = absurd ends
ends_with reply status has (Err (NotAnswered BadReply)) end gave ends = absurd ends
ends_with reply status has (Err (NotAnswered TooLong)) end gave ends = absurd ends
ends_with reply status has (Err (NotAnswered Memory)) end gave ends =
    (subst (EndsFinal status) (sym ends) tt, λ answer same. let clash = sym ends ∙ same in absurd cc)

-- the status of a reply is final
abbrev IsFinal : Result Answered SubmitFault → Type 0
IsFinal (Ok reply) = is_final reply.status ≡ true
IsFinal (Err fault) = Unit {0}

try_final : (r : Result Answered TryFault) (end : Result Answered SubmitFault) → Ends r end → IsFinal end
try_final (Ok answer) (Ok end) ends = ap (λ (x : Answered). is_final x.status) ends.0 ∙ ends.1
try_final (Ok answer) (Err fault) ends = tt
try_final (Err NotDialled) end ends = absurd ends
try_final (Err NotWritten) end ends = absurd ends
try_final (Err (NotAnswered Ended)) end ends = absurd ends
try_final (Err (NotAnswered ReadFault)) end ends = absurd ends
try_final (Err (NotAnswered BadReply)) end ends = absurd ends
try_final (Err (NotAnswered TooLong)) end ends = absurd ends
try_final (Err (NotAnswered Memory)) end ends = subst IsFinal (sym ends) tt

run_final : (request : List ℕ) (m : ℕ) (a c : Moment) (end : Result Answered SubmitFault) → Runs request m a end c → IsFinal end
run_final request m a c end (none_left p) = tt
run_final request m a c end (ended n p q r e tried ends) = try_final r end ends
run_final request m a c end (again n p b q r e tried vain run) = run_final request n b c end run

not_final : (request : List ℕ) (n : ℕ) (a b : Moment) (reply : Answered) → Runs request n a (Ok reply) b → (reply.status ≡ 503) ⊎ (reply.status ≡ 507) → ⊥
not_final request n a b reply run (inl is) =
    let clash : true ≡ false = sym (run_final request n a b (Ok reply) run) ∙ ap is_final is in
    cc
not_final request n a b reply run (inr is) =
    let clash : true ≡ false = sym (run_final request n a b (Ok reply) run) ∙ ap is_final is in
    cc

created_is : HasReply created_bytes 201
created_is r of h = created_status r (is_created r of h)

-- the reply of a first try
reply_is : (reply other : List ℕ) (rest more : List (List ℕ)) → reply ∷ rest ≡ other ∷ more → (other ≡ reply) × (more ≡ rest)
reply_is reply other rest more is = (sym (ap (first_of reply) is), sym (ap behind_first is))
  where
    first_of : List ℕ → List (List ℕ) → List ℕ
    first_of none [] = none
    first_of none (x ∷ xs) = x

    behind_first : List (List ℕ) → List (List ℕ)
    behind_first [] = []
    behind_first (x ∷ xs) = xs

-- what came of the first of these replies
gave_first : (request reply : List ℕ) (rest : List (List ℕ)) (t : Told) (d : Moment) (r : Result Answered TryFault) → t.left ≡ reply ∷ rest → (h : Makes request t d r) → Gave reply r
gave_first request reply rest t d r left h = subst (λ (bytes : List ℕ). Gave bytes r) (reply_is reply h.reply rest h.u.left (sym left ∙ h.first)).0 h.gave

taken_first : (request : List ℕ) (b : Moment) → First request 1 (calling (created_bytes ∷ [])) (Err NoReply) b → b.faults ≡ 0 → ⊥
taken_first request b (inl h) none = not_by_try h.0 (Err NoReply) h.2 refl
taken_first request b (inr h) none =
    let before = ran_before request h.0 h.1 b (Err NoReply) none h.6 in
    let one = makes request (start (created_bytes ∷ [])) (calling (created_bytes ∷ [])) h.1 h.2 refl before h.4 in
    not_in_vain created_bytes 201 created_is refl h.2 (gave_first request created_bytes [] (start (created_bytes ∷ [])) h.1 h.2 refl one) h.5

taken : (request : List ℕ) (b : Moment) → Runs request 1 (calling (created_bytes ∷ [])) (Err NoReply) b → b.faults ≡ 0 → ⊥
taken request b run none = taken_first request b (first request 1 (calling (created_bytes ∷ [])) b (Err NoReply) (omega arith) run) none

abbrev refused_then_created : List (List ℕ)
refused_then_created = conflict ∷ created_bytes ∷ []

refused_first : (request : List ℕ) (b : Moment) (r : Result Answered SubmitFault) → First request 2 (calling refused_then_created) r b → b.faults ≡ 0 → length (written_by b.told) ≡ 1
refused_first request b r (inl h) none =
    let one = makes request (start refused_then_created) (calling refused_then_created) b h.0 refl none h.1 in
    ap (λ (told : Option Told). length (written_by told)) one.told ∙ ap length one.written
refused_first request b r (inr h) none =
    let before = ran_before request h.0 h.1 b r none h.6 in
    let one = makes request (start refused_then_created) (calling refused_then_created) h.1 h.2 refl before h.4 in
    absurd (not_in_vain conflict 409 is_conflict refl h.2 (gave_first request conflict (created_bytes ∷ []) (start refused_then_created) h.1 h.2 refl one) h.5)

refused : (request : List ℕ) (b : Moment) (r : Result Answered SubmitFault)
    → Runs request 2 (calling refused_then_created) r b → b.faults ≡ 0 → length (written_by b.told) ≡ 1
refused request b r run none = refused_first request b r (first request 2 (calling refused_then_created) b r (omega arith) run) none

abbrev busy_then_created : List (List ℕ)
busy_then_created = unavailable ∷ created_bytes ∷ []

-- the second try, over what the first left
last_second : (request : List ℕ) (m : ℕ) (a b : Moment) (t : Told) (reply : Answered) → a.told ≡ Some t → t.left ≡ created_bytes ∷ [] → First request m a (Ok reply) b → b.faults ≡ 0 → reply.status ≡ 201
last_second request m a b t reply told left (inl h) none =
    let one = makes request t a b h.0 told none h.1 in
    (ends_with created_bytes 201 created_is h.0 (Ok reply) (gave_first request created_bytes [] t b h.0 left one) h.2).0
last_second request m a b t reply told left (inr h) none =
    let before = ran_before request h.0 h.1 b (Ok reply) none h.6 in
    let one = makes request t a h.1 h.2 told before h.4 in
    absurd (not_in_vain created_bytes 201 created_is refl h.2 (gave_first request created_bytes [] t h.1 h.2 left one) h.5)

last_first : (request : List ℕ) (b : Moment) (reply : Answered) → First request 2 (calling busy_then_created) (Ok reply) b → b.faults ≡ 0 → reply.status ≡ 201
last_first request b reply (inl h) none =
    let one = makes request (start busy_then_created) (calling busy_then_created) b h.0 refl none h.1 in
    let final : false ≡ true = (ends_with unavailable 503 is_unavailable h.0 (Ok reply) (gave_first request unavailable (created_bytes ∷ []) (start busy_then_created) b h.0 refl one) h.2).1 reply refl in
    absurd cc
last_first request b reply (inr h) none =
    let before = ran_before request h.0 h.1 b (Ok reply) none h.6 in
    let one = makes request (start busy_then_created) (calling busy_then_created) h.1 h.2 refl before h.4 in
    let left : one.u.left ≡ created_bytes ∷ [] = (reply_is unavailable one.reply (created_bytes ∷ []) one.u.left one.first).1 in
    let count = h.3 in
    last_second request h.0 h.1 b one.u reply one.told left (first request h.0 h.1 b (Ok reply) (omega (arith, count)) h.6) none

last : (request : List ℕ) (b : Moment) (reply : Answered)
    → Runs request 2 (calling busy_then_created) (Ok reply) b → b.faults ≡ 0 → reply.status ≡ 201
last request b reply run none = last_first request b reply (first request 2 (calling busy_then_created) b (Ok reply) (omega arith) run) none

-- where no byte comes there is no reply
ends_at_once : (n : ℕ) → n ≤ 0 → ends_empty_line (take n []) ≡ true → ⊥
unfolding ends_empty_line
ends_at_once zero within ends = cc
ends_at_once (suc n) within ends = absurd (omega (arith, within))

no_reply : (answer : Answered) → IsReply [] answer → ⊥
no_reply answer h = ends_at_once h.n h.is_head.ends.within h.is_head.ends.ends

-- a try that ends there has run out of memory
ends_empty : (request : List ℕ) (b : Moment) (r : Result Answered TryFault) (end : Result Answered SubmitFault) → Gave [] r → Ends r end → IsOfSecond request b end
ends_empty request b (Ok answer) end gave ends = absurd (no_reply answer gave)
ends_empty request b (Err NotDialled) end gave ends = absurd ends
ends_empty request b (Err NotWritten) end gave ends = absurd ends
ends_empty request b (Err (NotAnswered Ended)) end gave ends = absurd ends
ends_empty request b (Err (NotAnswered ReadFault)) end gave ends = absurd ends
ends_empty request b (Err (NotAnswered BadReply)) end gave ends = absurd ends
ends_empty request b (Err (NotAnswered TooLong)) end gave ends = absurd ends
ends_empty request b (Err (NotAnswered Memory)) end gave ends = subst (IsOfSecond request b) (sym ends) tt

of_second : (request : List ℕ) (b : Moment) (r : Result Answered TryFault) (end : Result Answered SubmitFault) → Ends r end → EndsFinal 201 end
    → written_by b.told ≡ request ∷ request ∷ [] → IsOfSecond request b end
of_second request b r (Ok reply) ends is written = (is, written)
of_second request b r (Err submits.NoReply) ends is written = not_by_try r (Err NoReply) ends refl
of_second request b r (Err submits.Memory) ends is written = tt

-- the second try, over what the first left and wrote
again_second : (request : List ℕ) (m : ℕ) (a b : Moment) (t : Told) (end : Result Answered SubmitFault) → a.told ≡ Some t → t.left ≡ created_bytes ∷ [] → written_in t ≡ request ∷ []
    → First request m a end b → b.faults ≡ 0 → IsOfSecond request b end
again_second request m a b t end told left wrote (inl h) none =
    let one = makes request t a b h.0 told none h.1 in
    let final = (ends_with created_bytes 201 created_is h.0 end (gave_first request created_bytes [] t b h.0 left one) h.2).0 in
    of_second request b h.0 end h.2 final (ap written_by one.told ∙ one.written ∙ ap (λ (before : List (List ℕ)). before ++ request ∷ []) wrote)
again_second request m a b t end told left wrote (inr h) none =
    let before = ran_before request h.0 h.1 b end none h.6 in
    let one = makes request t a h.1 h.2 told before h.4 in
    absurd (not_in_vain created_bytes 201 created_is refl h.2 (gave_first request created_bytes [] t h.1 h.2 left one) h.5)

abbrev nothing_then_created : List (List ℕ)
nothing_then_created = [] ∷ created_bytes ∷ []

again_first : (request : List ℕ) (b : Moment) (end : Result Answered SubmitFault) → First request 2 (calling nothing_then_created) end b → b.faults ≡ 0 → IsOfSecond request b end
again_first request b end (inl h) none =
    let one = makes request (start nothing_then_created) (calling nothing_then_created) b h.0 refl none h.1 in
    ends_empty request b h.0 end (gave_first request [] (created_bytes ∷ []) (start nothing_then_created) b h.0 refl one) h.2
again_first request b end (inr h) none =
    let before = ran_before request h.0 h.1 b end none h.6 in
    let one = makes request (start nothing_then_created) (calling nothing_then_created) h.1 h.2 refl before h.4 in
    let left : one.u.left ≡ created_bytes ∷ [] = (reply_is [] one.reply (created_bytes ∷ []) one.u.left one.first).1 in
    let count = h.3 in
    again_second request h.0 h.1 b one.u end one.told left one.written (first request h.0 h.1 b end (omega (arith, count)) h.6) none

again_tried : (request : List ℕ) (b : Moment) (end : Result Answered SubmitFault)
    → Runs request 2 (calling nothing_then_created) end b → b.faults ≡ 0 → IsOfSecond request b end
again_tried request b end run none = again_first request b end (first request 2 (calling nothing_then_created) b end (omega arith) run) none

pub tries_tell : TriesTell
tries_tell = record {
  whole = whole;
  no_more = no_more;
  no_fewer = no_fewer;
  taken = taken;
  not_final = not_final;
  refused = refused;
  last = last;
  again = again_tried;
}

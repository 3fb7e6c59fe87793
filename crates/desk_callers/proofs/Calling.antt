-- A caller in memory dials, reads and writes.
use Rattle.std.proofs.Common.{◌≡◌, ℕ, suc, zero, ◌<◌, true, false, List, [], ◌∷◌, ◌++◌, length, map, take, drop, min, ◌+◌, get_or, Option, option_map, slice_index_or, Vec, Global, Some, None, Result, Ok, Err, All, refl, ap, ap₂, ◌∙◌, arith}
use Rattle.std.proofs.lemmas.List.Elements.{All-map}
use Rattle.desk_links.specs.Links.{Talk, Told, Reads, Writes, without_first, with_written, ended_with}
use Rattle.desk_links.specs.declared.link.LinkFault.{LinkFault}
use Rattle.desk_links.specs.Memory.{LinkState, talk_of, told_by_link}
use Rattle.desk_callers.specs.declared.caller.DialFault.TheVariants.{Failed}
use Rattle.desk_callers.specs.Dials.{DialledTold}
use Rattle.desk_callers.specs.Memory.{line, made, reply_of, written_by, told_by, hung, failed_of, IsWaiting, written_at}

-- what the present connection does, the caller does
pub reads_present : (link next : LinkState) (room filled : List ℕ) (n : ℕ) → Reads (Some (told_by_link link)) (Some (told_by_link next)) room filled (Ok n)
    → (ended : List Talk) (left : List (List ℕ)) (missed : ℕ)
    → Reads (Some (told_by ended (Some link) left missed)) (Some (told_by ended (Some next) left missed)) room filled (Ok n)
reads_present link next room filled n (is, gives) ended left missed =
    let same : told_by_link next ≡ without_first n (told_by_link link) = cc in
    let tell : List ℕ → List ℕ → Option Told = λ coming written. Some (record { coming = coming; written = written; begun = true; ended = ended; left = left; missed = missed }) in
    (ap₂ tell (ap (λ (t : Told). t.coming) same) (ap (λ (t : Told). t.written) same), gives)

pub writes_present : (link next : LinkState) (bytes : List ℕ) (r : Result ℕ LinkFault) → Writes (Some (told_by_link link)) (Some (told_by_link next)) bytes r
    → (ended : List Talk) (left : List (List ℕ)) (missed : ℕ)
    → Writes (Some (told_by ended (Some link) left missed)) (Some (told_by ended (Some next) left missed)) bytes r
writes_present link next bytes (Ok n) is ended left missed =
    let same : told_by_link next ≡ with_written (take n bytes) (told_by_link link) = cc in
    let tell : List ℕ → List ℕ → Option Told = λ coming written. Some (record { coming = coming; written = written; begun = true; ended = ended; left = left; missed = missed }) in
    ap₂ tell (ap (λ (t : Told). t.coming) same) (ap (λ (t : Told). t.written) same)
writes_present link next bytes (Err fault) is ended left missed =
    let same : told_by_link next ≡ told_by_link link = cc in
    let tell : List ℕ → List ℕ → Option Told = λ coming written. Some (record { coming = coming; written = written; begun = true; ended = ended; left = left; missed = missed }) in
    ap₂ tell (ap (λ (t : Told). t.coming) same) (ap (λ (t : Told). t.written) same)

made_append : (dials more : List (Option LinkState)) → made (dials ++ more) ≡ made dials ++ made more
made_append [] more = refl
made_append (None ∷ dials) more = made_append dials more
made_append (Some link ∷ dials) more = ap (λ talks. talk_of link.tape ∷ talks) (made_append dials more)

-- the conversations that are over once the present one is
pub over : (ended : List (Option LinkState)) (present : Option LinkState) (left : List (List ℕ)) (missed : ℕ) → made (hung ended present) ≡ ended_with (told_by (made ended) present left missed)
over ended None left missed = refl
over ended (Some link) left missed = made_append ended (Some link ∷ [])

nothing_more : (talks : List Talk) → talks ++ [] ≡ talks
nothing_more [] = refl
nothing_more (talk ∷ talks) = ap (λ ts. talk ∷ ts) (nothing_more talks)

-- a dial that failed is no conversation
pub none_made : (dials left : List (Option LinkState)) → made (dials ++ failed_of None left) ≡ made dials
none_made dials [] = made_append dials [] ∙ nothing_more (made dials)
none_made dials (dial ∷ left) = made_append dials (None ∷ []) ∙ nothing_more (made dials)

replies_left : (left : List (Option LinkState)) → map reply_of (drop 1 left) ≡ drop 1 (map reply_of left)
replies_left [] = refl
replies_left (dial ∷ left) = refl

pub dial_made : (ended before left rest : List (Option LinkState)) (present : Option LinkState) (link : LinkState) (missed : ℕ)
    → before ≡ Some link ∷ rest → left ≡ drop 1 before → IsWaiting (Some link)
    → DialledTold (told_by (made ended) present (map reply_of before) missed) (Some (told_by (made (hung ended present)) (Some link) (map reply_of left) missed)) (Ok tt)
dial_made ended before left rest present link missed is after waits =
    let now : left ≡ rest = after ∙ ap (drop 1) is in
    let tell : List Talk → List ℕ → List (List ℕ) → Option Told = λ talks written replies. Some (record { coming = link.tape.coming; written = written; begun = true; ended = talks; left = replies; missed = missed }) in (
      link.tape.coming,
      map reply_of rest,
      ap (map reply_of) is,
      ap (λ talks. tell talks link.tape.written (map reply_of left)) (over ended present (map reply_of before) missed)
          ∙ ap₂ (tell (ended_with (told_by (made ended) present (map reply_of before) missed))) waits.0 (ap (map reply_of) now),
    )

pub dial_failed : (ended before left now : List (Option LinkState)) (present : Option LinkState) (missed next : ℕ)
    → left ≡ drop 1 before → now ≡ hung ended present ++ failed_of None before → next ≡ min (missed + 1) 18446744073709551615
    → DialledTold (told_by (made ended) present (map reply_of before) missed) (Some (told_by (made now) None (map reply_of left) next)) (Err Failed)
dial_failed ended before left now present missed next after is count =
    let talks : made now ≡ ended_with (told_by (made ended) present (map reply_of before) missed) =
    ap made is ∙ none_made (hung ended present) before ∙ over ended present (map reply_of before) missed in
    let replies : map reply_of left ≡ drop 1 (map reply_of before) = ap (map reply_of) after ∙ replies_left before in
    let tell : List Talk → List (List ℕ) → ℕ → Option Told = λ ts rs m. Some (record { coming = []; written = []; begun = false; ended = ts; left = rs; missed = m }) in
    ap (λ ts. tell ts (map reply_of left) next) talks ∙ ap₂ (tell (ended_with (told_by (made ended) present (map reply_of before) missed))) replies count

-- what was written in a dial, by the places of the dials that are over
pub written_there : (ended : List (Option LinkState)) (present d : Option LinkState) (n : ℕ) → n < length ended → written_at ended present n ≡ written_by (get_or ended n d)
written_there [] present d n within = absurd (omega arith)
written_there (dial ∷ ended) present d zero within = refl
written_there (dial ∷ ended) present d (suc n) within = written_there ended present d n (omega arith)

pub written_now : (ended : List (Option LinkState)) (present : Option LinkState) → written_at ended present (length ended) ≡ written_by present
written_now [] present = refl
written_now (dial ∷ ended) present = written_now ended present

pub written_later : (ended : List (Option LinkState)) (present : Option LinkState) (n : ℕ) → length ended < n → written_at ended present n ≡ []
written_later [] present zero after = absurd (omega arith)
written_later [] present (suc n) after = refl
written_later (dial ∷ ended) present zero after = absurd (omega arith)
written_later (dial ∷ ended) present (suc n) after = written_later ended present n (omega arith)

waits : (room : ℕ) (reply : Option (Vec ℕ Global)) → IsWaiting (line room (option_map (λ bytes. bytes.items) reply))
waits room None = tt
waits room (Some bytes) = (refl, refl)

-- the connections that dials will make have yet to begin
pub each_waits : (room : ℕ) (dials : List (Option (Vec ℕ Global))) → All IsWaiting (map (λ reply. line room (option_map (λ bytes. bytes.items) reply)) dials)
each_waits room dials = All-map IsWaiting (λ reply. line room (option_map (λ bytes. bytes.items) reply)) dials (λ k d within. waits room (slice_index_or dials k d))

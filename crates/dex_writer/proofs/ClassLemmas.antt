-- One more member of a class.
use Rattle.std.proofs.Common.{◌≡◌, ℕ, ◌+◌, ◌-◌, ◌<◌, ◌≤◌, List, ◌++◌, length, drop, get_or, sym, ◌∙◌, append_assoc}
use Rattle.std.proofs.lemmas.List.{append-nil, drop_all}
use Rattle.dex_tables.specs.declared.dex.Member.{Member}
use Rattle.dex_tables.specs.declared.dex.Body.{Body}
use Rattle.dex_writer.specs.Bytes.{uleb_bytes}
use Rattle.dex_writer.specs.Placed.{offset_of}
use Rattle.dex_writer.specs.ClassData.{members_bytes, bodies_bytes, body_code}
use Rattle.vet_base.proofs.Lists.{drop_read}

pub member_step : (ms : List Member) (i before : ℕ) (m : Member) (now new whole : List ℕ)
    → i < length ms → m ≡ get_or ms i m → now ++ members_bytes before (drop i ms) ≡ whole
    → new ≡ now ++ uleb_bytes (m.index - before) ++ uleb_bytes m.flags → new ++ members_bytes m.index (drop (i + 1) ms) ≡ whole
unfolding members_bytes
member_step ms i before m now new whole lt item so_far one =
    let so : now ++ (uleb_bytes (m.index - before) ++ uleb_bytes m.flags ++ members_bytes m.index (drop (i + 1) ms)) ≡ whole = rw (drop_read ms i m lt item) at so_far in
    rw one (simp append_assoc (simp append_assoc at so))

pub members_done : (ms : List Member) (i before : ℕ) (now whole : List ℕ) → length ms ≤ i → now ++ members_bytes before (drop i ms) ≡ whole → now ≡ whole
unfolding members_bytes
members_done ms i before now whole le so_far = sym (append-nil now) ∙ (rw (drop_all i ms le) at so_far)

pub body_step : (bs : List Body) (i before at next place : ℕ) (b : Body) (now new whole : List ℕ)
    → i < length bs → b ≡ get_or bs i b → place ≡ offset_of at (body_code b) → next ≡ at + length (body_code b)
    → now ++ bodies_bytes before at (drop i bs) ≡ whole
    → new ≡ now ++ uleb_bytes (b.index - before) ++ uleb_bytes b.flags ++ uleb_bytes place → new ++ bodies_bytes b.index next (drop (i + 1) bs) ≡ whole
unfolding bodies_bytes
body_step bs i before at next place b now new whole lt item place-is next-is so_far one =
    let so : now ++ (uleb_bytes (b.index - before) ++ uleb_bytes b.flags ++ uleb_bytes (offset_of at (body_code b)) ++ bodies_bytes b.index (at + length (body_code b)) (drop (i + 1) bs)) ≡ whole = rw (drop_read bs i b lt item) at so_far in
    rw (one, next-is, place-is) (simp append_assoc (simp append_assoc at so))

pub bodies_done : (bs : List Body) (i before at : ℕ) (now whole : List ℕ) → length bs ≤ i → now ++ bodies_bytes before at (drop i bs) ≡ whole → now ≡ whole
unfolding bodies_bytes
bodies_done bs i before at now whole le so_far = sym (append-nil now) ∙ (rw (drop_all i bs le) at so_far)

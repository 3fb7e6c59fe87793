-- Bytes come from a link, one piece after another.
use Rattle.std.proofs.Common.{◌≡◌, ℕ, ◌≤◌, List, [], ◌++◌, Option, Some, None, Ok, length, take, drop, refl, ap, sym, subst, ◌∙◌, arith}
use Rattle.std.proofs.lemmas.List.{append_assoc, append-nil, take-append-drop, take-append-le, take-take, length-take}
use Rattle.std.proofs.Math.Seq.{drop-append_seam}
use Rattle.desk_links.specs.Links.{Told, Gives, Reads}
use Rattle.desk_http.specs.Came.{Takes, IsAtEnd, TakesSome}

pub takes_nothing : (a : Option Told) (xs : List ℕ) → Takes a xs a xs
unfolding Takes
takes_nothing None xs = refl
takes_nothing (Some t) xs = (t.coming, refl, refl)

pub takes_more : (a b c : Option Told) (xs ys zs : List ℕ) → Takes a xs b ys → Takes b ys c zs → Takes a xs c zs
unfolding Takes
takes_more None b c xs ys zs first later = subst (λ o. Takes o ys c zs) first later
takes_more (Some t) b c xs ys zs first later =
    let going : Takes (Some (record t { coming = first.0 })) ys c zs = subst (λ o. Takes o ys c zs) first.1 later in
    (going.0, going.1, going.2 ∙ first.2)

-- what a read gives, where it gives n bytes
pub read_front : (coming room filled : List ℕ) (n : ℕ) → Gives coming n room filled → take n filled ≡ take n coming
read_front coming room filled n gives =
    let long : n ≤ length (take n coming) = rw length-take (omega (arith, gives.within)) in
    ap (take n) gives.front ∙ take-append-le n (take n coming) (drop n room) long ∙ take-take n n coming (omega arith)

pub takes_read : (a b : Option Told) (xs room filled : List ℕ) (n : ℕ) → Reads a b room filled (Ok n) → Takes a xs b (xs ++ take n filled)
unfolding Takes
takes_read None b xs room filled n reads = reads.0
takes_read (Some t) b xs room filled n reads =
    (drop n t.coming, reads.0, append_assoc xs (take n filled) (drop n t.coming) ∙ ap (λ front. xs ++ (front ++ drop n t.coming)) (read_front t.coming room filled n reads.1) ∙ ap (λ all. xs ++ all) (take-append-drop n t.coming))

-- the same behind what the buffer had
pub takes_onto : (a b : Option Told) (xs ys : List ℕ) → Takes a [] b ys → Takes a xs b (xs ++ ys)
unfolding Takes
takes_onto None b xs ys takes = takes
takes_onto (Some t) b xs ys takes = (takes.0, takes.1, append_assoc xs ys takes.0 ∙ ap (λ all. xs ++ all) takes.2)

pub takes_failed : (a b : Option Told) (xs : List ℕ) → b ≡ a → Takes a xs b xs
takes_failed a b xs same = subst (λ o. Takes a xs o xs) (sym same) (takes_nothing a xs)

-- bytes behind a front that came before
pub takes_behind : (a b c : Option Told) (front xs ys : List ℕ) → Takes a [] b (front ++ xs) → Takes b xs c ys → Takes a [] c (front ++ ys)
unfolding Takes
takes_behind None b c front xs ys first later = subst (λ o. Takes o xs c ys) first later
takes_behind (Some t) b c front xs ys first later =
    let going : Takes (Some (record t { coming = first.0 })) xs c ys = subst (λ o. Takes o xs c ys) first.1 later in
    (going.0, going.1, append_assoc front ys going.0 ∙ ap (λ all. front ++ all) going.2 ∙ sym (append_assoc front xs first.0) ∙ first.2)

pub takes_some : (a b : Option Told) (bytes : List ℕ) → Takes a [] b bytes → TakesSome a b
unfolding Takes
takes_some None b bytes takes = (0, takes)
takes_some (Some t) b bytes takes =
    let rest : takes.0 ≡ drop (length bytes) t.coming = sym (drop-append_seam bytes takes.0) ∙ ap (drop (length bytes)) takes.2 in
    (length bytes, takes.1 ∙ ap (λ coming. Some (record t { coming = coming })) rest)

-- All that comes is what came and the bytes still to come.
pub came : (t : Told) (b : Option Told) (bytes : List ℕ) → Takes (Some t) [] b bytes → (rest : List ℕ) × (t.coming ≡ bytes ++ rest)
unfolding Takes
came t b bytes takes = (takes.0, sym takes.2)

pub came_whole : (t : Told) (b : Option Told) (bytes : List ℕ) → Takes (Some t) [] b bytes → IsAtEnd b → t.coming ≡ bytes
unfolding Takes
came_whole t b bytes takes end =
    let none : takes.0 ≡ [] = subst IsAtEnd takes.1 end in
    sym takes.2 ∙ ap (λ rest. bytes ++ rest) none ∙ append-nil bytes

-- the bytes behind a front were copied, and more came behind the copy
pub takes_body : (a b c : Option Told) (bytes body ys : List ℕ) (n : ℕ) → body ≡ drop n bytes → Takes a [] b bytes → Takes b body c ys → Takes a [] c (take n bytes ++ ys)
takes_body a b c bytes body ys n copied first later =
    let whole : Takes a [] b (take n bytes ++ drop n bytes) = subst (λ (xs : List ℕ). Takes a [] b xs) (sym (take-append-drop n bytes)) first in
    takes_behind a b c (take n bytes) (drop n bytes) ys whole (subst (λ (xs : List ℕ). Takes b xs c ys) copied later)

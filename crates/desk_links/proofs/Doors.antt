-- A door in memory opens the next conversation.
use Rattle.std.proofs.Common.{◌≡◌, ℕ, Bool, true, false, cond, List, [], ◌∷◌, ◌++◌, map, Option, Some, Ok, Vec, All, refl, sym, ap, ap₂, ◌∙◌}
use Rattle.std.specs.declared.alloc.Global.{Global}
use Rattle.std.proofs.lemmas.List.{map_push}
use Rattle.std.proofs.lemmas.List.Elements.{All-map}
use Rattle.desk_links.specs.Links.{Talk, Told, OpensTold}
use Rattle.desk_links.specs.Memory.{Taped, Numbered, DoorState, told_by_door, talk_of, coming_of, fresh, IsBlank}

pub each_is_blank : (room : ℕ) (inputs : List (Vec ℕ Global)) → All IsBlank (map (λ input. fresh room input.items) inputs)
each_is_blank room inputs = All-map IsBlank (λ input. fresh room input.items) inputs (λ k d within. refl)

-- the conversations that are over, as talks
ended_as_talks : (begun : Bool) (ended : List Taped) (present : Taped)
    → map talk_of (cond begun (ended ++ present ∷ []) ended) ≡ cond begun (map talk_of ended ++ talk_of present ∷ []) (map talk_of ended)
ended_as_talks true ended present = map_push talk_of ended present
ended_as_talks false ended present = refl

pub opens_next : (door : DoorState) (present tape : Taped) (rest ended : List Taped) (calls : Numbered)
    → door.left ≡ tape ∷ rest → IsBlank tape → present ≡ tape → ended ≡ cond door.begun (door.ended ++ door.present ∷ []) door.ended
    → OpensTold (told_by_door door) (Some (told_by_door (record { present = present; begun = true; ended = ended; left = rest; missed = door.missed; sizes = door.sizes; calls = calls }))) (Ok true)
opens_next door present tape rest ended calls left blank placed over =
    let tell : List Talk → List ℕ → Option Told = λ talks written. Some (record { coming = present.coming; written = written; begun = true; ended = talks; left = map coming_of rest; missed = door.missed }) in
    let talks = ap (map talk_of) over ∙ ended_as_talks door.begun door.ended door.present in
    let silent : present.written ≡ [] = ap (λ (t : Taped). t.written) placed ∙ blank in
    (present.coming, map coming_of rest, ap (map coming_of) (left ∙ ap (λ t. t ∷ rest) (sym placed)), ap₂ tell talks silent)

-- What the steps of a run of `serve` come to, on the way to its end.
use Rattle.std.specs.Prelude.{◌≡◌, ◌⊎◌, ℕ, List, ◌++◌, take, Option, Result, Ok, Err, Vec}
use Rattle.std.specs.Option.{option_map}
use Rattle.std.specs.declared.alloc.Global.{Global}
use Rattle.vet_base.specs.Outside.{HasRisen}
use Rattle.vet_base.specs.declared.memory.Memory.{Memory as NoMemory}
use Rattle.desk_links.specs.declared.door.DoorFault.{DoorFault}
use Rattle.desk_links.specs.declared.door.DoorFault.TheVariants as doors
use Rattle.desk_service.specs.declared.opening.Halt.{Halt}
use Rattle.desk_service.specs.declared.opening.Halt.TheVariants as halts
use Rattle.desk_service.specs.declared.outside.Status.{Status}
use Rattle.desk_service.specs.Opening.{paper_path}
use Rattle.desk_service.specs.Serving.{Seen, ComesToSay, RunsOut}
use Rattle.desk_service.specs.Texts.{refused_text, read_fault_text, served_text, door_fault_text}
use Rattle.desk_words.specs.Serve.{Serve}

abbrev pub status : ℕ → Status
status n = record { 0 = n }

-- What a put of a text came to: the text went out and the status stands; or the sink failed, having taken a front of the text; or
-- memory ran out.
abbrev pub PutsText : Option (List ℕ) → Option (List ℕ) → ℕ → ℕ → List ℕ → List ℕ → Status → List ℕ → Status → Type 0
PutsText old new before after hands handed due text result =
    ((result ≡ due) × (new ≡ option_map (λ taken. taken ++ text) old) × (after ≡ before) × (handed ≡ hands ++ text))
    ⊎ ((result ≡ status 6) × ((n : ℕ) × (new ≡ option_map (λ taken. taken ++ take n text) old)) × HasRisen before after
    × (handed ≡ hands ++ text))
    ⊎ ((result ≡ status 7) × (new ≡ old) × (after ≡ before) × (handed ≡ hands))

-- what a run came to before it prints, unless memory ran out
abbrev pub Says : Serve → Option ℕ → Seen → Seen → Result (Status × Vec ℕ Global) NoMemory → Type 0
Says asked today old new (Ok done) = ComesToSay asked today old new done.0.0 done.1.items
Says asked today old new (Err e) = RunsOut asked today old new

-- the status and the text where no desk could be opened
abbrev pub HaltSays : List ℕ → Halt → ℕ → List ℕ → Type 0
HaltSays office (halts.Refused paper unfit) status text = (status ≡ 3) × (text ≡ refused_text paper unfit)
HaltSays office (halts.ReadFault paper) status text =
    (status ≡ 5) × (text ≡ read_fault_text (paper_path office paper))
HaltSays office halts.Memory status text = ⊥

-- the status and the text where connections were taken
abbrev pub TakenSays : Result ℕ DoorFault → ℕ → List ℕ → Type 0
TakenSays (Ok count) status text = (status ≡ 0) × (text ≡ served_text count)
TakenSays (Err doors.Failed) status text = (status ≡ 8) × (text ≡ door_fault_text)
TakenSays (Err doors.Memory) status text = ⊥

-- what is said of it, unless memory ran out
abbrev pub SaysAs : (ℕ → List ℕ → Type 0) → Result (Status × Vec ℕ Global) NoMemory → Type 0
SaysAs IsSaid (Ok done) = IsSaid done.0.0 done.1.items
SaysAs IsSaid (Err e) = Unit {0}

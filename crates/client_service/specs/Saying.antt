-- What the steps of a run of `submit` come to, on the way to its end.
use Rattle.std.specs.Prelude.{◌≡◌, ◌⊎◌, ℕ, List, ◌++◌, take, Option, Result, Ok, Err, Vec, string_bytes}
use Rattle.std.specs.Option.{option_map}
use Rattle.std.specs.declared.alloc.Global.{Global}
use Rattle.vet_base.specs.Outside.{HasRisen}
use Rattle.vet_base.specs.declared.memory.Memory.{Memory as NoMemory}
use Rattle.client_replies.specs.declared.answered.Answered.{Answered}
use Rattle.desk_client.specs.declared.submission.SubmitFault.{SubmitFault}
use Rattle.desk_client.specs.declared.submission.SubmitFault.TheVariants as submits
use Rattle.client_service.specs.declared.outside.Status.{Status}
use Rattle.client_service.specs.declared.ready.Halt.{Halt}
use Rattle.client_service.specs.declared.ready.Halt.TheVariants as halts
use Rattle.client_service.specs.Submitting.{Outside, ComesToSay, RunsOut, reply_status, reply_text}
use Rattle.client_service.specs.Texts.{refused_text, read_fault_text, no_answer_text}
use Rattle.client_service.specs.Words.{Submit}

abbrev pub status : ℕ → Status
status n = record { 0 = n }

-- What a put of a text came to: the text went out and the status stands; or the sink failed, having taken a front of the text; or
-- memory ran out.
abbrev pub PutsText : Option (List ℕ) → Option (List ℕ) → ℕ → ℕ → List ℕ → List ℕ → Status → List ℕ → Status → Type 0
PutsText old new before after hands handed due text result =
    ((result ≡ due) × (new ≡ option_map (λ taken. taken ++ text) old) × (after ≡ before) × (handed ≡ hands ++ text))
    ⊎ ((result ≡ status 6) × ((n : ℕ) × (new ≡ option_map (λ taken. taken ++ take n text) old)) × HasRisen before after
    × (handed ≡ hands ++ text))
    ⊎ ((result ≡ status 7) × (new ≡ old) × (after ≡ before) × (handed ≡ hands))

-- what a run came to before it prints, unless memory ran out
abbrev pub Says : Submit → Outside → Outside → Result (Status × Vec ℕ Global) NoMemory → Type 0
Says asked old new (Ok done) = ComesToSay asked old new done.0.0 done.1.items
Says asked old new (Err e) = RunsOut asked old new

-- the status and the text where nothing is sent
abbrev pub HaltSays : Halt → ℕ → List ℕ → Type 0
HaltSays (halts.Refused refusal) status text = (status ≡ 3) × (text ≡ refused_text refusal)
HaltSays (halts.ReadFault name) status text = (status ≡ 5) × (text ≡ read_fault_text (string_bytes name))
HaltSays halts.Memory status text = ⊥

-- the status and the text where the request was sent
abbrev pub EndSays : List ℕ → ℕ → Result Answered SubmitFault → ℕ → List ℕ → Type 0
EndSays reference tries (Ok reply) status text =
    (status ≡ reply_status reply.status) × (text ≡ reply_text reference reply.status)
EndSays reference tries (Err submits.NoReply) status text = (status ≡ 10) × (text ≡ no_answer_text tries)
EndSays reference tries (Err submits.Memory) status text = ⊥

-- what is said of it, unless memory ran out
abbrev pub SaysAs : (ℕ → List ℕ → Type 0) → Result (Status × Vec ℕ Global) NoMemory → Type 0
SaysAs IsSaid (Ok done) = IsSaid done.0.0 done.1.items
SaysAs IsSaid (Err e) = Unit {0}

-- From what a run came to, to how it ends.
use Rattle.std.proofs.Common.{◌≡◌, inl, inr, ℕ, List, Option, Result, Ok, Err, sym, ap, ◌∙◌, subst}
use Rattle.std.specs.Prelude.{Vec, string_bytes}
use Rattle.std.specs.declared.alloc.Global.{Global}
use Rattle.vet_base.specs.Outside.{Told as FilesTold}
use Rattle.heard_files.specs.Outside.{Entry}
use Rattle.vet_base.specs.declared.memory.Memory.{Memory as NoMemory}
use Rattle.client_form.specs.declared.client.Client.{Client}
use Rattle.client_replies.specs.declared.answered.Answered.{Answered}
use Rattle.desk_client.specs.declared.submission.SubmitFault.{SubmitFault}
use Rattle.desk_client.specs.declared.submission.SubmitFault.TheVariants as submits
use Rattle.desk_client.specs.Tries.{Moment, Runs}
use Rattle.client_service.specs.declared.ready.Halt.{Halt}
use Rattle.client_service.specs.declared.ready.Halt.TheVariants as halts
use Rattle.client_service.specs.declared.ready.Ready.{Ready}
use Rattle.client_service.specs.declared.outside.Status.{Status}
use Rattle.client_service.specs.Posting.{Posting, Readies, request_for}
use Rattle.client_service.specs.Reading.{Leaves}
use Rattle.client_service.specs.Saying.{PutsText, Says, HaltSays, EndSays, SaysAs}
use Rattle.client_service.specs.Submitting.{Outside, Seen, Sends, ComesToSay, RunsOut, Ends, reply_status, reply_text}
use Rattle.client_service.specs.Texts.{refused_text, read_fault_text, no_answer_text}
use Rattle.client_service.specs.Words.{Submit}

abbrev made : Option FilesTold → ℕ → Moment → Outside
made files faults dials = record { files = files; file_faults = faults; dials = dials }

-- nothing changed
same_outside : (old new : Outside) → new.files ≡ old.files → new.file_faults ≡ old.file_faults → new.dials ≡ old.dials → new ≡ old
same_outside old new files faults dials =
    ap (λ (f : Option FilesTold). made f new.file_faults new.dials) files
    ∙ (ap (λ (n : ℕ). made old.files n new.dials) faults ∙ ap (λ (d : Moment). made old.files old.file_faults d) dials)

module _ (asked : Submit) where
  -- status and text are these
  as_said : (old new : Outside) (n m : ℕ) (text said : List ℕ) → m ≡ n → said ≡ text → ComesToSay asked old new n text
      → ComesToSay asked old new m said
  as_said old new n m text said same_n same_text comes =
      subst (λ (k : ℕ). ComesToSay asked old new k said) (sym same_n)
      (subst (λ (t : List ℕ). ComesToSay asked old new n t) (sym same_text) comes)

  says_end : (old new : Outside) (posting : Posting) (end : Result Answered SubmitFault) (result : Result (Status × Vec ℕ Global) NoMemory)
      → Sends asked old new posting end → SaysAs (EndSays asked.reference posting.client.tries end) result → Says asked old new result
  says_end old new posting (Ok reply) (Ok said) sends says =
      as_said old new (reply_status reply.status) said.0.0 (reply_text asked.reference reply.status) said.1.items says.0 says.1
      (ComesToSay.answered posting reply sends)
  says_end old new posting (Ok reply) (Err e) sends says =
      RunsOut.unsaid (reply_status reply.status) (reply_text asked.reference reply.status) (ComesToSay.answered posting reply sends)
  says_end old new posting (Err submits.NoReply) (Ok said) sends says =
      as_said old new 10 said.0.0 (no_answer_text posting.client.tries) said.1.items says.0 says.1 (ComesToSay.no_answer posting sends)
  says_end old new posting (Err submits.NoReply) (Err e) sends says =
      RunsOut.unsaid 10 (no_answer_text posting.client.tries) (ComesToSay.no_answer posting sends)
  says_end old new posting (Err submits.Memory) (Ok said) sends says = absurd says
  says_end old new posting (Err submits.Memory) (Err e) sends says = RunsOut.unread posting sends

  -- the request was sent
  pub said_of_ready : (old new : Outside) (ready : Ready) (request : List ℕ) (end : Result Answered SubmitFault)
      (result : Result (Status × Vec ℕ Global) NoMemory)
      → Readies old.files asked (Ok ready)
      → Leaves {X = Ready} old.files new.files old.file_faults new.file_faults asked.dir (Ok ready)
      → request ≡ ready.request.items → Runs request ready.client.tries old.dials end new.dials
      → SaysAs (EndSays asked.reference ready.client.tries end) result → Says asked old new result
  said_of_ready old new ready request end result is leaves same runs says =
      let as_sent : request ≡ request_for asked.reference is.posting = same ∙ is.request_is in
      let Sent : List ℕ → Type 0 = λ bytes. Runs bytes ready.client.tries old.dials end new.dials in
      let By : Client → Type 0 = λ client. Runs (request_for asked.reference is.posting) client.tries old.dials end new.dials in
      let Saying : Client → Type 0 = λ client. SaysAs (EndSays asked.reference client.tries end) result in
      says_end old new is.posting end result
      (record {
        posts = is.posts;
        read = is.read;
        runs = subst By is.client_is (subst Sent as_sent runs);
        files = leaves.0;
        file_faults = leaves.1;
      })
      (subst Saying is.client_is says)

  -- nothing is sent
  pub said_of_halt : (old new : Outside) (halt : Halt) (result : Result (Status × Vec ℕ Global) NoMemory)
      → Readies old.files asked (Err halt)
      → Leaves {X = Ready} old.files new.files old.file_faults new.file_faults asked.dir (Err halt)
      → new.dials ≡ old.dials → SaysAs (HaltSays halt) result → Says asked old new result
  said_of_halt old new (halts.Refused refusal) (Ok said) is leaves same says =
      as_said old new 3 said.0.0 (refused_text refusal) said.1.items says.0 says.1
      (ComesToSay.refused refusal is (same_outside old new leaves.0 leaves.1 same))
  said_of_halt old new (halts.Refused refusal) (Err e) is leaves same says =
      RunsOut.unsaid 3 (refused_text refusal) (ComesToSay.refused refusal is (same_outside old new leaves.0 leaves.1 same))
  said_of_halt old new (halts.ReadFault name) (Ok said) is leaves same says =
      as_said old new 5 said.0.0 (read_fault_text (string_bytes name)) said.1.items says.0 says.1
      (ComesToSay.read_fault (string_bytes name) leaves same)
  said_of_halt old new (halts.ReadFault name) (Err e) is leaves same says =
      RunsOut.unsaid 5 (read_fault_text (string_bytes name)) (ComesToSay.read_fault (string_bytes name) leaves same)
  said_of_halt old new halts.Memory (Ok said) is leaves same says = absurd says
  said_of_halt old new halts.Memory (Err e) is leaves same says = RunsOut.unsent (same_outside old new leaves.0 leaves.1 same)

  -- the text was put
  module _ (before after : Outside) (heard then_heard : List Entry) (a b : Option (List ℕ)) (i j : ℕ) (x y : List ℕ) where
    abbrev Old : Seen
    Old = record { io = before; heard = heard; printed = a; print_faults = i; handed = x }

    abbrev New : Seen
    New = record { io = after; heard = then_heard; printed = b; print_faults = j; handed = y }

    as_status : (due result : Status) → result ≡ due → Ends asked Old New due.0 → Ends asked Old New result.0
    as_status due result same ends = subst (λ (s : Status). Ends asked Old New s.0) (sym same) ends

    ends_with : (due result : Status) (text : List ℕ) → ComesToSay asked before after due.0 text
        → PutsText a b i j x y due text result → Ends asked Old New result.0
    ends_with due result text comes (inl h) =
        as_status due result h.0 (Ends.said due.0 text comes (record { printed = h.1; count = h.2; handed = h.3 }))
    ends_with due result text comes (inr (inl h)) =
        as_status (record { 0 = 6 }) result h.0
        (Ends.put_failed due.0 text comes (record { length = h.1.0; printed = h.1.1; risen = h.2; handed = h.3 }))
    ends_with due result text comes (inr (inr h)) =
        as_status (record { 0 = 7 }) result h.0
        (Ends.memory (RunsOut.unsaid due.0 text comes) (record { printed = h.1; count = h.2; handed = h.3 }))

    pub ends_put : (due result : Status) (text shown : List ℕ) → shown ≡ text → ComesToSay asked before after due.0 text
        → PutsText a b i j x y due shown result → Ends asked Old New result.0
    ends_put due result text shown is comes puts =
        ends_with due result text comes (subst (λ (t : List ℕ). PutsText a b i j x y due t result) is puts)

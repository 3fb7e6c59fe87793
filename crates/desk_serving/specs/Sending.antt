-- What is written of an answer that is due.
use Rattle.std.specs.Prelude.{◌≡◌, ◌≤◌, ℕ, List, take, Option, Some, None, Result, Ok, Err}
use Rattle.vet_base.specs.Outside.{HasRisen}
use Rattle.case_rules.specs.declared.case.Content.{Content}
use Rattle.case_rules.specs.Desk.{Judgement}
use Rattle.desk_links.specs.Links.{Told}
use Rattle.desk_http.specs.declared.asked.Asked.{Asked}
use Rattle.desk_http.specs.declared.asked.HttpFault.{HttpFault}
use Rattle.desk_http.specs.declared.asked.HttpFault.TheVariants as faults
use Rattle.desk_http.specs.declared.reply.Answer.{Answer}
use Rattle.desk_http.specs.Replies.{Wrote}
use Rattle.desk_serving.specs.declared.serving.Served.{Served}
use Rattle.desk_serving.specs.declared.serving.Served.TheVariants.{Replied, Ended, ReadFault, WriteFault, Memory}
use Rattle.desk_serving.specs.declared.responding.Due.{Due}
use Rattle.desk_serving.specs.Responding.{Setting, Responds, RaisesStore, answer_in}
use Rattle.desk_serving.specs.Serving.{Outside, bytes_of}

-- The whole answer, a front of it, or nothing.
abbrev pub IsSent : Option Told → Option Told → Answer → Served → Type 0
IsSent old new answer (Replied status) = Wrote old new (bytes_of answer) × (status ≡ answer.status)
IsSent old new answer Ended = ⊥
IsSent old new answer ReadFault = ⊥
IsSent old new answer WriteFault = (n : ℕ) × Wrote old new (take n (bytes_of answer))
IsSent old new answer Memory = new ≡ old

-- of the answer that is due, if any
abbrev pub IsSentOf : Option Told → Option Told → Option Answer → Served → Type 0
IsSentOf old new (Some answer) said = IsSent old new answer said
IsSentOf old new None said = (new ≡ old) × (said ≡ Memory)

-- What was due to the request, and what of it was written.
pub record ServesRequest (finds : Content → Judgement → Type 0) (setting : Setting) (before after : Outside)
    (request : Result Asked HttpFault) (said : Served) : Type 0 where
  pub due : Due
  pub responds : Responds finds setting before.cases after.cases request due
  pub store : RaisesStore before.store_faults after.store_faults due
  pub sent : IsSentOf before.talk after.talk (answer_in due) said
  pub cut : said ≡ WriteFault → HasRisen before.link_faults after.link_faults
  pub store_never_falls : before.store_faults ≤ after.store_faults
  pub link_never_falls : before.link_faults ≤ after.link_faults

-- How a connection went where nothing was asked and nothing is to be answered.
abbrev pub unasked : Result Asked HttpFault → Option Served
unasked (Ok asked) = None
unasked (Err faults.Ended) = Some Ended
unasked (Err faults.ReadFault) = Some ReadFault
unasked (Err faults.Bad) = None
unasked (Err faults.NoLength) = None
unasked (Err faults.TooLong) = None
unasked (Err faults.BigHead) = None
unasked (Err faults.Memory) = None

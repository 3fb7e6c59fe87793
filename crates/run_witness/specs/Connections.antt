-- How a connection does not end, and connections over a door. Behind each fact stands what a slip would do. But for the fact of
-- the day the clock tells none: what does not end so under no day, does not under one.
use Rattle.std.specs.Prelude.{◌≡◌, ℕ, false, Bool, List, [], ◌∷◌, length, Some, None, Ok, Err, codes, replicate}
use Rattle.vet_base.specs.Outside.{HasRisen}
use Rattle.case_rules.specs.declared.case.Case.{Case}
use Rattle.case_rules.specs.declared.case.Decision.{Decision}
use Rattle.case_rules.specs.declared.case.OutcomeWord.TheVariants.{Flagged}
use Rattle.case_rules.specs.declared.command.Command.{Command}
use Rattle.case_rules.specs.Cases.{with_entry}
use Rattle.desk_http.specs.declared.asked.HttpFault.TheVariants.{Ended}
use Rattle.desk_http.specs.Replies.{reply_bytes}
use Rattle.desk_links.specs.Links.{Told, ended_with}
use Rattle.desk_serving.specs.declared.serving.Served.{Served}
use Rattle.desk_serving.specs.declared.serving.Served.TheVariants.{Replied}
use Rattle.desk_serving.specs.Run.{HoldsTalks, CountsAll}
use Rattle.desk_serving.specs.Sending.{unasked}
use Rattle.desk_serving.specs.Responding.{IsCommand}
use Rattle.desk_serving.specs.Serving.{Outside, Serves}
use Rattle.store_office.specs.declared.office.Office.{Office}
use Rattle.store_office.specs.declared.party.Party.{Party}
use Rattle.run_witness.specs.Commands.{bob, content, queued, anything}

-- an office of one party, a reviewer
abbrev pub bobs_office : Office
bobs_office = record { port = 8080; workers = 2; appeal_days = 30; parties = bob ∷ [] }

-- a decision of bob's
abbrev pub decision : Decision
decision = record { outcome = Flagged; report = []; lists = replicate 32 7; reviewer = codes "bob"; day = 99 }

-- ada's case, with an appeal against it
abbrev pub appealed : Case
appealed = record {
  party = codes "ada";
  reference = codes "a1";
  content = content;
  entries = record { decision = decision; appeal = Some (record { day = 100; text = codes "no" }); ruling = None } ∷ [];
}

-- the door tells this conversation
abbrev pub TellsTalk : Outside → Told → Type 0
TellsTalk outside talk = outside.talk ≡ Some talk

-- these bytes were written, and nothing before
pub record Writes (before after : Outside) (bytes : List ℕ) : Type 0 where
  pub talk : Told
  pub then : Told
  pub talk_is : TellsTalk before talk
  pub then_is : TellsTalk after then
  pub none : talk.written ≡ []
  pub all : then.written ≡ bytes

-- no conversation was held before, and one after, in which these bytes were written
pub record HoldsOne (entry exit : Outside) (bytes : List ℕ) : Type 0 where
  pub talk : Told
  pub then : Told
  pub talk_is : TellsTalk entry talk
  pub then_is : TellsTalk exit then
  pub none : ended_with talk ≡ []
  pub coming : List ℕ
  pub one : ended_with then ≡ (record { coming = coming; written = bytes }) ∷ []

-- what the keeper tells, whatever the link tells
pub record KeeperTells : Type 0 where
  -- on day 100 no case is decided on the first day (else each would be)
  pub own_day : (office : Office) (edition : List ℕ) (before after : Outside) (d : Decision) (said : Served) → before.cases ≡ Some (queued ∷ []) → after.cases ≡ Some (with_entry d queued ∷ []) → d.day ≡ 1 → Serves anything office edition (Some 100) before after said → ⊥
  -- a case is there once 201 was replied to a command (else the reply would come before it is kept, or without it)
  pub acknowledged : (office : Office) (edition : List ℕ) (before after : Outside) (cases : List Case) (party : Party) (command : Command) → before.cases ≡ Some cases → after.cases ≡ Some cases
      → (serves : Serves anything office edition None before after (Replied 201)) → IsCommand office serves.request party command → ⊥

-- what the link tells, whatever the keeper tells
pub record LinkTells : Type 0 where
  -- the status that is said is the one that was written (else 200)
  pub own_status : (office : Office) (edition : List ℕ) (before after : Outside) (is_text : Bool) (body : List ℕ) → Writes before after (reply_bytes 404 is_text body) → Serves anything office edition None before after (Replied 200) → ⊥
  -- a front of a reply is no reply (else it would be said to be one)
  pub whole : (office : Office) (edition : List ℕ) (before after : Outside) (status : ℕ) → Writes before after (codes "HTTP/") → Serves anything office edition None before after (Replied status) → ⊥
  -- nor is it written where no link failed (else a reply would be given up)
  pub front : (office : Office) (entry exit : Outside) → exit.link_faults ≡ 0 → HoldsOne entry exit (codes "HTTP/") → HoldsTalks office entry exit (Ok 1) → ⊥
  -- a connection that is left and asked for is taken (else none, be it that the door fails)
  pub none_taken : (entry : Outside) (talk : Told) → TellsTalk entry talk → length talk.left ≡ 1 → CountsAll 1 entry (Ok 0) → ⊥

pub record ConnectionsEnd : Type 0 where
  pub keeper : KeeperTells
  pub link : LinkTells
  -- a reviewer is told whose a case is (else what a developer is told)
  pub own_role : (edition : List ℕ) (before after : Outside) → before.cases ≡ Some (appealed ∷ []) → Writes before after (reply_bytes 200 false (codes "{\"cases\":[{\"reference\":\"a1\",\"state\":\"appealed\"}]}")) → Serves anything bobs_office edition None before after (Replied 200) → ⊥
  -- a connection that ended asks for nothing more (else it would be answered)
  pub not_asked : unasked (Err Ended) ≡ None → ⊥
  -- a keeper of which no call failed has not failed (else after each command, and for want of memory)
  pub not_risen : HasRisen 0 0 → ⊥

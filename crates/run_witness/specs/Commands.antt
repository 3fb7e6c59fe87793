-- What carrying a command out does not give. Behind each fact stands what a slip would do.
use Rattle.std.specs.Prelude.{◌≡◌, List, [], ◌∷◌, Option, Some, codes, replicate}
use Rattle.case_rules.specs.declared.case.Case.{Case}
use Rattle.case_rules.specs.declared.case.Content.{Content}
use Rattle.case_rules.specs.declared.case.Decision.{Decision}
use Rattle.case_rules.specs.declared.case.OutcomeWord.TheVariants.{Clear, Flagged}
use Rattle.case_rules.specs.declared.command.Command.TheVariants.{Submit, Decide, Show}
use Rattle.case_rules.specs.declared.reply.Reply.{Reply}
use Rattle.case_rules.specs.declared.reply.Reply.TheVariants.{Shown}
use Rattle.case_rules.specs.Cases.{with_entry}
use Rattle.case_rules.specs.Desk.{Judgement}
use Rattle.case_rules.specs.Rules.{Session, session_of}
use Rattle.desk_serving.specs.Obeying.{HandsOn}
use Rattle.store_office.specs.declared.party.Party.{Party}
use Rattle.store_office.specs.declared.party.Role.TheVariants.{Developer, Reviewer}

abbrev pub ada : Party
ada = record { name = codes "ada"; role = Developer; token = codes "4f2a9c71" }

abbrev pub bob : Party
bob = record { name = codes "bob"; role = Reviewer; token = codes "c0ffee42" }

-- the session of a party on day 100, under lists of an edition
abbrev pub session : Party → Session
session party = session_of party 30 100 (replicate 32 7)

abbrev pub content : Content
content = record { manifest = []; layouts = []; declaration = []; dex = [] }

-- ada's case, without an entry
abbrev pub queued : Case
queued = record { party = codes "ada"; reference = codes "a1"; content = content; entries = [] }

-- the same case with a manifest
abbrev pub filled : Case
filled = record queued { content = record content { manifest = codes "m" } }

-- Judging may find anything: what this does not give no judge gives.
abbrev pub anything : Content → Judgement → Type 0
anything app judgement = Unit {0}

-- each app is found to be flagged
abbrev pub finds_flagged : Content → Judgement → Type 0
finds_flagged app judgement = judgement.outcome ≡ Flagged

-- bob decides the one case, and this decision is kept
abbrev pub Decides : (Content → Judgement → Type 0) → Decision → Reply → Type 0
Decides finds decision reply =
    HandsOn finds (session bob) Decide (Some (queued ∷ [])) (Some (with_entry decision queued ∷ [])) reply

pub record CommandsTell : Type 0 where
  -- a decision is the reviewer's (else the developer's own)
  pub own_reviewer : (d : Decision) (reply : Reply) → d.reviewer ≡ codes "ada" → Decides anything d reply → ⊥
  -- under the lists of the desk (else under those of 32 zeros)
  pub own_lists : (d : Decision) (reply : Reply) → d.lists ≡ replicate 32 0 → Decides anything d reply → ⊥
  -- with the outcome that was found (else clear)
  pub own_outcome : (d : Decision) (reply : Reply) → d.outcome ≡ Clear → Decides finds_flagged d reply → ⊥
  -- a case that was submitted is there (else the reply would come before it is kept)
  pub kept : (reply : Reply) → HandsOn anything (session ada) (Submit (codes "a1") content) (Some []) (Some []) reply → ⊥
  -- of a case that is shown all is told but its content (else that too)
  pub without_content : (case : Case) (after : Option (List Case))
      → HandsOn anything (session ada) (Show (codes "a1")) (Some (filled ∷ [])) after (Shown case) → case ≡ queued

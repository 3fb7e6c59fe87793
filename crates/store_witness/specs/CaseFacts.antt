-- What a keeper in memory does with its cases. Behind each fact stands what a slip would answer.
use Rattle.std.specs.Prelude.{◌≡◌, ℕ, List, [], ◌∷◌, Some, None, Ok, Err, codes}
use Rattle.std.specs.BTreeMap.{get}
use Rattle.case_rules.specs.declared.case.Appeal.{Appeal}
use Rattle.case_rules.specs.declared.case.Case.{Case}
use Rattle.case_rules.specs.declared.case.Content.{Content}
use Rattle.case_rules.specs.declared.case.Decision.{Decision}
use Rattle.case_rules.specs.declared.case.Entry.{Entry}
use Rattle.case_rules.specs.declared.command.Command.TheVariants.{Report, Show, Submit}
use Rattle.case_rules.specs.declared.command.View.{View}
use Rattle.case_rules.specs.declared.reply.Change.TheVariants.{Add, Decide}
use Rattle.case_rules.specs.Cases.{after, entry_of, name_cmp, own_lines, queued_of}
use Rattle.case_rules.specs.Rules.{Session}
use Rattle.case_keeper.specs.declared.keeper.KeepFault.TheVariants.{Failed}
use Rattle.case_keeper.specs.declared.placing.CaseIndex.{CaseIndex}
use Rattle.case_keeper.specs.Keeper.{KeepCause, history_of, told_after}
use Rattle.case_keeper.specs.MemoryKeeper.{CountsCall, IsIndex, Kept}
use Rattle.case_keeper.specs.Viewing.{ShowsFor, without_content}

-- a case of a developer under a reference, with these entries
abbrev pub case_of : Content → List ℕ → List ℕ → List Entry → Case
case_of content party reference entries = record { party = party; reference = reference; content = content; entries = entries }

-- a keeper that was not called
abbrev pub unasked : Kept
unasked = record { cases = []; failing = []; calls = 0; faults = 0 }

pub record KeepsCases (content : Content) (decision : Decision) : Type 0 where
  -- the first call has a number (else it is not counted)
  pub numbered : CountsCall unasked unasked → ⊥
  -- a call that fails counts (else not)
  pub counted : KeepCause {X = ℕ} 0 0 (Err Failed) → ⊥
  -- a case that is added is there (else none is)
  pub added : told_after {X = ℕ} (Add (case_of content (codes "a") (codes "r") [])) (Some []) (Ok 0) ≡ Some [] → ⊥
  -- a case with an entry does not wait (else it goes on waiting)
  pub decided : queued_of (codes "a") (case_of content (codes "a") (codes "r") (entry_of decision ∷ []) ∷ []) ≡ 1 → ⊥
  -- a second decision stands behind the first (else in its place)
  pub second : after (Decide (codes "a") (codes "r") decision) (case_of content (codes "a") (codes "r") (entry_of decision ∷ []) ∷ [])
      ≡ case_of content (codes "a") (codes "r") (entry_of decision ∷ []) ∷ [] → ⊥
  -- the case that is named is decided (else the first)
  pub named : after (Decide (codes "b") (codes "r") decision) (case_of content (codes "a") (codes "r") [] ∷ case_of content (codes "b") (codes "r") [] ∷ [])
      ≡ case_of content (codes "b") (codes "r") (entry_of decision ∷ []) ∷ case_of content (codes "b") (codes "r") [] ∷ [] → ⊥
  -- a developer sees no case of another (else each open appeal)
  pub own : (appeal : Appeal) → own_lines (codes "a") (case_of content (codes "b") (codes "r") (record { decision = decision; appeal = Some appeal; ruling = None } ∷ []) ∷ []) ≡ []
  -- nor its report (else the case of that name, where it is named as a developer)
  pub own_report : (session : Session) (view : View) → session.party.name ≡ codes "a" → view.found ≡ Some (case_of content (codes "b") (codes "b") [])
      → ShowsFor session (Report (codes "b")) view (case_of content (codes "b") (codes "b") [] ∷ []) → ⊥
  -- its entries are told of a case (else it is not there, or has none)
  pub history : history_of (codes "a") (codes "r") (case_of content (codes "a") (codes "r") (entry_of decision ∷ []) ∷ [])
      ≡ Some (entry_of decision ∷ [])
  -- and not those of another's of this reference (else they are)
  pub own_history : history_of (codes "a") (codes "r") (case_of content (codes "b") (codes "r") [] ∷ []) ≡ None
  -- a case is shown without its content (else all of it is loaded)
  pub bare : (session : Session) (view : View) → session.party.name ≡ codes "a" → content.manifest ≡ 1 ∷ []
      → view.found ≡ Some (case_of content (codes "a") (codes "r") [])
      → ShowsFor session (Show (codes "r")) view (case_of content (codes "a") (codes "r") [] ∷ []) → ⊥
  -- but not where a submission is compared with it (else with nothing)
  pub compared : (session : Session) (view : View) → session.party.name ≡ codes "a" → content.manifest ≡ 1 ∷ []
      → view.found ≡ Some (without_content (case_of content (codes "a") (codes "r") []))
      → ShowsFor session (Submit (codes "r") content) view (case_of content (codes "a") (codes "r") [] ∷ []) → ⊥
  -- where no case was added no name is noted (else one stays noted after want of memory)
  pub forgotten : (index : CaseIndex) → get name_cmp index.places (codes "a", codes "r") ≡ Some 0 → IsIndex [] index → ⊥

abbrev pub CasesAreKept : Type 0
CasesAreKept = (content : Content) (decision : Decision) → KeepsCases content decision

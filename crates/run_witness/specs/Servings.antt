-- How a run of `serve` does not end, at any desk and whatever the outside tells. Behind each fact stands what a slip would do.
use Rattle.std.specs.Prelude.{◌≡◌, ◌<◌, ℕ, List, [], ◌∷◌, length, Option, Some, None, codes}
use Rattle.vet_base.specs.Outside.{Told}
use Rattle.desk_links.specs.Links.{Told as LinkTold}
use Rattle.case_rules.specs.declared.case.Case.{Case}
use Rattle.case_rules.specs.declared.case.Decision.{Decision}
use Rattle.case_rules.specs.Cases.{entry_of, with_entry}
use Rattle.form_fields.specs.declared.told.FormFault.{FormFault}
use Rattle.desk_words.specs.Serve.{Serve, parse}
use Rattle.desk_service.specs.declared.opening.Paper.{Paper}
use Rattle.desk_service.specs.declared.opening.Paper.TheVariants.{Office, Lists}
use Rattle.verdict_report.specs.declared.unfit.Unfit.{Unfit}
use Rattle.verdict_report.specs.declared.unfit.Unfit.TheVariants.{Form}
use Rattle.desk_service.specs.Opening.{paper_path}
use Rattle.desk_service.specs.Saying.{status}
use Rattle.desk_service.specs.Serving.{Seen, Answers}
use Rattle.desk_service.specs.Texts.{refused_text, served_text, door_fault_text}
use Rattle.run_witness.specs.Commands.{content}
use Rattle.run_witness.specs.Connections.{decision}

-- nothing was printed before, and this after
pub record Prints (old new : Seen) (text : List ℕ) : Type 0 where
  pub before : old.printed ≡ Some []
  pub after : new.printed ≡ Some text

-- no call had failed before, and this many after
pub record Fails (before after n : ℕ) : Type 0 where
  pub none : before ≡ 0
  pub some : after ≡ n

-- the folder's file is so
abbrev pub Holds : Seen → Serve → Paper → Option (List ℕ) → Type 0
Holds old asked paper file = (told : Told) × (old.files ≡ Some told) × (told.files (paper_path asked.office paper) ≡ file)

-- the door tells that it has two connections left
abbrev pub HasTwo : Seen → Type 0
HasTwo old = (talk : LinkTold) × (old.desk.talk ≡ Some talk) × (length talk.left ≡ 2)

-- ada's case with one decision, which has no report
abbrev pub decided : Case
decided = record { party = codes "ada"; reference = codes "a1"; content = content; entries = entry_of decision ∷ [] }

-- the keeper tells one more decision on it, which has no report either
pub record DecidesUnread (old new : Seen) : Type 0 where
  pub decision : Decision
  pub unread : decision.report ≡ []
  pub before : old.desk.cases ≡ Some (decided ∷ [])
  pub after : new.desk.cases ≡ Some (with_entry decision decided ∷ [])

-- the words `serve o 2`
abbrev pub words : List (List ℕ)
words = codes "serve" ∷ codes "o" ∷ codes "2" ∷ []

-- at every desk
pub record NoServing (asked : Serve) (today : Option ℕ) (old new : Seen) : Type 0 where
  -- what is refused has not served (else status 0)
  pub refused : (paper : Paper) (unfit : Unfit) → Prints old new (refused_text paper unfit) → Answers (Some asked) today old new (Some (status 0)) → ⊥
  -- nor has a door that failed (else status 0)
  pub door_failed : Prints old new door_fault_text → Answers (Some asked) today old new (Some (status 0)) → ⊥
  -- of two connections that are left and asked for none fails to be taken (else none, or one)
  pub none_taken : asked.most ≡ 2 → HasTwo old → Prints old new (served_text 0) → Answers (Some asked) today old new (Some (status 0)) → ⊥
  pub one_taken : asked.most ≡ 2 → HasTwo old → Prints old new (served_text 1) → Answers (Some asked) today old new (Some (status 0)) → ⊥
  -- what is decided is a verdict, which has a report, though an older one is none (else it would be kept as it came)
  pub verdicts : DecidesUnread old new → Answers (Some asked) today old new (Some (status 0)) → ⊥
  -- a put that failed is no want of memory (else status 7)
  pub put_failed : Fails old.print_faults new.print_faults 1 → Answers (Some asked) today old new (Some (status 7)) → ⊥
  -- a put that did not fail is none that failed (else status 6)
  pub put_succeeded : Fails old.print_faults new.print_faults 0 → Answers (Some asked) today old new (Some (status 6)) → ⊥
  -- a read that failed refuses nothing (else the file would be absent)
  pub read_failed : Fails old.file_faults new.file_faults 1 → Answers (Some asked) today old new (Some (status 3)) → ⊥
  -- an office file of more than 16,777,216 bytes opens no desk (else one of 16,777,217 would)
  pub long_office : (bytes : List ℕ) → Holds old asked Office (Some bytes) → 16777216 < length bytes → Answers (Some asked) today old new (Some (status 0)) → ⊥
  -- lists that are not there have no fault of their form (else that of the office file) and open no desk
  pub no_lists : (fault : FormFault) → Holds old asked Lists None → Prints old new (refused_text Lists (Form fault)) → Answers (Some asked) today old new (Some (status 3)) → ⊥
  pub no_desk : Holds old asked Lists None → Answers (Some asked) today old new (Some (status 0)) → ⊥

pub record ServingsEnd : Type 0 where
  pub no_serving : (asked : Serve) (today : Option ℕ) (old new : Seen) → NoServing asked today old new
  -- words that ask for a desk are answered (else as no words are)
  pub asked : (today : Option ℕ) (old new : Seen) → Answers (parse words) today old new None → ⊥

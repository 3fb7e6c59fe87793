-- From what is found of a folder to what is due to the words.
use Rattle.std.proofs.Common.{◌≡◌, ◌≤◌, ◌⊎◌, inl, inr, ℕ, List, [], ◌∷◌, ◌++◌, Option, Some, None, Result, Ok, Err, refl, sym, ◌∙◌, ap, subst, append_assoc, arith}
use Rattle.std.specs.Prelude.{IfOk, IsTrue, is_some, string_bytes}
use Rattle.vet_base.specs.Outside.{Told, held_by}
use Rattle.vet_base.specs.declared.memory.Memory.{Memory as NoMemory}
use Rattle.vet_base.specs.declared.outside.FileFault.TheVariants as faults
use Rattle.office_forms.specs.OneForm.{OneFormOrFault}
use Rattle.verdict.specs.declared.outcome.Outcome.{Outcome}
use Rattle.verdict.specs.declared.outcome.Outcome.TheVariants as outcomes
use Rattle.verdict.specs.declared.outcome.Part.{Part}
use Rattle.verdict.specs.declared.outcome.Reason.{Reason}
use Rattle.verdict.specs.declared.parts.Parts.{Parts}
use Rattle.vetting_desk.specs.declared.answer.Answer.{Answer}
use Rattle.vetting_desk.specs.declared.finding.Found.{Found}
use Rattle.vetting_desk.specs.declared.finding.Found.TheVariants.{Said, ReadFault, Memory}
use Rattle.app_folder.specs.declared.folder.Halt.{Halt}
use Rattle.app_folder.specs.declared.folder.Halt.TheVariants as halts
use Rattle.desk_words.specs.Words.{Words, Check, Certify, Recheck, Story}
use Rattle.app_folder.specs.Folder.{Refusal, IsFileIn}
use Rattle.app_folder.specs.Heard.{entries_of, GaveParts, Gave, GaveRefusal, HearsFolder}
use Rattle.heard_files.specs.Outside.{Entry}
use Rattle.vetting_desk.specs.Answer.{Answers, DueByReads, Alike, ComesByRows, HasSafeApp, SaysClear, IsSafe, HasFullReport, SaysFound, IsFullReport, IsFileOf}
use Rattle.app_folder.specs.Due.{Due, reported}
use Rattle.vetting_desk.specs.Due.{SameButStories, usage, due_of}
use Rattle.app_folder.specs.FolderDue.{FolderDue, Checks}
use Rattle.vetting_desk.specs.PartsDue.{Certifies, GivesTold, Rechecks, Retells}
use Rattle.vetting_desk.specs.Found.{FindsOfParts, FindsStories, FindsDue, IsFound, FindsByFile, HearsFile, said, halted}
use Rattle.app_folder.specs.Outside.{Tells}
use Rattle.app_folder.specs.Reading.{GathersTold, GathersAs, Leaves, FailsAt}
use Rattle.app_folder.proofs.Holding.{holds_parts}
use Rattle.app_folder.proofs.OneFolder.{one_gathered, only_of_parts, only_of_refusal}
use Rattle.vet_base.proofs.Results.{one_ok, ok_or_err}

abbrev tells_of : Option Told → Option (List ℕ) → Tells
tells_of told printed = record { files = told; printed = printed }

-- Words that ask something of the parts in a folder: what is due to them is what is due to the folder, and what they say of the app
-- is said of that of the folder.
pub record AsksOf (words : Option Words) (dir : List ℕ) (told : Option Told) (ho hn : List Entry) (PartsDue : Parts → Due → Type 0) : Type 0 where
  pub answers : (printed : Option (List ℕ)) (due : Due) → FolderDue PartsDue (GathersTold told dir) due → Answers words (tells_of told printed) due
  pub only : (printed : Option (List ℕ)) (due : Due) → Answers words (tells_of told printed) due → FolderDue PartsDue (GathersTold told dir) due
  pub alike : (printed : Option (List ℕ)) (due other : Due) → FolderDue PartsDue (GathersTold told dir) due → other ≡ due → Alike words (tells_of told printed) due other
  pub refuses : (refusal : Refusal) → GaveRefusal ho hn dir refusal → DueByReads words ho hn (reported (outcomes.Refused refusal.0 refusal.1))
  pub clear : (status : ℕ) → SaysClear words status → status ≡ 0
  pub safe : (printed : Option (List ℕ)) → HasSafeApp dir told ho hn → IsSafe words (tells_of told printed) ho hn
  pub found : (status : ℕ) → SaysFound words status → (status ≡ 1) ⊎ (status ≡ 2)
  pub file : (name : List ℕ) → IsFileIn dir name → IsFileOf words name

-- such words of which a report of what their parts come to so is a full one
abbrev ReportsBy : Option Words → List ℕ → Option Told → List Entry → List Entry → (Parts → Outcome → Type 0) → Type 0
ReportsBy words dir told ho hn Comes = (printed : Option (List ℕ)) (status : ℕ) (text : List ℕ) → HasFullReport Comes dir told ho hn status text → IsFullReport words (tells_of told printed) ho hn status text

only_check : (dir : List ℕ) (n : ℕ) (told : Option Told) (printed : Option (List ℕ)) (due : Due) → Answers (Some (Check dir n)) (tells_of told printed) due → FolderDue Checks (GathersTold told dir) due
only_check dir n told printed _ (Answers.no_command e) = absurd cc
only_check dir n told printed _ (Answers.check other k due e is) = let same : dir ≡ other = cc in subst (λ (d : List ℕ). FolderDue Checks (GathersTold told d) due) (sym same) is
only_check dir n told printed _ (Answers.certify other path due e is) = absurd cc
only_check dir n told printed _ (Answers.recheck other path due e is) = absurd cc
only_check dir n told printed _ (Answers.story other due e is) = absurd cc
only_check dir n told printed _ (Answers.make seed size workers judged e is) = absurd cc

only_certify : (dir path : List ℕ) (told : Option Told) (printed : Option (List ℕ)) (due : Due) → Answers (Some (Certify dir path)) (tells_of told printed) due → FolderDue (Certifies path) (GathersTold told dir) due
only_certify dir path told printed _ (Answers.no_command e) = absurd cc
only_certify dir path told printed _ (Answers.check other n due e is) = absurd cc
only_certify dir path told printed _ (Answers.certify other path2 due e is) =
    let same : dir ≡ other = cc in
    let same_path : path ≡ path2 = cc in
    subst (λ (d : List ℕ). FolderDue (Certifies path) (GathersTold told d) due) (sym same) (subst (λ (p : List ℕ). FolderDue (Certifies p) (GathersTold told other) due) (sym same_path) is)
only_certify dir path told printed _ (Answers.recheck other path2 due e is) = absurd cc
only_certify dir path told printed _ (Answers.story other due e is) = absurd cc
only_certify dir path told printed _ (Answers.make seed size workers judged e is) = absurd cc

only_recheck : (dir path : List ℕ) (told : Option Told) (printed : Option (List ℕ)) (due : Due) → Answers (Some (Recheck dir path)) (tells_of told printed) due → FolderDue (Rechecks path (GivesTold told path)) (GathersTold told dir) due
only_recheck dir path told printed _ (Answers.no_command e) = absurd cc
only_recheck dir path told printed _ (Answers.check other n due e is) = absurd cc
only_recheck dir path told printed _ (Answers.certify other path2 due e is) = absurd cc
only_recheck dir path told printed _ (Answers.recheck other path2 due e is) =
    let same : dir ≡ other = cc in
    let same_path : path ≡ path2 = cc in
    subst (λ (d : List ℕ). FolderDue (Rechecks path (GivesTold told path)) (GathersTold told d) due) (sym same) (subst (λ (p : List ℕ). FolderDue (Rechecks p (GivesTold told p)) (GathersTold told other) due) (sym same_path) is)
only_recheck dir path told printed _ (Answers.story other due e is) = absurd cc
only_recheck dir path told printed _ (Answers.make seed size workers judged e is) = absurd cc

only_story : (dir : List ℕ) (told : Option Told) (printed : Option (List ℕ)) (due : Due) → Answers (Some (Story dir)) (tells_of told printed) due → FolderDue Retells (GathersTold told dir) due
only_story dir told printed _ (Answers.no_command e) = absurd cc
only_story dir told printed _ (Answers.check other n due e is) = absurd cc
only_story dir told printed _ (Answers.certify other path due e is) = absurd cc
only_story dir told printed _ (Answers.recheck other path due e is) = absurd cc
only_story dir told printed _ (Answers.story other due e is) = let same : dir ≡ other = cc in subst (λ (d : List ℕ). FolderDue Retells (GathersTold told d) due) (sym same) is
only_story dir told printed _ (Answers.make seed size workers judged e is) = absurd cc

-- what is due where stories are asked for is like itself
like_itself : (dir : List ℕ) (told : Option Told) (due other : Due) → FolderDue Retells (GathersTold told dir) due → other ≡ due → SameButStories due other
like_itself dir told _ other (FolderDue.refused refusal is) same =
    record { outcome = outcomes.Refused refusal.0 refusal.1; first = None; second = None; one_is = refl; other_is = same; as_many = refl }
like_itself dir told _ other (FolderDue.given parts _ gathers (Retells.stories outcome stories tells)) same =
    record { outcome = outcome; first = stories; second = stories; one_is = refl; other_is = same; as_many = refl }

pub check_asks : (dir : List ℕ) (n : ℕ) (told : Option Told) (ho hn : List Entry) → AsksOf (Some (Check dir n)) dir told ho hn Checks
check_asks dir n told ho hn = record {
  answers = λ printed due is. Answers.check dir n due refl is;
  only = only_check dir n told;
  alike = λ printed due other is same. sym same;
  refuses = λ refusal gave. FolderDue.refused refusal gave;
  clear = λ status zero. zero;
  safe = λ printed has. has;
  found = λ status is. is;
  file = λ name is. is;
}

pub certify_asks : (dir path : List ℕ) (told : Option Told) (ho hn : List Entry) → AsksOf (Some (Certify dir path)) dir told ho hn (Certifies path)
certify_asks dir path told ho hn = record {
  answers = λ printed due is. Answers.certify dir path due refl is;
  only = only_certify dir path told;
  alike = λ printed due other is same. sym same;
  refuses = λ refusal gave. FolderDue.refused refusal gave;
  clear = λ status zero. zero;
  safe = λ printed has. has;
  found = λ status is. is;
  file = λ name is. is;
}

pub recheck_asks : (dir path : List ℕ) (told : Option Told) (ho hn : List Entry) → AsksOf (Some (Recheck dir path)) dir told ho hn (Rechecks path (GivesTold told path))
recheck_asks dir path told ho hn = record {
  answers = λ printed due is. Answers.recheck dir path due refl is;
  only = only_recheck dir path told;
  alike = λ printed due other is same. sym same;
  refuses = λ refusal gave. (Err faults.Absent, FolderDue.refused refusal gave);
  clear = λ status zero. zero;
  safe = λ printed has. has;
  found = λ status is. is;
  file = λ name is. inl is;
}

pub story_asks : (dir : List ℕ) (told : Option Told) (ho hn : List Entry) → AsksOf (Some (Story dir)) dir told ho hn Retells
story_asks dir told ho hn = record {
  answers = λ printed due is. Answers.story dir due refl is;
  only = only_story dir told;
  alike = λ printed due other is same. (is, like_itself dir told due other is same);
  refuses = λ refusal gave. FolderDue.refused refusal gave;
  clear = λ status zero. zero;
  safe = λ printed has. has;
  found = λ status is. is;
  file = λ name is. is;
}

-- what is found of the parts that the folder gives is due
finds_due : (forms : OneFormOrFault) (words : Option Words) (dir : List ℕ) (told : Option Told) (ho hn : List Entry) (PartsDue : Parts → Due → Type 0) → AsksOf words dir told ho hn PartsDue
    → (Comes : Parts → Outcome → Type 0) → ReportsBy words dir told ho hn Comes
    → (Sure : Type 0) → (IsTrue (is_some told) → Sure) → (parts : Parts) (due : Due) → GaveParts ho hn dir parts → GathersTold told dir (Ok parts) → FindsOfParts Sure PartsDue Comes parts due
    → DueByReads words ho hn due → FindsDue words told ho hn due
finds_due forms words dir told ho hn PartsDue asks Comes reports Sure sure parts due gave gathers finds read = λ printed. record {
  answers = asks.answers printed due (FolderDue.given parts due gathers finds.is);
  read = read;
  only = λ tells other is.
      asks.alike printed due other (FolderDue.given parts due gathers finds.is)
      (only_of_parts forms dir told PartsDue parts due gathers tells (finds.only (sure tells)) other (asks.only printed other is));
  safe = λ clear. asks.safe printed (record { parts = parts; gave = gave; holds = λ tells. holds_parts (held_by told) dir parts (gathers tells); safe = finds.safe (asks.clear due.status clear) });
  full = λ found.
      let all = finds.full (asks.found due.status found) in
      reports printed due.status due.text
      (record { parts = parts; gave = gave; holds = λ tells. holds_parts (held_by told) dir parts (gathers tells); outcome = all.outcome; comes = all.comes; status = all.status; text = all.text; tells = all.tells });
}

-- a status from 3 on is none of a finding
no_finding : (n : ℕ) → 3 ≤ n → (n ≡ 1) ⊎ (n ≡ 2) → ⊥
no_finding n above (inl one) = omega (arith, above, one)
no_finding n above (inr two) = omega (arith, above, two)

finds_refusal : (forms : OneFormOrFault) (words : Option Words) (dir : List ℕ) (told : Option Told) (ho hn : List Entry) (PartsDue : Parts → Due → Type 0) → AsksOf words dir told ho hn PartsDue
    → (part : Part) (reason : Reason) → GathersTold told dir (Err (part, reason)) → GaveRefusal ho hn dir (part, reason)
    → FindsDue words told ho hn (reported (outcomes.Refused part reason))
finds_refusal forms words dir told ho hn PartsDue asks part reason gathers gave = λ printed. record {
  answers = asks.answers printed (reported (outcomes.Refused part reason)) (FolderDue.refused (part, reason) gathers);
  read = asks.refuses (part, reason) gave;
  only = λ tells other is.
      asks.alike printed (reported (outcomes.Refused part reason)) other (FolderDue.refused (part, reason) gathers)
      (only_of_refusal forms dir told PartsDue (part, reason) gathers tells other (asks.only printed other is));
  safe = λ clear. let zero : 3 ≡ 0 = asks.clear 3 clear in absurd (omega (arith, zero));
  full = λ found. absurd (no_finding 3 (omega arith) (asks.found 3 found));
}

-- words that are no command have one due
only_usage : (tells : Tells) (other : Due) → Answers None tells other → other ≡ usage
only_usage tells _ (Answers.no_command e) = refl
only_usage tells _ (Answers.check dir n due e is) = absurd cc
only_usage tells _ (Answers.certify dir path due e is) = absurd cc
only_usage tells _ (Answers.recheck dir path due e is) = absurd cc
only_usage tells _ (Answers.story dir due e is) = absurd cc
only_usage tells _ (Answers.make seed size workers judged e is) = absurd cc

pub finds_usage : (told : Option Told) (heard : List Entry) → FindsDue None told heard heard usage
finds_usage told heard = λ printed. record { answers = Answers.no_command refl; read = (refl, refl); only = λ tells other is. sym (only_usage (tells_of told printed) other is); safe = λ clear. clear; full = λ found. found }

-- what was found of the parts
pub found_said : (forms : OneFormOrFault) (words : Option Words) (dir : List ℕ) (told : Option Told) (ho hn : List Entry) (PartsDue : Parts → Due → Type 0) → AsksOf words dir told ho hn PartsDue
    → (Comes : Parts → Outcome → Type 0) → ReportsBy words dir told ho hn Comes
    → ((parts : Parts) (due : Due) → Gave ho hn dir [] (Ok parts) → PartsDue parts due → DueByReads words ho hn due)
    → (parts : Parts) (new : Option Told) (before after : ℕ) (answer : Result Answer NoMemory)
    → Gave ho hn dir [] (Ok parts) → GathersTold told dir (Ok parts) → IfOk answer (λ a. FindsOfParts (Unit {0}) PartsDue Comes parts (due_of a))
    → new ≡ told → after ≡ before → IsFound words told new before after ho hn (said answer)
found_said forms words dir told ho hn PartsDue asks Comes reports read parts new before after (Ok answer) gave gathers finds same count =
    (finds_due forms words dir told ho hn PartsDue asks Comes reports (Unit {0}) (λ tells. tt) parts (due_of answer) gave.0 gathers finds (read parts (due_of answer) gave finds.is), same, count)
found_said forms words dir told ho hn PartsDue asks Comes reports read parts new before after (Err e) gave gathers finds same count = (same, count)

-- what is due to a folder where stories are asked for is so of the parts that it gives
of_parts : (forms : OneFormOrFault) (dir : List ℕ) (told : Option Told) (parts : Parts) (due : Due)
    → GathersTold told dir (Ok parts) → IsTrue (is_some told) → ((other : Due) → Retells parts other → SameButStories due other)
    → (other : Due) → FolderDue Retells (GathersTold told dir) other → SameButStories due other
of_parts forms dir told parts due gathers tells only _ (FolderDue.refused refusal is) =
    absurd (ok_or_err (Ok parts) parts refusal refl (one_gathered forms (held_by told) dir (Ok parts) (Err refusal) (gathers tells) (is tells)))
of_parts forms dir told parts due gathers tells only _ (FolderDue.given parts2 due2 is has) =
    let same : parts ≡ parts2 = one_ok (Ok parts) parts parts2 refl (one_gathered forms (held_by told) dir (Ok parts) (Ok parts2) (gathers tells) (is tells)) in
    only due2 (subst (λ (p : Parts). Retells p due2) (sym same) has)

-- the stories of the parts that the folder gives are due
finds_story : (forms : OneFormOrFault) (dir : List ℕ) (told : Option Told) (ho hn : List Entry) (parts : Parts) (due : Due) → Gave ho hn dir [] (Ok parts) → GathersTold told dir (Ok parts) → FindsStories parts due
    → FindsDue (Some (Story dir)) told ho hn due
finds_story forms dir told ho hn parts due gave gathers finds = λ printed. record {
  answers = Answers.story dir due refl (FolderDue.given parts due gathers finds.is);
  read = FolderDue.given parts due gave finds.is;
  only = λ tells other is. (FolderDue.given parts due gathers finds.is, of_parts forms dir told parts due gathers tells finds.only other (only_story dir told printed other is));
  safe = λ clear. record { parts = parts; gave = gave.0; holds = λ tells. holds_parts (held_by told) dir parts (gathers tells); safe = finds.safe clear };
  full = λ found.
      let all = finds.full found in
      record { parts = parts; gave = gave.0; holds = λ tells. holds_parts (held_by told) dir parts (gathers tells); outcome = all.outcome; stories = all.stories; retells = all.retells; status = all.status; text = all.text; tells = all.tells };
}

-- what stories were found of the parts
pub found_stories : (forms : OneFormOrFault) (dir : List ℕ) (told : Option Told) (ho hn : List Entry) (parts : Parts) (new : Option Told) (before after : ℕ) (answer : Result Answer NoMemory)
    → Gave ho hn dir [] (Ok parts) → GathersTold told dir (Ok parts) → IfOk answer (λ a. FindsStories parts (due_of a)) → new ≡ told → after ≡ before
    → IsFound (Some (Story dir)) told new before after ho hn (said answer)
found_stories forms dir told ho hn parts new before after (Ok answer) gave gathers finds same count =
    (finds_story forms dir told ho hn parts (due_of answer) gave gathers finds, same, count)
found_stories forms dir told ho hn parts new before after (Err e) gave gathers finds same count = (same, count)

-- the parts could not be had
pub found_halted : (forms : OneFormOrFault) (words : Option Words) (dir : List ℕ) (told : Option Told) (ho hn : List Entry) (PartsDue : Parts → Due → Type 0) → AsksOf words dir told ho hn PartsDue
    → (new : Option Told) (before after : ℕ) (halt : Halt)
    → GathersAs told dir (Err halt) → HearsFolder ho hn dir (Err halt) → Leaves {X = Parts} told new before after (Err halt) → FailsAt {X = Parts} (IsFileIn dir) (Err halt)
    → IsFound words told new before after ho hn (halted halt)
found_halted forms words dir told ho hn PartsDue asks new before after (halts.Refused part reason) gathers hears leaves fails =
    (finds_refusal forms words dir told ho hn PartsDue asks part reason gathers hears, leaves.0, leaves.1)
found_halted forms words dir told ho hn PartsDue asks new before after (halts.ReadFault name) gathers hears leaves fails =
    record { of_command = asks.file (string_bytes name) fails; risen = leaves.0; last = leaves.1; kept = leaves.2 }
found_halted forms words dir told ho hn PartsDue asks new before after halts.Memory gathers hears leaves fails = (leaves.0, leaves.1)

-- behind the files of the folder this was read
gave_then : (dir : List ℕ) (ho hm hn more : List Entry) (parts : Parts) → Gave ho hm dir [] (Ok parts) → hn ≡ hm ++ more → Gave ho hn dir more (Ok parts)
gave_then dir ho hm hn more parts gave rest = (
  record {
    more = gave.0.more ++ more;
    heard = rest ∙ (ap (λ (es : List Entry). es ++ more) gave.0.heard ∙ append_assoc (ho ++ entries_of dir parts) gave.0.more more);
    says = gave.0.says;
    form = gave.0.form;
    count = gave.0.count;
  },
  ap (λ (es : List Entry). es ++ more) gave.1,
)

by_file : (forms : OneFormOrFault) (dir path : List ℕ) (told : Option Told) (ho hm hn : List Entry) (parts : Parts) (new : Option Told) (before after : ℕ) (found : Found)
    → Gave ho hm dir [] (Ok parts) → HearsFile path parts hm hn found → GathersTold told dir (Ok parts) → FindsByFile path parts told new before after found
    → IsFound (Some (Recheck dir path)) told new before after ho hn found
by_file forms dir path told ho hm hn parts new before after (Said answer) gave hears gathers finds =
    let then : Gave ho hn dir ((path, 536870912, hears.0) ∷ []) (Ok parts) = gave_then dir ho hm hn ((path, 536870912, hears.0) ∷ []) parts gave hears.1 in
    (finds_due forms (Some (Recheck dir path)) dir told ho hn (Rechecks path (GivesTold told path)) (recheck_asks dir path told ho hn) ComesByRows (λ printed status text has. has) (IsTrue (is_some told)) (λ tells. tells) parts (due_of answer) then.0 gathers finds.0 (hears.0, FolderDue.given parts (due_of answer) then hears.2), finds.1, finds.2)
by_file forms dir path told ho hm hn parts new before after (ReadFault name) gave hears gathers finds = record { of_command = inr finds.0; risen = finds.1; last = finds.2; kept = finds.3 }
by_file forms dir path told ho hm hn parts new before after Memory gave hears gathers finds = finds

-- what was found of the parts by the certificate in a file, which is read when the folder has been read
pub found_by_file : (forms : OneFormOrFault) (dir path : List ℕ) (told between : Option Told) (ho hm hn : List Entry) (parts : Parts) (new : Option Told) (before middle after : ℕ) (found : Found)
    → Gave ho hm dir [] (Ok parts) → HearsFile path parts hm hn found → GathersTold told dir (Ok parts) → between ≡ told → middle ≡ before
    → FindsByFile path parts between new middle after found → IsFound (Some (Recheck dir path)) told new before after ho hn found
found_by_file forms dir path told between ho hm hn parts new before middle after found gave hears gathers same count finds =
    let AtTold : Option Told → Type 0 = λ t. FindsByFile path parts t new middle after found in
    let AtCount : ℕ → Type 0 = λ n. FindsByFile path parts told new n after found in
    by_file forms dir path told ho hm hn parts new before after found gave hears gathers (subst AtCount count (subst AtTold same finds))

-- what was found without the files
pub found_alone : (words : Option Words) (told : Option Told) (count : ℕ) (heard : List Entry) (answer : Result Answer NoMemory)
    → IfOk answer (λ a. (t : Option Told) (h : List Entry) → FindsDue words t h h (due_of a)) → IsFound words told told count count heard heard (said answer)
found_alone words told count heard (Ok answer) finds = (finds told heard, refl, refl)
found_alone words told count heard (Err e) finds = (refl, refl)

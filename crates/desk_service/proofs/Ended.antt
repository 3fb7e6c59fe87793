-- From what a run came to, to how it ends.
use Rattle.std.proofs.Common.{◌≡◌, inl, inr, ℕ, List, ◌++◌, take, Option, Result, Ok, Err, refl, sym, ◌∙◌, subst}
use Rattle.std.specs.Option.{option_map}
use Rattle.std.specs.Prelude.{Vec}
use Rattle.std.specs.declared.alloc.Global.{Global}
use Rattle.sha2.specs.Sha256.{sha256}
use Rattle.vet_base.specs.Outside.{HasRisen}
use Rattle.vet_base.specs.Outside.{Told as FilesTold}
use Rattle.heard_files.specs.Outside.{Entry}
use Rattle.vet_base.specs.declared.memory.Memory.{Memory as NoMemory}
use Rattle.desk_links.specs.Links.{Told as LinkTold}
use Rattle.desk_links.specs.declared.door.DoorFault.{DoorFault}
use Rattle.desk_links.specs.declared.door.DoorFault.TheVariants as doors
use Rattle.case_rules.specs.declared.case.Case.{Case}
use Rattle.desk_serving.specs.Serving.{Outside}
use Rattle.desk_serving.specs.Run.{Runs, IsMachineRun, HoldsTalks, CountsAll}
use Rattle.desk_service.specs.Judging.{FindsBy}
use Rattle.desk_service.specs.Adding.{RunsAddVerdicts}
use Rattle.desk_service.specs.Safety.{RunsStaySafe}
use Rattle.desk_serving.specs.declared.judge.Desk.{Desk}
use Rattle.store_office.specs.declared.office.Office.{Office}
use Rattle.desk_service.specs.declared.lists_judge.OfficeLists.{OfficeLists}
use Rattle.desk_service.specs.declared.opening.Halt.{Halt}
use Rattle.desk_service.specs.declared.opening.Halt.TheVariants as halts
use Rattle.desk_service.specs.declared.outside.Status.{Status}
use Rattle.desk_service.specs.Opening.{opened_of, OpensDesk, GaveOffice, Leaves, paper_path}
use Rattle.desk_service.specs.Saying.{PutsText, Says, HaltSays, TakenSays, SaysAs}
use Rattle.desk_service.specs.Serving.{Seen, seen, ServesDesk, Serves, ComesToSay, RunsOut, Ends}
use Rattle.desk_service.specs.Texts.{refused_text, read_fault_text, served_text, door_fault_text}
use Rattle.desk_words.specs.Serve.{Serve}

module _ (asked : Serve) (today : Option ℕ) where
  -- status and text are these
  as_said : (old new : Seen) (n m : ℕ) (text said : List ℕ) → m ≡ n → said ≡ text → ComesToSay asked today old new n text
      → ComesToSay asked today old new m said
  as_said old new n m text said same_n same_text comes =
      subst (λ (k : ℕ). ComesToSay asked today old new k said) (sym same_n)
      (subst (λ (t : List ℕ). ComesToSay asked today old new n t) (sym same_text) comes)

  says_taken : (old new : Seen) (r : Result ℕ DoorFault) (result : Result (Status × Vec ℕ Global) NoMemory)
      → Serves asked today old new r
      → (r ≡ Err doors.Failed → HasRisen old.desk.link_faults new.desk.link_faults)
      → SaysAs (TakenSays r) result → Says asked today old new result
  says_taken old new (Ok count) (Ok said) serves risen says =
      as_said old new 0 said.0.0 (served_text count) said.1.items says.0 says.1 (ComesToSay.served count serves)
  says_taken old new (Ok count) (Err e) serves risen says =
      RunsOut.unsaid 0 (served_text count) (ComesToSay.served count serves)
  says_taken old new (Err doors.Failed) (Ok said) serves risen says =
      as_said old new 8 said.0.0 door_fault_text said.1.items says.0 says.1 (ComesToSay.door_fault serves (risen refl))
  says_taken old new (Err doors.Failed) (Err e) serves risen says =
      RunsOut.unsaid 8 door_fault_text (ComesToSay.door_fault serves (risen refl))
  says_taken old new (Err doors.Memory) (Ok said) serves risen says = absurd says
  says_taken old new (Err doors.Memory) (Err e) serves risen says = RunsOut.at_door serves

  -- connections were taken
  pub said_of_desk : (old new : Seen) (desk : Desk OfficeLists) (r : Result ℕ DoorFault)
      (result : Result (Status × Vec ℕ Global) NoMemory)
      → OpensDesk old.files asked.office (Ok desk)
      → Leaves {X = Desk OfficeLists} old.files new.files old.file_faults new.file_faults asked.office (Ok desk)
      → GaveOffice old.heard new.heard asked.office (opened_of desk)
      → ServesDesk (opened_of desk) today asked.most old.desk new.desk r
      → (r ≡ Err doors.Failed → HasRisen old.desk.link_faults new.desk.link_faults)
      → SaysAs (TakenSays r) result → Says asked today old new result
  said_of_desk old new desk r result opens leaves gave serves risen says =
      says_taken old new r result
      (record {
        opened = opened_of desk;
        opens = opens.0;
        gave = gave;
        files = record { files = leaves.0; faults = leaves.1 };
        desk = serves;
      })
      risen says

  -- no desk could be opened
  pub said_of_halt : (old new : Seen) (halt : Halt) (result : Result (Status × Vec ℕ Global) NoMemory)
      → OpensDesk old.files asked.office (Err halt)
      → Leaves {X = Desk OfficeLists} old.files new.files old.file_faults new.file_faults asked.office (Err halt)
      → new.desk ≡ old.desk → SaysAs (HaltSays asked.office halt) result → Says asked today old new result
  said_of_halt old new (halts.Refused paper unfit) (Ok said) opens leaves same says =
      as_said old new 3 said.0.0 (refused_text paper unfit) said.1.items says.0 says.1
      (ComesToSay.refused (paper, unfit) opens (record { files = leaves.0; faults = leaves.1 }) same)
  said_of_halt old new (halts.Refused paper unfit) (Err e) opens leaves same says =
      RunsOut.unsaid 3 (refused_text paper unfit)
      (ComesToSay.refused (paper, unfit) opens (record { files = leaves.0; faults = leaves.1 }) same)
  said_of_halt old new (halts.ReadFault paper) (Ok said) opens leaves same says =
      as_said old new 5 said.0.0 (read_fault_text (paper_path asked.office paper)) said.1.items says.0 says.1
      (ComesToSay.read_fault paper leaves same)
  said_of_halt old new (halts.ReadFault paper) (Err e) opens leaves same says =
      RunsOut.unsaid 5 (read_fault_text (paper_path asked.office paper)) (ComesToSay.read_fault paper leaves same)
  said_of_halt old new halts.Memory (Ok said) opens leaves same says = absurd says
  said_of_halt old new halts.Memory (Err e) opens leaves same says =
      RunsOut.unopened (record { files = leaves.0; faults = leaves.1 }) same

  module _ (old : Seen) (files : Option FilesTold) (file_faults : ℕ) (heard : List Entry) (a b : Option (List ℕ)) (i j : ℕ) (x y : List ℕ)
      (cases : Option (List Case)) (store_faults : ℕ) (talk : Option LinkTold) (link_faults : ℕ) where
    abbrev Mid : Seen
    Mid = seen files file_faults heard a i x cases store_faults talk link_faults

    abbrev New : Seen
    New = seen files file_faults heard b j y cases store_faults talk link_faults

    -- what is printed is not looked at
    serves_on : (r : Result ℕ DoorFault) → Serves asked today old Mid r → Serves asked today old New r
    serves_on r s = record {
      opened = s.opened;
      opens = s.opens;
      gave = s.gave;
      files = record { files = s.files.files; faults = s.files.faults };
      desk = s.desk;
    }

    comes_on : (n : ℕ) (text : List ℕ) → ComesToSay asked today old Mid n text → ComesToSay asked today old New n text
    comes_on _ _ (ComesToSay.served count s) = ComesToSay.served count (serves_on (Ok count) s)
    comes_on _ _ (ComesToSay.refused refusal opens keeps same) =
        ComesToSay.refused refusal opens (record { files = keeps.files; faults = keeps.faults }) same
    comes_on _ _ (ComesToSay.read_fault paper fails same) = ComesToSay.read_fault paper fails same
    comes_on _ _ (ComesToSay.door_fault s risen) = ComesToSay.door_fault (serves_on (Err doors.Failed) s) risen

    as_status : (due result : Status) → result ≡ due → Ends asked today old New due.0 → Ends asked today old New result.0
    as_status due result same ends = subst (λ (s : Status). Ends asked today old New s.0) (sym same) ends

    ends_with : (due result : Status) (text : List ℕ) → old.printed ≡ a → old.print_faults ≡ i → old.handed ≡ x
        → ComesToSay asked today old Mid due.0 text → PutsText a b i j x y due text result → Ends asked today old New result.0
    ends_with due result text same count hands comes (inl h) =
        as_status due result h.0
        (Ends.said due.0 text (comes_on due.0 text comes)
        (record {
          printed = subst (λ (o : Option (List ℕ)). b ≡ option_map (λ taken. taken ++ text) o) (sym same) h.1;
          count = h.2 ∙ sym count;
          handed = subst (λ (o : List ℕ). y ≡ o ++ text) (sym hands) h.3;
        }))
    ends_with due result text same count hands comes (inr (inl h)) =
        as_status (record { 0 = 6 }) result h.0
        (Ends.put_failed due.0 text (comes_on due.0 text comes)
        (record {
          length = h.1.0;
          printed = subst (λ (o : Option (List ℕ)). b ≡ option_map (λ taken. taken ++ take h.1.0 text) o) (sym same) h.1.1;
          risen = subst (λ (k : ℕ). HasRisen k j) (sym count) h.2;
          handed = subst (λ (o : List ℕ). y ≡ o ++ text) (sym hands) h.3;
        }))
    ends_with due result text same count hands comes (inr (inr h)) =
        as_status (record { 0 = 7 }) result h.0
        (Ends.memory (RunsOut.unsaid due.0 text (comes_on due.0 text comes))
        (record { printed = h.1 ∙ sym same; count = h.2 ∙ sym count; handed = h.3 ∙ sym hands }))

    -- the text was put
    pub ends_put : (due result : Status) (text shown : List ℕ) → shown ≡ text → old.printed ≡ a → old.print_faults ≡ i → old.handed ≡ x
        → ComesToSay asked today old Mid due.0 text → PutsText a b i j x y due shown result
        → Ends asked today old New result.0
    ends_put due result text shown is same count hands comes puts =
        ends_with due result text same count hands comes
        (subst (λ (t : List ℕ). PutsText a b i j x y due t result) is puts)

-- what taking connections gives
serves_desk_by : RunsStaySafe → RunsAddVerdicts → (lists : List ℕ) (office : Office) (today : Option ℕ) (most : ℕ) (old new : Outside)
    (r : Result ℕ DoorFault) → Runs (FindsBy lists) office (sha256 lists) today most old new r
    → IsMachineRun old new r → HoldsTalks office old new r → CountsAll most old r
    → ServesDesk (record { office = office; lists = lists }) today most old new r
serves_desk_by stay add lists office today most old new r runs machine talks counts = record {
  runs = runs;
  machine = machine;
  adds = add lists office today most old new r runs;
  safe = stay lists office today most old new r runs;
  talks = talks;
  counts = counts;
}

pub serves_desk : RunsStaySafe → RunsAddVerdicts → (desk : Desk OfficeLists) (today : Option ℕ) (most : ℕ) (old new : Outside)
    (r : Result ℕ DoorFault) → desk.judge.edition ≡ sha256 desk.judge.lists
    → Runs (FindsBy desk.judge.lists) desk.office desk.judge.edition today most old new r
    → IsMachineRun old new r → HoldsTalks desk.office old new r → CountsAll most old r
    → ServesDesk (opened_of desk) today most old new r
serves_desk stay add desk today most old new r same runs machine talks counts =
    serves_desk_by stay add desk.judge.lists desk.office today most old new r
    (subst (λ (e : List ℕ). Runs (FindsBy desk.judge.lists) desk.office e today most old new r) same runs)
    machine talks counts

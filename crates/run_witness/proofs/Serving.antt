-- A run ends as its status says.
use Rattle.std.proofs.Common.{◌≡◌, ◌⊎◌, inl, inr, ℕ, ◌<◌, List, [], ◌∷◌, ◌++◌, drop, length, Option, Some, None, Ok, Err, refl, ap, sym, subst, ◌∙◌, arith, lit<}
use Rattle.std.specs.Prelude.{min, IsSomeAnd}
use Rattle.std.specs.Option.{option_map}
use Rattle.std.specs.Fmt.{digits}
use Rattle.std.proofs.lemmas.Option.{none-some, same_Some}
use Rattle.std.specs.List.{AllByRecursion}
use Rattle.vet_base.specs.Outside.{HasRisen, Told, held_by}
use Rattle.case_rules.specs.declared.case.Decision.{Decision}
use Rattle.case_rules.specs.Cases.{with_entry}
use Rattle.verdict.specs.declared.outcome.Outcome.{Outcome}
use Rattle.verdict.specs.declared.outcome.Outcome.TheVariants.{Clear, Flagged, Undecided, Refused}
use Rattle.verdict_report.specs.Printed.{counted_line}
use Rattle.verdict_report.specs.Report.{report_text, clear_text, flagged_text, undecided_text, refused_text as refused_report}
use Rattle.desk_service.specs.Adding.{IsVerdict, IsDecidedOn}
use Rattle.form_fields.specs.declared.told.FormFault.{FormFault}
use Rattle.form_fields.specs.declared.told.FormFault.TheVariants as forms
use Rattle.verdict_report.specs.Reasons.{form_reason, unfit_text}
use Rattle.desk_words.specs.Numbers.{digits as spelled, number, positive}
use Rattle.desk_words.specs.Serve.{Serve, is_serve, count_of}
use Rattle.desk_words.specs.Words.{is_file_name}
use Rattle.desk_service.specs.declared.opening.Paper.{Paper}
use Rattle.desk_service.specs.declared.opening.Paper.TheVariants.{Office, Lists}
use Rattle.verdict_report.specs.declared.unfit.Unfit.{Unfit}
use Rattle.verdict_report.specs.declared.unfit.Unfit.TheVariants.{Absent, TooLong, Form}
use Rattle.desk_service.specs.Opening.{Opens, OpensAs, Opened, Refusal, IsUnfitLists, paper_name}
use Rattle.desk_service.specs.Serving.{Seen, Serves, ComesToSay, Ends, KeepsFiles, PrintsNothing}
use Rattle.desk_service.specs.Serving.{Prints as PrintsText}
use Rattle.desk_service.specs.Texts.{refused_text, served_text, door_fault_text}
use Rattle.run_witness.specs.Servings.{Prints, Fails, Holds, HasTwo, decided, DecidesUnread, NoServing, ServingsEnd}

abbrev first : List ℕ → ℕ
first [] = 0
first (b ∷ bytes) = b

abbrev byte_at : ℕ → List ℕ → ℕ
byte_at n text = first (drop n text)

two_bytes : (n m : ℕ) → n ≡ m → (n < m) ⊎ (m < n) → ⊥
two_bytes n m same (inl below) = omega (arith, same, below)
two_bytes n m same (inr above) = omega (arith, same, above)

-- the statuses to which a run comes before it prints
comes : (asked : Serve) (today : Option ℕ) (old new : Seen) (n : ℕ) (text : List ℕ) → ComesToSay asked today old new n text
    → (n ≡ 0) ⊎ (n ≡ 3) ⊎ (n ≡ 5) ⊎ (n ≡ 8)
comes asked today old new _ _ (ComesToSay.served count serves) = inl refl
comes asked today old new _ _ (ComesToSay.refused refusal opens files desk) = inr (inl refl)
comes asked today old new _ _ (ComesToSay.read_fault paper fails desk) = inr (inr (inl refl))
comes asked today old new _ _ (ComesToSay.door_fault serves risen) = inr (inr (inr refl))

no_six : (n : ℕ) → n ≡ 6 → (n ≡ 0) ⊎ (n ≡ 3) ⊎ (n ≡ 5) ⊎ (n ≡ 8) → ⊥
no_six n is (inl h) = omega (arith, is, h)
no_six n is (inr (inl h)) = omega (arith, is, h)
no_six n is (inr (inr (inl h))) = omega (arith, is, h)
no_six n is (inr (inr (inr h))) = omega (arith, is, h)

no_seven : (n : ℕ) → n ≡ 7 → (n ≡ 0) ⊎ (n ≡ 3) ⊎ (n ≡ 5) ⊎ (n ≡ 8) → ⊥
no_seven n is (inl h) = omega (arith, is, h)
no_seven n is (inr (inl h)) = omega (arith, is, h)
no_seven n is (inr (inr (inl h))) = omega (arith, is, h)
no_seven n is (inr (inr (inr h))) = omega (arith, is, h)

-- a report is not empty
has_report : (outcome : Outcome) → [] ≡ report_text outcome → ⊥
unfolding clear_text flagged_text undecided_text refused_report counted_line
has_report Clear none = let clash : 0 ≡ 99 = ap first none in cc
has_report (Flagged findings) none = let clash : 0 ≡ 102 = ap first none in cc
has_report (Undecided causes findings) none = let clash : 0 ≡ 117 = ap first none in cc
has_report (Refused part reason) none = let clash : 0 ≡ 114 = ap first none in cc

abbrev rest_of : List Decision → List Decision
rest_of [] = []
rest_of (d ∷ ds) = ds

-- a decision without one is no verdict
no_verdict : (lists : List ℕ) (d : Decision) → d.report ≡ [] → IsDecidedOn (IsVerdict lists) decided (with_entry d decided) → ⊥
no_verdict lists d unread later =
    let added : d ∷ [] ≡ later.added = ap rest_of later.decisions in
    let verdicts : AllByRecursion (IsVerdict lists decided.content) (d ∷ []) =
    subst (λ (ds : List Decision). AllByRecursion (IsVerdict lists decided.content) ds) (sym added) later.are in
    has_report verdicts.0.found.judged.outcome (sym unread ∙ verdicts.0.found.report)

module _ (asked : Serve) (today : Option ℕ) (old new : Seen) where
  -- what was said with status 0
  abbrev SaysServed : List ℕ → Type 0
  SaysServed text = (count : ℕ) × Serves asked today old new (Ok count) × (text ≡ served_text count)

  -- and with status 3
  abbrev SaysRefused : List ℕ → Type 0
  SaysRefused text = (refusal : Refusal) × OpensAs old.files asked.office (Err refusal) × KeepsFiles old new × (text ≡ refused_text refusal.0 refusal.1)

  served_by : (n : ℕ) (text : List ℕ) → n ≡ 0 → ComesToSay asked today old new n text → SaysServed text
  served_by _ _ is (ComesToSay.served count serves) = (count, serves, refl)
  served_by _ _ is (ComesToSay.refused refusal opens files desk) = absurd (omega (arith, is))
  served_by _ _ is (ComesToSay.read_fault paper fails desk) = absurd (omega (arith, is))
  served_by _ _ is (ComesToSay.door_fault serves risen) = absurd (omega (arith, is))

  refused_by : (n : ℕ) (text : List ℕ) → n ≡ 3 → ComesToSay asked today old new n text → SaysRefused text
  refused_by _ _ is (ComesToSay.served count serves) = absurd (omega (arith, is))
  refused_by _ _ is (ComesToSay.refused refusal opens files desk) = (refusal, opens, files, refl)
  refused_by _ _ is (ComesToSay.read_fault paper fails desk) = absurd (omega (arith, is))
  refused_by _ _ is (ComesToSay.door_fault serves risen) = absurd (omega (arith, is))

  ends_served : (n : ℕ) → n ≡ 0 → Ends asked today old new n → (text : List ℕ) × SaysServed text × PrintsText text old new
  ends_served _ is (Ends.said n text says prints) = (text, served_by n text is says, prints)
  ends_served _ is (Ends.put_failed n text says front) = absurd (omega (arith, is))
  ends_served _ is (Ends.memory out prints) = absurd (omega (arith, is))

  ends_refused : (n : ℕ) → n ≡ 3 → Ends asked today old new n → (text : List ℕ) × SaysRefused text × PrintsText text old new
  ends_refused _ is (Ends.said n text says prints) = (text, refused_by n text is says, prints)
  ends_refused _ is (Ends.put_failed n text says front) = absurd (omega (arith, is))
  ends_refused _ is (Ends.memory out prints) = absurd (omega (arith, is))

  ends_unprinted : (n : ℕ) → n ≡ 7 → Ends asked today old new n → PrintsNothing old new
  ends_unprinted _ is (Ends.said n text says prints) = absurd (no_seven n is (comes asked today old new n text says))
  ends_unprinted _ is (Ends.put_failed n text says front) = absurd (omega (arith, is))
  ends_unprinted _ is (Ends.memory out prints) = prints

  ends_risen : (n : ℕ) → n ≡ 6 → Ends asked today old new n → HasRisen old.print_faults new.print_faults
  ends_risen _ is (Ends.said n text says prints) = absurd (no_six n is (comes asked today old new n text says))
  ends_risen _ is (Ends.put_failed n text says front) = front.risen
  ends_risen _ is (Ends.memory out prints) = absurd (omega (arith, is))

  -- what was printed is what was said
  said : (text other : List ℕ) → Prints old new text → PrintsText other old new → text ≡ other
  said text other is prints =
      same_Some text other (sym is.after ∙ prints.printed ∙ ap (option_map (λ taken. taken ++ other)) is.before)

  -- what is printed with status 0 says how many were served
  printed_served : (text : List ℕ) → Prints old new text → Ends asked today old new 0 → SaysServed text
  printed_served text is ends =
      let h = ends_served 0 refl ends in
      (h.1.0, h.1.1, said text h.0 is h.2 ∙ h.1.2)

  -- and with status 3 what is refused
  printed_refused : (text : List ℕ) → Prints old new text → Ends asked today old new 3 → SaysRefused text
  printed_refused text is ends =
      let h = ends_refused 3 refl ends in
      (h.1.0, h.1.1, h.1.2, said text h.0 is h.2 ∙ h.1.3)

  -- both connections were taken
  both : (count : ℕ) → asked.most ≡ 2 → HasTwo old → Serves asked today old new (Ok count) → count ≡ 2
  both count most two serves =
      let counted : count ≡ min asked.most (length two.0.left) = serves.desk.counts two.0 two.1 in
      counted ∙ ap (λ (m : ℕ). min m (length two.0.left)) most ∙ ap (λ (k : ℕ). min 2 k) two.2

  -- only verdicts are added
  unread : DecidesUnread old new → Ends asked today old new 0 → ⊥
  unread is ends =
      let serves = (ends_served 0 refl ends).1.1 in
      no_verdict serves.opened.lists is.decision is.unread
      (serves.desk.adds (decided ∷ []) (with_entry is.decision decided ∷ []) is.before is.after).0

  none_is_two : (count : ℕ) → count ≡ 2 → served_text 0 ≡ served_text count → ⊥
  unfolding served_text digits
  none_is_two count two same = two_bytes 48 50 (ap (byte_at 7) (same ∙ ap served_text two)) (inl (lit< tt))

  one_is_two : (count : ℕ) → count ≡ 2 → served_text 1 ≡ served_text count → ⊥
  unfolding served_text digits
  one_is_two count two same = two_bytes 49 50 (ap (byte_at 7) (same ∙ ap served_text two)) (inl (lit< tt))

  refused_is_served : (paper : Paper) (unfit : Unfit) (count : ℕ) → refused_text paper unfit ≡ served_text count → ⊥
  unfolding refused_text served_text
  refused_is_served paper unfit count same = two_bytes 114 115 (ap (byte_at 0) same) (inl (lit< tt))

  failed_is_served : (count : ℕ) → door_fault_text ≡ served_text count → ⊥
  unfolding door_fault_text served_text
  failed_is_served count same = two_bytes 100 115 (ap (byte_at 0) same) (inl (lit< tt))

  not_risen : (before after : ℕ) → Fails before after 0 → HasRisen before after → ⊥
  not_risen before after fails risen =
      let none = fails.none in
      let some = fails.some in
      let up : HasRisen 0 0 = subst (λ (n : ℕ). HasRisen 0 n) some (subst (λ (n : ℕ). HasRisen n after) none risen) in
      omega (arith, up)

  not_same : (before after : ℕ) → Fails before after 1 → after ≡ before → ⊥
  not_same before after fails same =
      let none = fails.none in
      let some = fails.some in
      omega (arith, none, some, same)

  -- a desk that was opened has short files that are there
  long : (bytes : List ℕ) → Holds old asked Office (Some bytes) → 16777216 < length bytes → Ends asked today old new 0 → ⊥
  unfolding held_by
  long bytes holds over ends =
      let serves = (ends_served 0 refl ends).1.1 in
      let opens : Opens (Some holds.0) asked.office (Ok serves.opened) =
      subst (λ (t : Option Told). Opens t asked.office (Ok serves.opened)) holds.1 serves.opens.opens in
      of_opened serves.opened opens
    where
      of_opened : (opened : Opened) → Opens (Some holds.0) asked.office (Ok opened) → ⊥
      of_opened _ (Opens.both_fit opened says has) =
          let same : bytes ≡ says.bytes = same_Some bytes says.bytes (sym holds.2 ∙ says.has.holds refl) in
          let short = says.has.short in
          let least = ap (λ (b : List ℕ). length b) same in
          omega (arith, over, short, least)

  -- no desk opens over lists that are not there
  closed : Holds old asked Lists None → Ends asked today old new 0 → ⊥
  unfolding held_by
  closed holds ends =
      let serves = (ends_served 0 refl ends).1.1 in
      let opens : Opens (Some holds.0) asked.office (Ok serves.opened) =
      subst (λ (t : Option Told). Opens t asked.office (Ok serves.opened)) holds.1 serves.opens.opens in
      of_opened serves.opened opens
    where
      of_opened : (opened : Opened) → Opens (Some holds.0) asked.office (Ok opened) → ⊥
      of_opened _ (Opens.both_fit opened says has) =
          none-some opened.lists (sym holds.2 ∙ has.has.holds refl)

  -- a fault of the form is not told as an absent file, and neither file as the other
  form_is_absent : (fault : FormFault) → refused_text Lists (Form fault) ≡ refused_text Lists Absent → ⊥
  unfolding refused_text unfit_text paper_name form_reason
  form_is_absent forms.NotToml same = two_bytes 110 97 (ap (byte_at 20) same) (inr (lit< tt))
  form_is_absent (forms.Missing key) same = two_bytes 109 97 (ap (byte_at 20) same) (inr (lit< tt))
  form_is_absent (forms.Wrong key) same = two_bytes 119 97 (ap (byte_at 20) same) (inr (lit< tt))
  form_is_absent (forms.Unknown key) same = two_bytes 117 97 (ap (byte_at 20) same) (inr (lit< tt))
  form_is_absent (forms.Range key) same = two_bytes 114 97 (ap (byte_at 20) same) (inr (lit< tt))
  form_is_absent (forms.Twice name) same = two_bytes 116 97 (ap (byte_at 20) same) (inr (lit< tt))
  form_is_absent forms.Memory same = two_bytes 109 97 (ap (byte_at 20) same) (inr (lit< tt))

  lists_are_office : (unfit other : Unfit) → refused_text Lists unfit ≡ refused_text Office other → ⊥
  unfolding refused_text paper_name
  lists_are_office unfit other same = two_bytes 108 111 (ap (byte_at 8) same) (inl (lit< tt))

  -- lists that are not there are refused as absent
  absent : Holds old asked Lists None → (unfit : Unfit) → IsUnfitLists old.files asked.office unfit → unfit ≡ Absent
  unfolding held_by
  absent holds unfit is = of_unfit unfit (subst (λ (t : Option Told). IsUnfitLists t asked.office unfit) holds.1 is)
    where
      of_unfit : (unfit : Unfit) → IsUnfitLists (Some holds.0) asked.office unfit → unfit ≡ Absent
      of_unfit Absent is = refl
      of_unfit TooLong is =
          absurd (subst (λ (file : Option (List ℕ)). IsSomeAnd file (λ bytes. 16777216 < length bytes)) holds.2 (is refl))
      of_unfit (Form fault) is = absurd (none-some is.0 (sym holds.2 ∙ is.1.holds refl))

  unlisted : (fault : FormFault) → Holds old asked Lists None → Prints old new (refused_text Lists (Form fault)) → Ends asked today old new 3 → ⊥
  unlisted fault holds prints ends =
      let h = printed_refused (refused_text Lists (Form fault)) prints ends in
      of_refusal h.0 h.1.opens h.3
    where
      of_refusal : (refusal : Refusal) → Opens old.files asked.office (Err refusal)
          → refused_text Lists (Form fault) ≡ refused_text refusal.0 refusal.1 → ⊥
      of_refusal _ (Opens.unfit_office unfit is) same = lists_are_office (Form fault) unfit same
      of_refusal _ (Opens.unfit_lists office unfit says is) same =
          form_is_absent fault (same ∙ ap (refused_text Lists) (absent holds unfit is))

  no_serving : NoServing asked today old new
  no_serving = record {
    refused = λ paper unfit is ends. let h = printed_served (refused_text paper unfit) is ends in refused_is_served paper unfit h.0 h.2;
    door_failed = λ is ends. let h = printed_served door_fault_text is ends in failed_is_served h.0 h.2;
    none_taken = λ most two is ends. let h = printed_served (served_text 0) is ends in none_is_two h.0 (both h.0 most two h.1) h.2;
    one_taken = λ most two is ends. let h = printed_served (served_text 1) is ends in one_is_two h.0 (both h.0 most two h.1) h.2;
    verdicts = unread;
    put_failed = λ fails ends. not_same old.print_faults new.print_faults fails (ends_unprinted 7 refl ends).count;
    put_succeeded = λ fails ends. not_risen old.print_faults new.print_faults fails (ends_risen 6 refl ends);
    read_failed = λ fails ends. not_same old.file_faults new.file_faults fails (ends_refused 3 refl ends).1.2.faults;
    long_office = long;
    no_lists = unlisted;
    no_desk = closed;
  }

pub servings_end : ServingsEnd
unfolding is_serve is_file_name count_of positive number spelled
servings_end = record {
  no_serving = no_serving;
  asked = λ today old new h. h;
}

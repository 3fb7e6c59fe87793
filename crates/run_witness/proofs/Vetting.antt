-- A run that vets ends as is due.
use Rattle.std.proofs.Common.{◌≡◌, ◌⊎◌, inl, inr, ℕ, List, [], ◌∷◌, ◌++◌, drop, codes, ◌<◌, ◌≤◌, Option, refl, ap, sym, subst, ◌∙◌, arith, lit<}
use Rattle.std.specs.Option.{option_map}
use Rattle.std.proofs.lemmas.Option.{same_Some}
use Rattle.vet_base.specs.Outside.{HasRisen}
use Rattle.std.specs.Fmt.{digits}
use Rattle.verdict.specs.declared.outcome.Outcome.{Outcome}
use Rattle.app_folder.specs.Due.{Due, NewFile}
use Rattle.app_folder.specs.Outside.{Outside}
use Rattle.desk_words.specs.Words.{Words}
use Rattle.vetting_desk.specs.Made.{summary_text}
use Rattle.vetting_desk.specs.Top.{Writes, NoFault, ComesToSay, Ends, PrintsNothing}
use Rattle.vetting_desk.specs.Top.{Prints as PrintsText}
use Rattle.run_witness.specs.Vettings.{Prints, NoneFails, NoVetting, VettingsEnd}

module _ (words : Option Words) (old new : Outside) (due : Due) where
  abbrev IsIt : Due → Type 0
  IsIt d = d ≡ due

  -- what is due was written and is to be printed
  record Says (n : ℕ) (text : List ℕ) : Type 0 where
    pub status : n ≡ due.status
    pub text_is : text ≡ due.text
    pub written : NoFault due.written old new

  record EndsDue (n : ℕ) : Type 0 where
    pub status : n ≡ due.status
    pub prints : PrintsText due.text old new
    pub written : NoFault due.written old new

  -- how it ended: with what is due; by a read, a put or a write that failed; or for want of memory
  abbrev View : ℕ → Type 0
  View n = EndsDue n
      ⊎ (((n ≡ 5) × HasRisen old.faults.files new.faults.files)
      ⊎ (((n ≡ 6) × HasRisen old.faults.sink new.faults.sink)
      ⊎ (((n ≡ 6) × PrintsNothing old new)
      ⊎ ((n ≡ 7) × PrintsNothing old new))))

  says : (n : ℕ) (text : List ℕ) → ComesToSay IsIt words old new n text
      → Says n text ⊎ ((n ≡ 5) × HasRisen old.faults.files new.faults.files)
  says _ _ (ComesToSay.answer d is writes) = inl (record {
    status = ap (λ (x : Due). x.status) is;
    text_is = ap (λ (x : Due). x.text) is;
    written = subst (λ (x : Due). NoFault x.written old new) is writes;
  })
  says _ _ (ComesToSay.read_fault name fails) = inr (refl, fails.risen)

  said : (n : ℕ) (text : List ℕ) → PrintsText text old new → Says n text ⊎ ((n ≡ 5) × HasRisen old.faults.files new.faults.files) → View n
  said n text prints (inl h) =
      inl (record { status = h.status; prints = subst (λ (t : List ℕ). PrintsText t old new) h.text_is prints; written = h.written })
  said n text prints (inr h) = inr (inl h)

  view : (n : ℕ) → Ends IsIt words old new n → View n
  view _ (Ends.said n text comes prints) = said n text prints (says n text comes)
  view _ (Ends.put_failed n text comes front) = inr (inr (inl (refl, front.risen)))
  view _ (Ends.write_failed d file is written fails prints) = inr (inr (inr (inl (refl, prints))))
  view _ (Ends.memory out prints) = inr (inr (inr (inr (refl, prints))))

  -- a run that did not fail ends with what is due
  by_due : (n : ℕ) → (n ≡ 5 → ⊥) → (n ≡ 6 → ⊥) → (n ≡ 7 → ⊥) → View n → EndsDue n
  by_due n five six seven (inl h) = h
  by_due n five six seven (inr (inl h)) = absurd (five h.0)
  by_due n five six seven (inr (inr (inl h))) = absurd (six h.0)
  by_due n five six seven (inr (inr (inr (inl h)))) = absurd (six h.0)
  by_due n five six seven (inr (inr (inr (inr h)))) = absurd (seven h.0)

  ends_clear : Ends IsIt words old new 0 → 0 ≡ due.status
  ends_clear ends = (by_due 0 (λ e. omega (arith, e)) (λ e. omega (arith, e)) (λ e. omega (arith, e)) (view 0 ends)).status

  ends_refused : Ends IsIt words old new 9 → 9 ≡ due.status
  ends_refused ends = (by_due 9 (λ e. omega (arith, e)) (λ e. omega (arith, e)) (λ e. omega (arith, e)) (view 9 ends)).status

  ends_usage : Ends IsIt words old new 4 → 4 ≡ due.status
  ends_usage ends = (by_due 4 (λ e. omega (arith, e)) (λ e. omega (arith, e)) (λ e. omega (arith, e)) (view 4 ends)).status

  ends_found : (n : ℕ) → n ≤ 3 → Ends IsIt words old new n → PrintsText due.text old new
  ends_found n low ends = (by_due n (λ e. omega (arith, e, low)) (λ e. omega (arith, e, low)) (λ e. omega (arith, e, low)) (view n ends)).prints

  pub ends_written : (n : ℕ) → n ≤ 2 → Ends IsIt words old new n → NoFault due.written old new
  ends_written n low ends = (by_due n (λ e. omega (arith, e, low)) (λ e. omega (arith, e, low)) (λ e. omega (arith, e, low)) (view n ends)).written

  ends_unread : Ends IsIt words old new 3 → NoFault due.written old new
  ends_unread ends = (by_due 3 (λ e. omega (arith, e)) (λ e. omega (arith, e)) (λ e. omega (arith, e)) (view 3 ends)).written

  not_risen : (before after : ℕ) → NoneFails before after → HasRisen before after → ⊥
  not_risen before after fails risen =
      let none = fails.none in
      let still = fails.still in
      let up : HasRisen 0 0 = subst (λ (n : ℕ). HasRisen 0 n) still (subst (λ (n : ℕ). HasRisen n after) none risen) in
      omega (arith, up)

  -- a byte that was printed is no want of one
  not_nothing : (c : ℕ) (text : List ℕ) → Prints old new (c ∷ text) → PrintsNothing old new → ⊥
  not_nothing c text is prints =
      let clash : c ∷ text ≡ [] = same_Some (c ∷ text) [] (sym is.after ∙ prints.printed ∙ is.before) in
      cc

  no_read_fault : due.status ≡ 0 → NoneFails old.faults.files new.faults.files → View 5 → ⊥
  no_read_fault is none (inl h) = let same = h.status in omega (arith, is, same)
  no_read_fault is none (inr (inl h)) = not_risen old.faults.files new.faults.files none h.1
  no_read_fault is none (inr (inr (inl h))) = let e = h.0 in omega (arith, e)
  no_read_fault is none (inr (inr (inr (inl h)))) = let e = h.0 in omega (arith, e)
  no_read_fault is none (inr (inr (inr (inr h)))) = let e = h.0 in omega (arith, e)

  no_write_fault : due.status ≡ 0 → (c : ℕ) (text : List ℕ) → Prints old new (c ∷ text) → NoneFails old.faults.sink new.faults.sink → View 6 → ⊥
  no_write_fault is c text printed none (inl h) = let same = h.status in omega (arith, is, same)
  no_write_fault is c text printed none (inr (inl h)) = let e = h.0 in omega (arith, e)
  no_write_fault is c text printed none (inr (inr (inl h))) = not_risen old.faults.sink new.faults.sink none h.1
  no_write_fault is c text printed none (inr (inr (inr (inl h)))) = not_nothing c text printed h.1
  no_write_fault is c text printed none (inr (inr (inr (inr h)))) = not_nothing c text printed h.1

  no_want : due.status ≡ 0 → (c : ℕ) (text : List ℕ) → Prints old new (c ∷ text) → View 7 → ⊥
  no_want is c text printed (inl h) = let same = h.status in omega (arith, is, same)
  no_want is c text printed (inr (inl h)) = let e = h.0 in omega (arith, e)
  no_want is c text printed (inr (inr (inl h))) = let e = h.0 in omega (arith, e)
  no_want is c text printed (inr (inr (inr (inl h)))) = not_nothing c text printed h.1
  no_want is c text printed (inr (inr (inr (inr h)))) = not_nothing c text printed h.1

  own_text : (text : List ℕ) → Prints old new text → PrintsText due.text old new → text ≡ due.text
  own_text text is prints =
      same_Some text due.text (sym is.after ∙ prints.printed ∙ ap (option_map (λ taken. taken ++ due.text)) is.before)

  pub no_vetting : NoVetting words old new due
  no_vetting = record {
    flagged = λ is ends. let same = ends_clear ends in omega (arith, is, same);
    uncertified = λ is ends. let same = ends_clear ends in omega (arith, is, same);
    no_refusal = λ is ends. let same = ends_refused ends in omega (arith, is, same);
    no_usage = λ is ends. let same = ends_usage ends in omega (arith, is, same);
    no_read_fault = λ is none ends. no_read_fault is none (view 5 ends);
    no_write_fault = λ is c text printed none ends. no_write_fault is c text printed none (view 6 ends);
    no_want = λ is c text printed ends. no_want is c text printed (view 7 ends);
    own_text = λ n low text printed ends. own_text text printed (ends_found n low ends);
    unwritten = λ is none ends. subst (λ (w : Option NewFile). Writes w old.tells.files new.tells.files) none (ends_unread ends).files;
  }

abbrev first : List ℕ → ℕ
first [] = 0
first (b ∷ bytes) = b

below : (n m : ℕ) → n < m → n ≡ m → ⊥
below n m less same = omega (arith, less, same)

two_methods : (rows : Option ℕ) (outcome : Outcome) (rest : List ℕ) → codes "methods 1" ++ rest ≡ summary_text 1 rows outcome → ⊥
unfolding summary_text digits
two_methods rows outcome rest same = below 49 50 (lit< tt) (ap (λ (text : List ℕ). first (drop 8 text)) same)

pub vettings_end : VettingsEnd
vettings_end = record { no_vetting = no_vetting; two_methods = two_methods }

-- A run of `submit` ends as its status says.
use Rattle.std.proofs.Common.{◌≡◌, ◌⊎◌, inl, inr, ℕ, Bool, true, false, List, [], ◌∷◌, ◌++◌, refl, ap, sym, ◌∙◌, arith, lit<}
use Rattle.std.specs.Prelude.{◌<◌, if◌then◌else◌}
use Rattle.std.specs.Option.{option_map}
use Rattle.std.proofs.lemmas.Option.{same_Some}
use Rattle.verdict_report.specs.Report.{refused_text as refused_file_text}
use Rattle.client_service.specs.declared.ready.Refusal.{Refusal}
use Rattle.client_service.specs.declared.ready.Refusal.TheVariants.{Client, File, NotText, TooLong}
use Rattle.client_service.specs.Submitting.{Outside, Seen, ComesToSay, Ends, is_accepted}
use Rattle.client_service.specs.Submitting.{Prints as PrintsText}
use Rattle.client_service.specs.Texts.{bad_client_text, not_text_text, too_long_text, refused_text, read_fault_text, accepted_text, answered_text, no_answer_text}
use Rattle.client_service.specs.Words.{Submit}
use Rattle.run_witness.specs.Submissions.{Prints, IsNoAnswer, SubmissionsEnd}

abbrev first : List ℕ → ℕ
first [] = 0
first (b ∷ bytes) = b

two_bytes : (n m : ℕ) → n ≡ m → (n < m) ⊎ (m < n) → ⊥
two_bytes n m same (inl below) = omega (arith, same, below)
two_bytes n m same (inr above) = omega (arith, same, above)

-- no other text begins as that of no answer does
refused_it : (refusal : Refusal) (tries : ℕ) → refused_text refusal ≡ no_answer_text tries → ⊥
unfolding bad_client_text refused_file_text not_text_text too_long_text no_answer_text
refused_it (Client unfit) tries same = two_bytes 114 110 (ap first same) (inr (lit< tt))
refused_it (File part reason) tries same = two_bytes 114 110 (ap first same) (inr (lit< tt))
refused_it (NotText part) tries same = two_bytes 114 110 (ap first same) (inr (lit< tt))
refused_it TooLong tries same = two_bytes 114 110 (ap first same) (inr (lit< tt))

failed_it : (name : List ℕ) (tries : ℕ) → read_fault_text name ≡ no_answer_text tries → ⊥
unfolding read_fault_text no_answer_text
failed_it name tries same = two_bytes 114 110 (ap first same) (inr (lit< tt))

answered_it : (taken : Bool) (reference : List ℕ) (status tries : ℕ) → (if taken then accepted_text reference else answered_text status) ≡ no_answer_text tries → ⊥
unfolding accepted_text answered_text no_answer_text
answered_it true reference status tries same = two_bytes 97 110 (ap first same) (inl (lit< tt))
answered_it false reference status tries same = two_bytes 100 110 (ap first same) (inl (lit< tt))

no_ten : (taken : Bool) → ◌≡◌ {A = ℕ} (if taken then 0 else 3) 10 → ⊥
no_ten true is = let none : ◌≡◌ {A = ℕ} 0 10 = is in omega (arith, none)
no_ten false is = let none : ◌≡◌ {A = ℕ} 3 10 = is in omega (arith, none)

module _ (asked : Submit) (old new : Outside) where
  -- what says that no answer came comes with status 10
  ten : (n : ℕ) (text : List ℕ) (tries : ℕ) → text ≡ no_answer_text tries → ComesToSay asked old new n text → n ≡ 10
  ten _ _ tries is (ComesToSay.refused refusal posts same) = absurd (refused_it refusal tries is)
  ten _ _ tries is (ComesToSay.read_fault name fails same) = absurd (failed_it name tries is)
  ten _ _ tries is (ComesToSay.answered posting reply sends) = absurd (answered_it (is_accepted reply.status) asked.reference reply.status tries is)
  ten _ _ tries is (ComesToSay.no_answer posting sends) = refl

  -- and status 10 with nothing else
  of_ten : (n : ℕ) (text : List ℕ) → n ≡ 10 → ComesToSay asked old new n text → IsNoAnswer text
  of_ten _ _ is (ComesToSay.refused refusal posts same) = absurd (omega (arith, is))
  of_ten _ _ is (ComesToSay.read_fault name fails same) = absurd (omega (arith, is))
  of_ten _ _ is (ComesToSay.answered posting reply sends) = absurd (no_ten (is_accepted reply.status) is)
  of_ten _ _ is (ComesToSay.no_answer posting sends) = (posting.client.tries, refl)

module _ (asked : Submit) (old new : Seen) (text : List ℕ) (is : Prints old new text) where
  -- what was printed is what was said
  said : (other : List ℕ) → PrintsText other old new → text ≡ other
  said other prints = same_Some text other (sym is.after ∙ prints.printed ∙ ap (option_map (λ taken. taken ++ other)) is.before)

  -- where no answer came the status is 10, or the sink failed, or memory ran out
  status_is : (n : ℕ) → IsNoAnswer text → Ends asked old new n → (n ≡ 10) ⊎ ((n ≡ 6) ⊎ (n ≡ 7))
  status_is _ none (Ends.said n other says prints) = inl (ten asked old.io new.io n other none.0 (sym (said other prints) ∙ none.1) says)
  status_is _ none (Ends.put_failed n other says front) = inr (inl refl)
  status_is _ none (Ends.memory out prints) = inr (inr refl)

  no_answer : (n : ℕ) → n ≡ 10 → Ends asked old new n → IsNoAnswer text
  no_answer _ ten (Ends.said n other says prints) = let h = of_ten asked old.io new.io n other ten says in (h.0, said other prints ∙ h.1)
  no_answer _ ten (Ends.put_failed n other says front) = absurd (omega (arith, ten))
  no_answer _ ten (Ends.memory out prints) = absurd (omega (arith, ten))

none_of_these : (n : ℕ) → n < 6 → (n ≡ 10) ⊎ ((n ≡ 6) ⊎ (n ≡ 7)) → ⊥
none_of_these n below (inl h) = omega (arith, below, h)
none_of_these n below (inr (inl h)) = omega (arith, below, h)
none_of_these n below (inr (inr h)) = omega (arith, below, h)

pub submissions_end : SubmissionsEnd
submissions_end = record {
  not_refused = λ asked old new text none is ends. none_of_these 3 (lit< tt) (status_is asked old new text is 3 none ends);
  not_accepted = λ asked old new text none is ends. none_of_these 0 (lit< tt) (status_is asked old new text is 0 none ends);
  own_text = λ asked old new text is ends. no_answer asked old new text is 10 refl ends;
}

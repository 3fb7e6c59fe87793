-- A folder gives one thing to be sent: each file has one text, and each text one reading or one first fault.
use Rattle.std.proofs.Common.{◌≡◌, ◌⊎◌, inl, inr, ◌<◌, ℕ, Bool, true, false, nat_lt, List, length, Option, Some, None, IsSomeAnd, Result, Ok, Err, refl, sym, ap, subst, ◌∙◌, arith}
use Rattle.std.specs.Prelude.{IsTrue, is_some}
use Rattle.std.proofs.lemmas.Bool.{le-ltb, lt-ltb}
use Rattle.std.proofs.lemmas.Option.{none-some, same_Some}
use Rattle.vet_base.specs.Outside.{Told, held_by}
use Rattle.vet_base.specs.Script.{run}
use Rattle.case_rules.specs.declared.case.Content.{Content}
use Rattle.form_fields.specs.declared.told.FormFault.{FormFault}
use Rattle.form_fields.specs.Form.{IsForm, FirstFormFault}
use Rattle.client_form.specs.declared.client.Client.{Client}
use Rattle.client_form.specs.Form.{IsClient, FirstFault}
use Rattle.client_body.specs.Bodies.{body_of}
use Rattle.client_http.specs.Submissions.{first_not_text}
use Rattle.office_forms.specs.declared.manifest.AppManifest.{AppManifest}
use Rattle.office_forms.specs.Manifest.{manifest_form}
use Rattle.office_forms.specs.OneForm.{OneFormOrFault}
use Rattle.one_answer.specs.Answers.{ClientHasOneAnswer}
use Rattle.verdict.specs.declared.outcome.Part.TheVariants.{Manifest as manifest_part}
use Rattle.verdict.specs.declared.outcome.Reason.TheVariants.{Form as BadForm}
use Rattle.app_folder.specs.Folder.{Refusal as FileRefusal}
use Rattle.verdict_report.specs.declared.unfit.Unfit.{Unfit}
use Rattle.verdict_report.specs.declared.unfit.Unfit.TheVariants.{Absent, TooLong, Form}
use Rattle.client_service.specs.declared.ready.Refusal.{Refusal}
use Rattle.client_service.specs.declared.ready.Refusal.TheVariants as refusals
use Rattle.client_service.specs.Clients.{HasText, IsUnfit, SaysClient}
use Rattle.client_service.specs.Content.{content_at, Gathers, no_manifest, bad_manifest, others, GathersTold}
use Rattle.client_service.specs.Posting.{Posting, IsIn, Posts, bad_client, bad_file, not_text, long_body, fits, text_part}
use Rattle.client_service.specs.Words.{Submit}
use Rattle.run_witness.specs.Postings.{OnePosting}

same_ok : {A E : Type 0} (x y : A) → ◌≡◌ {A = Result A E} (Ok x) (Ok y) → x ≡ y
same_ok x y same = cc

same_err : {A E : Type 0} (x y : E) → ◌≡◌ {A = Result A E} (Err x) (Err y) → x ≡ y
same_err x y same = cc

not_both : {A E : Type 0} (x : A) (y : E) → ◌≡◌ {A = Result A E} (Ok x) (Err y) → ⊥
not_both x y same = cc

module _ (told : Option Told) (tells : IsTrue (is_some told)) (dir : List ℕ) where
  -- the client's file
  one_text : (a b : List ℕ) → HasText told dir a → HasText told dir b → a ≡ b
  one_text a b x y = same_Some a b (sym (x.holds tells) ∙ y.holds tells)

  not_absent : (a : List ℕ) → HasText told dir a → IsUnfit told dir Absent → ⊥
  not_absent a x absent = none-some a (sym (absent tells) ∙ x.holds tells)

  not_long : (a : List ℕ) → HasText told dir a → IsUnfit told dir TooLong → ⊥
  not_long a x long =
      let above : 16777216 < length a = subst (λ (z : Option (List ℕ)). IsSomeAnd z (λ bytes. 16777216 < length bytes)) (x.holds tells) (long tells) in
      omega (arith, above, x.short)

  absent_or_long : IsUnfit told dir Absent → IsUnfit told dir TooLong → ⊥
  absent_or_long absent long = subst (λ (z : Option (List ℕ)). IsSomeAnd z (λ bytes. 16777216 < length bytes)) (absent tells) (long tells)

  module _ (clients : ClientHasOneAnswer) where
    one_client : (c d : Client) → SaysClient told dir c → SaysClient told dir d → c ≡ d
    one_client c d x y = (clients y.text).one_value c d (subst (λ (z : List ℕ). IsClient z c) (one_text x.text y.text x.has y.has) x.form) y.form

    no_client : (c : Client) (u : Unfit) → SaysClient told dir c → IsUnfit told dir u → ⊥
    no_client c Absent says is = not_absent says.text says.has is
    no_client c TooLong says is = not_long says.text says.has is
    no_client c (Form e) says is =
        (clients says.text).not_both c e says.form (subst (λ (z : List ℕ). FirstFault z e) (one_text is.0 says.text is.1 says.has) is.2)

    one_unfit : (u v : Unfit) → IsUnfit told dir u → IsUnfit told dir v → u ≡ v
    one_unfit Absent Absent a b = refl
    one_unfit Absent TooLong a b = absurd (absent_or_long a b)
    one_unfit Absent (Form f) a b = absurd (not_absent b.0 b.1 a)
    one_unfit TooLong Absent a b = absurd (absent_or_long b a)
    one_unfit TooLong TooLong a b = refl
    one_unfit TooLong (Form f) a b = absurd (not_long b.0 b.1 a)
    one_unfit (Form e) Absent a b = absurd (not_absent a.0 a.1 b)
    one_unfit (Form e) TooLong a b = absurd (not_long a.0 a.1 b)
    one_unfit (Form e) (Form f) a b =
        ap (λ (x : FormFault). Form x)
        ((clients b.0).one_fault e f (subst (λ (z : List ℕ). FirstFault z e) (one_text a.0 b.0 a.1 b.1) a.2) b.2)

  module _ (forms : OneFormOrFault) where
    -- the files of the app
    gathered : (r s : Result Content FileRefusal) → Gathers (held_by told) dir r → Gathers (held_by told) dir s → r ≡ s
    gathered _ _ (no_manifest x a) (no_manifest y b) = ap (λ (z : FileRefusal). Err z) (same_err x y (sym a ∙ b))
    gathered _ _ (no_manifest x a) (bad_manifest u f b bad) = absurd (not_both u x (sym b ∙ a))
    gathered _ _ (no_manifest x a) (others u n h b form d) = absurd (not_both u x (sym b ∙ a))
    gathered _ _ (bad_manifest t e a worse) (no_manifest y b) = absurd (not_both t y (sym a ∙ b))
    gathered _ _ (bad_manifest t e a worse) (bad_manifest u f b bad) =
        let same : t ≡ u = same_ok t u (sym a ∙ b) in
        ap (λ (z : FormFault). Err (manifest_part, BadForm z))
        ((forms.manifest u).one_fault e f (subst (λ (z : List ℕ). FirstFormFault manifest_form z e) same worse) bad)
    gathered _ _ (bad_manifest t e a worse) (others u n h b form d) =
        let same : t ≡ u = same_ok t u (sym a ∙ b) in
        absurd ((forms.manifest u).not_both n e form (subst (λ (z : List ℕ). FirstFormFault manifest_form z e) same worse))
    gathered _ _ (others t m g a is c) (no_manifest y b) = absurd (not_both t y (sym a ∙ b))
    gathered _ _ (others t m g a is c) (bad_manifest u f b bad) =
        let same : u ≡ t = same_ok u t (sym b ∙ a) in
        absurd ((forms.manifest t).not_both m f is (subst (λ (z : List ℕ). FirstFormFault manifest_form z f) same bad))
    gathered _ _ (others t m g a is c) (others u n h b form d) =
        let same : t ≡ u = same_ok t u (sym a ∙ b) in
        let one : m ≡ n = (forms.manifest u).one_form m n (subst (λ (z : List ℕ). IsForm manifest_form z m) same is) form in
        sym c ∙ ap (λ (z : List ℕ). run (content_at (held_by told) dir z m.manifest.dex_files)) same
        ∙ ap (λ (k : AppManifest). run (content_at (held_by told) dir u k.manifest.dex_files)) one ∙ d

    one_gathered : (r s : Result Content FileRefusal) → GathersTold told dir r → GathersTold told dir s → r ≡ s
    one_gathered r s a b = gathered r s (a tells) (b tells)

    one_in : ClientHasOneAnswer → (p q : Posting) → IsIn told dir p → IsIn told dir q → p ≡ q
    one_in clients p q a b =
        let with_client : Client → Posting = λ c. record { client = c; content = p.content } in
        let with_content : Content → Posting = λ c. record { client = q.client; content = c } in
        ap with_client (one_client clients p.client q.client a.client b.client)
        ∙ ap with_content (same_ok p.content q.content (one_gathered (Ok p.content) (Ok q.content) a.content b.content))

module _ (told : Option Told) (asked : Submit) where
  -- what comes of a client and an app
  due_by : Option ℕ → Bool → Posting → Result Posting Refusal
  due_by (Some number) long posting = Err (refusals.NotText (text_part number))
  due_by None true posting = Err refusals.TooLong
  due_by None false posting = Ok posting

  abbrev is_long : Posting → Bool
  is_long posting = nat_lt 67108864 (length (body_of asked.reference posting.content))

  due : Posting → Result Posting Refusal
  due posting = due_by (first_not_text posting.content) (is_long posting) posting

  -- the client's file is refused, or a file of the app, or there are both
  abbrev BadClient : Result Posting Refusal → Type 0
  BadClient r = (unfit : Unfit) × IsUnfit told asked.dir unfit × (r ≡ Err (refusals.Client unfit))

  abbrev BadFile : Result Posting Refusal → Type 0
  BadFile r =
      (client : Client) × (refusal : FileRefusal) × SaysClient told asked.dir client × GathersTold told asked.dir (Err refusal)
      × (r ≡ Err (refusals.File refusal.0 refusal.1))

  abbrev Both : Result Posting Refusal → Type 0
  Both r = (posting : Posting) × IsIn told asked.dir posting × (r ≡ due posting)

  given : (r : Result Posting Refusal) → Posts told asked r → BadClient r ⊎ (BadFile r ⊎ Both r)
  unfolding due due_by
  given _ (bad_client unfit is) = inl (unfit, is, refl)
  given _ (bad_file client part reason says gathers) = inr (inl (client, (part, reason), says, gathers, refl))
  given _ (not_text posting number is first) =
      inr (inr (posting, is, ap (λ (n : Option ℕ). due_by n (is_long posting) posting) (sym first)))
  given _ (long_body posting is texts over) =
      let long : is_long posting ≡ true = lt-ltb 67108864 (length (body_of asked.reference posting.content)) over in
      let by_text = ap (λ (n : Option ℕ). due_by n (is_long posting) posting) (sym texts) in
      inr (inr (posting, is, ap (λ (b : Bool). due_by None b posting) (sym long) ∙ by_text))
  given _ (fits posting is texts within) =
      let short : is_long posting ≡ false = le-ltb 67108864 (length (body_of asked.reference posting.content)) within in
      let by_text = ap (λ (n : Option ℕ). due_by n (is_long posting) posting) (sym texts) in
      inr (inr (posting, is, ap (λ (b : Bool). due_by None b posting) (sym short) ∙ by_text))

  module _ (tells : IsTrue (is_some told)) (clients : ClientHasOneAnswer) (forms : OneFormOrFault) where
    one : (r s : Result Posting Refusal) → BadClient r ⊎ (BadFile r ⊎ Both r) → BadClient s ⊎ (BadFile s ⊎ Both s) → r ≡ s
    one r s (inl a) (inl b) = a.2 ∙ ap (λ (u : Unfit). Err (refusals.Client u)) (one_unfit told tells asked.dir clients a.0 b.0 a.1 b.1) ∙ sym b.2
    one r s (inl a) (inr (inl b)) = absurd (no_client told tells asked.dir clients b.0 a.0 b.2 a.1)
    one r s (inl a) (inr (inr b)) = let is = b.1 in absurd (no_client told tells asked.dir clients b.0.client a.0 is.client a.1)
    one r s (inr (inl a)) (inl b) = absurd (no_client told tells asked.dir clients a.0 b.0 a.2 b.1)
    one r s (inr (inl a)) (inr (inl b)) =
        let same : a.1 ≡ b.1 = same_err a.1 b.1 (one_gathered told tells asked.dir forms (Err a.1) (Err b.1) a.3 b.3) in
        a.4 ∙ ap (λ (x : FileRefusal). Err (refusals.File x.0 x.1)) same ∙ sym b.4
    one r s (inr (inl a)) (inr (inr b)) =
        let is = b.1 in
        absurd (not_both b.0.content a.1 (one_gathered told tells asked.dir forms (Ok b.0.content) (Err a.1) is.content a.3))
    one r s (inr (inr a)) (inl b) = let is = a.1 in absurd (no_client told tells asked.dir clients a.0.client b.0 is.client b.1)
    one r s (inr (inr a)) (inr (inl b)) =
        let is = a.1 in
        absurd (not_both a.0.content b.1 (one_gathered told tells asked.dir forms (Ok a.0.content) (Err b.1) is.content b.3))
    one r s (inr (inr a)) (inr (inr b)) = a.2 ∙ ap due (one_in told tells asked.dir forms clients a.0 b.0 a.1 b.1) ∙ sym b.2

pub one_posting : ClientHasOneAnswer → OneFormOrFault → OnePosting
one_posting clients forms told asked a b tells posts other = one told asked tells clients forms a b (given told asked a posts) (given told asked b other)

-- A folder gives one thing.
use Rattle.std.proofs.Common.{◌≡◌, ◌<◌, ℕ, List, [], ◌∷◌, ◌++◌, append_assoc, length, Option, Some, IsSomeAnd, Result, Ok, Err, refl, sym, ap, subst, ◌∙◌, arith}
use Rattle.std.specs.Prelude.{IsTrue, is_some}
use Rattle.std.proofs.lemmas.Option.{none-some, same_Some}
use Rattle.vet_base.specs.Outside.{Told}
use Rattle.heard_files.specs.Outside.{Entry}
use Rattle.store_office.specs.declared.office.Office.{Office as SaidOffice}
use Rattle.form_fields.specs.declared.told.FormFault.{FormFault}
use Rattle.form_fields.specs.Form.{IsForm, FirstFormFault}
use Rattle.store_lists.specs.Lists.{lists_form}
use Rattle.office_forms.specs.Office.{office_form}
use Rattle.office_forms.specs.OneForm.{OneFormOrFault}
use Rattle.desk_service.specs.declared.opening.Paper.{Paper}
use Rattle.desk_service.specs.declared.opening.Paper.TheVariants.{Office, Lists}
use Rattle.sha2.specs.Sha256.{sha256}
use Rattle.desk_service.specs.declared.lists_judge.OfficeLists.{OfficeLists}
use Rattle.desk_service.specs.declared.opening.Halt.{Halt}
use Rattle.desk_service.specs.declared.opening.Halt.TheVariants.{Refused, ReadFault, Memory}
use Rattle.verdict_report.specs.declared.unfit.Unfit.{Unfit}
use Rattle.verdict_report.specs.declared.unfit.Unfit.TheVariants.{Absent, TooLong, Form}
use Rattle.desk_service.specs.Opening.{GaveSaid, GaveOffice, paper_path, HasBytes, IsAbsent, IsTooLong, IsUnfit, IsUnfitOffice, IsUnfitLists, SaysOffice, HasLists, Opened, Refusal, Opens, unfit_office, unfit_lists, both_fit, OpensAs, OpensOffice, OpensLists, OpensDesk}

-- what there is of a file
some_with : {A : Type 0} (o : Option A) (x : A) (P : A → Type 0) → o ≡ Some x → IsSomeAnd o P → P x
some_with o x P is holds = subst (λ (z : Option _). IsSomeAnd z P) is holds

module _ (told : Option Told) (tells : IsTrue (is_some told)) (folder : List ℕ) where
  module _ (paper : Paper) where
    one_bytes : (a b : List ℕ) → HasBytes told folder paper a → HasBytes told folder paper b → a ≡ b
    one_bytes a b x y = same_Some a b (sym (x.holds tells) ∙ y.holds tells)

    not_absent : (a : List ℕ) → HasBytes told folder paper a → IsAbsent told folder paper → ⊥
    not_absent a x absent = none-some a (sym (absent tells) ∙ x.holds tells)

    not_long : (a : List ℕ) → HasBytes told folder paper a → IsTooLong told folder paper → ⊥
    not_long a x long =
        let above : 16777216 < length a = some_with _ a (λ (bytes : List ℕ). 16777216 < length bytes) (x.holds tells) (long tells) in
        omega (arith, above, x.short)

    absent_or_long : IsAbsent told folder paper → IsTooLong told folder paper → ⊥
    absent_or_long absent long =
        subst (λ (z : Option (List ℕ)). IsSomeAnd z (λ (bytes : List ℕ). 16777216 < length bytes)) (absent tells) (long tells)

    module _ (IsFault : List ℕ → FormFault → Type 0)
        (one : (bytes : List ℕ) (e f : FormFault) → IsFault bytes e → IsFault bytes f → e ≡ f) where
      one_unfit : (u v : Unfit) → IsUnfit told folder paper IsFault u → IsUnfit told folder paper IsFault v → u ≡ v
      one_unfit Absent Absent a b = refl
      one_unfit Absent TooLong a b = absurd (absent_or_long a b)
      one_unfit Absent (Form f) a b = absurd (not_absent b.0 b.1 a)
      one_unfit TooLong Absent a b = absurd (absent_or_long b a)
      one_unfit TooLong TooLong a b = refl
      one_unfit TooLong (Form f) a b = absurd (not_long b.0 b.1 a)
      one_unfit (Form e) Absent a b = absurd (not_absent a.0 a.1 b)
      one_unfit (Form e) TooLong a b = absurd (not_long a.0 a.1 b)
      one_unfit (Form e) (Form f) a b =
          ap (λ (x : FormFault). Form x)
          (one b.0 e f (subst (λ (z : List ℕ). IsFault z e) (one_bytes a.0 b.0 a.1 b.1) a.2) b.2)

      unfit_or_there : (bytes : List ℕ) (u : Unfit) → HasBytes told folder paper bytes
          → ((e : FormFault) → IsFault bytes e → ⊥) → IsUnfit told folder paper IsFault u → ⊥
      unfit_or_there bytes Absent has none is = not_absent bytes has is
      unfit_or_there bytes TooLong has none is = not_long bytes has is
      unfit_or_there bytes (Form e) has none is =
          none e (subst (λ (z : List ℕ). IsFault z e) (one_bytes is.0 bytes is.1 has) is.2)

  module _ (forms : OneFormOrFault) where
    one_bad_office : (u v : Unfit) → IsUnfitOffice told folder u → IsUnfitOffice told folder v → u ≡ v
    one_bad_office u v a b = one_unfit Office (FirstFormFault office_form) (λ bytes. (forms.office bytes).one_fault) u v a b

    one_bad_lists : (u v : Unfit) → IsUnfitLists told folder u → IsUnfitLists told folder v → u ≡ v
    one_bad_lists u v a b = one_unfit Lists (FirstFormFault lists_form) (λ bytes. (forms.lists bytes).one_fault) u v a b

    no_office : (office : SaidOffice) (u : Unfit) → SaysOffice told folder office → IsUnfitOffice told folder u → ⊥
    no_office office u says is =
        unfit_or_there Office (FirstFormFault office_form) (λ bytes. (forms.office bytes).one_fault) says.bytes u says.has
        (λ e bad. (forms.office says.bytes).not_both office e says.form bad) is

    no_lists : (bytes : List ℕ) (u : Unfit) → HasLists told folder bytes → IsUnfitLists told folder u → ⊥
    no_lists bytes u has is =
        unfit_or_there Lists (FirstFormFault lists_form) (λ b. (forms.lists b).one_fault) bytes u has.has
        (λ e bad. (forms.lists bytes).not_both has.lists e has.form bad) is

    one_office : (a b : SaidOffice) → SaysOffice told folder a → SaysOffice told folder b → a ≡ b
    one_office a b x y =
        (forms.office y.bytes).one_form a b
        (subst (λ (z : List ℕ). IsForm office_form z a) (one_bytes Office x.bytes y.bytes x.has y.has) x.form) y.form

    one_lists : (a b : List ℕ) → HasLists told folder a → HasLists told folder b → a ≡ b
    one_lists a b x y = one_bytes Lists a b x.has y.has

    one_opened : (a b : Opened) → a.office ≡ b.office → a.lists ≡ b.lists → a ≡ b
    one_opened a b office lists =
        let with_office : SaidOffice → Opened = λ o. record { office = o; lists = a.lists } in
        let with_lists : List ℕ → Opened = λ ls. record { office = b.office; lists = ls } in
        ap with_office office ∙ ap with_lists lists

    only : (a b : Result Opened Refusal) → Opens told folder a → Opens told folder b → b ≡ a
    only _ _ (unfit_office u a) (unfit_office v b) = ap (λ (x : Unfit). Err (Office, x)) (one_bad_office v u b a)
    only _ _ (unfit_office u a) (unfit_lists office v says b) = absurd (no_office office u says a)
    only _ _ (unfit_office u a) (both_fit o says has) = absurd (no_office o.office u says a)
    only _ _ (unfit_lists office u says a) (unfit_office v b) = absurd (no_office office v says b)
    only _ _ (unfit_lists office u says a) (unfit_lists other v too b) = ap (λ (x : Unfit). Err (Lists, x)) (one_bad_lists v u b a)
    only _ _ (unfit_lists office u says a) (both_fit o too has) = absurd (no_lists o.lists u has a)
    only _ _ (both_fit o says has) (unfit_office v b) = absurd (no_office o.office v says b)
    only _ _ (both_fit o says has) (unfit_lists office v too b) = absurd (no_lists o.lists v has b)
    only _ _ (both_fit o says has) (both_fit p too have) =
        ap (λ (x : Opened). Ok x)
        (one_opened p o (one_office p.office o.office too says) (one_lists p.lists o.lists have has))

-- what a folder gives it gives alone
pub opens_as : OneFormOrFault → (told : Option Told) (folder : List ℕ) (r : Result Opened Refusal) → Opens told folder r
    → OpensAs told folder r
opens_as forms told folder r is = record { opens = is; only = λ tells other also. only told tells folder forms r other is also }

-- both files fit
pub opens_both : OneFormOrFault → (told : Option Told) (folder : List ℕ) (o : Opened) → SaysOffice told folder o.office
    → HasLists told folder o.lists → OpensAs told folder (Ok o)
opens_both forms told folder o says has = opens_as forms told folder (Ok o) (both_fit o says has)

-- the office file does not
pub opens_no_office : OneFormOrFault → (told : Option Told) (folder : List ℕ) (which : Paper) (unfit : Unfit)
    → (which ≡ Office) × IsUnfitOffice told folder unfit → OpensAs told folder (Err (which, unfit))
opens_no_office forms told folder which unfit is =
    subst (λ (p : Paper). OpensAs told folder (Err (p, unfit))) (sym is.0)
    (opens_as forms told folder (Err (Office, unfit)) (unfit_office unfit is.1))

-- the lists do not
pub opens_no_lists : OneFormOrFault → (told : Option Told) (folder : List ℕ) (office : SaidOffice) (which : Paper) (unfit : Unfit)
    → SaysOffice told folder office → (which ≡ Lists) × IsUnfitLists told folder unfit
    → OpensAs told folder (Err (which, unfit))
opens_no_lists forms told folder office which unfit says is =
    subst (λ (p : Paper). OpensAs told folder (Err (p, unfit))) (sym is.0)
    (opens_as forms told folder (Err (Lists, unfit)) (unfit_lists office unfit says is.1))

-- why no office was had is why there is no desk
pub office_halts : OneFormOrFault → (told : Option Told) (folder : List ℕ) (halt : Halt)
    → OpensOffice told folder (Err halt) → OpensDesk told folder (Err halt)
office_halts forms told folder (Refused which unfit) is = opens_no_office forms told folder which unfit is
office_halts forms told folder (ReadFault which) is = tt
office_halts forms told folder Memory is = tt

-- and so with the lists
pub lists_halt : OneFormOrFault → (told mid : Option Told) (folder : List ℕ) (office : SaidOffice) (halt : Halt)
    → mid ≡ told → OpensOffice told folder (Ok office) → OpensLists mid folder (Err halt)
    → OpensDesk told folder (Err halt)
lists_halt forms told mid folder office (Refused which unfit) same says is =
    opens_no_lists forms told folder office which unfit says
    (subst (λ (t : Option Told). OpensLists t folder (Err (Refused which unfit))) same is)
lists_halt forms told mid folder office (ReadFault which) same says is = tt
lists_halt forms told mid folder office Memory same says is = tt

pub desk_opens : OneFormOrFault → (told mid : Option Told) (folder : List ℕ) (office : SaidOffice)
    (lists : List ℕ) (judge : OfficeLists) → mid ≡ told → OpensOffice told folder (Ok office)
    → OpensLists mid folder (Ok lists) → judge.lists ≡ lists → judge.edition ≡ sha256 lists
    → OpensDesk told folder (Ok (record { office = office; judge = judge }))
desk_opens forms told mid folder office lists judge same says has bytes edition =
    let here : HasLists told folder lists =
    subst (λ (t : Option Told). HasLists t folder lists) same has in (
      opens_both forms told folder (record { office = office; lists = judge.lists }) says
          (subst (λ (b : List ℕ). HasLists told folder b) (sym bytes) here),
      edition ∙ ap sha256 (sym bytes),
    )

-- the two files were read, one behind the other
pub gave_office : (folder : List ℕ) (office : SaidOffice) (lists : List ℕ) (judge : OfficeLists) (old mid new : List Entry)
    → GaveSaid old mid folder office → new ≡ mid ++ (paper_path folder Lists, 16777216, Ok lists) ∷ [] → judge.lists ≡ lists
    → GaveOffice old new folder (record { office = office; lists = judge.lists })
gave_office folder office lists judge old mid new said rest same = record {
  text = said.0;
  form = said.1;
  heard = rest ∙ (ap (λ (es : List Entry). es ++ (paper_path folder Lists, 16777216, Ok lists) ∷ []) said.2
      ∙ (append_assoc old ((paper_path folder Office, 16777216, Ok said.0) ∷ []) ((paper_path folder Lists, 16777216, Ok lists) ∷ [])
      ∙ ap (λ (bytes : List ℕ). old ++ (paper_path folder Office, 16777216, Ok said.0) ∷ (paper_path folder Lists, 16777216, Ok bytes) ∷ []) (sym same)));
}

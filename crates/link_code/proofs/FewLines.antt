-- Methods that were decoded have no more lines than units.
use Rattle.std.proofs.Common.{◌≡◌, ◌≤◌, Bool, true, false, Ok, Some, List, [], ◌∷◌, length, refl, sym, subst, arith, inl, inr}
use Rattle.std.specs.List.{AllZip, filter}
use Rattle.std.proofs.lemmas.List.Sums.{sum_by-cons}
use Rattle.vet_base.specs.Script.{run}
use Rattle.dex_tables.specs.declared.dex.Dex.{Dex}
use Rattle.dex_tables.specs.declared.dex.RawCode.{RawCode}
use Rattle.dex_code.specs.CodeLaws.{AreSound, CodeLaws}
use Rattle.dex_code.specs.Find.{Ascend}
use Rattle.vet_base.specs.Members.{In}
use Rattle.link_listing.specs.declared.members.Listed.{Listed}
use Rattle.link_listing.specs.Texts.{Triple}
use Rattle.link_listing.specs.MemberRows.{Methods}
use Rattle.link_code.specs.declared.coded.Coded.{Coded}
use Rattle.link_code.specs.AreCoded.{IsCoded, of_native, of_code, has_body, AreCoded}
use Rattle.link_code.specs.Code.{counts_of, code_at, all_codes}
use Rattle.link_code.specs.SoFar.{SoFar, lines_in}
use Rattle.link_code.specs.Units.{units_of, units_in}
use Rattle.link_code.proofs.AreCoded.{coding_stands}

module _ (laws : CodeLaws) (dexes : List Dex) where
  code_units : (e : Triple × Listed) (dex : Dex) (code : RawCode) → e.1.is_native ≡ false → code_at dexes e.1.place ≡ Some (dex, code) → units_of dexes e ≡ length code.units
  unfolding units_of
  code_units e dex code other found = rw (other, found) refl

  -- one method's lines
  record Fine (e : Triple × Listed) (c : Coded) : Type 0 where
    order : Ascend c.decoded.lines
    few : length c.decoded.lines ≤ units_of dexes e

  one_fine : (e : Triple × Listed) (c : Coded) → IsCoded dexes e c → Fine e c
  unfolding Ascend
  one_fine e c (of_native itself) = record { order = tt; few = omega arith }
  one_fine e c (of_code dex code decoded other found tested) =
      let sound : AreSound code decoded = laws.lines code (counts_of dex) decoded tested.is in
      let units : units_of dexes e ≡ length code.units = code_units e dex code other found in
      let lines : length decoded.lines ≤ length code.units = sound.few in
      record { order = sound.order; few = omega (arith, units, lines) }

  few_lines : (es : Methods) (cs : List Coded) → AllZip (IsCoded dexes) es cs → lines_in cs ≤ units_in dexes es
  few_lines [] [] are = omega arith
  few_lines [] (c ∷ cs) are = absurd are
  few_lines (e ∷ es) [] are = absurd are
  few_lines (e ∷ es) (c ∷ cs) are =
      let one : length c.decoded.lines ≤ units_of dexes e = (one_fine e c are.0).few in
      let others : lines_in cs ≤ units_in dexes es = few_lines es cs are.1 in
      omega (arith, one, others, sum_by-cons (units_of dexes) e es)

  order : (es : Methods) (cs : List Coded) → AllZip (IsCoded dexes) es cs → (c : Coded) → In c cs → Ascend c.decoded.lines
  order [] [] are c k = absurd k
  order [] (d ∷ ds) are c k = absurd are
  order (e ∷ es) [] are c k = absurd are
  order (e ∷ es) (d ∷ ds) are c (inl same) = subst (λ (x : Coded). Ascend x.decoded.lines) (sym same) (one_fine e d are.0).order
  order (e ∷ es) (d ∷ ds) are c (inr k) = order es ds are.1 c k

  -- those that are left out have no fewer units
  no_more : (es : Methods) → units_in dexes (filter (has_body dexes) es) ≤ units_in dexes es
  no_more [] = omega arith
  no_more (e ∷ es) = by_body (has_body dexes e) refl (no_more es)
    where
      with_it : has_body dexes e ≡ true → filter (has_body dexes) (e ∷ es) ≡ e ∷ filter (has_body dexes) es
      with_it is = rw is refl

      without_it : has_body dexes e ≡ false → filter (has_body dexes) (e ∷ es) ≡ filter (has_body dexes) es
      without_it is = rw is refl

      by_body : (b : Bool) → has_body dexes e ≡ b → units_in dexes (filter (has_body dexes) es) ≤ units_in dexes es → units_in dexes (filter (has_body dexes) (e ∷ es)) ≤ units_in dexes (e ∷ es)
      by_body true is rest = rw (with_it is) (omega (arith, rest, sum_by-cons (units_of dexes) e es, sum_by-cons (units_of dexes) e (filter (has_body dexes) es)))
      by_body false is rest = rw (without_it is) (omega (arith, rest, sum_by-cons (units_of dexes) e es))

  pub codes_fine : (methods : Methods) (coded : List Coded) → run (all_codes dexes methods) ≡ Ok coded → SoFar coded (units_in dexes methods)
  codes_fine methods coded e =
      let are : AreCoded dexes methods coded = coding_stands laws dexes methods coded e in
      let lines : lines_in coded ≤ units_in dexes (filter (has_body dexes) methods) = few_lines (filter (has_body dexes) methods) coded are.each in
      let all : units_in dexes (filter (has_body dexes) methods) ≤ units_in dexes methods = no_more methods in
      record { order = order (filter (has_body dexes) methods) coded are.each; few = omega (arith, lines, all) }

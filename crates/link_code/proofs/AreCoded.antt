-- The tests of all code hold exactly where each method's code is what its lines say.
use Rattle.std.proofs.Common.{◌≡◌, Bool, true, false, Ok, Option, Some, None, List, [], ◌∷◌, ◌++◌, append_assoc, append-nil, eq-eqb, refl, sym, ap, subst, ◌∙◌, inl, inr}
use Rattle.std.specs.Prelude.{IsTrue, ◌==◌}
use Rattle.std.specs.List.{AllZip, filter}
use Rattle.vet_base.specs.Script.{Value, ◌>>=◌, test, run, each}
use Rattle.dex_tables.specs.declared.dex.Dex.{Dex}
use Rattle.dex_tables.specs.declared.dex.RawCode.{RawCode}
use Rattle.dex_code.specs.declared.decoder.Decoded.{Decoded}
use Rattle.dex_code.specs.declared.fault.CodeFault.TheVariants.{Register}
use Rattle.dex_code.specs.Code.{decoding}
use Rattle.dex_code.specs.CodeLaws.{CodeLaws}
use Rattle.dex_code.specs.Lines.{Line}
use Rattle.app_machine.specs.declared.call.MethodRef.{MethodRef}
use Rattle.vet_base.specs.Members.{In}
use Rattle.app_machine.specs.Sound.{taken}
use Rattle.link_code.specs.declared.coded.Coded.{Coded}
use Rattle.link_listing.specs.declared.fault.Fault.{Fault}
use Rattle.link_listing.specs.declared.fault.Fault.TheVariants as faults
use Rattle.link_listing.specs.declared.members.Listed.{Listed}
use Rattle.link_listing.specs.Texts.{Triple}
use Rattle.link_code.specs.AreCoded.{IsTestedCode, IsCoded, of_native, of_code, has_body, AreCoded}
use Rattle.link_code.specs.Code.{blamed, counts_of, call_fits, call_row, calls_fit, tested, with_code, native_coded, reference, one_code, code_row, code_at, all_codes}
use Rattle.link_listing.specs.MemberRows.{Methods}
use Rattle.link_code.proofs.Blamed.{code_runs}
use Rattle.link_code.proofs.SoundCoded.{tested_facts}
use Rattle.vet_base.proofs.Runs.{value_is, test_passes, bind_ok, bind_runs}
use Rattle.std.proofs.lemmas.Bool.{cases_Bool}

calls_run : (dex : Dex) (at : MethodRef) (lines : List Line) (u : Unit {0}) → ((line : Line) → In line lines → IsTrue (call_fits dex line.1)) → run (each (call_row dex at) lines u) ≡ Ok tt
unfolding each call_row
calls_run dex at [] u fits = refl
calls_run dex at (l ∷ ls) u fits =
    bind_runs (call_row dex at l u) tt (λ next. each (call_row dex at) ls next) (Ok tt)
    (test_passes (call_fits dex l.1) (faults.Code at (Register l.0)) (Value tt) (fits l (inl refl)))
    (calls_run dex at ls tt (λ line k. fits line (inr k)))

tested_runs : (laws : CodeLaws) (at : MethodRef) (is_static : Bool) (dex : Dex) (code : RawCode) (decoded : Decoded) → IsTestedCode at is_static dex code decoded → run (tested at is_static dex code) ≡ Ok decoded
unfolding tested calls_fit
tested_runs laws at is_static dex code decoded is =
    let calls : run (calls_fit dex at decoded.lines >>= (λ _. Value decoded)) ≡ Ok decoded = bind_runs (calls_fit dex at decoded.lines) tt (λ _. Value decoded) (Ok decoded) (calls_run dex at decoded.lines tt is.calls) refl in
    let takes : IsTrue (taken is_static at.proto == code.ins) = eq-eqb (taken is_static at.proto) code.ins (sym is.takes) in
    bind_runs (blamed (faults.Code at) (decoding code (counts_of dex))) decoded (λ d. test (taken is_static at.proto == code.ins) (faults.Code at (Register 0)) >>= (λ _. calls_fit dex at d.lines >>= (λ _. Value d))) (Ok decoded)
    (code_runs laws (faults.Code at) code (counts_of dex) decoded is.is)
    (test_passes (taken is_static at.proto == code.ins) (faults.Code at (Register 0)) (calls_fit dex at decoded.lines >>= (λ _. Value decoded)) takes ∙ calls)

module _ (laws : CodeLaws) (dexes : List Dex) where
  -- a listed method is native, has code, or has neither
  data Which (e : Triple × Listed) : Type 0 where
    native : e.1.is_native ≡ true → Which e
    coded : (dex : Dex) (code : RawCode) → e.1.is_native ≡ false → code_at dexes e.1.place ≡ Some (dex, code) → Which e
    bare : e.1.is_native ≡ false → code_at dexes e.1.place ≡ None → Which e

  which : (e : Triple × Listed) → Which e
  which e = elim (cases_Bool e.1.is_native) [ inl is ↦ native is | inr other ↦ by_code other (code_at dexes e.1.place) refl ]
    where
      by_code : e.1.is_native ≡ false → (o : Option (Dex × RawCode)) → code_at dexes e.1.place ≡ o → Which e
      by_code other None found = bare other found
      by_code other (Some (dex, code)) found = coded dex code other found

  abbrev native_of : Triple × Listed → Coded
  native_of e = native_coded (reference e.0 e.1) e.1

  abbrev code_of : Triple × Listed → RawCode → Decoded → Coded
  code_of e code decoded = with_code (reference e.0 e.1) e.1 e.1.place.dex code decoded

  row_of_native : (e : Triple × Listed) (s : List Coded) → e.1.is_native ≡ true → code_row dexes e s ≡ Value (s ++ native_of e ∷ [])
  unfolding code_row
  row_of_native e s is = rw is refl

  row_of_code : (e : Triple × Listed) (s : List Coded) (dex : Dex) (code : RawCode) → e.1.is_native ≡ false → code_at dexes e.1.place ≡ Some (dex, code)
      → code_row dexes e s ≡ (tested (reference e.0 e.1) e.1.is_static dex code >>= (λ d. Value (s ++ code_of e code d ∷ [])))
  unfolding code_row one_code
  row_of_code e s dex code other found = rw (other, found) refl

  row_of_bare : (e : Triple × Listed) (s : List Coded) → e.1.is_native ≡ false → code_at dexes e.1.place ≡ None → code_row dexes e s ≡ Value s
  unfolding code_row one_code
  row_of_bare e s other found = rw (other, found) refl

  with_native : (e : Triple × Listed) (es : Methods) → e.1.is_native ≡ true → filter (has_body dexes) (e ∷ es) ≡ e ∷ filter (has_body dexes) es
  unfolding has_body
  with_native e es is = rw is refl

  with_coded : (e : Triple × Listed) (es : Methods) (dex : Dex) (code : RawCode) → e.1.is_native ≡ false → code_at dexes e.1.place ≡ Some (dex, code) → filter (has_body dexes) (e ∷ es) ≡ e ∷ filter (has_body dexes) es
  unfolding has_body
  with_coded e es dex code other found = rw (other, found) refl

  without_bare : (e : Triple × Listed) (es : Methods) → e.1.is_native ≡ false → code_at dexes e.1.place ≡ None → filter (has_body dexes) (e ∷ es) ≡ filter (has_body dexes) es
  unfolding has_body
  without_bare e es other found = rw (other, found) refl

  abbrev AreThese : Methods → List Coded → Type 0
  AreThese es cs = AllZip (IsCoded dexes) (filter (has_body dexes) es) cs

  -- what the row of one listed method adds
  record Adds (e : Triple × Listed) (s t : List Coded) : Type 0 where
    more : List Coded
    is : t ≡ s ++ more
    joins : (es : Methods) (cs : List Coded) → AreThese es cs → AreThese (e ∷ es) (more ++ cs)

  one_added : (e : Triple × Listed) (c : Coded) (es : Methods) (cs : List Coded) → filter (has_body dexes) (e ∷ es) ≡ e ∷ filter (has_body dexes) es → IsCoded dexes e c → AreThese es cs → AreThese (e ∷ es) (c ∷ cs)
  one_added e c es cs listed is these = subst (λ (xs : Methods). AllZip (IsCoded dexes) xs (c ∷ cs)) (sym listed) (is, these)

  row_adds : (e : Triple × Listed) (s t : List Coded) → Which e → run (code_row dexes e s) ≡ Ok t → Adds e s t
  row_adds e s t (native is) h =
      let same : s ++ native_of e ∷ [] ≡ t = value_is {F = Fault} (s ++ native_of e ∷ []) t (sym (ap run (row_of_native e s is)) ∙ h) in
      record {
        more = native_of e ∷ [];
        is = sym same;
        joins = λ es cs these. one_added e (native_of e) es cs (with_native e es is) (of_native is) these;
      }
  row_adds e s t (coded dex code other found) h =
      let read = bind_ok (tested (reference e.0 e.1) e.1.is_static dex code) (λ d. Value (s ++ code_of e code d ∷ [])) t (sym (ap run (row_of_code e s dex code other found)) ∙ h) in
      let same : s ++ code_of e code read.0 ∷ [] ≡ t = value_is {F = Fault} (s ++ code_of e code read.0 ∷ []) t read.2 in
      let is : IsCoded dexes e (code_of e code read.0) = of_code dex code read.0 other found (tested_facts laws (reference e.0 e.1) e.1.is_static dex code read.0 read.1) in
      record {
        more = code_of e code read.0 ∷ [];
        is = sym same;
        joins = λ es cs these. one_added e (code_of e code read.0) es cs (with_coded e es dex code other found) is these;
      }
  row_adds e s t (bare other found) h =
      let same : s ≡ t = value_is {F = Fault} s t (sym (ap run (row_of_bare e s other found)) ∙ h) in
      record {
        more = [];
        is = sym same ∙ sym (append-nil s);
        joins = λ es cs these. subst (λ (xs : Methods). AllZip (IsCoded dexes) xs cs) (sym (without_bare e es other found)) these;
      }

  -- what the rows of the listed methods add
  record AddsAll (es : Methods) (s t : List Coded) : Type 0 where
    more : List Coded
    is : t ≡ s ++ more
    these : AreThese es more

  rows_add : (es : Methods) (s t : List Coded) → run (each (code_row dexes) es s) ≡ Ok t → AddsAll es s t
  unfolding each
  rows_add [] s t h =
      let same : s ≡ t = value_is {F = Fault} s t h in
      record { more = []; is = sym same ∙ sym (append-nil s); these = tt }
  rows_add (e ∷ es) s t h =
      let first = bind_ok (code_row dexes e s) (λ next. each (code_row dexes) es next) t h in
      let row : Adds e s first.0 = row_adds e s first.0 (which e) first.1 in
      let rest : AddsAll es first.0 t = rows_add es first.0 t first.2 in
      record {
        more = row.more ++ rest.more;
        is = rest.is ∙ (ap (λ (cs : List Coded). cs ++ rest.more) row.is ∙ append_assoc s row.more rest.more);
        these = row.joins es rest.more rest.these;
      }

  native_is : (e : Triple × Listed) (c : Coded) → e.1.is_native ≡ true → IsCoded dexes e c → c ≡ native_of e
  native_is e c is (of_native itself) = refl
  native_is e c is (of_code dex code decoded other found tested) = absurd cc

  -- the code of a method with code
  record HasIts (e : Triple × Listed) (dex : Dex) (code : RawCode) (c : Coded) : Type 0 where
    decoded : Decoded
    tested_it : IsTestedCode (reference e.0 e.1) e.1.is_static dex code decoded
    is : c ≡ code_of e code decoded

  coded_is : (e : Triple × Listed) (dex : Dex) (code : RawCode) (c : Coded) → e.1.is_native ≡ false → code_at dexes e.1.place ≡ Some (dex, code) → IsCoded dexes e c → HasIts e dex code c
  coded_is e dex code c other found (of_native itself) = absurd cc
  coded_is e dex code c other found (of_code file raw decoded no_native there tested_it) =
      let both : Some (file, raw) ≡ Some (dex, code) = sym there ∙ found in
      let pair : (file, raw) ≡ (dex, code) = cc in
      record {
        decoded = decoded;
        tested_it = subst (λ (p : Dex × RawCode). IsTestedCode (reference e.0 e.1) e.1.is_static p.0 p.1 decoded) pair tested_it;
        is = ap (λ (p : Dex × RawCode). code_of e p.1 decoded) pair;
      }

  -- the row of one listed method passes, and these are left
  record Begins (e : Triple × Listed) (es : Methods) (s : List Coded) (cs : List Coded) : Type 0 where
    next : List Coded
    rest : List Coded
    row : run (code_row dexes e s) ≡ Ok next
    is : next ++ rest ≡ s ++ cs
    these : AreThese es rest

  begins : (e : Triple × Listed) (es : Methods) (s : List Coded) (cs : List Coded) → Which e → AreThese (e ∷ es) cs → Begins e es s cs
  begins e es s cs (native is) are = by_first cs (subst (λ (xs : Methods). AllZip (IsCoded dexes) xs cs) (with_native e es is) are)
    where
      by_first : (ds : List Coded) → AllZip (IsCoded dexes) (e ∷ filter (has_body dexes) es) ds → Begins e es s ds
      by_first [] these = absurd these
      by_first (d ∷ ds) these = record {
        next = s ++ native_of e ∷ [];
        rest = ds;
        row = ap run (row_of_native e s is);
        is = append_assoc s (native_of e ∷ []) ds ∙ ap (λ (c : Coded). s ++ c ∷ ds) (sym (native_is e d is these.0));
        these = these.1;
      }
  begins e es s cs (coded dex code other found) are = by_first cs (subst (λ (xs : Methods). AllZip (IsCoded dexes) xs cs) (with_coded e es dex code other found) are)
    where
      by_first : (ds : List Coded) → AllZip (IsCoded dexes) (e ∷ filter (has_body dexes) es) ds → Begins e es s ds
      by_first [] these = absurd these
      by_first (d ∷ ds) these =
          let its : HasIts e dex code d = coded_is e dex code d other found these.0 in
          let next : List Coded = s ++ code_of e code its.decoded ∷ [] in
          record {
            next = next;
            rest = ds;
            row = ap run (row_of_code e s dex code other found) ∙ bind_runs (tested (reference e.0 e.1) e.1.is_static dex code) its.decoded (λ d. Value (s ++ code_of e code d ∷ [])) (Ok next)
                (tested_runs laws (reference e.0 e.1) e.1.is_static dex code its.decoded its.tested_it) refl;
            is = append_assoc s (code_of e code its.decoded ∷ []) ds ∙ ap (λ (c : Coded). s ++ c ∷ ds) (sym its.is);
            these = these.1;
          }
  begins e es s cs (bare other found) are = record {
    next = s;
    rest = cs;
    row = ap run (row_of_bare e s other found);
    is = refl;
    these = subst (λ (xs : Methods). AllZip (IsCoded dexes) xs cs) (without_bare e es other found) are;
  }

  rows_run : (es : Methods) (s : List Coded) (cs : List Coded) → AreThese es cs → run (each (code_row dexes) es s) ≡ Ok (s ++ cs)
  unfolding each
  rows_run [] s [] are = ap (λ (ds : List Coded). Ok ds) (sym (append-nil s))
  rows_run [] s (c ∷ cs) are = absurd are
  rows_run (e ∷ es) s cs are =
      let first : Begins e es s cs = begins e es s cs (which e) are in
      let rest : run (each (code_row dexes) es first.next) ≡ Ok (first.next ++ first.rest) = rows_run es first.next first.rest first.these in
      bind_runs (code_row dexes e s) first.next (λ next. each (code_row dexes) es next) (Ok (s ++ cs)) first.row
      (rest ∙ ap (λ (ds : List Coded). Ok ds) first.is)

-- what the tests lead to is the code
pub coding_stands : (laws : CodeLaws) (dexes : List Dex) (methods : Methods) (cs : List Coded) → run (all_codes dexes methods) ≡ Ok cs → AreCoded dexes methods cs
unfolding all_codes
coding_stands laws dexes methods cs e =
    let all : AddsAll laws dexes methods [] cs = rows_add laws dexes methods [] cs e in
    record { each = subst (λ (ds : List Coded). AllZip (IsCoded dexes) (filter (has_body dexes) methods) ds) (sym all.is) all.these }

-- what is the code passes the tests
pub coding_runs : (laws : CodeLaws) (dexes : List Dex) (methods : Methods) (cs : List Coded) → AreCoded dexes methods cs → run (all_codes dexes methods) ≡ Ok cs
unfolding all_codes
coding_runs laws dexes methods cs are = rows_run laws dexes methods [] cs are.each

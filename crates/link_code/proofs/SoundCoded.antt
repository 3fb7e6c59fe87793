-- The methods that were decoded and tested: what holds of each, and their order.
use Rattle.std.proofs.Common.{◌≡◌, ◌≤◌, Bool, true, false, cond, Ok, List, [], ◌∷◌, ◌++◌, map, length, append_assoc, append-nil, Option, Some, None, slice_get, IsTrue, ◌==◌, refl, sym, ap, subst, ◌∙◌, arith, ◌⊎◌, inl, inr}
use Rattle.std.specs.List.{AllByRecursion}
use Rattle.std.specs.List.Sorted.{IsStrictlySortedBy}
use Rattle.std.specs.Map.{keys_of}
use Rattle.std.specs.declared.cmp.Ordering.TheVariants.{Less}
use Rattle.vet_base.specs.Script.{Value, ◌>>=◌, test, run, each}
use Rattle.dex_tables.specs.declared.dex.Dex.{Dex}
use Rattle.dex_tables.specs.declared.dex.ClassDef.{ClassDef}
use Rattle.dex_tables.specs.declared.dex.Body.{Body}
use Rattle.dex_tables.specs.declared.dex.RawCode.{RawCode}
use Rattle.dex_code.specs.declared.decoder.Decoded.{Decoded}
use Rattle.dex_code.specs.declared.fault.CodeFault.TheVariants.{Register}
use Rattle.dex_code.specs.Code.{decoding}
use Rattle.dex_code.specs.CodeLaws.{CodeLaws}
use Rattle.dex_code.specs.Lines.{Line}
use Rattle.app_machine.specs.declared.call.MethodRef.{MethodRef}
use Rattle.vet_base.specs.Members.{In}
use Rattle.app_machine.specs.Names.{Name, descriptor_of}
use Rattle.vet_base.specs.Ascending.{Ascends}
use Rattle.app_machine.specs.Sound.{taken}
use Rattle.link_code.specs.declared.coded.Coded.{Coded}
use Rattle.link_listing.specs.declared.members.Listed.{Listed}
use Rattle.link_listing.specs.declared.members.Place.{Place}
use Rattle.link_listing.specs.declared.fault.Fault.{Fault}
use Rattle.link_listing.specs.declared.fault.Fault.TheVariants as faults
use Rattle.link_listing.specs.Texts.{Triple}
use Rattle.link_listing.specs.MemberRows.{Methods}
use Rattle.link_listing.specs.Orders.{triple_order}
use Rattle.link_code.specs.Code.{blamed, counts_of, bodies_of, call_fits, call_row, calls_fit, tested, with_code, native_coded, reference, one_code, code_row, code_at, all_codes}
use Rattle.link_code.specs.AreCoded.{IsTestedCode}
use Rattle.link_listing.specs.Described.{Described}
use Rattle.link_code.specs.Tested.{HasCode, IsTested, coded_order, Tested}
use Rattle.link_code.proofs.FieldOrder.{same_order}
use Rattle.link_code.proofs.CodedFacts.{tested_code}
use Rattle.vet_base.proofs.Runs.{value_is, test_ok, bind_ok}
use Rattle.std.proofs.lemmas.Bool.{eqb-true}

calls_each : (dex : Dex) (at : MethodRef) (lines : List Line) (u v : Unit {0}) → run (each (call_row dex at) lines u) ≡ Ok v → (line : Line) → In line lines → IsTrue (call_fits dex line.1)
unfolding each call_row
calls_each dex at [] u v e line k = absurd k
calls_each dex at (l ∷ ls) u v e line k =
    let first = bind_ok (call_row dex at l u) (λ next. each (call_row dex at) ls next) v e in
    let one = test_ok (call_fits dex l.1) (faults.Code at (Register l.0)) (Value tt) first.0 first.1 in
    elim k [
      | inl same ↦ subst (λ (x : Line). IsTrue (call_fits dex x.1)) (sym same) one.0
      | inr j ↦ calls_each dex at ls first.0 v first.2 line j
    ]

module _ (laws : CodeLaws) where
  -- what was tested is the code, with the registers that descriptors tell
  pub tested_facts : (at : MethodRef) (is_static : Bool) (dex : Dex) (code : RawCode) (decoded : Decoded) → run (tested at is_static dex code) ≡ Ok decoded → IsTestedCode at is_static dex code decoded
  unfolding tested calls_fit
  tested_facts at is_static dex code decoded e =
      let read = bind_ok (blamed (faults.Code at) (decoding code (counts_of dex))) (λ d. test (taken is_static at.proto == code.ins) (faults.Code at (Register 0)) >>= (λ _. calls_fit dex at d.lines >>= (λ _. Value d))) decoded e in
      let ins = test_ok (taken is_static at.proto == code.ins) (faults.Code at (Register 0)) (calls_fit dex at read.0.lines >>= (λ _. Value read.0)) decoded read.2 in
      let calls = bind_ok (calls_fit dex at read.0.lines) (λ _. Value read.0) decoded ins.1 in
      let same : read.0 ≡ decoded = value_is {F = Fault} read.0 decoded calls.2 in
      let fit : (line : Line) → In line read.0.lines → IsTrue (call_fits dex line.1) = calls_each dex at read.0.lines tt calls.0 calls.1 in
      record {
        is = tested_code laws at is_static dex code decoded e;
        takes = sym (eqb-true (taken is_static at.proto) code.ins ins.0);
        calls = subst (λ (d : Decoded). (line : Line) → In line d.lines → IsTrue (call_fits dex line.1)) same fit;
      }

  -- the file of a place where there is code
  file_at : (dexes : List Dex) (place : Place) (dex : Dex) (code : RawCode) → code_at dexes place ≡ Some (dex, code) → slice_get dexes place.dex ≡ Some dex
  unfolding code_at
  file_at dexes place dex code e = by_file (slice_get dexes place.dex) e
    where
      by_code : (d : Dex) (o : Option RawCode) → elim o as (λ (o : Option RawCode). Option (Dex × RawCode)) [ None ↦ None | Some c ↦ Some (d, c) ] ≡ Some (dex, code) → Some d ≡ Some dex
      by_code d None e = absurd cc
      by_code d (Some c) e = let pair : (d, c) ≡ (dex, code) = cc in ap (λ (p : Dex × RawCode). Some p.0) pair

      by_body : (d : Dex) (o : Option Body) → elim o as (λ (o : Option Body). Option (Dex × RawCode)) [ None ↦ None | Some body ↦ elim body.code as (λ (o : Option RawCode). Option (Dex × RawCode)) [ None ↦ None | Some c ↦ Some (d, c) ] ] ≡ Some (dex, code) → Some d ≡ Some dex
      by_body d None e = absurd cc
      by_body d (Some body) e = by_code d body.code e

      by_class : (d : Dex) (o : Option ClassDef) → elim o as (λ (o : Option ClassDef). Option (Dex × RawCode)) [ None ↦ None | Some def ↦ elim (slice_get (bodies_of def place.is_virtual) place.body) as (λ (o : Option Body). Option (Dex × RawCode)) [ None ↦ None | Some body ↦ elim body.code as (λ (o : Option RawCode). Option (Dex × RawCode)) [ None ↦ None | Some c ↦ Some (d, c) ] ] ] ≡ Some (dex, code) → Some d ≡ Some dex
      by_class d None e = absurd cc
      by_class d (Some def) e = by_body d (slice_get (bodies_of def place.is_virtual) place.body) e

      by_file : (o : Option Dex) → elim o as (λ (o : Option Dex). Option (Dex × RawCode)) [ None ↦ None | Some d ↦ elim (slice_get d.classes place.class) as (λ (o : Option ClassDef). Option (Dex × RawCode)) [ None ↦ None | Some def ↦ elim (slice_get (bodies_of def place.is_virtual) place.body) as (λ (o : Option Body). Option (Dex × RawCode)) [ None ↦ None | Some body ↦ elim body.code as (λ (o : Option RawCode). Option (Dex × RawCode)) [ None ↦ None | Some c ↦ Some (d, c) ] ] ] ] ≡ Some (dex, code) → o ≡ Some dex
      by_file None e = absurd cc
      by_file (Some d) e = by_class d (slice_get d.classes place.class) e

  -- the method that a row adds
  record Added (dexes : List Dex) (e : Triple × Listed) (s t : List Coded) : Type 0 where
    coded : Coded
    is : t ≡ s ++ coded ∷ []
    at : coded.at ≡ reference e.0 e.1
    tested_it : IsTested dexes coded

  native_tested : (dexes : List Dex) (at : MethodRef) (listed : Listed) → IsTested dexes (native_coded at listed)
  native_tested dexes at listed = record { of_native = λ e. refl; of_code = λ e. absurd cc }

  code_tested : (dexes : List Dex) (at : MethodRef) (listed : Listed) (dex : Dex) (code : RawCode) (decoded : Decoded) → slice_get dexes listed.place.dex ≡ Some dex → run (tested at listed.is_static dex code) ≡ Ok decoded → IsTested dexes (with_code at listed listed.place.dex code decoded)
  code_tested dexes at listed dex code decoded file e =
      let facts = tested_facts at listed.is_static dex code decoded e in
      let has : HasCode dexes (with_code at listed listed.place.dex code decoded) = record {
        dex = dex;
        code = code;
        file = file;
        is = facts.is;
        registers = refl;
        ins = refl;
        takes = facts.takes;
        calls = facts.calls;
      } in
      record { of_native = λ e. absurd cc; of_code = λ e. has }

  one_adds : (dexes : List Dex) (e : Triple × Listed) (found : Option (Dex × RawCode)) (s t : List Coded) → code_at dexes e.1.place ≡ found → run (one_code (reference e.0 e.1) e.1 found s) ≡ Ok t → (t ≡ s) ⊎ Added dexes e s t
  unfolding one_code
  one_adds dexes e None s t there h = inl (sym (value_is {F = Fault} s t h))
  one_adds dexes e (Some (dex, code)) s t there h =
      let at : MethodRef = reference e.0 e.1 in
      let read = bind_ok (tested at e.1.is_static dex code) (λ d. Value (s ++ with_code at e.1 e.1.place.dex code d ∷ [])) t h in
      let c : Coded = with_code at e.1 e.1.place.dex code read.0 in
      let same : (s ++ c ∷ []) ≡ t = value_is {F = Fault} (s ++ c ∷ []) t read.2 in
      let is_so : IsTested dexes c = code_tested dexes at e.1 dex code read.0 (file_at dexes e.1.place dex code there) read.1 in
      inr (record { coded = c; is = sym same; at = refl; tested_it = is_so })

  row_adds : (dexes : List Dex) (e : Triple × Listed) (s t : List Coded) → run (code_row dexes e s) ≡ Ok t → (t ≡ s) ⊎ Added dexes e s t
  unfolding code_row
  row_adds dexes e s t h = by_native e.1.is_native h
    where
      by_native : (b : Bool) → run (cond b (Value (s ++ native_coded (reference e.0 e.1) e.1 ∷ [])) (one_code (reference e.0 e.1) e.1 (code_at dexes e.1.place) s)) ≡ Ok t → (t ≡ s) ⊎ Added dexes e s t
      by_native true h =
          let c : Coded = native_coded (reference e.0 e.1) e.1 in
          let same : (s ++ c ∷ []) ≡ t = value_is {F = Fault} (s ++ c ∷ []) t h in
          inr (record { coded = c; is = sym same; at = refl; tested_it = native_tested dexes (reference e.0 e.1) e.1 })
      by_native false h = one_adds dexes e (code_at dexes e.1.place) s t refl h

  -- the names by which a method is ordered
  abbrev shown : Coded → Triple
  shown c = (c.at.class, c.at.name, descriptor_of c.at.proto)

  -- the methods that rows add: their names are some of the rows', in their order
  record Drawn (dexes : List Dex) (entries : Methods) (s t : List Coded) : Type 0 where
    more : List Coded
    is : t ≡ s ++ more
    few : length more ≤ length entries
    all_tested : (c : Coded) → In c more → IsTested dexes c
    above : (x : Triple) → AllByRecursion (λ (y : Triple). triple_order x y ≡ Less) (keys_of entries) → AllByRecursion (λ (y : Triple). triple_order x y ≡ Less) (map shown more)
    sorted : IsStrictlySortedBy triple_order (keys_of entries) → IsStrictlySortedBy triple_order (map shown more)

  shown_at : (e : Triple × Listed) (c : Coded) → c.at ≡ reference e.0 e.1 → e.0.2 ≡ descriptor_of e.1.proto → shown c ≡ e.0
  unfolding reference
  shown_at e c at told =
      let one : shown c ≡ (e.0.0, e.0.1, descriptor_of e.1.proto) = ap (λ (m : MethodRef). (m.class, m.name, descriptor_of m.proto)) at in
      one ∙ ap (λ (d : Name). (e.0.0, e.0.1, d)) (sym told)

  drawn_none : (dexes : List Dex) (s t : List Coded) → s ≡ t → Drawn dexes [] s t
  unfolding IsStrictlySortedBy
  drawn_none dexes s t same = record { more = []; is = sym same ∙ sym (append-nil s); few = omega arith; all_tested = λ c k. absurd k; above = λ x all. tt; sorted = λ h. tt }

  drawn_on : (dexes : List Dex) (e : Triple × Listed) (es : Methods) (s m t : List Coded) → e.0.2 ≡ descriptor_of e.1.proto → (m ≡ s) ⊎ Added dexes e s m → Drawn dexes es m t → Drawn dexes (e ∷ es) s t
  unfolding IsStrictlySortedBy
  drawn_on dexes e es s m t told (inl same) later = record {
    more = later.more;
    is = later.is ∙ ap (λ (cs : List Coded). cs ++ later.more) same;
    few = let h : length later.more ≤ length es = later.few in omega (arith, h);
    all_tested = later.all_tested;
    above = λ x all. later.above x all.1;
    sorted = λ h. later.sorted h.1;
  }
  drawn_on dexes e es s m t told (inr added) later =
      let name : shown added.coded ≡ e.0 = shown_at e added.coded added.at told in
      record {
        more = added.coded ∷ later.more;
        is = later.is ∙ (ap (λ (cs : List Coded). cs ++ later.more) added.is ∙ append_assoc s (added.coded ∷ []) later.more);
        few = let h : length later.more ≤ length es = later.few in omega (arith, h);
        all_tested = λ c k. elim k [ inl same ↦ subst (IsTested dexes) (sym same) added.tested_it | inr j ↦ later.all_tested c j ];
        above = λ x all. (subst (λ (y : Triple). triple_order x y ≡ Less) (sym name) all.0, later.above x all.1);
        sorted = λ h. (subst (λ (x : Triple). AllByRecursion (λ (y : Triple). triple_order x y ≡ Less) (map shown later.more)) (sym name) (later.above e.0 h.0), later.sorted h.1);
      }

  drawn : (dexes : List Dex) (entries : Methods) (s t : List Coded) → ((e : Triple × Listed) → In e entries → e.0.2 ≡ descriptor_of e.1.proto) → run (each (code_row dexes) entries s) ≡ Ok t → Drawn dexes entries s t
  unfolding each
  drawn dexes [] s t told h = drawn_none dexes s t (value_is {F = Fault} s t h)
  drawn dexes (e ∷ es) s t told h =
      let first = bind_ok (code_row dexes e s) (λ next. each (code_row dexes) es next) t h in
      drawn_on dexes e es s first.0 t (told e (inl refl)) (row_adds dexes e s first.0 first.1) (drawn dexes es first.0 t (λ x k. told x (inr k)) first.2)

  ascend_shown : (cs : List Coded) → IsStrictlySortedBy triple_order (map shown cs) → Ascends coded_order cs
  unfolding IsStrictlySortedBy
  ascend_shown [] sorted = tt
  ascend_shown (x ∷ []) sorted = tt
  ascend_shown (x ∷ y ∷ ys) sorted = (sym (same_order (shown x) (shown y)) ∙ sorted.0.0, ascend_shown (y ∷ ys) sorted.1)

  all_drawn : (dexes : List Dex) (entries : Methods) (coding : List Coded) → Described entries → run (all_codes dexes entries) ≡ Ok coding → Drawn dexes entries [] coding
  unfolding all_codes
  all_drawn dexes entries coding told e = drawn dexes entries [] coding told.each e

  -- the methods of ordered entries are in order, and tested
  codes_tested : (dexes : List Dex) (entries : Methods) (coding : List Coded) → Described entries → IsStrictlySortedBy triple_order (keys_of entries) → run (all_codes dexes entries) ≡ Ok coding → Tested dexes coding
  codes_tested dexes entries coding told sorted e =
      let all = all_drawn dexes entries coding told e in
      let more : Tested dexes all.more = record { order = ascend_shown all.more (all.sorted sorted); each = all.all_tested } in
      subst (Tested dexes) (sym all.is) more

  -- there are no more of them than entries
  codes_few : (dexes : List Dex) (entries : Methods) (coding : List Coded) → Described entries → run (all_codes dexes entries) ≡ Ok coding → length coding ≤ length entries
  codes_few dexes entries coding told e =
      let all = all_drawn dexes entries coding told e in
      let same : length coding ≡ length all.more = ap length all.is in
      let h : length all.more ≤ length entries = all.few in
      omega (arith, same, h)

  -- the same of entries that are read through a slice
  pub seen_tested : (dexes : List Dex) (methods items seen : Methods) (coding : List Coded) → seen ≡ items → items ≡ methods → Described methods → IsStrictlySortedBy triple_order (keys_of items) → run (all_codes dexes seen) ≡ Ok coding → Tested dexes coding
  seen_tested dexes methods items seen coding as_read as_listed told sorted e =
      codes_tested dexes items coding (subst Described (sym as_listed) told) sorted (subst (λ (es : Methods). run (all_codes dexes es) ≡ Ok coding) as_read e)

  pub seen_few : (dexes : List Dex) (methods seen : Methods) (coding : List Coded) → seen ≡ methods → Described methods → run (all_codes dexes seen) ≡ Ok coding → length coding ≤ length methods
  seen_few dexes methods seen coding as_read told e = codes_few dexes methods coding told (subst (λ (es : Methods). run (all_codes dexes es) ≡ Ok coding) as_read e)

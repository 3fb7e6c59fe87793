-- Where an instruction names a static, there is one.
use Rattle.std.proofs.Common.{◌≡◌, ℕ, ◌<◌, List, [], ◌∷◌, length, Option, Some, None, slice_get, refl, sym, subst, arith, inl}
use Rattle.std.specs.Prelude.{flat_map}
use Rattle.dex_tables.specs.declared.dex.Dex.{Dex}
use Rattle.dex_code.specs.Lines.{Line}
use Rattle.app_machine.specs.declared.app.App.{App}
use Rattle.vet_base.specs.Members.{In}
use Rattle.link_code.specs.declared.coded.Coded.{Coded}
use Rattle.link_listing.specs.Texts.{Triple, field_of}
use Rattle.link_listing.specs.MemberRows.{Fields}
use Rattle.link_code.specs.Statics.{resolved}
use Rattle.link_code.specs.StaticList.{AreStatics, static_index, static_in_line, statics_in_method, statics_named}
use Rattle.vet_base.proofs.Members.{in_flat}

some_in : (xs : List Triple) (x : Triple) → In x xs → 0 < length xs
some_in [] x k = absurd k
some_in (y ∷ ys) x k = omega arith

module _ (app : App) (fields : Fields) where
  of_line : (dex : Dex) (line : Line) (i : ℕ) → static_index line.1 ≡ Some i → In (resolved app fields (field_of dex i)) (static_in_line app fields dex line)
  unfolding static_in_line
  of_line dex line i e = subst (λ (o : Option ℕ). In (resolved app fields (field_of dex i)) (elim o as (λ (o : Option ℕ). List Triple) [ None ↦ [] | Some j ↦ resolved app fields (field_of dex j) ∷ [] ])) (sym e) (inl refl)

  of_method : (dexes : List Dex) (c : Coded) (dex : Dex) (line : Line) (i : ℕ) → slice_get dexes c.dex ≡ Some dex → In line c.decoded.lines → static_index line.1 ≡ Some i → In (resolved app fields (field_of dex i)) (statics_in_method app fields dexes c)
  unfolding statics_in_method
  of_method dexes c dex line i file k e =
      subst (λ (o : Option Dex). In (resolved app fields (field_of dex i)) (elim o as (λ (o : Option Dex). List Triple) [ None ↦ [] | Some d ↦ flat_map (static_in_line app fields d) c.decoded.lines ])) (sym file)
      (in_flat (static_in_line app fields dex) c.decoded.lines line (resolved app fields (field_of dex i)) k (of_line dex line i e))

  named_there : (dexes : List Dex) (cs : List Coded) (c : Coded) (field : Triple) → In c cs → In field (statics_in_method app fields dexes c) → In field (statics_named app fields dexes cs)
  unfolding statics_named
  named_there dexes cs c field j k = in_flat (statics_in_method app fields dexes) cs c field j k

  pub some_statics : (dexes : List Dex) (cs : List Coded) (statics : List Triple) → AreStatics app fields dexes cs statics → (c : Coded) (dex : Dex) (line : Line) (i : ℕ) → In c cs → slice_get dexes c.dex ≡ Some dex → In line c.decoded.lines → static_index line.1 ≡ Some i → 0 < length statics
  some_statics dexes cs statics are c dex line i j file k e =
      let field : Triple = resolved app fields (field_of dex i) in
      some_in statics field ((are.each field).1 (named_there dexes cs c field j (of_method dexes c dex line i file k e)))

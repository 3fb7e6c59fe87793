-- There are no more statics than lines, and they stand in order.
use Rattle.std.proofs.Common.{◌≡◌, ℕ, ◌+◌, ◌≤◌, List, [], ◌∷◌, ◌++◌, length, length-append, Option, Some, None, arith}
use Rattle.std.specs.Prelude.{flat_map, slice_get}
use Rattle.dex_tables.specs.declared.dex.Dex.{Dex}
use Rattle.dex_code.specs.Lines.{Line}
use Rattle.app_machine.specs.declared.app.App.{App}
use Rattle.link_code.specs.declared.coded.Coded.{Coded}
use Rattle.link_listing.specs.Texts.{Triple, field_of}
use Rattle.link_listing.specs.MemberRows.{Fields}
use Rattle.link_code.specs.Statics.{resolved}
use Rattle.link_code.specs.StaticList.{AreStatics, static_index, static_in_line, statics_in_method, statics_named}
use Rattle.link_code.specs.StaticsInOrder.{StaticsInOrder}
use Rattle.link_code.specs.Methods.{InOrder}
use Rattle.link_code.specs.SoFar.{SoFar, lines_in}
use Rattle.link_code.proofs.Inserted.{ascend_apart}
use Rattle.vet_base.proofs.Apart.{no_more}

module _ (app : App) (fields : Fields) where
  in_line : (dex : Dex) (line : Line) → length (static_in_line app fields dex line) ≤ 1
  unfolding static_in_line
  in_line dex line = by_index (static_index line.1)
    where
      by_index : (o : Option ℕ) → length (elim o as (λ (o : Option ℕ). List Triple) [ None ↦ [] | Some i ↦ resolved app fields (field_of dex i) ∷ [] ]) ≤ 1
      by_index None = omega arith
      by_index (Some i) = omega arith

  in_lines : (dex : Dex) (lines : List Line) → length (flat_map (static_in_line app fields dex) lines) ≤ length lines
  in_lines dex [] = omega arith
  in_lines dex (line ∷ lines) =
      let one : length (static_in_line app fields dex line) ≤ 1 = in_line dex line in
      let others : length (flat_map (static_in_line app fields dex) lines) ≤ length lines = in_lines dex lines in
      let both : length (static_in_line app fields dex line ++ flat_map (static_in_line app fields dex) lines) ≡ length (static_in_line app fields dex line) + length (flat_map (static_in_line app fields dex) lines) = length-append (static_in_line app fields dex line) (flat_map (static_in_line app fields dex) lines) in
      omega (arith, one, others, both)

  in_method : (dexes : List Dex) (c : Coded) → length (statics_in_method app fields dexes c) ≤ length c.decoded.lines
  unfolding statics_in_method
  in_method dexes c = by_file (slice_get dexes c.dex)
    where
      by_file : (o : Option Dex) → length (elim o as (λ (o : Option Dex). List Triple) [ None ↦ [] | Some dex ↦ flat_map (static_in_line app fields dex) c.decoded.lines ]) ≤ length c.decoded.lines
      by_file None = omega arith
      by_file (Some dex) = in_lines dex c.decoded.lines

  in_methods : (dexes : List Dex) (cs : List Coded) → length (statics_named app fields dexes cs) ≤ lines_in cs
  unfolding statics_named
  in_methods dexes [] = omega arith
  in_methods dexes (c ∷ cs) =
      let one : length (statics_in_method app fields dexes c) ≤ length c.decoded.lines = in_method dexes c in
      let others : length (flat_map (statics_in_method app fields dexes) cs) ≤ lines_in cs = in_methods dexes cs in
      let both : length (statics_in_method app fields dexes c ++ flat_map (statics_in_method app fields dexes) cs) ≡ length (statics_in_method app fields dexes c) + length (flat_map (statics_in_method app fields dexes) cs) = length-append (statics_in_method app fields dexes c) (flat_map (statics_in_method app fields dexes) cs) in
      omega (arith, one, others, both)

  pub few_statics : (dexes : List Dex) (cs : List Coded) (statics : List Triple) → AreStatics app fields dexes cs statics → length statics ≤ lines_in cs
  few_statics dexes cs statics are =
      let named : length statics ≤ length (statics_named app fields dexes cs) = no_more statics (statics_named app fields dexes cs) (ascend_apart statics are.order) (λ field k. (are.each field).0 k) in
      let lines : length (statics_named app fields dexes cs) ≤ lines_in cs = in_methods dexes cs in
      omega (arith, named, lines)

  -- the statics of methods with few units are in order, and few
  pub statics_in_order : (dexes : List Dex) (cs : List Coded) (statics : List Triple) → SoFar cs 33554432 → AreStatics app fields dexes cs statics → StaticsInOrder statics
  statics_in_order dexes cs statics so_far are =
      let l : lines_in cs ≤ 33554432 = so_far.few in
      let s : length statics ≤ lines_in cs = few_statics dexes cs statics are in
      record { order = are.order; short = omega (arith, l, s) }

pub lines_in_order : (cs : List Coded) (units : ℕ) → SoFar cs units → InOrder cs
lines_in_order cs units so_far = record { each = so_far.order }

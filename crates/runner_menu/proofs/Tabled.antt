-- The tables of components, one after the other.
use Rattle.std.proofs.Common.{◌≡◌, ◌⊎◌, inl, inr, ℕ, ◌+◌, ◌<◌, Bool, List, [], ◌∷◌, ◌++◌, length, get_or, flat_map, Some, slice_get, refl, sym, ap, subst, ◌∙◌, arith}
use Rattle.std.proofs.lemmas.List.{length-append, length_push}
use Rattle.std.proofs.lemmas.Option.{none-some, slice_get_read}
use Rattle.app_machine.specs.declared.app.App.{App}
use Rattle.app_machine.specs.declared.lists.Lists.{Lists}
use Rattle.app_machine.specs.State.{World}
use Rattle.app_machine.specs.Summaries.{numbers_from}
use Rattle.event_index.proofs.Pushed.{at_pushed}
use Rattle.played_machine.specs.Coming.{Event, may_begin}
use Rattle.runner_choices.specs.declared.table.ComponentTable.{ComponentTable}
use Rattle.runner_choices.specs.Table.{IsTable, menu_of}
use Rattle.runner_choices.proofs.Lived.{met_before, past_some}
use Rattle.runner_handed.proofs.Walked.{flat_next, flat_split}
use Rattle.runner_menu.specs.Tables.{AreTables, components_in, menu_at}

-- those of the first so many components
pub record TablesUpTo (app : App) (lists : Lists) (tables : List ComponentTable) (n : ℕ) : Type 0 where
  pub long : length tables ≡ n
  pub at : (c : ℕ) (table : ComponentTable) → slice_get tables c ≡ Some table → IsTable app lists c table

module _ (app : App) (lists : Lists) where
  pub no_tables : TablesUpTo app lists [] 0
  no_tables = record { long = refl; at = λ c table there. absurd (none-some table there) }

  pub one_more_table : (tables new : List ComponentTable) (n : ℕ) (table : ComponentTable) → new ≡ tables ++ table ∷ [] → IsTable app lists n table → TablesUpTo app lists tables n → TablesUpTo app lists new (n + 1)
  one_more_table tables new n table more is so_far = subst (λ (all : List ComponentTable). TablesUpTo app lists all (n + 1)) (sym more) (record {
    long = length_push tables table ∙ ap (λ k. k + 1) so_far.long;
    at = λ c other there. by_place c other (at_pushed tables table other c there);
  })
    where
      by_place : (c : ℕ) (other : ComponentTable) → (slice_get tables c ≡ Some other) ⊎ ((c ≡ length tables) × (table ≡ other)) → IsTable app lists c other
      by_place c other (inl before) = so_far.at c other before
      by_place c other (inr last) =
          subst (λ (t : ComponentTable). IsTable app lists c t) last.1 (subst (λ k. IsTable app lists k table) (sym (last.0 ∙ so_far.long)) is)

  pub all_tables : (tables : List ComponentTable) (n : ℕ) → n ≡ length app.components → TablesUpTo app lists tables n → AreTables app lists tables
  all_tables tables n is so_far = record { long = so_far.long ∙ is; at = so_far.at }

module _ (app : App) (w : World) (tables : List ComponentTable) where
  abbrev pub own : ℕ → List Event
  own c = menu_at app w c (slice_get tables c)

  own_is : (c : ℕ) (table : ComponentTable) → c < length tables → table ≡ get_or tables c table → own c ≡ menu_of w c (may_begin app w c) table
  own_is c table within is = ap (menu_at app w c) (slice_get_read tables (length tables) c table refl within is)

  pub component_counted : (c count all : ℕ) (begins : Bool) (table : ComponentTable) → c < length tables → table ≡ get_or tables c table → begins ≡ may_begin app w c → all ≡ count + length (menu_of w c begins table) →
      count ≡ length (flat_map own (numbers_from 0 c)) → all ≡ length (flat_map own (numbers_from 0 (c + 1)))
  component_counted c count all begins table within is may sum so_far =
      let next = ap length (flat_next own c) ∙ length-append (flat_map own (numbers_from 0 c)) (own c) in
      let long = ap length (own_is c table within is) in
      let same = ap (λ b. length (menu_of w c b table)) may in
      omega (arith, next, so_far, long, same, sum)

  pub met_here : (c index left : ℕ) (begins : Bool) (table : ComponentTable) (event : Event) → c < length tables → length tables ≡ length app.components → table ≡ get_or tables c table → begins ≡ may_begin app w c →
      index ≡ length (flat_map own (numbers_from 0 c)) + left → slice_get (menu_of w c begins table) left ≡ Some event → slice_get (components_in app w tables) index ≡ Some event
  met_here c index left begins table event within long is may so_far here =
      let split = flat_split own (c + 1) (length app.components) (omega (arith, within, long)) in
      ap (λ xs. slice_get xs index) split.1
      ∙ met_before w (flat_map own (numbers_from 0 (c + 1))) split.0 index event
      (ap (λ xs. slice_get xs index) (flat_next own c)
      ∙ (past_some w (flat_map own (numbers_from 0 c)) (own c) index left so_far
      ∙ (ap (λ xs. slice_get xs left) (own_is c table within is ∙ ap (λ b. menu_of w c b table) (sym may)) ∙ here)))

  pub met_further : (c index left rest : ℕ) (begins : Bool) (table : ComponentTable) → c < length tables → table ≡ get_or tables c table → begins ≡ may_begin app w c →
      left ≡ length (menu_of w c begins table) + rest → index ≡ length (flat_map own (numbers_from 0 c)) + left → index ≡ length (flat_map own (numbers_from 0 (c + 1))) + rest
  met_further c index left rest begins table within is may past so_far =
      let next = ap length (flat_next own c) ∙ length-append (flat_map own (numbers_from 0 c)) (own c) in
      let long = ap length (own_is c table within is) in
      let same = ap (λ b. length (menu_of w c b table)) may in
      omega (arith, next, so_far, long, same, past)

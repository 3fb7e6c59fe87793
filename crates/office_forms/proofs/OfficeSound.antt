-- An office file that is read is sound.
use Rattle.std.proofs.Common.{◌≡◌, ℕ, ◌≤◌, List, [], ◌∷◌, ◌++◌, map, length, Ok, refl, arith}
use Rattle.std.specs.Prelude.{is_none}
use Rattle.std.specs.List.{All}
use Rattle.toml.specs.Data.{Data, Members}
use Rattle.vet_base.specs.Script.{run}
use Rattle.vet_base.specs.Apart.{Apart}
use Rattle.app_machine.specs.Names.{Name, same_name}
use Rattle.store_office.specs.declared.party.Party.{Party}
use Rattle.store_office.specs.declared.office.Office.{Office}
use Rattle.form_fields.specs.declared.fault.Fault.TheVariants.{Twice}
use Rattle.form_fields.specs.declared.words.Section.TheVariants as section
use Rattle.form_fields.specs.declared.words.Key.TheVariants as key
use Rattle.form_fields.specs.declared.spelling.Spelling.TheVariants as spelling
use Rattle.form_fields.specs.Spelling.{fits}
use Rattle.form_fields.specs.Places.{place_of}
use Rattle.form_fields.specs.Once.{once}
use Rattle.form_fields.specs.Fields.{known, text_at, number_at, tables_at, table_in}
use Rattle.office_forms.specs.Office.{role_at, party_row, parties_of, name_once, token_once, party_names_once, party_tokens_once, parties_once, office_form}
use Rattle.office_forms.specs.Sound.{SoundParty, SoundOffice}
use Rattle.form_fields.proofs.Yields.{Yields, yields_value, yields_tested, yields_then, yields_past, yields_walk, yields_walk_all}
use Rattle.form_fields.proofs.FieldYields.{number_within, tables_few}
use Rattle.form_fields.proofs.Spelled.{Fits, text_fits}
use Rattle.office_forms.proofs.OnceApart.{Adds, each_apart}

party_sound : (d : Data) (u : Unit {0}) → Yields (λ r. SoundParty r.0) (party_row d u)
unfolding party_row fits
party_sound d u =
    yields_past _ (table_in section.Office key.Party d) _
    (λ t. yields_past _ (known section.Party t) _
    (λ _. yields_then (Fits spelling.Reference) _ (text_at section.Party key.Name spelling.Reference t) _ (text_fits section.Party key.Name spelling.Reference t)
    (λ name n. yields_past _ (role_at t) _
    (λ role. yields_then (Fits spelling.Token) _ (text_at section.Party key.Token spelling.Token t) _ (text_fits section.Party key.Token spelling.Token t)
    (λ token k. yields_value _ _ (record { name = n; token = k }))))))

parties_sound : (ds : List Data) → Yields (λ r. All SoundParty r.0) (parties_of ds)
unfolding parties_of
parties_sound ds = yields_walk_all SoundParty party_row party_sound ds tt

parties_counted : (ds : List Data) → Yields (λ r. (length r.0 ≡ length ds) × Unit {0}) (parties_of ds)
unfolding parties_of
parties_counted ds = yields_walk (λ n s. Unit {0}) party_row (λ n x s h. record { at = λ y e. tt }) ds 0 tt tt

abbrev name_of : Party → Name
name_of party = party.name

abbrev token_of : Party → Name
token_of party = party.token

name_adds : (party : Party) (seen : List Name) → Yields (Adds name_of party seen) (name_once party seen)
unfolding name_once once
name_adds party seen =
    yields_tested _ (is_none (place_of same_name party.name seen)) (Twice party.name) (seen ++ party.name ∷ []) (λ h. record { lacks = h; is = refl })

token_adds : (party : Party) (seen : List Name) → Yields (Adds token_of party seen) (token_once party seen)
unfolding token_once
token_adds party seen =
    yields_tested _ (is_none (place_of same_name party.token seen)) (Twice party.name) (seen ++ party.token ∷ []) (λ h. record { lacks = h; is = refl })

abbrev BothApart : List Party → Type 0
BothApart parties = Apart (map name_of parties) × Apart (map token_of parties)

parties_apart : (parties : List Party) → Yields (λ _. BothApart parties) (parties_once parties)
unfolding parties_once party_names_once party_tokens_once
parties_apart parties =
    yields_then (λ _. Apart (map name_of parties)) _ (party_names_once parties) _ (each_apart name_of name_once name_adds parties)
    (λ _ names. yields_then (λ _. Apart (map token_of parties)) _ (party_tokens_once parties) _ (each_apart token_of token_once token_adds parties)
    (λ _ tokens. yields_value _ tt (names, tokens)))

office_sound : (t : Members) → Yields SoundOffice (office_form t)
unfolding office_form
office_sound t =
    yields_past _ (known section.Office t) _
    (λ _. yields_then _ _ (number_at section.Office key.Port 1 65535 t) _ (number_within section.Office key.Port 1 65535 t)
    (λ port p. yields_then _ _ (number_at section.Office key.Workers 1 16 t) _ (number_within section.Office key.Workers 1 16 t)
    (λ workers w. yields_then _ _ (number_at section.Office key.AppealDays 1 365 t) _ (number_within section.Office key.AppealDays 1 365 t)
    (λ appeal_days d. yields_then _ _ (tables_at section.Office key.Party 4096 t) _ (tables_few section.Office key.Party 4096 t)
    (λ tables few. yields_then (λ r. ((length r.0 ≡ length tables) × Unit {0}) × All SoundParty r.0) _ (parties_of tables) _
    (record { at = λ r e. ((parties_counted tables).at r e, (parties_sound tables).at r e) })
    (λ parties many. yields_then (λ _. BothApart parties.0) _ (parties_once parties.0) _ (parties_apart parties.0)
    (λ _ apart. yields_value _ _ (record {
      some_port = p.0;
      port_within = p.1;
      one_worker = w.0;
      few_workers = w.1;
      one_day = d.0;
      few_days = d.1;
      few_parties = omega (arith, few, many.0.0);
      parties = many.1;
      names_apart = apart.0;
      tokens_apart = apart.1;
    }))))))))

pub sound_office : (t : Members) (d : Office) → run (office_form t) ≡ Ok d → SoundOffice d
sound_office t d e = (office_sound t).at d e

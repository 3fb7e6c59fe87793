-- What was read keeps to the numbers, lengths and spellings of its form.
use Rattle.std.specs.Prelude.{◌≤◌, List, length, map, IsTrue, IfSome}
use Rattle.std.specs.List.{All}
use Rattle.vet_base.specs.Apart.{Apart}
use Rattle.app_machine.specs.Names.{Name}
use Rattle.app_machine.specs.declared.papers.Manifest.{Manifest}
use Rattle.app_machine.specs.declared.papers.Layouts.{Layouts}
use Rattle.app_machine.specs.declared.papers.Declaration.{Declaration}
use Rattle.store_office.specs.Reference.{is_reference}
use Rattle.store_office.specs.declared.party.Party.{Party}
use Rattle.store_office.specs.declared.office.Office.{Office}
use Rattle.form_fields.specs.Spelling.{is_short, is_class, is_token}

-- a package of 1 to 255 bytes, 1 to 16 DEX files, and at most 4,096 components; each class is spelled as one
pub record SoundManifest (manifest : Manifest) : Type 0 where
  pub short_name : IsTrue (is_short manifest.«package»)
  pub one_file : 1 ≤ manifest.dex_files
  pub few_files : manifest.dex_files ≤ 16
  pub application : IfSome manifest.application (λ class. IsTrue (is_class class))
  pub few_components : length manifest.components ≤ 4096
  pub components : All (λ component. IsTrue (is_class component.1)) manifest.components

-- at most 4,096 names, each spelled as a class
pub record SoundNamed (named : List Name) : Type 0 where
  pub few : length named ≤ 4096
  pub classes : All (λ class. IsTrue (is_class class)) named

-- at most 4,096 layouts, each with at most 4,096 clicks of 1 to 255 bytes and 4,096 classes
pub record SoundLayouts (layouts : Layouts) : Type 0 where
  pub few_clicks : length layouts.clicks ≤ 16777216
  pub clicks : All (λ click. IsTrue (is_short click)) layouts.clicks
  pub few_classes : length layouts.classes ≤ 16777216
  pub classes : All (λ class. IsTrue (is_class class)) layouts.classes

-- at most 4,096 pairs of texts of 1 to 255 bytes
pub record SoundDeclaration (declaration : Declaration) : Type 0 where
  pub few_pairs : length declaration.pairs ≤ 4096
  pub pairs : All (λ pair. IsTrue (is_short pair.0) × IsTrue (is_short pair.1)) declaration.pairs

-- a name of 1 to 64 bytes of `A-Z a-z 0-9 . _ -`, and a token of 8 to 128 visible ASCII characters
pub record SoundParty (party : Party) : Type 0 where
  pub name : IsTrue (is_reference party.name)
  pub token : IsTrue (is_token party.token)

-- a port from 1 to 65535, 1 to 16 workers, 1 to 365 days, and at most 4,096 parties, no two with one name or one token
pub record SoundOffice (office : Office) : Type 0 where
  pub some_port : 1 ≤ office.port
  pub port_within : office.port ≤ 65535
  pub one_worker : 1 ≤ office.workers
  pub few_workers : office.workers ≤ 16
  pub one_day : 1 ≤ office.appeal_days
  pub few_days : office.appeal_days ≤ 365
  pub few_parties : length office.parties ≤ 4096
  pub parties : All SoundParty office.parties
  pub names_apart : Apart (map (λ party. party.name) office.parties)
  pub tokens_apart : Apart (map (λ party. party.token) office.parties)

-- What the texts of forms say.
use Rattle.std.specs.Prelude.{ℕ, List}
use Rattle.app_machine.specs.SoundLists.{SoundLists}
use Rattle.form_fields.specs.Form.{IsForm}
use Rattle.office_forms.specs.declared.manifest.AppManifest.{AppManifest}
use Rattle.office_forms.specs.Manifest.{manifest_form}
use Rattle.office_forms.specs.Sound.{SoundManifest}
use Rattle.store_lists.specs.declared.lists.StoreLists.{StoreLists}
use Rattle.store_lists.specs.Lists.{lists_form}
use Rattle.form_texts.specs.declared.said.SaidLists.{SaidLists}
use Rattle.form_texts.specs.declared.said.SaidManifest.{SaidManifest}

-- what is kept, as its form says it
abbrev pub manifest_of : SaidManifest → AppManifest
manifest_of said = record { manifest = said.manifest; named = said.named }

abbrev pub lists_of : SaidLists → StoreLists
lists_of said = record { lists = said.lists; device = said.device; large = said.large }

-- the text is a manifest that says this
pub record SaysManifest (text : List ℕ) (said : SaidManifest) : Type 0 where
  pub form : IsForm manifest_form text (manifest_of said)
  pub sound : SoundManifest said.manifest

-- the text is of the form of lists, and says this
pub record SaysLists (text : List ℕ) (said : SaidLists) : Type 0 where
  pub form : IsForm lists_form text (lists_of said)
  pub sound : SoundLists said.lists

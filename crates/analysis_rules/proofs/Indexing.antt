-- Indexes that are made of one app and its lists are those of one app.
use Rattle.std.proofs.Common.{◌≡◌, Option, sym, subst, ◌∙◌}
use Rattle.analysis_rules.specs.declared.indexes.AppIndexes.{AppIndexes}
use Rattle.analysis_rules.specs.Indexed.{AreIndexes, AreRead}
use Rattle.app_machine.specs.declared.app.App.{App}
use Rattle.app_machine.specs.declared.lists.Lists.{Lists}
use Rattle.app_machine.specs.Sound.{SoundApp}
use Rattle.app_machine.specs.SoundLists.{SoundLists}

pub are_indexes : (app : App) (lists : Lists) (indexes : AppIndexes) → SoundApp app → SoundLists lists → indexes.app ≡ app → indexes.lists ≡ lists →
    indexes.events.0 ≡ app → indexes.events.1 ≡ lists → AreRead app indexes.readers → AreIndexes indexes
are_indexes app lists indexes sound sound_lists is_app is_lists event_app event_lists read = record {
  sound_app = subst SoundApp (sym is_app) sound;
  sound_lists = subst SoundLists (sym is_lists) sound_lists;
  same_app = event_app ∙ sym is_app;
  same_lists = event_lists ∙ sym is_lists;
  read = subst (λ a. AreRead a indexes.readers) (sym is_app) read;
}

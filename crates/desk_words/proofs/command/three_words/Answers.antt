use Rattle.std.proofs.Common.{sym, ◌∙◌}
use Rattle.desk_words.proofs.Forms.{no_folder}
use Rattle.desk_words.proofs.command.three_words.Goals as goal

pub returns-in_err-serving-clause-vetting : goal.returns-in_err-serving-clause-vetting
returns-in_err-serving-clause-vetting c = rw c.from_residual.ensures (sym (no_folder _ _ _ (sym c.is_serve_word.ensures ∙ c.if-is_serve_word.true)))

pub returns-in_ok-serving-clause-vetting : goal.returns-in_ok-serving-clause-vetting
returns-in_ok-serving-clause-vetting c = sym (no_folder _ _ _ (sym c.is_serve_word.ensures ∙ c.if-is_serve_word.true))

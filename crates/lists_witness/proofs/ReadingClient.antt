-- Each reading of a developer's file computes.
use Rattle.std.proofs.Common.{refl}
use Rattle.form_fields.specs.Spelling.{are_visible, is_token, is_visible}
use Rattle.client_form.specs.Form.{at_key, client_form, is_known, known, least_unknown, number_at, text_of, token_at}
use Rattle.lists_witness.specs.ClientFacts.{ClientIsRead}

pub client_is_read : ClientIsRead
unfolding client_form known least_unknown is_known text_of number_at at_key token_at is_token are_visible is_visible
client_is_read = record { is_read = refl; no_client_port = refl; no_space = refl; no_more_tries = refl }

use Rattle.client_http.proofs.OneReading.{one_reading}
use Rattle.client_http.proofs.law.a_submission_is_read_as_one.Goals as goal

pub returns : goal.returns
returns c = one_reading

use Rattle.verdict.proofs.laws.lower_laws.Goals as goal

pub returns : goal.returns
returns c = record { forms = c.one_form_or_fault.ensures; files = c.one_dex_or_fault.ensures; links = c.one_app_or_fault.ensures; flows = c.one_flow.ensures }

use Rattle.std.proofs.Common.{inr}
use Rattle.dex_code.proofs.Whole.{is_code, code_answered, fault_answered, first_fault}
use Rattle.dex_code.proofs.Standing.{ascend}
use Rattle.dex_code.proofs.decoder.decode.Goals as goal

pub returns-in-Ok-clause-ok : goal.returns-in-Ok-clause-ok
returns-in-Ok-clause-ok c = is_code _ _ _ c.in-Ok.ensures.script

pub returns-in-Ok-clause-order : goal.returns-in-Ok-clause-order
returns-in-Ok-clause-order c = ascend _ _ 0 _ (is_code _ _ _ c.in-Ok.ensures.script).lines

pub returns-in-Ok-clause-code : goal.returns-in-Ok-clause-code
returns-in-Ok-clause-code c = code_answered _ _ _ c.in-Ok.ensures.script

pub returns-in-Ok-clause-first : goal.returns-in-Ok-clause-first
returns-in-Ok-clause-first c = fault_answered _ _ _ c.in-Ok.ensures.script

pub returns-in-Err-Fault-clause-fault : goal.returns-in-Err-Fault-clause-fault
returns-in-Err-Fault-clause-fault c = inr (first_fault _ _ _ (rw c.in-Err-Fault.field-0-is at c.in-Err-Fault.ensures.script))

pub returns-in-Err-Fault-clause-code : goal.returns-in-Err-Fault-clause-code
returns-in-Err-Fault-clause-code c = code_answered _ _ _ (rw c.in-Err-Fault.field-0-is at c.in-Err-Fault.ensures.script)

pub returns-in-Err-Fault-clause-first : goal.returns-in-Err-Fault-clause-first
returns-in-Err-Fault-clause-first c = fault_answered _ _ _ (rw c.in-Err-Fault.field-0-is at c.in-Err-Fault.ensures.script)

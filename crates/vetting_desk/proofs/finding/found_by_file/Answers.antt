use Rattle.std.proofs.Common.{◌≡◌, ℕ, List, Some, subst}
use Rattle.vetting_desk.specs.PartsDue.{FileTold}
use Rattle.vetting_desk.proofs.ByFile.{found_read, found_unread, heard_read, heard_unread}
use Rattle.vetting_desk.proofs.finding.found_by_file.Goals as goal

pub returns-in-Ok-clause-finds : goal.returns-in-Ok-clause-finds
returns-in-Ok-clause-finds g c =
    let Holds : List ℕ → Type 0 = λ name. FileTold (g.F.Files.told c.args.files.now) name (λ file. file ≡ Some c.in-Ok.bytes.items) in
    rw c.said.ensures (found_read _ (g.F.Files.told c.args.files.now) _ c.args.parts.now c.in-Ok.bytes.items _ _ c.rechecked.result
    (subst Holds c.as_str.ensures.value c.in-Ok.ensures.answer) c.in-Ok.ensures.limit (rw c.deref.ensures.value at c.rechecked.ensures) c.in-Ok.ensures.told c.in-Ok.ensures.cause)

pub returns-in-Err-clause-finds : goal.returns-in-Err-clause-finds
returns-in-Err-clause-finds g c =
    rw c.unread.ensures (found_unread c.args.path c.as_str.result.now _ _ c.args.parts.now _ _ c.in-Err.fault c.as_str.ensures.value c.in-Err.ensures.answer c.in-Err.ensures.told c.in-Err.ensures.cause)

pub returns-in-Ok-clause-heard : goal.returns-in-Ok-clause-heard
returns-in-Ok-clause-heard g c =
    rw c.said.ensures (heard_read _ c.as_str.result.now c.args.parts.now c.in-Ok.bytes.items _ _ c.rechecked.result
    c.as_str.ensures.value c.in-Ok.ensures.heard c.in-Ok.ensures.limit (rw c.deref.ensures.value at c.rechecked.ensures))

pub returns-in-Err-clause-heard : goal.returns-in-Err-clause-heard
returns-in-Err-clause-heard g c =
    rw c.unread.ensures (heard_unread c.args.path c.as_str.result.now c.args.parts.now _ _ c.in-Err.fault c.as_str.ensures.value c.in-Err.ensures.heard)

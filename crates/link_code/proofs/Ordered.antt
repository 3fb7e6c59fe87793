-- The lines of a method that stands at a place.
use Rattle.std.proofs.Common.{◌≡◌, ℕ, ◌<◌, List, length, get_or}
use Rattle.dex_code.specs.Find.{Ascend}
use Rattle.link_code.specs.declared.coded.Coded.{Coded}
use Rattle.link_code.specs.Methods.{InOrder}
use Rattle.vet_base.proofs.Members.{in_read}

pub order_at : (coded : List Coded) (i : ℕ) (c : Coded) → InOrder coded → i < length coded → c ≡ get_or coded i c → Ascend c.decoded.lines
order_at coded i c all lt e = all.each c (in_read coded i c lt e)

use mathlib.Core.Path.{sym}
use native.Mathlib.Omega.{arith}
use Rattle.meaning.proofs.IpTests.{udp_short, udp_is}
use Rattle.ip.proofs.is_udp.Goals as goal

pub returns-then-s-h : goal.returns-then-s-h
returns-then-s-h c = sym (udp_short _ _ (omega arith))

pub returns : goal.returns
returns c = rw c.be16.ensures.0 (sym (udp_is _ _ (omega arith)))

-- Table 5-2, row after row.
-- from-0000, from-0401, from-5100, from-5101, from-5201, from-5208, from-5300, from-7D00, from-7F00, from-FF00   the class of each range of ports
-- class-barred   the barred ports are one of the classes
use mathlib.Core.Path.{◌≡◌}
use mathlib.Core.Bool.{true}
use Prim.Native.Nat.{ℕ, ◌≤◌}
use native.Mathlib.Omega.{arith}
use borrow.Author.Tests.{le-leb, lt-leb}
use Rattle.packet_spec.specs.Port.{barred, class}
use Rattle.packet_spec.specs.declared.Class.TheVariants.{System, Applications, M, D, Future, Barred}

module _ (p : ℕ) where
  pub from-0000 : p ≤ 0x0400 → class p ≡ System
  unfolding class
  from-0000 hi = simp (le-leb p 0x0400 hi)

  pub from-0401 : 0x0401 ≤ p → p ≤ 0x50FF → class p ≡ Applications
  unfolding class
  from-0401 lo hi = simp (lt-leb p 0x0400 (omega arith), le-leb p 0x50FF hi)

  pub from-5100 : 0x5100 ≤ p → p ≤ 0x5100 → class p ≡ M
  unfolding class
  from-5100 lo hi = simp (lt-leb p 0x0400 (omega arith), lt-leb p 0x50FF (omega arith), le-leb p 0x5100 hi)

  pub from-5101 : 0x5101 ≤ p → p ≤ 0x5200 → class p ≡ System
  unfolding class
  from-5101 lo hi = simp (lt-leb p 0x0400 (omega arith), lt-leb p 0x50FF (omega arith), lt-leb p 0x5100 (omega arith), le-leb p 0x5200 hi)

  pub from-5201 : 0x5201 ≤ p → p ≤ 0x5207 → class p ≡ D
  unfolding class
  from-5201 lo hi =
      rw (lt-leb p 0x0400 (omega arith), lt-leb p 0x50FF (omega arith), lt-leb p 0x5100 (omega arith), lt-leb p 0x5200 (omega arith))
      (simp (le-leb p 0x5207 hi))

  pub from-5208 : 0x5208 ≤ p → p ≤ 0x52FF → class p ≡ System
  unfolding class
  from-5208 lo hi =
      rw (lt-leb p 0x0400 (omega arith), lt-leb p 0x50FF (omega arith), lt-leb p 0x5100 (omega arith), lt-leb p 0x5200 (omega arith))
      (simp (lt-leb p 0x5207 (omega arith), le-leb p 0x52FF hi))

  pub from-5300 : 0x5300 ≤ p → p ≤ 0x7CFF → class p ≡ Future
  unfolding class
  from-5300 lo hi =
      rw (lt-leb p 0x0400 (omega arith), lt-leb p 0x50FF (omega arith), lt-leb p 0x5100 (omega arith), lt-leb p 0x5200 (omega arith))
      (simp (lt-leb p 0x5207 (omega arith), lt-leb p 0x52FF (omega arith), le-leb p 0x7CFF hi))

  pub from-7D00 : 0x7D00 ≤ p → p ≤ 0x7EFF → class p ≡ Barred
  unfolding class
  from-7D00 lo hi =
      rw (lt-leb p 0x0400 (omega arith), lt-leb p 0x50FF (omega arith), lt-leb p 0x5100 (omega arith), lt-leb p 0x5200 (omega arith))
      (simp (lt-leb p 0x5207 (omega arith), lt-leb p 0x52FF (omega arith), lt-leb p 0x7CFF (omega arith), le-leb p 0x7EFF hi))

  pub from-7F00 : 0x7F00 ≤ p → p ≤ 0xFEFF → class p ≡ Future
  unfolding class
  from-7F00 lo hi =
      rw (lt-leb p 0x0400 (omega arith), lt-leb p 0x50FF (omega arith), lt-leb p 0x5100 (omega arith), lt-leb p 0x5200 (omega arith))
      (rw (lt-leb p 0x5207 (omega arith), lt-leb p 0x52FF (omega arith), lt-leb p 0x7CFF (omega arith), lt-leb p 0x7EFF (omega arith))
      (simp (le-leb p 0xFEFF hi)))

  pub from-FF00 : 0xFF00 ≤ p → class p ≡ System
  unfolding class
  from-FF00 lo =
      rw (lt-leb p 0x0400 (omega arith), lt-leb p 0x50FF (omega arith), lt-leb p 0x5100 (omega arith), lt-leb p 0x5200 (omega arith))
      (rw (lt-leb p 0x5207 (omega arith), lt-leb p 0x52FF (omega arith), lt-leb p 0x7CFF (omega arith), lt-leb p 0x7EFF (omega arith))
      (simp (lt-leb p 0xFEFF (omega arith))))

  pub class-barred : 0x7D00 ≤ p → p ≤ 0x7EFF → barred p ≡ true
  class-barred lo hi = simp (le-leb 0x7D00 p lo, le-leb p 0x7EFF hi)

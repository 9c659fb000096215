-- When one place holds a port.
-- holds-is, holds_not   the port that it holds is its own; another one it does not hold
use mathlib.Core.Path.{◌≡◌}
use mathlib.Core.Bool.{true, false}
use mathlib.Core.Logic.{◌≢◌}
use Prim.Native.Nat.{ℕ}
use borrow.Author.Tests.{ne_eqb, eqb-true}
use lib.Dec.{eqb}
use Rattle.base.proofs.Tests.{and_parts, and-false}
use Rattle.ports_spec.specs.declared.Entry.{Entry}
use Rattle.ports_spec.specs.Ports.{holds}

pub holds-is : (port : ℕ) (e : Entry) → holds port e ≡ true → e.port ≡ port
holds-is port e h = eqb-true _ _ (and_parts e.held (eqb e.port port) h).1

pub holds_not : (q : ℕ) (e : Entry) → e.port ≢ q → holds q e ≡ false
holds_not q e n = rw (ne_eqb e.port q n) (and-false e.held)

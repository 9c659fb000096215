-- Every port is inside the range of all: inside-every.
use Prim.Native.Nat.{ℕ, ◌≤◌}
use mathlib.Core.Path.{◌≡◌, refl}
use native.Mathlib.Omega.{arith}
use mathlib.Core.Bool.{true}
use borrow.Author.Tests.{le-leb}
use Rattle.ports_spec.specs.Range.{every_port, inside}

pub inside-every : (port : ℕ) → port ≤ 65535 → inside every_port port ≡ true
inside-every port h = rw (le-leb 0 port (omega arith), le-leb port 65535 h) refl

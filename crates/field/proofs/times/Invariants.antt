-- What is added up and what is left to add are the product.
use Prim.Native.Nat.{◌-◌}
use Rattle.std.proofs.Common.{◌≡◌}
use Rattle.field.specs.Field.{add, shift_add, mul}
use Rattle.field.proofs.times.Given as goal

abbrev pub invariant-loop : goal.invariant-loop
invariant-loop l = add l.sum (shift_add (8 - l.counter) l.x l.y) ≡ mul l.a l.b

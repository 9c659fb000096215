use Rattle.std.proofs.Common.{◌≡◌, refl, Bool, true, false, ◌∙◌, ◌+◌, ◌-◌, ◌≤◌, nat_eq, slice_index_or, arith}
use Rattle.base.specs.Choice.{pick}
use Rattle.packet.proofs.Seeking.{seen_none, seen_more, seen_all, seen-fits}
use Rattle.packet.proofs.search.within.Goals as goal
use mir.Val.{bool_byte}

bit : (b : Bool) → bool_byte b ≡ pick b 1 0
bit true = refl
bit false = refl

one : (b : Bool) → bool_byte b ≤ 1
one true = omega arith
one false = omega arith

pub loop-i-init : goal.loop-i-init
loop-i-init c = seen_none c.args.c c.args.bytes.now c.args.at c.requires

pub overflow_mul-bits : goal.overflow_mul-bits
overflow_mul-bits c = omega (arith, seen-fits (16 - c.loop-i.i) (omega arith) c.loop-i.invariant.0)

pub overflow_add-bits : goal.overflow_add-bits
overflow_add-bits c =
    let same = nat_eq (slice_index_or c.args.bytes.now (c.args.at + (c.loop-i.i - 1)) 0) c.args.c in
    omega (arith, seen-fits (16 - c.loop-i.i) (omega arith) c.loop-i.invariant.0, c.from.ensures, one same)

pub loop-i-preserved : goal.loop-i-preserved
loop-i-preserved c =
    let i = c.loop-i.i in
    seen_more c.args.c c.args.bytes.now c.args.at c.requires i (16 - i) (omega arith) (omega arith) (omega arith) (c.from.ensures ∙ bit _)
    c.loop-i.invariant

pub returns : goal.returns
returns c = seen_all c.args.c c.args.bytes.now c.args.at c.requires c.loop-i.i (omega arith) c.loop-i.invariant

use Rattle.std.proofs.Common.{◌≡◌, ◌≤◌, ◌<◌, arith, rules}
use Rattle.text.proofs.Putting.{put_as}
use Rattle.board_lines.proofs.Pieces.{shown-backslash, shown-low, shown-high, shown-plain}
use Rattle.board_lines.proofs.put_shown.Goals as goal
use Rattle.board_lines.proofs.put_shown.Goals.{in_default-via-then-b-lt32, in_default-via-else-b-lt32+else-b-lt127}

pub returns-in-92 : goal.returns-in-92
returns-in-92 c = put_as c.put_text.ensures (shown-backslash _ c.in-92.is)

pub returns-in-32-to-126 : goal.returns-in-32-to-126
returns-in-32-to-126 c =
    let b = c.args.b in
    let n : b ≡ 92 → ⊥ = search rules in
    let h : 32 ≤ b = omega arith in
    let k : b ≤ 126 = omega arith in
    put_as c.put_text-in-32-to-126.ensures (shown-plain b n h k)

pub returns-in_default : goal.returns-in_default
returns-in_default c =
    let b = c.args.b in
    elim c.in_default.branch [
      | in_default-via-then-b-lt32 w ↦
          let n : b ≡ 92 → ⊥ = search rules in
          let h : b < 32 = omega arith in
          put_as c.put_numbered.ensures (shown-low b n h)
      | in_default-via-else-b-lt32+else-b-lt127 w ↦
          let n : b ≡ 92 → ⊥ = search rules in
          let h : 32 ≤ b = omega arith in
          let k : 126 < b = omega arith in
          put_as c.put_numbered.ensures (shown-high b n h k)
    ]

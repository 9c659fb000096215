-- `sheet::Sheet::print` meets its contract.
use Rattle.std.proofs.Common.{sym}
use Rattle.std.proofs.Common.{get_or}
use Rattle.std.proofs.Math.Seq.{get_or-take}
use Rattle.sheet_spec.specs.Rows.{blank}
use Rattle.sheet.proofs.Ways.{print-beyond, print-line, print-past}
use Rattle.sheet.proofs.Sheet.print.Goals as goal

pub returns-then-self-gt-PORTS : goal.returns-then-self-gt-PORTS
returns-then-self-gt-PORTS c = print-beyond _ _ _ c.if-self-gt-PORTS.true

pub returns-then-i-self : goal.returns-then-i-self
returns-then-i-self c =
    print-line _ _ _ c.if-self-gt-PORTS.false c.if-i-self.true {r = get_or c.args.self.rows c.args.i (blank 0)}
    (sym (get_or-take c.args.self.ports c.args.self.rows c.args.i (blank 0) c.if-i-self.true)) c.print_row.ensures

pub returns : goal.returns
returns c = print-past _ _ _ c.if-self-gt-PORTS.false c.if-i-self.false

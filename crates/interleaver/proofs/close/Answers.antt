-- `interleaver::close` meets its contract: what the check leaves open.
use Rattle.std.proofs.Common.{◌∙◌}
use Rattle.interleaver_spec.proofs.Calling.{closes}
use Rattle.interleaver.proofs.close.Goals as goal

pub returns : goal.returns
returns c =
    let n = c.closing_bytes in
    c.push.ensures ∙ closes c.args.depth c.args.matrix c.args.out.now _ n.ensures.0 n.ensures.1

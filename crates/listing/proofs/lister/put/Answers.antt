-- The output has room for any line, so that it is written.
use Rattle.std.proofs.Common.{◌∙◌}
use Rattle.listing.proofs.Counting.{put_is}
use Rattle.listing.proofs.lister.put.Goals as goal

pub returns : goal.returns
returns c =
    let h = put_is c.args.answer c.args.out.now c.print.result c.requires c.print.ensures in
    (c.unwrap_or.ensures ∙ h.0, h.1)

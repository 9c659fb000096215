-- `lanes::unlaid` meets its contract.
use Rattle.std.proofs.Common.{◌∙◌}
use Rattle.lanes.proofs.Laid.{be-bytes}
use Rattle.lanes.proofs.Eights.{four-stored}
use Rattle.lanes.proofs.unlaid.Goals as goal

pub returns : goal.returns
returns c =
    let l = c.args.l in
    four-stored l (c.copy_from_slice.ensures.after ∙ c.to_be_bytes.ensures ∙ be-bytes l.a)
    (c.copy_from_slice-2.ensures.after ∙ c.to_be_bytes-2.ensures ∙ be-bytes l.b)
    (c.copy_from_slice-3.ensures.after ∙ c.to_be_bytes-3.ensures ∙ be-bytes l.c)
    (c.copy_from_slice-4.ensures.after ∙ c.to_be_bytes-4.ensures ∙ be-bytes l.d)

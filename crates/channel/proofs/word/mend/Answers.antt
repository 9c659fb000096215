-- `channel::word::mend` meets its contract: by what repair finds, or refused.
use Rattle.std.proofs.Common.{ap, ◌∙◌, rules}
use Rattle.base.proofs.Bytes.{bytes_of}
use Rattle.repair.specs.Mended.{as_mended}
use Rattle.channel.proofs.Checks.{told-mended}
use Rattle.channel.proofs.word.mend.Goals as goal

pub returns-in-Ok : goal.returns-in-Ok
returns-in-Ok c =
    let told = told-mended c.args.word.now c.requires (bytes_of c.args.word.now (λ i. search rules)) c.repair.ensures (ap as_mended c.in-Ok.is) in
    (c.from.ensures ∙ told.0, told.1)

pub returns-in-Err : goal.returns-in-Err
returns-in-Err c =
    told-mended c.args.word.now c.requires (bytes_of c.args.word.now (λ i. search rules)) c.repair.ensures (ap as_mended c.in-Err.is)

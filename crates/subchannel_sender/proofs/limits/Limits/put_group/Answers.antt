-- `Limits::put_group` meets its contract.
use Rattle.std.proofs.Common.{ap, ◌++◌, drop}
use Rattle.subchannel_sender.proofs.Storing.{group-put}
use Rattle.subchannel_sender.proofs.limits.Limits.put_group.Goals as goal

pub returns : goal.returns
returns c =
    let a = c.args in
    group-put a.self.depth a.matrix a.group.now a.out.now a.self.rows c.requires.0 c.requires.1 c.requires.2
    (ap (λ x. x ++ drop 4 a.out.now) c.copy_from_slice.ensures.after) c.push-pushed.ensures

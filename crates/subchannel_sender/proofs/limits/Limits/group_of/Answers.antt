-- `Limits::group_of` meets its contract.
use Rattle.std.proofs.Common.{refl, ap, ◌∙◌, min, length}
use Rattle.subchannel_sender.proofs.Storing.{words-first, words-next, words-done}
use Rattle.subchannel_sender.proofs.limits.Limits.group_of.Goals as goal

pub loop-i-init : goal.loop-i-init
loop-i-init c = let a = c.args in words-first a.self.parity a.self.roots a.stream.now _ refl

pub loop-i-preserved : goal.loop-i-preserved
loop-i-preserved c =
    let l = c.loop-i in
    let a = c.args in
    words-next a.self.parity a.self.roots a.stream.now l.rest.now l.group l.i _ l.invariant c.loop-i-test.true
    (c.min.ensures ∙ ap (λ m. min (length l.rest.now) m) c.message.ensures) c.put_word.ensures

pub returns : goal.returns
returns c = let l = c.loop-i in words-done c.args.self.parity c.args.stream.now l.rest.now l.group l.i l.invariant c.loop-i-test.false

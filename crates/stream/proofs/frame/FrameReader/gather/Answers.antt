use Rattle.std.proofs.Common.{sym, ap, ◌∙◌, Bool, List, ℕ, ◌+◌, length}
use Rattle.std.proofs.lemmas.Bool.{not-false}
use Rattle.base.proofs.Parts.{tail-is}
use Rattle.stream.specs.Private.{before, gathered_by}
use Rattle.stream.proofs.Runs.{gather-found, gather_none}
use Rattle.stream.proofs.frame.FrameReader.gather.Goals as goal

pub returns-then-k-n : goal.returns-then-k-n
returns-then-k-n c =
    let a = c.args in
    let g = gather-found a.self.raw a.bytes.now a.recv.now _ _ c.min-at.ensures c.min-n.ensures c.store-k.ensures.0 c.if-k-n.true
    c.store-k.ensures.1 in
    (g.0, g.1 ∙ ap (λ (b : Bool). gathered_by b a.self.raw (before a.bytes.now) a.recv.now) (sym (not-false a.self.opened c.if-not-self.false)))

pub returns : goal.returns
returns c =
    let a = c.args in
    let n = c.min-n.result in
    let behind = ap (λ (m : ℕ). n + m) (c.up_to-2.ensures.0 ∙ ap (λ (x : List ℕ). length (before x)) (tail-is n a.bytes.now)) in
    let g = gather_none a.self.raw a.bytes.now a.recv.now _ _ c.min-at.ensures c.min-n.ensures c.store-k.ensures.0 c.if-k-n.false
    c.store-k.ensures.1 behind in
    (g.0, g.1 ∙ ap (λ (b : Bool). gathered_by b a.self.raw (before a.bytes.now) a.recv.now) (sym (not-false a.self.opened c.if-not-self.false)))

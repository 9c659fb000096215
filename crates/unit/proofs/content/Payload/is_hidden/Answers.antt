-- `unit::content::Payload::is_hidden` meets its contract: what the check leaves open.
use Rattle.std.proofs.Common.{sym, ◌∙◌, arith}
use borrow.Author.Tests.{eqb-true, eqb-false}
use Rattle.unit.proofs.Filling.{zeros-all, hidden-none, hidden-not, hidden-zeros}
use Rattle.unit.proofs.content.Payload.is_hidden.Goals as goal

pub returns-then-is_empty : goal.returns-then-is_empty
returns-then-is_empty c = let p = c.args.self.now in
    hidden-none p.delimiter p.opportunistic.now _ (eqb-true _ _ (sym c.is_empty.ensures ∙ c.if-is_empty.true))

pub returns-then-self : goal.returns-then-self
returns-then-self c = let p = c.args.self.now in
    hidden-not p.length p.delimiter p.audio.now p.opportunistic.now p.fixed.now (omega arith) p.room
    (eqb-false _ _ (sym c.is_empty.ensures ∙ c.if-is_empty.false)) c.if-self.true

pub returns : goal.returns
returns c = let p = c.args.self.now in
    c.eq.ensures ∙ zeros-all p.delimiter (omega arith)
    ∙ hidden-zeros p.length p.delimiter p.audio.now p.opportunistic.now p.fixed.now (omega arith) p.room
    (eqb-false _ _ (sym c.is_empty.ensures ∙ c.if-is_empty.false)) c.if-self.false

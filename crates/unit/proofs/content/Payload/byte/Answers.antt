-- `unit::content::Payload::byte` meets its contract: what the check leaves open, by where the byte stands.
use Rattle.std.proofs.Common.{sym, ◌∙◌, arith}
use borrow.Author.Tests.{eqb-true, eqb-false}
use Rattle.unit.proofs.Contents.{in-audio, in-fixed, in-none, in-opportunistic, in-delimiter, before-delimiter}
use Rattle.unit.proofs.content.Payload.byte.Goals as goal

pub returns-then-j-self : goal.returns-then-j-self
returns-then-j-self c = let p = c.args.self.now in
    in-audio p.length p.delimiter p.audio.now p.opportunistic.now p.fixed.now p.room c.args.j c.if-j-self.true

pub returns-then-end-j : goal.returns-then-end-j
returns-then-end-j c = let p = c.args.self.now in
    c.at.ensures ∙ in-fixed p.length p.delimiter p.audio.now p.opportunistic.now p.fixed.now p.room c.args.j c.if-end-j.true

pub returns-then-is_empty : goal.returns-then-is_empty
returns-then-is_empty c = let p = c.args.self.now in
    in-none p.length p.delimiter p.audio.now p.opportunistic.now p.fixed.now p.room c.args.j c.if-end-j.false c.if-j-self.false
    (eqb-true _ _ (sym c.is_empty.ensures ∙ c.if-is_empty.true))

pub returns-then-begin-j : goal.returns-then-begin-j
returns-then-begin-j c = let p = c.args.self.now in
    in-opportunistic p.length p.delimiter p.audio.now p.opportunistic.now p.fixed.now p.room c.args.j c.if-end-j.false
    (eqb-false _ _ (sym c.is_empty.ensures ∙ c.if-is_empty.false)) c.if-begin-j.true

pub returns-then-begin-j-2 : goal.returns-then-begin-j-2
returns-then-begin-j-2 c = let p = c.args.self.now in
    in-delimiter p.length p.delimiter p.audio.now p.opportunistic.now p.fixed.now p.room c.args.j c.if-end-j.false
    (eqb-false _ _ (sym c.is_empty.ensures ∙ c.if-is_empty.false)) (omega arith) c.if-begin-j.false c.if-begin-j-2.true

pub returns : goal.returns
returns c = let p = c.args.self.now in
    before-delimiter p.length p.delimiter p.audio.now p.opportunistic.now p.fixed.now p.room c.args.j c.if-end-j.false
    (eqb-false _ _ (sym c.is_empty.ensures ∙ c.if-is_empty.false)) (omega arith) c.if-begin-j.false c.if-j-self.false c.if-begin-j-2.false

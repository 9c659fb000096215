-- `channel::receiver::Receiver::fill` meets its contract, by the law of a word's bytes.
use Rattle.channel.proofs.Ways.{fill-copied, fill_more, fill-same, fill-whole}
use Rattle.channel.proofs.receiver.Receiver.fill.Goals as goal

pub returns-then-count-lt-WORD : goal.returns-then-count-lt-WORD
returns-then-count-lt-WORD c =
    let a = c.args in
    let q = c.requires in
    let e = fill-copied a.self a.word.now a.piece.now a.at q.1 q.2 q.3 c.min-n.ensures c.copy.ensures in
    fill_more a.self a.word.now a.piece.now a.at q.0 q.1 q.2 q.3 c.min-n.ensures e c.if-count-lt-WORD.true

pub settle-condition-requires-clause-piece_value : goal.settle-condition-requires-clause-piece_value
settle-condition-requires-clause-piece_value c =
    let a = c.args in
    let q = c.requires in
    let e = fill-copied a.self a.word.now a.piece.now a.at q.1 q.2 q.3 c.min-n.ensures c.copy.ensures in
    fill-same a.self a.word.now a.piece.now a.at q.0 q.1 q.2 q.3 c.min-n.ensures e c.if-count-lt-WORD.false

pub returns : goal.returns
returns c =
    let a = c.args in
    let q = c.requires in
    let e = fill-copied a.self a.word.now a.piece.now a.at q.1 q.2 q.3 c.min-n.ensures c.copy.ensures in
    fill-whole a.self a.word.now a.piece.now a.at q.0 q.1 q.2 q.3 c.min-n.ensures e c.if-count-lt-WORD.false
    c.settle-condition.ensures c.whole.ensures

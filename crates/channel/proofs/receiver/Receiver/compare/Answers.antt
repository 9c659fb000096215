-- `channel::receiver::Receiver::compare` meets its contract, by the law of marker bytes.
use Rattle.channel.proofs.Ways.{compare-more, compare-again, compare-lost}
use Rattle.channel.proofs.receiver.Receiver.compare.Goals as goal

pub returns-then-marker-lt4 : goal.returns-then-marker-lt4
returns-then-marker-lt4 c =
    let q = c.requires in
    compare-more c.args.self c.args.piece.now q.0 q.1 q.2 q.3 c.min-taken.ensures c.shifted-hunting.ensures c.if-marker-lt4.true

pub returns-then-at_marker : goal.returns-then-at_marker
returns-then-at_marker c =
    let q = c.requires in
    compare-again c.args.self c.args.piece.now q.0 q.1 q.2 q.3 c.min-taken.ensures c.shifted-hunting.ensures c.if-marker-lt4.false
    c.at_marker.ensures c.if-at_marker.true c.locked_at.ensures

pub returns : goal.returns
returns c =
    let q = c.requires in
    compare-lost c.args.self c.args.piece.now q.0 q.1 q.2 q.3 c.min-taken.ensures c.shifted-hunting.ensures c.if-marker-lt4.false
    c.at_marker.ensures c.if-at_marker.false c.lost_at.ensures

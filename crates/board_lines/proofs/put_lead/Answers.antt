use Rattle.board_lines.proofs.Pieces.{lead-restricted, lead-own}
use Rattle.board_lines.proofs.put_lead.Goals as goal

pub returns-then-delivery-eq-KEY_FORMAT : goal.returns-then-delivery-eq-KEY_FORMAT
returns-then-delivery-eq-KEY_FORMAT c =
    lead-restricted c.args.noted c.args.delivery c.if-delivery-eq-KEY_FORMAT.true c.put_ahead-a.ensures c.put_restricted.ensures

pub returns : goal.returns
returns c = lead-own c.args.noted c.args.delivery c.if-delivery-eq-KEY_FORMAT.false c.put_ahead-a.ensures c.put_own.ensures

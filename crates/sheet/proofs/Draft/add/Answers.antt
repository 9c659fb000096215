-- `sheet::Draft::add` meets its contract.
use Rattle.std.proofs.Common.{sym, ◌∙◌, arith}
use Rattle.sheet.proofs.Ways.{note-beyond, note-full, note-puts, note-wide, note-put, room_of, own-bound, long}
use Rattle.sheet.proofs.Draft.add.Goals as goal

pub returns-then-n-gt-PORTS : goal.returns-then-n-gt-PORTS
returns-then-n-gt-PORTS c = note-beyond _ _ _ c.if-n-gt-PORTS.true

pub returns-then-n-eq-PORTS : goal.returns-then-n-eq-PORTS
returns-then-n-eq-PORTS c =
    note-full _ _ _ c.if-n-gt-PORTS.false (long c.args.self.after (omega arith) c.if-n-gt-PORTS.false) c.find-found.ensures
    (sym c.is_err.ensures.value ∙ c.if-is_err.true) c.if-n-eq-PORTS.true

pub row_at-requires-clause-bound : goal.row_at-requires-clause-bound
row_at-requires-clause-bound c = own-bound _ _ _ c.find-found.ensures

pub with-requires : goal.with-requires
with-requires c = record {
  few = c.if-n-gt-PORTS.false;
  fits = note-puts c.args.self c.args.port c.args.sequence c.if-n-gt-PORTS.false
      (long c.args.self.after (omega arith) c.if-n-gt-PORTS.false) c.find-found.ensures
      (room_of _ _ c.is_err.ensures.value c.else-is_err.either);
}

pub returns-in-Some : goal.returns-in-Some
returns-in-Some c =
    note-put _ _ _ c.if-n-gt-PORTS.false (long c.args.self.after (omega arith) c.if-n-gt-PORTS.false) c.find-found.ensures
    (room_of _ _ c.is_err.ensures.value c.else-is_err.either) c.row_at.ensures c.heard_row.ensures c.in-Some.is c.with.ensures

pub returns-in-None : goal.returns-in-None
returns-in-None c =
    note-wide _ _ _ c.if-n-gt-PORTS.false (long c.args.self.after (omega arith) c.if-n-gt-PORTS.false) c.find-found.ensures
    (room_of _ _ c.is_err.ensures.value c.else-is_err.either) c.row_at.ensures c.heard_row.ensures c.in-None.is

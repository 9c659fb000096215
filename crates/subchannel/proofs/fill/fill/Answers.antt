-- `subchannel::fill::fill` meets its contract.
use Rattle.std.proofs.Common.{refl, sym, subst, ◌+◌, get_or}
use Rattle.subchannel.proofs.Filling.{Runs, runs-next, runs-bring, runs-same, runs_last, turned-placed}
use Rattle.subchannel.proofs.fill.fill.Goals as goal
use Rattle.subchannel.proofs.fill.fill.Goals.{in-Some, in_default}

pub loop-k-preserved : goal.loop-k-preserved
loop-k-preserved c =
    let l = c.loop-k in
    let a = c.args in
    let t = c.turn in
    let h = c.loop-k-test.true in
    let i = l.invariant in record {
      runs = elim c.match-turn.branch [
        | in-Some w ↦
            subst
            (λ x. Runs a.n a.from a.lane.settings.depth a.lane.counts.word a.piece.now a.back.now a.word.now (l.k + 1) t.new.back x)
            (sym w.word-is) (runs-next i.runs h i.same t.ensures.0 t.ensures.1 c.requires.4 w.in-Some.is)
        | in_default w ↦ absurd (runs-bring i.runs h i.same t.ensures.0 t.ensures.1 a.lane c.requires.0 refl w.in_default.is)
      ];
      same = runs-same i.runs h i.same t.ensures.0 t.ensures.1 a.lane c.requires.0 refl;
      placed = turned-placed a.lane.settings.depth l.back (get_or a.piece.now (a.from + l.k) 0) t.ensures.1 i.placed;
    }

pub returns : goal.returns
returns c = let l = c.loop-k in runs_last l.invariant.runs c.loop-k-test.false l.auto.k-end c.args.lane c.requires.0 refl refl

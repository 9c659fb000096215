-- `unit::reader::read` meets its contract: each way by what was found on it (Reading).
use Rattle.std.proofs.Common.{◌≡◌, Some, sym, ◌∙◌, ap, arith, rules}
use Rattle.unit.specs.Private.{code}
use Rattle.unit.proofs.Hearing.{payload-low, code-one}
use Rattle.unit.proofs.Reading.{fit-of, whole, nameless, headed, is-told, parted, sought-of}
use Rattle.unit.proofs.Reading.{not-a-unit, is-low, too_short, heads-told, not-told, no-audio, no-fixed}
use Rattle.unit.proofs.Reading.{plainly, marked-room, unmarked, marked}
use Rattle.unit.proofs.reader.read.Goals.{then-unfit-via-then-unfit, then-unfit-via-else-unfit+then-unit-lent}
use Rattle.unit.proofs.reader.read.Goals.{then-n-audio-via-then-n-audio, then-n-audio-via-else-n-audio+then-n-audio-2}
use Rattle.unit.proofs.reader.read.Goals as goal

pub lent-requires : goal.lent-requires
lent-requires c = let a = c.args in
    is-low (fit-of {d = a.delimiter} {a = a.audio} {f = a.fixed} {u = a.unit.now} {out = a.out.now} c.unfit.ensures c.if-unfit.false)

pub returns-then-unfit : goal.returns-then-unfit
returns-then-unfit c =
    elim c.then-unfit.branch [
      | then-unfit-via-then-unfit w ↦ not-a-unit _ _ _ _ _ _ c.unfit.ensures w.if-unfit.true
      | then-unfit-via-else-unfit+then-unit-lent w ↦ too_short (fit-of c.unfit.ensures w.if-unfit.false) w.lent.ensures.0 w.if-unit-lent.true
    ]

pub invariant_of-unit : goal.invariant_of-unit
invariant_of-unit c = let h = sym c.unfit.ensures ∙ c.if-unfit.false in record {
  fit = h;
  whole = omega arith;
  low = payload-low c.args.size h;
}

pub named-requires : goal.named-requires
named-requires c = heads-told c.args.size c.heads.ensures

pub returns-in_default : goal.returns-in_default
returns-in_default c =
    let w = whole (fit-of c.unfit.ensures c.if-unfit.false) c.lent.ensures.0 c.if-unit-lent.false in
    nameless w c.heads.ensures c.header.ensures c.named.ensures c.in_default.is

pub returns-then-ne : goal.returns-then-ne
returns-then-ne c =
    let n : c.sequence.result ≡ Some c.in-Some.header → ⊥ = search rules in
    let w = whole (fit-of c.unfit.ensures c.if-unfit.false) c.lent.ensures.0 c.if-unit-lent.false in
    let k = headed w c.heads.ensures c.header.ensures c.in-Some.ensures in
    not-told k c.announced-mark.ensures c.sequence.ensures (λ e. n (code-one _ _ e))

pub returns-then-n-audio : goal.returns-then-n-audio
returns-then-n-audio c =
    let e : c.sequence.result ≡ Some c.in-Some.header = search rules in
    let w = whole (fit-of c.unfit.ensures c.if-unfit.false) c.lent.ensures.0 c.if-unit-lent.false in
    let k = headed w c.heads.ensures c.header.ensures c.in-Some.ensures in
    let t = is-told k c.announced-mark.ensures c.sequence.ensures (ap code e) in
    elim c.then-n-audio.branch [
      | then-n-audio-via-then-n-audio v ↦ no-audio t c.payload-n.ensures v.if-n-audio.true
      | then-n-audio-via-else-n-audio+then-n-audio-2 v ↦ no-fixed t c.payload-n.ensures v.if-n-audio.false v.if-n-audio-2.true
    ]

pub returns-then-mark-eq0 : goal.returns-then-mark-eq0
returns-then-mark-eq0 c =
    let e : c.sequence.result ≡ Some c.in-Some.header = search rules in
    let w = whole (fit-of c.unfit.ensures c.if-unfit.false) c.lent.ensures.0 c.if-unit-lent.false in
    let k = headed w c.heads.ensures c.header.ensures c.in-Some.ensures in
    let t = is-told k c.announced-mark.ensures c.sequence.ensures (ap code e) in
    plainly (parted t c.payload-n.ensures c.if-n-audio.false c.if-n-audio-2.false) c.if-mark-eq0.true c.deliver.ensures

pub returns-then-o-eq0 : goal.returns-then-o-eq0
returns-then-o-eq0 c =
    let e : c.sequence.result ≡ Some c.in-Some.header = search rules in
    let w = whole (fit-of c.unfit.ensures c.if-unfit.false) c.lent.ensures.0 c.if-unit-lent.false in
    let k = headed w c.heads.ensures c.header.ensures c.in-Some.ensures in
    let t = is-told k c.announced-mark.ensures c.sequence.ensures (ap code e) in
    let p = parted t c.payload-n.ensures c.if-n-audio.false c.if-n-audio-2.false in
    unmarked (sought-of p c.if-mark-eq0.false c.find-o.ensures) c.if-o-eq0.true

pub deliver-requires-2 : goal.deliver-requires-2
deliver-requires-2 c =
    let e : c.sequence.result ≡ Some c.in-Some.header = search rules in
    let w = whole (fit-of {d = c.args.delimiter} {out = c.args.out.now} c.unfit.ensures c.if-unfit.false) c.lent.ensures.0 c.if-unit-lent.false in
    let k = headed w c.heads.ensures c.header.ensures c.in-Some.ensures in
    let t = is-told k c.announced-mark.ensures c.sequence.ensures (ap code e) in
    let p = parted t c.payload-n.ensures c.if-n-audio.false c.if-n-audio-2.false in
    marked-room (sought-of p c.if-mark-eq0.false c.find-o.ensures)

pub returns : goal.returns
returns c =
    let e : c.sequence.result ≡ Some c.in-Some.header = search rules in
    let w = whole (fit-of c.unfit.ensures c.if-unfit.false) c.lent.ensures.0 c.if-unit-lent.false in
    let k = headed w c.heads.ensures c.header.ensures c.in-Some.ensures in
    let t = is-told k c.announced-mark.ensures c.sequence.ensures (ap code e) in
    let p = parted t c.payload-n.ensures c.if-n-audio.false c.if-n-audio-2.false in
    marked (sought-of p c.if-mark-eq0.false c.find-o.ensures) c.if-o-eq0.false c.deliver-2.ensures

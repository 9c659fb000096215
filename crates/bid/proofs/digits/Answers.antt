use Rattle.std.proofs.Common.{◌≡◌, sym, ap, ◌∙◌, ◌+◌, ◌-◌, ◌*◌, ◌≤◌, ℕ, drop, slice_index_or, arith}
use Rattle.bid.specs.Line.{no_number, number_from}
use Rattle.bid.specs.Private.{as_number}
use Rattle.bid.proofs.Decimal.{digit-no, digit-yes, digits-over, digits-end}
use Rattle.bid.proofs.digits.Goals as goal

pub returns-then-not-is_ascii_digit : goal.returns-then-not-is_ascii_digit
returns-then-not-is_ascii_digit c =
    sym (c.loop-b.invariant.whole ∙ digit-no c.loop-b.n c.args.word.now c.loop-b.b-index c.loop-b-test.true
    (sym c.is_ascii_digit.ensures.value ∙ c.if-not-is_ascii_digit.true))

pub returns-in_err-checked_mul : goal.returns-in_err-checked_mul
returns-in_err-checked_mul c =
    let b = slice_index_or c.args.word.now c.loop-b.b-index 0 in
    let over : no_number ≤ c.loop-b.n * 10 + (b - 48) = omega (arith, c.in_err-checked_mul.ensures) in
    ap as_number c.from_residual.ensures
    ∙ sym (c.loop-b.invariant.whole ∙ digit-yes c.loop-b.n c.args.word.now c.loop-b.b-index c.loop-b-test.true
    (sym c.is_ascii_digit.ensures.value ∙ c.if-not-is_ascii_digit.false) ∙ digits-over _ _ over)

pub returns-in_err-n : goal.returns-in_err-n
returns-in_err-n c =
    let b = slice_index_or c.args.word.now c.loop-b.b-index 0 in
    let over : no_number ≤ c.loop-b.n * 10 + (b - 48) = omega (arith, c.in_err-n.ensures, c.in_ok-checked_mul.ensures, c.from.ensures) in
    ap as_number c.from_residual-in_err-n.ensures
    ∙ sym (c.loop-b.invariant.whole ∙ digit-yes c.loop-b.n c.args.word.now c.loop-b.b-index c.loop-b-test.true
    (sym c.is_ascii_digit.ensures.value ∙ c.if-not-is_ascii_digit.false) ∙ digits-over _ _ over)

pub loop-b-preserved : goal.loop-b-preserved
loop-b-preserved c =
    let b = slice_index_or c.args.word.now c.loop-b.b-index 0 in
    let is : c.loop-b.n * 10 + (b - 48) ≡ c.in_ok-n.n = omega (arith, c.in_ok-n.ensures, c.in_ok-checked_mul.ensures, c.from.ensures) in
    record {
      small = omega (arith, c.in_ok-n.ensures);
      whole = c.loop-b.invariant.whole
          ∙ digit-yes c.loop-b.n c.args.word.now c.loop-b.b-index c.loop-b-test.true (sym c.is_ascii_digit.ensures.value ∙ c.if-not-is_ascii_digit.false)
          ∙ ap (λ (n : ℕ). number_from n (drop (c.loop-b.b-index + 1) c.args.word.now)) is;
    }

pub returns : goal.returns
returns c = sym (c.loop-b.invariant.whole ∙ digits-end _ _ _ c.loop-b-test.false c.loop-b.invariant.small)

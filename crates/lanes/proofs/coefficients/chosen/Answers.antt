-- `lanes::coefficients::chosen` meets its contract: each arm is a member of the list of sums.
use Rattle.std.proofs.Common.{◌≡◌, arith}
use Rattle.lanes.proofs.Bits.{sum_is}
use Rattle.lanes.proofs.coefficients.chosen.Goals as goal

pub returns-in-0 : goal.returns-in-0
returns-in-0 c = sum_is _ _ _ _ _ _ _ c.next-b.ensures c.next-c.ensures c.next-d.ensures c.next-e.ensures 0 _ (omega arith) c.in-0.is

pub returns-in-1 : goal.returns-in-1
returns-in-1 c = sum_is _ _ _ _ _ _ _ c.next-b.ensures c.next-c.ensures c.next-d.ensures c.next-e.ensures 1 _ (omega arith) c.in-1.is

pub returns-in-2 : goal.returns-in-2
returns-in-2 c = sum_is _ _ _ _ _ _ _ c.next-b.ensures c.next-c.ensures c.next-d.ensures c.next-e.ensures 2 _ (omega arith) c.in-2.is

pub returns-in-3 : goal.returns-in-3
returns-in-3 c = sum_is _ _ _ _ _ _ _ c.next-b.ensures c.next-c.ensures c.next-d.ensures c.next-e.ensures 3 _ (omega arith) c.in-3.is

pub returns-in-4 : goal.returns-in-4
returns-in-4 c = sum_is _ _ _ _ _ _ _ c.next-b.ensures c.next-c.ensures c.next-d.ensures c.next-e.ensures 4 _ (omega arith) c.in-4.is

pub returns-in-5 : goal.returns-in-5
returns-in-5 c = sum_is _ _ _ _ _ _ _ c.next-b.ensures c.next-c.ensures c.next-d.ensures c.next-e.ensures 5 _ (omega arith) c.in-5.is

pub returns-in-6 : goal.returns-in-6
returns-in-6 c = sum_is _ _ _ _ _ _ _ c.next-b.ensures c.next-c.ensures c.next-d.ensures c.next-e.ensures 6 _ (omega arith) c.in-6.is

pub returns-in-7 : goal.returns-in-7
returns-in-7 c = sum_is _ _ _ _ _ _ _ c.next-b.ensures c.next-c.ensures c.next-d.ensures c.next-e.ensures 7 _ (omega arith) c.in-7.is

pub returns-in-8 : goal.returns-in-8
returns-in-8 c = sum_is _ _ _ _ _ _ _ c.next-b.ensures c.next-c.ensures c.next-d.ensures c.next-e.ensures 8 _ (omega arith) c.in-8.is

pub returns-in-9 : goal.returns-in-9
returns-in-9 c = sum_is _ _ _ _ _ _ _ c.next-b.ensures c.next-c.ensures c.next-d.ensures c.next-e.ensures 9 _ (omega arith) c.in-9.is

pub returns-in-10 : goal.returns-in-10
returns-in-10 c = sum_is _ _ _ _ _ _ _ c.next-b.ensures c.next-c.ensures c.next-d.ensures c.next-e.ensures 10 _ (omega arith) c.in-10.is

pub returns-in-11 : goal.returns-in-11
returns-in-11 c = sum_is _ _ _ _ _ _ _ c.next-b.ensures c.next-c.ensures c.next-d.ensures c.next-e.ensures 11 _ (omega arith) c.in-11.is

pub returns-in-12 : goal.returns-in-12
returns-in-12 c = sum_is _ _ _ _ _ _ _ c.next-b.ensures c.next-c.ensures c.next-d.ensures c.next-e.ensures 12 _ (omega arith) c.in-12.is

pub returns-in-13 : goal.returns-in-13
returns-in-13 c = sum_is _ _ _ _ _ _ _ c.next-b.ensures c.next-c.ensures c.next-d.ensures c.next-e.ensures 13 _ (omega arith) c.in-13.is

pub returns-in-14 : goal.returns-in-14
returns-in-14 c = sum_is _ _ _ _ _ _ _ c.next-b.ensures c.next-c.ensures c.next-d.ensures c.next-e.ensures 14 _ (omega arith) c.in-14.is

pub returns-in-15 : goal.returns-in-15
returns-in-15 c = sum_is _ _ _ _ _ _ _ c.next-b.ensures c.next-c.ensures c.next-d.ensures c.next-e.ensures 15 _ (omega arith) c.in-15.is

pub returns-in-16 : goal.returns-in-16
returns-in-16 c = sum_is _ _ _ _ _ _ _ c.next-b.ensures c.next-c.ensures c.next-d.ensures c.next-e.ensures 16 _ (omega arith) c.in-16.is

pub returns-in-17 : goal.returns-in-17
returns-in-17 c = sum_is _ _ _ _ _ _ _ c.next-b.ensures c.next-c.ensures c.next-d.ensures c.next-e.ensures 17 _ (omega arith) c.in-17.is

pub returns-in-18 : goal.returns-in-18
returns-in-18 c = sum_is _ _ _ _ _ _ _ c.next-b.ensures c.next-c.ensures c.next-d.ensures c.next-e.ensures 18 _ (omega arith) c.in-18.is

pub returns-in-19 : goal.returns-in-19
returns-in-19 c = sum_is _ _ _ _ _ _ _ c.next-b.ensures c.next-c.ensures c.next-d.ensures c.next-e.ensures 19 _ (omega arith) c.in-19.is

pub returns-in-20 : goal.returns-in-20
returns-in-20 c = sum_is _ _ _ _ _ _ _ c.next-b.ensures c.next-c.ensures c.next-d.ensures c.next-e.ensures 20 _ (omega arith) c.in-20.is

pub returns-in-21 : goal.returns-in-21
returns-in-21 c = sum_is _ _ _ _ _ _ _ c.next-b.ensures c.next-c.ensures c.next-d.ensures c.next-e.ensures 21 _ (omega arith) c.in-21.is

pub returns-in-22 : goal.returns-in-22
returns-in-22 c = sum_is _ _ _ _ _ _ _ c.next-b.ensures c.next-c.ensures c.next-d.ensures c.next-e.ensures 22 _ (omega arith) c.in-22.is

pub returns-in-23 : goal.returns-in-23
returns-in-23 c = sum_is _ _ _ _ _ _ _ c.next-b.ensures c.next-c.ensures c.next-d.ensures c.next-e.ensures 23 _ (omega arith) c.in-23.is

pub returns-in-24 : goal.returns-in-24
returns-in-24 c = sum_is _ _ _ _ _ _ _ c.next-b.ensures c.next-c.ensures c.next-d.ensures c.next-e.ensures 24 _ (omega arith) c.in-24.is

pub returns-in-25 : goal.returns-in-25
returns-in-25 c = sum_is _ _ _ _ _ _ _ c.next-b.ensures c.next-c.ensures c.next-d.ensures c.next-e.ensures 25 _ (omega arith) c.in-25.is

pub returns-in-26 : goal.returns-in-26
returns-in-26 c = sum_is _ _ _ _ _ _ _ c.next-b.ensures c.next-c.ensures c.next-d.ensures c.next-e.ensures 26 _ (omega arith) c.in-26.is

pub returns-in-27 : goal.returns-in-27
returns-in-27 c = sum_is _ _ _ _ _ _ _ c.next-b.ensures c.next-c.ensures c.next-d.ensures c.next-e.ensures 27 _ (omega arith) c.in-27.is

pub returns-in-28 : goal.returns-in-28
returns-in-28 c = sum_is _ _ _ _ _ _ _ c.next-b.ensures c.next-c.ensures c.next-d.ensures c.next-e.ensures 28 _ (omega arith) c.in-28.is

pub returns-in-29 : goal.returns-in-29
returns-in-29 c = sum_is _ _ _ _ _ _ _ c.next-b.ensures c.next-c.ensures c.next-d.ensures c.next-e.ensures 29 _ (omega arith) c.in-29.is

pub returns-in-30 : goal.returns-in-30
returns-in-30 c = sum_is _ _ _ _ _ _ _ c.next-b.ensures c.next-c.ensures c.next-d.ensures c.next-e.ensures 30 _ (omega arith) c.in-30.is

pub returns-in_default : goal.returns-in_default
returns-in_default c =
    let last : c.args.v ≡ 31 = omega arith in
    sum_is _ _ _ _ _ _ _ c.next-b.ensures c.next-c.ensures c.next-d.ensures c.next-e.ensures 31 _ (omega arith) last

use Rattle.std.proofs.Common.{inl, inr}
use Rattle.board_lines.proofs.Pieces.{same-number, ahead-as, none_ahead, missing-put, unwatched-put}
use Rattle.board_lines.proofs.put_ahead.Goals as goal

pub returns-in-First : goal.returns-in-First
returns-in-First c =
    elim c.in-First.is [
      | inl e ↦ ahead-as _ e (none_ahead _)
      | inr h ↦ elim h [ inl e ↦ ahead-as _ e (none_ahead _) | inr i ↦ elim i [ inl e ↦ ahead-as _ e (none_ahead _) | inr e ↦ ahead-as _ e (none_ahead _) ] ]
    ]

pub returns-in-Missing : goal.returns-in-Missing
returns-in-Missing c =
    ahead-as _ c.in-Missing.is (missing-put _ _ c.put_text-a.ensures
    (same-number _ c.from.ensures c.put_item-b.ensures) (same-number _ c.from-in-Missing.ensures c.put_item.ensures))

pub returns-in-Refused : goal.returns-in-Refused
returns-in-Refused c =
    ahead-as _ c.in-Refused.is (unwatched-put _ c.put_text-a-in-Refused.ensures
    (same-number _ c.from-in-Refused.ensures c.put_item-in-Refused.ensures))

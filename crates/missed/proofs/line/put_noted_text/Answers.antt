-- `missed::line::put_noted_text` meets its contract.
use Rattle.std.proofs.Common.{sym, ap, ◌∙◌}
use Rattle.ports_spec.specs.declared.Noted.TheVariants.{Missing, Refused}
use Rattle.missed_spec.specs.Line.{noted_text}
use Rattle.text.proofs.Putting.{put_then, put-case}
use Rattle.missed.proofs.line.put_noted_text.Goals as goal

pub returns-in-Missing : goal.returns-in-Missing
returns-in-Missing c = put-case noted_text (c.in-Missing.is ∙ ap Missing (sym c.from.ensures)) (put_then c.put_text-a.ensures c.put_item.ensures)

pub returns-in-Refused : goal.returns-in-Refused
returns-in-Refused c =
    put-case noted_text (c.in-Refused.is ∙ ap Refused (sym c.from-in-Refused.ensures)) (put_then c.put_text-a-in-Refused.ensures c.put_item-in-Refused.ensures)

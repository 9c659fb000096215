-- `channel::word::settle` meets its contract: a clean word.
use Rattle.std.proofs.Common.{sym, ◌∙◌}
use Rattle.channel.proofs.Checks.{settled-clean}
use Rattle.channel.proofs.word.settle.Goals as goal

pub returns-then-is_clean_last : goal.returns-then-is_clean_last
returns-then-is_clean_last c =
    settled-clean c.args.word.now c.requires.word_bytes_in_bounds (sym c.if-is_clean_last.true ∙ c.is_clean_last.ensures)

-- `channel::word::is_clean_last` meets its contract where the word is checked in the piece.
use Rattle.std.proofs.Common.{◌≡◌, ◌+◌, ◌-◌, ap, ◌∙◌, take, drop, arith}
use Rattle.word_spec.specs.Word.{clean}
use Rattle.channel_spec.specs.Sender.{parity_bytes, word_bytes}
use Rattle.channel.proofs.word.is_clean_last.Goals as goal

pub returns-then-n-eq-WORD : goal.returns-then-n-eq-WORD
returns-then-n-eq-WORD c =
    let n : c.args.at + word_bytes - c.args.at ≡ word_bytes = omega arith in
    c.is_clean.ensures
    ∙ ap (λ m. clean parity_bytes (take m (drop c.args.at c.args.piece.now))) n
    ∙ ap (clean parity_bytes) (c.requires.piece_value c.if-n-eq-WORD.true)

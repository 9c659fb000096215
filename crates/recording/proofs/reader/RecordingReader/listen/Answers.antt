-- By: is it the channel.
use Rattle.channel.specs.Call.{memory}
use Rattle.recording.proofs.Ears.{listen-on}
use Rattle.recording.proofs.reader.RecordingReader.listen.Goals as goal

pub returns-then-self : goal.returns-then-self
returns-then-self c =
    listen-on c.args.self.channel (memory c.args.self.receiver c.args.recv.now c.args.word.now) c.args.piece.now
    c.if-self.true c.requires.0 c.requires.1 c.hear.ensures

-- The frame reader hears a plain stream.
use Rattle.recording.proofs.Ears.{listen-more, listen-said}
use Rattle.recording.proofs.reader.listen_plain.Goals as goal

pub returns-in-None : goal.returns-in-None
returns-in-None c =
    listen-more c.args.receiver c.args.piece.now c.args.recv.now c.requires.0 c.requires.1 c.read-read.ensures c.in-None.is

pub returns-in-Some : goal.returns-in-Some
returns-in-Some c =
    listen-said c.args.receiver c.args.piece.now c.args.recv.now c.requires.0 c.requires.1 c.read-read.ensures _ c.in-Some.is

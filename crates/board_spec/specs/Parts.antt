-- The same lines as the code writes them: the bytes before a packet's text at once, from what an answer tells of it.
-- lead      before the text: the lines ahead of a packet's own, and its own up to the text; of one for subscribers all of it
-- behind    the text and its line feed
-- remark    the lines of an answer that is no packet
-- own_lead   a packet's own line up to its text
use Rattle.std.specs.Prelude.{ℕ, Bool, List, [], ◌∷◌, ◌++◌, eqb}
use Rattle.base.specs.Choice.{pick}
use Rattle.packet_spec.specs.Contents.{Packet, key_format}
use Rattle.packet_spec.specs.declared.Delivery.{Delivery}
use Rattle.packet_spec.specs.declared.Judged.TheVariants.{Packet as Delivered, Refused as RefusedFrame, Broken}
use Rattle.channel_spec.specs.declared.Answer.{Answer}
use Rattle.channel_spec.specs.declared.Answer.TheVariants.{More, Said, Block, LockLost}
use Rattle.bid.specs.Line.{feed}
use Rattle.ports_spec.specs.declared.Noted.{Noted}
use Rattle.ports_spec.specs.declared.Noted.TheVariants.{First, InOrder, Repeated, Missing, Late, Refused}
use Rattle.board_spec.specs.Text.{heading, shown_text}
use Rattle.board_spec.specs.Meaning.{restricted, refused_frame, broken_frame, lock_lost, late_text, repeated_text, written, written_all, ahead_of, block_lines}

-- a packet's own line up to its text
abbrev pub own_lead : Noted → ℕ → ℕ → List ℕ
own_lead First port sequence = heading port sequence
own_lead InOrder port sequence = heading port sequence
own_lead Repeated port sequence = repeated_text ++ heading port sequence
own_lead (Missing n) port sequence = heading port sequence
own_lead Late port sequence = late_text ++ heading port sequence
own_lead (Refused n) port sequence = heading port sequence

-- all that stands before the text; of a packet for subscribers there is no text
abbrev pub lead : Noted → Delivery → List ℕ
lead v d =
    written_all (ahead_of v d.port)
    ++ pick (eqb d.format key_format) (written (restricted d.port d.sequence d.number)) (own_lead v d.port d.sequence)

-- the text and the line feed behind it
abbrev pub behind : Packet → List ℕ
behind p = pick (eqb p.format key_format) [] (shown_text p.payload ++ (feed ∷ []))

-- an answer that is no packet
abbrev pub remark : Bool → Answer → List ℕ
remark b More = []
remark b (Said (Delivered d)) = []
remark b (Said (RefusedFrame n)) = written (refused_frame n)
remark b (Said (Broken place)) = written (broken_frame place)
remark b (Block c) = written_all (block_lines b c)
remark b LockLost = written lock_lost

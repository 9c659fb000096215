-- Fixed sub-channels (request W7): rows of their refusals, and what their calls write.
-- SettingsBeyond, CountsBeyond, SubBeyond   10: of one sub-channel
-- ReceiverBeyond, SenderBeyond              .. of the state, which is all four
-- Unknown                                   42, outside configuring
-- OfNumbered                                the numbers of receiving calls by number
-- ByConfigure, ByNumbered                   that configuring, and a receiving call by number, refuses by a number
-- groups_put                                 what the calls that send groups write, one behind the other
use Rattle.std.specs.Prelude.{ℕ, ◌<◌, ◌≡◌, false, ◌⊎◌, List, [], ◌∷◌, ◌++◌, drop}
use Rattle.std.proofs.Math.Option.{Option, some}
use Rattle.base.specs.Written.{Outcome}
use Rattle.packet_spec.specs.Frame.{refusal}
use Rattle.interleaver_spec.specs.declared.Matrix.{Matrix}
use Rattle.channel_spec.specs.Sender.{word_bytes}
use Rattle.channel_spec.specs.Meaning.{Event, said}
use Rattle.subchannel_spec.specs.Sender.{message_bytes, group_bytes}
use Rattle.subchannel_spec.specs.declared.Settings.{Settings}
use Rattle.subchannel.specs.declared.counts.Counts.{Counts}
use Rattle.subchannel.specs.declared.sub.Sub.{Sub}
use Rattle.subchannel_spec.specs.Settings.{Configured, Refused}
use Rattle.four_receivers.specs.Call.{Receiver}
use Rattle.subchannel_sender.specs.Sending.{group_sending}
use Rattle.four_senders.specs.declared.Sender.{Sender}
use Rattle.demands_laws.specs.Captures.{put}
use Rattle.demands_laws.specs.Refusals.{PlaceBeyond, FrameBeyond, OfCall}

-- 10: settings that no configuring takes
abbrev pub SettingsBeyond : Settings → Type 0
SettingsBeyond x = (64 < x.parity) ⊎ (64 < x.depth)

-- "10 also when a group counts more than four words"; marker bytes above 3, bytes of a word above 255, message bytes handed on above 255 - R
abbrev pub CountsBeyond : ℕ → Counts → Type 0
CountsBeyond r n = (group_bytes < n.group) ⊎ (3 < n.marker) ⊎ (word_bytes < n.word) ⊎ (message_bytes r < n.handed)

-- of one sub-channel: those of its frame reader, of its settings, of its counts; a cell place of N or more
abbrev pub SubBeyond : Sub → Type 0
SubBeyond s =
    (FrameBeyond s.lane.frame ⊎ SettingsBeyond s.lane.settings ⊎ CountsBeyond s.lane.settings.parity s.lane.counts)
    ⊎ PlaceBeyond s.lane.settings.depth s.back.matrix.place

-- of the receiver: of any of the four, configured or not
abbrev pub ReceiverBeyond : Receiver → Type 0
ReceiverBeyond s = SubBeyond s.a ⊎ SubBeyond s.b ⊎ SubBeyond s.c ⊎ SubBeyond s.d

-- of the sender
abbrev pub SenderBeyond : Sender → Type 0
SenderBeyond s = SettingsBeyond s.a ⊎ SettingsBeyond s.b ⊎ SettingsBeyond s.c ⊎ SettingsBeyond s.d

-- "42 for a sub-channel number above 3 or, outside configuring, one not configured": of number n, with these settings
abbrev pub Unknown : ℕ → Settings → Type 0
Unknown n x = (3 < n) ⊎ (x.told ≡ false)

-- the numbers that receiving calls by number are refused by
abbrev pub OfNumbered : ℕ → Type 0
OfNumbered n = OfCall n ⊎ (n ≡ 42)

-- configuring is refused by a number
abbrev pub ByConfigure : {S : Type 0} → Configured × S → ℕ → Type 0
ByConfigure x n = x.0 ≡ Refused n

-- a receiving call by number is
abbrev pub ByNumbered : Option Event × ℕ × Receiver × List ℕ × List ℕ → ℕ → Type 0
ByNumbered x n = OfNumbered n × (x.0 ≡ some (said (refusal n)))

-- what calls that send groups write, one behind the other: each with its own output, and with the cells and the rest of the stream left by the one before
abbrev pub groups_put : ℕ → ℕ → Matrix → List ℕ → List (List ℕ) → List ℕ
groups_put r d m bs [] = []
groups_put r d m bs (out ∷ outs) =
    let x : Outcome × ℕ × Matrix = group_sending r d m bs out in put x.0 ++ groups_put r d x.2 (drop x.1 bs) outs

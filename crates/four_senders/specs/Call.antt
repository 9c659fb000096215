-- One to four sub-channels (request W7): the sender's calls, by number.
-- get, put                a sub-channel's settings, by its number
-- sound_four, known        what 10 and 42 ask
-- fresh_sender             none is configured
-- configuring, send_four   what the two calls answer and leave; as_configuring: the same of the code's result
use Rattle.std.specs.Prelude.{ℕ, zero, suc, Bool, true, false, ◌&&◌, List, ltb, leb}
use Rattle.base.specs.Choice.{pick}
use Rattle.base.specs.Written.{Outcome, refused, write}
use Rattle.parity.specs.Calls.{root_limit}
use Rattle.interleaver_spec.specs.Running.{depth_limit}
use Rattle.subchannel_spec.specs.Sender.{sent}
use Rattle.subchannel_spec.specs.declared.Settings.{Settings}
use Rattle.subchannel_spec.specs.Settings.{settings, within, Configured, Done, Refused, as_configured}
use Rattle.four_senders.specs.declared.Sender.{Sender}
use Rattle.four_senders.specs.declared.Configuring.{Configuring}

-- the settings of sub-channel n; 3 stands for every number above 2
abbrev pub get : Sender → ℕ → Settings
get s zero = s.a
get s (suc zero) = s.b
get s (suc (suc zero)) = s.c
get s (suc (suc (suc n))) = s.d

-- .. exchanged for x
abbrev pub put : Sender → ℕ → Settings → Sender
put s zero x = record { a = x; b = s.b; c = s.c; d = s.d }
put s (suc zero) x = record { a = s.a; b = x; c = s.c; d = s.d }
put s (suc (suc zero)) x = record { a = s.a; b = s.b; c = x; d = s.d }
put s (suc (suc (suc n))) x = record { a = s.a; b = s.b; c = s.c; d = x }

-- none is configured
abbrev pub fresh_sender : Sender
fresh_sender = let u : Settings = settings false 0 0 in record { a = u; b = u; c = u; d = u }

-- 10: settings that no configuring takes, of all four
abbrev pub sound_four : Sender → Bool
sound_four s = within s.a && (within s.b && (within s.c && within s.d))

-- 42: "a sub-channel number above 3 or, outside configuring, one not configured"
abbrev pub known : Sender → ℕ → Bool
known s n = leb n 3 && (get s n).told

-- configuring: 10, 42, 30, 32
abbrev pub configuring : Sender → ℕ → ℕ → ℕ → Configured × Sender
configuring s n r d =
    pick (sound_four s)
    (pick (ltb 3 n) (Refused 42, s) (pick (ltb root_limit r) (Refused 30, s) (pick (ltb depth_limit d) (Refused 32, s) (Done, put s n (settings true r d)))))
    (Refused 10, s)

-- a whole stream sent on sub-channel n: 10, 42, then 23 as for every call that writes
abbrev pub send_four : Sender → ℕ → List ℕ → List ℕ → Outcome
send_four s n bs out =
    pick (sound_four s) (pick (known s n) (write (sent (get s n).parity (get s n).depth bs) out) (refused 42 out)) (refused 10 out)

-- the same of the code's result of configuring
abbrev pub as_configuring : Configuring → Configured × Sender
as_configuring x = (as_configured x.answer, x.sender)

-- What a sub-channel is told (request W7): its parity and its depth.
-- settings    told or not, R, depth
-- within      what 10 asks of them, and configuring
-- Configured, Done, Refused   what configuring answers: done, or a refusal by its number in the paper
-- as_configured               the same of what the code answers
use Rattle.std.specs.Prelude.{ℕ, Bool, ◌&&◌, leb, Result, Ok, Err}
use Rattle.base.specs.declared.Refusal.{Refusal}
use Rattle.base.specs.Refusals.{number}
use Rattle.parity.specs.Calls.{root_limit}
use Rattle.interleaver_spec.specs.Running.{depth_limit}
use Rattle.subchannel_spec.specs.declared.Settings.{Settings}

abbrev pub settings : Bool → ℕ → ℕ → Settings
settings t r d = record { told = t; parity = r; depth = d }

-- within their limits
abbrev pub within : Settings → Bool
within s = leb s.parity root_limit && leb s.depth depth_limit

-- done, or the call is refused, by this number of the paper
pub data Configured : Type 0 where
  Done : Configured
  Refused : ℕ → Configured

-- what the code answers, by the paper's numbers
abbrev pub as_configured : Result Unit Refusal → Configured
as_configured (Ok u) = Done
as_configured (Err r) = Refused (number r)

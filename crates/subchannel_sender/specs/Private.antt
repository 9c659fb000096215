-- What private functions alone are promised by.
-- group_length      bytes of a group with its marker
-- groups_from       the next g groups of a stream
-- GroupIs          one group
-- limited          refused where R or the depth is beyond its limit
use Rattle.std.specs.Prelude.{ℕ, ◌+◌, ◌*◌, ◌≡◌, List, ◌++◌, ltb, Result, Ok, Err}
use Rattle.base.specs.Choice.{pick}
use Rattle.base.specs.declared.Refusal.{Refusal}
use Rattle.base.specs.declared.Refusal.TheVariants.{Roots, Depth}
use Rattle.parity.specs.Calls.{root_limit}
use Rattle.interleaver_spec.specs.Running.{depth_limit}
use Rattle.base.specs.Calls.{joined, run}
use Rattle.base.specs.Written.{copied}
use Rattle.interleaver_spec.specs.Running.{push}
use Rattle.interleaver_spec.specs.declared.Matrix.{Matrix}
use Rattle.channel_spec.specs.Sender.{marker}
use Rattle.subchannel_spec.specs.Sender.{group_words, group_bytes, grouped}
use Rattle.subchannel_sender.specs.Sending.{words_from}

-- bytes of a group, the marker among them
abbrev pub group_length : ℕ
group_length = 4 + group_bytes

-- the next g groups of a stream, from the cells m on
abbrev pub groups_from : ℕ → ℕ → ℕ → Matrix → List ℕ → List ℕ
groups_from r d g m bs = grouped g (run (push d) m (joined (words_from r (g * group_words) bs))).0

-- one group: the marker, and x through the cells m
abbrev pub GroupIs : ℕ → Matrix → List ℕ → List ℕ → Matrix → List ℕ → Type 0
GroupIs d m x out m' out' = (m' ≡ (run (push d) m x).1) × (out' ≡ copied (marker ++ (run (push d) m x).0) out)

-- refused where R or the depth is beyond its limit
abbrev pub limited : ℕ → ℕ → Result Unit Refusal
limited r d = pick (ltb root_limit r) (Err Roots) (pick (ltb depth_limit d) (Err Depth) (Ok tt))

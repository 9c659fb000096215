-- Words of received groups, as they come out of the receiving side of the interleaver. What is made of a word with r parity bytes is
-- channel_spec's Word.
-- came_back    the words that come back
use Rattle.std.specs.Prelude.{ℕ, List}
use Rattle.base.specs.Calls.{run}
use Rattle.interleaver_spec.specs.Running.{fresh_back, pull}
use Rattle.channel_spec.specs.Sender.{word_bytes}
use Rattle.channel_spec.specs.Word.{cut_up}
pub use Rattle.channel_spec.specs.Word.{condition, mend, message, carried}

-- the first n words of received groups' bytes rs, as they come out of the receiving side of the interleaver and are checked
abbrev pub came_back : ℕ → ℕ → List ℕ → List (List ℕ)
came_back d n rs = cut_up word_bytes n (run (pull d) fresh_back rs).0

-- The receiver's numbers, by computation.
-- fresh              before the first byte
-- in-word, in-mark   the lock's counts while a word fills, and behind it
use Prim.Native.Nat.{ℕ}
use mathlib.Core.Path.{◌≡◌, refl}
use mathlib.Core.Bool.{false}
use mathlib.Core.List.{List, []}
use lib.ListN.{length}
use Rattle.stream.specs.Meaning.{Reading}
use Rattle.channel_spec.specs.declared.Hunting.{Hunting}
use Rattle.channel_spec.specs.Meaning.{in_word, in_mark}
use Rattle.channel.specs.Call.{fresh_receiver, memory_of}

pub fresh : fresh_receiver ≡ record {
  locked = false;
  hunting = record { a = 0; b = 0; c = 0; d = 0 };
  lock = record { word = 0; handed = 0; marker = 0 };
  frame = record { opened = false; raw = 0; stored = 0; place = 0 };
}
fresh = refl

-- none of a word is handed on before it is whole ..
pub in-word : (f : Hunting) (w : List ℕ) (q : Reading) → (memory_of (in_word f w q) [] []).st.lock ≡ record { word = length w; handed = 0; marker = 0 }
in-word f w q = refl

-- .. and its 223 message bytes are before the marker bytes behind it are read
pub in-mark : (f : Hunting) (w : List ℕ) (n : ℕ) (q : Reading) → (memory_of (in_mark f w n q) [] []).st.lock ≡ record { word = 255; handed = 223; marker = n }
in-mark f w n q = refl

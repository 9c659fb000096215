-- Numbers of captures, computed.
-- begins                        the header's 24 bytes
-- file, back                    a capture of two packets, and its import
-- longest                       a packet of 8,231 bytes
-- sixty, sixty-one, sixty-two   each fault: 61 before 62 in one record, records in file order
use Prim.Native.Nat.{ℕ}
use mathlib.Core.Path.{◌≡◌, refl}
use mathlib.Core.List.{List, [], ◌∷◌, ◌++◌}
use lib.ListN.{length, take, replicate}
use Rattle.packet_spec.specs.Contents.{Packet, plain_packet, key_packet, packed}
use Rattle.packet_spec.specs.Escape.{escape, escape_byte}
use Rattle.packet_spec.specs.Frame.{Told, packet, refusal, broken, judge_body}
use Rattle.packet_spec.specs.Sender.{refusing}
use Rattle.capture_spec.specs.File.{four, header, timed, records, captured}
use Rattle.capture_spec.specs.Meaning.{entry, entry_limit, read, imported}

pub begins : header ≡ 0xD4 ∷ 0xC3 ∷ 0xB2 ∷ 0xA1 ∷ 2 ∷ 0 ∷ 4 ∷ 0 ∷ 0 ∷ 0 ∷ 0 ∷ 0 ∷ 0 ∷ 0 ∷ 0 ∷ 0 ∷ 0xFF ∷ 0xFF ∷ 0 ∷ 0 ∷ 147 ∷ 0 ∷ 0 ∷ 0 ∷ []
begins = refl

-- number (d) of the paper, and a packet for subscribers
abbrev letter : Packet
letter = plain_packet 0x5100 0 (0x41 ∷ [])

abbrev locked : Packet
locked = key_packet 9 (1 ∷ 0x7E ∷ []) 0x5100 7 (0x41 ∷ [])

pub file : captured (letter ∷ locked ∷ [])
    ≡ header ++ (0 ∷ 0 ∷ 0 ∷ 0 ∷ 0 ∷ 0 ∷ 0 ∷ 0 ∷ 6 ∷ 0 ∷ 0 ∷ 0 ∷ 6 ∷ 0 ∷ 0 ∷ 0 ∷ 0x21 ∷ 0x00 ∷ 0x51 ∷ 0x00 ∷ 0x00 ∷ 0x41
    ∷ 1 ∷ 0 ∷ 0 ∷ 0 ∷ 0 ∷ 0 ∷ 0 ∷ 0 ∷ 10 ∷ 0 ∷ 0 ∷ 0 ∷ 10 ∷ 0 ∷ 0 ∷ 0 ∷ 0x26 ∷ 2 ∷ 9 ∷ 1 ∷ 0x7E ∷ 0x00 ∷ 0x51 ∷ 7 ∷ 0 ∷ 0x41 ∷ [])
unfolding records
file = refl

pub back : imported (captured (letter ∷ locked ∷ [])) ≡ (packet letter ∷ packet locked ∷ [], 0)
unfolding records read entry judge_body escape escape_byte
back = refl

-- 32 key bytes and 8,192 of payload: the sender accepts it, and it is as long as a packet may be
abbrev most : Packet
most = key_packet 255 (replicate 32 0xAA) 0x5100 0 (replicate 8192 0x41)

pub longest : length (packed most) ∷ refusing most (λ n. n) 0 ∷ entry_limit ∷ [] ≡ 8231 ∷ 0 ∷ 8231 ∷ []
unfolding escape escape_byte
longest = refl

-- an import in numbers: 0 for a packet, else the fault; the last is what the end says
abbrev numbered : List Told → ℕ → List ℕ
numbered [] n = n ∷ []
numbered (packet p ∷ ts) n = 0 ∷ numbered ts n
numbered (refusal m ∷ ts) n = m ∷ numbered ts n
numbered (broken m ∷ ts) n = 3 ∷ numbered ts n

abbrev gives : List ℕ → List ℕ
gives bs = let i = imported bs in numbered i.0 i.1

abbrev times : List ℕ
times = 1 ∷ 2 ∷ 3 ∷ 4 ∷ 5 ∷ 6 ∷ 7 ∷ 8 ∷ []

-- a record's head that says m bytes and n
abbrev head : ℕ → ℕ → List ℕ
head m n = times ++ (four m ++ four n)

-- a packet's record ..
abbrev good : List ℕ
good = timed times (packed letter)

-- .. and one of format 0x22
abbrev bad : List ℕ
bad = timed times (0x22 ∷ 0 ∷ 0 ∷ 0 ∷ 0 ∷ 0 ∷ [])

-- no file; shorter than the header; another first byte; the header alone
pub sixty : gives [] ∷ gives (take 23 header) ∷ gives (0xA1 ∷ header) ∷ gives header ∷ [] ≡ (60 ∷ []) ∷ (60 ∷ []) ∷ (60 ∷ 60 ∷ []) ∷ (0 ∷ []) ∷ []
unfolding read
sixty = refl

-- cut in the head; cut in the bytes, which are no packet's; lengths unequal, with nothing behind; cut behind a packet
pub sixty-one : gives (header ++ take 15 bad) ∷ gives (header ++ take 21 bad) ∷ gives (header ++ head 6 7) ∷ gives (header ++ (good ++ take 1 bad)) ∷ []
    ≡ (61 ∷ []) ∷ (61 ∷ []) ∷ (61 ∷ 61 ∷ []) ∷ (0 ∷ 61 ∷ []) ∷ []
unfolding read entry judge_body escape escape_byte
sixty-one = refl

-- no byte at all; no packet's bytes; the same before a record cut short, and between two packets
pub sixty-two : gives (header ++ head 0 0) ∷ gives (header ++ bad) ∷ gives (header ++ (bad ++ take 21 bad)) ∷ gives (header ++ (good ++ (bad ++ good))) ∷ []
    ≡ (62 ∷ 62 ∷ []) ∷ (62 ∷ 62 ∷ []) ∷ (62 ∷ 62 ∷ []) ∷ (0 ∷ 62 ∷ 62 ∷ []) ∷ []
unfolding read entry judge_body escape escape_byte
sixty-two = refl

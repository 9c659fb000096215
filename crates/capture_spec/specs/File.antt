-- A capture (request W11): a classic pcap file, little end first.
-- four                  a number as four bytes
-- header                what stands before the first record
-- timed, record_of       a record with any times, and with those that are exported
-- records, captured     the capture of some packets
-- Recorded, CaptureOf   .. and any capture of them, times aside
use Rattle.std.specs.Prelude.{ℕ, suc, ◌/◌, ◌%◌, ◌≡◌, List, [], ◌∷◌, ◌++◌, length}
use Rattle.packet_spec.specs.Contents.{Packet, packed, two}

-- a number below 2^32 as four bytes, low first
abbrev pub four : ℕ → List ℕ
four n = n % 256 ∷ n / 256 % 256 ∷ n / 65536 % 256 ∷ n / 16777216 ∷ []

-- pcap's mark, version 2.4, zone, accuracy, snapshot length 65,535, link type 147
abbrev pub header : List ℕ
header = four 0xA1B2C3D4 ++ (two 2 ++ (two 4 ++ (four 0 ++ (four 0 ++ (four 65535 ++ four 147)))))

-- a record: its times, twice how many bytes, the bytes
abbrev pub timed : List ℕ → List ℕ → List ℕ
timed times bs = times ++ (four (length bs) ++ (four (length bs) ++ bs))

-- the record of packet number i: seconds are the number, microseconds 0
abbrev pub record_of : ℕ → List ℕ → List ℕ
record_of i bs = timed (four i ++ four 0) bs

-- each packet, format byte to last payload byte, from number i on
unfoldable pub records : ℕ → List Packet → List ℕ
records i [] = []
records i (p ∷ ps) = record_of i (packed p) ++ records (suc i) ps

-- the capture of some packets, numbered from 0
abbrev pub captured : List Packet → List ℕ
captured ps = header ++ records 0 ps

-- a record for each packet, whatever its times are
abbrev pub Recorded : List Packet → List ℕ → Type 0
Recorded [] bs = bs ≡ []
Recorded (p ∷ ps) bs = (times rest : List ℕ) × (length times ≡ 8) × (bs ≡ timed times (packed p) ++ rest) × Recorded ps rest

-- a capture of these packets, times aside
abbrev pub CaptureOf : List Packet → List ℕ → Type 0
CaptureOf ps bs = (rest : List ℕ) × (bs ≡ header ++ rest) × Recorded ps rest

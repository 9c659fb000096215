-- What is shown, computed: each kind of line byte by byte, every byte of a text, and answers one after the other.
-- lines    a line of each kind
-- bytes    all 256 bytes, as they are shown
-- table    answers, and the text shown of them
-- blocks   the same where every block is to be told
-- ranges   the same where a range of ports is told
-- recordings   recordings, those that do not end as one among them
use Prim.Native.Nat.{ℕ}
use Prim.Native.String.{String}
use mathlib.Core.Path.{◌≡◌, refl}
use mathlib.Core.Bool.{Bool, true, false}
use mathlib.Core.List.{List, [], ◌∷◌, ◌++◌, map}
use Rattle.packet_spec.specs.Contents.{plain_packet, key_packet}
use Rattle.fcs.specs.Fcs.{fcs, register, entered}
use Rattle.packet_spec.specs.Escape.{escape, escape_byte, plain, wrong_from, right, last, scan}
use Rattle.packet_spec.specs.Frame.{packet, refusal, broken, judge_contents, closed_by, closed, judge, judge_body}
use Rattle.channel_spec.specs.Meaning.{Event, said, block, lost}
use Rattle.channel_spec.specs.declared.Condition.TheVariants.{Clean, Repaired, Beyond}
use Rattle.listing_spec.specs.Apart.{next_at, in_stream, apart}
use Rattle.text.specs.Text.{ascii, decimal_by, decimal}
use Rattle.listing_spec.specs.Meaning.{heard}
use Rattle.ports_spec.specs.declared.Range.{Range}
use Rattle.ports_spec.specs.Ports.{place_of, free_place, twice, noting}
use Rattle.ports_spec.specs.Range.{range, every_port}
use Rattle.board_spec.specs.Text.{shown_byte, shown_text, bid_text}
use Rattle.board_spec.specs.Meaning.{Line, bid, missing, unwatched, late, repeated, restricted, refused_frame, broken_frame}
use Rattle.board_spec.specs.Meaning.{clean_block, repaired_block, beyond_repair, lock_lost, wrong_at, written, written_all, board_lines}
use Rattle.board_spec.specs.Meaning.{regarded, shows, recording_text}

-- a line of each kind
abbrev line_rows : List (Line × List ℕ)
line_rows =
    (bid 4 7 (ascii "CORN\t\\"), ascii "4 7 CORN\\x09\\\\\n") ∷
    (bid 0 65535 [], ascii "0 65535 \n") ∷
    (missing 4 32766, ascii "! missing 4 32766\n") ∷
    (unwatched 17, ascii "! unwatched 17\n") ∷
    (late 4 7 (ascii "CORN\t\\"), ascii "! late 4 7 CORN\\x09\\\\\n") ∷
    (repeated 4 7 (ascii "CORN\t\\"), ascii "! repeated 4 7 CORN\\x09\\\\\n") ∷
    (restricted 4 7 255, ascii "! restricted 4 7 255\n") ∷
    (refused_frame 5, ascii "! frame refused 5\n") ∷
    (broken_frame 17, ascii "! frame refused 3 17\n") ∷
    (clean_block, ascii "! block clean\n") ∷
    (repaired_block 2, ascii "! block repaired 2\n") ∷
    (beyond_repair, ascii "! block beyond repair\n") ∷
    (lock_lost, ascii "! lock lost\n") ∷
    (wrong_at 12, ascii "! wrong at 12\n") ∷
    (wrong_at 18446744073709551615, ascii "! wrong at 18446744073709551615\n") ∷
    []

pub lines : map (λ r. (r.0, written r.0)) line_rows ≡ line_rows
unfolding decimal_by decimal shown_byte shown_text bid_text written
lines = refl

-- all bytes, from 0 to 255, as they are shown
abbrev byte_rows : List (List ℕ × List ℕ)
byte_rows = (
  0 ∷ 1 ∷ 2 ∷ 3 ∷ 4 ∷ 5 ∷ 6 ∷ 7 ∷ 8 ∷ 9 ∷ 10 ∷ 11 ∷ 12 ∷ 13 ∷ 14 ∷ 15 ∷ 16 ∷ 17 ∷ 18 ∷ 19 ∷ 20 ∷ 21 ∷ 22 ∷ 23 ∷ 24 ∷ 25 ∷ 26 ∷ 27 ∷ 28 ∷ 29 ∷ 30 ∷
      31 ∷ [],
  ascii "\\x00\\x01\\x02\\x03\\x04\\x05\\x06\\x07\\x08\\x09\\x0A\\x0B\\x0C\\x0D\\x0E\\x0F\\x10\\x11\\x12\\x13\\x14\\x15"
      ++ ascii "\\x16\\x17\\x18\\x19\\x1A\\x1B\\x1C\\x1D\\x1E\\x1F",
) ∷ (
  ascii " !\"#$%&'()*+,-./0123456789:;<=>?@ABCDEFGHIJKLMNOPQRSTUVWXYZ[\\]^_`abcdefghijklmnopqrstuvwxyz{|}~",
  ascii " !\"#$%&'()*+,-./0123456789:;<=>?@ABCDEFGHIJKLMNOPQRSTUVWXYZ[\\\\]^_`abcdefghijklmnopqrstuvwxyz{|}~",
) ∷ (
  127 ∷ 128 ∷ 129 ∷ 130 ∷ 131 ∷ 132 ∷ 133 ∷ 134 ∷ 135 ∷ 136 ∷ 137 ∷ 138 ∷ 139 ∷ 140 ∷ 141 ∷ 142 ∷ 143 ∷ 144 ∷ 145 ∷ 146 ∷ 147 ∷ 148 ∷ 149 ∷ 150 ∷
      151 ∷ 152 ∷ 153 ∷ 154 ∷ 155 ∷ 156 ∷ 157 ∷ 158 ∷ 159 ∷ [],
  ascii "\\x7F\\x80\\x81\\x82\\x83\\x84\\x85\\x86\\x87\\x88\\x89\\x8A\\x8B\\x8C\\x8D\\x8E\\x8F\\x90\\x91\\x92\\x93\\x94"
      ++ ascii "\\x95\\x96\\x97\\x98\\x99\\x9A\\x9B\\x9C\\x9D\\x9E\\x9F",
) ∷ (
  160 ∷ 161 ∷ 162 ∷ 163 ∷ 164 ∷ 165 ∷ 166 ∷ 167 ∷ 168 ∷ 169 ∷ 170 ∷ 171 ∷ 172 ∷ 173 ∷ 174 ∷ 175 ∷ 176 ∷ 177 ∷ 178 ∷ 179 ∷ 180 ∷ 181 ∷ 182 ∷ 183 ∷
      184 ∷ 185 ∷ 186 ∷ 187 ∷ 188 ∷ 189 ∷ 190 ∷ 191 ∷ [],
  ascii "\\xA0\\xA1\\xA2\\xA3\\xA4\\xA5\\xA6\\xA7\\xA8\\xA9\\xAA\\xAB\\xAC\\xAD\\xAE\\xAF\\xB0\\xB1\\xB2\\xB3\\xB4\\xB5"
      ++ ascii "\\xB6\\xB7\\xB8\\xB9\\xBA\\xBB\\xBC\\xBD\\xBE\\xBF",
) ∷ (
  192 ∷ 193 ∷ 194 ∷ 195 ∷ 196 ∷ 197 ∷ 198 ∷ 199 ∷ 200 ∷ 201 ∷ 202 ∷ 203 ∷ 204 ∷ 205 ∷ 206 ∷ 207 ∷ 208 ∷ 209 ∷ 210 ∷ 211 ∷ 212 ∷ 213 ∷ 214 ∷ 215 ∷
      216 ∷ 217 ∷ 218 ∷ 219 ∷ 220 ∷ 221 ∷ 222 ∷ 223 ∷ [],
  ascii "\\xC0\\xC1\\xC2\\xC3\\xC4\\xC5\\xC6\\xC7\\xC8\\xC9\\xCA\\xCB\\xCC\\xCD\\xCE\\xCF\\xD0\\xD1\\xD2\\xD3\\xD4\\xD5"
      ++ ascii "\\xD6\\xD7\\xD8\\xD9\\xDA\\xDB\\xDC\\xDD\\xDE\\xDF",
) ∷ (
  224 ∷ 225 ∷ 226 ∷ 227 ∷ 228 ∷ 229 ∷ 230 ∷ 231 ∷ 232 ∷ 233 ∷ 234 ∷ 235 ∷ 236 ∷ 237 ∷ 238 ∷ 239 ∷ 240 ∷ 241 ∷ 242 ∷ 243 ∷ 244 ∷ 245 ∷ 246 ∷ 247 ∷
      248 ∷ 249 ∷ 250 ∷ 251 ∷ 252 ∷ 253 ∷ 254 ∷ 255 ∷ [],
  ascii "\\xE0\\xE1\\xE2\\xE3\\xE4\\xE5\\xE6\\xE7\\xE8\\xE9\\xEA\\xEB\\xEC\\xED\\xEE\\xEF\\xF0\\xF1\\xF2\\xF3\\xF4\\xF5"
      ++ ascii "\\xF6\\xF7\\xF8\\xF9\\xFA\\xFB\\xFC\\xFD\\xFE\\xFF",
) ∷
    []

pub bytes : map (λ r. (r.0, shown_text r.0)) byte_rows ≡ byte_rows
unfolding shown_byte shown_text
bytes = refl

-- a packet that everybody may read is delivered
abbrev open_to : ℕ → ℕ → String → Event
open_to port sequence payload = said (packet (plain_packet port sequence (ascii payload)))

-- answers, and the text shown of them
abbrev rows : List (List Event × List ℕ)
rows =
    -- number (d) of the paper
    (open_to 20736 0 "A" ∷ [], ascii "20736 0 A\n") ∷
    -- two are missing
    (open_to 5 1 "a" ∷ open_to 5 4 "b" ∷ [], ascii "5 1 a\n! missing 5 2\n5 4 b\n") ∷
    -- an older one is late, and the next goes on from the newest
    (open_to 5 4 "b" ∷ open_to 5 3 "a" ∷ open_to 5 5 "c" ∷ [], ascii "5 4 b\n! late 5 3 a\n5 5 c\n") ∷
    -- one comes twice, with another text
    (open_to 5 4 "b" ∷ open_to 5 4 "c" ∷ [], ascii "5 4 b\n! repeated 5 4 c\n") ∷
    -- 0 behind 65,535
    (open_to 5 65535 "x" ∷ open_to 5 0 "y" ∷ [], ascii "5 65535 x\n5 0 y\n") ∷
    -- 32,766 are missing, or it is late
    (
      open_to 5 0 "x" ∷ open_to 5 32767 "y" ∷ open_to 6 0 "x" ∷ open_to 6 32768 "y" ∷ [],
      ascii "5 0 x\n! missing 5 32766\n5 32767 y\n6 0 x\n! late 6 32768 y\n",
    ) ∷
    -- ports one beside the other
    (open_to 5 1 "a" ∷ open_to 6 9 "b" ∷ open_to 5 2 "c" ∷ open_to 6 10 "d" ∷ [], ascii "5 1 a\n6 9 b\n5 2 c\n6 10 d\n") ∷
    -- one for subscribers is noted, and not shown: behind it the next is in order
    (open_to 5 1 "a" ∷ said (packet (key_packet 9 (1 ∷ 2 ∷ []) 5 2 (ascii "b"))) ∷ open_to 5 3 "c" ∷ [], ascii "5 1 a\n! restricted 5 2 9\n5 3 c\n") ∷
    -- before it, too, the count of what is missing
    (open_to 5 1 "a" ∷ said (packet (key_packet 9 (1 ∷ 2 ∷ []) 5 4 (ascii "b"))) ∷ [], ascii "5 1 a\n! missing 5 2\n! restricted 5 4 9\n") ∷
    -- a late one for subscribers has its remark alone
    (open_to 5 4 "b" ∷ said (packet (key_packet 9 (1 ∷ 2 ∷ []) 5 3 (ascii "a"))) ∷ open_to 5 5 "c" ∷ [], ascii "5 4 b\n! restricted 5 3 9\n5 5 c\n") ∷
    -- blocks, frames refused, a lost lock: the table stays, and so what they cost is told
    (
      open_to 5 1 "a" ∷ block Clean ∷ block (Repaired 3) ∷ block Beyond ∷ said (refusal 5) ∷ said (broken 17) ∷ lost ∷ open_to 5 3 "c" ∷
          [],
      ascii "5 1 a\n! block beyond repair\n! frame refused 5\n! frame refused 3 17\n! lock lost\n! missing 5 1\n5 3 c\n",
    ) ∷
    -- a seventeenth port
    (
      open_to 1 1 "x" ∷ open_to 2 1 "x" ∷ open_to 3 1 "x" ∷ open_to 4 1 "x" ∷ open_to 5 1 "x" ∷
          open_to 6 1 "x" ∷ open_to 7 1 "x" ∷ open_to 8 1 "x" ∷ open_to 9 1 "x" ∷ open_to 10 1 "x" ∷
          open_to 11 1 "x" ∷ open_to 12 1 "x" ∷ open_to 13 1 "x" ∷ open_to 14 1 "x" ∷ open_to 15 1 "x" ∷
          open_to 16 1 "x" ∷ open_to 17 1 "x" ∷ open_to 17 0 "y" ∷ [],
      ascii "1 1 x\n2 1 x\n3 1 x\n4 1 x\n5 1 x\n6 1 x\n7 1 x\n8 1 x\n9 1 x\n10 1 x\n11 1 x\n12 1 x\n13 1 x\n14 1 x\n15 1 x\n"
          ++ ascii "16 1 x\n! unwatched 17\n17 1 x\n! unwatched 17\n17 0 y\n",
    ) ∷
    []

abbrev gives : Bool → List (List Event × List ℕ) → List (List Event × List ℕ)
gives b rs = map (λ r. (r.0, shows b every_port r.0)) rs

pub table : gives false rows ≡ rows
unfolding decimal_by decimal place_of free_place twice noting shown_byte shown_text bid_text written written_all board_lines regarded
table = refl

-- where every block is to be told
abbrev block_rows : List (List Event × List ℕ)
block_rows = (
  block Clean ∷ open_to 5 1 "a" ∷ block (Repaired 3) ∷ block Beyond ∷ lost ∷ [],
  ascii "! block clean\n5 1 a\n! block repaired 3\n! block beyond repair\n! lock lost\n",
) ∷
    []

pub blocks : gives true block_rows ≡ block_rows
unfolding decimal_by decimal place_of free_place twice noting shown_byte shown_text bid_text written written_all board_lines regarded
blocks = refl

-- where a range of ports is told
abbrev range_rows : List (Range × List Event × List ℕ)
range_rows =
    -- 5 to 6, both ends, and the ports beside them
    (
      range 5 6,
      open_to 4 1 "x" ∷ open_to 5 1 "a" ∷ open_to 6 1 "b" ∷ open_to 7 1 "x" ∷ [],
      ascii "5 1 a\n6 1 b\n",
    ) ∷
    -- one port, others between its packets, one of them for subscribers
    (
      range 5 5,
      open_to 5 1 "a" ∷ open_to 6 9 "x" ∷ said (packet (key_packet 9 (1 ∷ 2 ∷ []) 4 2 (ascii "b"))) ∷ open_to 5 3 "c" ∷ [],
      ascii "5 1 a\n! missing 5 1\n5 3 c\n",
    ) ∷
    -- frames refused, blocks and a lost lock are told whatever the range
    (
      range 5 5,
      open_to 6 1 "a" ∷ block Clean ∷ block Beyond ∷ said (refusal 5) ∷ said (broken 17) ∷ lost ∷ open_to 6 3 "c" ∷ [],
      ascii "! block beyond repair\n! frame refused 5\n! frame refused 3 17\n! lock lost\n",
    ) ∷
    -- the first greater than the last: no port
    (
      range 6 5,
      open_to 5 1 "a" ∷ open_to 6 1 "b" ∷ [],
      [],
    ) ∷
    -- seventeen ports, the first of them outside, so that the last has a place
    (
      range 2 17,
      open_to 1 1 "x" ∷ open_to 2 1 "x" ∷ open_to 3 1 "x" ∷ open_to 4 1 "x" ∷ open_to 5 1 "x" ∷
          open_to 6 1 "x" ∷ open_to 7 1 "x" ∷ open_to 8 1 "x" ∷ open_to 9 1 "x" ∷ open_to 10 1 "x" ∷
          open_to 11 1 "x" ∷ open_to 12 1 "x" ∷ open_to 13 1 "x" ∷ open_to 14 1 "x" ∷ open_to 15 1 "x" ∷
          open_to 16 1 "x" ∷ open_to 17 1 "x" ∷ open_to 17 0 "y" ∷ [],
      ascii "2 1 x\n3 1 x\n4 1 x\n5 1 x\n6 1 x\n7 1 x\n8 1 x\n9 1 x\n10 1 x\n11 1 x\n12 1 x\n13 1 x\n14 1 x\n15 1 x\n16 1 x\n17 1 x\n! late 17 0 y\n",
    ) ∷
    []

pub ranges : map (λ r. (r.0, r.1, shows false r.0 r.1)) range_rows ≡ range_rows
unfolding decimal_by decimal place_of free_place twice noting shown_byte shown_text bid_text written written_all board_lines regarded
ranges = refl

-- recordings: what is shown, and what is said behind the last byte
abbrev recording_rows : List (List ℕ × List ℕ)
recording_rows =
    -- the paper's case
    (
      0x50 ∷ 0xF5 ∷ 0x5F ∷ 0x05 ∷ 0x00 ∷ 0x7E ∷ 0x21 ∷ 0x00 ∷ 0x51 ∷ 0x00 ∷ 0xF5 ∷ 0x5F ∷ 0x05 ∷ 0x00 ∷ 0x00 ∷ 0x41 ∷ 0xE4 ∷ 0xEC ∷ 0x7E ∷ [],
      ascii "20736 0 A\n",
    ) ∷
    -- an empty input, an unknown first byte
    (
      [],
      ascii "! wrong at 0\n",
    ) ∷ (
      0x51 ∷ [],
      ascii "! wrong at 0\n",
    ) ∷
    -- no record, and a record of one stream byte: nothing
    (
      0x50 ∷ [],
      [],
    ) ∷ (
      0x50 ∷ 0xF5 ∷ 0x5F ∷ 0x01 ∷ 0x00 ∷ 0x7E ∷ [],
      [],
    ) ∷
    -- it ends within a record, behind six bytes, one of them of the stream
    (0x50 ∷ 0xF5 ∷ 0x5F ∷ 0x02 ∷ 0x00 ∷ 0x7E ∷ [], ascii "! wrong at 6\n") ∷
    -- a wrong mark behind a record, bytes behind it
    (0x50 ∷ 0xF5 ∷ 0x5F ∷ 0x01 ∷ 0x00 ∷ 0x7E ∷ 0xF4 ∷ 0x5F ∷ [], ascii "! wrong at 6\n") ∷
    []

pub recordings : map (λ r. (r.0, recording_text false every_port r.0)) recording_rows ≡ recording_rows
unfolding decimal_by decimal place_of free_place twice noting shown_byte shown_text bid_text written written_all board_lines regarded
    heard apart in_stream next_at judge closed closed_by judge_contents judge_body scan last wrong_from right plain escape escape_byte fcs register entered
recordings = refl

-- Request W1, "Which bids did we miss?", each sentence over its theorem. A table is a list of places, `noting` and `forgetting` are what the
-- two calls answer and leave (proofs/Promises), of a table by value and of a lent one alike; `unfit es ≡ false`: the table passes 43.
-- fresh-table                            a fresh table
-- distance, distance-told, missing       the signed distance, what it tells, and how many are missing
-- first-packet, free-place, forgotten    a port's first packet, its place, and a port that is forgotten
-- others-stay, others-last               ports keep apart
-- only-full-shared                       only a full table refuses a new port
-- ..-refusals, ..-keeps, ..-keeps-out    the calls' refusals, row by row, and what a refused call leaves
-- notes-..                               .. of a call on a recording whose packets are noted; what it says and takes
-- missed-by-calls, missed-lines, missed-wrong   what bin/missed prints of a recording, by calls, line by line, and behind a wrong byte
-- kept-never-43                          a table that was kept by calls passes 43
use Prim.Native.Nat.{ℕ, ◌≤◌, ◌<◌, ◌+◌, ◌%◌}
use mathlib.Core.Path.{◌≡◌, refl, sym, ap, ◌∙◌}
use mathlib.Core.Bool.{Bool, true, false}
use mathlib.Core.Logic.{◌↔◌, ◌≢◌}
use mathlib.Core.List.{List, [], ◌∷◌, ◌++◌}
use mathlib.Core.Option.{Option, some, none, none-ne-some}
use native.Mathlib.Omega.{arith}
use lib.Dec.{ltb}
use lib.ListN.{length, get_or, set}
use borrow.Author.Tests.{ltb-true, ltb-false, le-ltb}
use Rattle.base.specs.Choice.{pick}
use Rattle.base.specs.Written.{write, Keeps}
use Rattle.base.proofs.Writing.{write_keeps}
use Rattle.base.specs.Calls.{joined, Yields}
use Rattle.packet_spec.specs.Contents.{raw_limit}
use Rattle.channel_spec.specs.Sender.{word_bytes}
use Rattle.listing_spec.specs.Apart.{fresh_spot, apart, is_wrong}
use Rattle.base.proofs.Stopping.{wanting}
use Rattle.channel.specs.Call.{Fine}
use Rattle.recording.specs.Deck.{Deck}
use Rattle.recording.specs.Call.{far}
use Rattle.recording.specs.Packets.{Item, delivered, refused, packet_call}
use Rattle.recording.proofs.Packets.{safe-on}
use Rattle.ports_spec.specs.declared.Range.{Range}
use Rattle.sheet_spec.specs.Recording.{brings}
use Rattle.missed_spec.specs.Line.{noted_line, longest}
use Rattle.missed_spec.specs.Meaning.{lines_of, missed}
use Rattle.missed_spec.proofs.Laws.{line-short, line-each, wrong-missed}
use Rattle.missed.specs.Wants.{Took}
use Rattle.missed.specs.Wants as notes
use Rattle.missed.specs.Page.{Page, fresh_page, Note, line, unheard, page_owes, page_hand, page_eat, page_all, page_hear, paged, page_call, text_of}
use Rattle.missed.specs.Call.{Part, part_by, takes, TookIs}
use Rattle.missed.proofs.Cutting.{page-hand-one, hear-means, missed-printed}
use Rattle.missed.proofs.Within.{take_within}
use Rattle.ports_spec.specs.declared.Entry.{Entry}
use Rattle.ports_spec.specs.declared.Noted.{Noted}
use Rattle.ports_spec.specs.declared.Noted.TheVariants.{First, Missing, Refused}
use Rattle.ports_spec.specs.Forgot.{Forgot, Forgotten, Refused as Unforgotten}
use Rattle.ports_spec.specs.Distance.{around, ruled, last_behind, Distance, Leads, meaning, follows}
use Rattle.ports_spec.specs.Ports.{fresh_table, freed, entry, unheld, place_of, free_place, last_of, unfit, last_at, noting, forgetting}
use Rattle.ports.specs.declared.by_value.Ports.{Ports}
use Rattle.ports.specs.ByValue.{fresh_ports}
use Rattle.ports_spec.specs.Refusing.{Held, Full, Call, keeps}
use Rattle.ports_spec.proofs.Signed.{distance_is, distance-only, rule-means, missing-between}
use Rattle.ports_spec.proofs.Laws.{first-free, free-is, others-noted, others-forgotten, entries-noted, noted-last, noted-first}
use Rattle.ports_spec.proofs.Laws.{first-last, only-full, forgotten-none, forgotten-at, forgotten-else, fresh-fit, fresh-none}
use Rattle.ports_spec.proofs.Refusing.{unfit-is, fit-not, held-is, away-not, full_is, free-not, rule-given, noting-keeps, forgetting-keeps}
use Rattle.ports_spec.proofs.Keeping.{never-43}
use Rattle.demands_laws.specs.Table.{Exact}
use Rattle.demands_laws.specs.Refusals.{ByCall, ByPacket}
use Rattle.demands.specs.Missed.{ByNoted, ByForgot, ByNotes, note_rows, forget_rows, take_rows}
use Rattle.demands_laws.proofs.Rows.{over, row, row-not, passed, wrote, not-less}
use Rattle.demands_laws.proofs.Taken.{packet-exact, packet-same}

-- "Keep beside the packets a small table of ports, up to 16, each with its last sequence number.": a fresh one has 16 places, holds no port
-- and passes 43
pub fresh-table : (length fresh_ports.entries ≡ 16) × (unfit fresh_ports.entries ≡ false) × ((port : ℕ) → last_of port fresh_ports.entries ≡ none)
fresh-table = (refl, fresh-fit, fresh-none)

-- "For a delivered packet take the signed distance from last to new, from -32,768 to 32,767, around 65,536.": there is one, and no other
pub distance : (last new : ℕ) → last < around → new < around
    → ((d : Distance) × Leads last new d) × ((d e : Distance) → Leads last new d → Leads last new e → d ≡ e)
distance last new h k = (distance_is last new h k, λ d e. distance-only last new d e h k)

-- "Distance 1 is in order, 0 is repeated, 2 and more means distance less one are missing, negative is late and leaves the last number."
pub distance-told : (es : List Entry) (port last sequence : ℕ) (d : Distance) → unfit es ≡ false → last_of port es ≡ some last
    → last < around → sequence < around → Leads last sequence d
    → ((noting es port sequence).0 ≡ meaning d) × (last_of port (noting es port sequence).1 ≡ some (follows d last sequence))
distance-told es port last sequence d f e h k leads =
    let r = rule-means last sequence d h k leads in
    let n = noted-last es port sequence last f e in
    (n.0 ∙ r.0, n.1 ∙ ap some r.1)

-- so many are missing as numbers stand between last and new
pub missing : (last new n : ℕ) → last < around → new < around → ruled last new ≡ Missing n → (1 ≤ n) × (n ≤ 32766) × ((last + n + 1) % around ≡ new)
missing = missing-between

-- "A port's first packet is "first"." and "a new port takes the first free place.": a place that is free, and before it every place is held
pub first-packet : (es : List Entry) (port sequence : ℕ) → unfit es ≡ false → last_of port es ≡ none → free_place es < length es
    → (noting es port sequence ≡ (First, set es (free_place es) (entry port sequence))) × (last_of port (noting es port sequence).1 ≡ some sequence)
first-packet es port sequence f e h = (noted-first es port sequence f e h, first-last es port sequence f e h)

pub free-place : (es : List Entry) → free_place es < length es
    → ((get_or es (free_place es) freed).held ≡ false) × ((i : ℕ) → i < free_place es → (get_or es i freed).held ≡ true)
free-place es h = (free-is es h, first-free es)

-- "A port may be forgotten, which frees its place and changes nothing else;": it is not held then, its place has port and last as they were
-- and is free, every other place is as it was
pub forgotten : (es : List Entry) (port : ℕ) → unfit es ≡ false → place_of port es < length es
    → (last_of port (forgetting es port).1 ≡ none)
    × (get_or (forgetting es port).1 (place_of port es) freed ≡ record
    { held = false; port = (get_or es (place_of port es) freed).port; last = (get_or es (place_of port es) freed).last })
    × ((i : ℕ) → i ≢ place_of port es → get_or (forgetting es port).1 i freed ≡ get_or es i freed)
forgotten es port f h = (forgotten-none es port f, forgotten-at es port f h, forgotten-else es port)

-- "Packets for one port never change another port's entry;": neither the entry, wherever it stands, nor its last number; nor does forgetting
pub others-stay : (es : List Entry) (port sequence i : ℕ) → (get_or es i freed).held ≡ true → (get_or es i freed).port ≢ port
    → get_or (noting es port sequence).1 i freed ≡ get_or es i freed
others-stay = entries-noted

pub others-last : (es : List Entry) (port sequence q : ℕ) → port ≢ q
    → (last_of q (noting es port sequence).1 ≡ last_of q es) × (last_of q (forgetting es port).1 ≡ last_of q es)
others-last es port sequence q n = (others-noted es port sequence q n, others-forgotten es port q n)

-- "only a full table is shared.": whatever other ports two tables hold, a packet is told the same in both where its port has the same last
-- number in both and both have a free place or neither
pub only-full-shared : (es fs : List Entry) (port sequence : ℕ) → unfit es ≡ false → unfit fs ≡ false → last_of port es ≡ last_of port fs
    → ltb (free_place es) (length es) ≡ ltb (free_place fs) (length fs) → (noting es port sequence).0 ≡ (noting fs port sequence).0
only-full-shared = only-full

-- "Refusals: 43 for a table of more than 16 places or with one port held twice; then 40 when a new port finds no free place, or 41 when a
-- port to forget is not held;"
refuses-noted : (m : ℕ) (es : List Entry) (n : ℕ) → ByNoted (Refused m, es) n ↔ n ≡ m
refuses-noted m es n = (λ e. let k : m ≡ n = cc in sym k, λ e i. Refused (sym e i))

refuses-forgot : (m : ℕ) (es : List Entry) (n : ℕ) → ByForgot (Unforgotten m, es) n ↔ n ≡ m
refuses-forgot m es n = (λ e. let k : m ≡ n = cc in sym k, λ e i. Unforgotten (sym e i))

pub note-refusals : (es : List Entry) (port sequence : ℕ) → Exact ByNoted (noting es port sequence) (note_rows es port)
unfolding noting
note-refusals es port sequence = row ByNoted (unfit es) (refuses-noted 43 es) (unfit-is es) (fit-not es) (go (ltb (place_of port es) (length es)) refl)
  where
    go : (b : Bool) → ltb (place_of port es) (length es) ≡ b
        → Exact ByNoted
        (pick b (ruled (last_at es port) sequence, set es (place_of port es) (entry port (last_behind (last_at es port) sequence)))
        (pick (ltb (free_place es) (length es)) (First, set es (free_place es) (entry port sequence)) (Refused 40, es)))
        ((40, (Held port es → ⊥) × Full es) ∷ [])
    go true e = over ByNoted (λ x. x.0 (held-is es port (ltb-true _ _ e))) (passed ByNoted (rule-given (last_at es port) sequence))
    go false e =
        row-not ByNoted (ltb (free_place es) (length es)) (refuses-noted 40 es) (λ k. (away-not es port (ltb-false _ _ e), full_is es (ltb-false _ _ k)))
        (λ k x. free-not es (ltb-true _ _ k) x.1) (passed ByNoted λ n q. let z : ◌≡◌ {A = ℕ} 0 1 = cc in omega arith)

pub forget-refusals : (es : List Entry) (port : ℕ) → Exact ByForgot (forgetting es port) (forget_rows es port)
unfolding forgetting
forget-refusals es port =
    row ByForgot (unfit es) (refuses-forgot 43 es) (unfit-is es) (fit-not es)
    (row-not ByForgot (ltb (place_of port es) (length es)) (refuses-forgot 41 es) (λ e. away-not es port (ltb-false _ _ e))
    (λ e x. x (held-is es port (ltb-true _ _ e))) (passed ByForgot λ n q. let z : ◌≡◌ {A = ℕ} 0 1 = cc in omega arith))

-- "the table stays."
pub note-keeps : (es : List Entry) (port sequence n : ℕ) → (noting es port sequence).0 ≡ Refused n → (noting es port sequence).1 ≡ es
note-keeps = noting-keeps

pub forget-keeps : (es : List Entry) (port n : ℕ) → (forgetting es port).0 ≡ Unforgotten n → (forgetting es port).1 ≡ es
forget-keeps = forgetting-keeps

-- a table that these calls keep never gets 43
pub kept-never-43 : (cs : List Call) (es : List Entry) (port sequence : ℕ) → unfit es ≡ false
    → ((noting (keeps cs es) port sequence).0 ≢ Refused 43) × ((forgetting (keeps cs es) port).0 ≢ Unforgotten 43)
kept-never-43 = never-43

-- the line of a packet noted
pub print-noted-refusals : (port sequence : ℕ) (a : Noted) (out : List ℕ)
    → Exact ByCall (write (noted_line port sequence a) out) ((23, length out < length (noted_line port sequence a)) ∷ [])
print-noted-refusals port sequence a out = wrote (noted_line port sequence a) out _ refl

pub print-noted-keeps-out : (port sequence : ℕ) (a : Noted) (out : List ℕ) → Keeps out (write (noted_line port sequence a) out)
print-noted-keeps-out port sequence a out = write_keeps (noted_line port sequence a) out

-- a call on a recording whose packets are noted: what it makes of a call for the next packet, and that it refuses where that does
abbrev part : Range → Ports → Option Item × ℕ × Deck → Part
part r t x = part_by (paged r t x).0 (paged r t x).1 (paged r t x).2

part-refuses : (r : Range) (t : Ports) (o : Option Item) (k : ℕ) (m : Deck) (n : ℕ) → ByNotes (part r t (o, k, m)) n ↔ ByPacket (o, k, m) n
part-refuses r t none k m n = (
  (λ e. let z : ◌≡◌ {A = ℕ} 0 1 = cc in absurd (omega arith)),
  (λ e. absurd (none-ne-some (refused n) e)),
)
part-refuses r t (some (delivered p)) k m n = (
  (λ e. let z : ◌≡◌ {A = ℕ} 0 1 = cc in absurd (omega arith)),
  (λ e. let z : ◌≡◌ {A = ℕ} 0 1 = cc in absurd (omega arith)),
)
part-refuses r t (some (refused j)) k m n = (
  (λ e. let z : j ≡ n = cc in λ i. some (refused (z i))),
  (λ e. let z : j ≡ n = cc in λ i. notes.Refused (z i)),
)

refuses-notes : (m : ℕ) (g : Page) (n : ℕ) → ByNotes (part_by (some (unheard m)) 0 g) n ↔ n ≡ m
refuses-notes m g n = (λ e. let z : m ≡ n = cc in sym z, λ e i. notes.Refused (sym e i))

part-wanting : (o : Option Note) (k : ℕ) (h : Page) → ((part_by o k h).wants ≡ notes.More) ↔ (o ≡ none)
part-wanting none k h = (λ e. refl, λ e. refl)
part-wanting (some (line l)) k h = (
  (λ e. let z : ◌≡◌ {A = ℕ} 0 1 = cc in absurd (omega arith)),
  (λ e. absurd (none-ne-some (line l) (sym e))),
)
part-wanting (some (unheard n)) k h = (
  (λ e. let z : ◌≡◌ {A = ℕ} 0 1 = cc in absurd (omega arith)),
  (λ e. absurd (none-ne-some (unheard n) (sym e))),
)

part-is : (o : Option Note) (k : ℕ) (h : Page) → ((part_by o k h).taken ≡ k) × ((part_by o k h).page ≡ h)
part-is none k h = (refl, refl)
part-is (some (line l)) k h = (refl, refl)
part-is (some (unheard n)) k h = (refl, refl)

module _ (room : ℕ) (g : Page) (bs : List ℕ) where
  abbrev called : Option Item × ℕ × Deck
  called = packet_call g.deck bs

  as-packet : (n : ℕ) → ByNotes (part g.range g.ports called) n ↔ ByPacket called n
  as-packet = part-refuses g.range g.ports called.0 called.1 called.2

  -- row by row ..
  pub notes-refusals : Exact ByNotes (takes room g bs) (take_rows room g (length bs))
  notes-refusals =
      let x = packet-exact g.deck bs in
      row ByNotes (ltb room longest) (refuses-notes 23 g) (ltb-true _ _) (not-less _ _)
      (record { says = λ n. (λ e. (x.says n).0 ((as-packet n).0 e), λ f. (as-packet n).1 ((x.says n).1 f)) })

  -- .. and refused, it takes no byte and prints none; table, state and buffers are as they were
  pub notes-keeps : (n : ℕ) → ByNotes (takes room g bs) n → takes room g bs ≡ record { wants = notes.Refused n; taken = 0; text = []; page = g }
  notes-keeps n = go (ltb room longest)
    where
      go : (t : Bool) → ByNotes (pick t (part_by (some (unheard 23)) 0 g) (part g.range g.ports called)) n
          → pick t (part_by (some (unheard 23)) 0 g) (part g.range g.ports called) ≡ part_by (some (unheard n)) 0 g
      go true e = λ i. record { wants = e i; taken = 0; text = []; page = g }
      go false e = ap (part g.range g.ports) (packet-same g.deck bs n ((as-packet n).0 e))

  -- .. not refused, it says "more" exactly when all bytes are taken, a stored word is handed on whole and no packet was in them
  pub notes-wanting : longest ≤ room → Fine g.deck.ear.memory → g.deck.spot.offset + length bs ≤ far
      → let x = takes room g bs in
      (x.wants ≡ notes.More) ↔ ((x.taken ≡ length bs) × (page_owes x.page ≡ 0) × ((page_all g bs).0 ≡ []))
  notes-wanting enough f o =
      let y : Option Note × ℕ × Page = page_hear g bs in
      let heard : page_call g bs ≡ y =
      ap (paged g.range g.ports) (safe-on g.deck bs 0 (record { fine = f; offset = omega (arith, o) }))
      ∙ sym (hear-means g.range g.deck bs g.ports) in
      let is : takes room g bs ≡ part_by y.0 y.1 y.2 =
      ap (λ (t : Bool). pick t (part_by (some (unheard 23)) 0 g) (part_by (page_call g bs).0 (page_call g bs).1 (page_call g bs).2))
      (le-ltb room longest enough)
      ∙ ap (λ (z : Option Note × ℕ × Page). part_by z.0 z.1 z.2) heard in
      let w = wanting page_owes page_hand page_eat page-hand-one g bs in
      let p = part-is y.0 y.1 y.2 in
      let m = part-wanting y.0 y.1 y.2 in
      rw is (
        (λ e. let q = w.0 (m.0 e) in (p.0 ∙ q.0, ap page_owes p.1 ∙ q.1, q.2)),
        (λ q. m.1 (w.1 (sym p.0 ∙ q.0, ap page_owes (sym p.1) ∙ q.1, q.2))),
      )

-- .. and whatever its state is, it takes no more bytes than are lent, and writes no more than the output holds
pub notes-within : (g : Page) (bs old : List ℕ) {r : Took} {l k out : List ℕ} → TookIs (takes (length old) g bs) r l k old out
    → (r.taken ≤ length bs) × (r.written ≤ length out)
notes-within g bs old h = take_within g bs old h

-- what bin/missed prints of a recording below 2^64 bytes: however it is cut and whatever the lent buffers held, the calls come to their end, and their
-- text is the definition's: the lines of its delivered packets of the range, in order, each by the table that those before it left; and behind them
-- the recording stands where the definition ends
pub missed-by-calls : (range : Range) (file : List ℕ) → length file ≤ far
    → (recv word : List ℕ) → raw_limit ≤ length recv → word_bytes ≤ length word → (pieces : List (List ℕ)) → joined pieces ≡ file
    → Yields page_call (fresh_page range recv word) pieces λ xs g. (text_of xs ≡ missed range file) × (g.deck.spot ≡ (apart fresh_spot file).1)
missed-by-calls = missed-printed

-- .. a line for each packet of the range, of at most 71 bytes
pub missed-lines : (range : Range) (file : List ℕ)
    → (length (lines_of fresh_table (brings range file).1) ≡ length (brings range file).1)
    × ((port sequence : ℕ) (a : Noted) → length (noted_line port sequence a) ≤ longest)
missed-lines range file = (line-each fresh_table (brings range file).1, line-short)

-- .. and nothing that comes behind a wrong byte changes it
pub missed-wrong : (range : Range) (file more : List ℕ) → is_wrong (apart fresh_spot file).1.place ≡ true → missed range (file ++ more) ≡ missed range file
missed-wrong = wrong-missed

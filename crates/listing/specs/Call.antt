-- What a call on a recording prints.
-- Printed                what a call gives
-- print                  lines, while there is room for any line
-- takes, TookIs          one call, and that the code's results are those
-- last_of, finishing      the last line
-- fresh_recording         before the first byte, and nothing counted
-- printed, further       nothing taken or printed; the same behind bytes taken and a text printed
-- on_answer               a call's answer: none, or the line of one and then more
-- near_totals, near       no number can pass its width in a call
-- takes_by, took_of, recorded   a call by its refusals; the code's result of it, and the code's state
-- last_by                 the last line, by: may the recording end here
use Rattle.std.specs.Prelude.{ℕ, zero, suc, ◌+◌, ◌-◌, ◌≡◌, Bool, true, false, ◌&&◌, List, [], ◌++◌, ltb, leb, length, drop}
use Rattle.std.proofs.Math.Option.{Option, some, none}
use Rattle.base.specs.Choice.{pick}
use Rattle.base.specs.Written.{Outcome, write}
use Rattle.channel_spec.specs.Meaning.{Event}
use Rattle.channel.specs.Call.{sound, roomy}
use Rattle.channel_spec.specs.declared.Answer.{Answer}
use Rattle.listing_spec.specs.declared.Spot.{Spot}
use Rattle.listing_spec.specs.Apart.{well}
use Rattle.listing_spec.specs.Lines.{line, given, end_line, wrong_line, longest}
use Rattle.recording.specs.Deck.{Deck, deck_hear}
use Rattle.recording.specs.Call.{fresh_tape, far, near_spot, tape_of}
pub use Rattle.recording.specs.Call.{deck_of}
use Rattle.listing_lines.specs.declared.totals.Totals.{Totals}
pub use Rattle.listing_lines.specs.Counts.{no_totals, counted}
use Rattle.listing.specs.declared.lister.Lister.{Lister}
use Rattle.listing.specs.Wants.{Wants}
use Rattle.listing.specs.Wants.{More, Room, Refused}
use Rattle.listing.specs.declared.lister.Took.{Took}
use Rattle.listing.specs.Wants.{Got, as_got}

-- before the first byte, and nothing counted
abbrev pub fresh_recording : Lister
fresh_recording = record { tape = fresh_tape; totals = no_totals }

-- what is wanted next, the bytes taken, the bytes printed, and how the deck and the totals stand then
pub record Printed : Type 0 where
  pub wants : Wants
  pub taken : ℕ
  pub text : List ℕ
  pub deck : Deck
  pub totals : Totals

-- nothing taken or printed
abbrev pub printed : Wants → Deck → Totals → Printed
printed w m t = record { wants = w; taken = 0; text = []; deck = m; totals = t }

-- the same behind n bytes taken and a text printed
abbrev pub further : ℕ → List ℕ → Printed → Printed
further n ws r = record { wants = r.wants; taken = n + r.taken; text = ws ++ r.text; deck = r.deck; totals = r.totals }

-- a call's answer: none, or the line of one and then more
abbrev pub on_answer : {B : Type 0} → Option Event → B → (Answer → B) → B
on_answer none x k = x
on_answer (some e) x k = k (given e)

-- at most f lines, into so much room: an answer is asked for only where any line has room (f is the room: each line has a byte at least)
unfoldable pub print : ℕ → ℕ → Deck → Totals → List ℕ → Printed
print zero room m t bs = printed Room m t
print (suc f) room m t bs =
    pick (ltb room longest) (printed Room m t)
    (on_answer (deck_hear m bs).0 (further (deck_hear m bs).1 [] (printed More (deck_hear m bs).2 t))
    (λ a. further (deck_hear m bs).1 (line a) (print f (room - length (line a)) (deck_hear m bs).2 (counted t a) (drop (deck_hear m bs).1 bs))))

-- no total can pass its width while so many bytes are written: each line has a byte at least
abbrev pub near_totals : Totals → ℕ → Bool
near_totals t room =
    leb t.packets (far - room) && (leb t.refused (far - room) && (leb t.damaged (far - room) && leb t.lost (far - room)))

-- no number of the state can pass its width in a call on n bytes with so much room
abbrev pub near : Spot → Totals → ℕ → ℕ → Bool
near p t n room = near_spot p n && near_totals t room

-- by: does it pass 10 (the receiver's counts, and these numbers), does it pass 11 (the buffers)
abbrev pub takes_by : Bool → Bool → Bool → Deck → Totals → ℕ → List ℕ → Printed
takes_by false n b m t room bs = printed (Refused 10) m t
takes_by true false b m t room bs = printed (Refused 10) m t
takes_by true true false m t room bs = printed (Refused 11) m t
takes_by true true true m t room bs = print room room m t bs

-- one call
abbrev pub takes : Deck → Totals → ℕ → List ℕ → Printed
takes m t room bs =
    takes_by (sound m.ear.memory.st) (near m.spot t (length bs) room) (roomy m.ear.memory.recv m.ear.memory.word) m t room bs

-- the code's state of a deck and totals
abbrev pub recorded : Deck → Totals → Lister
recorded m t = record { tape = tape_of m; totals = t }

-- the code's result of a call
abbrev pub took_of : Printed → Got
took_of x = record { wants = x.wants; taken = x.taken; written = length x.text; next = recorded x.deck x.totals }

-- r is the result of a call, l and k the receiver's buffers and out the output then, which held old before
abbrev pub TookIs : Printed → Took → List ℕ → List ℕ → List ℕ → List ℕ → Type 0
TookIs x r l k old out =
    (as_got r ≡ took_of x) × (l ≡ x.deck.ear.memory.recv) × (k ≡ x.deck.ear.memory.word) × (out ≡ x.text ++ drop (length x.text) old)

-- the last line: `E` or `X`, by: may the recording end here
abbrev pub last_by : Bool → Lister → List ℕ
last_by true r = end_line r.tape.spot.count r.totals.packets r.totals.refused r.totals.damaged r.totals.lost
last_by false r = wrong_line r.tape.spot.offset

-- the last line of a recording
abbrev pub last_of : Lister → List ℕ
last_of r = last_by (well r.tape.spot.place) r

-- the finishing call
abbrev pub finishing : Lister → List ℕ → Outcome
finishing r out = write (last_of r) out

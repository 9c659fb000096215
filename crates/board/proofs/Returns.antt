-- The board's code, return by return.
-- next-none .. next-feed      the next piece
-- forth-on, forth-next        a byte further
-- finish-bare ..              behind the last byte
-- heard-bare, heard-taped   one call on what comes in
-- next-byte                   a byte of the text
-- finish-well, finish-wrong   of a recording that ends as one, and of another
use Prim.Native.Nat.{ℕ, suc, ◌≤◌, ◌<◌}
use mathlib.Core.Path.{◌≡◌, refl, sym, ◌∙◌, ap, subst}
use mathlib.Core.Bool.{Bool, true, false}
use mathlib.Core.List.{List, [], ◌∷◌, append-nil}
use mathlib.Core.Option.{Option}
use lib.ListN.{length, get_or}
use borrow.Author.Tests.{lt-ltb, le-ltb}
use Rattle.base.specs.Choice.{pick}
use Rattle.base.proofs.Tests.{and_parts}
use Rattle.channel_spec.specs.Meaning.{Event}
use Rattle.channel.specs.Call.{Memory, sound, roomy, hear_on, hear_call}
use Rattle.bid.specs.Line.{feed}
use Rattle.listing_spec.specs.Apart.{well}
use Rattle.board_spec.specs.Text.{shown_byte}
use Rattle.board_spec.specs.Meaning.{wrong_at, written, written_all}
use Rattle.board_lines.specs.declared.Piece.{Piece}
use Rattle.board_lines.specs.Piece.{piece_of}
use Rattle.recording.specs.declared.reader.Hearing.{Hearing}
use Rattle.recording.specs.Deck.{Deck}
use Rattle.recording.specs.Call.{deck_of, near_spot, tape_call, NextIs}
use Rattle.recording.proofs.Next.{next-heard}
use Rattle.board.specs.declared.owed.Owed.{Owed}
use Rattle.board.specs.declared.readout.Readout.{Readout}
use Rattle.board.specs.Source.{Source, source, memory_in, with_memory, source_hear}
use Rattle.board.specs.Owed.{alone, nothing, payload_in, text_byte, text_piece, next_piece, further, forth}
use Rattle.board.specs.Call.{near_by, sound_state, last_by, last_lines}
use Rattle.board.specs.Private.{BareIs, HeardIs}
use Rattle.board.proofs.Sources.{hear-bare, hear-taped}

-- ---- the next piece: none, a byte of the text, its line feed
module _ (o : Owed) (recv : List ℕ) where
  pub next-none : {r : Owed} → o.text ≡ false → r ≡ nothing → r ≡ next_piece o recv
  unfolding next_piece
  next-none e h = rw e h

  module _ {text : List ℕ} (on : o.text ≡ true) (is : text ≡ payload_in o.delivery recv) where
    pub next-byte : {p : Piece} {n : ℕ} → o.at < length text → p ≡ piece_of (shown_byte (get_or text o.at 0)) → n ≡ suc o.at
        → record { piece = p; out = 0; text = o.text; delivery = o.delivery; at = n } ≡ next_piece o recv
    unfolding next_piece
    next-byte h e k =
        (λ i. record { piece = e i; out = 0; text = on i; delivery = o.delivery; at = k i })
        ∙ ap (λ t. pick t (text_byte o text) (alone (piece_of (feed ∷ [])))) (sym (lt-ltb o.at (length text) h))
        ∙ ap (text_piece o) is ∙ ap (λ t. pick t (text_piece o (payload_in o.delivery recv)) nothing) (sym on)

    pub next-feed : {r : Owed} {p : Piece} → length text ≤ o.at → r ≡ alone p → p ≡ piece_of (feed ∷ []) → r ≡ next_piece o recv
    unfolding next_piece
    next-feed h e k =
        e ∙ ap alone k ∙ ap (λ t. pick t (text_byte o text) (alone (piece_of (feed ∷ [])))) (sym (le-ltb o.at (length text) h))
        ∙ ap (text_piece o) is ∙ ap (λ t. pick t (text_piece o (payload_in o.delivery recv)) nothing) (sym on)

-- ---- a byte is out
module _ (o : Owed) (recv : List ℕ) where
  pub forth-on : {n : ℕ} → n ≡ suc o.out → n < o.piece.length
      → record { piece = o.piece; out = n; text = o.text; delivery = o.delivery; at = o.at } ≡ forth o recv
  unfolding forth
  forth-on e h =
      (λ i. record { piece = o.piece; out = e i; text = o.text; delivery = o.delivery; at = o.at })
      ∙ ap (λ t. pick t (further o) (next_piece o recv)) (sym (lt-ltb (suc o.out) o.piece.length (subst (λ k. k < o.piece.length) e h)))

  pub forth-next : {n : ℕ} {r : Owed} → o.piece.length ≤ n → n ≡ suc o.out → r ≡ next_piece o recv → r ≡ forth o recv
  unfolding forth
  forth-next h k e = e ∙ ap (λ t. pick t (further o) (next_piece o recv))
      (sym (le-ltb (suc o.out) o.piece.length (subst (λ m. o.piece.length ≤ m) k h)))

-- ---- behind the last byte
module _ (r : Readout) {p : Piece} where
  pub finish-bare : r.bare ≡ true → p ≡ piece_of [] → p ≡ piece_of (written_all (last_lines r))
  unfolding written_all
  finish-bare e h = h ∙ ap (λ t. piece_of (written_all (last_by t r.tape.spot))) (sym e)

  pub finish-well : r.bare ≡ false → well r.tape.spot.place ≡ true → p ≡ piece_of [] → p ≡ piece_of (written_all (last_lines r))
  unfolding written_all
  finish-well e f h =
      h ∙ ap (λ t. piece_of (written_all (pick t [] (wrong_at r.tape.spot.offset ∷ [])))) (sym f)
      ∙ ap (λ t. piece_of (written_all (last_by t r.tape.spot))) (sym e)

  pub finish-wrong : r.bare ≡ false → well r.tape.spot.place ≡ false → p ≡ piece_of (written (wrong_at r.tape.spot.offset))
      → p ≡ piece_of (written_all (last_lines r))
  unfolding written_all
  finish-wrong e f h =
      h ∙ ap piece_of (sym (append-nil (written (wrong_at r.tape.spot.offset))))
      ∙ ap (λ t. piece_of (written_all (pick t [] (wrong_at r.tape.spot.offset ∷ [])))) (sym f)
      ∙ ap (λ t. piece_of (written_all (last_by t r.tape.spot))) (sym e)

-- ---- what comes in
module _ (r : Readout) (recv word bs : List ℕ) (ok : sound_state r (length bs) ≡ true) (room : roomy recv word ≡ true) where
  abbrev m : Deck
  m = deck_of r.tape recv word

  sound-receiver : sound r.tape.receiver ≡ true
  sound-receiver = (and_parts (sound r.tape.receiver) _ ok).0

  near-it : near_by r.bare r.tape.spot (length bs) ≡ true
  near-it = (and_parts (near_by r.bare r.tape.spot (length bs)) _ (and_parts (sound r.tape.receiver) _ ok).1).0

  bare-on : hear_call (memory_in m) bs ≡ hear_on (memory_in m) bs
  bare-on = rw (sound-receiver, room) refl

  pub heard-bare : {h : Hearing} {l k : List ℕ} → r.bare ≡ true → BareIs m bs h l k → HeardIs r.bare (source_hear (source r.bare m) bs) h l k
  heard-bare {h} {l} {k} e b =
      subst (λ (t : Bool). HeardIs t (source_hear (source t m) bs) h l k) (sym e)
      (subst (λ (x : Option Event × ℕ × Source). HeardIs true x h l k)
      (sym (hear-bare m bs ∙ ap (λ (x : Option Event × ℕ × Memory). (x.0, x.1, source true (with_memory m x.2))) (sym bare-on))) (
        b.0,
        (λ i. ((hear_call (memory_in m) bs).0, sym b.1 i, source true (sym b.2 i))),
      ))

  pub heard-taped : {h : Hearing} {l k : List ℕ} → r.bare ≡ false → NextIs (tape_call m bs) h l k → HeardIs r.bare (source_hear (source r.bare m) bs) h l k
  heard-taped {h} {l} {k} e n =
      let near : near_spot r.tape.spot (length bs) ≡ true = sym (ap (λ t. near_by t r.tape.spot (length bs)) e) ∙ near-it in
      let c = (next-heard r.tape recv word bs sound-receiver near room n).0 in
      subst (λ (t : Bool). HeardIs t (source_hear (source t m) bs) h l k) (sym e)
      (subst (λ (x : Option Event × ℕ × Source). HeardIs false x h l k) (sym (hear-taped m bs))
      (c.0, (λ i. ((c.1 i).0, (c.1 i).1, source false (c.1 i).2))))

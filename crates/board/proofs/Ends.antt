-- Calls come to their end: with room for a byte at least in each, a run exists for every cutting.
-- Safe                  so many bytes may still come: no call on them is refused
-- safe-on               a call that is safe is not refused, and behind it the rest may still come
-- run_ends              such a run
-- NearBy, SafeSource    the offset cannot pass its width on n bytes more; n bytes of what comes in may still come
use Prim.Native.Nat.{ℕ, zero, suc, ◌+◌, ◌-◌, ◌≤◌, ◌<◌}
use native.Mathlib.Omega.{arith}
use mathlib.Core.Path.{◌≡◌, refl, sym, ◌∙◌, ap, subst}
use mathlib.Core.Bool.{Bool, true, false}
use mathlib.Core.List.{List, [], ◌∷◌, ◌++◌, tail-eq_of_cons-eq}
use mathlib.Core.Option.{Option, some, none}
use lib.Dec.{eqb, ltb}
use lib.ListN.{length, drop, length-append, length-drop}
use borrow.Author.Tests.{le-leb, le-ltb, ltb-true, ltb-false}
use Rattle.base.specs.Choice.{pick}
use Rattle.base.specs.Calls.{joined, told}
use Rattle.base.proofs.Calls.{law, inv-hear}
use Rattle.base.proofs.Tests.{by-test}
use Rattle.packet_spec.specs.Contents.{key_format}
use Rattle.packet_spec.specs.Frame.{packet, refusal, broken, delivery}
use Rattle.channel_spec.specs.Meaning.{Event, said, block, lost}
use Rattle.channel.specs.Call.{Fine, owed, hand_on, eat_byte}
use Rattle.channel.proofs.Cutting.{hand-one}
use Rattle.channel.proofs.Fine.{fine-is, fine-roomy, fine-eat, fine-hand}
use Rattle.listing_spec.specs.declared.Spot.{Spot}
use Rattle.listing_spec.specs.Lines.{given, longest}
use Rattle.ports_spec.specs.declared.Entry.{Entry}
use Rattle.ports_spec.specs.declared.Noted.{Noted}
use Rattle.ports_spec.specs.declared.Range.{Range}
use Rattle.ports_spec.specs.Ports.{unfit, noting}
use Rattle.ports_spec.specs.Range.{inside}
use Rattle.ports_spec.proofs.Keeping.{fit-noted}
use Rattle.board_spec.specs.Meaning.{table_behind, regards}
use Rattle.board_spec.specs.Parts.{lead}
use Rattle.board_spec.proofs.Split.{lead-short, remark-short}
use Rattle.board_lines.specs.Piece.{piece_of}
use Rattle.recording.specs.Deck.{Deck, deck_hear}
use Rattle.recording.specs.Call.{far}
use Rattle.recording.proofs.Kept.{Kept, hear-kept}
use Rattle.board.specs.declared.owed.Owed.{Owed}
use Rattle.board.specs.Wants.{More, Again}
use Rattle.board.specs.Source.{Source, source, memory_in, source_owes, source_hand, source_eat, source_all, source_hear}
use Rattle.board.specs.Owed.{alone, nothing, with_text, owing, forth, forth_by}
use Rattle.board.specs.Call.{Screen, recv_on, owed_on, Part, part, partly, table_for, heard_by, takes_on, near_by, takes}
use Rattle.board.specs.Runs.{Shows, more, again, done, piece, Run}
use Rattle.board.proofs.Sources.{source-hand-one, hear-bare, hear-taped}
use Rattle.board.proofs.Left.{Whole, piece-whole, forth-short, left_by}
use Rattle.board.proofs.Means.{owed_whole}

-- the offset cannot pass its width on n bytes more; bare bytes have none
abbrev pub NearBy : Bool → Spot → ℕ → Type 0
NearBy true p n = Unit {0}
NearBy false p n = p.offset + n ≤ far

-- n bytes of what comes in may still come
pub record SafeSource (s : Source) (n : ℕ) : Type 0 where
  pub fine : Fine (memory_in s.deck)
  pub near : NearBy s.bare s.deck.spot n

-- of the board
pub record Safe (s : Screen) (n : ℕ) : Type 0 where
  pub source : SafeSource s.source n
  pub fit : unfit s.table ≡ false
  pub short : s.owed.piece.length ≤ longest
  pub whole : Whole s.owed

-- ---- what comes in
near-fewer : (b : Bool) (p : Spot) (n k : ℕ) → NearBy b p (n + k) → NearBy b p k
near-fewer true p n k h = tt
near-fewer false p n k h = omega (arith, h)

near-test : (b : Bool) (p : Spot) (n k : ℕ) → NearBy b p (n + k) → near_by b p n ≡ true
near-test true p n k h = refl
near-test false p n k h = le-leb p.offset (far - n) (omega (arith, h))

taped-behind : (m : Deck) (bs : List ℕ) (k : ℕ) → SafeSource (source false m) (length bs + k)
    → SafeSource (source false (deck_hear m bs).2) (length (drop (deck_hear m bs).1 bs) + k)
taped-behind m bs k i =
    let c : Kept m bs (deck_hear m bs).1 (deck_hear m bs).2 = hear-kept m bs i.fine in
    record { fine = c.fine; near = omega (arith, i.near, c.within, c.near, length-drop (deck_hear m bs).1 bs) }

source-behind : (b : Bool) (m : Deck) (bs : List ℕ) (k : ℕ) → SafeSource (source b m) (length bs + k)
    → SafeSource (source_hear (source b m) bs).2 (length (drop (source_hear (source b m) bs).1 bs) + k)
source-behind true m bs k i =
    subst (λ (r : Option Event × ℕ × Source). SafeSource r.2 (length (drop r.1 bs) + k)) (sym (hear-bare m bs))
    (record { fine = inv-hear owed hand_on eat_byte hand-one Fine fine-hand fine-eat (memory_in m) bs i.fine; near = tt })
source-behind false m bs k i =
    subst (λ (r : Option Event × ℕ × Source). SafeSource r.2 (length (drop r.1 bs) + k)) (sym (hear-taped m bs)) (taped-behind m bs k i)

-- ---- what is owed
by-short : (n : ℕ) (o : Owed) (recv : List ℕ) → o.piece.length ≤ longest → (forth_by n o recv).piece.length ≤ longest
unfolding forth_by
by-short zero o recv h = h
by-short (suc n) o recv h = by-short n (forth o recv) recv (forth-short o recv h)

owing-short : (b : Bool) (r : Range) (t : List Entry) (e : Event) → (owing b r t (given e)).piece.length ≤ longest
owing-short b r t (said (packet p)) = go (noting t p.port p.sequence).0 (inside r p.port) (eqb p.format key_format)
  where
    go : (v : Noted) (n f : Bool)
        → (pick n (pick f (alone (piece_of (lead v (delivery p)))) (with_text (piece_of (lead v (delivery p))) (delivery p))) nothing).piece.length ≤ longest
    go v true true = lead-short v (delivery p)
    go v true false = lead-short v (delivery p)
    go v false f = omega arith
owing-short b r t (said (refusal n)) = remark-short b (given (said (refusal n)))
owing-short b r t (said (broken n)) = remark-short b (given (said (broken n)))
owing-short b r t (block c) = remark-short b (given (block c))
owing-short b r t lost = remark-short b (given lost)

table-fit : (t : List Entry) (e : Event) → unfit t ≡ false → unfit (table_behind t e) ≡ false
table-fit t (said (packet p)) h = fit-noted t p.port p.sequence h
table-fit t (said (refusal n)) h = h
table-fit t (said (broken n)) h = h
table-fit t (block c) h = h
table-fit t lost h = h

-- by the range
range-fit : (r : Range) (t : List Entry) (e : Event) → unfit t ≡ false → unfit (table_for r t e) ≡ false
range-fit r t e h = go (regards r e)
  where
    go : (f : Bool) → unfit (pick f (table_behind t e) t) ≡ false
    go true = table-fit t e h
    go false = h

-- ---- a call that is safe is not refused ..
pub safe-on : (room : ℕ) (s : Screen) (bs : List ℕ) (k : ℕ) → Safe s (length bs + k) → takes room s bs ≡ takes_on room s bs
safe-on room s bs k i =
    rw (
      fine-is (memory_in s.source.deck) i.source.fine,
      near-test s.source.bare s.source.deck.spot (length bs) k i.source.near,
      i.fit,
      le-leb s.owed.piece.length longest i.short,
      fine-roomy (memory_in s.source.deck) i.source.fine,
    ) refl

-- .. and behind it the rest may still come
partly-safe : (room : ℕ) (s : Screen) (n : ℕ) → room ≤ length (owed_on s) → Safe s n → Safe (partly room s).screen n
partly-safe room s n h i = record {
  source = i.source;
  fit = i.fit;
  short = by-short room s.owed (recv_on s) i.short;
  whole = (left_by room s.owed (recv_on s) i.whole h).1;
}

heard-safe : (s : Screen) (n : ℕ) (r : Option Event × ℕ × Source) → unfit s.table ≡ false → SafeSource r.2 n → Safe (heard_by s r).screen n
heard-safe s n (none, m, x) f i = record { source = i; fit = f; short = omega arith; whole = piece-whole [] }
heard-safe s n (some e, m, x) f i = record {
  source = i;
  fit = range-fit s.range s.table e f;
  short = owing-short s.blocks s.range s.table e;
  whole = owed_whole s.blocks s.range s.table e;
}

behind-safe : (s : Screen) (bs : List ℕ) (k : ℕ) → Safe s (length bs + k)
    → Safe (heard_by s (source_hear s.source bs)).screen (length (drop (source_hear s.source bs).1 bs) + k)
behind-safe s bs k i =
    heard-safe s (length (drop (source_hear s.source bs).1 bs) + k) (source_hear s.source bs) i.fit
    (source-behind s.source.bare s.source.deck bs k i.source)

fewer : (s : Screen) (n k : ℕ) → Safe s (n + k) → Safe s k
fewer s n k i = record {
  source = record { fine = i.source.fine; near = near-fewer s.source.bare s.source.deck.spot n k i.source.near };
  fit = i.fit;
  short = i.short;
  whole = i.whole;
}

-- ---- runs
module _ (rooms : ℕ → ℕ) (some-room : (i : ℕ) → 0 < rooms i) where
  more_by : {i n : ℕ} {s u : Screen} {bs text : List ℕ} → takes (rooms i) s bs ≡ part More n text u → Shows rooms i s bs (suc i) text u
  more_by {i} {s = s} {bs = bs} e =
      subst (λ (p : Part). Shows rooms i s bs (suc i) p.text p.screen) e (more (ap (λ (p : Part). p.wants) e))

  again_by : {i j n : ℕ} {s t u : Screen} {bs text texts : List ℕ} → takes (rooms i) s bs ≡ part Again n text t → Shows rooms (suc i) t (drop n bs) j texts u
      → Shows rooms i s bs j (text ++ texts) u
  again_by {i} {j} {s = s} {u = u} {bs = bs} {texts = texts} e r =
      subst (λ (p : Part). Shows rooms i s bs j (p.text ++ texts) u) e
      (again (ap (λ (p : Part). p.wants) e) (subst (λ (p : Part). Shows rooms (suc i) p.screen (drop p.taken bs) j texts u) (sym e) r))

  -- a piece's calls from number i on, with n bytes to come behind it
  record Ended (i : ℕ) (s : Screen) (bs : List ℕ) (n : ℕ) : Type 0 where
    pub calls : ℕ
    pub text : List ℕ
    pub screen : Screen
    pub shows : Shows rooms i s bs calls text screen
    pub safe : Safe screen n

  -- where what is owed has room
  abbrev Hears : List Event → Type 0
  Hears es = (i : ℕ) (s : Screen) (bs : List ℕ) (n : ℕ) → (source_all s.source bs).0 ≡ es → Safe s (length bs + n) → length (owed_on s) ≤ rooms i
      → Ended i s bs n

  -- .. and where so many bytes of it are left
  abbrev Writes : List Event → Type 0
  Writes es = (k i : ℕ) (s : Screen) (bs : List ℕ) (n : ℕ) → (source_all s.source bs).0 ≡ es → Safe s (length bs + n) → length (owed_on s) ≤ k → Ended i s bs n

  again-ended : {i m n : ℕ} {s t : Screen} {bs text : List ℕ} → takes (rooms i) s bs ≡ part Again m text t → Ended (suc i) t (drop m bs) n → Ended i s bs n
  again-ended {text = text} e r = record {
    calls = r.calls;
    text = text ++ r.text;
    screen = r.screen;
    shows = again_by e r.shows;
    safe = r.safe;
  }

  writes : (es : List Event) → Hears es → Writes es
  unfolding takes_on
  writes es hears k i s bs n e safe h = go k i s bs n e safe h
    where
      go : Writes es
      go zero i s bs n e safe h = hears i s bs n e safe (omega arith)
      go (suc k) i s bs n e safe h =
          by-test (ltb (rooms i) (length (owed_on s)))
          (λ l.
          let m : rooms i < length (owed_on s) = ltb-true (rooms i) (length (owed_on s)) l in
          let q = (left_by (rooms i) s.owed (recv_on s) safe.whole (omega arith)).0 in
          again-ended (safe-on (rooms i) s bs n safe ∙ ap (λ t. pick t (partly (rooms i) s) (heard_by s (source_hear s.source bs))) l)
          (go k (suc i) (partly (rooms i) s).screen bs n e (partly-safe (rooms i) s (length bs + n) (omega arith) safe)
          (omega (arith, some-room i, h, ap length q, length-drop (rooms i) (owed_on s)))))
          (λ l. hears i s bs n e safe (ltb-false (rooms i) (length (owed_on s)) l))

  -- a call that hears, by what it hears
  hearing : (i : ℕ) (s : Screen) (bs : List ℕ) (n : ℕ) → Safe s (length bs + n) → length (owed_on s) ≤ rooms i
      → takes (rooms i) s bs ≡ heard_by s (source_hear s.source bs)
  unfolding takes_on
  hearing i s bs n safe h =
      safe-on (rooms i) s bs n safe
      ∙ ap (λ t. pick t (partly (rooms i) s) (heard_by s (source_hear s.source bs))) (le-ltb (rooms i) (length (owed_on s)) h)

  none-hears : Hears []
  none-hears i s bs n e safe h =
      go (source_hear s.source bs) refl (sym (ap (λ x. x.0) (law source_owes source_hand source_eat source-hand-one s.source bs)) ∙ e)
      (behind-safe s bs n safe)
    where
      go : (r : Option Event × ℕ × Source) → source_hear s.source bs ≡ r → (told source_owes source_hand source_eat r bs).0 ≡ []
          → Safe (heard_by s (source_hear s.source bs)).screen (length (drop (source_hear s.source bs).1 bs) + n) → Ended i s bs n
      go (none, m, x) q t safe' = record {
        calls = suc i;
        text = owed_on s;
        screen = (heard_by s (none, m, x)).screen;
        shows = more_by (hearing i s bs n safe h ∙ ap (heard_by s) q);
        safe =
            fewer (heard_by s (none, m, x)).screen (length (drop m bs)) n
            (subst (λ (r : Option Event × ℕ × Source). Safe (heard_by s r).screen (length (drop r.1 bs) + n)) q safe');
      }
      go (some a, m, x) q t safe' = absurd (omega (arith, ap length t))

  some-hears : (a : Event) (es : List Event) → Writes es → Hears (a ∷ es)
  some-hears a es later i s bs n e safe h =
      go (source_hear s.source bs) refl (sym (ap (λ x. x.0) (law source_owes source_hand source_eat source-hand-one s.source bs)) ∙ e)
      (behind-safe s bs n safe)
    where
      go : (r : Option Event × ℕ × Source) → source_hear s.source bs ≡ r → (told source_owes source_hand source_eat r bs).0 ≡ a ∷ es
          → Safe (heard_by s (source_hear s.source bs)).screen (length (drop (source_hear s.source bs).1 bs) + n) → Ended i s bs n
      go (none, m, x) q t safe' = absurd (omega (arith, ap length t))
      go (some b, m, x) q t safe' =
          again-ended (hearing i s bs n safe h ∙ ap (heard_by s) q)
          (later (length (owed_on (heard_by s (some b, m, x)).screen)) (suc i) (heard_by s (some b, m, x)).screen (drop m bs) n (tail-eq_of_cons-eq t)
          (subst (λ (r : Option Event × ℕ × Source). Safe (heard_by s r).screen (length (drop r.1 bs) + n)) q safe') (omega arith))

  ends : (es : List Event) → Writes es
  ends [] = writes [] none-hears
  ends (a ∷ es) = writes (a ∷ es) (some-hears a es (ends es))

  -- pieces one after the other
  pub run_ends : (ps : List (List ℕ)) (i : ℕ) (s : Screen) → Safe s (length (joined ps)) → Run rooms i s ps
  run_ends [] i s safe = record { calls = i; text = []; screen = s; shows = done }
  run_ends (p ∷ ps) i s safe =
      let a =
      ends (source_all s.source p).0 (length (owed_on s)) i s p (length (joined ps)) refl
      (subst (Safe s) (length-append p (joined ps)) safe) (omega arith)
      in
      let b = run_ends ps a.calls a.screen a.safe in
      record { calls = b.calls; text = a.text ++ b.text; screen = b.screen; shows = piece a.shows b.shows }

-- What a call writes and leaves is what the bytes mean.
-- meant-append    bytes one after the other
-- takes-means     a call
-- shows-means, all-means   calls one after the other: any cutting, any room
-- ahead, ahead-twice   behind a text, behind two
-- MeansBy, Means  what a call's result means, by what it wants
-- owed_whole, takes_whole, Settled   the piece keeps within its bytes; where all has been read nothing is owed
use Prim.Native.Nat.{ℕ, ◌≤◌}
use native.Mathlib.Omega.{arith}
use mathlib.Core.Path.{◌≡◌, refl, sym, ◌∙◌, ap, subst}
use mathlib.Core.Bool.{Bool, true, false}
use mathlib.Core.List.{List, [], ◌∷◌, ◌++◌, append_assoc, append-nil}
use mathlib.Core.Option.{Option, some, none}
use lib.Dec.{eqb, ltb}
use lib.ListN.{length, take, drop, take-append-drop}
use Rattle.base.specs.Choice.{pick}
use borrow.Author.Tests.{ltb-true}
use Rattle.base.specs.Calls.{joined, With, tell, and_then, drain, rest, told}
use Rattle.base.proofs.Calls.{law, settled, all_append}
use Rattle.packet_spec.specs.Contents.{key_format}
use Rattle.packet_spec.specs.Frame.{packet, refusal, broken, delivery}
use Rattle.channel_spec.specs.Meaning.{Event, said, block, lost}
use Rattle.channel.specs.Call.{roomy}
use Rattle.listing_spec.specs.Lines.{given}
use Rattle.ports_spec.specs.declared.Entry.{Entry}
use Rattle.ports_spec.specs.declared.Noted.{Noted}
use Rattle.ports_spec.specs.declared.Range.{Range}
use Rattle.ports_spec.specs.Ports.{noting}
use Rattle.ports_spec.specs.Range.{inside}
use Rattle.board_spec.specs.Meaning.{Line, written_all, event_lines, table_behind, board_lines, regarded}
use Rattle.board_spec.specs.Parts.{lead, remark}
use Rattle.board_spec.proofs.Split.{all-written}
use Rattle.board_spec.proofs.Ranges.{regarded-joined}
use Rattle.board_lines.specs.Piece.{piece_of}
use Rattle.board.specs.Wants.{Wants}
use Rattle.board.specs.Wants.{More, Again, Refused}
use Rattle.board.specs.Source.{Source, memory_in, source_owes, source_hand, source_eat, source_all, source_hear}
use Rattle.board.specs.Owed.{alone, nothing, with_text, owing, left}
use Rattle.board.specs.Call.{Screen, screen, readout_of, recv_on, owed_on, Part, partly, table_for, heard_by, takes_on, sound_state, takes_by, takes}
use Rattle.board.specs.Runs.{table_all, shown_by, meant, Shows, more, again, ShowsAll, done, piece}
use Rattle.board.proofs.Sources.{source-hand-one, ThereIn, source-there}
use Rattle.board.proofs.Lines.{lines_for, owing-left, lines-first, table-first}
use Rattle.board.proofs.Left.{Whole, piece-whole, left-none, left_by}

-- ---- all that is to be shown
table-append : (t : List Entry) (xs ys : List Event) → table_all t (xs ++ ys) ≡ table_all (table_all t xs) ys
table-append t [] ys = refl
table-append t (x ∷ xs) ys = table-append (table_behind t x) xs ys

lines-append : (b : Bool) (t : List Entry) (xs ys : List Event) → board_lines b t (xs ++ ys) ≡ board_lines b t xs ++ board_lines b (table_all t xs) ys
unfolding board_lines
lines-append b t [] ys = refl
lines-append b t (x ∷ xs) ys =
    ap (λ (ls : List Line). event_lines b t x ++ ls) (lines-append b (table_behind t x) xs ys)
    ∙ sym (append_assoc (event_lines b t x) (board_lines b (table_behind t x) xs) (board_lines b (table_all t (x ∷ xs)) ys))

-- behind a text
abbrev pub ahead : List ℕ → List ℕ × Screen → List ℕ × Screen
ahead text r = (text ++ r.0, r.1)

pub ahead-twice : (xs ys : List ℕ) (r : List ℕ × Screen) → ahead xs (ahead ys r) ≡ ahead (xs ++ ys) r
ahead-twice xs ys r = λ i. (sym (append_assoc xs ys r.0) i, r.1)

shown-ahead : (xs ys : List ℕ) (b : Bool) (r : Range) (t : List Entry) (x : List Event × Source) → shown_by (xs ++ ys) b r t x ≡ ahead xs (shown_by ys b r t x)
shown-ahead xs ys b r t x =
    λ i. (append_assoc xs ys (written_all (board_lines b t (regarded r x.0))) i, screen b r nothing (table_all t (regarded r x.0)) x.1)

shown-answer : (text : List ℕ) (b : Bool) (r : Range) (t : List Entry) (e : Event) (x : List Event × Source)
    → shown_by text b r t (tell (some e) x) ≡ ahead text (shown_by (written_all (lines_for b r t e)) b r (table_for r t e) x)
shown-answer text b r t e x =
    (λ i. (text ++ written_all (lines-first b r t e x.0 i), screen b r nothing (table-first r t e x.0 i) x.1))
    ∙ (λ i. (
      text ++ all-written (lines_for b r t e) (board_lines b (table_for r t e) (regarded r x.0)) i,
      screen b r nothing (table_all (table_for r t e) (regarded r x.0)) x.1,
    ))

-- answers one after the other
shown-then : (text : List ℕ) (b : Bool) (r : Range) (t : List Entry) (x : List Event × Source) (k : Source → List Event × Source)
    → shown_by text b r t (and_then x k) ≡ ahead (shown_by text b r t x).0 (shown_by [] b r (table_all t (regarded r x.0)) (k x.1))
shown-then text b r t x k =
    let ds : List Event = regarded r x.0 in
    let es : List Event = regarded r (k x.1).0 in
    (λ i. (
      text ++ written_all (board_lines b t (regarded-joined r x.0 (k x.1).0 i)),
      screen b r nothing (table_all t (regarded-joined r x.0 (k x.1).0 i)) (k x.1).1,
    ))
    ∙ (λ i. (
      text ++ written_all (lines-append b t ds es i),
      screen b r nothing (table-append t ds es i) (k x.1).1,
    ))
    ∙ (λ i. (
      text ++ all-written (board_lines b t ds) (board_lines b (table_all t ds) es) i,
      screen b r nothing (table_all (table_all t ds) es) (k x.1).1,
    ))
    ∙ (λ i. (
      sym (append_assoc text (written_all (board_lines b t ds)) (written_all (board_lines b (table_all t ds) es))) i,
      screen b r nothing (table_all (table_all t ds) es) (k x.1).1,
    ))

-- bytes one after the other: what they mean behind the first is had from the screen then
pub meant-append : (s : Screen) (bs cs : List ℕ) → meant s (bs ++ cs) ≡ ahead (meant s bs).0 (meant (meant s bs).1 cs)
meant-append s bs cs =
    ap (shown_by (owed_on s) s.blocks s.range s.table) (all_append source_owes source_hand source_eat source-hand-one s.source bs cs)
    ∙ shown-then (owed_on s) s.blocks s.range s.table (source_all s.source bs) (λ x. source_all x cs)
    ∙ ap (λ (o : List ℕ). ahead (meant s bs).0 (shown_by o s.blocks s.range (meant s bs).1.table (source_all (meant s bs).1.source cs)))
    (sym (left-none nothing (recv_on (meant s bs).1) refl))

-- ---- a call
-- by what it wants: all is shown, or the rest is had from the screen and the bytes left
abbrev pub MeansBy : Wants → List ℕ → ℕ → Screen → List ℕ → List ℕ × Screen → Type 0
MeansBy More text n u bs m = m ≡ (text, u)
MeansBy Again text n u bs m = m ≡ ahead text (meant u (drop n bs))
MeansBy (Refused k) text n u bs m = m ≡ ahead text (meant u (drop n bs))

abbrev pub Means : Part → List ℕ → List ℕ × Screen → Type 0
Means p bs m = MeansBy p.wants p.text p.taken p.screen bs m

partly-means : (room : ℕ) (s : Screen) (bs : List ℕ) → Whole s.owed → room ≤ length (owed_on s) → Means (partly room s) bs (meant s bs)
partly-means room s bs w h =
    ap (λ (o : List ℕ). shown_by o s.blocks s.range s.table (source_all s.source bs)) (sym (take-append-drop room (owed_on s)))
    ∙ shown-ahead (take room (owed_on s)) (drop room (owed_on s)) s.blocks s.range s.table (source_all s.source bs)
    ∙ ap (λ (o : List ℕ). ahead (take room (owed_on s)) (shown_by o s.blocks s.range s.table (source_all s.source bs)))
    (sym (left_by room s.owed (recv_on s) w h).0)

heard-means : (s : Screen) (bs : List ℕ) (r : Option Event × ℕ × Source) → source_all s.source bs ≡ told source_owes source_hand source_eat r bs
    → With ThereIn r.0 r.2 → Means (heard_by s r) bs (meant s bs)
unfolding board_lines regarded written_all
heard-means s bs (none, n, x) e h =
    ap (shown_by (owed_on s) s.blocks s.range s.table) e ∙ (λ i. (append-nil (owed_on s) i, screen s.blocks s.range nothing s.table x))
heard-means s bs (some a, n, x) e h =
    ap (shown_by (owed_on s) s.blocks s.range s.table) e
    ∙ shown-answer (owed_on s) s.blocks s.range s.table a (source_all x (drop n bs))
    ∙ ap (λ (o : List ℕ). ahead (owed_on s) (shown_by o s.blocks s.range (table_for s.range s.table a) (source_all x (drop n bs))))
    (sym (owing-left s.blocks s.range s.table a x h))

on-means : (room : ℕ) (s : Screen) (bs : List ℕ) → Whole s.owed → Means (takes_on room s bs) bs (meant s bs)
unfolding takes_on
on-means room s bs w = go (ltb room (length (owed_on s))) refl
  where
    go : (t : Bool) → ltb room (length (owed_on s)) ≡ t → Means (pick t (partly room s) (heard_by s (source_hear s.source bs))) bs (meant s bs)
    go true e = partly-means room s bs w (omega (arith, ltb-true room (length (owed_on s)) e))
    go false e =
        heard-means s bs (source_hear s.source bs) (law source_owes source_hand source_eat source-hand-one s.source bs) (source-there s.source bs)

pub takes-means : (room : ℕ) (s : Screen) (bs : List ℕ) → Whole s.owed → Means (takes room s bs) bs (meant s bs)
takes-means room s bs w = go (sound_state (readout_of s) (length bs)) (roomy (recv_on s) (memory_in s.source.deck).word)
  where
    go : (a b : Bool) → Means (takes_by a b room s bs) bs (meant s bs)
    go false b = refl
    go true false = refl
    go true true = on-means room s bs w

-- the piece keeps within its bytes
pub owed_whole : (b : Bool) (r : Range) (t : List Entry) (e : Event) → Whole (owing b r t (given e))
owed_whole b r t (said (packet p)) = go (noting t p.port p.sequence).0 (inside r p.port) (eqb p.format key_format)
  where
    go : (v : Noted) (n f : Bool)
        → Whole (pick n (pick f (alone (piece_of (lead v (delivery p)))) (with_text (piece_of (lead v (delivery p))) (delivery p))) nothing)
    go v true true = piece-whole (lead v (delivery p))
    go v true false = piece-whole (lead v (delivery p))
    go v false f = piece-whole []
owed_whole b r t (said (refusal n)) = piece-whole (remark b (given (said (refusal n))))
owed_whole b r t (said (broken n)) = piece-whole (remark b (given (said (broken n))))
owed_whole b r t (block c) = piece-whole (remark b (given (block c)))
owed_whole b r t lost = piece-whole (remark b (given lost))

heard-whole : (s : Screen) (r : Option Event × ℕ × Source) → Whole (heard_by s r).screen.owed
heard-whole s (none, n, x) = piece-whole []
heard-whole s (some e, n, x) = owed_whole s.blocks s.range s.table e

pub takes_whole : (room : ℕ) (s : Screen) (bs : List ℕ) → Whole s.owed → Whole (takes room s bs).screen.owed
unfolding takes_on
takes_whole room s bs w = go (sound_state (readout_of s) (length bs)) (roomy (recv_on s) (memory_in s.source.deck).word)
  where
    on : (t : Bool) → ltb room (length (owed_on s)) ≡ t → Whole (pick t (partly room s) (heard_by s (source_hear s.source bs))).screen.owed
    on true e = (left_by room s.owed (recv_on s) w (omega (arith, ltb-true room (length (owed_on s)) e))).1
    on false e = heard-whole s (source_hear s.source bs)

    go : (a b : Bool) → Whole (takes_by a b room s bs).screen.owed
    go false b = w
    go true false = w
    go true true = on (ltb room (length (owed_on s))) refl

-- ---- runs
abbrev wants_tag : Wants → ℕ
wants_tag More = 0
wants_tag Again = 1
wants_tag (Refused n) = 2

means-more : (w : Wants) (text : List ℕ) (n : ℕ) (u : Screen) (bs : List ℕ) (m : List ℕ × Screen) → w ≡ More → MeansBy w text n u bs m → m ≡ (text, u)
means-more More text n u bs m e h = h
means-more Again text n u bs m e h = absurd (omega (arith, ap wants_tag e))
means-more (Refused k) text n u bs m e h = absurd (omega (arith, ap wants_tag e))

means-again : (w : Wants) (text : List ℕ) (n : ℕ) (u : Screen) (bs : List ℕ) (m : List ℕ × Screen) → w ≡ Again → MeansBy w text n u bs m
    → m ≡ ahead text (meant u (drop n bs))
means-again More text n u bs m e h = absurd (omega (arith, ap wants_tag e))
means-again Again text n u bs m e h = h
means-again (Refused k) text n u bs m e h = h

-- where all has been read nothing is owed
pub record Settled (s : Screen) : Type 0 where
  pub nothing-owed : s.owed ≡ nothing
  pub heard : source_owes s.source ≡ 0

settled-meant : (s : Screen) (bs : List ℕ) → Settled (meant s bs).1
settled-meant s bs = record { nothing-owed = refl; heard = settled source_owes source_hand source_eat source-hand-one s.source bs }

settled-none : (s : Screen) → Settled s → meant s [] ≡ ([], s)
unfolding board_lines regarded written_all
settled-none s h =
    (λ i. shown_by (left (h.nothing-owed i) (recv_on s)) s.blocks s.range s.table
    (drain source_owes source_hand source_eat (h.heard i) s.source (rest source_owes source_hand source_eat [])))
    ∙ (λ i. (left-none nothing (recv_on s) refl i ++ [], screen s.blocks s.range (sym h.nothing-owed i) s.table s.source))

module _ (rooms : ℕ → ℕ) where
  -- a piece
  pub shows-means : {i j : ℕ} {s u : Screen} {bs text : List ℕ} → Shows rooms i s bs j text u → Whole s.owed → (meant s bs ≡ (text, u)) × Whole u.owed
  shows-means {i} {s = s} {bs = bs} (more e) w =
      let p : Part = takes (rooms i) s bs in
      (means-more p.wants p.text p.taken p.screen bs (meant s bs) e (takes-means (rooms i) s bs w), takes_whole (rooms i) s bs w)
  shows-means {i} {s = s} {bs = bs} (again {u = u} {text = text} e r) w =
      let p : Part = takes (rooms i) s bs in
      let q = shows-means r (takes_whole (rooms i) s bs w) in
      (means-again p.wants p.text p.taken p.screen bs (meant s bs) e (takes-means (rooms i) s bs w) ∙ ap (ahead p.text) q.0, q.1)

  -- pieces: what is written is what the uncut bytes mean, no byte more and none less, and the last screen is theirs
  pub all-means : {i j : ℕ} {s u : Screen} {ps : List (List ℕ)} {text : List ℕ} → Settled s → Whole s.owed → ShowsAll rooms i s ps j text u
      → meant s (joined ps) ≡ (text, u)
  all-means {s = s} h w done = settled-none s h
  all-means {s = s} h w (piece {t = t} {u = u} {p = p} {text = text} {texts = texts} {ps = ps} r rs) =
      let a = shows-means r w in
      let b = all-means (subst Settled (ap (λ x. x.1) a.0) (settled-meant s p)) a.1 rs in
      meant-append s p (joined ps) ∙ (λ i. ahead (a.0 i).0 (meant (a.0 i).1 (joined ps))) ∙ ap (ahead text) b

-- What the board shows is what the bytes mean, for every range of ports, every cutting and every room, and the calls come to their end.
-- shown-bare     the bytes of an opportunistic channel
-- shown-taped    a recording, and what is said behind its last byte
use Prim.Native.Nat.{ℕ, ◌≤◌, ◌<◌}
use native.Mathlib.Omega.{arith}
use mathlib.Core.Path.{◌≡◌, refl, sym, ◌∙◌, ap, subst}
use mathlib.Core.Bool.{Bool, true, false}
use mathlib.Core.List.{List, [], ◌++◌}
use lib.ListN.{length}
use Rattle.base.specs.Calls.{joined}
use Rattle.packet_spec.specs.Contents.{raw_limit}
use Rattle.channel_spec.specs.Sender.{word_bytes}
use Rattle.channel_spec.specs.Meaning.{Event, answers, fresh_channel}
use Rattle.channel.proofs.Fine.{fine-fresh}
use Rattle.channel.proofs.Shown.{shown-all}
use Rattle.listing_spec.specs.Apart.{fresh_spot, apart, on_channel}
use Rattle.listing_spec.specs.Meaning.{heard}
use Rattle.ports_spec.specs.declared.Range.{Range}
use Rattle.ports_spec.proofs.Laws.{fresh-fit}
use Rattle.board_spec.specs.Meaning.{written_all, shows, board_text, recording_text, ending}
use Rattle.recording.specs.Deck.{fresh}
use Rattle.recording.specs.Call.{far}
use Rattle.recording.proofs.Means.{deck-means, fresh-owes}
use Rattle.board.specs.Source.{source_owes, source_all}
use Rattle.board.specs.Owed.{nothing}
use Rattle.board.specs.Call.{Screen, screen_of, readout_of, fresh_readout, last_by, last_lines, recv_on}
use Rattle.board.specs.Runs.{meant, ShowsAll, Run, EveryShow}
use Rattle.board.proofs.Sources.{all-bare, all-taped}
use Rattle.board.proofs.Left.{left-none, piece-whole}
use Rattle.board.proofs.Means.{Settled, all-means}
use Rattle.board.proofs.Ends.{NearBy, Safe, run_ends}

module _ (blocks : Bool) (range : Range) (recv word : List ℕ) (recv-room : raw_limit ≤ length recv) (word_room : word_bytes ≤ length word) where
  abbrev start : Bool → Screen
  start bare = screen_of (fresh_readout bare blocks range) recv word

  -- before the first byte nothing is owed ..
  settled-start : (bare : Bool) → Settled (start bare)
  unfolding source_owes
  settled-start true = record { nothing-owed = refl; heard = refl }
  settled-start false = record { nothing-owed = refl; heard = fresh-owes recv word recv-room word_room false }

  -- .. and n bytes may come
  safe-start : (bare : Bool) (n : ℕ) → NearBy bare fresh_spot n → Safe (start bare) n
  safe-start bare n h = record {
    source = record { fine = fine-fresh recv word recv-room word_room; near = h };
    fit = fresh-fit;
    short = omega arith;
    whole = piece-whole [];
  }

  -- all that is to be shown
  shown-start : (bare : Bool) (bs : List ℕ) (es : List Event) → (source_all (start bare).source bs).0 ≡ es → (meant (start bare) bs).0 ≡ shows blocks range es
  shown-start bare bs es e =
      ap (λ (o : List ℕ). o ++ shows blocks range (source_all (start bare).source bs).0) (left-none nothing (recv_on (start bare)) refl)
      ∙ ap (shows blocks range) e

  every : (bare : Bool) (bs : List ℕ) → NearBy bare fresh_spot (length bs) → (rooms : ℕ → ℕ) → ((i : ℕ) → 0 < rooms i) → (pieces : List (List ℕ))
      → joined pieces ≡ bs
      → Run rooms 0 (start bare) pieces
      × ((n : ℕ) (text : List ℕ) (u : Screen) → ShowsAll rooms 0 (start bare) pieces n text u → (text, u) ≡ meant (start bare) bs)
  every bare bs h rooms some-room pieces e = (
    run_ends rooms some-room pieces 0 (start bare)
        (safe-start bare (length (joined pieces)) (subst (λ (l : List ℕ). NearBy bare fresh_spot (length l)) (sym e) h)),
    λ n text u r. sym (all-means rooms (settled-start bare) (piece-whole []) r) ∙ ap (meant (start bare)) e,
  )

-- the bytes of an opportunistic channel, however many
pub shown-bare : (blocks : Bool) (range : Range) (bs : List ℕ)
    → EveryShow (fresh_readout true blocks range) bs λ s text u. (text ≡ board_text blocks range bs) × (u ≡ (meant s bs).1)
shown-bare blocks range bs recv word a b rooms some-room pieces e =
    let q = every blocks range recv word a b true bs tt rooms some-room pieces e in
    let s = shown-all bs fresh_channel recv word tt (a, b) in
    let m = shown-start blocks range recv word a b true bs (answers bs) (ap (λ x. x.0) (all-bare (fresh recv word) bs) ∙ ap (λ x. x.0) s.2) in
    (q.0, λ n text u r. (ap (λ x. x.0) (q.1 n text u r) ∙ m, ap (λ x. x.1) (q.1 n text u r)))

-- a recording below 2^64 bytes: with what is said behind its last byte
pub shown-taped : (blocks : Bool) (range : Range) (file : List ℕ) → length file ≤ far
    → EveryShow (fresh_readout false blocks range) file λ s text u. (text ++ written_all (last_lines (readout_of u)) ≡ recording_text blocks range file)
    × (u ≡ (meant s file).1)
shown-taped blocks range file h recv word a b rooms some-room pieces e =
    let q = every blocks range recv word a b false file (omega arith) rooms some-room pieces e in
    let d = deck-means recv word a b file in
    let m = shown-start blocks range recv word a b false file (heard (on_channel file) (apart fresh_spot file).0)
    (ap (λ x. x.0) (all-taped (fresh recv word) file) ∙ d.0) in (
      q.0,
      λ n text u r. (
        (λ i. (ap (λ x. x.0) (q.1 n text u r) ∙ m) i ++ written_all (last_lines (readout_of (q.1 n text u r i).1)))
            ∙ ap (λ x. shows blocks range (heard (on_channel file) (apart fresh_spot file).0) ++ written_all (last_by x.1.bare x.1.deck.spot))
            (all-taped (fresh recv word) file)
            ∙ ap (λ x. shows blocks range (heard (on_channel file) (apart fresh_spot file).0) ++ written_all (ending x)) d.1,
        ap (λ x. x.1) (q.1 n text u r),
      ),
    )

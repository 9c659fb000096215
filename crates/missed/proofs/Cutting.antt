-- What is printed of a recording by calls, however it is cut.
-- page-hand-one   the page's reader makes one of the owed moves
-- hear-means      a call gives the line of the next packet
-- all-means       all answers are the lines of all packets, each by the table behind those before it
-- text-is         and their text is that of the packets of the range
-- missed-yields   every way of cutting yields them, from any page that is safe for the bytes to come, where nothing is owed
-- missed-printed  .. of a whole recording below 2^64 bytes: what the definition prints of it, and where it ends
use Prim.Native.Nat.{ℕ, suc, ◌+◌, ◌≤◌}
use native.Mathlib.Omega.{arith}
use mathlib.Core.Path.{◌≡◌, refl, sym, ◌∙◌, ap, subst}
use mathlib.Core.Bool.{Bool, true, false}
use mathlib.Core.List.{List, [], ◌∷◌, ◌++◌}
use mathlib.Core.Option.{Option, some, none}
use lib.ListN.{length, drop}
use Rattle.base.specs.Choice.{pick}
use Rattle.base.specs.Calls.{joined, tell, unless, one_more, Yields}
use Rattle.base.proofs.Calls.{all-hand, all-eat, all_end, hear-hand, hear-eat, hear-end, all-by, hear-by, yields_within, yields-so}
use Rattle.packet_spec.specs.Contents.{raw_limit}
use Rattle.packet_spec.specs.Frame.{packet, refusal, broken}
use Rattle.channel_spec.specs.Sender.{word_bytes}
use Rattle.channel_spec.specs.Meaning.{Event, said, block, lost}
use Rattle.channel.proofs.Fine.{fine-fresh}
use Rattle.listing_spec.specs.Apart.{fresh_spot, apart}
use Rattle.ports_spec.specs.declared.Range.{Range}
use Rattle.ports_spec.specs.Range.{inside}
use Rattle.ports_spec.specs.Ports.{noting}
use Rattle.ports.specs.declared.by_value.Ports.{Ports}
use Rattle.ports.specs.ByValue.{fresh_ports}
use Rattle.sheet_spec.specs.Meaning.{within}
use Rattle.sheet_spec.specs.Recording.{marks}
use Rattle.recording.specs.Deck.{Deck, fresh, deck_owes, deck_all}
use Rattle.recording.specs.Call.{far}
use Rattle.recording.specs.Packets.{Item, delivered, refused, packets_in, packet_hand, packet_eat, packet_all, packet_hear}
use Rattle.recording.proofs.Ears.{deck-hand-one}
use Rattle.recording.proofs.Means.{fresh-owes, deck-means}
use Rattle.recording.proofs.Cutting.{Safe, fewer}
use Rattle.recording.proofs.Packets.{packets-are, safe-on, safe-behind}
use Rattle.missed_spec.specs.Line.{noted_line}
use Rattle.missed_spec.specs.Meaning.{lines_of, notes, missed}
use Rattle.missed.specs.Page.{Page, page, fresh_page, Note, line, unheard, line_by, line_of, noted}
use Rattle.missed.specs.Page.{page_owes, page_hand, page_eat, page_all, page_hear, paged, page_call, text_of}

-- the deck behind an answer does not hang on what was noted
deck-of : (r : Range) (t : Ports) (o : Option Item) (m : Deck) → (noted r t o m).1.deck ≡ m
deck-of r t none m = refl
deck-of r t (some (delivered p)) m = refl
deck-of r t (some (refused n)) m = refl

pub page-hand-one : (g : Page) (n : ℕ) → page_owes g ≡ suc n → page_owes (page_hand g).1 ≡ n
page-hand-one g n e =
    ap deck_owes (deck-of g.range g.ports (packet_hand g.deck).0 (packet_hand g.deck).1) ∙ deck-hand-one g.deck n e

module _ (r : Range) where
  -- the lines of packets, and the table behind them
  abbrev note_all : Ports → List Item → List Note × Ports
  note_all t [] = ([], t)
  note_all t (delivered p ∷ xs) = (
    line (line_of r t p.port p.sequence).0 ∷ (note_all (line_of r t p.port p.sequence).1 xs).0,
    (note_all (line_of r t p.port p.sequence).1 xs).1,
  )
  note_all t (refused n ∷ xs) = (unheard n ∷ (note_all t xs).0, (note_all t xs).1)

  abbrev note_run : Ports → List Item × Deck → List Note × Page
  note_run t x = ((note_all t x.0).0, page x.1 (note_all t x.0).1 r)

  -- ---- all answers
  tell-noted : (o : Option Item) (m : Deck) (bs : List ℕ) (x : List Item × Deck) (t : Ports) → ((u : Ports) → page_all (page m u r) bs ≡ note_run u x)
      → tell (noted r t o m).0 (page_all (noted r t o m).1 bs) ≡ note_run t (tell o x)
  tell-noted none m bs x t q = q t
  tell-noted (some (delivered p)) m bs x t q =
      ap (tell (some (line (line_of r t p.port p.sequence).0))) (q (line_of r t p.port p.sequence).1)
  tell-noted (some (refused n)) m bs x t q = ap (tell (some (unheard n))) (q t)

  pub all-means : (m : Deck) (bs : List ℕ) (t : Ports) → page_all (page m t r) bs ≡ note_run t (packet_all m bs)
  all-means =
      all-by deck_owes packet_hand packet_eat deck-hand-one (λ m bs x. (t : Ports) → page_all (page m t r) bs ≡ note_run t x)
      (λ m e t. all_end page_owes page_hand page_eat page-hand-one (page m t r) e)
      (λ m n bs x e q t. all-hand page_owes page_hand page_eat page-hand-one (page m t r) n bs e ∙ tell-noted (packet_hand m).0 (packet_hand m).1 bs x t q)
      (λ m b bs x e q t. all-eat page_owes page_hand page_eat page-hand-one (page m t r) b bs e ∙ tell-noted (packet_eat m b).0 (packet_eat m b).1 bs x t q)

  -- ---- one call
  hand-noted : (o : Option Item) (m : Deck) (bs : List ℕ) (y : Option Item × ℕ × Deck) (t : Ports) → ((u : Ports) → page_hear (page m u r) bs ≡ paged r u y)
      → unless (noted r t o m).0 0 (noted r t o m).1 (page_hear (noted r t o m).1 bs) ≡ paged r t (unless o 0 m y)
  hand-noted none m bs y t q = q t
  hand-noted (some (delivered p)) m bs y t q = refl
  hand-noted (some (refused n)) m bs y t q = refl

  eat-noted : (o : Option Item) (m : Deck) (bs : List ℕ) (y : Option Item × ℕ × Deck) (t : Ports) → ((u : Ports) → page_hear (page m u r) bs ≡ paged r u y)
      → unless (noted r t o m).0 1 (noted r t o m).1 (one_more (page_hear (noted r t o m).1 bs)) ≡ paged r t (unless o 1 m (one_more y))
  eat-noted none m bs y t q = ap one_more (q t)
  eat-noted (some (delivered p)) m bs y t q = refl
  eat-noted (some (refused n)) m bs y t q = refl

  pub hear-means : (m : Deck) (bs : List ℕ) (t : Ports) → page_hear (page m t r) bs ≡ paged r t (packet_hear m bs)
  hear-means =
      hear-by deck_owes packet_hand packet_eat deck-hand-one (λ m bs y. (t : Ports) → page_hear (page m t r) bs ≡ paged r t y)
      (λ m e t. hear-end page_owes page_hand page_eat page-hand-one (page m t r) e)
      (λ m n bs y e q t. hear-hand page_owes page_hand page_eat page-hand-one (page m t r) n bs e ∙ hand-noted (packet_hand m).0 (packet_hand m).1 bs y t q)
      (λ m b bs y e q t. hear-eat page_owes page_hand page_eat page-hand-one (page m t r) b bs e ∙ eat-noted (packet_eat m b).0 (packet_eat m b).1 bs y t q)

  -- ---- the text
  pub text-is : (es : List Event) (t : Ports) → text_of (note_all t (packets_in es)).0 ≡ notes t.entries (within r (marks es))
  unfolding marks within lines_of
  text-is [] t = refl
  text-is (said (packet p) ∷ es) t = go (inside r p.port) (text-is es)
    where
      go : (b : Bool) → ((u : Ports) → text_of (note_all u (packets_in es)).0 ≡ notes u.entries (within r (marks es)))
          → (line_by b t p.port p.sequence).0 ++ text_of (note_all (line_by b t p.port p.sequence).1 (packets_in es)).0
          ≡ notes t.entries (pick b ((p.port, p.sequence) ∷ within r (marks es)) (within r (marks es)))
      go true q =
          ap (λ (y : List ℕ). noted_line p.port p.sequence (noting t.entries p.port p.sequence).0 ++ y)
          (q (record { entries = (noting t.entries p.port p.sequence).1 }))
      go false q = q t
  text-is (said (refusal n) ∷ es) t = text-is es t
  text-is (said (broken n) ∷ es) t = text-is es t
  text-is (block c ∷ es) t = text-is es t
  text-is (lost ∷ es) t = text-is es t

-- ---- cut in every way
agrees : (g : Page) (bs : List ℕ) (k : ℕ) → Safe g.deck (length bs + k) → page_call g bs ≡ page_hear g bs
agrees g bs k s = ap (paged g.range g.ports) (safe-on g.deck bs k s) ∙ sym (hear-means g.range g.deck bs g.ports)

behind : (g : Page) (bs : List ℕ) (k : ℕ) → Safe g.deck (length bs + k) → Safe (page_hear g bs).2.deck (length (drop (page_hear g bs).1 bs) + k)
behind g bs k s =
    let x : Option Item × ℕ × Deck = packet_hear g.deck bs in
    subst (λ (y : Option Note × ℕ × Page). Safe y.2.deck (length (drop y.1 bs) + k)) (sym (hear-means g.range g.deck bs g.ports))
    (subst (λ (m : Deck). Safe m (length (drop x.1 bs) + k)) (sym (deck-of g.range g.ports x.0 x.2)) (safe-behind g.deck bs k s))

pub missed-yields : (g : Page) → page_owes g ≡ 0 → (ps : List (List ℕ)) → Safe g.deck (length (joined ps))
    → Yields page_call g ps λ xs h. (xs, h) ≡ page_all g (joined ps)
missed-yields =
    yields_within page_owes page_hand page_eat page-hand-one (λ g n. Safe g.deck n) page_call (λ g n k s. fewer g.deck n k s) agrees behind

-- a recording below 2^64 bytes: every way of cutting prints what the definition prints of it, and behind it it stands where the definition ends
pub missed-printed : (r : Range) (file : List ℕ) → length file ≤ far
    → (recv word : List ℕ) → raw_limit ≤ length recv → word_bytes ≤ length word → (pieces : List (List ℕ)) → joined pieces ≡ file
    → Yields page_call (fresh_page r recv word) pieces λ xs g. (text_of xs ≡ missed r file) × (g.deck.spot ≡ (apart fresh_spot file).1)
missed-printed r file short recv word a b pieces cut =
    let d = deck-means recv word a b file in
    let m : Deck = fresh recv word in
    let s : Safe m (length (joined pieces)) = record {
      fine = fine-fresh recv word a b;
      offset = let e : length (joined pieces) ≡ length file = ap length cut in omega arith;
    } in
    yields-so (missed-yields (fresh_page r recv word) (fresh-owes recv word a b false) pieces s) λ xs g x.
    let e : ◌≡◌ {A = List Note × Page} (xs, g) (note_run r fresh_ports (packets_in (deck_all m file).0, (deck_all m file).1)) =
    x ∙ ap (page_all (fresh_page r recv word)) cut ∙ all-means r m file fresh_ports ∙ ap (note_run r fresh_ports) (packets-are m file) in (
      ap (λ q. text_of q.0) e ∙ text-is r (deck_all m file).0 fresh_ports
          ∙ ap (λ (es : List Event). notes fresh_ports.entries (within r (marks es))) d.0,
      ap (λ q. q.1.deck.spot) e ∙ d.1,
    )

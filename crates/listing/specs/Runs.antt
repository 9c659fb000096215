-- A recording listed by calls: any cutting of its bytes, any room for each call.
-- Lists      a piece is handed in until "more wanted", call after call with the room that each has
-- ListsAll   the pieces of a recording one after the other
-- Run, Fair  such a run, and rooms with which there is one
use Rattle.std.specs.Prelude.{ℕ, suc, ◌≤◌, ◌≡◌, List, [], ◌∷◌, ◌++◌, drop}
use Rattle.listing_lines.specs.declared.totals.Totals.{Totals}
use Rattle.listing.specs.Wants.{More, Room}
use Rattle.recording.specs.Deck.{Deck}
use Rattle.listing_spec.specs.Lines.{longest}
use Rattle.listing.specs.Call.{takes}

-- call number i has an output of `rooms i` bytes
module _ (rooms : ℕ → ℕ) where
  -- calls from number i on: the text printed, and how deck and totals stand before call number j
  pub data Lists : ℕ → Deck → Totals → List ℕ → ℕ → List ℕ → Deck → Totals → Type 0 where
    more : {i : ℕ} {m : Deck} {t : Totals} {bs : List ℕ} → (takes m t (rooms i) bs).wants ≡ More
        → Lists i m t bs (suc i) (takes m t (rooms i) bs).text (takes m t (rooms i) bs).deck (takes m t (rooms i) bs).totals
    room : {i j : ℕ} {m m' : Deck} {t t' : Totals} {bs text : List ℕ} → (takes m t (rooms i) bs).wants ≡ Room
        → Lists (suc i) (takes m t (rooms i) bs).deck (takes m t (rooms i) bs).totals (drop (takes m t (rooms i) bs).taken bs) j text m' t'
        → Lists i m t bs j ((takes m t (rooms i) bs).text ++ text) m' t'

  -- the pieces of a recording one after the other
  pub data ListsAll : ℕ → Deck → Totals → List (List ℕ) → ℕ → List ℕ → Deck → Totals → Type 0 where
    done : {i : ℕ} {m : Deck} {t : Totals} → ListsAll i m t [] i [] m t
    piece : {i j k : ℕ} {m m₁ m₂ : Deck} {t t₁ t₂ : Totals} {p text texts : List ℕ} {ps : List (List ℕ)}
        → Lists i m t p j text m₁ t₁ → ListsAll j m₁ t₁ ps k texts m₂ t₂ → ListsAll i m t (p ∷ ps) k (text ++ texts) m₂ t₂

  -- such a run
  pub record Run (i : ℕ) (m : Deck) (t : Totals) (ps : List (List ℕ)) : Type 0 where
    pub calls : ℕ
    pub text : List ℕ
    pub deck : Deck
    pub totals : Totals
    pub lists : ListsAll i m t ps calls text deck totals

-- every call has room for any line, and 2^63 bytes at most
abbrev pub Fair : (ℕ → ℕ) → Type 0
Fair rooms = (i : ℕ) → (longest ≤ rooms i) × (rooms i ≤ 9223372036854775808)

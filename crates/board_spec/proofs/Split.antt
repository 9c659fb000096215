-- A packet's lines as the code writes them: what stands before the text, the text, the line feed; and the remarks.
-- all-written   lines joined are their bytes joined
-- lines_split   a packet's lines are its lead and what is behind it
-- remark-is     the lines of an answer that is no packet are its remark
-- lead-short, remark-short   neither has more than 128 bytes; lead-some: a lead has one at least
-- remark-none   exactly these have no remark: "more wanted", a packet, and where blocks are not to be told one that is clean or repaired
-- NoPacket, Silent   an answer that is no packet, and one without a remark
use Prim.Native.Nat.{ℕ, ◌+◌, ◌≤◌}
use native.Mathlib.Omega.{arith}
use mathlib.Core.Path.{◌≡◌, refl, sym, ◌∙◌, ap}
use mathlib.Core.Logic.{◌↔◌}
use mathlib.Core.Bool.{Bool, true, false}
use mathlib.Core.List.{List, [], ◌∷◌, ◌++◌, append_assoc, append-nil}
use mathlib.Core.Option.{some}
use lib.Dec.{eqb}
use lib.ListN.{length, length-append}
use Rattle.base.specs.Choice.{pick}
use Rattle.packet_spec.specs.Contents.{Packet, key_format}
use Rattle.packet_spec.specs.Frame.{packet, refusal, broken, delivery}
use Rattle.packet_spec.specs.declared.Delivery.{Delivery}
use Rattle.packet_spec.specs.declared.Judged.TheVariants.{Packet as Delivered, Refused as RefusedFrame, Broken}
use Rattle.channel_spec.specs.Meaning.{Event, said, block, lost}
use Rattle.channel_spec.specs.Answer.{answered}
use Rattle.channel_spec.specs.declared.Condition.TheVariants.{Clean, Repaired, Beyond}
use Rattle.channel_spec.specs.declared.Answer.{Answer}
use Rattle.channel_spec.specs.declared.Answer.TheVariants.{More, Said, Block, LockLost}
use Rattle.bid.specs.Line.{feed}
use Rattle.text.proofs.Digits.{digits-short, number_short}
use Rattle.ports_spec.specs.declared.Entry.{Entry}
use Rattle.ports_spec.specs.declared.Noted.{Noted}
use Rattle.ports_spec.specs.declared.Noted.TheVariants.{First, InOrder, Repeated, Missing, Late, Refused}
use Rattle.board_spec.specs.Text.{heading, shown_text, bid_text}
use Rattle.board_spec.specs.Meaning.{Line, restricted, late_text, repeated_text, written, written_all, ahead_of, own_line, packet_lines, event_lines}
use Rattle.board_spec.specs.Parts.{own_lead, lead, behind, remark}

-- lines joined
pub all-written : (ls ks : List Line) → written_all (ls ++ ks) ≡ written_all ls ++ written_all ks
unfolding written_all
all-written [] ks = refl
all-written (l ∷ ls) ks = ap (λ (x : List ℕ). written l ++ x) (all-written ls ks) ∙ sym (append_assoc (written l) (written_all ls) (written_all ks))

-- ---- a packet
own_split : (v : Noted) (port sequence : ℕ) (payload : List ℕ)
    → written (own_line v port sequence payload) ≡ own_lead v port sequence ++ (shown_text payload ++ (feed ∷ []))
unfolding written bid_text
own_split First p s t = append_assoc (heading p s) (shown_text t) (feed ∷ [])
own_split InOrder p s t = append_assoc (heading p s) (shown_text t) (feed ∷ [])
own_split Repeated p s t = ap (λ (x : List ℕ). repeated_text ++ x) (append_assoc (heading p s) (shown_text t) (feed ∷ []))
own_split (Missing n) p s t = append_assoc (heading p s) (shown_text t) (feed ∷ [])
own_split Late p s t = ap (λ (x : List ℕ). late_text ++ x) (append_assoc (heading p s) (shown_text t) (feed ∷ []))
own_split (Refused n) p s t = append_assoc (heading p s) (shown_text t) (feed ∷ [])

module _ (v : Noted) (p : Packet) where
  abbrev key : Line
  key = restricted p.port p.sequence p.number

  abbrev own : Line
  own = own_line v p.port p.sequence p.payload

  abbrev before : List ℕ
  before = written_all (ahead_of v p.port)

  by-format : (t : Bool)
      → written_all (pick t key own ∷ []) ≡ pick t (written key) (own_lead v p.port p.sequence) ++ pick t [] (shown_text p.payload ++ (feed ∷ []))
  unfolding written_all
  by-format true = refl
  by-format false = append-nil (written own) ∙ own_split v p.port p.sequence p.payload

  pub lines_split : written_all (packet_lines v p) ≡ lead v (delivery p) ++ behind p
  lines_split =
      all-written (ahead_of v p.port) (pick (eqb p.format key_format) key own ∷ [])
      ∙ ap (λ (x : List ℕ). before ++ x) (by-format (eqb p.format key_format))
      ∙ sym (append_assoc before (pick (eqb p.format key_format) (written key) (own_lead v p.port p.sequence)) (behind p))

-- ---- an answer that is no packet
abbrev pub NoPacket : Event → Type 0
NoPacket (said (packet p)) = ⊥
NoPacket (said (refusal n)) = Unit {0}
NoPacket (said (broken n)) = Unit {0}
NoPacket (block c) = Unit {0}
NoPacket lost = Unit {0}

pub remark-is : (b : Bool) (t : List Entry) (e : Event) → NoPacket e → written_all (event_lines b t e) ≡ remark b (answered (some e))
unfolding written_all
remark-is b t (said (packet p)) h = absurd h
remark-is b t (said (refusal n)) h = append-nil _
remark-is b t (said (broken n)) h = append-nil _
remark-is b t (block c) h = refl
remark-is b t lost h = append-nil _

-- ---- how long: each number has at most 20 digits
heading-between : (p s : ℕ) → (1 ≤ length (heading p s)) × (length (heading p s) ≤ 42)
heading-between p s = (simp length-append (omega arith), simp length-append (omega (arith, digits-short p, digits-short s)))

ahead-short : (v : Noted) (p : ℕ) → length (written_all (ahead_of v p)) ≤ 52
unfolding written_all written
ahead-short First p = omega arith
ahead-short InOrder p = omega arith
ahead-short Repeated p = omega arith
ahead-short (Missing n) p = simp length-append (omega (arith, digits-short p, digits-short n))
ahead-short Late p = omega arith
ahead-short (Refused n) p = simp length-append (omega (arith, digits-short p))

own-between : (v : Noted) (p s : ℕ) → (1 ≤ length (own_lead v p s)) × (length (own_lead v p s) ≤ 76)
own-between First p s = let h = heading-between p s in (omega arith, omega arith)
own-between InOrder p s = let h = heading-between p s in (omega arith, omega arith)
own-between Repeated p s = let h = heading-between p s in (omega arith, omega arith)
own-between (Missing n) p s = let h = heading-between p s in (omega arith, omega arith)
own-between Late p s = let h = heading-between p s in (omega arith, omega arith)
own-between (Refused n) p s = let h = heading-between p s in (omega arith, omega arith)

key-between : (p s k : ℕ) → (1 ≤ length (written (restricted p s k))) × (length (written (restricted p s k)) ≤ 76)
unfolding written
key-between p s k = (omega arith, simp length-append (omega (arith, digits-short p, digits-short s, digits-short k)))

module _ (v : Noted) (d : Delivery) where
  abbrev own_part : Bool → List ℕ
  own_part t = pick t (written (restricted d.port d.sequence d.number)) (own_lead v d.port d.sequence)

  part-between : (t : Bool) → (1 ≤ length (own_part t)) × (length (own_part t) ≤ 76)
  part-between true = key-between d.port d.sequence d.number
  part-between false = own-between v d.port d.sequence

  lead-between : (1 ≤ length (lead v d)) × (length (lead v d) ≤ 128)
  lead-between =
      let x : List ℕ = own_part (eqb d.format key_format) in
      let e = length-append (written_all (ahead_of v d.port)) x in
      let h = part-between (eqb d.format key_format) in
      let k = ahead-short v d.port in
      (omega arith, omega arith)

  pub lead-some : 1 ≤ length (lead v d)
  lead-some = lead-between.0

  pub lead-short : length (lead v d) ≤ 128
  lead-short = lead-between.1

pub remark-short : (b : Bool) (a : Answer) → length (remark b a) ≤ 128
unfolding written written_all
remark-short b More = omega arith
remark-short b (Said (Delivered d)) = omega arith
remark-short b (Said (RefusedFrame n)) = omega (arith, number_short n "\n")
remark-short b (Said (Broken n)) = simp length-append (omega (arith, digits-short 3, digits-short n))
remark-short true (Block Clean) = omega arith
remark-short false (Block Clean) = omega arith
remark-short true (Block (Repaired n)) = simp length-append (omega (arith, digits-short n))
remark-short false (Block (Repaired n)) = omega arith
remark-short true (Block Beyond) = omega arith
remark-short false (Block Beyond) = omega arith
remark-short b LockLost = omega arith

-- ---- without a remark
abbrev pub Silent : Bool → Answer → Type 0
Silent b More = Unit {0}
Silent b (Said (Delivered d)) = Unit {0}
Silent b (Said (RefusedFrame n)) = ⊥
Silent b (Said (Broken n)) = ⊥
Silent true (Block Clean) = ⊥
Silent false (Block Clean) = Unit {0}
Silent true (Block (Repaired n)) = ⊥
Silent false (Block (Repaired n)) = Unit {0}
Silent b (Block Beyond) = ⊥
Silent b LockLost = ⊥

not-empty : (x : ℕ) (xs : List ℕ) → x ∷ xs ≡ [] → ⊥
not-empty x xs e = omega (arith, ap length e)

pub remark-none : (b : Bool) (a : Answer) → (remark b a ≡ []) ↔ Silent b a
unfolding written written_all
remark-none b More = ((λ e. tt), (λ s. refl))
remark-none b (Said (Delivered d)) = ((λ e. tt), (λ s. refl))
remark-none b (Said (RefusedFrame n)) = (not-empty _ _, (λ s. absurd s))
remark-none b (Said (Broken n)) = (not-empty _ _, (λ s. absurd s))
remark-none true (Block Clean) = (not-empty _ _, (λ s. absurd s))
remark-none false (Block Clean) = ((λ e. tt), (λ s. refl))
remark-none true (Block (Repaired n)) = (not-empty _ _, (λ s. absurd s))
remark-none false (Block (Repaired n)) = ((λ e. tt), (λ s. refl))
remark-none true (Block Beyond) = (not-empty _ _, (λ s. absurd s))
remark-none false (Block Beyond) = (not-empty _ _, (λ s. absurd s))
remark-none b LockLost = (not-empty _ _, (λ s. absurd s))

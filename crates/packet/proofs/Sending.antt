-- Laws of the sender.
-- refusing-empty, refusing-long, refusing-barred, refusing-none   what the sender says of a packet, by facts on numbers
-- write-empty, write-long, write-barred, write-head, write-frame  what the call answers and leaves, by the same
-- framed-length, laid-frame, frame-fits      a frame stored part by part
-- laid-key, laid-opening   .. and its opening
-- head-most, opening-most, opening-short, opening-part, fits-most   .. and how long that is
-- sent-parts                  the parts that are stored are the packet's frame
-- writing-keeps               a refused call leaves the output as it was
-- Wrote-is, wrote-is          what a packet that was written shows (some, short, free, fits, holds)
use mathlib.Core.Path.{◌≡◌, refl, sym, ap, ap₂, subst, ◌∙◌}
use mathlib.Core.Bool.{Bool, true, false}
use mathlib.Core.List.{List, [], ◌∷◌, ◌++◌, append_assoc}
use Prim.Native.Nat.{ℕ, ◌+◌, ◌-◌, ◌<◌, ◌≤◌}
use native.Mathlib.Omega.{arith}
use lib.Dec.{eqb, ltb}
use borrow.Author.Tests.{eq-eqb, ne_eqb, lt-ltb, le-ltb, eqb-false, ltb-false}
use lib.ListN.{length, take, drop, set, length-append, length-set}
use borrow.Rule.Slice.PartMut.{put_mid}
use Rattle.base.specs.Choice.{pick}
use Rattle.base.specs.Private.{Laid}
use Rattle.base.specs.Written.{Outcome, outcome, refused, write, copied, Keeps}
use Rattle.base.specs.Written.{Wrote, Refused}
use Rattle.base.proofs.Laid.{laid_more, laid-append, laid-start, laid-take, laid-copied}
use Rattle.base.proofs.Writing.{refused-keeps, write_keeps, pick-keeps}
use Rattle.fcs.specs.Fcs.{fcs}
use Rattle.packet_spec.specs.Port.{barred}
use Rattle.packet_spec.specs.Contents.{Packet, packet_of, key_format, key_most, key_at, payload_limit, contents, with_check, head, opening, two}
use Rattle.packet_spec.specs.Escape.{flag, escape}
use Rattle.packet_spec.specs.Sender.{flagged, frame_of, head_fits, refusing, writing}
use Rattle.packet.specs.Private.{opening_most}
use Rattle.packet_spec.proofs.Escaping.{escape-append}
use Rattle.packet_spec.proofs.Round.{by-format}

module _ {A : Type 0} (p : Packet) (refuse : ℕ → A) (send : A) where
  pub refusing-empty : length p.payload ≡ 0 → refusing p refuse send ≡ refuse 20
  refusing-empty e = simp (eq-eqb _ _ e)

  module _ (some : length p.payload ≡ 0 → ⊥) where
    pub refusing-long : payload_limit < length (escape p.payload) → refusing p refuse send ≡ refuse 21
    refusing-long h = simp (ne_eqb _ _ some, lt-ltb _ _ h)

    module _ (short : length (escape p.payload) ≤ payload_limit) where
      pub refusing-barred : barred p.port ≡ true → refusing p refuse send ≡ refuse 22
      refusing-barred b = rw (ne_eqb _ _ some, le-ltb _ _ short, b)

      module _ (free : barred p.port ≡ false) where
        refusing-head : head_fits p.format p.number (length p.key) ≡ false → refusing p refuse send ≡ refuse 24
        refusing-head h = rw (ne_eqb _ _ some, le-ltb _ _ short, free, h)

        pub refusing-none : head_fits p.format p.number (length p.key) ≡ true → refusing p refuse send ≡ send
        refusing-none h = rw (ne_eqb _ _ some, le-ltb _ _ short, free, h)

module _ (p : Packet) (out : List ℕ) where
  pub write-empty : length p.payload ≡ 0 → writing p out ≡ refused 20 out
  unfolding writing
  write-empty = refusing-empty p (λ n. refused n out) _

  module _ (some : length p.payload ≡ 0 → ⊥) where
    pub write-long : payload_limit < length (escape p.payload) → writing p out ≡ refused 21 out
    unfolding writing
    write-long = refusing-long p (λ n. refused n out) _ some

    module _ (short : length (escape p.payload) ≤ payload_limit) where
      pub write-barred : barred p.port ≡ true → writing p out ≡ refused 22 out
      unfolding writing
      write-barred = refusing-barred p (λ n. refused n out) _ some short

      module _ (free : barred p.port ≡ false) where
        pub write-head : head_fits p.format p.number (length p.key) ≡ false → writing p out ≡ refused 24 out
        unfolding writing
        write-head = refusing-head p (λ n. refused n out) _ some short free

        pub write-frame : head_fits p.format p.number (length p.key) ≡ true → writing p out ≡ write (frame_of p) out
        unfolding writing
        write-frame = refusing-none p (λ n. refused n out) _ some short free

  pub writing-keeps : Keeps out (writing p out)
  unfolding writing
  writing-keeps =
      pick-keeps (eqb (length p.payload) 0) out (refused-keeps 20 out)
      (pick-keeps (ltb payload_limit (length (escape p.payload))) out (refused-keeps 21 out)
      (pick-keeps (barred p.port) out (refused-keeps 22 out)
      (pick-keeps (head_fits p.format p.number (length p.key)) out (write_keeps (frame_of p) out) (refused-keeps 24 out))))

module _ (a b c : List ℕ) where
  framed-parts : flagged (a ++ b ++ c) ≡ escape a ++ escape b ++ escape c ++ (flag ∷ [])
  unfolding flagged
  framed-parts = rw (escape-append (a ++ b) c, escape-append a b)

  pub framed-length : length (flagged (a ++ b ++ c)) ≡ length (escape a) + length (escape b) + length (escape c) + 1
  framed-length = rw framed-parts (simp length-append)

  pub laid-frame : {l m₁ m₂ m₃ : List ℕ} {e₁ e₂ e₃ : ℕ}
      → Laid l 0 (escape a) m₁ e₁ → Laid m₁ e₁ (escape b) m₂ e₂ → Laid m₂ e₂ (escape c) m₃ e₃
      → Laid l 0 (flagged (a ++ b ++ c)) (set m₃ e₃ flag) (e₃ + 1)
  laid-frame {m₃ = m} {e₃ = e} h₁ h₂ h₃ =
      let one : Laid m e (flag ∷ []) (set m e flag) (e + 1) = record { ends = refl; holds = refl } in
      rw framed-parts (laid-append (laid-append (laid-append h₁ h₂) h₃) one)

-- ---- format byte to sequence, stored part by part
module _ (format number : ℕ) (key l : List ℕ) where
  -- format byte, key length, key number
  abbrev three : List ℕ
  three = set (set (set l 0 format) 1 (length key)) 2 number

  three-length : length three ≡ length l
  three-length = simp length-set

  -- .. and the key, copied behind them
  module _ (y : List ℕ) where
    pub laid-key : format ≡ key_format → key_at + length key ≤ length l → y ≡ copied key (take (length three - key_at) (drop key_at three))
        → Laid l 0 (head format number key) (put_mid key_at (length three - key_at) three y) (key_at + length key)
    laid-key e h c = rw (eq-eqb _ _ e) (laid_more format (laid_more (length key) (laid_more number (laid-copied (omega (arith, three-length)) c))))

pub laid-opening : (p : Packet) {l m₁ m₂ m₃ : List ℕ} {e₁ e₂ e₃ : ℕ}
    → Laid l 0 (head p.format p.number p.key) m₁ e₁ → Laid m₁ e₁ (two p.port) m₂ e₂ → Laid m₂ e₂ (two p.sequence) m₃ e₃
    → Laid l 0 (opening p) m₃ e₃
laid-opening p {l} {m₃ = m} {e₃ = e} h₁ h₂ h₃ =
    subst (λ (bs : List ℕ). Laid l 0 bs m e) (append_assoc (head p.format p.number p.key) (two p.port) (two p.sequence))
    (laid-append (laid-append h₁ h₂) h₃)

-- a key that fits its head is no longer than a key may be
pub fits-most : (format number : ℕ) (key : List ℕ) → head_fits format number (length key) ≡ true → length key ≤ key_most
fits-most format number key h =
    by-format (packet_of format number key 0 0 []) h
    (λ e. let k : length key ≡ 0 = ap (λ (p : Packet). length p.key) e in omega arith) (λ e low high. high)

pub head-most : (format number : ℕ) (key : List ℕ) → length key ≤ key_most → length (head format number key) ≤ key_at + key_most
head-most format number key h = go (eqb format key_format)
  where
    go : (t : Bool) → length (pick t (format ∷ length key ∷ number ∷ key) (format ∷ [])) ≤ key_at + key_most
    go true = omega arith
    go false = omega arith

pub opening-most : (p : Packet) → length p.key ≤ key_most → length (opening p) ≤ opening_most
opening-most p h = omega
    (arith, head-most p.format p.number p.key h, length-append (head p.format p.number p.key) (two p.port ++ two p.sequence))

-- the opening as a part of the array that it was stored in
module _ (p : Packet) {l after : List ℕ} {n : ℕ} (h : Laid l 0 (opening p) after n) (room : opening_most ≤ length l) (most : length p.key ≤ key_most) where
  pub opening-short : n ≤ opening_most
  opening-short = omega (arith, h.ends, opening-most p most)

  pub opening-part : take n after ≡ opening p
  opening-part = laid-take h (omega (arith, opening-most p most))

-- stored from the start on, with room
pub frame-fits : {l bs after : List ℕ} {end : ℕ} → Laid l 0 bs after end → length bs ≤ length l → outcome (Wrote end) after ≡ write bs l
frame-fits {l} {bs} h k =
    let e : 0 + length bs ≡ length bs = omega arith in
    ap₂ (λ (n : ℕ) (x : List ℕ). outcome (Wrote n) x) (h.ends ∙ e) (laid-start h k) ∙ simp (le-ltb (length l) (length bs) k)

-- the parts that the sender stores are the packet's frame
pub sent-parts : (p : Packet) (k : ℕ) (start tail : List ℕ)
    → start ≡ opening p → tail ≡ two k → k ≡ fcs (start ++ p.payload) → flagged (start ++ p.payload ++ tail) ≡ frame_of p
unfolding frame_of contents with_check
sent-parts p k start tail h t e = rw (t, e, h)

-- ---- what a packet that was written shows: that the sender takes it, and where it stands
pub record Wrote-is (p : Packet) (out : List ℕ) (n : ℕ) (out' : List ℕ) : Type 0 where
  pub some : length p.payload ≡ 0 → ⊥
  pub short : length (escape p.payload) ≤ payload_limit
  pub free : barred p.port ≡ false
  pub fits : head_fits p.format p.number (length p.key) ≡ true
  pub long : n ≡ length (frame_of p)
  pub holds : out' ≡ frame_of p ++ drop (length (frame_of p)) out

pub wrote-is : (p : Packet) (out : List ℕ) (n : ℕ) → (writing p out).answer ≡ Wrote n
    → Wrote-is p out n (writing p out).output
unfolding writing
wrote-is p out n =
    go (eqb (length p.payload) 0) (ltb payload_limit (length (escape p.payload))) (barred p.port) (head_fits p.format p.number (length p.key))
    (ltb (length out) (length bs)) refl refl refl refl
  where
    bs : List ℕ
    bs = frame_of p

    wrong : {m : ℕ} → Refused m ≡ Wrote n → ⊥
    wrong e = let z : ◌≡◌ {A = ℕ} 0 1 = cc in omega arith

    -- what the call says, by what was tested
    said : (e l b f r : Bool) → Outcome
    said e l b f r =
        pick e (refused 20 out)
        (pick l (refused 21 out)
        (pick b (refused 22 out) (pick f (pick r (refused 23 out) (outcome (Wrote (length bs)) (bs ++ drop (length bs) out))) (refused 24 out))))

    go : (e l b f r : Bool) → eqb (length p.payload) 0 ≡ e → ltb payload_limit (length (escape p.payload)) ≡ l → barred p.port ≡ b
        → head_fits p.format p.number (length p.key) ≡ f → (said e l b f r).answer ≡ Wrote n → Wrote-is p out n (said e l b f r).output
    go true l b f r he hl hb hf q = absurd (wrong q)
    go false true b f r he hl hb hf q = absurd (wrong q)
    go false false true f r he hl hb hf q = absurd (wrong q)
    go false false false false r he hl hb hf q = absurd (wrong q)
    go false false false true true he hl hb hf q = absurd (wrong q)
    go false false false true false he hl hb hf q =
        let k : length bs ≡ n = cc in
        record { some = eqb-false _ _ he; short = ltb-false _ _ hl; free = hb; fits = hf; long = sym k; holds = refl }

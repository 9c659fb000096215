-- A range of ports: answers without the packets of other ports.
-- regarded-joined    answers one behind the other
-- regarded-twice     what a range leaves is left by it again: the packets outside may as well never have been sent
-- regarded-inside    each packet left is inside
-- regarded-frames    the frames left are those of the packets inside; refused and broken ones stay
-- regarded-blocks, regarded-losses   blocks and lost locks stay, each
-- regarded-every     the range of all leaves all, where ports have 16 bits
-- frames_in          the frames of the packets inside, and every refused or broken one
use Prim.Native.Nat.{suc, ◌<◌}
use native.Mathlib.Omega.{arith}
use mathlib.Core.Path.{◌≡◌, refl, sym, ◌∙◌, ap}
use mathlib.Core.Bool.{Bool, true, false}
use mathlib.Core.List.{List, [], ◌∷◌, ◌++◌, map}
use Rattle.base.specs.Bytes.{Each}
use Rattle.base.specs.Choice.{pick}
use Rattle.base.proofs.Tests.{by-test}
use Rattle.packet_spec.specs.Contents.{Packet}
use Rattle.packet_spec.specs.Frame.{Told, packet, refusal, broken}
use Rattle.stream.specs.Sender.{delivered}
use Rattle.channel_spec.specs.Meaning.{Event, said, block, lost, frames, blocks, losses}
use Rattle.channel_spec.specs.declared.Condition.{Condition}
use Rattle.ports_spec.specs.declared.Range.{Range}
use Rattle.ports_spec.specs.Range.{every_port, inside}
use Rattle.ports_spec.proofs.Every.{inside-every}
use Rattle.board_spec.specs.Meaning.{regards, regarded}
use Rattle.board_spec.specs.Typed.{packets_among, packets_in}
use Rattle.board_spec.proofs.Left.{AllInside, regarded-all}

module _ (r : Range) where
  -- ---- an answer, by: is it regarded
  first-left : (e : Event) (es : List Event) → regards r e ≡ true → regarded r (e ∷ es) ≡ e ∷ regarded r es
  unfolding regarded
  first-left e es h = rw h refl

  first-gone : (e : Event) (es : List Event) → regards r e ≡ false → regarded r (e ∷ es) ≡ regarded r es
  unfolding regarded
  first-gone e es h = rw h refl

  -- ---- answers one behind the other
  pub regarded-joined : (xs ys : List Event) → regarded r (xs ++ ys) ≡ regarded r xs ++ regarded r ys
  unfolding regarded
  regarded-joined [] ys = refl
  regarded-joined (x ∷ xs) ys = go (regards r x) (regarded-joined xs ys)
    where
      go : (t : Bool) → regarded r (xs ++ ys) ≡ regarded r xs ++ regarded r ys
          → pick t (x ∷ regarded r (xs ++ ys)) (regarded r (xs ++ ys)) ≡ pick t (x ∷ regarded r xs) (regarded r xs) ++ regarded r ys
      go true e = ap (λ (es : List Event). x ∷ es) e
      go false e = e

  -- ---- the packets outside may as well never have been sent
  pub regarded-twice : (es : List Event) → regarded r (regarded r es) ≡ regarded r es
  unfolding regarded
  regarded-twice [] = refl
  regarded-twice (e ∷ es) =
      by-test (regards r e)
      (λ h.
      ap (regarded r) (first-left e es h) ∙ first-left e (regarded r es) h ∙ ap (λ (x : List Event). e ∷ x) (regarded-twice es)
      ∙ sym (first-left e es h))
      (λ h. ap (regarded r) (first-gone e es h) ∙ regarded-twice es ∙ sym (first-gone e es h))

  -- each packet left is inside
  pub regarded-inside : (es : List Event) → AllInside r (packets_among (frames (regarded r es)))
  unfolding regarded packets_among
  regarded-inside [] = tt
  regarded-inside (said (packet p) ∷ es) =
      by-test (inside r p.port) (λ e. rw e (e, regarded-inside es)) (λ e. rw e (regarded-inside es))
  regarded-inside (said (refusal n) ∷ es) = regarded-inside es
  regarded-inside (said (broken n) ∷ es) = regarded-inside es
  regarded-inside (block c ∷ es) = regarded-inside es
  regarded-inside (lost ∷ es) = regarded-inside es

  -- ---- frames: those of the packets inside, and every refused or broken one
  unfoldable pub frames_in : List Told → List Told
  frames_in [] = []
  frames_in (packet p ∷ ts) = pick (inside r p.port) (packet p ∷ frames_in ts) (frames_in ts)
  frames_in (refusal n ∷ ts) = refusal n ∷ frames_in ts
  frames_in (broken n ∷ ts) = broken n ∷ frames_in ts

  frames-left : (es : List Event) → frames (regarded r es) ≡ frames_in (frames es)
  unfolding regarded frames_in
  frames-left [] = refl
  frames-left (said (packet p) ∷ es) = go (inside r p.port) (frames-left es)
    where
      go : (t : Bool) → frames (regarded r es) ≡ frames_in (frames es)
          → frames (pick t (said (packet p) ∷ regarded r es) (regarded r es)) ≡ pick t (packet p ∷ frames_in (frames es)) (frames_in (frames es))
      go true e = ap (λ (ts : List Told). packet p ∷ ts) e
      go false e = e
  frames-left (said (refusal n) ∷ es) = ap (λ (ts : List Told). refusal n ∷ ts) (frames-left es)
  frames-left (said (broken n) ∷ es) = ap (λ (ts : List Told). broken n ∷ ts) (frames-left es)
  frames-left (block c ∷ es) = frames-left es
  frames-left (lost ∷ es) = frames-left es

  -- where all frames are delivered: those of the packets inside
  delivered-in : (ps : List Packet) → frames_in (map delivered ps) ≡ map delivered (packets_in r ps)
  unfolding frames_in packets_in
  delivered-in [] = refl
  delivered-in (p ∷ ps) = go (inside r p.port) (delivered-in ps)
    where
      go : (t : Bool) → frames_in (map delivered ps) ≡ map delivered (packets_in r ps)
          → pick t (packet p ∷ frames_in (map delivered ps)) (frames_in (map delivered ps)) ≡ map delivered (pick t (p ∷ packets_in r ps) (packets_in r ps))
      go true e = ap (λ (ts : List Told). packet p ∷ ts) e
      go false e = e

  pub regarded-frames : (es : List Event) (ps : List Packet) → frames es ≡ map delivered ps → frames (regarded r es) ≡ map delivered (packets_in r ps)
  regarded-frames es ps e = frames-left es ∙ ap frames_in e ∙ delivered-in ps

  -- ---- blocks and lost locks stay
  pub regarded-blocks : (es : List Event) → blocks (regarded r es) ≡ blocks es
  unfolding regarded
  regarded-blocks [] = refl
  regarded-blocks (said (packet p) ∷ es) = go (inside r p.port) (regarded-blocks es)
    where
      go : (t : Bool) → blocks (regarded r es) ≡ blocks es → blocks (pick t (said (packet p) ∷ regarded r es) (regarded r es)) ≡ blocks es
      go true e = e
      go false e = e
  regarded-blocks (said (refusal n) ∷ es) = regarded-blocks es
  regarded-blocks (said (broken n) ∷ es) = regarded-blocks es
  regarded-blocks (block c ∷ es) = ap (λ (cs : List Condition). c ∷ cs) (regarded-blocks es)
  regarded-blocks (lost ∷ es) = regarded-blocks es

  pub regarded-losses : (es : List Event) → losses (regarded r es) ≡ losses es
  unfolding regarded
  regarded-losses [] = refl
  regarded-losses (said (packet p) ∷ es) = go (inside r p.port) (regarded-losses es)
    where
      go : (t : Bool) → losses (regarded r es) ≡ losses es → losses (pick t (said (packet p) ∷ regarded r es) (regarded r es)) ≡ losses es
      go true e = e
      go false e = e
  regarded-losses (said (refusal n) ∷ es) = regarded-losses es
  regarded-losses (said (broken n) ∷ es) = regarded-losses es
  regarded-losses (block c ∷ es) = regarded-losses es
  regarded-losses (lost ∷ es) = ap suc (regarded-losses es)

-- ---- the range of all: packets whose ports have 16 bits
pub regarded-every : (es : List Event) → Each (λ (p : Packet). p.port < 65536) (packets_among (frames es)) → regarded every_port es ≡ es
regarded-every es h = regarded-all every_port es (all-inside (packets_among (frames es)) h)
  where
    all-inside : (ps : List Packet) → Each (λ (p : Packet). p.port < 65536) ps → AllInside every_port ps
    all-inside [] h = tt
    all-inside (p ∷ ps) h = (inside-every p.port (omega (arith, h.0)), all-inside ps h.1)

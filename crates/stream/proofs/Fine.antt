-- States and buffers that pass refusals 10 and 11.
-- fine-is, fine_of                       they are passed exactly where `Fine` holds
-- sound-stored, sound-raw, sound-place   the tests one after the other
-- fine-take                              every byte keeps it
use Prim.Native.Nat.{ℕ, suc, ◌≤◌, ◌<◌, min}
use native.Mathlib.Omega.{arith}
use mathlib.Core.Path.{◌≡◌, refl, sym, ap}
use mathlib.Core.Bool.{Bool, true, false, ◌&&◌}
use mathlib.Core.Logic.{◌≢◌}
use mathlib.Core.List.{List, [], ◌∷◌}
use lib.ListN.{length, length-set}
use lib.Dec.{eqb, ltb, leb}
use borrow.Author.Tests.{le-leb, lt-leb, eq-eqb, ne_eqb, ltb-true, eqb-true, leb-true}
use Rattle.base.proofs.Tests.{and_parts}
use Rattle.packet_spec.specs.Contents.{raw_limit}
use Rattle.packet_spec.specs.Escape.{flag}
use Rattle.packet_spec.proofs.Judging.{length-closed}
use Rattle.stream.specs.declared.frame.FrameReader.{FrameReader}
use Rattle.stream.specs.Call.{Held, held, begun, place_limit, last_raw, store, shut, take_by, take_byte, sound, Fine}
use Rattle.stream.proofs.Places.{noticed-within}

pub fine_of : (f : FrameReader) (l : List ℕ) → sound f ≡ true → raw_limit ≤ length l → Fine (held f l)
fine_of f l s h =
    let p = and_parts (eqb f.stored (min f.raw raw_limit)) (leb f.raw (suc raw_limit) && leb f.place place_limit) s in
    let q = and_parts (leb f.raw (suc raw_limit)) (leb f.place place_limit) p.1 in
    record { stored = eqb-true _ _ p.0; raw = leb-true _ _ q.0; place = leb-true _ _ q.1; room = h }

pub fine-is : (h : Held) → Fine h → sound h.st ≡ true
fine-is h f =
    rw (
      eq-eqb h.st.stored (min h.st.raw raw_limit) f.stored,
      le-leb h.st.raw (suc raw_limit) f.raw,
      le-leb h.st.place place_limit f.place,
    ) refl

-- the tests one after the other, as the code makes them
module _ (f : FrameReader) where
  pub sound-stored : f.stored ≢ min f.raw raw_limit → false ≡ sound f
  sound-stored n = sym (ap (λ (t : Bool). t && (leb f.raw (suc raw_limit) && leb f.place place_limit)) (ne_eqb _ _ n))

  module _ (e : f.stored ≡ min f.raw raw_limit) where
    pub sound-raw : suc raw_limit < f.raw → false ≡ sound f
    sound-raw h = sym (λ i. eq-eqb _ _ e i && (lt-leb f.raw (suc raw_limit) h i && leb f.place place_limit))

    pub sound-place : f.raw ≤ suc raw_limit → leb f.place place_limit ≡ sound f
    sound-place h = sym (λ i. eq-eqb _ _ e i && (le-leb f.raw (suc raw_limit) h i && leb f.place place_limit))

fine-begun : (l : List ℕ) → raw_limit ≤ length l → Fine (held begun l)
fine-begun l h = record { stored = refl; raw = omega arith; place = omega arith; room = h }

fine-store : (t : Bool) (h : Held) (b : ℕ) → ltb h.st.raw raw_limit ≡ t → Fine h → Fine (store t h b)
fine-store true h b e f =
    let l : h.st.raw < raw_limit = ltb-true _ _ e in
    record {
      stored = omega arith;
      raw = omega arith;
      place = noticed-within h.st.place (last_raw h) h.st.raw (b ∷ []) f.place (omega arith);
      room = rw length-set f.room;
    }
fine-store false h b e f = record { stored = refl; raw = omega arith; place = f.place; room = f.room }

fine-shut : (z : Bool) (h : Held) → Fine h → Fine (shut z h).1
fine-shut true h f = fine-begun h.recv f.room
fine-shut false h f = fine-begun _ (rw length-closed f.room)

fine-by : (t o : Bool) (h : Held) (b : ℕ) → Fine h → Fine (take_by t o h b).1
fine-by false false h b f = f
fine-by true false h b f = fine-begun h.recv f.room
fine-by false true h b f = fine-store (ltb h.st.raw raw_limit) h b refl f
fine-by true true h b f = fine-shut (eqb h.st.raw 0) h f

pub fine-take : (h : Held) (b : ℕ) → Fine h → Fine (take_byte h b).1
fine-take h b f = fine-by (eqb b flag) h.st.opened h b f

-- Whether a record's bytes are a packet that the sender would accept: the code takes them apart and asks the sender, with no room for its output.
-- ask-wrote, ask-none, ask-packet                                what the sender's answer says
-- told-short, told-plain, told-other, told-cut, told-keyed       what the bytes are told to be, by the ways through the code
use mathlib.Core.Path.{◌≡◌, refl, sym, ap, ◌∙◌}
use mathlib.Core.Bool.{Bool, true, false}
use mathlib.Core.List.{List, [], ◌∷◌}
use Prim.Native.Nat.{ℕ, ◌+◌, ◌-◌, ◌≤◌, ◌<◌}
use native.Mathlib.Omega.{arith}
use borrow.Author.Tests.{ne_eqb, lt-ltb, le-ltb, le-leb, lt-leb}
use lib.Dec.{eqb, ltb, leb}
use lib.ListN.{length, get_or, take, drop, length-append, length-drop}
use lib.Seq.{length-take-le}
use Rattle.base.specs.Choice.{pick}
use Rattle.base.specs.Written.{Outcome, outcome, refused}
use Rattle.base.specs.Written.{Written}
use Rattle.base.specs.Written as written
use Rattle.base.proofs.Parts.{tail-is}
use Rattle.base.proofs.Tests.{by-test, and-false}
use Rattle.base.proofs.Writing.{write-short}
use Rattle.packet_spec.specs.Contents.{Packet, packet_of, plain_format, key_format, key_sized, key_at, key_length}
use Rattle.packet_spec.specs.Contents.{rest_least, payload_limit, pair_at, contents, plainly, keyed, unpacked}
use Rattle.packet_spec.specs.Escape.{flag, escape}
use Rattle.packet_spec.specs.Frame.{Told, packet, refusal, judged, judge_packet, key_fits, judge_body}
use Rattle.packet_spec.specs.Port.{barred}
use Rattle.packet_spec.specs.Sender.{flagged, frame_of, head_fits, refusing, writing}
use Rattle.packet_spec.specs.declared.Judged.{Judged}
use Rattle.packet_spec.specs.declared.Judged.TheVariants.{Packet as Delivered, Refused}
use Rattle.packet_spec.proofs.Judging.{body-format, body-plain, body-key, body-keyed}
use Rattle.capture_spec.specs.Meaning.{or_none, entry}
use Rattle.capture.specs.Private.{asked}

-- ---- the sender's answer, with no room for its output
no_room : (p : Packet) → writing p [] ≡ refusing p (λ n. refused n []) (refused 23 [])
unfolding writing frame_of flagged
no_room p = ap (refusing p (λ n. refused n [])) (write-short (frame_of p) [] (omega (arith, length-append (escape (contents p)) (flag ∷ []))))

-- 23 of a packet that it would accept, another number of any other
ways : (p : Packet) (P : Written → Told → Type 0) → ((n : ℕ) → (n ≡ 23 → ⊥) → P (written.Refused n) (refusal 62)) → P (written.Refused 23) (packet p)
    → P (refusing p (λ n. refused n []) (refused 23 [])).answer (asked p)
ways p P other it =
    go (eqb (length p.payload) 0) (ltb payload_limit (length (escape p.payload))) (barred p.port) (head_fits p.format p.number (length p.key))
  where
    go : (t u v x : Bool)
        → P (pick t (refused 20 []) (pick u (refused 21 []) (pick v (refused 22 []) (pick x (refused 23 []) (refused 24 []))))).answer
        (pick t (refusal 62) (pick u (refusal 62) (pick v (refusal 62) (pick x (packet p) (refusal 62)))))
    go true u v x = other 20 (λ e. omega (arith, e))
    go false true v x = other 21 (λ e. omega (arith, e))
    go false false true x = other 22 (λ e. omega (arith, e))
    go false false false true = it
    go false false false false = other 24 (λ e. omega (arith, e))

module _ (format number : ℕ) (key rest : List ℕ) {port sequence : ℕ} (w : port ≡ pair_at rest 0) (s : sequence ≡ pair_at rest 2) {a : Written} {out : List ℕ}
    (e : outcome a out ≡ writing (packet_of format number key port sequence (take (length rest - 4) (drop 4 rest))) []) where
  abbrev taken : Packet
  taken = unpacked format number key rest

  says : a ≡ (refusing taken (λ n. refused n []) (refused 23 [])).answer
  says = ap (λ (o : Outcome). o.answer) (e ∙ (λ i. writing (packet_of format number key (w i) (s i) (tail-is 4 rest i)) []) ∙ no_room taken)

  pub ask-wrote : {n : ℕ} → a ≡ written.Wrote n → Refused 62 ≡ judged (asked taken)
  ask-wrote {n} f =
      ways taken (λ (x : Written) (t : Told). written.Wrote n ≡ x → Refused 62 ≡ judged t) (λ m h q. refl)
      (λ q. absurd (let z : ◌≡◌ {A = ℕ} 0 1 = cc in omega arith)) (sym f ∙ says)

  pub ask-none : {n : ℕ} → a ≡ written.Refused n → (n ≡ 23 → ⊥) → Refused 62 ≡ judged (asked taken)
  ask-none {n} f h =
      ways taken (λ (x : Written) (t : Told). written.Refused n ≡ x → Refused 62 ≡ judged t) (λ m k q. refl)
      (λ q. absurd (h (let z : n ≡ 23 = cc in z))) (sym f ∙ says)

  pub ask-packet : {n k m : ℕ} → a ≡ written.Refused n → n ≡ 23 → k ≡ length key → m ≡ length rest - 4
      → Delivered (record { format = format; number = number; key = k; port = port; sequence = sequence; length = m }) ≡ judged (asked taken)
  ask-packet {n} {k} {m} f h g l =
      (λ i. Delivered (record { format = format; number = number; key = g i; port = w i; sequence = s i; length = (l ∙ sym (length-drop 4 rest)) i }))
      ∙ ways taken (λ (x : Written) (t : Told). written.Refused n ≡ x → judged (packet taken) ≡ judged t)
      (λ j z q. absurd (z (let y : n ≡ j = cc in sym y ∙ h))) (λ q. refl) (sym f ∙ says)

-- ---- a packet taken apart
asked-fit : (p : Packet) → (length p.payload ≡ 0 → ⊥) → head_fits p.format p.number (length p.key) ≡ true → asked p ≡ or_none (judge_packet p)
asked-fit p z f =
    rw (ne_eqb (length p.payload) 0 z, f) (go (ltb payload_limit (length (escape p.payload))) (barred p.port))
  where
    go : (u v : Bool) → pick u (refusal 62) (pick v (refusal 62) (packet p)) ≡ or_none (pick v (refusal 7) (pick u (refusal 8) (packet p)))
    go true true = refl
    go true false = refl
    go false true = refl
    go false false = refl

asked-unfit : (p : Packet) → head_fits p.format p.number (length p.key) ≡ false → asked p ≡ refusal 62
asked-unfit p f =
    rw f (go (eqb (length p.payload) 0) (ltb payload_limit (length (escape p.payload))) (barred p.port))
  where
    go : (t u v : Bool) → pick t (refusal 62) (pick u (refusal 62) (pick v (refusal 62) (refusal 62))) ≡ refusal 62
    go true u v = refl
    go false true v = refl
    go false false true = refl
    go false false false = refl

-- ---- the ways through the code
module _ (bs : List ℕ) where
  pub told-short : length bs < 6 → Refused 62 ≡ judged (entry bs)
  unfolding entry
  told-short h = sym (ap (λ (t : Bool). judged (pick t (refusal 62) (or_none (judge_body bs)))) (lt-ltb _ _ h))

  module _ (six : 6 ≤ length bs) where
    entry-is : entry bs ≡ or_none (judge_body bs)
    unfolding entry
    entry-is = ap (λ (t : Bool). pick t (refusal 62) (or_none (judge_body bs))) (le-ltb _ _ six)

    pub told-plain : {j : Judged} → get_or bs 0 0 ≡ plain_format → j ≡ judged (asked (unpacked (get_or bs 0 0) 0 [] (take (length bs - 1) (drop 1 bs))))
        → j ≡ judged (entry bs)
    told-plain g e =
        e ∙ (λ i. judged (asked (unpacked (g i) 0 [] (tail-is 1 bs i))))
        ∙ ap judged (asked-fit (plainly bs) (λ z. absurd (omega (arith, z, length-drop 4 (drop 1 bs), length-drop 1 bs))) refl
        ∙ sym (entry-is ∙ ap or_none (body-plain bs g)))

    pub told-other : (get_or bs 0 0 ≡ plain_format → ⊥) → (get_or bs 0 0 ≡ key_format → ⊥) → Refused 62 ≡ judged (entry bs)
    told-other n m = sym (ap judged (entry-is ∙ ap or_none (body-format bs n m)))

    module _ (g : get_or bs 0 0 ≡ key_format) {k : ℕ} (l : k ≡ key_length bs) where
      abbrev long : Bool
      long = leb (key_at + key_length bs + rest_least) (length bs)

      pub told-cut : length bs < key_at + k + rest_least → Refused 62 ≡ judged (entry bs)
      told-cut h =
          let f : key_fits bs ≡ false = rw (lt-leb (key_at + key_length bs + rest_least) (length bs) (omega arith)) (and-false (key_sized (key_length bs))) in
          sym (ap judged (entry-is ∙ ap or_none (body-key bs g f)))

      pub told-keyed : {j : Judged} → key_at + k + rest_least ≤ length bs
          → j ≡ judged (asked (unpacked (get_or bs 0 0) (get_or bs 2 0) (take (key_at + k - key_at) (drop key_at bs))
          (take (length bs - (key_at + k)) (drop (key_at + k) bs))))
          → j ≡ judged (entry bs)
      told-keyed h e =
          let n : key_at + k - key_at ≡ key_length bs = omega arith in
          e ∙ (λ i. judged (asked (unpacked (g i) (get_or bs 2 0) (take (n i) (drop key_at bs)) (tail-is (key_at + k) bs i))))
          ∙ ap (λ (m : ℕ). judged (asked (unpacked key_format (get_or bs 2 0) (take (key_length bs) (drop key_at bs)) (drop (key_at + m) bs)))) l
          ∙ ap judged (by-test (key_sized (key_length bs)) fit unfit)
        where
          key-length : length (take (key_length bs) (drop key_at bs)) ≡ key_length bs
          key-length = length-take-le (key_length bs) (drop key_at bs) (omega (arith, length-drop key_at bs))

          fit : key_sized (key_length bs) ≡ true → asked (keyed bs) ≡ entry bs
          fit t =
              let f : key_fits bs ≡ true = rw (t, le-leb (key_at + key_length bs + rest_least) (length bs) (omega arith)) refl in
              asked-fit (keyed bs) (λ z. absurd (omega (arith, z, length-drop 4 (drop (key_at + key_length bs) bs), length-drop (key_at + key_length bs) bs)))
              (ap key_sized key-length ∙ t) ∙ sym (entry-is ∙ ap or_none (body-keyed bs g f))

          unfit : key_sized (key_length bs) ≡ false → asked (keyed bs) ≡ entry bs
          unfit t =
              let f : key_fits bs ≡ false = rw t refl in
              asked-unfit (keyed bs) (ap key_sized key-length ∙ t) ∙ sym (entry-is ∙ ap or_none (body-key bs g f))

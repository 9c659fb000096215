-- A call with an output, step by step.
-- Far                               what a call has printed so far
-- far-start, far-asks, far-on, far-done   the loop's start, what a step asks, a step that goes on, a step that ends the call
-- far-length, far_within            the output keeps its length, and no more is taken or written than there is
use Prim.Native.Nat.{ℕ, zero, suc, ◌+◌, ◌-◌, ◌≤◌, ◌<◌}
use native.Mathlib.Omega.{arith}
use native.Mathlib.Nat.{zero-add, add-zero, sub-zero, add_assoc}
use mathlib.Core.Path.{◌≡◌, refl, sym, ◌∙◌, ap, subst}
use mathlib.Core.Bool.{true}
use mathlib.Core.List.{List, [], ◌++◌, append_assoc, append-nil}
use Rattle.std.specs.Prelude.{Option, Some, None, Ok}
use lib.ListN.{length, take, drop, length-append, length-drop, take-append-drop}
use lib.Seq.{drop-drop, drop_at, take_at, length-take-le}
use borrow.Rule.Slice.PartMut.{put_mid}
use Rattle.base.proofs.Parts.{tail-is, tail-put}
use Rattle.channel.specs.Call.{sound, roomy}
use Rattle.recording.specs.Call.{deck_of}
use Rattle.listing.specs.declared.lister.Lister.{Lister}
use Rattle.listing.specs.declared.lister.Step.{Step}
use Rattle.listing.specs.declared.lister.Wants.{Wants}
use Rattle.listing.specs.Wants.{as_wants}
use Rattle.listing.specs.Call.{Printed, printed, further, print, near, TookIs}
use Rattle.listing.specs.Private.{StepBy, StepIs}

-- behind i bytes taken and w written the call goes on with what is left
pub record Far (x : Printed) (bs old : List ℕ) (i w : ℕ) (r : Lister) (l k out : List ℕ) : Type 0 where
  pub fuel : ℕ
  pub enough : length out - w ≤ fuel
  pub same : x ≡ further i (take w out) (print fuel (length out - w) (deck_of r.tape l k) r.totals (drop i bs))
  pub taken : i ≤ length bs
  pub wrote : w ≤ length out
  pub old-behind : drop w out ≡ drop w old
  pub old-length : length out ≡ length old
  pub sound : sound r.tape.receiver ≡ true
  pub roomy : roomy l k ≡ true
  pub nears : near r.tape.spot r.totals (length bs - i) (length out - w) ≡ true

pub far-start : (r : Lister) (l k bs out : List ℕ) → sound r.tape.receiver ≡ true → roomy l k ≡ true
    → near r.tape.spot r.totals (length bs) (length out) ≡ true
    → Far (print (length out) (length out) (deck_of r.tape l k) r.totals bs) bs out 0 0 r l k out
far-start r l k bs out a b c =
    let x : Printed = print (length out) (length out) (deck_of r.tape l k) r.totals bs in
    record {
      fuel = length out;
      enough = omega arith;
      same =
          (λ i. record { wants = x.wants; taken = sym (zero-add x.taken) i; text = x.text; deck = x.deck; totals = x.totals })
          ∙ ap (λ (n : ℕ). further 0 [] (print (length out) n (deck_of r.tape l k) r.totals bs)) (sym (sub-zero (length out)));
      taken = omega arith;
      wrote = omega arith;
      old-behind = refl;
      old-length = refl;
      sound = a;
      roomy = b;
      nears = rw (sub-zero (length bs), sub-zero (length out)) c;
    }

behind-behind : (i n : ℕ) (ws vs : List ℕ) (r : Printed) → further i ws (further n vs r) ≡ further (i + n) (ws ++ vs) r
behind-behind i n ws vs r =
    λ j. record { wants = r.wants; taken = sym (add_assoc i n r.taken) j; text = sym (append_assoc ws vs r.text) j; deck = r.deck; totals = r.totals }

module _ {x : Printed} {bs old : List ℕ} {i w : ℕ} {r : Lister} {l k out : List ℕ} (far : Far x bs old i w r l k out) where
  -- the bytes that are left and the room that is left, as the loop lends them
  abbrev left : List ℕ
  left = take (length bs - i) (drop i bs)

  abbrev room : List ℕ
  room = take (length out - w) (drop w out)

  left-length : length left ≡ length bs - i
  left-length = ap length (tail-is i bs) ∙ length-drop i bs

  room-length : length room ≡ length out - w
  room-length = ap length (tail-is w out) ∙ length-drop w out

  pub far-asks : (sound r.tape.receiver ≡ true) × (roomy l k ≡ true) × (near r.tape.spot r.totals (length left) (length room) ≡ true)
  far-asks = (far.sound, far.roomy, rw (left-length, room-length) far.nears)

  module _ (s : Step) {l' k' room' : List ℕ} (step : StepIs (deck_of r.tape l k) r.totals left room s l' k' room') where
    abbrev text : List ℕ
    text = step.text

    abbrev out' : List ℕ
    out' = put_mid w (length out - w) out room'

    fits : length text ≤ length out - w
    fits = omega (arith, step.fits, room-length)

    room-is : room' ≡ text ++ drop (length text) (drop w out)
    room-is = step.output ∙ ap (λ (z : List ℕ). text ++ drop (length text) z) (tail-is w out)

    out-is : out' ≡ (take w out ++ text) ++ drop (w + length text) out
    out-is =
        tail-put w out room' ∙ ap (λ (z : List ℕ). take w out ++ z) room-is
        ∙ sym (append_assoc (take w out) text (drop (length text) (drop w out)))
        ∙ ap (λ (z : List ℕ). (take w out ++ text) ++ z) (drop-drop (length text) w out)

    head-length : length (take w out ++ text) ≡ w + length text
    head-length = omega (arith, length-append (take w out) text, length-take-le w out far.wrote)

    printed-is : take (w + s.written) out' ≡ take w out ++ text
    printed-is =
        ap (λ (z : List ℕ). take (w + s.written) z) out-is
        ∙ take_at (take w out ++ text) (drop (w + length text) out) (w + s.written) (omega (arith, head-length, step.written))

    behind-is : drop (w + s.written) out' ≡ drop (w + s.written) old
    behind-is =
        ap (λ (z : List ℕ). drop (w + s.written) z) out-is
        ∙ drop_at (take w out ++ text) (drop (w + length text) out) (w + s.written) (omega (arith, head-length, step.written))
        ∙ ap (λ (n : ℕ). drop (w + n) out) (sym step.written)
        ∙ sym (drop-drop s.written w out) ∙ ap (drop s.written) far.old-behind ∙ drop-drop s.written w old

    out-length : length out' ≡ length out
    out-length = omega (
      arith,
      ap length out-is,
      length-append (take w out ++ text) (drop (w + length text) out),
      head-length,
      length-drop (w + length text) out,
      fits,
      far.wrote,
    )

    pub far-length : length out' ≡ length old
    far-length = out-length ∙ far.old-length

    pub far_within : (i + s.taken ≤ length bs) × (w + s.written ≤ length out)
    far_within = (omega (arith, step.stays.within, left-length, far.taken), omega (arith, step.written, fits, far.wrote))

    from-left : (f n : ℕ) → print f n (deck_of r.tape l k) r.totals (drop i bs) ≡ print f n (deck_of r.tape l k) r.totals left
    from-left f n = ap (print f n (deck_of r.tape l k) r.totals) (sym (tail-is i bs))

    pub far-on : s.wants ≡ None → Far x bs old (i + s.taken) (w + s.written) s.next l' k' out' × (0 < s.written)
    far-on e =
        let y : StepBy None (deck_of r.tape l k) r.totals left (length room) s text l' k' =
        subst (λ (u : Option Wants). StepBy u (deck_of r.tape l k) r.totals left (length room) s text l' k') e step.means in
        (go far.fuel refl y, omega (arith, y.1, step.written))
      where
        go : (f : ℕ) → far.fuel ≡ f → StepBy None (deck_of r.tape l k) r.totals left (length room) s text l' k'
            → Far x bs old (i + s.taken) (w + s.written) s.next l' k' out'
        go zero g y = absurd (omega (arith, far.enough, fits, y.1))
        go (suc f) g y =
            let a : length out' - (w + s.written) ≡ length room - length text = omega (arith, out-length, room-length, step.written) in
            record {
              fuel = f;
              enough = omega (arith, far.enough, out-length, step.written, y.1);
              same =
                  far.same ∙ ap (λ (n : ℕ). further i (take w out) (print n (length out - w) (deck_of r.tape l k) r.totals (drop i bs))) g
                  ∙ ap (λ (n : ℕ). further i (take w out) (print (suc f) n (deck_of r.tape l k) r.totals (drop i bs))) (sym room-length)
                  ∙ ap (further i (take w out)) (from-left (suc f) (length room) ∙ y.0 f (omega (arith, far.enough, room-length)))
                  ∙ behind-behind i s.taken (take w out) text
                  (print f (length room - length text) (deck_of s.next.tape l' k') s.next.totals (drop s.taken left))
                  ∙ (λ j.
                  further (i + s.taken) (sym printed-is j)
                  (print f (sym a j) (deck_of s.next.tape l' k') s.next.totals ((ap (drop s.taken) (tail-is i bs) ∙ drop-drop s.taken i bs) j)));
              taken = far_within.0;
              wrote = omega (arith, out-length, far_within.1);
              old-behind = behind-is;
              old-length = out-length ∙ far.old-length;
              sound = step.stays.sound;
              roomy = step.stays.roomy;
              nears =
                  let b : length left - s.taken ≡ length bs - (i + s.taken) = omega (arith, left-length) in
                  let d : length room - s.written ≡ length out' - (w + s.written) = omega (arith, out-length, room-length) in
                  subst (λ (n : ℕ). near s.next.tape.spot s.next.totals n (length out' - (w + s.written)) ≡ true) b
                  (subst (λ (n : ℕ). near s.next.tape.spot s.next.totals (length left - s.taken) n ≡ true) d step.nears);
            }

    text-length : w + s.written ≡ length ((take w out ++ text) ++ [])
    text-length = omega (arith, head-length, step.written, ap length (append-nil (take w out ++ text)))

    text-output : out' ≡ ((take w out ++ text) ++ []) ++ drop (length ((take w out ++ text) ++ [])) old
    text-output =
        sym (take-append-drop (w + s.written) out')
        ∙ (λ j. printed-is j ++ behind-is j)
        ∙ (λ j. sym (append-nil (take w out ++ text)) j ++ drop (text-length j) old)

    pub far-done : (w' : Wants) → s.wants ≡ Some w'
        → TookIs x (record { wants = Ok w'; taken = i + s.taken; written = w + s.written; next = s.next }) l' k' old out'
    far-done w' e =
        let y : StepBy (Some w') (deck_of r.tape l k) r.totals left (length room) s text l' k' =
        subst (λ (u : Option Wants). StepBy u (deck_of r.tape l k) r.totals left (length room) s text l' k') e step.means in
        let last : Printed = printed (as_wants (Ok w')) (deck_of s.next.tape l' k') s.next.totals in
        let p : x ≡ further (i + s.taken) (take w out ++ text) last =
        far.same
        ∙ ap (λ (n : ℕ). further i (take w out) (print far.fuel n (deck_of r.tape l k) r.totals (drop i bs))) (sym room-length)
        ∙ ap (further i (take w out)) (from-left far.fuel (length room) ∙ y far.fuel (omega (arith, far.enough, room-length)))
        ∙ behind-behind i s.taken (take w out) text last in
        subst (λ (z : Printed). TookIs z (record { wants = Ok w'; taken = i + s.taken; written = w + s.written; next = s.next }) l' k' old out') (sym p) (
          (λ j. record { wants = as_wants (Ok w'); taken = sym (add-zero (i + s.taken)) j; written = text-length j; next = s.next }),
          refl,
          refl,
          text-output,
        )

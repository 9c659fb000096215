-- The office's law: for every cutting of the input the calls come to their end, what is sent is the stream of exactly the accepted lines,
-- in order, and every other line is named with its number and its refusal.
-- any-room                with room for any line's blocks, a call does not depend on the room
-- bids-start              the start
-- bids-cut                every way of cutting comes to its end, and yields what the uncut input yields
-- bids-sent               what is sent
-- bids-named              what is named
-- bids-finished           the last call writes what is still held
use Prim.Native.Nat.{ℕ, ◌≤◌}
use native.Mathlib.Omega.{arith}
use mathlib.Core.Path.{◌≡◌, refl, sym, ◌∙◌, ap, subst}
use mathlib.Core.List.{List, [], ◌∷◌, ◌++◌, append_assoc}
use mathlib.Core.Option.{Option, some, none}
use lib.ListN.{length, take, drop, length-drop}
use borrow.Author.Tests.{le-leb}
use Rattle.base.specs.Calls.{joined, tell, owes_none, hands_none, Yields}
use Rattle.base.proofs.Calls.{none-owed, yields-all, yields-so}
use Rattle.packet_spec.specs.Escape.{flag}
use Rattle.stream.specs.Sender.{frames_of}
use Rattle.channel_spec.specs.Sender.{marked, sending}
use Rattle.bid.specs.Line.{line_limit}
use Rattle.bid.specs.Input.{packets_of, complaints}
use Rattle.office.specs.Start.{Started}
use Rattle.office.specs.Start.{Ready}
use Rattle.office.specs.Meaning.{sent_for, Said, Desk, waiting, eat, desk_all, sent_by, complaints_by}
use Rattle.office.specs.Call.{hold_limit, out_limit, fresh_office, starting, hear_by, hear_call, end_bytes, close_call, finish_by, finishing, sound}
use Rattle.office.specs.Call.{roomy, Fine, first, last_of}
use Rattle.office.proofs.Taking.{call-on, start-ready}
use Rattle.office.proofs.Sent.{sent-append, fine-sound, fine-roomy, fine-eat, fine-closed, closed, says, names}

tell-state : (o : Option Said) (r : List Said × Desk) → (tell o r).1 ≡ r.1
tell-state none r = refl
tell-state (some a) r = refl

fine-all : (bs : List ℕ) (d : Desk) → Fine d → Fine (desk_all d bs).1
fine-all [] d f = f
fine-all (b ∷ bs) d f = subst Fine (sym (tell-state (eat d b).0 (desk_all (eat d b).1 bs))) (fine-all bs (eat d b).1 (fine-eat d b f))

-- whether a call passes 23 is all that it makes of the room
pub any-room : (a b : ℕ) → out_limit ≤ a → out_limit ≤ b → (d : Desk) (bs : List ℕ) → hear_call a d bs ≡ hear_call b d bs
any-room a b h k d bs i = hear_by (sound d.st) (roomy d.line d.hold) ((le-leb out_limit a h ∙ sym (le-leb out_limit b k)) i) d bs

-- the last call writes what is still held
finish-sends : (d : Desk) (out : List ℕ) → Fine d → finishing d.st d.hold out ≡ sending (waiting d) out
finish-sends d out f i = finish_by (fine-sound d f i) (le-leb hold_limit (length d.hold) f.hold i) d.st d.hold out

-- with a buffer that passes 11 the sender starts: one flag is held
pub bids-start : (hold : List ℕ) → hold_limit ≤ length hold → starting hold ≡ (Ready fresh_office, flag ∷ drop 1 hold)
bids-start = start-ready

-- from there, with buffers that pass 11 ..
module _ (line hold : List ℕ) (l : line_limit ≤ length line) (h : hold_limit ≤ length hold) where
  one-flag : (starting hold).1 ≡ flag ∷ drop 1 hold
  one-flag = ap (λ (x : Started × List ℕ). x.1) (bids-start hold h)

  fine-first : Fine (first line hold)
  fine-first = record { stored = omega arith; held = omega arith; line = l; hold = omega (arith, ap length one-flag, length-drop 1 hold) }

  -- .. and each call with room for any line's blocks: how much, may depend on all that it is handed
  module _ (room : Desk → List ℕ → ℕ) (enough : (d : Desk) (bs : List ℕ) → out_limit ≤ room d bs) (ps : List (List ℕ)) where
    -- every way of cutting comes to its end, with what the uncut input yields ..
    pub bids-cut : Yields (λ d bs. hear_call (room d bs) d bs) (first line hold) ps λ xs t. (xs, t) ≡ desk_all (first line hold) (joined ps)
    bids-cut =
        yields-all owes_none hands_none eat none-owed Fine (λ g n e i. i) (λ g b e i. fine-eat g b i) (λ d bs. hear_call (room d bs) d bs)
        (λ d bs f. call-on (room d bs) d bs (fine-sound d f) (fine-roomy d f) (enough d bs)) (first line hold) refl fine-first ps

    -- (and the call that ends the input with such room)
    module _ (last : ℕ) (fits : out_limit ≤ last) where
      module _ {xs : List Said} {t : Desk} (whole : (xs, t) ≡ desk_all (first line hold) (joined ps)) where
        fine-t : Fine t
        fine-t = subst Fine (sym (ap (λ (r : List Said × Desk). r.1) whole)) (fine-all (joined ps) (first line hold) fine-first)

        last-is : close_call last t ≡ closed t
        last-is = call-on last t (end_bytes t) (fine-sound t fine-t) (fine-roomy t fine-t) fits

        sent_is : sent_by (xs ++ last_of (close_call last t).0) ++ marked (waiting (close_call last t).2) ≡ sent_for (joined ps)
        sent_is =
            let c : Option Said × ℕ × Desk = close_call last t in
            ap (λ (x : List ℕ). x ++ marked (waiting c.2)) (sent-append xs (last_of c.0))
            ∙ append_assoc (sent_by xs) (sent_by (last_of c.0)) (marked (waiting c.2))
            ∙ ap (λ (r : Option Said × ℕ × Desk). sent_by xs ++ (sent_by (last_of r.0) ++ marked (waiting r.2))) last-is
            ∙ ap (λ (r : List Said × Desk). sent_by r.0 ++ (sent_by (last_of (closed r.1).0) ++ marked (waiting (closed r.1).2))) whole
            ∙ says (joined ps) (first line hold) [] fine-first refl
            ∙ ap (λ (x : List ℕ). marked (take 1 x ++ frames_of (packets_of (joined ps)))) one-flag

        named-is : complaints_by (xs ++ last_of (close_call last t).0) ≡ complaints (joined ps)
        named-is =
            ap (λ (r : Option Said × ℕ × Desk). complaints_by (xs ++ last_of r.0)) last-is
            ∙ ap (λ (r : List Said × Desk). complaints_by (r.0 ++ last_of (closed r.1).0)) whole
            ∙ names (joined ps) (first line hold) [] fine-first refl

        fine-last : Fine (close_call last t).2
        fine-last = subst (λ (r : Option Said × ℕ × Desk). Fine r.2) (sym last-is) (fine-closed t fine-t)

      -- .. what is sent is the stream of the accepted lines ..
      pub bids-sent : Yields (λ d bs. hear_call (room d bs) d bs) (first line hold) ps λ xs t.
          sent_by (xs ++ last_of (close_call last t).0) ++ marked (waiting (close_call last t).2) ≡ sent_for (joined ps)
      bids-sent = yields-so bids-cut λ xs t e. sent_is e

      -- .. the other lines are named ..
      pub bids-named : Yields (λ d bs. hear_call (room d bs) d bs) (first line hold) ps λ xs t.
          complaints_by (xs ++ last_of (close_call last t).0) ≡ complaints (joined ps)
      bids-named = yields-so bids-cut λ xs t e. named-is e

      -- .. and the last call writes what is still held
      pub bids-finished : Yields (λ d bs. hear_call (room d bs) d bs) (first line hold) ps λ xs t.
          (out : List ℕ) → finishing (close_call last t).2.st (close_call last t).2.hold out ≡ sending (waiting (close_call last t).2) out
      bids-finished = yields-so bids-cut λ xs t e out. finish-sends (close_call last t).2 out (fine-last e)

-- Fixed sub-channels, in the words of request W7:
--   "Build the sender and receiver for one to four sub-channels: each has R, a depth and its own stream, filled with flags to whole messages,
--   the marker before every four words, words interleaved before marking. A group of four is always complete, filled with words of flags. At
--   depth D of 2 or more the closing push is made of D words of flags in place of W3's zeros, before the group is completed. The receiver is
--   told the settings and that the first marked block starts at row zero; when lock is lost that sub-channel gives nothing until it is told
--   again. Bytes of one sub-channel never affect another's answers. Demand 3's cutting and its delivery of the sent packets hold for each; its
--   recovery after an altered block holds for depth 0 and 1. Refusals: 10 also when a group counts more than four words; then 42 for a
--   sub-channel number above 3 or, outside configuring, one not configured; then 11 for its two buffers; 30 and 32 on configuring."
-- R is r and the depth d, each to 64. `EveryCut r d bs λ es c. ..` (crates/subchannel/specs/Call.antt): a sub-channel just told r and d hears bs,
-- cut in any way; its calls come to their end, and it is so of their answers es, and of state and buffers c behind them.
-- own-settings, others-settings                        the sender of four
-- whole-messages, closing-push, complete, flags-alone, marked-last   what is sent
-- told-anew, told-hears, row_zero                      the receiver is told, also again
-- lock-lost, lost-silent, lost-state                   lock lost
-- words-in-order, lock-kept                            any bytes behind a marker: the order of the answers
-- hear-others, call-is                                 one sub-channel and another's, by the call that the code makes
-- call-apart, call-alone                               .. call by call
-- stands-alone, others-kept, schedules-end             .. and by pieces
-- fresh-told, told-live, live-kept, told-ready         what these laws ask can be met
-- every-cut, same-cut, every-payload, whole-stream     demand 3's cutting and its delivery
-- four-delivers                                        .. among the four, in every schedule
-- earlier-blocks, behind-flag, other-blocks            .. and its recovery
-- sub-block-answer, sub-block-only                     request W5, of a fixed sub-channel: a word's answer, at every R
-- repaired-..                                          request W12, of a fixed sub-channel: h bytes of each word altered
-- ..-refusals, ..-keeps-..                             the refusals, row by row, and what a refused call leaves
-- ..-keeps-cells, ..-puts-together                     the cells lent to the receiver of four: refused, and from call to call
-- ..-hear-numbers                                      the numbers that are given: 9 is not among them
-- sub-told-keeps, sub-told-is                          what telling a sub-channel leaves
-- sub-send-is                                          what a call that sends writes
use Prim.Native.Nat.{ℕ, suc, ◌+◌, ◌-◌, ◌*◌, ◌/◌, ◌%◌, ◌≤◌, ◌<◌}
use native.Mathlib.Omega.{arith}
use mathlib.Core.Path.{◌≡◌, refl, sym, ◌∙◌, ap, subst}
use mathlib.Core.Bool.{Bool, true, false}
use mathlib.Core.Logic.{◌≢◌, ◌⊎◌}
use mathlib.Core.List.{List, [], ◌∷◌, ◌++◌, map, append-nil}
use mathlib.Core.Option.{Option, some}
use lib.Dec.{ltb}
use lib.ListN.{length, take, get_or, set, replicate, length-set}
use lib.Seq.{take_all}
use borrow.Author.Tests.{lt-ltb, le-ltb, ltb-true}
use Rattle.base.specs.Bytes.{Each, Bytes}
use Rattle.base.specs.Calls.{With, joined, run, ReadsAll, Yields}
use Rattle.base.specs.Choice.{pick}
use Rattle.base.specs.Written.{refused, write, Keeps}
use Rattle.packet_spec.specs.Contents.{Packet, raw_limit}
use Rattle.packet_spec.specs.Escape.{flag}
use Rattle.packet_spec.specs.Frame.{Told as FrameTold, refusal}
use Rattle.packet_spec.specs.declared.Judged.TheVariants as judge
use Rattle.packet_spec.specs.Sender.{Accepted}
use Rattle.stream.specs.Meaning.{waiting, reads}
use Rattle.stream.specs.Sender.{stream, delivered, opened_from}
use Rattle.stream.proofs.Streaming.{stream-read}
use Rattle.interleaver_spec.specs.Places.{cell}
use Rattle.interleaver_spec.specs.Running.{fresh, fresh_back, sent as turned, push}
use Rattle.interleaver_spec.specs.declared.Back.{Back}
use Rattle.interleaver_spec.proofs.Calling.{passes}
use Rattle.repair.specs.Mended.{Mended}
use Rattle.repair.specs.Promise.{CleanWord, Promised}
use Rattle.channel_spec.specs.Sender.{marker, word_bytes}
use Rattle.channel_spec.specs.Meaning.{Event, said, lost, frames, blocks, losses, IsWord, FirstMarker, condition_by, as_mended}
use Rattle.channel_spec.specs.declared.Condition.TheVariants.{Clean as clean}
use Rattle.channel_spec.specs.declared.Hunting.{Hunting}
use Rattle.channel_spec.specs.declared.Answer.TheVariants.{Said}
use Rattle.channel_spec.proofs.Words.{word-promised, word-determined}
use Rattle.channel_spec.proofs.Messages.{stream-bytes}
use Rattle.channel_spec.proofs.Given.{frames-given, blocks-given, losses-given}
use Rattle.channel_spec.proofs.Marker.{the_marker}
use Rattle.subchannel_spec.specs.Sender.{word_of, messages_of, flag_word, closing_words, pushed, words_of, words_back, grouped, marked, sent}
use Rattle.subchannel_spec.specs.Word.{condition, mend, carried, came_back}
use Rattle.subchannel_spec.specs.Meaning.{in_group, silent, hears, start, answers, words_give}
use Rattle.subchannel_spec.proofs.Streaming.{messages, messages-each, carries}
use Rattle.subchannel_spec.proofs.Received.{joined_length}
use Rattle.subchannel_spec.proofs.Sent as laid
use Rattle.subchannel_spec.proofs.Flags.{flag_word_lem}
use Rattle.subchannel_spec.proofs.Lost as losing
use Rattle.subchannel_spec.proofs.Order.{few-given}
use Rattle.subchannel_spec.proofs.Numbers.{begins}
use Rattle.subchannel_spec.proofs.Returned.{back_is, returned, unaltered as came-unaltered, flat_back, word-place}
use Rattle.subchannel.specs.Call.{Memory, memory, untold, told_sub, telling, hear_call, EveryCut, ThereEvent, memory_of, in_use}
use Rattle.subchannel.proofs.Demands as one
use Rattle.subchannel.proofs.Delivery.{payload-there}
use Rattle.subchannel_spec.specs.Settings.{Done, Refused}
use Rattle.four_receivers.specs.declared.Receiver as code
use Rattle.four_receivers.specs.declared.Configuring.{Configuring}
use Rattle.four_receivers.specs.declared.Hearing.{Hearing}
use Rattle.four_receivers.specs.Call.{Receiver, whole, laid as cells_in, as_configuring, ConfiguringIs, FourIs}
use Rattle.four_receivers.specs.Call.{fresh_receiver, Memories, memory_at, exchanged, call_on, Scheduled, of_one, get, configuring, hear_four}
use Rattle.four_receivers.proofs.Calling as made
use Rattle.four_receivers.proofs.Ending as ending
use Rattle.four_receivers.proofs.Ending.{Ready, schedule-ends}
use Rattle.four_receivers.proofs.Apart as apart-four
use Rattle.four_receivers.proofs.Apart.{Live, memory-own, call-other, call-own, live_own, alone, configure-own, configure-others, told-means}
use Rattle.subchannel_sender.specs.Sending.{sending}
use Rattle.subchannel_sender.proofs.Determined.{sending-keeps}
use Rattle.four_senders.specs.declared.Sender.{Sender}
use Rattle.four_senders.specs.Call as senders
use Rattle.four_senders.proofs.Apart as apart
use Rattle.demands_laws.specs.Table.{Exact}
use Rattle.demands_laws.specs.Guarantee.{Received, received}
use Rattle.demands_laws.specs.Refusals.{Short, OfFrame, OfCall, ByFrame, ByCall, ByHear}
use Rattle.demands_laws.specs.SubChannels.{SubBeyond, ReceiverBeyond, SenderBeyond, Unknown, OfNumbered, ByConfigure, ByNumbered}
use Rattle.demands_laws.proofs.Rows.{row, not-less, refuses, wrote}
use Rattle.demands_laws.proofs.Altered.{unaltered, sent-clean-words, carried-received, answers-received, words-received, many-received}
use Rattle.demands_laws.proofs.Subs as rows

-- ---- "the sender .. for one to four sub-channels: each has R, a depth and its own stream": configured, a sub-channel sends a stream by its own
-- settings ..
pub own-settings : (s : Sender) (n r d : ℕ) (bs out : List ℕ) → (senders.configuring s n r d).0 ≡ Done
    → senders.send_four (senders.configuring s n r d).1 n bs out ≡ write (sent r d bs) out
own-settings = apart.configured-sends

-- .. and configuring it changes nothing of what another sends, or is refused by; sending changes no state
pub others-settings : (s : Sender) (n r d : ℕ) (bs out : List ℕ) (k : ℕ) → n ≢ k
    → senders.send_four (senders.configuring s n r d).1 k bs out ≡ senders.send_four s k bs out
others-settings = apart.configured-others

-- ---- what is sent of a stream's bytes bs, `sent r d bs`
module _ (r d : ℕ) (hr : r ≤ 64) (bs : List ℕ) (b : Bytes bs) where
  -- "filled with flags to whole messages": messages of 255 - R bytes, fewer flags than one has
  pub whole-messages : (k : ℕ) × (k < 255 - r) × (joined (messages_of r bs) ≡ bs ++ replicate k flag)
      × Each (λ (m : List ℕ). (length m ≡ 255 - r) × Bytes m) (messages_of r bs)
  whole-messages = laid.messages-whole r d hr bs b

  -- "At depth D of 2 or more the closing push is made of D words of flags": behind the words of the messages
  pub closing-push : (2 ≤ d → pushed r d bs ≡ map (word_of r) (messages_of r bs) ++ replicate d (flag_word r))
      × (d < 2 → pushed r d bs ≡ map (word_of r) (messages_of r bs))
  closing-push = laid.push-closes r d hr bs b

  -- ".. before the group is completed." "A group of four is always complete, filled with words of flags": fewer than four of them
  pub complete : (k : ℕ) × (k < 4) × (words_of r d bs ≡ pushed r d bs ++ replicate k (flag_word r))
      × (length (words_of r d bs) ≡ length (words_of r d bs) / 4 * 4)
  complete = laid.words-complete r d hr bs b

  -- a word of flags is 255 flags at every R: parity and all
  pub flags-alone : flag_word r ≡ replicate 255 flag
  flags-alone = flag_word_lem r hr

  -- "the marker before every four words, words interleaved before marking": gs are the groups' bytes, four words' each; together they are the words'
  -- bytes through the interleaver
  pub marked-last : (gs : List (List ℕ)) × (sent r d bs ≡ joined (map (λ g. marker ++ g) gs)) × Each (λ (g : List ℕ). length g ≡ 4 * 255) gs
      × (joined gs ≡ (run (push d) fresh (joined (words_of r d bs))).0)
  marked-last = laid.groups-are r d hr bs b

-- ---- "The receiver is told the settings ..": also again, and whatever it was before, it is as one just told, and what it then hears, whatever
-- the others hear between, means what it means to one just told
pub told-anew : (s : Receiver) (n r d : ℕ) → (configuring s n r d).0 ≡ Done → get (configuring s n r d).1 n ≡ told_sub r d
told-anew s n r d e = (configure-own s n r d e).4

pub told-hears : (k r d : ℕ) (s : Memories) → (configuring s.st k r d).0 ≡ Done → raw_limit ≤ length (s.recv k) → word_bytes ≤ length (s.word k)
    → {t : Memories} {ps : List (ℕ × List ℕ)} {es : List (ℕ × Event)}
    → Scheduled (record { st = (configuring s.st k r d).1; recv = s.recv; word = s.word }) ps es t
    → (of_one k es ≡ answers r d (joined (of_one k ps))) × (in_use (memory_at t k) ≡ in_use (memory_of r d (hears r d start (joined (of_one k ps))).1 [] []))
told-hears = told-means

-- .. "and that the first marked block starts at row zero": behind the first marker the cells are fresh, at place zero
pub row_zero : (r d : ℕ) → hears r d start marker ≡ ([], in_group the_marker 0 fresh_back [] waiting)
row_zero = begins

module _ (r d : ℕ) (hr : r ≤ 64) (hd : d ≤ 64) where
  -- ---- "when lock is lost that sub-channel gives nothing until it is told again": behind whole groups of any bytes four that are not the marker;
  -- that is told once, and whatever follows is not answered
  pub lock-lost : (stray rs : List ℕ) (g : ℕ) → length rs ≡ suc g * (4 * 255) → FirstMarker stray (grouped (suc g) rs)
      → (bs cs : List ℕ) → length bs ≡ 4 → bs ≢ marker
      → EveryCut r d ((stray ++ grouped (suc g) rs) ++ (bs ++ cs)) λ es _. es ≡ answers r d (stray ++ grouped (suc g) rs) ++ lost ∷ []
  lock-lost stray rs g l f bs cs h n =
      let x = losing.lock-lost r d stray rs g l f bs cs h n in
      one.cut-so (one.every-cut r d hr hd ((stray ++ grouped (suc g) rs) ++ (bs ++ cs))) λ es c e. e.0 ∙ ap (λ y. y.0) x.2

  -- from wherever it is lost on
  pub lost-silent : (bs cs : List ℕ) (f : Hunting) (k : Back) → (hears r d start bs).1 ≡ silent f k → EveryCut r d (bs ++ cs) λ es c. es ≡ answers r d bs
  lost-silent = one.stays-silent r d hr hd

  -- .. its state then: its settings, not locked, counts zero, and "drops any open packet and waits for a flag" (paper 01)
  pub lost-state : (stray rs : List ℕ) (g : ℕ) → length rs ≡ suc g * (4 * 255) → FirstMarker stray (grouped (suc g) rs)
      → (bs cs : List ℕ) → length bs ≡ 4 → bs ≢ marker
      → EveryCut r d ((stray ++ grouped (suc g) rs) ++ (bs ++ cs)) λ _ c. (f : Hunting) × (c.st.lane ≡ record {
        settings = record { told = true; parity = r; depth = d };
        locked = false;
        lost = true;
        hunting = f;
        counts = record { group = 0; marker = 0; word = 0; handed = 0 };
        frame = record { opened = false; raw = 0; stored = 0; place = 0 };
      })
  lost-state stray rs g l f bs cs h n =
      let x = losing.lock-lost r d stray rs g l f bs cs h n in
      one.cut-so (one.every-cut r d hr hd ((stray ++ grouped (suc g) rs) ++ (bs ++ cs))) λ es c e.
      (x.0, ap (λ y. y.0.lane) e.1 ∙ ap (λ y. (memory_of r d y.1 [] []).st.lane) x.2)

  -- ---- whole groups of any bytes behind stray bytes, in which order the answers come, of the words as they come out of the receiving side of the
  -- interleaver: "Each whole word gives first a block answer, .. then the answers of its .. message bytes" (paper 01)
  module _ (stray rs : List ℕ) (g : ℕ) (whole : length rs ≡ suc g * (4 * 255)) (first : FirstMarker stray (grouped (suc g) rs)) where
    pub words-in-order : EveryCut r d (stray ++ grouped (suc g) rs) λ es _. es ≡ (words_give r (came_back d (suc g * 4 - closing_words d) rs) waiting).0
    words-in-order =
        one.cut-so (one.every-cut r d hr hd (stray ++ grouped (suc g) rs)) λ es _ e.
        e.0 ∙ ap (answers r d) (sym (append-nil (stray ++ grouped (suc g) rs))) ∙ few-given r d hd stray rs g whole first [] (omega arith)

    -- "When all four are read and differ, it answers "lock lost"" (paper 01): not before
    pub lock-kept : (bs : List ℕ) → length bs < 4
        → EveryCut r d ((stray ++ grouped (suc g) rs) ++ bs) λ es _. es ≡ (words_give r (came_back d (suc g * 4 - closing_words d) rs) waiting).0
    lock-kept bs h = one.cut-so (one.every-cut r d hr hd ((stray ++ grouped (suc g) rs) ++ bs)) λ es _ e. e.0 ∙ few-given r d hd stray rs g whole first bs h

-- ---- "Bytes of one sub-channel never affect another's answers": the call that the code makes, by any number, leaves the state of the sub-channels of
-- the other numbers, whatever it answers ..
pub hear-others : (s : Receiver) (n k : ℕ) (recv word bs : List ℕ) → k ≤ 3 → n ≢ k → get (hear_four s n recv word bs).2 k ≡ get s k
hear-others = apart-four.hear-others

-- .. and among the buffers of all four a call on sub-channel n, `call_on`, is that call with that one's two: answer, bytes taken, state, both buffers
pub call-is : (n : ℕ) (s : Memories) (bs : List ℕ) →
    let x = hear_four s.st n (s.recv n) (s.word n) bs in
    let y = call_on n s bs in
    (y.0 ≡ x.0) × (y.1 ≡ x.1) × (y.2.st ≡ x.2) × (y.2.recv n ≡ x.3) × (y.2.word n ≡ x.4)
call-is = made.call-is

-- .. so it leaves another's state and buffers where that one is configured, call by call, answered or refused, in the middle of a piece too, and
-- leaves it configured
pub call-apart : (k n : ℕ) (s : Memories) (bs : List ℕ) → n ≢ k → Live k s
    → (memory_at (call_on n s bs).2 k ≡ memory_at s k) × Live k (call_on n s bs).2
call-apart = call-other

-- .. a call on that one gives and leaves what it does to it alone ..
pub call-alone : (k : ℕ) (s : Memories) (bs : List ℕ) → Live k s
    → (((call_on k s bs).0, (call_on k s bs).1, memory_at (call_on k s bs).2 k) ≡ hear_call (memory_at s k) bs) × Live k (call_on k s bs).2
call-alone k s bs l =
    let x : Option Event × ℕ × Memory = hear_call (memory_at s k) bs in
    let e : call_on k s bs ≡ (x.0, x.1, exchanged s k x.2) = call-own k s bs l x refl in (
      ap (λ (y : Option Event × ℕ × Memories). (y.0, y.1, memory_at y.2 k)) e ∙ (λ i. (x.0, x.1, memory-own s k x.2 i)),
      subst (λ (y : Option Event × ℕ × Memories). Live k y.2) (sym e) (live_own k s bs l),
    )

-- .. so, whatever pieces are scheduled over the four, its answers, final state and buffers are those of its own pieces handed to it alone;
-- told-hears has what these mean
pub stands-alone : (k : ℕ) {s t : Memories} {ps : List (ℕ × List ℕ)} {es : List (ℕ × Event)} → Live k s → Scheduled s ps es t
    → ReadsAll hear_call (memory_at s k) (of_one k ps) (of_one k es) (memory_at t k)
stands-alone = alone

-- .. and configuring one leaves the others
pub others-kept : (s : Receiver) (n k r d : ℕ) → n ≤ 3 → k ≤ 3 → n ≢ k → get (configuring s n r d).1 k ≡ get s k
others-kept = configure-others

-- .. and every schedule comes to its end, whose pieces are each for a configured sub-channel with buffers that pass 11
pub schedules-end : (ps : List (ℕ × List ℕ)) (s : Memories) → Each (λ (x : ℕ × List ℕ). Ready s x.0) ps
    → (es : List (ℕ × Event)) × (t : Memories) × Scheduled s ps es t
schedules-end = schedule-ends

-- what these laws ask can be met: a fresh receiver may be told the settings of each, with every R and depth to 64 ..
pub fresh-told : (n r d : ℕ) → n ≤ 3 → r ≤ 64 → d ≤ 64 → (configuring fresh_receiver n r d).0 ≡ Done
fresh-told = apart-four.fresh-told

-- .. one that is told is configured, in a state that passes 10 ..
pub told-live : (k r d : ℕ) (s : Memories) → (configuring s.st k r d).0 ≡ Done
    → Live k (record { st = (configuring s.st k r d).1; recv = s.recv; word = s.word })
told-live = apart-four.told-live

-- .. stays so while another is told ..
pub live-kept : (k n r d : ℕ) (s : Memories) → n ≢ k → Live k s → Live k (record { st = (configuring s.st n r d).1; recv = s.recv; word = s.word })
live-kept = apart-four.live-kept

-- .. and with buffers that pass 11 its calls are not refused
pub told-ready : (k r d : ℕ) (s : Memories) → (configuring s.st k r d).0 ≡ Done → raw_limit ≤ length (s.recv k) → word_bytes ≤ length (s.word k)
    → Ready (record { st = (configuring s.st k r d).1; recv = s.recv; word = s.word }) k
told-ready = ending.told-ready

module _ (r d : ℕ) (hr : r ≤ 64) (hd : d ≤ 64) where
  -- ---- "Demand 3's cutting .. hold for each": every way of cutting yields the answers and the final state of the uncut string ..
  pub every-cut : (bs : List ℕ) → EveryCut r d bs λ es c. (es ≡ answers r d bs) × (in_use c ≡ in_use (memory_of r d (hears r d start bs).1 [] []))
  every-cut = one.every-cut r d hr hd

  -- .. from the same buffers to the last byte of both
  pub same-cut : (recv word : List ℕ) → raw_limit ≤ length recv → word_bytes ≤ length word → (ps qs : List (List ℕ)) → joined ps ≡ joined qs
      → Yields hear_call (memory (told_sub r d) recv word) ps
      λ es c. Yields hear_call (memory (told_sub r d) recv word) qs
      λ fs e. (es ≡ fs) × (c ≡ e)
  same-cut = one.same-cut r d hr hd

  -- .. "and its delivery of the sent packets": once each, in order, and nothing else. Every block is clean, and no lock is lost
  pub whole-stream : (stray : List ℕ) (ps : List Packet) → Each Accepted ps → FirstMarker stray (sent r d (stream ps))
      → EveryCut r d (stray ++ sent r d (stream ps))
      λ es c. (frames es ≡ map delivered ps) × (blocks es ≡ replicate (length (words_of r d (stream ps)) - closing_words d) clean) × (losses es ≡ 0)
  whole-stream = one.delivers r d hr hd

-- .. "hold for each": so it is of each of the four, told, in every schedule of pieces over them (these come to their end: schedules-end): where its
-- own pieces are together stray bytes and then a sender's whole stream, its answers deliver just the sent packets, whatever the others hear
pub four-delivers : (k r d : ℕ) (s : Memories) → (configuring s.st k r d).0 ≡ Done → raw_limit ≤ length (s.recv k) → word_bytes ≤ length (s.word k)
    → (stray : List ℕ) (ps : List Packet) → Each Accepted ps → FirstMarker stray (sent r d (stream ps))
    → {t : Memories} {pieces : List (ℕ × List ℕ)} {es : List (ℕ × Event)} → joined (of_one k pieces) ≡ stray ++ sent r d (stream ps)
    → Scheduled (record { st = (configuring s.st k r d).1; recv = s.recv; word = s.word }) pieces es t
    → (frames (of_one k es) ≡ map delivered ps)
    × (blocks (of_one k es) ≡ replicate (length (words_of r d (stream ps)) - closing_words d) clean) × (losses (of_one k es) ≡ 0)
four-delivers k r d s e a b stray ps accepted first {t} {pieces} {es} cut c =
    let o = configure-own s.st k r d e in
    (whole-stream r d o.0 o.1 stray ps accepted first (s.recv k) (s.word k) a b (of_one k pieces) cut).always (of_one k es) (memory_at t k)
    (subst (λ x. ReadsAll hear_call (memory x (s.recv k) (s.word k)) (of_one k pieces) (of_one k es) (memory_at t k)) o.4
    (stands-alone k (told-live k r d s e) c))

-- a delivery counts with its payload bytes and its key: they stand in the receive buffer
pub every-payload : (c : Memory) (bs : List ℕ) → With ThereEvent (hear_call c bs).0 (hear_call c bs).2
every-payload = payload-there

-- ---- "its recovery after an altered block holds for depth 0 and 1": a block is a word, or a group of four; the words us, one or more, are altered
-- at will, to vs, and no marker is
module _ (r d : ℕ) (hr : r ≤ 64) (flat : d < 2) (stray : List ℕ) (ps : List Packet) (accepted : Each Accepted ps)
    (first : FirstMarker stray (sent r d (stream ps))) (earlier us vs later : List (List ℕ)) (some_words : words_of r d (stream ps) ≡ earlier ++ (us ++ later))
    (any : Each IsWord vs) (many : length vs ≡ length us) where
  -- "the answers of the earlier blocks stay the same" (the owner's demand 3): fs to the stream as sent, es to the altered one
  pub earlier-blocks : EveryCut r d (stray ++ sent r d (stream ps))
      λ fs _. EveryCut r d (stray ++ marked d (earlier ++ (vs ++ later)))
      λ es _. (xs ys : List Event) × (fs ≡ (words_give r earlier waiting).0 ++ xs) × (es ≡ (words_give r earlier waiting).0 ++ ys)
  earlier-blocks = one.earlier-answers r d hr flat stray ps accepted first earlier us vs later some_words any many

  -- "and behind the first opening flag in a later block, the frame answers are exactly the sent packets opened from that flag on, once each and
  -- in order" (the owner's demand 3): behind the first, and behind every other
  pub behind-flag : (pre post : List ℕ) → carried r later ≡ pre ++ flag ∷ post
      → EveryCut r d (stray ++ marked d (earlier ++ (vs ++ later)))
      λ es _. frames es ≡ (reads waiting ((carried r (earlier ++ vs) ++ pre) ++ flag ∷ [])).0
      ++ map delivered (opened_from ps (length (carried r (earlier ++ us) ++ pre)))
  behind-flag = one.later-answers r d hr flat stray ps accepted first earlier us vs later some_words any many

  -- the others are still clean, and no lock is lost
  pub other-blocks : EveryCut r d (stray ++ marked d (earlier ++ (vs ++ later)))
      λ es _. (blocks es ≡ replicate (length earlier) clean ++ (map (condition r) vs ++ replicate (length later) clean)) × (losses es ≡ 0)
  other-blocks = one.other-blocks r d hr flat stray ps accepted first earlier us vs later some_words any many

-- ---- request W5, of a word of a fixed sub-channel: "For R parity bytes and h = INT(R/2), a word has one of three answers: clean; repaired, with the
-- count of changed places from 1 to h; beyond repair." "The word buffer then holds the repaired word, or one beyond repair as it came, and the receiver
-- reads that." Answer and word meet the promise of repair ..
pub sub-block-answer : (r : ℕ) → r ≤ 64 → (w : List ℕ) → IsWord w → Bytes w → Promised r w (as_mended (condition r w)) (mend r w)
sub-block-answer = word-promised

-- .. and no other answer and word meet it
pub sub-block-only : (r : ℕ) → r ≤ 64 → (w : List ℕ) → IsWord w → Bytes w
    → (a : Mended) (o : List ℕ) → Promised r w a o → (condition_by a ≡ condition r w) × (o ≡ mend r w)
sub-block-only = word-determined

-- ---- request W12, of a fixed sub-channel: "if at most .. bytes of each .. word are altered and no marker is, the receiver delivers just what was
-- sent", for every R and depth, h = INT(R/2) bytes of each word. In place of a sent stream's bytes come rs, as many, behind the same markers;
-- of each word, as it comes out of the receiving side of the interleaver, at most h bytes are altered
module _ (r d : ℕ) (hr : r ≤ 64) (hd : d ≤ 64) (stray : List ℕ) (ps : List Packet) (accepted : Each Accepted ps)
    (first : FirstMarker stray (sent r d (stream ps))) where
  b : Bytes (stream ps)
  b = stream-bytes ps accepted

  abbrev ws : List (List ℕ)
  ws = words_back r d (stream ps)

  clean-words : Each (CleanWord r) ws
  clean-words =
      subst (Each (CleanWord r)) (sym (back_is r d hr hd (stream ps) b))
      (sent-clean-words r hr (messages r d hr (stream ps) b) (messages-each r d hr (stream ps) b))

  pub repaired-as-sent : (rs : List ℕ) → length rs ≡ length (words_of r d (stream ps)) * 255 → Received r ws (came_back d (length ws) rs)
      → EveryCut r d (stray ++ grouped (length (words_of r d (stream ps)) / 4) rs)
      λ es _. (frames es ≡ map delivered ps) × (blocks es ≡ received ws (came_back d (length ws) rs)) × (losses es ≡ 0)
  repaired-as-sent rs many came = one.cut-so (one.every-cut r d hr hd (stray ++ grouped (length (words_of r d (stream ps)) / 4) rs)) λ es _ cut.
      let vs : List (List ℕ) = came_back d (length ws) rs in
      let e = cut.0 ∙ returned r d hr hd (stream ps) b (omega arith) stray first rs many in
      let k = carries r d hr (stream ps) b in (
        ap frames e ∙ frames-given r vs waiting
            ∙ ap (λ l. (reads waiting l).0) (carried-received r ws vs clean-words came ∙ ap (carried r) (back_is r d hr hd (stream ps) b) ∙ k.1)
            ∙ ap (λ x. x.0) (stream-read ps accepted k.0),
        ap blocks e ∙ blocks-given r vs waiting ∙ answers-received r ws vs clean-words came,
        ap losses e ∙ losses-given r vs waiting,
      )

  -- that can be met: by the bytes as they are sent
  pub repaired-there : Received r ws (came_back d (length ws) (run (push d) fresh (joined (words_of r d (stream ps)))).0)
  repaired-there = subst (Received r ws) (sym (came-unaltered r d hr hd (stream ps) b)) (unaltered r ws clean-words)

-- where on the air a byte of such a word stands, at depth 2 or more: byte i of word j, byte t of all words, is byte v of those received, markers
-- not counted, the one of the N = 255 d from t on that the equations read from cell t mod N.
pub repaired-where : (d : ℕ) → 2 ≤ d → d ≤ 64 → (n : ℕ) (rs : List ℕ) → n * 255 + 255 * d ≤ length rs + 1 → (j i : ℕ) → j < n → i < 255
    → let t : ℕ = j * 255 + i in
    (v : ℕ) × (t ≤ v) × (v < t + 255 * d) × (cell d v ≡ t % (255 * d)) × (get_or (get_or (came_back d n rs) j []) i 0 ≡ get_or rs v 0)
repaired-where = word-place

-- .. at depth 0 and 1, of each word as it stands on the air: the words vs come in for those sent
module _ (r d : ℕ) (hr : r ≤ 64) (flat : d < 2) (stray : List ℕ) (ps : List Packet) (accepted : Each Accepted ps)
    (first : FirstMarker stray (sent r d (stream ps))) (vs : List (List ℕ)) (came : Received r (words_of r d (stream ps)) vs) where
  all_back : words_back r d (stream ps) ≡ words_of r d (stream ps)
  all_back =
      let w : List (List ℕ) = words_of r d (stream ps) in
      ap (λ t. take (length w - pick t 0 d) w) (lt-ltb d 2 flat) ∙ take_all (length w - 0) w (omega arith)

  as_many : length vs ≡ length (words_of r d (stream ps))
  as_many = many-received r (words_of r d (stream ps)) vs came

  back : came_back d (length (words_back r d (stream ps))) (joined vs) ≡ vs
  back =
      ap (λ n. came_back d n (joined vs)) (ap length all_back ∙ sym as_many) ∙ flat_back d flat vs (words-received r (words_of r d (stream ps)) vs came)

  on-air : grouped (length (words_of r d (stream ps)) / 4) (joined vs) ≡ marked d vs
  on-air = λ i. grouped (sym as_many i / 4) (sym (passes d (turned d) flat fresh (joined vs)) i).0

  pub repaired-flat : EveryCut r d (stray ++ marked d vs)
      λ es _. (frames es ≡ map delivered ps) × (blocks es ≡ received (words_of r d (stream ps)) vs) × (losses es ≡ 0)
  repaired-flat =
      subst (λ (x : List ℕ). EveryCut r d (stray ++ x) λ es _. (frames es ≡ map delivered ps) × (blocks es ≡ received (words_of r d (stream ps)) vs)
      × (losses es ≡ 0)) on-air
      (one.cut-so
      (repaired-as-sent r d hr (omega arith) stray ps accepted first (joined vs)
      (joined_length vs (words-received r (words_of r d (stream ps)) vs came) ∙ (let z = as_many in omega arith))
      (subst (λ x. Received r x (came_back d (length (words_back r d (stream ps))) (joined vs))) (sym all_back)
      (subst (Received r (words_of r d (stream ps))) (sym back) came)))
      λ es _ x. (x.0, x.1 ∙ (λ i. received (all_back i) (back i)), x.2))

-- ---- "Refusals: 10 also when a group counts more than four words; .. then 11 for its two buffers": one sub-channel's call
pub sub-hear-refusals : (c : Memory) (bs : List ℕ) → Exact ByHear (hear_call c bs)
    ((10, SubBeyond c.st) ∷  -- a count of the state is beyond its limit
    (11, Short c.recv c.word) ∷  -- receive buffer under 8,272 bytes, word buffer under 255
    [])
sub-hear-refusals = rows.sub-exact

-- the numbers that it gives are 1 to 8 and 12 of a frame, 10 and 11 of the call: 9 is not used (request W9)
pub sub-hear-numbers : (c : Memory) (bs : List ℕ) (t : FrameTold) (n : ℕ) → (hear_call c bs).0 ≡ some (said t) → ByFrame t n → OfFrame n ⊎ OfCall n
sub-hear-numbers = rows.sub-given

-- .. and its sender's: "30 and 32", 23 behind them
pub sub-send-refusals : (r d : ℕ) (bs out : List ℕ) → Exact ByCall (sending r d bs out)
    ((30, 64 < r) ∷  -- R above 64
    (32, 64 < d) ∷  -- depth above 64
    (23, length out < length (sent r d bs)) ∷  -- output shorter than the result
    [])
sub-send-refusals r d bs out =
    row ByCall (ltb 64 r) (refuses 30 out) (ltb-true _ _) (not-less _ _)
    (row ByCall (ltb 64 d) (refuses 32 out) (ltb-true _ _) (not-less _ _) (wrote (sent r d bs) out _ refl))

-- .. where none of these applies, the stream as it is sent is written, "bytes behind the result stay" (paper 01)
pub sub-send-is : (r d : ℕ) (bs out : List ℕ) → r ≤ 64 → d ≤ 64 → sending r d bs out ≡ write (sent r d bs) out
sub-send-is r d bs out hr hd =
    ap (λ (t : Bool). pick t (refused 30 out) (pick (ltb 64 d) (refused 32 out) (write (sent r d bs) out))) (le-ltb 64 r hr)
    ∙ ap (λ (t : Bool). pick t (refused 32 out) (write (sent r d bs) out)) (le-ltb 64 d hd)

-- "then 42 for a sub-channel number above 3 or, outside configuring, one not configured; then 11 for its two buffers": by number
pub number-hear-refusals : (s : Receiver) (n : ℕ) (recv word bs : List ℕ) → Exact ByNumbered (hear_four s n recv word bs)
    ((10, ReceiverBeyond s) ∷  -- a count of the state, which is all four, is beyond its limit
    (42, Unknown n (get s n).lane.settings) ∷  -- a number above 3, or one not configured
    (11, Short recv word) ∷  -- its receive buffer under 8,272 bytes, its word buffer under 255
    [])
number-hear-refusals = rows.number-exact

-- .. 42 besides
pub number-hear-numbers : (s : Receiver) (n : ℕ) (recv word bs : List ℕ) (t : FrameTold) (m : ℕ)
    → (hear_four s n recv word bs).0 ≡ some (said t) → ByFrame t m → OfFrame m ⊎ OfNumbered m
number-hear-numbers = rows.four-given

pub number-send-refusals : (s : Sender) (n : ℕ) (bs out : List ℕ) → Exact ByCall (senders.send_four s n bs out)
    ((10, SenderBeyond s) ∷  -- settings that no configuring takes, of any of the four
    (42, Unknown n (senders.get s n)) ∷  -- a number above 3, or one not configured
    (23, length out < length (sent (senders.get s n).parity (senders.get s n).depth bs)) ∷  -- output shorter than the result
    [])
number-send-refusals = rows.send-exact

-- "30 and 32 on configuring", the receiver's ..
pub configure-refusals : (s : Receiver) (n r d : ℕ) → Exact ByConfigure (configuring s n r d)
    ((10, ReceiverBeyond s) ∷  -- a count of the state, which is all four, is beyond its limit
    (42, 3 < n) ∷  -- a number above 3
    (30, 64 < r) ∷  -- R above 64
    (32, 64 < d) ∷  -- depth above 64
    [])
configure-refusals = rows.receiver-configure-exact

-- .. one sub-channel's ..
pub sub-told-refusals : (r d : ℕ) → Exact ByConfigure (telling r d)
    ((30, 64 < r) ∷  -- R above 64
    (32, 64 < d) ∷  -- depth above 64
    [])
sub-told-refusals = rows.told-exact

-- .. and the sender's
pub sender-configure-refusals : (s : Sender) (n r d : ℕ) → Exact ByConfigure (senders.configuring s n r d)
    ((10, SenderBeyond s) ∷ (42, 3 < n) ∷ (30, 64 < r) ∷ (32, 64 < d) ∷ [])
sender-configure-refusals = rows.sender-configure-exact

-- ---- a refused call changes nothing: state and buffers as they were, no byte taken or written
pub sub-hear-keeps-all : (c : Memory) (bs : List ℕ) (n : ℕ) → ByHear (hear_call c bs) n → hear_call c bs ≡ (some (said (refusal n)), 0, c)
sub-hear-keeps-all = rows.sub_same

pub sub-send-keeps-out : (r d : ℕ) (bs out : List ℕ) → Keeps out (sending r d bs out)
sub-send-keeps-out = sending-keeps

pub number-hear-keeps-all : (s : Receiver) (n : ℕ) (recv word bs : List ℕ) (m : ℕ) → ByNumbered (hear_four s n recv word bs) m
    → hear_four s n recv word bs ≡ (some (said (refusal m)), 0, s, recv, word)
number-hear-keeps-all = rows.number_same

pub number-send-keeps-out : (s : Sender) (n : ℕ) (bs out : List ℕ) → Keeps out (senders.send_four s n bs out)
number-send-keeps-out = apart.send-keeps

pub configure-keeps-all : (s : Receiver) (n r d m : ℕ) → ByConfigure (configuring s n r d) m → configuring s n r d ≡ (Refused m, s)
configure-keeps-all = rows.receiver-configure-same

-- .. of the receiver of four a part is handed on by value and the cells are lent, `whole s cs` being both together; `ConfiguringIs` and `FourIs` are
-- what the code promises (proofs/Promises). Refused, it hands back the state that it was given, and leaves the cells and both buffers
module _ (s : code.Receiver) (cs : List (List ℕ)) where
  pub configure-keeps-cells : (n r d m : ℕ) → ByConfigure (configuring (whole s cs) n r d) m → (x : Configuring) {left : List (List ℕ)}
      → ConfiguringIs cs (configuring (whole s cs) n r d) x left → (as_configuring x ≡ (Refused m, s)) × (left ≡ cs)
  configure-keeps-cells n r d m e x {left} h =
      let q = subst (λ y. ConfiguringIs cs y x left) (configure-keeps-all (whole s cs) n r d m e) h in
      (q.0, q.1 ∙ sym (made.laid_same s cs))

  pub number-hear-keeps-cells : (n : ℕ) (recv word bs : List ℕ) (m : ℕ) → ByNumbered (hear_four (whole s cs) n recv word bs) m
      → {x : Hearing} {left : List (List ℕ)} {l k : List ℕ} → FourIs cs (hear_four (whole s cs) n recv word bs) x left l k
      → (x ≡ record { answer = Said (judge.Refused m); taken = 0; receiver = s }) × (left ≡ cs) × (l ≡ recv) × (k ≡ word)
  number-hear-keeps-cells n recv word bs m e {x} {left} {l} {k} h =
      let q = subst (λ y. FourIs cs y x left l k) (number-hear-keeps-all (whole s cs) n recv word bs m e) h in
      (q.0, q.1 ∙ sym (made.laid_same s cs), q.2, q.3)

  four-left : (t : Receiver) {left : List (List ℕ)} → length cs ≡ 4 → left ≡ cells_in cs t → length left ≡ 4
  four-left t four e =
      let one : List (List ℕ) = set cs 0 t.a.back.matrix.cells in
      let two : List (List ℕ) = set one 1 t.b.back.matrix.cells in
      let three : List (List ℕ) = set two 2 t.c.back.matrix.cells in
      ap length e ∙ length-set three 3 t.d.back.matrix.cells ∙ length-set two 2 t.c.back.matrix.cells
      ∙ length-set one 1 t.b.back.matrix.cells ∙ length-set cs 0 t.a.back.matrix.cells ∙ four

  -- .. and with four cells lent, what comes back of a call, refused or not, put together is the state behind it, with which the next call starts;
  -- four they are again
  pub configure-puts-together : length cs ≡ 4 → (n r d : ℕ) (x : Configuring) {left : List (List ℕ)}
      → ConfiguringIs cs (configuring (whole s cs) n r d) x left
      → (whole x.receiver left ≡ (configuring (whole s cs) n r d).1) × (length left ≡ 4)
  configure-puts-together four n r d x h =
      let t : Receiver = (configuring (whole s cs) n r d).1 in ((λ i. whole (h.0 i).1 (h.1 i)) ∙ made.carried t cs four, four-left t four h.1)

  pub number-hear-puts-together : length cs ≡ 4 → (n : ℕ) (recv word bs : List ℕ) {x : Hearing} {left : List (List ℕ)} {l k : List ℕ}
      → FourIs cs (hear_four (whole s cs) n recv word bs) x left l k
      → (whole x.receiver left ≡ (hear_four (whole s cs) n recv word bs).2) × (length left ≡ 4)
  number-hear-puts-together four n recv word bs h =
      let t : Receiver = (hear_four (whole s cs) n recv word bs).2 in ((λ i. whole (h.0 i).receiver (h.1 i)) ∙ made.carried t cs four, four-left t four h.1)

-- .. one that was refused is not told
pub sub-told-keeps : (r d m : ℕ) → ByConfigure (telling r d) m → telling r d ≡ (Refused m, untold)
sub-told-keeps = rows.told_same

-- .. where none of these applies, it is as one just told
pub sub-told-is : (r d : ℕ) → r ≤ 64 → d ≤ 64 → telling r d ≡ (Done, told_sub r d)
sub-told-is r d hr hd = rw (le-ltb 64 r hr, le-ltb 64 d hd) refl

pub sender-configure-keeps-all : (s : Sender) (n r d m : ℕ) → ByConfigure (senders.configuring s n r d) m → senders.configuring s n r d ≡ (Refused m, s)
sender-configure-keeps-all = rows.sender-configure-same

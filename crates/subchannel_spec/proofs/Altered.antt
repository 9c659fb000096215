-- Depth 0 and 1: a run of words, one or more, altered at will, and no marker. So a block may be one word or a group of four.
-- groups-begin                  where the marker first appears
-- flat-received                 the answers of any words in whole groups
-- earlier-same                  the answers of the earlier words stay the same
-- others-stay                   each word has its own answer, and no lock is lost
-- later-exact                   behind a flag of a later word, the frame answers are exactly the sent packets opened from there on
use Prim.Native.Nat.{ℕ, suc, ◌+◌, ◌*◌, ◌/◌, ◌≤◌, ◌<◌}
use native.Mathlib.Omega.{arith}
use mathlib.Core.Path.{◌≡◌, refl, sym, ◌∙◌, ap, subst}
use mathlib.Core.List.{List, [], ◌∷◌, ◌++◌, map, append-nil}
use lib.ListN.{length, take, drop, replicate, length-append}
use borrow.Author.Tests.{lt-ltb}
use Rattle.base.specs.Bytes.{Each, Bytes}
use Rattle.base.specs.Calls.{joined, run}
use Rattle.base.specs.Choice.{pick}
use Rattle.base.proofs.Bytes.{each-append-left, each-append-right, each_append}
use Rattle.packet_spec.specs.Contents.{Packet}
use Rattle.packet_spec.specs.Escape.{flag}
use Rattle.packet_spec.specs.Sender.{Accepted}
use Rattle.parity.specs.Calls.{root_limit}
use Rattle.stream.specs.Meaning.{waiting, reads}
use Rattle.stream.specs.Sender.{stream, delivered, opened_from}
use Rattle.interleaver_spec.specs.Running.{fresh, push}
use Rattle.channel_spec.specs.Word.{condition, carried, IsWord}
use Rattle.channel_spec.specs.Given.{Event, frames, blocks, losses, words_give}
use Rattle.channel_spec.specs.Meaning.{FirstMarker}
use Rattle.channel_spec.specs.declared.Condition.TheVariants.{Clean as clean}
use Rattle.channel_spec.proofs.Messages.{IsClean, stream-bytes}
use Rattle.channel_spec.proofs.Given.{give-append, words-stay, words-exact}
use Rattle.channel_spec.proofs.Marker.{first-marker}
use Rattle.subchannel_spec.specs.Sender.{group_words, group_bytes, flag_word, grouped, marked, words_of, sent}
use Rattle.subchannel_spec.specs.Meaning.{answers}
use Rattle.subchannel_spec.proofs.Received.{received}
use Rattle.subchannel_spec.proofs.Streaming.{answered, answered-each, answered-clean, carries, in-turn, groups}

-- where the marker first appears, whatever the groups' bytes are
pub groups-begin : (g h : ℕ) (xs bs stray : List ℕ) → FirstMarker stray (grouped (suc g) xs) → FirstMarker stray (grouped (suc h) bs)
groups-begin g h xs bs stray f =
    first-marker stray (take group_bytes xs ++ grouped g (drop group_bytes xs)) (take group_bytes bs ++ grouped h (drop group_bytes bs)) f

-- words in whole groups, and other words in their place, as many
pub flat-received : (r d : ℕ) → d < 2 → (stray : List ℕ) (g : ℕ) (ws vs : List (List ℕ)) → FirstMarker stray (marked d ws)
    → Each IsWord vs → length vs ≡ length ws → length ws ≡ suc g * group_words → answers r d (stray ++ marked d vs) ≡ (words_give r vs waiting).0
flat-received r d flat stray g ws vs first w l m =
    let out : List (List ℕ) → List ℕ = λ x. (run (push d) fresh (joined x)).0 in
    let n : length ws / group_words ≡ suc g = omega arith in
    let k : length vs / group_words ≡ suc g = omega arith in
    let f : FirstMarker stray (marked d vs) =
    subst (λ x. FirstMarker stray (grouped x (out vs))) (sym k)
    (groups-begin g g (out ws) (out vs) stray (subst (λ x. FirstMarker stray (grouped x (out ws))) n first)) in
    let e : vs ++ [] ≡ vs = append-nil vs in
    ap (λ x. answers r d (stray ++ marked d x)) (sym e)
    ∙ received r d stray vs [] g (omega arith) w tt (sym (ap (λ t. pick t 0 d) (lt-ltb d 2 flat))) (ap length e ∙ l ∙ m)
    (subst (λ x. FirstMarker stray (marked d x)) (sym e) f)

-- at depth 0 and 1 there is no closing push: all words are answered
module _ (r d : ℕ) (hr : r ≤ root_limit) (flat : d < 2) (bs : List ℕ) (b : Bytes bs) where
  all-answered : words_of r d bs ≡ answered r d hr bs b
  all-answered =
      in-turn r d hr bs b
      ∙ ap (λ t. answered r d hr bs b ++ replicate (pick t 0 d) (flag_word r)) (lt-ltb d 2 flat) ∙ append-nil (answered r d hr bs b)

-- of a sent stream the words us, one or more, are altered at will, to vs, and no marker is
module _ (r d : ℕ) (hr : r ≤ root_limit) (flat : d < 2) (stray : List ℕ) (ps : List Packet) (a : Each Accepted ps)
    (first : FirstMarker stray (sent r d (stream ps))) (earlier us vs later : List (List ℕ)) (one : words_of r d (stream ps) ≡ earlier ++ (us ++ later))
    (any : Each IsWord vs) (many : length vs ≡ length us) where
  abbrev altered : List (List ℕ)
  altered = earlier ++ (vs ++ later)

  ws-each : Each IsWord (words_of r d (stream ps))
  ws-each = subst (Each IsWord) (sym (all-answered r d hr flat (stream ps) (stream-bytes ps a))) (answered-each r d hr (stream ps) (stream-bytes ps a))

  ws-groups : (g : ℕ) × (length (words_of r d (stream ps)) ≡ suc g * group_words)
  ws-groups = groups r d hr (stream ps) (stream-bytes ps a) (omega arith)

  altered-each : Each IsWord altered
  altered-each =
      let h : Each IsWord (earlier ++ (us ++ later)) = subst (Each IsWord) one ws-each in
      each_append IsWord earlier (vs ++ later) (each-append-left IsWord earlier (us ++ later) h)
      (each_append IsWord vs later any (each-append-right IsWord us later (each-append-right IsWord earlier (us ++ later) h)))

  altered-length : length altered ≡ length (words_of r d (stream ps))
  altered-length =
      let x = length-append earlier (vs ++ later) in
      let y = length-append vs later in
      let z : length (words_of r d (stream ps)) ≡ length earlier + length (us ++ later) = ap length one ∙ length-append earlier (us ++ later) in
      let t = length-append us later in omega arith

  now-answers : answers r d (stray ++ marked d altered) ≡ (words_give r altered waiting).0
  now-answers = flat-received r d flat stray ws-groups.0 (words_of r d (stream ps)) altered first altered-each altered-length ws-groups.1

  -- both lists of answers begin with those of the earlier words
  pub earlier-same : (xs ys : List Event)
      × (answers r d (stray ++ sent r d (stream ps)) ≡ (words_give r earlier waiting).0 ++ xs)
      × (answers r d (stray ++ marked d altered) ≡ (words_give r earlier waiting).0 ++ ys)
  earlier-same = (
    (words_give r (us ++ later) (words_give r earlier waiting).1).0,
    (words_give r (vs ++ later) (words_give r earlier waiting).1).0,
    flat-received r d flat stray ws-groups.0 (words_of r d (stream ps)) (words_of r d (stream ps)) first ws-each refl ws-groups.1
        ∙ ap (λ x. (words_give r x waiting).0) one ∙ give-append r earlier (us ++ later) waiting,
    now-answers ∙ give-append r earlier (vs ++ later) waiting,
  )

  -- the words of a sent stream are clean
  clean-each : Each (IsClean r) (earlier ++ (us ++ later))
  clean-each =
      subst (Each (IsClean r)) (sym (all-answered r d hr flat (stream ps) (stream-bytes ps a)) ∙ one) (answered-clean r d hr (stream ps) (stream-bytes ps a))

  pub others-stay : (blocks (answers r d (stray ++ marked d altered))
      ≡ replicate (length earlier) clean ++ (map (condition r) vs ++ replicate (length later) clean))
      × (losses (answers r d (stray ++ marked d altered)) ≡ 0)
  others-stay =
      let s = words-stay r earlier us vs later clean-each in (ap blocks now-answers ∙ s.0, ap losses now-answers ∙ s.1)

  -- `pre` are the message bytes of the later words before the flag
  pub later-exact : (pre post : List ℕ) → carried r later ≡ pre ++ flag ∷ post
      → frames (answers r d (stray ++ marked d altered))
      ≡ (reads waiting ((carried r (earlier ++ vs) ++ pre) ++ flag ∷ [])).0 ++ map delivered (opened_from ps (length (carried r (earlier ++ us) ++ pre)))
  later-exact pre post e =
      let k = carries r d hr (stream ps) (stream-bytes ps a) in
      let c : carried r (earlier ++ (us ++ later)) ≡ stream ps ++ replicate k.0 flag =
      ap (carried r) (sym one ∙ all-answered r d hr flat (stream ps) (stream-bytes ps a)) ∙ k.1 in
      ap frames now-answers ∙ words-exact r earlier us vs later ps a k.0 c pre post e

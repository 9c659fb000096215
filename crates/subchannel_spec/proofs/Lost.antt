-- Lock lost: the sub-channel says so once, and then gives nothing, whatever it hears.
-- silent-stays   nothing behind it
-- lost-silent    four bytes behind a group that are not the marker, and whatever follows
-- lock-lost      .. behind stray bytes and whole groups of any bytes
-- marked-on      four that are: the next group begins, and word, frame and cells stay
use Prim.Native.Nat.{ℕ, suc, ◌*◌}
use mathlib.Core.Path.{◌≡◌, refl, sym, ◌∙◌, ap}
use mathlib.Core.Logic.{◌≢◌}
use mathlib.Core.Bool.{true, false}
use mathlib.Core.List.{List, [], ◌∷◌, ◌++◌}
use lib.ListN.{length}
use Rattle.base.specs.Calls.{and_then, run}
use Rattle.stream.specs.Meaning.{Reading, waiting}
use Rattle.interleaver_spec.specs.Running.{fresh_back, pull}
use Rattle.interleaver_spec.specs.declared.Back.{Back}
use Rattle.channel_spec.specs.Sender.{marker}
use Rattle.channel_spec.specs.Meaning.{Event, lost, is_marker, FirstMarker}
use Rattle.channel_spec.specs.declared.Hunting.{Hunting}
use Rattle.channel_spec.proofs.Given.{hears-append}
use Rattle.channel_spec.proofs.Marker.{bytes_of, the_marker, no-match, four_are}
use Rattle.subchannel_spec.specs.Sender.{group_bytes, grouped}
use Rattle.subchannel_spec.specs.Meaning.{Sub, in_group, in_mark, silent, compared, step, hears, start, answers}
use Rattle.subchannel_spec.proofs.Groups.{Taken, takes_all}
use Rattle.subchannel_spec.proofs.Received.{groups-heard}

module _ (r d : ℕ) where
  pub silent-stays : (bs : List ℕ) (f : Hunting) (k : Back) → hears r d (silent f k) bs ≡ ([], silent f k)
  silent-stays [] f k = refl
  silent-stays (b ∷ bs) f k = silent-stays bs f k

  module _ (f g : Hunting) (k : Back) (w : List ℕ) (q : Reading) (bs : List ℕ) where
    pub lost-silent : is_marker g ≡ false → hears r d (in_mark f 0 k w q) (bytes_of g ++ bs) ≡ (lost ∷ [], silent g k)
    lost-silent e =
        ap (λ t. and_then (compared t g k w q) (λ s. hears r d s bs)) e ∙ ap (λ (x : List Event × Sub). (lost ∷ x.0, x.1)) (silent-stays bs g k)

    pub marked-on : is_marker g ≡ true → hears r d (in_mark f 0 k w q) (bytes_of g ++ bs) ≡ hears r d (in_group g 0 k w q) bs
    marked-on e = ap (λ t. and_then (compared t g k w q) (λ s. hears r d s bs)) e

  module _ (stray rs : List ℕ) (g : ℕ) (whole : length rs ≡ suc g * group_bytes) (first : FirstMarker stray (grouped (suc g) rs)) where
    pub lock-lost : (bs cs : List ℕ) → length bs ≡ 4 → bs ≢ marker → (f : Hunting) × (k : Back)
        × (hears r d start ((stray ++ grouped (suc g) rs) ++ (bs ++ cs)) ≡ (answers r d (stray ++ grouped (suc g) rs) ++ lost ∷ [], silent f k))
    lock-lost bs cs h n =
        let f = four_are bs h in
        let p : List ℕ × Back = run (pull d) fresh_back rs in
        let u : Taken = takes_all r p.0 [] waiting in
        let a : List Event = answers r d (stray ++ grouped (suc g) rs) in (
          f.0,
          p.1,
          ap (λ x. hears r d start ((stray ++ grouped (suc g) rs) ++ (x ++ cs))) (sym f.1)
              ∙ hears-append (step r d) start (stray ++ grouped (suc g) rs) (bytes_of f.0 ++ cs)
              ∙ ap (λ (s : List Event × Sub). (a ++ (hears r d s.1 (bytes_of f.0 ++ cs)).0, (hears r d s.1 (bytes_of f.0 ++ cs)).1))
              (groups-heard r d stray rs g whole first)
              ∙ ap (λ (v : List Event × Sub). (a ++ v.0, v.1))
              (lost-silent the_marker f.0 p.1 u.1 u.2 cs (no-match (is_marker f.0) f.0 refl (λ e. n (sym f.1 ∙ e)))),
        )

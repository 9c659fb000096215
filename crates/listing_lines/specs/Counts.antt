-- What is counted of answers, for the last line of a listing.
-- no_totals            nothing counted yet
-- counted_in, counted  one more in a total; an answer counted
-- more                one more, as the code has it: the highest number stays
-- raised, counting    the same with totals that stay there
-- Below               no total is the highest number: the code's totals are then those counted
use Rattle.std.specs.Prelude.{ℕ, ◌+◌, ◌<◌, ltb}
use Rattle.base.specs.Choice.{pick}
use Rattle.base.specs.Highest.{highest}
use Rattle.channel_spec.specs.declared.Answer.{Answer}
use Rattle.listing_spec.specs.declared.Total.{Total}
use Rattle.listing_spec.specs.declared.Total.TheVariants.{Packets, Refusals, Damaged, Lost, Nothing}
use Rattle.listing_spec.specs.Lines.{total_of, one, in_packets, in_refusals, in_damaged, in_lost}
use Rattle.listing_lines.specs.declared.totals.Totals.{Totals}

-- nothing counted yet
abbrev pub no_totals : Totals
no_totals = record { packets = 0; refused = 0; damaged = 0; lost = 0 }

-- one more in a total
abbrev pub counted_in : Totals → Total → Totals
counted_in t x = record {
  packets = t.packets + one (in_packets x);
  refused = t.refused + one (in_refusals x);
  damaged = t.damaged + one (in_damaged x);
  lost = t.lost + one (in_lost x);
}

-- an answer is counted
abbrev pub counted : Totals → Answer → Totals
counted t a = counted_in t (total_of a)

-- one more; the highest number stays
abbrev pub more : ℕ → ℕ
more n = pick (ltb n highest) (n + 1) n

-- one more in a total that stays there
abbrev pub raised : Totals → Total → Totals
raised t Packets = record { packets = more t.packets; refused = t.refused; damaged = t.damaged; lost = t.lost }
raised t Refusals = record { packets = t.packets; refused = more t.refused; damaged = t.damaged; lost = t.lost }
raised t Damaged = record { packets = t.packets; refused = t.refused; damaged = more t.damaged; lost = t.lost }
raised t Lost = record { packets = t.packets; refused = t.refused; damaged = t.damaged; lost = more t.lost }
raised t Nothing = t

-- an answer is counted so
abbrev pub counting : Totals → Answer → Totals
counting t a = raised t (total_of a)

-- no total is the highest number
abbrev pub Below : Totals → Type 0
Below t = (t.packets < highest) × (t.refused < highest) × (t.damaged < highest) × (t.lost < highest)

-- The paper's numbers, (a) to (m), what else it prints, and what paper 02 prints (specs/Numbers, specs/Printed, specs/Requested): no row disagrees.
-- numbers      of (a) to (m)
-- as-printed   of the fixed numbers and letters
-- as-requested   of those of later requests
use mathlib.Core.Path.{◌≡◌, refl}
use mathlib.Core.List.{[]}
use Rattle.fcs.specs.Fcs.{fcs, register, entered}
use Rattle.field.specs.Field.{add, double, shift_add, mul, pow}
use Rattle.word_spec.specs.Word.{horner, eval, clean, scale, onto, times_root, generator, divide, remainder}
use Rattle.packet_spec.specs.Contents.{with_check, contents}
use Rattle.packet_spec.specs.Escape.{escape, escape_byte, plain, wrong_from, right, last, scan}
use Rattle.packet_spec.specs.Frame.{judge_body, judge_contents, closed_by, closed, judge}
use Rattle.packet_spec.specs.Port.{class}
use Rattle.capture_spec.specs.File.{records}
use Rattle.capture_spec.specs.Meaning.{entry, read}
use Rattle.listing_spec.specs.Apart.{next_at, in_stream, apart}
use Rattle.listing_spec.specs.Lines.{told, lines, count, end_line, wrong_line}
use Rattle.text.specs.Text.{decimal, decimal_by}
use Rattle.listing_spec.specs.Meaning.{heard, last_line, listed, listing}
use Rattle.missed_spec.specs.Line.{noted_line}
use Rattle.sheet_spec.specs.Line.{row_line}
use Rattle.ports_spec.specs.Ports.{place_of, free_place, twice, noting, forgetting}
use Rattle.unit_spec.specs.Bits.{digits, bits, number, pack}
use Rattle.unit_spec.specs.Tables.{sequence, announced, heads, start, step, payload, lent, unfit}
use Rattle.unit_spec.specs.Unit.{weave, begins, opened, laid_out, unit_bits, unit, hidden, written}
use Rattle.unit_spec.specs.Reading.{heard as heads-heard, unwoven, header_of, payload_of, is_header, named, read_parts, read_unit}
use Rattle.sheet_spec.specs.Tally.{told_from, told as told-numbers, sum}
use Rattle.sheet_spec.specs.Recording.{marks}
use Rattle.sheet_spec.specs.Meaning.{numbers_of, numbers as Numbers-of, added, added_all, any_wide}
use Rattle.demands.specs.Numbers.{table, wrong}
use Rattle.demands.specs.Printed.{printed}
use Rattle.demands.specs.Requested.{requested}

pub numbers : wrong table ≡ []
unfolding fcs register entered contents with_check judge closed closed_by judge_contents judge_body scan last wrong_from right plain escape escape_byte mul
    shift_add
    double add pow remainder divide generator times_root onto scale
numbers = refl

pub as-printed : wrong printed ≡ []
unfolding fcs register entered contents with_check escape escape_byte judge closed closed_by judge_contents judge_body scan last wrong_from right plain
    class told
    lines count end_line wrong_line decimal decimal_by heard last_line listed listing apart in_stream next_at noted_line noting forgetting place_of
    free_place twice mul
    shift_add double add pow horner eval clean remainder divide generator times_root onto scale
as-printed = refl

pub as-requested : wrong requested ≡ []
unfolding digits number is_header named heads start step unfit records read entry judge_body plain row_line decimal decimal_by marks fcs register entered
    with_check
    judge_contents escape escape_byte mul shift_add double add pow remainder divide generator times_root onto scale bits pack sequence announced payload
    lent weave
    begins opened laid_out unit_bits unit hidden written heads-heard unwoven header_of payload_of read_parts read_unit told_from told-numbers sum numbers_of
    Numbers-of
    added added_all any_wide
as-requested = refl

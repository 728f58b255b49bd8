-- 01's worked example: "Given .. it prints exactly ..", each leg driven once; and a leg that was driven more often (02, [8]). Each side is computed. Assumes nothing.
use Rattle.std.specs.Prelude.{◌≡◌, refl, ◌++◌}
use Rattle.std.specs.Float.Ieee.{is_nan, of_bits, to_bits, mul, lt, le, eq, ne, neg, sub, round}
use Rattle.laws.specs.Ascii.{ascii}
use Rattle.answer.specs.Numbers.{stored}
use Rattle.answer.specs.Answer.{refusal_of, first_of, second_of}
use Rattle.legendre.specs.Domain.{by_domain}
use Rattle.legendre.specs.Ellipke.{ellipke_of}
use Rattle.answer.specs.Settle.{handed_of}
use Rattle.ellippi.specs.Ellippi as Ellippi
use Rattle.ellipeinc.specs.Ellipeinc as Ellipeinc
use Rattle.sheet.specs.Functions.{used_of, counted_of, evaluate_of}
use Rattle.total.specs.Total.{N, Half, complement, negative, size_of, round_total}
use Rattle.line.specs.Line.{digit_of, spell_of, decimal_of, pattern_of, onto, cut, fields_of, given, edit_from, line_of}
use Rattle.ledger.specs.Bytes.{bytes, number, fields, read, pattern_at}
use Rattle.ledger.specs.Sheet.{entries, row_bytes, function_in, refusal_in, times_in, first_in, sound_of, kind_of, class_of, value_of, size_in, units_in, retotal, totals, count, sum, flat, encode}
use Rattle.ledger.specs.Calls.{rows_in, row_in, counts_in, total_in, equal, is_sheet_of, is_sheet, plus, miscounted, damaged, rungs, total_refusal, row_refusal, blank_refusal, blank_of, recount, revised, edited, read_of, times_of, total_of, count_of}
use Rattle.sheet.specs.Edit.{keep, kept_of, answered, row_of, edit_refusal, edit_of}
use Rattle.text.specs.Text.{glyph_of, digits_of, decimal, pattern}
use Rattle.page.specs.Page.{head_text, answers_text, row_text, row_line, row_lines, count_fields, counts_line, total_line, page_of}
use Rattle.ending.specs.Outcome.{printed}
use Rattle.runner.specs.Run.{lines_of, zeros, count_on, edit_on, line_on, lines_on, closed, ran_of, run_of}

-- 01's four legs; then a leg of length 2 alone, driven three times
pub worked : (run_of (
    ascii "4\n"
    ++ ascii "0 3 3ff0000000000000 0000000000000000 0000000000000000 1\n"
    ++ ascii "1 5 0000000000000000 7ff8000000000000 0000000000000000 1\n"
    ++ ascii "2 4 3ff0000000000000 3ff0000000000000 0000000000000000 1\n"
    ++ ascii "3 5 4000000000000000 0000000000000000 0000000000000000 1\n")
    ≡ ascii "0 3 0 7ff0000000000000 3ff0000000000000 1\n"
    ++ ascii "1 5 0 0000000000000000 0000000000000000 1\n"
    ++ ascii "2 4 4 0000000000000000 0000000000000000 1\n"
    ++ ascii "3 5 0 4000000000000000 0000000000000000 1\n"
    ++ ascii "counts 0 2 1 0 1\n"
    ++ ascii "total 4000000000000000\n")
    × (run_of (ascii "1\n" ++ ascii "0 5 4000000000000000 0000000000000000 0000000000000000 3\n")
    ≡ ascii "0 5 0 4000000000000000 0000000000000000 3\n" ++ ascii "counts 0 1 0 0 0\n" ++ ascii "total 4018000000000000\n")
unfolding is_nan of_bits to_bits mul lt le eq ne neg sub round refusal_of first_of second_of by_domain ellipke_of handed_of Ellippi.counted_of Ellipeinc.itself_of Ellipeinc.counted_of used_of counted_of evaluate_of N Half complement negative size_of round_total digit_of spell_of decimal_of pattern_of onto cut fields_of given edit_from line_of bytes number fields read entries row_bytes function_in times_in refusal_in first_in sound_of stored keep kept_of answered row_of kind_of class_of value_of size_in units_in retotal totals count sum flat encode rows_in row_in counts_in total_in equal is_sheet_of is_sheet plus miscounted damaged rungs total_refusal row_refusal edit_refusal blank_refusal blank_of recount revised edited edit_of read_of times_of total_of count_of glyph_of digits_of decimal pattern pattern_at head_text answers_text row_text row_line row_lines count_fields counts_line total_line page_of lines_of zeros count_on edit_on line_on lines_on closed ran_of printed run_of
worked = (refl, refl)

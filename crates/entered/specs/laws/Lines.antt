-- Lines read by the definition itself: each is computed. Assumes nothing.
use Rattle.std.specs.Prelude.{◌≡◌, refl}
use Rattle.laws.specs.Ascii.{ascii}
use Rattle.std.specs.Prelude.{Some, None}
use Rattle.line.specs.Line.{digit_of, spell_of, decimal_of, pattern_of, onto, cut, fields_of, given, edit_with, edit_from, line_of}

-- 01's last line, driven once
leg : line_of (ascii "3 5 4000000000000000 0000000000000000 0000000000000000 1") ≡ Some (edit_with 3 5 0x4000000000000000 0 0 1)
unfolding digit_of spell_of decimal_of pattern_of onto cut fields_of given edit_from line_of
leg = refl

-- the fewest times and the most
times : (line_of (ascii "3 5 4000000000000000 0000000000000000 0000000000000000 0") ≡ Some (edit_with 3 5 0x4000000000000000 0 0 0))
    × (line_of (ascii "3 5 4000000000000000 0000000000000000 0000000000000000 65535") ≡ Some (edit_with 3 5 0x4000000000000000 0 0 65535))
unfolding digit_of spell_of decimal_of pattern_of onto cut fields_of given edit_from line_of
times = (refl, refl)

-- no times, not for function 0 either; times past 16 bits, with zeros in front, empty; a seventh field
no_times : (line_of (ascii "3 5 4000000000000000 0000000000000000 0000000000000000") ≡ None)
    × (line_of (ascii "3 0 0000000000000000 0000000000000000 0000000000000000") ≡ None)
    × (line_of (ascii "3 5 4000000000000000 0000000000000000 0000000000000000 65536") ≡ None)
    × (line_of (ascii "3 5 4000000000000000 0000000000000000 0000000000000000 007") ≡ None)
    × (line_of (ascii "3 5 4000000000000000 0000000000000000 0000000000000000 ") ≡ None)
    × (line_of (ascii "3 5 4000000000000000 0000000000000000 0000000000000000 1 1") ≡ None)
unfolding digit_of spell_of decimal_of pattern_of onto cut fields_of given edit_from line_of
no_times = (refl, refl, refl, refl, refl, refl)

-- a zero in front, two spaces, a tab, a capital, 15 digits, a function past 8 bits, a row past 32, a carriage return at the end, nothing at all
no_legs : (line_of (ascii "03 5 4000000000000000 0000000000000000 0000000000000000 1") ≡ None)
    × (line_of (ascii "3  5 4000000000000000 0000000000000000 0000000000000000 1") ≡ None)
    × (line_of (ascii "3\t5 4000000000000000 0000000000000000 0000000000000000 1") ≡ None)
    × (line_of (ascii "3 5 400000000000000A 0000000000000000 0000000000000000 1") ≡ None)
    × (line_of (ascii "3 5 400000000000000 0000000000000000 0000000000000000 1") ≡ None)
    × (line_of (ascii "3 256 4000000000000000 0000000000000000 0000000000000000 1") ≡ None)
    × (line_of (ascii "4294967296 5 4000000000000000 0000000000000000 0000000000000000 1") ≡ None)
    × (line_of (ascii "3 5 4000000000000000 0000000000000000 0000000000000000 1\r") ≡ None)
    × (line_of (ascii "") ≡ None)
unfolding digit_of spell_of decimal_of pattern_of onto cut fields_of given edit_from line_of
no_legs = (refl, refl, refl, refl, refl, refl, refl, refl, refl)

-- row counts, and what is none
counts : (decimal_of (ascii "0") ≡ Some 0) × (decimal_of (ascii "1024") ≡ Some 1024) × (decimal_of (ascii "") ≡ None) × (decimal_of (ascii "00") ≡ None) × (decimal_of (ascii "+4") ≡ None)
unfolding digit_of spell_of decimal_of
counts = (refl, refl, refl, refl, refl)

-- Spellings written and read by the definitions themselves: each is computed. Assumes nothing.
use Rattle.std.specs.Prelude.{◌≡◌, refl}
use Rattle.std.specs.Float.Ieee.{round, to_bits, nan_bits}
use Rattle.laws.specs.Ascii.{ascii}
use Rattle.std.specs.Prelude.{Some, None}
use Rattle.line.specs.Line.{digit_of, spell_of, pattern_of}
use Rattle.text.specs.Text.{glyph_of, digits_of, decimal, pattern}
use Rattle.hexfloat.specs.Spelled.{sign_text, digits_text, lead_of, behind_text, exponent_text, size_text, spelled_of}
use Rattle.hexfloat.specs.Reading.{same, before, hex_digit_of, hex_of, given, power_of, scaled_by, behind_of, mantissa_of, float_of, prefixed_of, nan_of, read_of}

-- three, both zeros, the smallest and the largest f64, one and two thirds cut, an infinity, a NaN
written : (spelled_of 0x4008_0000_0000_0000 ≡ ascii "0x1.8p+1") × (spelled_of 0 ≡ ascii "0x0p+0") × (spelled_of 0x8000_0000_0000_0000 ≡ ascii "-0x0p+0")
    × (spelled_of 1 ≡ ascii "0x0.0000000000001p-1022") × (spelled_of 0xffef_ffff_ffff_ffff ≡ ascii "-0x1.fffffffffffffp+1023")
    × (spelled_of 0x3ffa_aaaa_aaaa_aaab ≡ ascii "0x1.aaaaaaaaaaaabp+0") × (spelled_of 0x3fe0_0000_0000_0000 ≡ ascii "0x1p-1")
    × (spelled_of 0xfff0_0000_0000_0000 ≡ ascii "-inf") × (spelled_of 0xfff8_0000_0000_0001 ≡ ascii "nan:fff8000000000001")
unfolding glyph_of digits_of decimal pattern sign_text digits_text lead_of behind_text exponent_text size_text spelled_of
written = (refl, refl, refl, refl, refl, refl, refl, refl, refl)

-- 3 in other spellings: no exponent, the point in front and behind, upper case, zeros
other : (read_of (ascii "0x3") ≡ Some 0x4008_0000_0000_0000) × (read_of (ascii "+0X.3p4") ≡ Some 0x4008_0000_0000_0000) × (read_of (ascii "0x30.P-04") ≡ Some 0x4008_0000_0000_0000)
    × (read_of (ascii "0x0000C000p-000014") ≡ Some 0x4008_0000_0000_0000) × (read_of (ascii "-0x3.0") ≡ Some 0xc008_0000_0000_0000)
unfolding digit_of spell_of same before hex_digit_of hex_of given power_of scaled_by behind_of mantissa_of float_of prefixed_of read_of round to_bits
other = (refl, refl, refl, refl, refl)

-- no number: no digit, a second point, an empty exponent, a blank, a decimal number, other names of infinity and of NaN, 41 digits, seven of exponent
refused : (read_of (ascii "") ≡ None) × (read_of (ascii "0x") ≡ None) × (read_of (ascii "0x.") ≡ None) × (read_of (ascii "0x1.2.3") ≡ None) × (read_of (ascii "0x1p") ≡ None)
    × (read_of (ascii "0x1p+") ≡ None) × (read_of (ascii " 0x1") ≡ None) × (read_of (ascii "1.5") ≡ None) × (read_of (ascii "--0x1") ≡ None) × (read_of (ascii "INF") ≡ None)
    × (read_of (ascii "+inf") ≡ None) × (read_of (ascii "nan") ≡ None) × (read_of (ascii "nan:7ff0000000000000") ≡ None) × (read_of (ascii "nan:7FF8000000000000") ≡ None)
    × (read_of (ascii "0x00000000000000000000.000000000000000000001") ≡ None) × (read_of (ascii "0x1p0000001") ≡ None)
unfolding digit_of spell_of pattern_of same before hex_digit_of hex_of given power_of scaled_by behind_of mantissa_of float_of prefixed_of nan_of read_of nan_bits round to_bits
refused = (refl, refl, refl, refl, refl, refl, refl, refl, refl, refl, refl, refl, refl, refl, refl, refl)

-- rounded once, ties to even: too large, a tie at the largest and just below it, half of the smallest f64 and above that, and a subnormal whose digits 53 places would cut
rounded : (read_of (ascii "0x1p+1024") ≡ Some 0x7ff0_0000_0000_0000) × (read_of (ascii "0x1.fffffffffffff8p+1023") ≡ Some 0x7ff0_0000_0000_0000)
    × (read_of (ascii "0x1.fffffffffffff7fp+1023") ≡ Some 0x7fef_ffff_ffff_ffff) × (read_of (ascii "-0x1p-1075") ≡ Some 0x8000_0000_0000_0000)
    × (read_of (ascii "0x1.8p-1075") ≡ Some 1) × (read_of (ascii "0x1.00000000000018p-1023") ≡ Some 0x0008_0000_0000_0001)
    × (read_of (ascii "0x1.000000000000080000000000000000000000001") ≡ Some 0x3ff0_0000_0000_0001) × (read_of (ascii "nan:fff8000000000001") ≡ Some 0xfff8_0000_0000_0001)
unfolding digit_of spell_of pattern_of same before hex_digit_of hex_of given power_of scaled_by behind_of mantissa_of float_of prefixed_of nan_of read_of nan_bits round to_bits
rounded = (refl, refl, refl, refl, refl, refl, refl, refl)

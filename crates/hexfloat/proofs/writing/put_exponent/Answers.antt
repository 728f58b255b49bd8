-- The tests of the code are the definition's.
use borrow.Author.Tests.{eq-eqb, ne_eqb, lt-ltb, le-ltb}
use Rattle.text.specs.Text.{glyph_of, digits_of, decimal}
use Rattle.hexfloat.specs.Spelled.{exponent_text}
use Rattle.hexfloat.proofs.writing.put_exponent.Goals as goal

pub returns-then-field-fraction : goal.returns-then-field-fraction
unfolding exponent_text decimal digits_of glyph_of
returns-then-field-fraction c = let p = c.put_power.ensures in record { put = rw c.if-field-fraction.true p.put; upper_bound = p.upper_bound }

pub returns-then-field-eq0 : goal.returns-then-field-eq0
unfolding exponent_text decimal digits_of glyph_of
returns-then-field-eq0 c = let p = c.put_power-then-field-eq0.ensures in record { put = rw (c.if-field-fraction.false, eq-eqb _ _ c.if-field-eq0.true) p.put; upper_bound = p.upper_bound }

pub returns-then-field-lt1023 : goal.returns-then-field-lt1023
unfolding exponent_text
returns-then-field-lt1023 c = let p = c.put_power-then-field-lt1023.ensures in record { put = rw (c.if-field-fraction.false, ne_eqb _ _ c.if-field-eq0.false, lt-ltb _ _ c.if-field-lt1023.true) p.put; upper_bound = p.upper_bound }

pub returns : goal.returns
unfolding exponent_text
returns c = let p = c.put_power-2.ensures in record { put = rw (c.if-field-fraction.false, ne_eqb _ _ c.if-field-eq0.false, le-ltb _ _ c.if-field-lt1023.false) p.put; upper_bound = p.upper_bound }

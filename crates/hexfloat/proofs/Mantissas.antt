-- The digits before an exponent, with their point. Assumes nothing.
use mathlib.Core.Path.{◌≡◌, refl, sym, ap, ◌∙◌}
use Prim.Native.Nat.{ℕ, ◌+◌, ◌*◌, ◌^◌, ◌≤◌, ◌<◌}
use mathlib.Core.Bool.{Bool, true, false, ◌||◌}
use mathlib.Core.List.{List, ◌++◌}
use lib.Dec.{ltb, eqb}
use lib.ListN.{length, take, drop, length-append}
use lib.Seq.{length-take-le}
use lib.Ieee.{binary64, round, to_bits}
use borrow.Author.Tests.{lt-ltb, le-ltb}
use Rattle.std.specs.Prelude.{Option, Some, None}
use Rattle.std.specs.Option.{option_and_then}
use Rattle.hexfloat.specs.declared.digits.Held.{Held}
use Rattle.hexfloat.specs.Steps.{no_digits, held_from, Leads}
use Rattle.hexfloat.specs.laws.Holding.{leads_both}
use Rattle.hexfloat.specs.Reading.{before, hex_of, given, scaled_by, behind_of, mantissa_of, float_of}

-- ---- around the point
module _ (s : List ℕ) (place : ℕ) (is : place ≡ before 46 46 s) (within : place ≤ length s) (behind : List ℕ) (rest : behind ≡ drop (place + 1) s) where
  pub front_length : length (take place s) ≡ place
  front_length = length-take-le place s within

  all-length : length (take place s ++ drop (place + 1) s) ≡ place + length behind
  all-length = length-append (take place s) (drop (place + 1) s) ∙ ap (λ (k : ℕ). k + length (drop (place + 1) s)) front_length ∙ ap (λ (x : List ℕ). place + length x) (sym rest)

  pub no_mantissa : (eqb (place + length behind) 0 || ltb 40 (place + length behind)) ≡ true → mantissa_of s ≡ None
  unfolding mantissa_of
  no_mantissa e = rw (← is, all-length, e) refl

  mantissa_is : (eqb (place + length behind) 0 || ltb 40 (place + length behind)) ≡ false → mantissa_of s ≡ hex_of 0 (take place s ++ behind)
  unfolding mantissa_of
  mantissa_is e = rw (← is, all-length, e, rest) refl

  pub mantissa_leads : (eqb (place + length behind) 0 || ltb 40 (place + length behind)) ≡ false
      → Leads (mantissa_of s) (option_and_then (λ (h : Held). held_from h behind) (held_from no_digits (take place s)))
  mantissa_leads e = rw (mantissa_is e) (leads_both (take place s) behind)

  pub behind_is : length behind ≡ behind_of s
  unfolding behind_of
  behind_is = ap length rest ∙ ap (λ (k : ℕ). length (drop (k + 1) s)) is

-- ---- around the p
module _ (negative : Bool) (s : List ℕ) (size : ℕ) (is : size ≡ before 112 80 s) where
  pub float-none : mantissa_of (take size s) ≡ None → None ≡ float_of negative s
  unfolding float_of given
  float-none e = rw (← is, e) refl

  module _ (n : ℕ) (e : mantissa_of (take size s) ≡ Some n) (r : Option ℕ) where
    pub float_power : size < length s → r ≡ scaled_by negative n (behind_of (take size s)) (drop (size + 1) s) → r ≡ float_of negative s
    unfolding float_of given
    float_power l d = rw (← is, e, lt-ltb size (length s) l) d

    pub float_plain : length s ≤ size → r ≡ Some (to_bits binary64 (round binary64 negative n (2 ^ (4 * behind_of (take size s))))) → r ≡ float_of negative s
    unfolding float_of given
    float_plain l d = rw (← is, e, le-ltb size (length s) l) d

-- What holds of ellipf besides its definition: K is asked only where m < 1; the special cases that ellipf.rs lists, bit for bit; F(-φ, m) = -F(φ, m) unless m is -∞. Assumes nothing.
use Rattle.std.specs.Prelude.{◌≡◌, ℕ, zero, suc, ◌-◌, ◌*◌, ◌≤◌, ◌<◌, Bool, not, ◌&&◌, ◌||◌, ℤ, pos, T, eqb, Float, Result, Ok, Err}
use Rattle.std.proofs.Math.Path.{refl, ap}
use Rattle.std.proofs.Common.{sym, ap₂, ◌∙◌, subst, mul-pos, mod-eq_of_lt, arith, le-ltb, true≢false, lit<}
use Rattle.std.proofs.Math.Bool.{true, false, cond}
use Rattle.std.specs.Float.{nan, inf, fin, binary64}
use Rattle.std.specs.Float.Ieee.{up, down, round, neg, add, sub, sum, mul, div, rem, lt, le, eq, ne, of_bits, fits, unlike, is_nan}
use Rattle.std.specs.Float.Ieee.Fits.{down_pos}
use Rattle.std.specs.Float.Ieee.Scale.{finite}
use Rattle.laws.specs.Arithmetic.{dec, ◌⊕◌, ◌⊖◌, ◌⊗◌, ◌⊘◌, ◌%%◌, ◌<·◌, ◌≤·◌, ◌=·◌, ◌≠·◌, +0, +∞, -∞, π/2, ½, 1·0, 2·0}
use Rattle.laws.specs.laws.Exact.{round_of_value}
use Rattle.laws.specs.Ladder.{held, passed, when◌gives◌else◌}
use Rattle.answer.specs.Answer.{value_of}
use Rattle.answer.specs.declared.Answer.{Answer}
use Rattle.answer.specs.declared.Refusal.{Refusal}
use Rattle.answer.specs.declared.Answer.TheVariants.{One, Pair, Infinite}
use Rattle.answer.specs.declared.Refusal.TheVariants.{Beyond, Unmet}
use Rattle.angle.specs.Sine.{sine_of}
use Rattle.angle.specs.Alternating.{square_of, alternating_of, up_to_four}
use Rattle.angle.specs.Cosine.{cosine_by, cosine_at, cosine_of}
use Rattle.identities.specs.laws.Symmetry.{sine_odd, sine_zero, sine_minus_zero}
use Rattle.legendre.specs.Ellipk.{k_unchecked_of}
use Rattle.whole.specs.Whole.{magnitude_of, round_of}
use Rattle.root.specs.Root.{root_of}
use Rattle.carlson.specs.Loop.{iterate, duplicated}
use Rattle.carlson.specs.Series.{larger_of}
use Rattle.rf.specs.Rf.{rf_of, start_of, stops_of, series_of}
use Rattle.rf.specs.Rf as Rf
use Rattle.identities.specs.Turned.{turn_of, turned_of}
use Rattle.identities.specs.Unreduced.{unreduced_of}
use Rattle.identities.specs.laws.RfUnmet.{rf_unmet}
use Rattle.answer.specs.declared.Term.{Term}
use Rattle.incomplete.specs.declared.Fold.{Fold}
use Rattle.answer.specs.Settle.{infinite_of, finite_of, settled_of, handed_of, unasked_of}
use Rattle.answer.specs.declared.Counted.{Counted}
use Rattle.laws.specs.laws.Kinds.{differs_is}
use Rattle.incomplete.specs.Period.{far_out, folded_of}
use Rattle.incomplete.specs.Scaling.{λ4, large_of}
use Rattle.ellipf.specs.Ellipf.{signum_of, pole_of, far_of, middle_of, recipe_of, closed_of, with_periods_of, reduced_of, counted_of, ellipf_of}
use Rattle.identities.specs.laws.Magnitude.{magnitude_inf, magnitude_fin, magnitude_neg}
use Rattle.identities.specs.laws.Signs.{mul-neg, square-neg, plain, round-plain}
use Rattle.identities.specs.laws.Odd.{same_kind, one-turned, after, rung, handed_odd}
use Rattle.identities.specs.laws.Angles.{P, quarter, quarter_finite}

abbrev answer : Counted → Result Answer Refusal
answer c = c.answer

-- ---- below π/2 the reduction leaves |φ| as it is, with no period term
rest_itself : (m : ℕ) (e : ℤ) → T (fits binary64 (fin false m e)) → m * up e * 562949953421312 < P * 1 * down e → fin false m e %% π/2 ≡ fin false m e
unfolding rem of_bits
rest_itself m e f h =
    ap (λ (r : ℕ). round binary64 false r (down e * 562949953421312)) (mod-eq_of_lt h)
    ∙ round_of_value binary64 (fin false m e) false (m * up e * 562949953421312) (down e * 562949953421312) (mul-pos (down_pos e) (lit< tt)) f (refl, turn (m * up e) (down e) 562949953421312)
  where
    turn : (a c q : ℕ) → a * (c * q) ≡ a * q * c
    turn a c q = omega arith

minus_itself : (m : ℕ) (e : ℤ) → fin false m e ⊖ fin false m e ≡ +0
unfolding sub add neg sum of_bits fits
minus_itself m e =
    ap (λ (t : Bool). cond t (round binary64 true (A - A) C) (round binary64 (false && t) (A - A) C)) (le-ltb A A (let l : A ≤ A = omega arith in l))
    ∙ round_of_value binary64 (fin false 0 (pos 0)) false (A - A) C (mul-pos (down_pos e) (down_pos e)) tt (refl, none A C)
  where
    A : ℕ
    A = m * up e * down e

    C : ℕ
    C = down e * down e

    none : (a c : ℕ) → 0 * 1 * c ≡ (a - a) * 1
    none a c = omega arith

folded_itself : (m : ℕ) (e : ℤ) → T (fits binary64 (fin false m e)) → m * up e * 562949953421312 < P * 1 * down e → folded_of (fin false m e) ≡ record { angle = fin false m e; mm = +0; s = 1·0 }
unfolding folded_of round_of div rem lt of_bits
folded_itself m e f h =
    ap (λ (rest : Float). cond (½ <· round_of ((size ⊖ rest) ⊘ π/2) %% 2·0) (record { angle = π/2 ⊖ rest; mm = round_of ((size ⊖ rest) ⊘ π/2) ⊕ 1·0; s = neg 1·0 }) (record { angle = rest; mm = round_of ((size ⊖ rest) ⊘ π/2); s = 1·0 })) (rest_itself m e f h)
    ∙ ap (λ (d : Float). cond (½ <· round_of (d ⊘ π/2) %% 2·0) (record { angle = π/2 ⊖ size; mm = round_of (d ⊘ π/2) ⊕ 1·0; s = neg 1·0 }) (record { angle = size; mm = round_of (d ⊘ π/2); s = 1·0 })) (minus_itself m e)
  where
    size : Float
    size = fin false m e

near : (m : ℕ) (e : ℤ) → m * up e * 562949953421312 < P * 1 * down e → (far_out <· fin false m e) ≡ false
unfolding lt of_bits
near m e h = le-ltb (1 * 4503599627370496 * down e) (m * up e * 1) (wide (m * up e) (down e) (two (m * up e) (down e) h))
  where
    two : (a c : ℕ) → a * 562949953421312 < P * 1 * c → a ≤ 2 * c
    two a c h = omega arith

    wide : (a c : ℕ) → a ≤ 2 * c → a * 1 ≤ 1 * 4503599627370496 * c
    wide a c h = omega arith

unsigned : (s : Bool) (n : ℕ) (e : ℤ) → T (fits binary64 (fin s n e)) → T (fits binary64 (fin false n e))
unfolding fits
unsigned s zero e f = f
unsigned s (suc n) e f = f

answer_of_lem : (t : Bool) (a b : Counted) → (cond t a b).answer ≡ cond t a.answer b.answer
answer_of_lem true a b = refl
answer_of_lem false a b = refl

reduced_answer : (sign size m : Float) → let f = folded_of size in let sine = value_of (sine_of f.angle) in
    (reduced_of sign size m).answer ≡ (when 1·0 ≤· m ⊗ (sine ⊗ sine) gives Err Beyond else with_periods_of sign m f.mm (recipe_of f.s m sine (value_of (cosine_of f.angle))))
unfolding reduced_of
reduced_answer sign size m =
    let s = value_of (sine_of (folded_of size).angle) in
    answer_of_lem (1·0 ≤· m ⊗ (s ⊗ s)) (unasked_of (Err Beyond)) _

-- past the tests, where m ≥ 1
module _ (φ m : Float) (f : T (fits binary64 φ)) (k : (φ ≠· φ) ≡ false) (one : (1·0 ≤· m) ≡ true) (p : pole_of φ m ≡ false) where
  below-quarter : (π/2 ≤· magnitude_of φ) ≡ false
  unfolding pole_of
  below-quarter = first (1·0 ≤· m) (π/2 ≤· magnitude_of φ) _ one p
    where
      first : (a b c : Bool) → a ≡ true → (a && (b || c)) ≡ false → b ≡ false
      first true false c e h = refl
      first true true c e h = h
      first false b c e h = absurd (true≢false (sym e))

  pub no_period : ((far_out <· magnitude_of φ) ≡ false) × (folded_of (magnitude_of φ) ≡ record { angle = magnitude_of φ; mm = +0; s = 1·0 })
  no_period = go φ (quarter_finite φ k below-quarter) f below-quarter
    where
      go : (φ : Float) → T (finite φ) → T (fits binary64 φ) → (π/2 ≤· magnitude_of φ) ≡ false → ((far_out <· magnitude_of φ) ≡ false) × (folded_of (magnitude_of φ) ≡ record { angle = magnitude_of φ; mm = +0; s = 1·0 })
      go (fin s n e) t f h =
          let l = quarter n e (subst (λ (a : Float). (π/2 ≤· a) ≡ false) (magnitude_fin s n e) h) in
          subst (λ (a : Float). ((far_out <· a) ≡ false) × (folded_of a ≡ record { angle = a; mm = +0; s = 1·0 })) (sym (magnitude_fin s n e)) (near n e l, folded_itself n e (unsigned s n e f) l)
      go nan t f h = elim t [ ]
      go (inf _) t f h = elim t [ ]

  -- so the answer has no K in it
  pub without-k : (m ≠· m) ≡ false → (m =· +0) ≡ false → ellipf_of φ m ≡ unreduced_of φ m
  unfolding ellipf_of counted_of with_periods_of unreduced_of ne of_bits
  without-k q z =
      ap answer (sym (passed _ _ (either (φ ≠· φ) (m ≠· m) k q) (passed _ _ z (passed _ _ p (passed _ _ no_period.0 refl)))))
      ∙ reduced_answer (signum_of φ) (magnitude_of φ) m
      ∙ ap (λ (f : Fold). cond (1·0 ≤· m ⊗ (value_of (sine_of f.angle) ⊗ value_of (sine_of f.angle))) (Err Beyond) (with_periods_of (signum_of φ) m f.mm (recipe_of f.s m (value_of (sine_of f.angle)) (value_of (cosine_of f.angle))))) no_period.1
    where
      either : (a b : Bool) → a ≡ false → b ≡ false → (a || b) ≡ false
      either false b e h = h
      either true b e h = e

-- ---- F(φ, 0) = φ
zero_number : (m : Float) → (m =· +0) ≡ true → (m ≠· m) ≡ false
unfolding eq is_nan
zero_number nan z = absurd (true≢false (sym z))
zero_number (inf s) z = differs_is (inf s)
zero_number (fin s n e) z = differs_is (fin s n e)

neither : (a b : Bool) → a ≡ false → b ≡ false → (a || b) ≡ false
neither a b e h = ap₂ (λ (a b : Bool). a || b) e h

pub no_parameter : (φ m : Float) → T (finite φ) → (m =· +0) ≡ true → ellipf_of φ m ≡ Ok (One φ)
unfolding ellipf_of counted_of handed_of is_nan
no_parameter (fin s n e) m f z = ap answer (sym (passed _ _ (neither _ _ (differs_is (fin s n e)) (zero_number m z)) (held _ _ z refl)))
no_parameter nan m f z = elim f [ ]
no_parameter (inf _) m f z = elim f [ ]

-- ---- F(±∞, m) = ±∞ where m < 1
pub at_infinity : (s : Bool) (m : Float) → (m ≠· m) ≡ false → (1·0 ≤· m) ≡ false → ellipf_of (inf s) m ≡ Ok (Infinite s)
unfolding ellipf_of counted_of pole_of is_nan
at_infinity s m k h =
    ap answer (sym (passed _ _ (neither _ _ (differs_is (inf s)) k) refl)
    ∙ ap (λ (t : Bool). cond (m =· +0) (unasked_of (handed_of (inf s))) (cond (t && (π/2 ≤· magnitude_of (inf s) || 1·0 ≤· m ⊗ (value_of (sine_of (inf s)) ⊗ value_of (sine_of (inf s))))) (unasked_of (Err Beyond)) (cond (far_out <· magnitude_of (inf s)) (unasked_of (far_of (signum_of (inf s)) (magnitude_of (inf s)) m)) (reduced_of (signum_of (inf s)) (magnitude_of (inf s)) m)))) h
    ∙ ap (λ (a : Float). cond (m =· +0) (unasked_of (handed_of (inf s))) (cond (far_out <· a) (unasked_of (far_of (signum_of (inf s)) a m)) (reduced_of (signum_of (inf s)) a m))) (magnitude_inf s)
    ∙ go (m =· +0) s)
  where
    go : (z s : Bool) → cond z (unasked_of (handed_of (inf s))) (cond (far_out <· inf false) (unasked_of (far_of (signum_of (inf s)) (inf false) m)) (reduced_of (signum_of (inf s)) (inf false) m)) ≡ unasked_of (Ok (Infinite s))
    go true s = unfold handed_of in refl
    go false true = unfold handed_of far_of signum_of lt eq mul neg of_bits in refl
    go false false = unfold handed_of far_of signum_of lt eq mul neg of_bits in refl

-- ---- F(φ, -∞) = 0 where |φ| ≤ 2^52: RF is asked at an infinity or NaN, and is never met
abbrev Lost : Float → Type 0
Lost x = T (not (finite x))

lost_sub : (x : Float) → Lost (x ⊖ -∞)
unfolding sub add neg of_bits
lost_sub nan = tt
lost_sub (inf true) = tt
lost_sub (inf false) = tt
lost_sub (fin s m e) = tt

lost_mul : (x y : Float) → Lost x → Lost (x ⊗ y)
unfolding mul
lost_mul nan y h = tt
lost_mul (inf s) nan h = tt
lost_mul (inf s) (inf t) h = tt
lost_mul (inf s) (fin t n d) h = either (eqb n 0)
  where
    either : (b : Bool) → Lost (cond b nan (inf (unlike s t)))
    either true = tt
    either false = tt
lost_mul (fin _ _ _) y h = elim h [ ]

lost_from : (x : Float) → Lost x → Lost (1·0 ⊖ x)
unfolding sub add neg of_bits
lost_from nan h = tt
lost_from (inf s) h = tt
lost_from (fin _ _ _) h = elim h [ ]

lost_over : (x : Float) → Lost x → Lost (x ⊘ λ4)
unfolding div of_bits
lost_over nan h = tt
lost_over (inf s) h = tt
lost_over (fin _ _ _) h = elim h [ ]

lost_middle : (c c1 : Float) → Lost (middle_of -∞ c c1)
unfolding middle_of
lost_middle c c1 = go (dec 9 1 <· magnitude_of (c ⊘ -∞) && magnitude_of (c ⊘ -∞) <· dec 11 1)
  where
    go : (b : Bool) → Lost (cond b (c1 ⊕ 1·0 ⊖ -∞) (c ⊖ -∞))
    go true = lost_sub (c1 ⊕ 1·0)
    go false = lost_sub c

second_lost : (x y z : Float) → Lost y → T (not (finite x && finite y && finite z))
second_lost x y z h = go (finite x) (finite y) (finite z) h
  where
    go : (a b c : Bool) → T (not b) → T (not (a && b && c))
    go true false c h = tt
    go false b c h = tt
    go true true c h = elim h [ ]

either_met : (b : Bool) (x y : Term) → x.met ≡ false → y.met ≡ false → (cond b x y).met ≡ false
either_met true x y h k = h
either_met false x y h k = k

never_met : (s sine cosine : Float) → (recipe_of s -∞ sine cosine).met ≡ false
unfolding recipe_of
never_met s sine cosine = either_met (infinite_of (1·0 ⊘ (sine ⊗ sine))) _ _ tiny (either_met (large_of -∞ (1·0 ⊘ (sine ⊗ sine))) _ _ scaled plain)
  where
    s2 : Float
    s2 = sine ⊗ sine

    c2 : Float
    c2 = cosine ⊗ cosine

    infinity : Lost -∞
    infinity = unfold of_bits in tt

    tiny : (rf_of c2 (1·0 ⊖ -∞ ⊗ sine ⊗ sine) 1·0).met ≡ false
    tiny = rf_unmet c2 (1·0 ⊖ -∞ ⊗ sine ⊗ sine) 1·0 (second_lost c2 (1·0 ⊖ -∞ ⊗ sine ⊗ sine) 1·0 (lost_from (-∞ ⊗ sine ⊗ sine) (lost_mul (-∞ ⊗ sine) sine (lost_mul -∞ sine infinity))))

    y : Float
    y = middle_of -∞ (1·0 ⊘ s2) (c2 ⊘ s2)

    scaled : (rf_of (c2 ⊘ s2 ⊘ λ4) (y ⊘ λ4) (1·0 ⊘ s2 ⊘ λ4)).met ≡ false
    scaled = rf_unmet (c2 ⊘ s2 ⊘ λ4) (y ⊘ λ4) (1·0 ⊘ s2 ⊘ λ4) (second_lost (c2 ⊘ s2 ⊘ λ4) (y ⊘ λ4) (1·0 ⊘ s2 ⊘ λ4) (lost_over y (lost_middle (1·0 ⊘ s2) (c2 ⊘ s2))))

    plain : (rf_of (c2 ⊘ s2) (middle_of -∞ (1·0 ⊘ s2) (c2 ⊘ s2)) (1·0 ⊘ s2)).met ≡ false
    plain = rf_unmet (c2 ⊘ s2) (middle_of -∞ (1·0 ⊘ s2) (c2 ⊘ s2)) (1·0 ⊘ s2) (second_lost (c2 ⊘ s2) (middle_of -∞ (1·0 ⊘ s2) (c2 ⊘ s2)) (1·0 ⊘ s2) (lost_middle (1·0 ⊘ s2) (c2 ⊘ s2)))

-- the test for 3 fails: a square has no sign
not_three : (x : Float) → T (plain x) → (1·0 ≤· -∞ ⊗ x) ≡ false
unfolding plain mul le lt eq of_bits
not_three (inf false) h = refl
not_three (fin false n e) h = go (eqb n 0)
  where
    go : (b : Bool) → (1·0 ≤· cond b nan (inf true)) ≡ false
    go true = refl
    go false = refl
not_three nan h = elim h [ ]
not_three (inf true) h = elim h [ ]
not_three (fin true n e) h = elim h [ ]

square-three : (s : Float) → (1·0 ≤· -∞ ⊗ (s ⊗ s)) ≡ false
unfolding mul plain
square-three nan = unfold le lt eq of_bits in refl
square-three (inf true) = not_three (inf false) tt
square-three (inf false) = not_three (inf false) tt
square-three (fin true n e) = not_three _ (round-plain binary64 (n * up e * (n * up e)) (down e * down e))
square-three (fin false n e) = not_three _ (round-plain binary64 (n * up e * (n * up e)) (down e * down e))

closed-zero : (met : Bool) (v : Float) → met ≡ false → closed_of -∞ met v ≡ Ok (One +0)
unfolding closed_of eq of_bits
closed-zero false v e = refl
closed-zero true v e = absurd (true≢false e)

periods_zero : (sign mm : Float) (t : Term) → t.met ≡ false → with_periods_of sign -∞ mm t ≡ Ok (One +0)
unfolding with_periods_of
periods_zero sign mm t h = go (mm ≠· +0)
  where
    go : (b : Bool) → cond b (closed_of -∞ t.met (sign ⊗ (t.value ⊕ mm ⊗ k_unchecked_of -∞))) (closed_of -∞ t.met (sign ⊗ t.value)) ≡ Ok (One +0)
    go true = closed-zero t.met _ h
    go false = closed-zero t.met _ h

reduced_zero : (sign size : Float) → (reduced_of sign size -∞).answer ≡ Ok (One +0)
unfolding reduced_of
reduced_zero sign size = ap answer (sym (passed _ _ (square-three (value_of (sine_of (folded_of size).angle))) refl)) ∙ periods_zero sign _ _ (never_met _ _ _)

pub at_minus_infinity : (φ : Float) → (φ ≠· φ) ≡ false → (far_out <· magnitude_of φ) ≡ false → ellipf_of φ -∞ ≡ Ok (One +0)
unfolding ellipf_of counted_of pole_of ne le lt eq of_bits
at_minus_infinity φ k h = ap answer (sym (passed _ _ (neither _ _ k refl) (passed _ _ h refl))) ∙ reduced_zero (signum_of φ) (magnitude_of φ)

-- ---- F(±0, m) = ±0 for every finite m
abbrev zero_of : Bool → Float
zero_of s = fin s 0 (pos 0)

times_zero : (t : Bool) (k : ℕ) (d : ℤ) → fin t k d ⊗ +0 ≡ zero_of t
unfolding mul of_bits fits
times_zero t k d = ap (λ (b : Bool). round binary64 b (k * up d * (0 * 1)) (down d * 1)) (go t) ∙ round_of_value binary64 (zero_of t) t (k * up d * (0 * 1)) (down d * 1) (mul-pos (down_pos d) (lit< tt)) tt (refl, none (k * up d) (down d * 1))
  where
    go : (t : Bool) → unlike t false ≡ t
    go true = refl
    go false = refl

    none : (a c : ℕ) → 0 * 1 * c ≡ a * (0 * 1) * 1
    none a c = omega arith

under_one : (t : Bool) → (1·0 ≤· zero_of t) ≡ false
unfolding le lt eq of_bits
under_one true = refl
under_one false = refl

-- RF(1, 1, 1) is 1
homogeneous : Float → Term
homogeneous z = record { value = 1·0 ⊗ +0 ⊗ (rf_of (1·0 ⊗ 1·0) (1·0 ⊖ z) 1·0).value; met = (rf_of (1·0 ⊗ 1·0) (1·0 ⊖ z) 1·0).met; rounds = (rf_of (1·0 ⊗ 1·0) (1·0 ⊖ z) 1·0).rounds }

homogeneous_zero : (t : Bool) → homogeneous (zero_of t ⊗ +0) ≡ record { value = +0; met = true; rounds = 0 }
unfolding homogeneous rf_of duplicated iterate start_of stops_of Rf.closed_of series_of larger_of magnitude_of root_of add sub mul div neg lt eq of_bits round sum
homogeneous_zero true = refl
homogeneous_zero false = refl

recipe_zero : (t : Bool) (k : ℕ) (d : ℤ) → recipe_of 1·0 (fin t k d) +0 1·0 ≡ record { value = +0; met = true; rounds = 0 }
unfolding recipe_of homogeneous infinite_of mul div of_bits
recipe_zero t k d = ap (λ (z : Float). homogeneous (z ⊗ +0)) (times_zero t k d) ∙ homogeneous_zero t

sine_of_zero : (s : Bool) → sine_of (zero_of s) ≡ Ok (One (zero_of s))
unfolding of_bits
sine_of_zero true = sine_minus_zero
sine_of_zero false = sine_zero

cosine_of_zero : cosine_of +0 ≡ Ok (One 1·0)
unfolding cosine_of cosine_by cosine_at up_to_four square_of alternating_of of_bits round
cosine_of_zero = refl

folded_zero : folded_of +0 ≡ record { angle = +0; mm = +0; s = 1·0 }
unfolding folded_of round_of add sub sum div rem neg lt of_bits round
folded_zero = refl

no_pole : (s t : Bool) (k : ℕ) (d : ℤ) → pole_of (zero_of s) (fin t k d) ≡ false
unfolding pole_of
no_pole s t k d =
    ap (λ (a : Result Answer Refusal). 1·0 ≤· m && (π/2 ≤· magnitude_of (zero_of s) || 1·0 ≤· m ⊗ (value_of a ⊗ value_of a))) (sine_of_zero s)
    ∙ ap₂ (λ (a x : Float). 1·0 ≤· m && (π/2 ≤· a || 1·0 ≤· m ⊗ x)) (magnitude_fin s 0 (pos 0)) (square s)
    ∙ ap (λ (b : Bool). 1·0 ≤· m && b) (ap₂ (λ (a b : Bool). a || b) near-zero (ap (λ (x : Float). 1·0 ≤· x) (times_zero t k d) ∙ under_one t))
    ∙ go (1·0 ≤· m)
  where
    m : Float
    m = fin t k d

    square : (s : Bool) → value_of (Ok (One (zero_of s))) ⊗ value_of (Ok (One (zero_of s))) ≡ +0
    square true = unfold value_of mul of_bits round in refl
    square false = unfold value_of mul of_bits round in refl

    near-zero : (π/2 ≤· zero_of false) ≡ false
    near-zero = unfold le lt eq of_bits in refl

    go : (b : Bool) → (b && false) ≡ false
    go true = refl
    go false = refl

reduced_at-zero : (sign : Float) (t : Bool) (k : ℕ) (d : ℤ) → reduced_of sign +0 (fin t k d) ≡ unasked_of (closed_of (fin t k d) true (sign ⊗ +0))
unfolding reduced_of with_periods_of value_of
reduced_at-zero sign t k d =
    ap (λ (f : Fold). by f (sine_of f.angle) (cosine_of f.angle)) folded_zero
    ∙ ap₂ (λ (a b : Result Answer Refusal). by (record { angle = +0; mm = +0; s = 1·0 }) a b) sine_zero cosine_of_zero
    ∙ sym (passed _ _ (ap (λ (x : Float). 1·0 ≤· m ⊗ x) square ∙ ap (λ (x : Float). 1·0 ≤· x) (times_zero t k d) ∙ under_one t) refl)
    ∙ ap (λ (r : Term). record { answer = with_periods_of sign m +0 r; rounds = r.rounds }) (recipe_zero t k d)
    ∙ none
  where
    m : Float
    m = fin t k d

    by : Fold → Result Answer Refusal → Result Answer Refusal → Counted
    by f a b =
        let t = recipe_of f.s m (value_of a) (value_of b) in
        cond (1·0 ≤· m ⊗ (value_of a ⊗ value_of a)) (unasked_of (Err Beyond)) (record { answer = with_periods_of sign m f.mm t; rounds = t.rounds })

    square : +0 ⊗ +0 ≡ +0
    square = unfold mul of_bits round in refl

    none : unasked_of (with_periods_of sign m +0 (record { value = +0; met = true; rounds = 0 })) ≡ unasked_of (closed_of m true (sign ⊗ +0))
    none = unfold with_periods_of ne eq of_bits in refl

pub at_zero : (s t : Bool) (k : ℕ) (d : ℤ) → ellipf_of (zero_of s) (fin t k d) ≡ Ok (One (zero_of s))
unfolding ellipf_of counted_of is_nan
at_zero s t k d =
    ap answer (sym (passed _ _ (neither _ _ (differs_is (zero_of s)) (differs_is m)) refl)
    ∙ ap₂ (λ (p : Bool) (a : Float). cond (m =· +0) (unasked_of (handed_of (zero_of s))) (cond p (unasked_of (Err Beyond)) (cond (far_out <· a) (unasked_of (far_of (signum_of (zero_of s)) a m)) (reduced_of (signum_of (zero_of s)) a m)))) (no_pole s t k d) (magnitude_fin s 0 (pos 0))
    ∙ ap (λ (b : Bool). cond (m =· +0) (unasked_of (handed_of (zero_of s))) (cond b (unasked_of (far_of (signum_of (zero_of s)) (zero_of false) m)) (reduced_of (signum_of (zero_of s)) (zero_of false) m))) near-zero
    ∙ go (m =· +0) (reduced_at-zero (signum_of (zero_of s)) t k d ∙ ap unasked_of (closed s)))
  where
    m : Float
    m = fin t k d

    near-zero : (far_out <· zero_of false) ≡ false
    near-zero = unfold lt of_bits in refl

    closed : (s : Bool) → closed_of m true (signum_of (zero_of s) ⊗ +0) ≡ Ok (One (zero_of s))
    closed true = unfold closed_of settled_of finite_of signum_of infinite_of mul neg eq of_bits round in refl
    closed false = unfold closed_of settled_of finite_of signum_of infinite_of mul neg eq of_bits round in refl

    go : (z : Bool) → reduced_of (signum_of (zero_of s)) +0 m ≡ unasked_of (Ok (One (zero_of s))) → cond z (unasked_of (handed_of (zero_of s))) (reduced_of (signum_of (zero_of s)) (zero_of false) m) ≡ unasked_of (Ok (One (zero_of s)))
    go true h = unfold handed_of in refl
    go false h = unfold of_bits in h

-- ---- F(-φ, m) = -F(φ, m), unless m is -∞, where both are +0
finite_odd : (v : Float) → finite_of (neg v) ≡ turn_of (finite_of v)
unfolding finite_of turn_of neg
finite_odd nan = refl
finite_odd (inf s) = refl
finite_odd (fin s n e) = refl

settled_odd : (met : Bool) (v : Float) → settled_of met (neg v) ≡ turn_of (settled_of met v)
unfolding settled_of turn_of
settled_odd met v = rung turn_of (not met) (not met) (Err Unmet) (finite_of (neg v)) (Err Unmet) (finite_of v) refl refl (finite_odd v)

closed_settled : (m : Float) (met : Bool) (v : Float) → (m =· -∞) ≡ false → closed_of m met v ≡ settled_of met v
unfolding closed_of
closed_settled m met v h = ap (λ (b : Bool). cond (b && (not met || (v ≠· v || infinite_of v))) (Ok (One +0)) (settled_of met v)) h

closed_odd : (m : Float) (met : Bool) (u v : Float) → (m =· -∞) ≡ false → u ≡ neg v → closed_of m met u ≡ turn_of (closed_of m met v)
closed_odd m met u v h e = ap (closed_of m met) e ∙ closed_settled m met (neg v) h ∙ settled_odd met v ∙ sym (ap turn_of (closed_settled m met v h))

periods_odd : (sign m mm : Float) (t : Term) → (m =· -∞) ≡ false → with_periods_of (neg sign) m mm t ≡ turn_of (with_periods_of sign m mm t)
unfolding with_periods_of
periods_odd sign m mm t h = rung turn_of (mm ≠· +0) (mm ≠· +0) _ _ _ _ refl (closed_odd m t.met _ _ h (mul-neg binary64 sign _)) (closed_odd m t.met _ _ h (mul-neg binary64 sign _))

reduced_odd : (sign size m : Float) → (m =· -∞) ≡ false → reduced_of (neg sign) size m ≡ turned_of (reduced_of sign size m)
unfolding reduced_of turn_of
reduced_odd sign size m h =
    let s = value_of (sine_of (folded_of size).angle) in
    rung turned_of (1·0 ≤· m ⊗ (s ⊗ s)) (1·0 ≤· m ⊗ (s ⊗ s)) _ _ _ _ refl refl (after _ (periods_odd sign m _ _ h))

far_odd : (sign size m : Float) → far_of (neg sign) size m ≡ turn_of (far_of sign size m)
unfolding far_of
far_odd sign size m = rung turn_of (size =· +∞) (size =· +∞) _ _ _ _ refl (handed_odd _ _ (mul-neg binary64 sign +∞)) (handed_odd _ _ (ap (λ (x : Float). x ⊗ q) (mul-neg binary64 sign size) ∙ mul-neg binary64 (sign ⊗ size) q))
  where
    q : Float
    q = k_unchecked_of m ⊘ π/2

-- sine is odd, and its square even
pole_even : (φ m : Float) → pole_of (neg φ) m ≡ pole_of φ m
unfolding pole_of
pole_even φ m = ap₂ (λ (a x : Float). 1·0 ≤· m && (π/2 ≤· a || 1·0 ≤· m ⊗ x)) (magnitude_neg φ) (ap (λ (a : Result Answer Refusal). value_of a ⊗ value_of a) (sine_odd φ) ∙ ap (λ (x : Float). x ⊗ x) (value-neg (sine_of φ)) ∙ square-neg binary64 (value_of (sine_of φ)))
  where
    value-neg : (a : Result Answer Refusal) → value_of (turn_of a) ≡ neg (value_of a)
    value-neg (Ok (One x)) = unfold value_of turn_of in refl
    value-neg (Ok (Pair x y)) = unfold value_of turn_of in refl
    value-neg (Ok (Infinite s)) = unfold value_of turn_of neg in refl
    value-neg (Err n) = unfold value_of turn_of neg in refl

odd_of : (φ m : Float) → signum_of (neg φ) ≡ neg (signum_of φ) → (m =· -∞) ≡ false → counted_of (neg φ) m ≡ turned_of (counted_of φ m)
unfolding counted_of turn_of
odd_of φ m g h =
    rung turned_of _ (φ ≠· φ || m ≠· m) _ _ _ _ (ap (λ (b : Bool). b || m ≠· m) (same_kind φ)) refl
    (rung turned_of (m =· +0) (m =· +0) _ _ _ _ refl (after 0 (handed_odd _ φ refl))
    (rung turned_of _ (pole_of φ m) _ _ _ _ (pole_even φ m) refl
    (rung turned_of _ (far_out <· magnitude_of φ) _ _ _ _ (ap (λ (a : Float). far_out <· a) (magnitude_neg φ))
    (after 0 (ap₂ (λ (s a : Float). far_of s a m) g (magnitude_neg φ) ∙ far_odd (signum_of φ) (magnitude_of φ) m))
    (ap₂ (λ (s a : Float). reduced_of s a m) g (magnitude_neg φ) ∙ reduced_odd (signum_of φ) (magnitude_of φ) m h))))

-- after as many rounds
pub counted_odd : (φ m : Float) → (m =· -∞) ≡ false → counted_of (neg φ) m ≡ turned_of (counted_of φ m)
unfolding signum_of neg
counted_odd nan m h = unfold counted_of turn_of ne eq in refl
counted_odd (inf s) m h = odd_of (inf s) m (one-turned s) h
counted_odd (fin s n e) m h = odd_of (fin s n e) m (one-turned s) h

pub odd : (φ m : Float) → (m =· -∞) ≡ false → ellipf_of (neg φ) m ≡ turn_of (ellipf_of φ m)
unfolding ellipf_of
odd φ m h = ap answer (counted_odd φ m h)

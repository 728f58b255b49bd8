-- Where neither run of RF loses digits to the ends of the range, dividing its arguments by λ changes no bit. Assumes nothing.
use Rattle.std.specs.Prelude.{◌≡◌, refl, ℕ, Bool, true, false, cond, Float}
use Rattle.std.proofs.Common.{sym}
use Rattle.std.specs.Float.Ieee.{of_bits}
use Rattle.laws.specs.Arithmetic.{◌⊗◌, ◌⊘◌, 1·0}
use Rattle.scaling.specs.laws.Operations.{undivided}
use Rattle.answer.specs.Settle.{infinite_of}
use Rattle.answer.specs.declared.Term.{Term}
use Rattle.scaling.specs.laws.Recipes.{Divided, over_divided}
use Rattle.rf.specs.Rf.{rf_of}
use Rattle.scaling.specs.laws.Rf.{rf_scaled}
use Rattle.incomplete.specs.Scaling.{λ4, √λ, large_of}
use Rattle.scaling.specs.EllipfClear.{ClearBoth}
use Rattle.ellipf.specs.Ellipf.{middle_of, recipe_of}

pub rf_over : (x y z : Float) → ClearBoth x y z → Divided √λ (rf_of (x ⊘ λ4) (y ⊘ λ4) (z ⊘ λ4)) (rf_of x y z)
unfolding of_bits
rf_over x y z c =
    let p = c.plain.start in
    over_divided 256 √λ (rf_of (x ⊘ λ4) (y ⊘ λ4) (z ⊘ λ4)) (rf_of x y z) (refl, refl)
    (rf_scaled 256 (undivided 512 λ4 x (refl, refl) p.finite_x c.fits_x c.x_over) (undivided 512 λ4 y (refl, refl) p.finite_y c.fits_y c.y_over) (undivided 512 λ4 z (refl, refl) p.finite_z c.fits-z c.z_over) c.scaled c.plain)

-- the term without λ
abbrev pub plain_of : Float → Float → Float → Float → Float → Term
plain_of s m c c1 y = record { value = s ⊗ (rf_of c1 y c).value; met = (rf_of c1 y c).met; rounds = (rf_of c1 y c).rounds }

-- so the large arguments' way is the plain one's there
pub recipe_plain : (s m sine cosine : Float) → let c = 1·0 ⊘ (sine ⊗ sine) in let c1 = cosine ⊗ cosine ⊘ (sine ⊗ sine) in let y = middle_of m c c1 in
    infinite_of c ≡ false → ClearBoth c1 y c → recipe_of s m sine cosine ≡ plain_of s m c c1 y
unfolding recipe_of
recipe_plain s m sine cosine f h =
    let c = 1·0 ⊘ (sine ⊗ sine) in
    let c1 = cosine ⊗ cosine ⊘ (sine ⊗ sine) in
    let y = middle_of m c c1 in
    let r = rf_over c1 y c h in
    rw f (go s (large_of m c) ((rf_of (c1 ⊘ λ4) (y ⊘ λ4) (c ⊘ λ4)).value ⊘ √λ) (rf_of c1 y c).value (rf_of (c1 ⊘ λ4) (y ⊘ λ4) (c ⊘ λ4)).met (rf_of c1 y c).met (rf_of (c1 ⊘ λ4) (y ⊘ λ4) (c ⊘ λ4)).rounds (rf_of c1 y c).rounds r.value r.met r.rounds)
  where
    go : (s : Float) (b : Bool) (v w : Float) (k l : Bool) (i j : ℕ) → w ≡ v → l ≡ k → j ≡ i → cond {A = Term} b (record { value = s ⊗ v; met = k; rounds = i }) (record { value = s ⊗ w; met = l; rounds = j }) ≡ record { value = s ⊗ w; met = l; rounds = j }
    go s true v w k l i j e g h = λ p. record { value = s ⊗ sym e p; met = sym g p; rounds = sym h p }
    go s false v w k l i j e g h = refl

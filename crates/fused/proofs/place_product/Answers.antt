-- `place_product` meets its contract (`Places`).
use Rattle.std.proofs.Common.{◌≡◌, ℕ, ◌+◌, ◌*◌, ◌%◌, ◌^◌, ◌<◌, ◌≤◌, Bool, true, false, not, refl, ap, ◌∙◌, sym, subst}
use mathlib.Core.Bool.{beq}
use lib.Ieee.{unlike}
use Rattle.fused.proofs.Places.{product_same, product_most, product_lead, product_zeros}
use Rattle.fused.proofs.place_product.Goals as goal

signs : (s t : Bool) → not (beq s t) ≡ unlike s t
signs true true = refl
signs true false = refl
signs false true = refl
signs false false = refl

pub invariant_of-result-2 : goal.invariant_of-result-2
invariant_of-result-2 c =
    let x = c.args.x in
    let y = c.args.y in
    let a = c.lifted-a.result in
    let b = c.lifted-b.result in
    let e = sym c.product-digits.ensures in
    let u = c.lifted-a.ensures in
    let v = c.lifted-b.ensures in
    record {
      most = subst (λ (n : ℕ). n < 2 ^ 127) e (product_most x.digits x.exponent a.digits a.exponent y.digits y.exponent b.digits b.exponent u v);
      zeros = ap (λ (n : ℕ). n % 2 ^ 20) (sym e) ∙ product_zeros x.digits x.exponent a.digits a.exponent y.digits y.exponent b.digits b.exponent u v;
      leading = λ h. subst (λ (n : ℕ). 2 ^ 124 ≤ n) e (product_lead x.digits x.exponent a.digits a.exponent y.digits y.exponent b.digits b.exponent u v (λ q. c.if-digits-eq0.false (sym e ∙ q)));
    }

pub returns : goal.returns
returns c =
    let x = c.args.x in
    let y = c.args.y in
    let a = c.lifted-a.result in
    let b = c.lifted-b.result in (
      signs x.negative y.negative,
      ap (λ (n : ℕ). n * 2 ^ (a.exponent + b.exponent + 66)) c.product-digits.ensures
          ∙ product_same x.digits x.exponent a.digits a.exponent y.digits y.exponent b.digits b.exponent c.lifted-a.ensures c.lifted-b.ensures,
    )

-- The two limbs from the highest down, and whether anything is left below them, are what is rounded.
use Rattle.std.proofs.Common.{ℕ, ◌≡◌, ◌+◌, ◌-◌, ◌*◌, ◌%◌, ◌^◌, ◌<◌, take, ap, ◌∙◌, max, arith, rules}
use Rattle.bits.specs.Rounded.{rounded_of}
use Rattle.total.specs.laws.Limbs.{Fit}
use Rattle.total.proofs.TopLimbs.{found_some, round_found}
use Rattle.total.proofs.rounding.round_size.Goals as goal

-- two limbs in one number
joined : (x y a b : ℕ) → x ≡ a → y ≡ b → a < 2 ^ 64 → x * 2 ^ 64 % 2 ^ 128 + y ≡ a * 2 ^ 64 + b
joined x y a b e k h = omega arith

pub returns : goal.returns
returns c =
    let l = c.args.limbs.now in
    let t = c.max-top.result in
    let more = c.is_some-more.result in
    let f : Fit l = λ i. search rules in
    c.rounded.ensures
    ∙ ap (λ (w : ℕ). rounded_of c.args.negative w more (64 * (t - 1) + 1266)) (joined _ _ _ _ c.from.ensures c.from-2.ensures (f t))
    ∙ round_found c.args.negative l c.highest.result t more (omega arith) f c.highest.ensures (c.max-top.ensures ∙ ap (λ n. max n 1) c.unwrap_or.ensures)
    (c.is_some-more.ensures ∙ found_some (take (t - 1) l) c.highest-2.result c.highest-2.ensures)

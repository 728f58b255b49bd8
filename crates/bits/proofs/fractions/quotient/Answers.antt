-- `quotient` meets its contract: long division by eight binary digits at a time (`Division`).
use Rattle.std.proofs.Common.{◌≡◌, ℕ, ◌+◌, ◌*◌, ◌/◌, ◌^◌, ◌<◌, ◌≤◌, mod-lt, arith}
use Rattle.bits.proofs.Division.{digit_small, quotient_small, quotient_turn, quotient_done}
use Rattle.bits.proofs.fractions.quotient.Goals as goal
use Rattle.bits.proofs.fractions.quotient.Goals.{In-loop}

pub loop-init : goal.loop-init
loop-init c = (c.requires.0, omega arith)

pub overflow_mul-next : goal.overflow_mul-next
overflow_mul-next c = record { fits = small c.loop.rest c.args.b c.loop.invariant.0 c.requires.1 }
  where
    small : (r b : ℕ) → r < b → b < 2 ^ 56 → r * 256 < 2 ^ 64
    small r b h k = omega arith

quotients : (c : In-loop) → c.loop.q < 256 ^ 7
quotients c = quotient_small c.args.a c.args.b c.requires.0 c.loop.q c.loop.rest c.loop.counter c.loop-test.true c.loop.invariant.1

pub overflow_mul-q : goal.overflow_mul-q
overflow_mul-q c = record { fits = small c.loop.q (quotients c) }
  where
    small : (q : ℕ) → q < 256 ^ 7 → q * 256 < 2 ^ 64
    small q h = omega arith

pub overflow_add-q : goal.overflow_add-q
overflow_add-q c = record { fits = small c.loop.q (c.loop.rest * 256 / c.args.b) (quotients c) (digit_small c.args.a c.args.b c.requires.0 c.loop.rest c.loop.invariant.0) }
  where
    small : (q d : ℕ) → q < 256 ^ 7 → d < 256 → q * 256 + d < 2 ^ 64
    small q d h k = omega arith

pub loop-preserved : goal.loop-preserved
loop-preserved c =
    let i = c.loop.invariant in
    (mod-lt (c.loop.rest * 256) (positive c.loop.rest c.args.b i.0), quotient_turn c.args.a c.args.b c.requires.0 c.loop.q c.loop.rest c.loop.counter i.1)
  where
    positive : (r b : ℕ) → r < b → 0 < b
    positive r b h = omega arith

pub returns : goal.returns
returns c =
    quotient_done c.args.a c.args.b c.requires.0 c.loop.q c.loop.rest c.loop.counter c.loop.invariant.0 (last c.loop.counter c.loop-test.false c.loop.auto.counter-end) c.loop.invariant.1
  where
    last : (i : ℕ) → 8 ≤ i → i ≤ 8 → i ≡ 8
    last i h k = omega arith

-- What a step over one limb, and a run of steps over all of them, keeps in balance. Definitions only.
use Rattle.std.specs.Prelude.{◌≡◌, ℕ, zero, suc, ◌+◌, ◌*◌, Bool, cond}

-- the weight of limb n
unfoldable pub W : ℕ → ℕ
W zero = 1
W (suc n) = 0x1_0000_0000_0000_0000 * W n

-- k was added to a, or taken from it, and left b, with c carried out of b or borrowed
abbrev pub Balance : Bool → ℕ → ℕ → ℕ → ℕ → Type 0
Balance away b a k c = cond away (b + k) (b + c) ≡ cond away (a + c) (a + k)

-- The digits of the highest limbs stand in the buffer; the others are what is left of them.
use Rattle.std.proofs.Common.{◌≡◌, [], ◌∷◌, ◌++◌, ◌+◌, ◌-◌, ◌*◌, ◌<◌, true, length, drop, get_or, ℕ, List, sym, ap, ◌∙◌, arith, rules, append_assoc, append-nil, length-append}
use Rattle.std.proofs.Math.Seq.{drop-append_seam, drop-length, get_or-append_seam}
use Rattle.total.specs.Total.{val}
use Rattle.text.specs.Text.{digits_of}
use Rattle.text.specs.laws.Digits.{digits-length}
use Rattle.placing.specs.Placed.{Placed}
use Rattle.placing.specs.laws.Placing.{nothing, follow}
use Rattle.exact.specs.laws.Hex.{all-joined}
use Rattle.exact.proofs.put_limbs.Goals as goal

module _ (l rest left : List ℕ) (x : ℕ) (e : l ≡ rest ++ drop (length rest) l) (h : rest ≡ left ++ (x ∷ [])) where
  split : l ≡ left ++ (x ∷ drop (length rest) l)
  split = e ∙ ap (λ (r : List ℕ). r ++ drop (length rest) l) h ∙ append_assoc left (x ∷ []) (drop (length rest) l)

  next : drop (length left) l ≡ x ∷ drop (length rest) l
  next = ap (drop (length left)) split ∙ drop-append_seam left (x ∷ drop (length rest) l)

  whole-still : l ≡ left ++ drop (length left) l
  whole-still = split ∙ ap (λ (r : List ℕ). left ++ r) (sym next)

  here : get_or l (length left) 0 ≡ x
  here = ap (λ (r : List ℕ). get_or r (length left) 0) split ∙ get_or-append_seam left x (drop (length rest) l) 0

  one_limb_more : length l - length left ≡ length l - length rest + 1
  one_limb_more =
      let a : length rest ≡ length left + 1 = ap length h ∙ length-append left (x ∷ []) in
      let b : length l ≡ length rest + length (drop (length rest) l) = ap length e ∙ length-append rest (drop (length rest) l) in
      omega arith

  digits-more : x < 0x1_0000_0000_0000_0000
      → digits_of true 16 (16 * (length l - length left)) (val (drop (length left) l)) ≡ digits_of true 16 (16 * (length l - length rest)) (val (drop (length rest) l)) ++ digits_of true 16 16 x
  unfolding val
  digits-more small =
      let k : 16 * (length l - length left) ≡ 16 * (length l - length rest) + 16 = omega (arith, one_limb_more) in
      rw (k, next) (all-joined 16 (omega arith) (16 * (length l - length rest)) 16 (val (drop (length rest) l)) x small)

-- no limb yet, and all of them
module _ (l rest s : List ℕ) (a : ℕ) where
  none-yet : rest ≡ l → (l ≡ rest ++ drop (length rest) l) × Placed s s a a (16 * (length l - length rest)) (digits_of true 16 (16 * (length l - length rest)) (val (drop (length rest) l)))
  unfolding digits_of
  none-yet e =
      let z : 16 * (length l - length l) ≡ 0 = omega arith in
      rw (e, z) (sym (ap (λ (r : List ℕ). l ++ r) (drop-length l) ∙ append-nil l), nothing s a 0)

  all-placed : (t : List ℕ) (b : ℕ) → length rest ≡ 0 → Placed s t a b (16 * (length l - length rest)) (digits_of true 16 (16 * (length l - length rest)) (val (drop (length rest) l)))
      → Placed s t a b (16 * length l) (digits_of true 16 (16 * length l) (val l))
  all-placed t b z p =
      let k : length l - 0 ≡ length l = omega arith in
      rw (z, k) at p

pub loop-limb-init : goal.loop-limb-init
loop-limb-init c =
    let a = c.args in
    let e : c.into_iter-limb-iterator.result.iter.rest.now ≡ a.limbs.now = search rules in
    let n = none-yet a.limbs.now c.into_iter-limb-iterator.result.iter.rest.now a.out.now a.from e in
    record { whole = n.0; placed = n.1 }

pub loop-limb-preserved : goal.loop-limb-preserved
loop-limb-preserved c =
    let a = c.args in
    let l = a.limbs.now in
    let s = c.loop-limb in
    let rest = s.limb-iterator.iter.rest.now in
    let left = c.next.new.self.iter.rest.now in
    let x = c.in-Some.limb.now in
    let digits = 16 * (length l - length rest) in
    let h : rest ≡ left ++ (x ∷ []) = c.in-Some.ensures.steps in
    let more : 16 * (length l - length left) ≡ digits + 16 = omega (arith, one_limb_more l rest left x s.invariant.whole h) in
    let small : x < 0x1_0000_0000_0000_0000 = omega (arith, here l rest left x s.invariant.whole h, (c.type_inv.limbs (length left)).fits) in
    record {
      whole = whole-still l rest left x s.invariant.whole h;
      placed = rw (digits-more l rest left x s.invariant.whole h small, more)
          (follow a.out.now a.from digits 16 (digits_of true 16 digits (val (drop (length rest) l))) (digits_of true 16 16 x) (digits-length true 16 16 x) (omega arith) s.invariant.placed c.put_hex-at.ensures);
    }

pub returns : goal.returns
returns c =
    let a = c.args in
    let s = c.loop-limb in
    all-placed a.limbs.now s.limb-iterator.iter.rest.now a.out.now a.from s.out s.at c.in-None.ensures.steps.0 s.invariant.placed

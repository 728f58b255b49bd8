-- Zero is one digit; any other number is its sign, its highest limb's digits, and all digits of the limbs below.
use Rattle.std.proofs.Common.{◌≡◌, [], ◌∷◌, ◌++◌, ◌+◌, ◌*◌, true, false, ℕ, List, length, take, get_or, ap, ◌∙◌, le-ltb, lt-ltb, subst, arith, length-take-le, append_assoc}
use Rattle.total.specs.Total.{val}
use Rattle.text.specs.Text.{digits_of}
use Rattle.text.specs.Writing.{Put}
use Rattle.text.specs.laws.Digits.{digits-length}
use Rattle.text.specs.laws.Room.{has}
use Rattle.text.specs.laws.Writing.{puts_all}
use Rattle.placing.specs.laws.Placing.{join, follow}
use Rattle.exact.specs.Exact.{sign_of, signed_hex}
use Rattle.exact.specs.laws.Hex.{highest_first, some_highest, signed, unsigned}
use Rattle.exact.proofs.put_whole.Goals as goal

pub returns-in_default : goal.returns-in_default
returns-in_default c =
    let a = c.args in
    let n = val a.limbs.now in
    let room = has _ (length a.out.now) a.at 546 c.lacks.ensures c.if-lacks.false in
    let none = le-ltb 0 n (omega (arith, c.in_default.ensures)) in
    puts_all a.out.now a.at 546 (signed_hex a.negative n ++ (a.after ∷ [])) room
    (rw (← (unsigned a.negative n none)) (subst (Put a.out.now c.put_bytes.new.out a.at c.put_bytes.result) (grind arith) (c.put_bytes.ensures.put (grind arith))))

pub put_limbs-rest-requires : goal.put_limbs-rest-requires
put_limbs-rest-requires c =
    let a = c.args in
    let l = a.limbs.now in
    let t = c.in-Some.top in
    let room = has _ (length a.out.now) a.at 546 c.lacks.ensures c.if-lacks.false in
    let p = follow a.out.now a.at 1 16 _ _ (digits-length false 16 16 (get_or l t 0)) (omega arith) c.put_sign-sign.ensures c.put_hex-first.ensures in
    omega (arith, p.short, p.same, c.in-Some.ensures.0, length-take-le t l (omega (arith, c.in-Some.ensures.0)))

pub returns : goal.returns
returns c =
    let a = c.args in
    let l = a.limbs.now in
    let n = val l in
    let t = c.in-Some.top in
    let found = c.in-Some.ensures in
    let room = has _ (length a.out.now) a.at 546 c.lacks.ensures c.if-lacks.false in
    let some = lt-ltb 0 n (some_highest l t found.0 found.1 found.2) in
    let below : length (take t l) ≡ t = length-take-le t l (omega (arith, found.0)) in
    let p = follow a.out.now a.at 1 16 (sign_of a.negative) (digits_of false 16 16 (get_or l t 0)) (digits-length false 16 16 (get_or l t 0)) (omega arith) c.put_sign-sign.ensures c.put_hex-first.ensures in
    let q = join a.out.now a.at 17 (16 * t) (sign_of a.negative ++ digits_of false 16 16 (get_or l t 0)) (digits_of true 16 (16 * t) (val (take t l))) (omega (arith, found.0)) p (rw below at c.put_limbs-rest.ensures) in
    let r = follow a.out.now a.at (17 + 16 * t) 1 _ (a.after ∷ []) (omega arith) (omega (arith, found.0)) q c.put_bytes-2.ensures in
    let digits = highest_first l t found.0 (omega arith) c.fits-limbs found.1 found.2 in
    let text : sign_of a.negative ++ digits_of false 16 16 (get_or l t 0) ++ digits_of true 16 (16 * t) (val (take t l)) ≡ signed_hex a.negative n =
    append_assoc (sign_of a.negative) (digits_of false 16 16 (get_or l t 0)) (digits_of true 16 (16 * t) (val (take t l))) ∙ ap (λ (x : List ℕ). sign_of a.negative ++ x) digits ∙ signed a.negative n some in
    puts_all a.out.now a.at 546 (signed_hex a.negative n ++ (a.after ∷ [])) room (rw text at r.put)

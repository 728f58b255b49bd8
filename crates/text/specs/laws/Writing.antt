-- How pieces of text follow each other in a buffer. Assumes nothing.
use Rattle.std.specs.Prelude.{◌≡◌, refl, ℕ, ◌+◌, ◌≤◌, ◌<◌, List, [], ◌∷◌, ◌++◌, length, take, drop, set}
use Rattle.std.proofs.Common.{sym, ap, ◌∙◌, add-zero, zero-add, add-one, arith, length-append, take-append-drop, take_at}
use Rattle.std.proofs.lemmas.List.{set_split}
use Rattle.laws.specs.laws.Splices.{splice-two, length-splice}
use Rattle.text.specs.Writing.{Put, Puts}

pub put_none : (s : List ℕ) (a : ℕ) → Put s s a a []
put_none s a = record { next = sym (add-zero a); bytes = rw add-zero (sym (take-append-drop a s)) }

pub put_one : (s : List ℕ) (a b : ℕ) → a < length s → Put s (set s a b) a (a + 1) (b ∷ [])
put_one s a b h = record { next = refl; bytes = rw add-one (set_split s a b h) }

pub put_both : (s : List ℕ) (a : ℕ) (x y : List ℕ) {t u : List ℕ} {b c : ℕ} → c ≤ length s → Put s t a b x → Put t u b c y → Put s u a c (x ++ y)
put_both s a x y {t} {u} {b} {c} h p q =
    let e : length (x ++ y) ≡ length x + length y = length-append x y in
    record {
      next = omega (arith, p.next, q.next);
      bytes = q.bytes ∙ rw (p.next, p.bytes) (splice-two s a x y (length x) refl (omega (arith, p.next, q.next)));
    }

pub put_length : (s : List ℕ) (a : ℕ) (x : List ℕ) {t : List ℕ} {b : ℕ} → Put s t a b x → b ≤ length s → length t ≡ length s
put_length s a x {t} {b} p h = ap length p.bytes ∙ length-splice s a x (omega (arith, p.next))

-- what was put at the start of a buffer stands there
pub front : {out new text : List ℕ} {n : ℕ} → Put out new 0 n text → take n new ≡ text
front {out = out} {text = text} {n = n} put =
    let e : n ≡ length text = put.next ∙ zero-add (length text) in
    ap (take n) put.bytes ∙ take_at text (drop (0 + length text) out) n (sym e)

-- ---- where there is room, and where there is none
module _ (s : List ℕ) (a room : ℕ) (text : List ℕ) where
  pub puts_all : {t : List ℕ} {b : ℕ} → a + room ≤ length s → Put s t a b text → Puts s t a b room text
  puts_all h p = record { put = λ _. p; none = λ (k : length s < a + room). absurd (omega arith) }

  pub puts_none : length s < a + room → Puts s s a a room text
  puts_none h = record { put = λ (k : a + room ≤ length s). absurd (omega arith); none = λ _. (refl, refl) }

-- a piece of at most k bytes, where there is room for it and a byte after it
module _ (s : List ℕ) (a k : ℕ) (x : List ℕ) {t : List ℕ} {b : ℕ} (h : length x ≤ k) (l : a + (k + 1) ≤ length s) (p : Put s t a b x) where
  pub room_after : b < length t
  room_after = omega (arith, p.next, put_length s a x p (omega (arith, p.next)))

  pub byte_after : (after : ℕ) {u : List ℕ} {c : ℕ} → Put t u b c (after ∷ []) → Puts s u a c (k + 1) (x ++ (after ∷ []))
  byte_after after q = puts_all s a (k + 1) (x ++ (after ∷ [])) l (put_both s a x (after ∷ []) (omega (arith, p.next, q.next)) p q)

-- a piece of at most so many bytes, where there is room for it
pub placed : (s : List ℕ) (a room most : ℕ) (x : List ℕ) {t : List ℕ} {b : ℕ} → length x ≤ most → most ≤ room → a + room ≤ length s → Puts s t a b room x
    → Put s t a b x × (b ≤ a + most) × (length t ≡ length s)
placed s a room most x h k l p =
    let q = p.put l in
    (q, omega (arith, q.next), put_length s a x q (omega (arith, q.next)))

-- one after the other: two
pub placed_both : (s : List ℕ) (a i j m n : ℕ) (x y : List ℕ) {t u : List ℕ} {b c : ℕ} → (length x ≤ m) × (length y ≤ n) → (m ≤ i) × (n ≤ j)
    → (a + i ≤ length s) × (a + m + j ≤ length s) → Puts s t a b i x → Puts t u b c j y → Put s u a c (x ++ y) × (c ≤ a + m + n) × (length u ≡ length s)
placed_both s a i j m n x y {t} {u} {b} {c} h l g p q =
    let p' = placed s a i m x h.0 l.0 g.0 p in
    let q' = placed t b j n y h.1 l.1 (omega (arith, p'.1, p'.2, g.1)) q in
    let e : c ≤ length s = omega (arith, p'.1, q'.1, g.1, l.1) in
    (put_both s a x y e p'.0 q'.0, omega (arith, p'.1, q'.1), omega (arith, p'.2, q'.2))

-- and three
pub placed_three : (s : List ℕ) (a i j k m n o : ℕ) (x y z : List ℕ) {t u w : List ℕ} {b c d : ℕ}
    → (length x ≤ m) × (length y ≤ n) × (length z ≤ o) → (m ≤ i) × (n ≤ j) × (o ≤ k) → (a + i ≤ length s) × (a + m + j ≤ length s) × (a + m + n + k ≤ length s)
    → Puts s t a b i x → Puts t u b c j y → Puts u w c d k z → Put s w a d (x ++ y ++ z) × (d ≤ a + m + n + o)
placed_three s a i j k m n o x y z {t} {u} {w} {b} {c} {d} h l g p q r =
    let both = placed_both s a i j m n x y (h.0, h.1) (l.0, l.1) (g.0, g.1) p q in
    let r' = placed u c k o z h.2 l.2 (omega (arith, both.1, both.2, g.2)) r in
    let e : d ≤ length s = omega (arith, both.1, r'.1, g.2, l.2) in
    (put_both s a (x ++ y) z e both.0 r'.0, omega (arith, both.1, r'.1))

-- The five counts, the 34 limbs and the contents, read and compared. Assumes nothing.
use mathlib.Core.Path.{◌≡◌, refl, ap, ◌∙◌, sym}
use mathlib.Core.Bool.{Bool, true, false, ◌&&◌, false≢true}
use mathlib.Core.Logic.{◌↔◌}
use mathlib.Core.List.{List, [], ◌∷◌, ◌++◌, append_assoc, append-nil}
use Prim.Native.Nat.{ℕ, zero, suc, ◌+◌, ◌*◌, ◌/◌, ◌%◌, ◌^◌, ◌≤◌, ◌<◌}
use native.Mathlib.Nat.{pow-suc, zero-add, suc-add, mul_comm, mul_assoc, div-lt_iff_lt-mul, add-mul-mod_self_left, add-mul-div_left, mod-add-div, mod-lt}
use native.Mathlib.Omega.{arith}
use borrow.Author.Tests.{eq-eqb, eqb-true}
use lib.Dec.{lit<}
use lib.Pow.{pow-add}
use lib.ListN.{length, take, drop, get_or, set}
use lib.Seq.{drop-drop, take-add, length-take-le}
use Rattle.total.specs.Total.{lowest, limbs_of}
use Rattle.total.specs.Carry.{W}
use Rattle.total.specs.laws.Limbs.{W-pow}
use Rattle.ledger.specs.Bytes.{bytes, number, fields, read}
use Rattle.ledger.specs.Calls.{equal, plus}
use Rattle.ledger.specs.laws.Fields.{number_append}

-- ---- five numbers
five : (l q : List ℕ) → length l ≡ 5 → get_or l 0 0 ∷ get_or l 1 0 ∷ get_or l 2 0 ∷ get_or l 3 0 ∷ get_or l 4 0 ∷ q ≡ l ++ q
five [] q h = absurd (omega arith)
five (a ∷ []) q h = absurd (omega arith)
five (a ∷ b ∷ []) q h = absurd (omega arith)
five (a ∷ b ∷ c ∷ []) q h = absurd (omega arith)
five (a ∷ b ∷ c ∷ d ∷ []) q h = absurd (omega arith)
five (a ∷ b ∷ c ∷ d ∷ e ∷ []) q h = refl
five (a ∷ b ∷ c ∷ d ∷ e ∷ f ∷ l) q h = absurd (omega arith)

eight : (l : List ℕ) → length l ≡ 8
    → get_or l 0 0 ∷ get_or l 1 0 ∷ get_or l 2 0 ∷ get_or l 3 0 ∷ get_or l 4 0 ∷ get_or l 5 0 ∷ get_or l 6 0 ∷ get_or l 7 0 ∷ [] ≡ l
eight [] h = absurd (omega arith)
eight (a ∷ []) h = absurd (omega arith)
eight (a ∷ b ∷ []) h = absurd (omega arith)
eight (a ∷ b ∷ c ∷ l) h = ap (λ (t : List ℕ). a ∷ b ∷ c ∷ t) (five_all l (omega arith))
  where
    five_all : (l : List ℕ) → length l ≡ 5 → get_or l 0 0 ∷ get_or l 1 0 ∷ get_or l 2 0 ∷ get_or l 3 0 ∷ get_or l 4 0 ∷ [] ≡ l
    five_all l h = five l [] h ∙ append-nil l

pub part_le : (l : List ℕ) (i : ℕ) → get_or l i 0 ≤ plus l
unfolding plus
part_le [] i = omega arith
part_le (x ∷ xs) zero = omega arith
part_le (x ∷ xs) (suc i) = omega (arith, part_le xs i)

pub set-le : (l : List ℕ) (k i z m : ℕ) → ((j : ℕ) → get_or l j 0 ≤ m) → z ≤ m → get_or (set l k z) i 0 ≤ m
set-le [] k i z m h g = h i
set-le (x ∷ xs) zero zero z m h g = g
set-le (x ∷ xs) zero (suc i) z m h g = h (suc i)
set-le (x ∷ xs) (suc k) zero z m h g = h zero
set-le (x ∷ xs) (suc k) (suc i) z m h g = set-le xs k i z m (λ j. h (suc j)) g

pub plus_less : (l : List ℕ) (i z : ℕ) → z ≤ get_or l i 0 → plus (set l i z) ≤ plus l
unfolding plus
plus_less [] i z h = omega arith
plus_less (x ∷ xs) zero z h = omega arith
plus_less (x ∷ xs) (suc i) z h = omega (arith, plus_less xs i z h)

-- ---- 34 limbs
W-bytes : (n : ℕ) → W n ≡ 256 ^ (8 * n)
W-bytes n = W-pow n ∙ ap (λ (k : ℕ). 2 ^ k) (let e : 64 * n ≡ 8 * (8 * n) = omega arith in e) ∙ power (8 * n)
  where
    power : (k : ℕ) → 2 ^ (8 * k) ≡ 256 ^ k
    power zero = refl
    power (suc k) = ap (λ (n : ℕ). 2 ^ n) (let e : 8 * suc k ≡ 8 * k + 8 = omega arith in e) ∙ pow-add 2 (8 * k) 8 ∙ ap (λ (n : ℕ). n * 256) (power k) ∙ sym (pow-suc 256 k)

pub limb_next : (s : List ℕ) (i : ℕ) → 8 * i + 8 ≤ length s → number (take (8 * (i + 1)) s) ≡ number (take (8 * i) s) + W i * number (take 8 (drop (8 * i) s))
limb_next s i h =
    let e : 8 * (i + 1) ≡ 8 * i + 8 = omega arith in
    rw (e, take-add (8 * i) 8 s, number_append, length-take-le (8 * i) s (omega arith), W-bytes i)

-- ---- the contents, word by word
word_on : (s : List ℕ) (k : ℕ) → number (take 4 (drop (4 * k) (drop 4 s))) ≡ number (take 4 (drop (4 * suc k) s))
word_on s k = ap (λ (t : List ℕ). number (take 4 t)) (drop-drop (4 * k) 4 s ∙ ap (λ (n : ℕ). drop n s) (let e : 4 + 4 * k ≡ 4 * suc k = omega arith in e))

equal_words : (n : ℕ) (s xs : List ℕ) → length xs ≡ n → ((k : ℕ) → k < n → number (take 4 (drop (4 * k) s)) ≡ get_or xs k 0) → equal (read 4 n s) xs ≡ true
unfolding equal read
equal_words zero s [] e f = refl
equal_words zero s (x ∷ xs) e f = absurd (omega arith)
equal_words (suc n) s [] e f = absurd (omega arith)
equal_words (suc n) s (x ∷ xs) e f =
    rw (eq-eqb _ _ (f 0 (omega arith)), equal_words n (drop 4 s) xs (omega arith) (λ k h. word_on s k ∙ f (suc k) (omega (arith, h)))) refl

both : (a b : Bool) → (a && b) ≡ true → (a ≡ true) × (b ≡ true)
both true b h = (refl, h)
both false b h = absurd (false≢true h)

words_equal : (n : ℕ) (s xs : List ℕ) → equal (read 4 n s) xs ≡ true → (k : ℕ) → k < n → number (take 4 (drop (4 * k) s)) ≡ get_or xs k 0
unfolding equal read
words_equal zero s xs h k g = absurd (omega arith)
words_equal (suc n) s [] h k g = absurd (false≢true h)
words_equal (suc n) s (x ∷ xs) h zero g = eqb-true _ _ (both _ _ h).0
words_equal (suc n) s (x ∷ xs) h (suc k) g = sym (word_on s k) ∙ words_equal n (drop 4 s) xs (both _ _ h).1 k (omega (arith, g))

pub equal_each : (b : Bool) (n : ℕ) (s xs : List ℕ) → length xs ≡ n → ((b ≡ true) ↔ ((k : ℕ) → k < n → number (take 4 (drop (4 * k) s)) ≡ get_or xs k 0)) → b ≡ equal (read 4 n s) xs
equal_each b n s xs e h = go b (equal (read 4 n s) xs) h.0 h.1 (equal_words n s xs e) (words_equal n s xs)
  where
    go : {P : Type 0} (p q : Bool) → (p ≡ true → P) → (P → p ≡ true) → (P → q ≡ true) → (q ≡ true → P) → p ≡ q
    go true q f g u v = sym (u (f refl))
    go false true f g u v = absurd (false≢true (g (v refl)))
    go false false f g u v = refl

-- numbers read one by one
pub read_each : (n : ℕ) (s xs : List ℕ) → length xs ≡ n → ((k : ℕ) → k < n → get_or xs k 0 ≡ number (take 4 (drop (4 * k) s))) → xs ≡ read 4 n s
unfolding read
read_each zero s [] e f = refl
read_each zero s (x ∷ xs) e f = absurd (omega arith)
read_each (suc n) s [] e f = absurd (omega arith)
read_each (suc n) s (x ∷ xs) e f =
    (λ i. f 0 (omega arith) i ∷ read_each n (drop 4 s) xs (omega arith) (λ k h. f (suc k) (omega (arith, h)) ∙ sym (word_on s k)) i)

-- ---- numbers in bytes, side by side
bytes_join : (n m s z : ℕ) → s < 256 ^ n → bytes (n + m) (s + 256 ^ n * z) ≡ bytes n s ++ bytes m z
unfolding bytes
bytes_join zero m s z h = rw (zero-add m, let k : s + 1 * z ≡ z = omega arith in k)
bytes_join (suc n) m s z h =
    let a : s + 256 ^ suc n * z ≡ s + 256 * (256 ^ n * z) = rw (pow-suc 256 n, mul_comm (256 ^ n) 256, mul_assoc 256 (256 ^ n) z) in
    let b : s / 256 < 256 ^ n = (div-lt_iff_lt-mul {k = 256} (omega arith)).1 (rw (← pow-suc 256 n) h) in
    rw (suc-add n m, a, add-mul-mod_self_left s 256 (256 ^ n * z), add-mul-div_left s (256 ^ n * z) {y = 256} (omega arith), bytes_join n m (s / 256) z b)

lowest-bytes : (k n : ℕ) → fields 8 (lowest k n) ≡ bytes (8 * k) n
unfolding fields lowest bytes
lowest-bytes zero n = refl
lowest-bytes (suc k) n =
    let B : ℕ = 0x1_0000_0000_0000_0000 in
    let e : 8 + 8 * k ≡ 8 * suc k = omega arith in
    let d : n % B + B * (n / B) ≡ n = mod-add-div n B in
    ap (λ (t : List ℕ). bytes 8 (n % B) ++ t) (lowest-bytes k (n / B))
    ∙ sym (bytes_join 8 (8 * k) (n % B) (n / B) (mod-lt n (lit< tt)))
    ∙ (λ i. bytes (e i) (d i))

-- two numbers of four bytes as one of eight
pub pair_bytes : (x a b : ℕ) → x ≡ a + 4294967296 * b → a < 4294967296 → bytes 8 x ≡ bytes 4 a ++ bytes 4 b
pair_bytes x a b e h = ap (bytes 8) e ∙ bytes_join 4 4 a b h

pub pair_fields : (x a b : ℕ) (xs ys : List ℕ) → x ≡ a + 4294967296 * b → a < 4294967296 → fields 8 xs ≡ fields 4 ys → fields 8 (x ∷ xs) ≡ fields 4 (a ∷ b ∷ ys)
unfolding fields
pair_fields x a b xs ys e h r = (λ i. pair_bytes x a b e h i ++ r i) ∙ append_assoc (bytes 4 a) (bytes 4 b) (fields 4 ys)

no_fields : fields 8 [] ≡ fields 4 []
unfolding fields
no_fields = refl

pub eight_words : (l : List ℕ) (p q r s : ℕ) → length l ≡ 8 → ((i : ℕ) → get_or l i 0 < 4294967296)
    → p ≡ get_or l 0 0 + 4294967296 * get_or l 1 0 → q ≡ get_or l 2 0 + 4294967296 * get_or l 3 0 → r ≡ get_or l 4 0 + 4294967296 * get_or l 5 0 → s ≡ get_or l 6 0 + 4294967296 * get_or l 7 0
    → fields 8 (p ∷ q ∷ r ∷ s ∷ []) ≡ fields 4 l
eight_words l p q r s h f ep eq er es =
    let c : List ℕ = get_or l 6 0 ∷ get_or l 7 0 ∷ [] in
    let b : List ℕ = get_or l 4 0 ∷ get_or l 5 0 ∷ c in
    let a : List ℕ = get_or l 2 0 ∷ get_or l 3 0 ∷ b in
    pair_fields p (get_or l 0 0) (get_or l 1 0) (q ∷ r ∷ s ∷ []) a ep (f 0)
    (pair_fields q (get_or l 2 0) (get_or l 3 0) (r ∷ s ∷ []) b eq (f 2)
    (pair_fields r (get_or l 4 0) (get_or l 5 0) (s ∷ []) c er (f 4) (pair_fields s (get_or l 6 0) (get_or l 7 0) [] [] es (f 6) no_fields)))
    ∙ ap (fields 4) (eight l h)

pub counts_words : (l : List ℕ) (p q r : ℕ) → length l ≡ 5 → ((i : ℕ) → get_or l i 0 ≤ 1025)
    → p ≡ get_or l 0 0 + 4294967296 * get_or l 1 0 → q ≡ get_or l 2 0 + 4294967296 * get_or l 3 0 → r ≡ get_or l 4 0 + 4294967296 * 0
    → fields 8 (p ∷ q ∷ r ∷ []) ≡ fields 4 (l ++ (0 ∷ []))
counts_words l p q r h f ep eq er =
    let b : List ℕ = get_or l 4 0 ∷ 0 ∷ [] in
    let a : List ℕ = get_or l 2 0 ∷ get_or l 3 0 ∷ b in
    pair_fields p (get_or l 0 0) (get_or l 1 0) (q ∷ r ∷ []) a ep (omega (arith, f 0))
    (pair_fields q (get_or l 2 0) (get_or l 3 0) (r ∷ []) b eq (omega (arith, f 2)) (pair_fields r (get_or l 4 0) 0 [] [] er (omega (arith, f 4)) no_fields))
    ∙ ap (fields 4) (five l (0 ∷ []) h)

pub limbs_bytes : (n : ℕ) → fields 8 (limbs_of n) ≡ bytes 272 n
unfolding limbs_of
limbs_bytes n = lowest-bytes 34 n

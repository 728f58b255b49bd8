-- Pieces of text one after the other. Assumes nothing.
use Rattle.std.specs.Prelude.{refl, List, [], ◌++◌, ℕ, ◌+◌, ◌≤◌, length}
use Rattle.std.proofs.Common.{◌∙◌, arith}
use Rattle.text.specs.Writing.{Puts}
use Rattle.text.specs.laws.Writing.{placed, put_none, put_both}
use Rattle.placing.specs.Placed.{Placed}

-- nothing
pub nothing : (s : List ℕ) (a n : ℕ) → Placed s s a a n []
nothing s a n = record { put = put_none s a; short = omega arith; same = refl }

-- a piece, where there is room for it
pub piece : (s : List ℕ) (a n : ℕ) (x : List ℕ) {t : List ℕ} {b : ℕ} → length x ≤ n → a + n ≤ length s → Puts s t a b n x → Placed s t a b n x
piece s a n x h l p = let q = placed s a n n x h (omega arith) l p in record { put = q.0; short = q.1; same = q.2 }

-- one after the other
pub join : (s : List ℕ) (a m n : ℕ) (x y : List ℕ) {t u : List ℕ} {b c : ℕ} → a + m + n ≤ length s → Placed s t a b m x → Placed t u b c n y → Placed s u a c (m + n) (x ++ y)
join s a m n x y {t} {u} {b} {c} room p q =
    let ps = p.short in
    let qs = q.short in
    record { put = put_both s a x y (omega arith) p.put q.put; short = omega arith; same = q.same ∙ p.same }

pub follow : (s : List ℕ) (a m n : ℕ) (x y : List ℕ) {t u : List ℕ} {b c : ℕ} → length y ≤ n → a + m + n ≤ length s → Placed s t a b m x → Puts t u b c n y → Placed s u a c (m + n) (x ++ y)
follow s a m n x y {t} {u} {b} {c} h room p q =
    let ps = p.short in
    let pl = p.same in
    join s a m n x y room p (piece t b n y h (omega arith) q)

-- the same of a piece that asks for more room than it takes
pub within : (s : List ℕ) (a room n : ℕ) (x : List ℕ) {t : List ℕ} {b : ℕ} → length x ≤ n → n ≤ room → a + room ≤ length s → Puts s t a b room x → Placed s t a b n x
within s a room n x h k l p = let q = placed s a room n x h k l p in record { put = q.0; short = q.1; same = q.2 }

pub follow_within : (s : List ℕ) (a m room n : ℕ) (x y : List ℕ) {t u : List ℕ} {b c : ℕ} → length y ≤ n → n ≤ room → a + m + room ≤ length s
    → Placed s t a b m x → Puts t u b c room y → Placed s u a c (m + n) (x ++ y)
follow_within s a m room n x y {t} {u} {b} {c} h k l p q =
    let ps = p.short in
    let pl = p.same in
    join s a m n x y (omega arith) p (within t b room n y h k (omega arith) q)

-- a larger bound serves
pub looser : (s : List ℕ) (a m n : ℕ) (x : List ℕ) {t : List ℕ} {b : ℕ} → m ≤ n → Placed s t a b m x → Placed s t a b n x
looser s a m n x {t} {b} h p = let ps = p.short in record { put = p.put; short = omega arith; same = p.same }

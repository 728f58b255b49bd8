-- Rows one after the other: where a row lies in their bytes, and one row put in another's place. Assumes nothing.
use Rattle.std.specs.Prelude.{◌≡◌, refl, true, List, [], ◌∷◌, ◌++◌, ℕ, zero, suc, ◌+◌, ◌*◌, ◌^◌, ◌<◌, length, take, drop, get_or, set}
use Rattle.std.proofs.Common.{ap, ◌∙◌, sym, append_assoc, mul-suc, add_comm, le_of_suc-le-suc, not-suc-le-zero, arith, length-append, take_at, drop_at}
use Rattle.ledger.specs.Sheet.{Row, flat, times_in, sound}
use Rattle.laws.specs.laws.Splices.{take_past, drop_past}

-- 48 bytes that are not damaged, with times of two bytes
pub record Good (w : Row) : Type 0 where
  pub bytes : length w ≡ 48
  pub whole : sound w ≡ true
  pub times : times_in w < 2 ^ 16

pub data Rows : List Row → Type 0 where
  none : Rows []
  more : {w : Row} {ws : List Row} → Good w → Rows ws → Rows (w ∷ ws)

pub rows_set : {ws : List Row} → Rows ws → (i : ℕ) (x : Row) → Good x → Rows (set ws i x)
rows_set none i x e = none
rows_set (more g r) zero x e = more e r
rows_set (more g r) (suc i) x e = more g (rows_set r i x e)

pub rows_sound : {ws : List Row} → Rows ws → (i : ℕ) → i < length ws → sound (get_or ws i []) ≡ true
rows_sound none i h = absurd (not-suc-le-zero h)
rows_sound (more g r) zero h = g.whole
rows_sound (more g r) (suc i) h = rows_sound r i (le_of_suc-le-suc h)

-- ---- their bytes, with others after them
pub length-flat : {ws : List Row} → Rows ws → length (flat ws) ≡ 48 * length ws
unfolding flat
length-flat none = refl
length-flat (more {w = w} {ws = ws} g r) = rw (length-append, g.bytes, length-flat r) (omega arith)

pub row-flat : {ws : List Row} → Rows ws → (i : ℕ) (t : List ℕ) → i < length ws → take 48 (drop (48 * i) (flat ws ++ t)) ≡ get_or ws i []
unfolding flat
row-flat none i t h = absurd (not-suc-le-zero h)
row-flat (more {w = w} {ws = ws} g r) zero t h = rw (append_assoc) (take_at w (flat ws ++ t) 48 g.bytes)
row-flat (more {w = w} {ws = ws} g r) (suc i) t h =
    rw (append_assoc, mul-suc, add_comm (48 * i) 48, drop_past w (flat ws ++ t) 48 (48 * i) g.bytes) (row-flat r i t (le_of_suc-le-suc h))

pub splice-flat : {ws : List Row} → Rows ws → (i : ℕ) (x t : List ℕ) → i < length ws → length x ≡ 48
    → take (48 * i) (flat ws ++ t) ++ (x ++ drop (48 * i + 48) (flat ws ++ t)) ≡ flat (set ws i x) ++ t
unfolding flat
splice-flat none i x t h e = absurd (not-suc-le-zero h)
splice-flat (more {w = w} {ws = ws} g r) zero x t h e = rw (append_assoc, append_assoc, drop_at w (flat ws ++ t) 48 g.bytes)
splice-flat (more {w = w} {ws = ws} g r) (suc i) x t h e =
    let l = g.bytes in
    let rest = flat ws ++ t in
    let a : 48 * suc i ≡ 48 + 48 * i = omega arith in
    let b : 48 * suc i + 48 ≡ 48 + (48 * i + 48) = omega arith in
    let k : take (48 * suc i) ((w ++ flat ws) ++ t) ≡ w ++ take (48 * i) rest = rw (append_assoc w (flat ws) t, a) (take_past w rest 48 (48 * i) l) in
    let d : drop (48 * suc i + 48) ((w ++ flat ws) ++ t) ≡ drop (48 * i + 48) rest = rw (append_assoc w (flat ws) t, b) (drop_past w rest 48 (48 * i + 48) l) in
    rw (k, d)
    (append_assoc w (take (48 * i) rest) (x ++ drop (48 * i + 48) rest)
    ∙ ap (λ (z : List ℕ). w ++ z) (splice-flat r i x t (le_of_suc-le-suc h) e)
    ∙ sym (append_assoc w (flat (set ws i x)) t))

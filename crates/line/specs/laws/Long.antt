-- A line of more than 83 bytes is malformed whatever it says, so a reader need not keep it. Assumes nothing.
use Rattle.std.specs.Prelude.{◌≡◌, ℕ, zero, suc, ◌+◌, ◌≤◌, ◌<◌, Option, Some, None, Bool, cond, drop, get_or, ltb, eqb}
use Rattle.std.proofs.Math.Path.{refl}
use Rattle.std.proofs.Common.{ap, ◌∙◌, drop_of_length-le, lt-ltb, ne_eqb, ltb-false, ltb-true, eqb-true}
use native.Mathlib.Omega.{arith}
use Rattle.std.proofs.Math.Bool.{true, false}
use mathlib.Core.List.{List, [], ◌∷◌}
use Rattle.std.proofs.Math.ListN.{length}
use Rattle.line.specs.declared.Edit.{Edit}
use Rattle.line.specs.Line.{decimal_of, pattern_of, onto, cut, fields_of, given, edit_from, line_of}

-- either a is below b or it is not
pub below : (a b : ℕ) {A : Type 0} → (a < b → A) → (b ≤ a → A) → A
below a b {A} f g = by (ltb a b) refl where
  by : (t : Bool) → ltb a b ≡ t → A
  by true e = f (ltb-true a b e)
  by false e = g (ltb-false a b e)

-- ---- a number that is none spoils the line, wherever it stands

spoilt : (x : Option ℕ) (next : ℕ → Option Edit) → ((n : ℕ) → next n ≡ None) → given x next ≡ None
unfolding given
spoilt None next h = refl
spoilt (Some n) next h = h n

module _ (row function a b c times : Option ℕ) where
  pub no_row : row ≡ None → edit_from row function a b c times ≡ None
  unfolding edit_from given
  no_row e = rw e refl

  pub no_function : function ≡ None → edit_from row function a b c times ≡ None
  unfolding edit_from given
  no_function e = rw e (spoilt row _ (λ _. refl))

  pub no_first : a ≡ None → edit_from row function a b c times ≡ None
  unfolding edit_from given
  no_first e = rw e (spoilt row _ (λ _. spoilt function _ (λ _. refl)))

  pub no_second : b ≡ None → edit_from row function a b c times ≡ None
  unfolding edit_from given
  no_second e = rw e (spoilt row _ (λ _. spoilt function _ (λ _. spoilt a _ (λ _. refl))))

  pub no_third : c ≡ None → edit_from row function a b c times ≡ None
  unfolding edit_from given
  no_third e = rw e (spoilt row _ (λ _. spoilt function _ (λ _. spoilt a _ (λ _. spoilt b _ (λ _. refl)))))

  pub no_times : times ≡ None → edit_from row function a b c times ≡ None
  unfolding edit_from given
  no_times e = rw e (spoilt row _ (λ _. spoilt function _ (λ _. spoilt a _ (λ _. spoilt b _ (λ _. spoilt c _ (λ _. refl))))))

-- ---- empty and long fields are no numbers

pub decimal-none : decimal_of [] ≡ None
unfolding decimal_of
decimal-none = refl

pub decimal-long : (s : List ℕ) → 10 < length s → decimal_of s ≡ None
unfolding decimal_of
decimal-long s h = simp (ne_eqb (length s) 0 (λ e. omega arith), lt-ltb 10 (length s) h)

pub pattern_other : (s : List ℕ) → (length s ≡ 16 → ⊥) → pattern_of s ≡ None
unfolding pattern_of
pattern_other s h = simp (ne_eqb (length s) 16 h)

-- ---- a line's bytes are its fields' bytes and a space between each two

-- the bytes of parts, each with one more
room : List (List ℕ) → ℕ
room [] = 0
room (p ∷ ps) = suc (length p) + room ps

module _ (x : ℕ) (ps : List (List ℕ)) where
  some_by : (t : Bool) → 0 < length (cond t ([] ∷ ps) (onto x ps))
  unfolding onto
  some_by true = omega arith
  some_by false = onto_some ps where
    onto_some : (qs : List (List ℕ)) → 0 < length (onto x qs)
    onto_some [] = omega arith
    onto_some (q ∷ qs) = omega arith

pub some_field : (s : List ℕ) → 0 < length (fields_of s)
unfolding fields_of cut
some_field [] = omega arith
some_field (x ∷ s) = some_by x (fields_of s) (eqb x 32)

room-onto : (x : ℕ) (ps : List (List ℕ)) → 0 < length ps → room (onto x ps) ≡ suc (room ps)
unfolding onto room
room-onto x [] h = absurd (omega arith)
room-onto x (p ∷ ps) h = omega arith

room_by : (x : ℕ) (ps : List (List ℕ)) → 0 < length ps → (t : Bool) → room (cond t ([] ∷ ps) (onto x ps)) ≡ suc (room ps)
unfolding room
room_by x ps h true = omega arith
room_by x ps h false = room-onto x ps h

room_fields : (s : List ℕ) → room (fields_of s) ≡ suc (length s)
unfolding fields_of cut room
room_fields [] = refl
room_fields (x ∷ s) = room_by x (fields_of s) (some_field s) (eqb x 32) ∙ ap suc (room_fields s)

room_drop : (ps : List (List ℕ)) (k : ℕ) → room (drop k ps) ≤ suc (length (get_or ps k [])) + room (drop (suc k) ps)
unfolding room
room_drop [] zero = omega arith
room_drop [] (suc k) = omega arith
room_drop (p ∷ ps) zero = omega arith
room_drop (p ∷ ps) (suc k) = room_drop ps k

-- six fields of a long line: one of them is long
room_six : (s : List ℕ) (ps : List (List ℕ)) → ps ≡ fields_of s → length ps ≡ 6
    → length s ≤ length (get_or ps 0 []) + length (get_or ps 1 []) + length (get_or ps 2 []) + length (get_or ps 3 []) + length (get_or ps 4 []) + length (get_or ps 5 []) + 5
unfolding room
room_six s ps e six =
    let whole : room ps ≡ suc (length s) = rw e (room_fields s) in
    let all : length ps ≤ 6 = omega arith in
    let none : room (drop 6 ps) ≡ 0 = rw (drop_of_length-le ps all) refl in
    let a = room_drop ps 0 in
    let b = room_drop ps 1 in
    let c = room_drop ps 2 in
    let d = room_drop ps 3 in
    let f = room_drop ps 4 in
    let g = room_drop ps 5 in
    omega arith

-- ---- the laws

pub long-count : (s : List ℕ) → 83 < length s → decimal_of s ≡ None
long-count s h = decimal-long s (omega arith)

pub long-line : (s : List ℕ) → 83 < length s → line_of s ≡ None
unfolding line_of
long-line s h = by (eqb (length (fields_of s)) 6) refl where
  ps : List (List ℕ)
  ps = fields_of s

  edit : Option Edit
  edit = edit_from (decimal_of (get_or ps 0 [])) (decimal_of (get_or ps 1 [])) (pattern_of (get_or ps 2 [])) (pattern_of (get_or ps 3 [])) (pattern_of (get_or ps 4 [])) (decimal_of (get_or ps 5 []))

  by : (t : Bool) → eqb (length (fields_of s)) 6 ≡ t → cond t edit None ≡ None
  by true e =
      let six = room_six s ps refl (eqb-true _ _ e) in
      below 10 (length (get_or ps 0 [])) (λ k. no_row _ _ _ _ _ _ (decimal-long (get_or ps 0 []) k)) λ k₀.
      below 10 (length (get_or ps 1 [])) (λ k. no_function _ _ _ _ _ _ (decimal-long (get_or ps 1 []) k)) λ k₁.
      below 16 (length (get_or ps 2 [])) (λ k. no_first _ _ _ _ _ _ (pattern_other (get_or ps 2 []) (λ e. omega arith))) λ k₂.
      below 16 (length (get_or ps 3 [])) (λ k. no_second _ _ _ _ _ _ (pattern_other (get_or ps 3 []) (λ e. omega arith))) λ k₃.
      below 16 (length (get_or ps 4 [])) (λ k. no_third _ _ _ _ _ _ (pattern_other (get_or ps 4 []) (λ e. omega arith))) λ k₄.
      below 10 (length (get_or ps 5 [])) (λ k. no_times _ _ _ _ _ _ (decimal-long (get_or ps 5 []) k)) λ k₅.
      absurd (omega arith)
  by false e = refl

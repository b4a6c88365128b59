-- A sound name's cell: it is a name, and its bytes are read back.
use mathlib.Core.Bool.{true, false}
use mathlib.Core.Path.{◌≡◌, refl, sym, ap, ◌∙◌}
use mathlib.Core.List.{List, [], ◌∷◌}
use Prim.Native.Nat.{ℕ, zero, suc, ◌+◌, ◌≤◌}
use native.Mathlib.Omega.{arith}
use lib.ListN.{length}
use borrow.Author.Tests.{eq-eqb, ne_eqb}
use Rattle.chars.specs.Ascii.{is_within, is_letter, is_name_byte}
use Rattle.chars.specs.Run.{every}
use Rattle.chars.proofs.Laws.{and_left, and_right}
use Rattle.basics.specs.Slices.{cell_of}
use Rattle.basics.specs.Limits.{name_limit, name_width}
use Rattle.rows.specs.Rows.{padded, name_cell}
use Rattle.rows.specs.Lawful.{follows, all_follow, is_name}
use Rattle.rows.specs.Reading.{name_from, name_at}
use Rattle.row_laws.specs.Sound.{SoundName, sound_name}
use Rattle.rows.proofs.Padded.{length-padded}
use Rattle.row_laws.proofs.Cells.{Stands, stands_head, stands_tail, stands_cell, padded_past}

-- a 0 is no byte of a name
letter_zero : is_letter 0 ≡ false
unfolding is_letter is_within
letter_zero = refl

byte_zero : is_name_byte 0 ≡ false
unfolding is_name_byte is_letter is_within
byte_zero = refl

letter_some : (b : ℕ) → is_letter b ≡ true → b ≡ 0 → ⊥
letter_some b e z =
    let f : true ≡ false = sym e ∙ ap is_letter z ∙ letter_zero in
    let o : ◌≡◌ {A = ℕ} 0 1 = cc in
    omega arith

byte_some : (b : ℕ) → is_name_byte b ≡ true → b ≡ 0 → ⊥
byte_some b e z =
    let f : true ≡ false = sym e ∙ ap is_name_byte z ∙ byte_zero in
    let o : ◌≡◌ {A = ℕ} 0 1 = cc in
    omega arith

-- bytes that follow each other
follow_none : (a b : ℕ) → b ≡ 0 → follows a b ≡ true
unfolding follows
follow_none a b e = rw (eq-eqb b 0 e)

follow_byte : (a b : ℕ) → (a ≡ 0 → ⊥) → is_name_byte b ≡ true → follows a b ≡ true
unfolding follows
follow_byte a b f e = rw (ne_eqb a 0 f, e, ne_eqb b 0 (byte_some b e))

follow_zeros : {t : List ℕ} {at : ℕ} (n : ℕ) → Stands t (suc at) (padded n []) → all_follow t at n ≡ true
unfolding padded all_follow
follow_zeros zero s = refl
follow_zeros {t} {at = at} (suc n) s = rw (follow_none (cell_of t at) (cell_of t (suc at)) (stands_head s)) (follow_zeros n (stands_tail s))

follow_all : {t : List ℕ} {at : ℕ} (n : ℕ) (bs : List ℕ) → (cell_of t at ≡ 0 → ⊥) → every is_name_byte bs ≡ true → Stands t (suc at) (padded n bs) → all_follow t at n ≡ true
unfolding padded all_follow every
follow_all zero bs f e s = refl
follow_all (suc n) [] f e s = follow_zeros (suc n) s
follow_all {t} {at = at} (suc n) (b ∷ bs) f e s =
    let h : cell_of t (suc at) ≡ b = stands_head s in
    let g : is_name_byte (cell_of t (suc at)) ≡ true = ap is_name_byte h ∙ and_left (is_name_byte b) (every is_name_byte bs) e in
    rw (follow_byte (cell_of t at) (cell_of t (suc at)) f g)
    (follow_all n bs (byte_some (cell_of t (suc at)) g) (and_right (is_name_byte b) (every is_name_byte bs) e) (stands_tail s))

-- a name's cell is a name
cell_head : {t : List ℕ} {at b : ℕ} (bs : List ℕ) → Stands t at (name_cell (b ∷ bs)) → (cell_of t at ≡ b) × Stands t (suc at) (padded name_limit bs)
unfolding padded
cell_head bs s = (stands_head s, stands_tail s)

cell_last : {t : List ℕ} {at : ℕ} (bs : List ℕ) → length bs ≤ name_limit → Stands t at (name_cell bs) → cell_of t (at + name_limit) ≡ 0
cell_last bs h s = stands_cell name_limit s (omega (arith, length-padded name_width bs)) ∙ padded_past name_width name_limit bs h

pub name_stands : {t : List ℕ} {at : ℕ} {name : List ℕ} → SoundName name → Stands t at (name_cell name) → is_name t at ≡ true
unfolding is_name
name_stands {t} {at = at} (sound_name {b = b} {bs = bs} l e h) s =
    let c : cell_of t at ≡ b = (cell_head bs s).0 in
    let first : is_letter (cell_of t at) ≡ true = ap is_letter c ∙ l in
    let rest : all_follow t at name_limit ≡ true = follow_all name_limit bs (letter_some (cell_of t at) first) e (cell_head bs s).1 in
    rw (first, rest, eq-eqb (cell_of t (at + name_limit)) 0 (cell_last (b ∷ bs) (omega arith) s))

-- its bytes, read back
read_bytes : {t : List ℕ} {at : ℕ} (n : ℕ) (bs : List ℕ) → every is_name_byte bs ≡ true → length bs ≤ n → Stands t at (padded n bs) → name_from t at n ≡ bs
unfolding padded every name_from
read_bytes zero [] e h s = refl
read_bytes zero (b ∷ bs) e h s = absurd (omega (arith, h))
read_bytes {t} {at = at} (suc n) [] e h s = rw (eq-eqb (cell_of t at) 0 (stands_head s))
read_bytes {t} {at = at} (suc n) (b ∷ bs) e h s =
    let c : cell_of t at ≡ b = stands_head s in
    let g : is_name_byte b ≡ true = and_left (is_name_byte b) (every is_name_byte bs) e in
    rw (c, ne_eqb b 0 (byte_some b g), read_bytes n bs (and_right (is_name_byte b) (every is_name_byte bs) e) (omega arith) (stands_tail s))

pub name_read_lem : {t : List ℕ} {at : ℕ} {name : List ℕ} → SoundName name → Stands t at (name_cell name) → name_at t at ≡ name
unfolding name_from
name_read_lem {t} {at = at} (sound_name {b = b} {bs = bs} l e h) s =
    let c : cell_of t at ≡ b = (cell_head bs s).0 in
    let rest : name_from t (suc at) name_limit ≡ bs = read_bytes name_limit bs e (omega arith) (cell_head bs s).1 in
    rw (c, ne_eqb b 0 (letter_some b l), rest)

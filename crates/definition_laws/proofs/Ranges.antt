-- What a property statement sets is in the range of its property.
use mathlib.Core.Path.{◌≡◌, refl}
use mathlib.Core.Bool.{Bool, true, false}
use Prim.Native.Nat.{ℕ}
use lib.Dec.{eqb, leb}
use borrow.Author.Tests.{leb-true, eqb-true}
use Rattle.std.specs.Prelude.{if◌then◌else◌, Option, Some, None}
use Rattle.vocabulary.specs.declared.Keyword.{Keyword}
use Rattle.vocabulary.specs.declared.Keyword.TheVariants as keyword
use Rattle.vocabulary.specs.declared.Property.{Property}
use Rattle.vocabulary.specs.declared.Property.TheVariants as property
use Rattle.parts.specs.declared.Kind.{Kind}
use Rattle.parts.specs.declared.Kind.TheVariants as kind
use Rattle.parts.specs.declared.Value.{Value}
use Rattle.parts.specs.declared.Value.TheVariants as value
use Rattle.property_values.specs.Terms.{word_term}
use Rattle.fields.specs.Codes.{is_width}
use Rattle.property_values.specs.Settings.{slot_of, term_of, is_alignment, list_number, listed_setting, short_setting, number_setting, setting_as, setting_of}
use Rattle.property_values.specs.declared.WordList.{WordList}
use Rattle.property_values.specs.declared.WordList.TheVariants as list
use Rattle.property_values.specs.declared.Term.{Term}
use Rattle.property_values.specs.declared.Term.TheVariants.{Word, Number as Digits, Text, Other}
use Rattle.property_values.specs.declared.Slot.{Slot}
use Rattle.basics.specs.Given.{or_else}
use Rattle.properties.specs.Assigned.{slot_number, replaced, assign, nearer, nearest, no_settings}
use Rattle.properties.specs.declared.Settings.{Settings}
use Rattle.components.specs.Components.{component_of}
use Rattle.definition_laws.specs.Sensible.{AlignmentFits, no_alignment, alignment, AddressingFits, no_addressing, addressing, ValuesFit, field_fits, register_fits, regfile_fits, map-fits}

-- the range of a slot, by its number
abbrev pub in_slot : ℕ → ℕ → Bool
in_slot k n =
    if eqb k 0 then leb n 3 else
    if eqb k 1 then leb n 3 else
    if eqb k 3 then leb n 2 else
    if eqb k 4 then leb n 8 else
    if eqb k 5 then is_width n else
    if eqb k 6 then is_width n else
    if eqb k 7 then is_alignment n else
    if eqb k 8 then leb n 2 else
    true

pub data GivenFits (k : ℕ) : Option ℕ → Type 0 where
  nothing_fits : GivenFits k None
  number_fits : {n : ℕ} → in_slot k n ≡ true → GivenFits k (Some n)

-- the settings that a component is made of are in their ranges
pub record SettingsFit (s : Settings) : Type 0 where
  pub sw : GivenFits 0 s.sw
  pub hw : GivenFits 1 s.hw
  pub onread : GivenFits 3 s.onread
  pub onwrite : GivenFits 4 s.onwrite
  pub regwidth : GivenFits 5 s.regwidth
  pub accesswidth : GivenFits 6 s.accesswidth
  pub alignment : GivenFits 7 s.alignment
  pub addressing : GivenFits 8 s.addressing

pub no_settings_fit : SettingsFit no_settings
no_settings_fit =
    record {
      sw = nothing_fits;
      hw = nothing_fits;
      onread = nothing_fits;
      onwrite = nothing_fits;
      regwidth = nothing_fits;
      accesswidth = nothing_fits;
      alignment = nothing_fits;
      addressing = nothing_fits;
    }

nearer-fits : {k : ℕ} {a b : Option ℕ} → GivenFits k a → GivenFits k b → GivenFits k (nearer a b)
nearer-fits nothing_fits y = y
nearer-fits (number_fits x) y = number_fits x

pub nearest-fits : {near far : Settings} → SettingsFit near → SettingsFit far → SettingsFit (nearest near far)
unfolding nearest
nearest-fits a b =
    record {
      sw = nearer-fits a.sw b.sw;
      hw = nearer-fits a.hw b.hw;
      onread = nearer-fits a.onread b.onread;
      onwrite = nearer-fits a.onwrite b.onwrite;
      regwidth = nearer-fits a.regwidth b.regwidth;
      accesswidth = nearer-fits a.accesswidth b.accesswidth;
      alignment = nearer-fits a.alignment b.alignment;
      addressing = nearer-fits a.addressing b.addressing;
    }

replaced-fits : (k i n : ℕ) {g : Option ℕ} → in_slot k n ≡ true → GivenFits i g → GivenFits i (replaced (eqb k i) n g)
replaced-fits k i n {g} r f = by (eqb k i) refl
  where
    by : (b : Bool) → eqb k i ≡ b → GivenFits i (replaced b n g)
    by true e = number_fits (let z : k ≡ i = eqb-true k i e in rw z at r)
    by false e = f

pub assign-fits : (s : Settings) (l : Slot) (n : ℕ) → in_slot (slot_number l) n ≡ true → SettingsFit s → SettingsFit (assign s l n)
unfolding assign
assign-fits s l n r a =
    let k = slot_number l in
    record {
      sw = replaced-fits k 0 n r a.sw;
      hw = replaced-fits k 1 n r a.hw;
      onread = replaced-fits k 3 n r a.onread;
      onwrite = replaced-fits k 4 n r a.onwrite;
      regwidth = replaced-fits k 5 n r a.regwidth;
      accesswidth = replaced-fits k 6 n r a.accesswidth;
      alignment = replaced-fits k 7 n r a.alignment;
      addressing = replaced-fits k 8 n r a.addressing;
    }

-- the greatest number that stands for a word of a list, by the list's number
abbrev greatest : ℕ → ℕ
greatest l =
    if eqb l 0 then 3 else
    if eqb l 1 then 2 else
    if eqb l 2 then 8 else
    if eqb l 3 then 2 else
    1

abbrev is_listed : Term → Bool
is_listed (Word l c) = leb c (greatest (list_number l))
is_listed (Digits n) = true
is_listed Text = true
is_listed Other = true

word_listed : (k : Keyword) → is_listed (word_term k) ≡ true
word_listed keyword.Addrmap = refl
word_listed keyword.Regfile = refl
word_listed keyword.Reg = refl
word_listed keyword.Field = refl
word_listed keyword.Default = refl
word_listed keyword.Sw = refl
word_listed keyword.Hw = refl
word_listed keyword.Rclr = refl
word_listed keyword.Rset = refl
word_listed keyword.Woclr = refl
word_listed keyword.Woset = refl
word_listed keyword.True = refl
word_listed keyword.False = refl
word_listed keyword.Na = refl
word_listed keyword.Rw = refl
word_listed keyword.Wr = refl
word_listed keyword.R = refl
word_listed keyword.W = refl
word_listed keyword.Wot = refl
word_listed keyword.Wzs = refl
word_listed keyword.Wzc = refl
word_listed keyword.Wzt = refl
word_listed keyword.Wclr = refl
word_listed keyword.Wset = refl
word_listed keyword.Compact = refl
word_listed keyword.Regalign = refl
word_listed keyword.Fullalign = refl

term_listed : (v : Value) → is_listed (term_of v) ≡ true
term_listed value.Missing = refl
term_listed (value.Number n) = refl
term_listed (value.String p) = refl
term_listed (value.Word k p) = word_listed k

listed_range : (l : WordList) (t : Term) {n : ℕ} → is_listed t ≡ true → listed_setting l t ≡ Some n → leb n (greatest (list_number l)) ≡ true
listed_range l (Word m c) {n} f q = by (eqb (list_number m) (list_number l)) refl q
  where
    by : (b : Bool) → eqb (list_number m) (list_number l) ≡ b → (if b then Some c else None) ≡ Some n → leb n (greatest (list_number l)) ≡ true
    by true e q = let z : c ≡ n = cc in let y : list_number m ≡ list_number l = eqb-true (list_number m) (list_number l) e in rw (z, y) at f
    by false e q = absurd cc
listed_range l (Digits n) f q = absurd cc
listed_range l Text f q = absurd cc
listed_range l Other f q = absurd cc

-- the effect of a short form, or none
short_range : (effect limit : ℕ) (t : Term) {n : ℕ} → leb effect limit ≡ true → leb 0 limit ≡ true → short_setting effect t ≡ Some n → leb n limit ≡ true
short_range effect limit (Word m c) {n} f g q = by (eqb (list_number m) (list_number list.Truth)) (eqb c 1) q
  where
    by : (a b : Bool) → (if a then (if b then Some effect else Some 0) else None) ≡ Some n → leb n limit ≡ true
    by true true q = let z : effect ≡ n = cc in rw z at f
    by true false q = let z : 0 ≡ n = cc in rw z at g
    by false b q = absurd cc
short_range effect limit (Digits n) f g q = absurd cc
short_range effect limit Text f g q = absurd cc
short_range effect limit Other f g q = absurd cc

number_range : (test : ℕ → Bool) (t : Term) {n : ℕ} → number_setting test t ≡ Some n → test n ≡ true
number_range test (Word m c) q = absurd cc
number_range test (Digits d) {n} q = by (test d) refl q
  where
    by : (b : Bool) → test d ≡ b → (if b then Some d else None) ≡ Some n → test n ≡ true
    by true e q = let z : d ≡ n = cc in rw z at e
    by false e q = absurd cc
number_range test Text q = absurd cc
number_range test Other q = absurd cc

pub setting_range : (q : Property) (v : Value) {n : ℕ} → setting_of q v ≡ Some n → in_slot (slot_number (slot_of q)) n ≡ true
unfolding setting_of setting_as
setting_range property.Sw v e = listed_range list.Access (term_of v) (term_listed v) e
setting_range property.Hw v e = listed_range list.Access (term_of v) (term_listed v) e
setting_range property.Reset v e = refl
setting_range property.Onread v e = listed_range list.Onread (term_of v) (term_listed v) e
setting_range property.Onwrite v e = listed_range list.Onwrite (term_of v) (term_listed v) e
setting_range property.Rclr v e = short_range 1 2 (term_of v) refl refl e
setting_range property.Rset v e = short_range 2 2 (term_of v) refl refl e
setting_range property.Woclr v e = short_range 2 8 (term_of v) refl refl e
setting_range property.Woset v e = short_range 1 8 (term_of v) refl refl e
setting_range property.Regwidth v e = number_range (λ n. is_width n) (term_of v) e
setting_range property.Accesswidth v e = number_range (λ n. is_width n) (term_of v) e
setting_range property.Alignment v e = number_range (λ n. is_alignment n) (term_of v) e
setting_range property.Addressing v e = listed_range list.Addressing (term_of v) (term_listed v) e
setting_range property.Name v e = refl
setting_range property.Desc v e = refl

-- a component of such settings
else_fits : (k standard : ℕ) {g : Option ℕ} → in_slot k standard ≡ true → GivenFits k g → in_slot k (or_else standard g) ≡ true
else_fits k standard e nothing_fits = e
else_fits k standard e (number_fits f) = f

alignment_fits : {g : Option ℕ} → GivenFits 7 g → AlignmentFits g
alignment_fits nothing_fits = no_alignment
alignment_fits (number_fits f) = alignment f

addressing_fits : {g : Option ℕ} → GivenFits 8 g → AddressingFits g
addressing_fits nothing_fits = no_addressing
addressing_fits (number_fits {n = n} f) = addressing (leb-true n 2 f)

standard_fits : is_width 32 ≡ true
unfolding is_width
standard_fits = refl

pub component_fits : (k : Kind) (s : Settings) → SettingsFit s → ValuesFit (component_of k s)
unfolding component_of
component_fits kind.Addrmap s a = map-fits (alignment_fits a.alignment) (addressing_fits a.addressing)
component_fits kind.Regfile s a = regfile_fits (alignment_fits a.alignment)
component_fits kind.Reg s a =
    let w : is_width (or_else 32 s.regwidth) ≡ true = else_fits 5 32 standard_fits a.regwidth in
    register_fits w (else_fits 6 (or_else 32 s.regwidth) w a.accesswidth)
component_fits kind.Field s a =
    field_fits (leb-true (or_else 3 s.sw) 3 (else_fits 0 3 refl a.sw)) (leb-true (or_else 3 s.hw) 3 (else_fits 1 3 refl a.hw))
    (leb-true (or_else 0 s.onread) 2 (else_fits 3 0 refl a.onread)) (leb-true (or_else 0 s.onwrite) 8 (else_fits 4 0 refl a.onwrite))

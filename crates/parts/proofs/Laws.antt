-- The readers of parts, one law for each way that the code goes.
use mathlib.Core.Bool.{Bool, true, false, ◌||◌}
use mathlib.Core.Path.{◌≡◌, refl, sym, ◌∙◌, ap}
use mathlib.Core.List.{List}
use Prim.Native.Nat.{ℕ}
use native.Mathlib.Omega.{arith}
use Rattle.lex.specs.Token.{token_at}
use Rattle.lex.specs.declared.Token.{Token}
use Rattle.vocabulary.specs.declared.Mark.{Mark}
use Rattle.vocabulary.specs.declared.Mark.TheVariants as mark
use Rattle.expressions.specs.Grammar.{number_at}
use Rattle.parts.specs.Reading.{Parsed, ok, stop, and_then, mapped}
use Rattle.parts.specs.Words.{is_name, kind_of, is_default, is_property, is_mark}
use Rattle.parts.specs.Parts.{closed_by, name_at, array_rest_at, array_at, suffix_mark, suffix_at, instance_of, bare, set_suffix, with_suffix, bare_at, spacing_at, suffixed_at, instance_at, parted_at, listed_at, value_in, value_at, property, setting_at, property_word_at, property_at, header_rest_at, header_at}
use Rattle.parts.specs.Ahead.{ahead_at, Stands, Looked, found, refused, looked, placed, starts_spacing, starts_suffix, PartedBy}
use Rattle.expressions.specs.declared.Number.{Number}
use Rattle.parts.specs.declared.Name.{Name}
use Rattle.parts.specs.declared.Ahead.{Ahead}
use Rattle.parts.specs.declared.Array.{Array}
use Rattle.parts.specs.declared.Instance.{Instance}
use Rattle.parts.specs.declared.ListItem.{ListItem}
use Rattle.parts.specs.declared.Value.{Value}
use Rattle.parts.specs.declared.Assignment.{Assignment}
use Rattle.parts.specs.declared.Header.{Header}
use Rattle.parts.specs.declared.Array.TheVariants as array
use Rattle.parts.specs.declared.SuffixKind.{SuffixKind}
use Rattle.parts.specs.declared.SuffixKind.TheVariants.{Reset, Address, Stride, Alignment}
use Rattle.parts.specs.declared.Value.TheVariants as value
use Rattle.parts.specs.declared.Kind.{Kind}
use Rattle.std.specs.Prelude.{Option, Some, None}

-- a reading by `p`, then by `k`
module _ {A B : Type 0} {p : Parsed A} (k : A → ℕ → Parsed B) where
  then_ok : {a : A} {n : ℕ} → ok a n ≡ p → k a n ≡ and_then p k
  unfolding and_then
  then_ok e = rw (← e)

  then_stop : {n q : ℕ} → stop n q ≡ p → stop n q ≡ and_then p k
  unfolding and_then
  then_stop e = rw (← e)

module _ {A B : Type 0} {p : Parsed A} (f : A → B) where
  mapped_ok : {a : A} {n : ℕ} → ok a n ≡ p → ok (f a) n ≡ mapped f p
  unfolding mapped
  mapped_ok e = rw (← e)

  mapped_stop : {n q : ℕ} → stop n q ≡ p → stop n q ≡ mapped f p
  unfolding mapped
  mapped_stop e = rw (← e)

-- a reading with the token behind it, from the reading and back
module _ (t : List ℕ) {A : Type 0} {p : Parsed A} where
  looked_ok : {a : A} {n : ℕ} → ok a n ≡ p → found a (ahead_at t n) ≡ looked t p
  unfolding looked
  looked_ok e = rw (← e)

  looked_stop : {n q : ℕ} → stop n q ≡ p → refused n q ≡ looked t p
  unfolding looked
  looked_stop e = rw (← e)

  looked_then : {B : Type 0} (k : A → ℕ → Parsed B) {a : A} {n : ℕ} {y : Looked B} → ok a n ≡ p → y ≡ looked t (k a n)
      → y ≡ looked t (and_then p k)
  unfolding and_then
  looked_then k e f = rw (← e) f

found_at : (t : List ℕ) {A : Type 0} (p : Parsed A) {a : A} {b : Ahead} → found a b ≡ looked t p → (ok a b.at ≡ p) × Stands t b
unfolding looked ahead_at Stands
found_at t (ok x n) {a} {b} e =
    let f : a ≡ x = cc in
    let g : b ≡ ahead_at t n = cc in
    (rw (f, g), rw g)
found_at t (stop n q) e = absurd (let z : ◌≡◌ {A = ℕ} 0 1 = cc in omega arith)

refused_at_lem : (t : List ℕ) {A : Type 0} (p : Parsed A) {n q : ℕ} → refused n q ≡ looked t p → stop n q ≡ p
unfolding looked
refused_at_lem t (ok x m) e = absurd (let z : ◌≡◌ {A = ℕ} 0 1 = cc in omega arith)
refused_at_lem t (stop m s) {n} {q} e =
    let f : n ≡ m = cc in
    let g : q ≡ s = cc in
    rw (f, g)

-- the token k stands at the cursor
module _ (t : List ℕ) (at : ℕ) {k : Token} (e : k ≡ token_at t at) where
  module _ {r : Bool} (f : r ≡ is_name k.word) where
    pub name_yes : r ≡ true → ok (record { start = k.start; end = k.end }) k.end ≡ name_at t at
    unfolding name_at
    name_yes g = rw (← e, sym f ∙ g)

    pub name_no : r ≡ false → stop 3 k.start ≡ name_at t at
    unfolding name_at
    name_no g = rw (← e, sym f ∙ g)

  -- a mark that has to stand there
  module _ {A : Type 0} (m : Mark) (a : A) {r : Bool} (f : r ≡ is_mark m k.word) where
    pub closed_yes : r ≡ true → ok a k.end ≡ closed_by m a t at
    unfolding closed_by
    closed_yes g = rw (← e, sym f ∙ g)

    pub closed_no : r ≡ false → stop 3 k.start ≡ closed_by m a t at
    unfolding closed_by
    closed_no g = rw (← e, sym f ∙ g)

    pub closed_ahead : {b : Ahead} → r ≡ true → b ≡ ahead_at t k.end → found a b ≡ looked t (closed_by m a t at)
    closed_ahead g h = rw h (looked_ok t (closed_yes g))

    pub closed-refused : r ≡ false → refused 3 k.start ≡ looked t (closed_by m a t at)
    closed-refused g = looked_stop t (closed_no g)

  -- behind the first number of an array
  module _ (p : ℕ) (left : Number) where
    module _ {r : Bool} (f : r ≡ is_mark mark.CloseBracket k.word) where
      pub size_yes : {b : Ahead} → r ≡ true → b ≡ ahead_at t k.end → found (array.Size p left) b ≡ looked t (array_rest_at p left t at)
      unfolding array_rest_at looked
      size_yes g h = rw (h, ← e, sym f ∙ g)

      module _ {s : Bool} (g : r ≡ false) (h : s ≡ is_mark mark.Colon k.word) where
        pub range_no : s ≡ false → refused 3 k.start ≡ looked t (array_rest_at p left t at)
        unfolding array_rest_at looked
        range_no i = rw (← e, sym f ∙ g, sym h ∙ i)

        module _ {x : Parsed Number} (i : s ≡ true) (j : x ≡ number_at t k.end) where
          pub range_stop : {m q : ℕ} → x ≡ stop m q → refused m q ≡ looked t (array_rest_at p left t at)
          unfolding array_rest_at
          range_stop l = rw (← e, sym f ∙ g, sym h ∙ i) (looked_stop t (then_stop _ (rw l at j)))

          pub range_close : {right : Number} {n : ℕ} {y : Looked Array} → x ≡ ok right n
              → y ≡ looked t (closed_by mark.CloseBracket (array.Range p left right) t n) → y ≡ looked t (array_rest_at p left t at)
          unfolding array_rest_at
          range_close l m = rw (← e, sym f ∙ g, sym h ∙ i) (looked_then t _ (rw l at j) m)

  -- a value
  module _ {l : Option Value} (f : l ≡ value_in k.word k.start) where
    pub value_word : {v : Value} → l ≡ Some v → ok v k.end ≡ value_at t at
    unfolding value_at
    value_word g = rw (← e, sym f ∙ g)

    module _ {x : Parsed Number} (g : l ≡ None) (j : x ≡ number_at t at) where
      pub value-number : {number : Number} {n : ℕ} → x ≡ ok number n → ok (value.Number number) n ≡ value_at t at
      unfolding value_at
      value-number h = rw (← e, sym f ∙ g) (mapped_ok _ (rw h at j))

      pub value_stop : {m q : ℕ} → x ≡ stop m q → stop m q ≡ value_at t at
      unfolding value_at
      value_stop h = rw (← e, sym f ∙ g) (mapped_stop _ (rw h at j))

  -- behind a property word
  module _ (d : Bool) (w : Token) {r : Bool} (f : r ≡ is_mark mark.Semicolon k.word) where
    pub setting_alone : {x : Assignment} → r ≡ true → x ≡ property d w value.Missing → ok x k.end ≡ setting_at d w t at
    unfolding setting_at
    setting_alone g h = rw (← e, sym f ∙ g, h)

    module _ {s : Bool} (g : r ≡ false) (h : s ≡ is_mark mark.Equals k.word) where
      pub setting_no : s ≡ false → stop 3 k.start ≡ setting_at d w t at
      unfolding setting_at
      setting_no i = rw (← e, sym f ∙ g, sym h ∙ i)

      module _ {x : Parsed Value} (i : s ≡ true) (j : x ≡ value_at t k.end) where
        pub setting_stop : {m q : ℕ} → x ≡ stop m q → stop m q ≡ setting_at d w t at
        unfolding setting_at
        setting_stop l = rw (← e, sym f ∙ g, sym h ∙ i) (then_stop _ (rw l at j))

        pub setting_close : {v : Value} {n : ℕ} {z : Assignment} {y : Parsed Assignment} → x ≡ ok v n → z ≡ property d w v
            → y ≡ closed_by mark.Semicolon z t n → y ≡ setting_at d w t at
        unfolding setting_at
        setting_close l m o = rw (← e, sym f ∙ g, sym h ∙ i) ((rw m at o) ∙ then_ok _ (rw l at j))

  -- a property statement
  module _ (d : Bool) {r : Bool} (f : r ≡ is_property k.word) where
    pub word_yes : {y : Parsed Assignment} → r ≡ true → y ≡ setting_at d k t k.end → y ≡ property_word_at d t at
    unfolding property_word_at
    word_yes g h = rw (← e, sym f ∙ g) h

    pub word_no : r ≡ false → stop 3 k.start ≡ property_word_at d t at
    unfolding property_word_at
    word_no g = rw (← e, sym f ∙ g)

  module _ {r : Bool} (f : r ≡ is_default k.word) where
    pub property_default : {y : Parsed Assignment} → r ≡ true → y ≡ property_word_at true t k.end → y ≡ property_at t at
    unfolding property_at
    property_default g h = rw (← e, sym f ∙ g) h

    pub property_own : {y : Parsed Assignment} → r ≡ false → y ≡ property_word_at false t at → y ≡ property_at t at
    unfolding property_at
    property_own g h = rw (← e, sym f ∙ g) h

  -- a definition's head
  module _ (c : Kind) (p : ℕ) {r : Bool} (f : r ≡ is_mark mark.OpenBrace k.word) where
    pub header_unnamed : r ≡ true → ok (record { kind = c; place = p; name = None; brace = k.start }) k.end ≡ header_rest_at c p t at
    unfolding header_rest_at
    header_unnamed g = rw (← e, sym f ∙ g)

    module _ {n : Bool} (g : r ≡ false) (h : n ≡ is_name k.word) where
      pub header_no : n ≡ false → stop 3 k.start ≡ header_rest_at c p t at
      unfolding header_rest_at
      header_no i = rw (← e, sym f ∙ g, sym h ∙ i)

      module _ {b : Token} {s : Bool} (i : n ≡ true) (j : b ≡ token_at t k.end) (l : s ≡ is_mark mark.OpenBrace b.word) where
        pub header_named : s ≡ true → ok (record { kind = c; place = p; name = Some (record { start = k.start; end = k.end }); brace = b.start }) b.end ≡ header_rest_at c p t at
        unfolding header_rest_at
        header_named m = rw (← e, sym f ∙ g, sym h ∙ i, ← j, sym l ∙ m)

        pub header_braceless : s ≡ false → stop 3 b.start ≡ header_rest_at c p t at
        unfolding header_rest_at
        header_braceless m = rw (← e, sym f ∙ g, sym h ∙ i, ← j, sym l ∙ m)

  module _ {l : Option Kind} (f : l ≡ kind_of k.word) where
    pub header_kind : {c : Kind} {y : Parsed Header} → l ≡ Some c → y ≡ header_rest_at c k.start t k.end → y ≡ header_at t at
    unfolding header_at
    header_kind g h = rw (← e, sym f ∙ g) h

    pub header_other : l ≡ None → stop 3 k.start ≡ header_at t at
    unfolding header_at
    header_other g = rw (← e, sym f ∙ g)

-- an instance of a list, by the token behind it
module _ (i : Instance) (k : Token) {r : Bool} (f : r ≡ is_mark mark.Semicolon k.word) where
  pub parted_last : r ≡ true → PartedBy i k (ok (record { instance = i; last = true }) k.end)
  unfolding parted_at
  parted_last g = record { parted = λ t at e. rw (← e, sym f ∙ g) }

  module _ {s : Bool} (g : r ≡ false) (h : s ≡ is_mark mark.Comma k.word) where
    pub parted_more : s ≡ true → PartedBy i k (ok (record { instance = i; last = false }) k.end)
    unfolding parted_at
    parted_more j = record { parted = λ t at e. rw (← e, sym f ∙ g, sym h ∙ j) }

    pub parted_no : s ≡ false → PartedBy i k (stop 3 k.start)
    unfolding parted_at
    parted_no j = record { parted = λ t at e. rw (← e, sym f ∙ g, sym h ∙ j) }

-- the token ahead stands at its cursor
module _ (t : List ℕ) (b : Ahead) (e : Stands t b) where
  pub stands_token : b.token ≡ token_at t b.at
  unfolding Stands ahead_at
  stands_token = ap (λ x. x.token) e

  still : {A : Type 0} (a : A) → found a b ≡ looked t (ok a b.at)
  unfolding Stands looked
  still a = ap (found a) e

  -- an optional array
  module _ {r : Bool} (f : r ≡ is_mark mark.OpenBracket b.token.word) where
    pub array_none : r ≡ false → found array.Missing b ≡ looked t (array_at t b.at)
    unfolding array_at
    array_none g = rw (← stands_token, sym f ∙ g) (still array.Missing)

    module _ {x : Parsed Number} (g : r ≡ true) (j : x ≡ number_at t b.token.end) where
      pub array_stop : {m q : ℕ} → x ≡ stop m q → refused m q ≡ looked t (array_at t b.at)
      unfolding array_at
      array_stop l = rw (← stands_token, sym f ∙ g) (looked_stop t (then_stop _ (rw l at j)))

      pub array_rest : {left : Number} {n : ℕ} {y : Looked Array} → x ≡ ok left n
          → y ≡ looked t (array_rest_at b.token.start left t n) → y ≡ looked t (array_at t b.at)
      unfolding array_at
      array_rest l m = rw (← stands_token, sym f ∙ g) (looked_then t _ (rw l at j) m)

  -- an optional suffix
  module _ (s : SuffixKind) {m : Mark} {r : Bool} (d : m ≡ suffix_mark s) (f : r ≡ is_mark m b.token.word) where
    pub suffix_none : r ≡ false → found None b ≡ looked t (suffix_at s t b.at)
    unfolding suffix_at
    suffix_none g = rw (← stands_token, ← d, sym f ∙ g) (still None)

    module _ {x : Parsed Number} (g : r ≡ true) (j : x ≡ number_at t b.token.end) where
      pub suffix_stop : {m q : ℕ} → x ≡ stop m q → refused m q ≡ looked t (suffix_at s t b.at)
      unfolding suffix_at
      suffix_stop l = rw (← stands_token, ← d, sym f ∙ g) (looked_stop t (mapped_stop _ (rw l at j)))

      pub suffix_given : {number : Number} {n : ℕ} {c : Ahead} → x ≡ ok number n → c ≡ ahead_at t n
          → found (Some (b.token.start, number)) c ≡ looked t (suffix_at s t b.at)
      unfolding suffix_at
      suffix_given l h = rw (h, ← stands_token, ← d, sym f ∙ g) (looked_ok t (mapped_ok _ (rw l at j)))

-- what was looked at stands there
module _ (t : List ℕ) where
  pub look_at : (at : ℕ) {k : Token} → k ≡ token_at t at → record { at = at; token = k } ≡ ahead_at t at
  unfolding ahead_at
  look_at at e = rw e

  pub look_stands : (at : ℕ) {b : Ahead} → b ≡ ahead_at t at → Stands t b
  unfolding Stands ahead_at
  look_stands at e = rw e

  pub array_stands : (at : ℕ) {x : Looked Array} {a : Array} {b : Ahead} → x ≡ looked t (array_at t at)
      → x ≡ found a b → Stands t b
  array_stands at e f = (found_at t (array_at t at) (rw f at e)).1

  pub suffix_stands : (s : SuffixKind) (at : ℕ) {x : Looked (Option (ℕ × Number))} {a : Option (ℕ × Number)} {b : Ahead} → x ≡ looked t (suffix_at s t at)
      → x ≡ found a b → Stands t b
  suffix_stands s at e f = (found_at t (suffix_at s t at) (rw f at e)).1

neither : (a b : Bool) → (a || b) ≡ false → (a ≡ false) × (b ≡ false)
neither false false e = (refl, refl)
neither false true e = absurd (let z : ◌≡◌ {A = ℕ} 0 1 = cc in omega arith)
neither true b e = absurd (let z : ◌≡◌ {A = ℕ} 0 1 = cc in omega arith)

-- the suffixes of an instance, one behind another
module _ (t : List ℕ) (m : Name) (a : Array) (at : ℕ) where
  module _ {x : Looked (Option (ℕ × Number))} (e : x ≡ looked t (suffix_at Reset t at)) where
    pub reset_stop : {n q : ℕ} → x ≡ refused n q → refused n q ≡ looked t (suffixed_at t (ok (bare m a) at))
    unfolding with_suffix and_then mapped looked
    reset_stop f = rw (← refused_at_lem t (suffix_at Reset t at) (rw f at e))

    module _ {r : Option (ℕ × Number)} {first : Ahead} {y : Looked (Option (ℕ × Number))} (f : x ≡ found r first)
        (g : y ≡ looked t (suffix_at Address t first.at)) where
      pub address_stop : {n q : ℕ} → y ≡ refused n q → refused n q ≡ looked t (suffixed_at t (ok (bare m a) at))
      unfolding with_suffix and_then mapped looked
      address_stop h = rw (← (found_at t (suffix_at Reset t at) (rw f at e)).0, ← refused_at_lem t (suffix_at Address t first.at) (rw h at g))

      pub address_done : {d : Option (ℕ × Number)} {second : Ahead} {z : Looked Instance} → y ≡ found d second
          → z ≡ looked t (spacing_at t (ok (placed m a r d) second.at)) → z ≡ looked t (suffixed_at t (ok (bare m a) at))
      unfolding with_suffix and_then mapped set_suffix
      address_done h i =
          rw (← (found_at t (suffix_at Reset t at) (rw f at e)).0, ← (found_at t (suffix_at Address t first.at) (rw h at g)).0) i

  module _ (r d : Option (ℕ × Number)) {x : Looked (Option (ℕ × Number))} (e : x ≡ looked t (suffix_at Stride t at)) where
    pub stride_stop : {n q : ℕ} → x ≡ refused n q → refused n q ≡ looked t (spacing_at t (ok (placed m a r d) at))
    unfolding with_suffix and_then mapped looked
    stride_stop f = rw (← refused_at_lem t (suffix_at Stride t at) (rw f at e))

    module _ {s : Option (ℕ × Number)} {first : Ahead} {y : Looked (Option (ℕ × Number))} (f : x ≡ found s first)
        (g : y ≡ looked t (suffix_at Alignment t first.at)) where
      pub alignment_stop : {n q : ℕ} → y ≡ refused n q → refused n q ≡ looked t (spacing_at t (ok (placed m a r d) at))
      unfolding with_suffix and_then mapped looked
      alignment_stop h =
          rw (← (found_at t (suffix_at Stride t at) (rw f at e)).0, ← refused_at_lem t (suffix_at Alignment t first.at) (rw h at g))

      pub alignment_done : {l : Option (ℕ × Number)} {last : Ahead} {w : Instance} → y ≡ found l last → w ≡ instance_of m a r d s l
          → found w last ≡ looked t (spacing_at t (ok (placed m a r d) at))
      unfolding with_suffix and_then mapped set_suffix
      alignment_done {l = l} {last = last} h i =
          let behind = found_at t (suffix_at Alignment t first.at) (rw h at g) in
          rw (i, ← (found_at t (suffix_at Stride t at) (rw f at e)).0, ← behind.0) (still t last behind.1 (instance_of m a r d s l))

-- where the token ahead begins none, nothing is read
module _ (t : List ℕ) (m : Name) (a : Array) (b : Ahead) (e : Stands t b) where
  pub spacing_none : (r d : Option (ℕ × Number)) {s : Bool} {i : Instance} → s ≡ starts_spacing b.token.word → s ≡ false → i ≡ placed m a r d
      → found i b ≡ looked t (spacing_at t (ok (placed m a r d) b.at))
  unfolding starts_spacing with_suffix suffix_at set_suffix and_then mapped
  spacing_none r d f g h =
      let w = (token_at t b.at).word in
      let none = neither (is_mark mark.PlusEquals w) (is_mark mark.PercentEquals w) (rw (stands_token t b e) at (sym f ∙ g)) in
      rw (h, none.0, none.1) (still t b e (placed m a r d))

  pub suffixes_none : {s : Bool} {i : Instance} → s ≡ starts_suffix b.token.word → s ≡ false → i ≡ bare m a
      → found i b ≡ looked t (suffixed_at t (ok (bare m a) b.at))
  unfolding starts_suffix starts_spacing with_suffix suffix_at set_suffix and_then mapped
  suffixes_none f g h =
      let w = (token_at t b.at).word in
      let reset = neither (is_mark mark.Equals w) (is_mark mark.At w || starts_spacing w) (rw (stands_token t b e) at (sym f ∙ g)) in
      let address = neither (is_mark mark.At w) (starts_spacing w) reset.1 in
      let spacing = neither (is_mark mark.PlusEquals w) (is_mark mark.PercentEquals w) address.1 in
      rw (h, reset.0, address.0, spacing.0, spacing.1) (still t b e (bare m a))

-- a reading that becomes part of a larger one
module _ (t : List ℕ) where
  module _ (m : Name) (at : ℕ) {b : Ahead} {x : Looked Array} (e : b ≡ ahead_at t at) (f : x ≡ looked t (array_at t b.at)) where
    pub named_stop : {n q : ℕ} → x ≡ refused n q → refused n q ≡ looked t (suffixed_at t (mapped (bare m) (array_at t at)))
    unfolding with_suffix and_then mapped looked ahead_at
    named_stop g = rw (← refused_at_lem t (array_at t at) (rw (e, g) at f))

    pub named_done : {a : Array} {c : Ahead} {y : Looked Instance} → x ≡ found a c
        → y ≡ looked t (suffixed_at t (ok (bare m a) c.at)) → y ≡ looked t (suffixed_at t (mapped (bare m) (array_at t at)))
    unfolding mapped ahead_at
    named_done g h = rw (← (found_at t (array_at t at) (rw (e, g) at f)).0) h

  module _ (at : ℕ) {x : Parsed Name} (e : x ≡ name_at t at) where
    pub name_stop : {n q : ℕ} → x ≡ stop n q → refused n q ≡ looked t (instance_at t at)
    unfolding instance_at bare_at with_suffix and_then looked
    name_stop f = rw (← e, f)

    pub name_done : {m : Name} {n : ℕ} {y : Looked Instance} → x ≡ ok m n
        → y ≡ looked t (suffixed_at t (mapped (bare m) (array_at t n))) → y ≡ looked t (instance_at t at)
    unfolding instance_at bare_at and_then
    name_done f g = rw (← e, f) g

  module _ (at : ℕ) {x : Looked Instance} (e : x ≡ looked t (instance_at t at)) where
    pub instance_stop : {n q : ℕ} → x ≡ refused n q → stop n q ≡ instance_at t at
    instance_stop f = refused_at_lem t (instance_at t at) (rw f at e)

    pub instance_done : {i : Instance} {b : Ahead} → x ≡ found i b → ok i b.at ≡ instance_at t at
    instance_done f = (found_at t (instance_at t at) (rw f at e)).0

    pub listed_stop : {n q : ℕ} → x ≡ refused n q → stop n q ≡ listed_at t at
    unfolding listed_at
    listed_stop f = then_stop _ (instance_stop f)

    pub listed_more : {i : Instance} {b : Ahead} {y : Parsed ListItem} → x ≡ found i b → PartedBy i b.token y
        → y ≡ listed_at t at
    unfolding listed_at
    listed_more {b = b} f g =
        let behind = found_at t (instance_at t at) (rw f at e) in
        g.parted t b.at (stands_token t b behind.1) ∙ then_ok _ behind.0

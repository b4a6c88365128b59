-- The parts of sentences (document 01, "Sentences"), each as a reader of the text at a cursor.
use Rattle.std.specs.Prelude.{Bool, true, false, ◌&&◌, List, ℕ, Option, Some, None, is_some}
use Rattle.std.specs.Prelude.{if◌then◌else◌}
use Rattle.lex.specs.Token.{token_at}
use Rattle.lex.specs.declared.Token.{Token}
use Rattle.lex.specs.declared.Word.{Word}
use Rattle.lex.specs.declared.Word.TheVariants as word
use Rattle.vocabulary.specs.declared.Mark.{Mark}
use Rattle.vocabulary.specs.declared.Mark.TheVariants as mark
use Rattle.parts.specs.Reading.{Parsed, ok, and_then, mapped, unexpected}
use Rattle.parts.specs.Words.{role_of, role_value, is_name, kind_of, is_default, is_property, is_mark}
use Rattle.expressions.specs.Grammar.{number_at}
use Rattle.expressions.specs.declared.Number.{Number}
use Rattle.parts.specs.declared.Name.{Name}
use Rattle.parts.specs.declared.Array.{Array}
use Rattle.parts.specs.declared.Array.TheVariants as array
use Rattle.parts.specs.declared.SuffixKind.{SuffixKind}
use Rattle.parts.specs.declared.SuffixKind.TheVariants.{Reset, Address, Stride, Alignment}
use Rattle.parts.specs.declared.Instance.{Instance}
use Rattle.parts.specs.declared.ListItem.{ListItem}
use Rattle.parts.specs.declared.Value.{Value}
use Rattle.parts.specs.declared.Value.TheVariants as value
use Rattle.parts.specs.declared.Assignment.{Assignment}
use Rattle.parts.specs.declared.Kind.{Kind}
use Rattle.parts.specs.declared.Header.{Header}

-- a mark that has to stand there, behind something that was read
unfoldable pub closed_by : {A : Type 0} → Mark → A → List ℕ → ℕ → Parsed A
closed_by m a text at = let k = token_at text at in if is_mark m k.word then ok a k.end else unexpected k

-- a name
unfoldable pub name_at : List ℕ → ℕ → Parsed Name
name_at text at =
    let k = token_at text at in
    if is_name k.word then ok (record { start = k.start; end = k.end }) k.end else unexpected k

-- behind `[`, which stands at the place `p`, and a number: `]`, or `:` and a second number and `]`
unfoldable pub array_rest_at : ℕ → Number → List ℕ → ℕ → Parsed Array
array_rest_at p left text at =
    let k = token_at text at in
    if is_mark mark.CloseBracket k.word then ok (array.Size p left) k.end else
    if is_mark mark.Colon k.word then and_then (number_at text k.end) (λ right next. closed_by mark.CloseBracket (array.Range p left right) text next) else
    unexpected k

-- "optionally `[n]` or `[left:right]`"
unfoldable pub array_at : List ℕ → ℕ → Parsed Array
array_at text at =
    let k = token_at text at in
    if is_mark mark.OpenBracket k.word then and_then (number_at text k.end) (λ left next. array_rest_at k.start left text next) else
    ok array.Missing at

-- "`= n`, `@ n`, `+= n`, `%= n`"
abbrev pub suffix_mark : SuffixKind → Mark
suffix_mark Reset = mark.Equals
suffix_mark Address = mark.At
suffix_mark Stride = mark.PlusEquals
suffix_mark Alignment = mark.PercentEquals

unfoldable pub suffix_at : SuffixKind → List ℕ → ℕ → Parsed (Option (ℕ × Number))
suffix_at s text at =
    let k = token_at text at in
    if is_mark (suffix_mark s) k.word then mapped (λ n. Some (k.start, n)) (number_at text k.end) else
    ok None at

-- an instance of its parts: name, array, reset, address, stride, alignment
abbrev pub instance_of : Name → Array → Option (ℕ × Number) → Option (ℕ × Number) → Option (ℕ × Number) → Option (ℕ × Number) → Instance
instance_of n a r d s l = record { name = n; array = a; reset = r; address = d; stride = s; alignment = l }

-- an instance with no suffix yet
abbrev pub bare : Name → Array → Instance
bare n a = instance_of n a None None None None

unfoldable pub set_suffix : SuffixKind → Option (ℕ × Number) → Instance → Instance
set_suffix Reset s i = instance_of i.name i.array s i.address i.stride i.alignment
set_suffix Address s i = instance_of i.name i.array i.reset s i.stride i.alignment
set_suffix Stride s i = instance_of i.name i.array i.reset i.address s i.alignment
set_suffix Alignment s i = instance_of i.name i.array i.reset i.address i.stride s

-- an instance so far, and one suffix more
unfoldable pub with_suffix : SuffixKind → List ℕ → Parsed Instance → Parsed Instance
with_suffix s text p = and_then p (λ i next. mapped (λ x. set_suffix s x i) (suffix_at s text next))

-- a name and its optional array
unfoldable pub bare_at : List ℕ → ℕ → Parsed Instance
bare_at text at = and_then (name_at text at) (λ n next. mapped (bare n) (array_at text next))

-- behind what was read of an instance: `+=` and `%=`; before them `=` and `@`
abbrev pub spacing_at : List ℕ → Parsed Instance → Parsed Instance
spacing_at text p = with_suffix Alignment text (with_suffix Stride text p)

abbrev pub suffixed_at : List ℕ → Parsed Instance → Parsed Instance
suffixed_at text p = spacing_at text (with_suffix Address text (with_suffix Reset text p))

-- "An instance is a name, then optionally .., in that order"
unfoldable pub instance_at : List ℕ → ℕ → Parsed Instance
instance_at text at = suffixed_at text (bare_at text at)

-- behind an instance: "parted by commas", and `;` behind the last
unfoldable pub parted_at : Instance → List ℕ → ℕ → Parsed ListItem
parted_at i text at =
    let k = token_at text at in
    if is_mark mark.Semicolon k.word then ok (record { instance = i; last = true }) k.end else
    if is_mark mark.Comma k.word then ok (record { instance = i; last = false }) k.end else
    unexpected k

unfoldable pub listed_at : List ℕ → ℕ → Parsed ListItem
listed_at text at = and_then (instance_at text at) (λ i next. parted_at i text next)

-- a string, `true`, `false` or a word of the lists
abbrev pub value_in : Word → ℕ → Option Value
value_in word.End p = None
value_in word.Name p = None
value_in (word.Keyword k) p = if role_value (role_of k) then Some (value.Word k p) else None
value_in (word.Number n) p = None
value_in word.String p = Some (value.String p)
value_in (word.Mark m) p = None
value_in (word.Bad c) p = None

abbrev pub value_or : Option Value → ℕ → Parsed Value → Parsed Value
value_or (Some v) e number = ok v e
value_or None e number = number

-- "A value is a number, string, `true`, `false`, or one word of the access, effect or addressing lists"
unfoldable pub value_at : List ℕ → ℕ → Parsed Value
value_at text at = let k = token_at text at in value_or (value_in k.word k.start) k.end (mapped value.Number (number_at text at))

abbrev pub property : Bool → Token → Value → Assignment
property d k v = record { defaulted = d; start = k.start; end = k.end; value = v }

-- behind a property word: "optional `=` value, `;`"
unfoldable pub setting_at : Bool → Token → List ℕ → ℕ → Parsed Assignment
setting_at d w text at =
    let k = token_at text at in
    if is_mark mark.Semicolon k.word then ok (property d w value.Missing) k.end else
    if is_mark mark.Equals k.word then and_then (value_at text k.end) (λ v next. closed_by mark.Semicolon (property d w v) text next) else
    unexpected k

-- a property word and what follows
unfoldable pub property_word_at : Bool → List ℕ → ℕ → Parsed Assignment
property_word_at d text at = let k = token_at text at in if is_property k.word then setting_at d k text k.end else unexpected k

-- "property statements (`default` if wished, property, optional `=` value, `;`)"
unfoldable pub property_at : List ℕ → ℕ → Parsed Assignment
property_at text at =
    let k = token_at text at in
    if is_default k.word then property_word_at true text k.end else property_word_at false text at

-- behind a kind word: "an optional name", and `{`
unfoldable pub header_rest_at : Kind → ℕ → List ℕ → ℕ → Parsed Header
header_rest_at c p text at =
    let k = token_at text at in
    let b = token_at text k.end in
    if is_mark mark.OpenBrace k.word then ok (record { kind = c; place = p; name = None; brace = k.start }) k.end else
    if is_name k.word then
    (if is_mark mark.OpenBrace b.word then ok (record { kind = c; place = p; name = Some (record { start = k.start; end = k.end }); brace = b.start }) b.end else
    unexpected b) else
    unexpected k

abbrev pub header_of : Option Kind → Token → List ℕ → Parsed Header
header_of (Some c) k text = header_rest_at c k.start text k.end
header_of None k text = unexpected k

-- "A definition is a kind word, an optional name, a body in braces": up to the opening brace
unfoldable pub header_at : List ℕ → ℕ → Parsed Header
header_at text at = let k = token_at text at in header_of (kind_of k.word) k text

abbrev pub is_named : Option Name → Bool
is_named name = is_some name

-- "instance statements (type name, instances, `;`)" begin with two names
unfoldable pub starts_instances : List ℕ → ℕ → Bool
starts_instances text at = let k = token_at text at in is_name k.word && is_name (token_at text k.end).word

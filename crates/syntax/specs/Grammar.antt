-- The grammar of document 01, "Sentences", as a reader of the text at a cursor: a piece of the syntax tree and the cursor past it, or
-- the refusal. A reader that repeats takes a number of turns; one more than the text has bytes is enough, since each turn moves the
-- cursor on. (What a `let` binds is computed only where it is used.)
use Rattle.std.specs.Prelude.{Bool, ◌&&◌, List, [], ◌∷◌, ℕ, zero, suc, length}
use Rattle.std.specs.Prelude.{if◌then◌else◌}
use Rattle.lex.specs.Token.{token_at}
use Rattle.vocabulary.specs.declared.Mark.TheVariants as mark
use Rattle.parts.specs.Reading.{Parsed, ok, stop, and_then, mapped}
use Rattle.parts.specs.Words.{is_kind, is_mark, is_end}
use Rattle.parts.specs.Parts.{name_at, listed_at, property_at, header_at, is_named, starts_instances}
use Rattle.parts.specs.declared.Instance.{Instance}
use Rattle.parts.specs.declared.Header.{Header}
use Rattle.basics.specs.Limits.{body_limit}
use Rattle.syntax.specs.Tree.{Elem, definition, instances, property, Body, close, more}

-- "instances are parted by commas", and `;` ends them
unfoldable pub instances_from : ℕ → List ℕ → ℕ → Parsed (List Instance)
instances_from zero text at = stop 3 at
instances_from (suc turns) text at =
    and_then (listed_at text at) (λ l next.
    let rest = mapped (λ is. l.instance ∷ is) (instances_from turns text next) in
    if l.last then ok (l.instance ∷ []) next else rest)

unfoldable pub instances_at : List ℕ → ℕ → Parsed (List Instance)
instances_at text at = instances_from (suc (length text)) text at

-- "instance statements (type name, instances, `;`)"
unfoldable pub instance_statement_at : List ℕ → ℕ → Parsed Elem
instance_statement_at text at = and_then (name_at text at) (λ n next. mapped (instances n) (instances_at text next))

-- a statement that opens no body: two names begin an instance statement, anything else a property statement
unfoldable pub statement_at : List ℕ → ℕ → Parsed Elem
statement_at text at = if starts_instances text at then instance_statement_at text at else mapped property (property_at text at)

-- behind a definition's body: "optional instances, `;`; without a name it needs instances"
unfoldable pub tail_at : Bool → List ℕ → ℕ → Parsed (List Instance)
tail_at named text at =
    let k = token_at text at in
    if named && is_mark mark.Semicolon k.word then ok [] k.end else instances_at text at

-- an element of a body, with a reader of definitions
unfoldable pub element_at : (ℕ → Parsed Elem) → List ℕ → ℕ → Parsed Elem
element_at definition_from text at = if is_kind (token_at text at).word then definition_from at else statement_at text at

-- "A body holds definitions": its elements up to the closing brace, with a reader of definitions
unfoldable pub elements_at : (ℕ → Parsed Elem) → ℕ → List ℕ → ℕ → Parsed Body
elements_at definition_from zero text at = stop 3 at
elements_at definition_from (suc turns) text at =
    let k = token_at text at in
    let rest = and_then (element_at definition_from text at) (λ e next. mapped (more e) (elements_at definition_from turns text next)) in
    if is_mark mark.CloseBrace k.word then ok (close k.start) k.end else rest

-- "and a definition holds a body": with a reader of what stands behind the opening brace
unfoldable pub definition_with : (Header → ℕ → Parsed Body) → List ℕ → ℕ → Parsed Elem
definition_with body_from text at =
    and_then (header_at text at) (λ h inside.
    and_then (body_from h inside) (λ b next.
    mapped (definition h b) (tail_at (is_named h.name) text next)))

-- a definition where so many bodies may still be opened: one more is 18 at its brace
unfoldable pub definition_at : ℕ → List ℕ → ℕ → Parsed Elem
definition_at zero text at = definition_with (λ h inside. stop 18 h.brace) text at
definition_at (suc bodies) text at =
    definition_with (λ h inside. elements_at (definition_at bodies text) (suc (length text)) text inside) text at

-- a body, behind its opening brace, where so many more may be opened inside
unfoldable pub body_at : ℕ → List ℕ → ℕ → Parsed Body
body_at bodies text at = elements_at (definition_at bodies text) (suc (length text)) text at

-- "A file is a run of definitions"
unfoldable pub definitions_from : ℕ → List ℕ → ℕ → Parsed Body
definitions_from zero text at = stop 3 at
definitions_from (suc turns) text at =
    let k = token_at text at in
    let rest = and_then (definition_at body_limit text at) (λ e next. mapped (more e) (definitions_from turns text next)) in
    if is_end k.word then ok (close k.start) k.end else rest

unfoldable pub file_at : List ℕ → Parsed Body
file_at text = definitions_from (suc (length text)) text 0

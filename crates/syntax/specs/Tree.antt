-- The syntax tree of a text.
use Rattle.std.specs.Prelude.{ℕ, List}
use Rattle.parts.specs.declared.Name.{Name}
use Rattle.parts.specs.declared.Instance.{Instance}
use Rattle.parts.specs.declared.Assignment.{Assignment}
use Rattle.parts.specs.declared.Header.{Header}

mutual
  -- what a body holds: a definition with its body and its instances, an instance statement with its type's name, a property statement
  pub data Elem : Type 0 where
    definition : Header → Body → List Instance → Elem
    instances : Name → List Instance → Elem
    property : Assignment → Elem

  -- the elements of a body in order, and the place of its closing brace; of a file, the text's end
  pub data Body : Type 0 where
    close : ℕ → Body
    more : Elem → Body → Body

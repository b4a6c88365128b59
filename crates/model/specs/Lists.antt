-- Lists of accesses: the table of actions, the store and the answers (document 01, "Demand 3").
use Rattle.std.specs.Prelude.{◌≡◌, Bool, true, List, [], ◌∷◌, ◌++◌, ℕ, ◌<◌, eqb, length, drop, get_or}
use Rattle.std.specs.Prelude.{if◌then◌else◌}
use Rattle.actions.specs.declared.Action.{Action}
use Rattle.actions.specs.declared.Action.TheVariants.{Kept}
use Rattle.actions.specs.Actions.{followed_by, apply}
use Rattle.model.specs.declared.View.{View}
use Rattle.model.specs.declared.Access.{Access}
use Rattle.model.specs.Model.{Device, size, fits, bit_action, answered, after, answer_from, bits_of, view_in}
use Rattle.basics.specs.Judged.{Outcome}

-- what the views of number f do to its bit i, one after another, t being done before
unfoldable pub action_from : Access → List View → Action → ℕ → ℕ → Action
action_from x [] t f i = t
action_from x (c ∷ cs) t f i = action_from x cs (if eqb c.index f then followed_by t (bit_action x c i) else t) f i

-- what an access does to bit i of number f: "A refused access (23 or 25) leaves it"
abbrev pub action : Device → Access → ℕ → ℕ → Action
action d x f i = if answered d x then action_from x d.views Kept f i else Kept

-- "An answered one lets each action be followed by what it does to that bit"
unfoldable pub table_from : Device → List Access → Action → ℕ → ℕ → Action
table_from d [] t f i = t
table_from d (x ∷ xs) t f i = table_from d xs (followed_by t (action d x f i)) f i

-- "The table of actions is fed the map and the accesses, no store, no answers. It holds one action per stored bit, kept at first"
abbrev pub table : Device → List Access → ℕ → ℕ → Action
table d xs f i = table_from d xs Kept f i

-- each access gets the store that the last one left
unfoldable pub run : Device → List Access → List ℕ → List ℕ
run d [] s = s
run d (x ∷ xs) s = run d xs (after d x s)

-- the answers of a list, one for each access
unfoldable pub answers : Device → List Access → List ℕ → List (Outcome ℕ)
answers d [] s = []
answers d (x ∷ xs) s = answer_from d x (bits_of s) ∷ answers d xs (after d x s)

-- bit i of number f is a stored bit
pub record Stored (m : List ℕ) (f i : ℕ) : Type 0 where
  pub row : f < length m
  pub place : i < get_or m f 0

-- bit i of view k is a bit of its number
pub record Shown (cs : List View) (k i : ℕ) : Type 0 where
  pub row : k < length cs
  pub place : i < size (view_in cs k)

-- "A read answers by its rule from the starting bits under the actions before it": the answers of a list, `done` being the accesses before it
unfoldable pub answers_under : Device → List Access → List Access → (ℕ → ℕ → Bool) → List (Outcome ℕ)
answers_under d done [] b = []
answers_under d done (x ∷ xs) b = answer_from d x (λ f i. apply (table d done f i) (b f i)) ∷ answers_under d (done ++ (x ∷ [])) xs b

-- "Demand 3 is one claim on the whole list": of the store and the answers afterwards, from the device, the list and the starting store, that
-- "each stored bit is the starting one under its action, and the store fits", that "numbers past the last row are never .. changed", and
-- that each answer is the one that the starting bits and the table give
pub record WholeList (d : Device) (xs : List Access) (start end : List ℕ) (given : List (Outcome ℕ)) : Type 0 where
  pub fitting : fits d.sizes end ≡ true
  pub bits : (f i : ℕ) → Stored d.sizes f i → bits_of end f i ≡ apply (table d xs f i) (bits_of start f i)
  pub past : drop (length d.sizes) end ≡ drop (length d.sizes) start
  pub answering : given ≡ answers_under d [] xs (bits_of start)

-- What an access does to one stored bit: "kept, cleared, set, inverted" (document 01, "Reading and writing").
use Rattle.std.specs.Prelude.{Bool, true, false, not, ℕ, eqb}
use Rattle.std.specs.Prelude.{if◌then◌else◌}
use Rattle.fields.specs.Codes.{read_code, write_code}
use Rattle.fields.specs.declared.ReadEffect.TheVariants as onread
use Rattle.fields.specs.declared.WriteEffect.TheVariants as onwrite
use Rattle.actions.specs.declared.Action.{Action}
use Rattle.actions.specs.declared.Action.TheVariants.{Kept, Cleared, Set, Inverted}

-- the bit under the action
abbrev pub apply : Action → Bool → Bool
apply Kept b = b
apply Cleared b = false
apply Set b = true
apply Inverted b = not b

abbrev pub inverse : Action → Action
inverse Kept = Inverted
inverse Cleared = Set
inverse Set = Cleared
inverse Inverted = Kept

-- "kept changes nothing, cleared and set replace, inverted swaps kept with inverted, cleared with set"
abbrev pub followed_by : Action → Action → Action
followed_by a Kept = a
followed_by a Cleared = Cleared
followed_by a Set = Set
followed_by a Inverted = inverse a

-- an action on 1 alone, an action on 0 alone
abbrev pub on_one : Bool → Action → Action
on_one true a = a
on_one false a = Kept

abbrev pub on_zero : Bool → Action → Action
on_zero b a = on_one (not b) a

-- "plain copies": "Plain counts as set or clear by the word"
abbrev pub copied : Bool → Action
copied true = Set
copied false = Cleared

-- "`woset`, `woclr`, `wot` set, clear, invert on 1; `wzs`, `wzc`, `wzt` on 0; `wclr`, `wset` always"
unfoldable pub write_action : ℕ → Bool → Action
write_action code b =
    if eqb code (write_code onwrite.Woset) then on_one b Set else
    if eqb code (write_code onwrite.Woclr) then on_one b Cleared else
    if eqb code (write_code onwrite.Wot) then on_one b Inverted else
    if eqb code (write_code onwrite.Wzs) then on_zero b Set else
    if eqb code (write_code onwrite.Wzc) then on_zero b Cleared else
    if eqb code (write_code onwrite.Wzt) then on_zero b Inverted else
    if eqb code (write_code onwrite.Wclr) then Cleared else
    if eqb code (write_code onwrite.Wset) then Set else
    copied b

-- "`rclr` clears and `rset` sets the reached bits"
unfoldable pub read_action : ℕ → Action
read_action code =
    if eqb code (read_code onread.Rclr) then Cleared else
    if eqb code (read_code onread.Rset) then Set else
    Kept

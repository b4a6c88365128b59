-- A field has no size, a register that of its width, and a group the one that its instances make.
use borrow.Author.Rules.{rules}
use Rattle.sizes.proofs.Laws.{ready_low, group_row, shape_field, shape_register}
use Rattle.sizes.proofs.shape_of.Goals as goal

pub component_at-requires : goal.component_at-requires
component_at-requires c = search (rules, ready_low)

pub group_shape-requires : goal.group_shape-requires
group_shape-requires c = (c.requires.0, c.requires.1, c.requires.2, group_row _ _ c.component_at.ensures c.in-Regfile.is)

pub returns-in-Field : goal.returns-in-Field
returns-in-Field c = search shape_field

pub returns-in-Register : goal.returns-in-Register
returns-in-Register c = search shape_register

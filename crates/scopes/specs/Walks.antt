-- How what the code knows changes from place to place.
use Rattle.std.specs.Prelude.{List, ℕ, ◌+◌, ◌-◌, ◌*◌, eqb, Option, Some, None}
use Rattle.std.specs.Prelude.{if◌then◌else◌}
use Rattle.parts.specs.Reading.{Parsed, ok, stop}
use Rattle.parts.specs.declared.Kind.{Kind}
use Rattle.parts.specs.declared.Header.{Header}
use Rattle.parts.specs.declared.Assignment.{Assignment}
use Rattle.basics.specs.Judged.{Judged, fault, fine}
use Rattle.properties.specs.Assigned.{nearest, no_settings, nothing_assigned}
use Rattle.properties.specs.Properties.{judge_property}
use Rattle.properties.specs.declared.Assigned.{Assigned}
use Rattle.components.specs.declared.Component.{Component}
use Rattle.basics.specs.Slices.{written}
use Rattle.cells.specs.Cells.{instance_room, entries_at, rank, values_of, value_cells, other_cells, moved, definition_width}
use Rattle.cells.specs.Definitions.{name_or}
use Rattle.cells.specs.declared.Row.{Row}
use Rattle.scopes.specs.declared.Progress.{Progress}
use Rattle.scopes.specs.declared.Scope.{Scope}
use Rattle.parts.specs.declared.Name.{Name}

-- behind a list of instances
abbrev pub listed_walk : Progress → ℕ → ℕ → Progress
listed_walk w held at =
    record {
      at = at;
      head = w.head;
      closed = w.closed;
      filed = w.filed;
      held = held;
      opened = w.opened;
      map = w.map;
      assigned = w.assigned;
    }

abbrev pub after_listing : Progress → Judged (ℕ × ℕ) → Judged Progress
after_listing w (fault n p) = fault n p
after_listing w (fine (held, at)) = fine (listed_walk w held at)

-- behind a property statement
abbrev pub assigned_walk : Progress → ℕ → Assigned → Progress
assigned_walk w at a =
    record {
      at = at;
      head = w.head;
      closed = w.closed;
      filed = w.filed;
      held = w.held;
      opened = w.opened;
      map = w.map;
      assigned = a;
    }

abbrev pub after_setting : Progress → ℕ → Judged Assigned → Judged Progress
after_setting w at (fault n p) = fault n p
after_setting w at (fine a) = fine (assigned_walk w at a)

abbrev pub setting_step : List ℕ → Kind → Progress → Parsed Assignment → Judged Progress
setting_step text k w (ok p n) = after_setting w n (judge_property text k w.assigned p)
setting_step text k w (stop n p) = fault n p

-- where a body opens
abbrev pub opening_walk : Progress → ℕ → Progress
opening_walk w at =
    record {
      at = at;
      head = w.head;
      closed = w.closed;
      filed = w.filed;
      held = w.held;
      opened = w.opened + 1;
      map = w.map;
      assigned = nothing_assigned;
    }

abbrev pub inner_scope : Scope → Progress → Kind → Scope
inner_scope s w k = record { enclosing = Some k; first = w.held; base = w.head; defaults = nearest w.assigned.defaults s.defaults }

-- where the instances of a body that ends come to stand: before those of the definitions that were closed earlier
abbrev pub first_filed : Scope → Progress → ℕ
first_filed s w = instance_room - (w.filed + (w.held - s.first))

-- the cells with the row of a definition whose body ends, and with its instances among those of closed definitions
abbrev pub row_of : Header → Scope → Progress → Component → Row
row_of h s w c = record { values = values_of c; first = first_filed s w; count = w.held - s.first; name = name_or h.name; below = s.base }

unfoldable pub filed_cells : List ℕ → Header → Scope → Progress → Component → List ℕ
filed_cells t h s w c =
    moved
    (written (written t (w.closed * definition_width) (value_cells (values_of c))) (w.closed * definition_width + 7) (other_cells (row_of h s w c)))
    (entries_at + s.first) (entries_at + first_filed s w) (w.held - s.first)

-- behind a body that ends
abbrev pub closed_walk : Scope → Progress → ℕ → Progress
closed_walk s w next =
    record {
      at = next;
      head = s.base;
      closed = w.closed + 1;
      filed = w.filed + (w.held - s.first);
      held = s.first;
      opened = w.opened;
      map = w.map;
      assigned = w.assigned;
    }

-- behind a definition's body: its type is visible, and the address map is known
abbrev pub head_after : Option Name → ℕ → ℕ → ℕ
head_after None before closed = before
head_after (Some n) before closed = closed

abbrev pub map_after : Kind → Option ℕ → ℕ → Option ℕ
map_after k before closed = if eqb (rank k) 0 then Some (closed - 1) else before

abbrev pub after_body : Progress → Header → Progress → Progress
after_body w h v =
    record {
      at = v.at;
      head = head_after h.name w.head v.closed;
      closed = v.closed;
      filed = v.filed;
      held = v.held;
      opened = v.opened;
      map = map_after h.kind w.map v.closed;
      assigned = w.assigned;
    }

-- at the root
abbrev pub root_walk : Progress
root_walk = record { at = 0; head = 0; closed = 0; filed = 0; held = 0; opened = 0; map = None; assigned = nothing_assigned }

abbrev pub root_scope : Scope
root_scope = record { enclosing = None; first = 0; base = 0; defaults = no_settings }

abbrev pub ruling_of : Progress → ℕ → Option ℕ → Judged (ℕ × ℕ)
ruling_of w end None = fault 10 end
ruling_of w end (Some row) = fine (row, w.closed)

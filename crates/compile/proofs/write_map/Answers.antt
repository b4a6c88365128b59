-- The rows of a map that keeps all rules are written where the lent tables have room for them, with the name in the map's row.
use Rattle.std.proofs.Common.{◌∙◌, ap, Err}
use Rattle.basics.specs.Judged.{judged}
use Rattle.basics.specs.declared.Refusal.{Refusal}
use Rattle.map_walk.specs.declared.Counts.{Counts}
use Rattle.compile.proofs.Stages.{chart_of, map-tables}
use Rattle.compile.proofs.Room.{room_refuses, room_kept, room_accepts, room_written, tables_are}
use Rattle.compile.proofs.write_map.Goals as goal

pub is_room-requires : goal.is_room-requires
is_room-requires c = (chart_of _ _ _ c.requires.0 c.requires.1).few

pub returns-then-not-is_room : goal.returns-then-not-is_room
returns-then-not-is_room c =
    let k = chart_of _ _ _ c.requires.0 c.requires.1 in
    let refused = ap (λ (r : Refusal). judged {A = Counts} (Err r)) c.at.ensures in
    record {
      answer = refused ∙ room_refuses _ _ k.entries k.counted k.fine_map c.is_room.ensures c.if-not-is_room.true;
      lent = room_kept _ _ k.entries k.counted k.fine_map c.is_room.ensures c.if-not-is_room.true;
    }

pub write_rows-requires : goal.write_rows-requires
write_rows-requires c =
    let k = chart_of _ _ _ c.requires.0 c.requires.1 in
    (k.charted, k.same)

pub returns : goal.returns
returns c =
    let k = chart_of _ _ _ c.requires.0 c.requires.1 in
    let rows = c.write_rows.ensures in
    record {
      answer = room_accepts _ _ k.entries k.counted k.fine_map c.is_room.ensures c.if-not-is_room.false;
      lent = tables_are rows.of_registers rows.of_paths rows.of_fields rows.of_labels
          ∙ room_written _ _ k.entries k.counted k.fine_map c.is_room.ensures c.if-not-is_room.false (map-tables _ _ _ c.requires.0);
    }

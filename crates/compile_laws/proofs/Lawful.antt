-- Accepted rows are lawful, and their fields keep 17.
use mathlib.Core.Path.{◌≡◌, refl, subst}
use mathlib.Core.Bool.{true}
use mathlib.Core.List.{List, []}
use Prim.Native.Nat.{ℕ, suc}
use native.Mathlib.Omega.{arith}
use lib.ListN.{length}
use Rattle.parts.specs.declared.Kind.TheVariants as kind
use Rattle.basics.specs.Judged.{fine, Accepted}
use Rattle.components.specs.Components.{kind_of}
use Rattle.components.specs.declared.Component.{Component}
use Rattle.components.specs.declared.Component.TheVariants as component
use Rattle.cells.specs.Definitions.{definition_of}
use Rattle.rules.specs.Judge.{Meaning}
use Rattle.rules.specs.Rules.{ruled}
use Rattle.definition_laws.specs.Sensible.{SensibleMeaning}
use Rattle.definition_laws.proofs.Sensible.{judge_sensible}
use Rattle.layout.specs.Layout.{bottom, mode_of}
use Rattle.basics.specs.Limits.{nest_limit}
use Rattle.rows.specs.Rows.{Map, tables_of}
use Rattle.rows.specs.Lawful.{lawful}
use Rattle.rows.specs.Reading.{rows_in}
use Rattle.basics.specs.All.{All}
use Rattle.row_laws.specs.Sound.{fields_in, SoundMap}
use Rattle.row_laws.proofs.Faithful.{sound-lawful, sound_read}
use Rattle.compile_laws.specs.Named.{NamedMeaning}
use Rattle.compile_laws.specs.Parts.{WithinParts}
use Rattle.compile_laws.proofs.Named.{ruled_stages, ruled_named}
use Rattle.map_rules.specs.Visits.{Visit, is_group}
use Rattle.map_rules.specs.Whole.{map_visits, map_shapes, map_fault, is_register_visit, registers_among, fields_among}
use Rattle.overlaps.proofs.Visits.{Sited, few_levels, all_sited, registers_all}
use Rattle.row_writer.specs.Entries.{entries_of}
use Rattle.compile.specs.Compiled.{map_of, compiled}
use Rattle.compile.proofs.Counts.{entries_counted, fields_among_lem}
use Rattle.basics.proofs.All.{all_both, all_map}
use Rattle.compile_laws.proofs.Stages.{Accepting, accepting, not_many, not_misplaced}
use Rattle.compile_laws.proofs.Steps.{StepFits, map_seen}
use Rattle.map_rules.proofs.Elements.{Seen}
use Rattle.compile_laws.proofs.Registers.{RegisterSeen, register_holds, entries_sound, entries_within}
use Rattle.compile_laws.proofs.Reaching.{Short, Has, has_some, visits_reach, few_registers, few_fields}

map_group : (c : Component) → kind_of c ≡ kind.Addrmap → is_group c ≡ true
map_group (component.Field f) e = cc
map_group (component.Register r) e = cc
map_group (component.Regfile a) e = refl
map_group (component.Addrmap a m) e = refl

-- a map that keeps the rules
module _ (text : List ℕ) (m : Meaning) (s : SensibleMeaning m) (n : NamedMeaning text m) (e : map_fault m ≡ Accepted) where
  all_seen : All (Seen (length m.table) (StepFits text) 0) (map_visits m)
  all_seen = map_seen text m.table (map_shapes m) (mode_of (definition_of m.table m.map).component) m.map s.table n.each s.low

  all_short : All Short (map_visits m)
  all_short = few_levels m.table 0 0 (map_visits m) (not_many m e)

  all_placed : All (λ (v : Visit). is_register_visit m.table v ≡ true → Sited (map_shapes m) v) (map_visits m)
  all_placed = all_sited m.table (map_shapes m) (map_visits m) (not_misplaced m e)

  all_registers : All (RegisterSeen text m.table (mode_of (definition_of m.table m.map).component)) (registers_among m.table (map_visits m))
  all_registers =
      all_map
      (λ v p.
      record {
        seen = p.0.0;
        type = register_holds text m.table (mode_of (definition_of m.table m.map).component) v.type s.table n.each p.0.0.low p.1;
        shallow = p.0.1.0;
        sited = p.0.1.1 p.1;
      })
      (registers_all m.table (all_both all_seen (all_both all_short all_placed)))

  one_register : Has m.table (map_visits m)
  one_register =
      visits_reach m.table (map_shapes m) (mode_of (definition_of m.table m.map).component) (suc nest_limit) m.map bottom [] s.table s.low
      (map_group (definition_of m.table m.map).component s.map) (omega arith) (omega arith) all_short

  meaning_sound : SoundMap (map_of text m)
  meaning_sound =
      let vs : List Visit = registers_among m.table (map_visits m) in
      let c : length (entries_of text m.table vs) ≡ length vs = entries_counted text m.table vs in
      let f : fields_among m.table (map_visits m) ≡ fields_in (entries_of text m.table vs) = fields_among_lem text m.table s.table (map_visits m) in
      record {
        name = n.title;
        entries = entries_sound text m.table (mode_of (definition_of m.table m.map).component) all_registers;
        some = omega (arith, c, has_some m.table one_register);
        few = omega (arith, c, few_registers m.table 0 0 (map_visits m) (omega arith) (not_many m e));
        fields = omega (arith, f, few_fields m.table 0 0 (map_visits m) (omega arith) (not_many m e));
      }

  meaning_within : All WithinParts (map_of text m).entries
  meaning_within = entries_within text m.table (mode_of (definition_of m.table m.map).component) all_registers

module _ (text : List ℕ) (m : Meaning) (r : ruled text ≡ fine m) (e : map_fault m ≡ Accepted) where
  sensible : SensibleMeaning m
  sensible = judge_sensible text (ruled_stages text m r).tree (ruled_stages text m r).judged

  map-sound : SoundMap (map_of text m)
  map-sound = meaning_sound text m sensible (ruled_named text m r) e

  map-within : All WithinParts (map_of text m).entries
  map-within = meaning_within text m sensible (ruled_named text m r) e

pub accepted_sound : (text : List ℕ) (m : Map) → compiled text ≡ fine m → SoundMap m
accepted_sound text m e =
    let a : Accepting text m = accepting text m e in
    rw a.same at (map-sound text a.meaning a.rules a.sound)

pub accepted_within : (text : List ℕ) (m : Map) → compiled text ≡ fine m → All WithinParts m.entries
accepted_within text m e =
    let a : Accepting text m = accepting text m e in
    subst (λ (n : Map). All WithinParts n.entries) a.same (map-within text a.meaning a.rules a.sound)

pub accepted_lawful : (text : List ℕ) (m : Map) → compiled text ≡ fine m → lawful (tables_of m) ≡ true
accepted_lawful text m e = sound-lawful m (accepted_sound text m e)

pub accepted_read : (text : List ℕ) (m : Map) → compiled text ≡ fine m → rows_in (tables_of m) ≡ m
accepted_read text m e = sound_read m (accepted_sound text m e)

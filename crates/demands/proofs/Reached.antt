-- Half a count (document 02, item 2): no access of an accepted text's map has a part only of a field that is writable or has an effect on
-- reading.
use mathlib.Core.Path.{◌≡◌, sym, subst}
use mathlib.Core.List.{List}
use Prim.Native.Nat.{ℕ, suc, ◌+◌}
use lib.ListN.{length}
use Rattle.basics.specs.All.{All, all_none, all_more}
use Rattle.basics.specs.Judged.{fine}
use Rattle.basics.proofs.All.{all_append, all_both}
use Rattle.rows.specs.Rows.{Field, Entry, Map, Tables, tables_of}
use Rattle.row_laws.specs.Sound.{SoundField, SoundEntry}
use Rattle.map_walk.specs.declared.Counts.{Counts}
use Rattle.compile.specs.Compiled.{compiled, answered, lent_after}
use Rattle.compile_laws.specs.Parts.{FieldWithin, WithinParts}
use Rattle.compile_laws.proofs.Lawful.{accepted_sound, accepted_within}
use Rattle.model.specs.declared.View.{View}
use Rattle.model.specs.Reached.{NeverHalved}
use Rattle.model.proofs.Reached.{never_halved}
use Rattle.access.specs.Stored.{stored_in, stored_among, stored_fields}
use Rattle.access.proofs.Facts.{Within, sound-within}
use Rattle.demands.specs.Demands.{RowsOf, first_rows}
use Rattle.demands.proofs.Accepted.{accepted_stored, compiled_rows}

-- the views of a register whose fields keep 17
stored_whole : (e : Entry) (n : ℕ) {fs : List Field} → SoundEntry e → All (SoundField e.register.width) fs → All (FieldWithin e.register) fs → All NeverHalved (stored_in e n fs)
unfolding stored_in
stored_whole e n s all_none all_none = all_none
stored_whole e n s (all_more {x = f} p a) (all_more q b) =
    let w : Within e.register.width f.at = sound-within e.register.width f.at p.sound in
    let c : View = record { base = e.address; register = e.register; field = f.at; index = n } in
    all_more ((never_halved c (record { width = s.width; access = s.access; bits = w.order; inside = w.top })).0 q) (stored_whole e (suc n) s a b)

among_whole : (n : ℕ) {es : List Entry} → All (λ (e : Entry). SoundEntry e × WithinParts e) es → All NeverHalved (stored_among n es)
unfolding stored_among
among_whole n all_none = all_none
among_whole n (all_more {x = e} p a) = all_append (stored_whole e n p.0 p.0.fields p.1) (among_whole (n + length e.fields) a)

pub accepted_whole : (text : List ℕ) (m : Map) → compiled text ≡ fine m → All NeverHalved (stored_fields (tables_of m))
accepted_whole text m e = rw (accepted_stored text m e) (among_whole 0 (all_both (accepted_sound text m e).entries (accepted_within text m e)))

-- and of the rows that `compile` has written
pub compiled_whole : (text : List ℕ) (lent : Tables) (counts : Counts) → answered lent (compiled text) ≡ fine counts
    → All NeverHalved (stored_fields (first_rows counts.registers counts.fields (lent_after lent (compiled text))))
compiled_whole text lent counts h =
    let w : RowsOf text (first_rows counts.registers counts.fields (lent_after lent (compiled text))) = compiled_rows text lent counts h in
    subst (λ (t : Tables). All NeverHalved (stored_fields t)) (sym w.rows) (accepted_whole text w.map w.accepted)

-- Cells that are kept keep what they say.
use mathlib.Core.Path.{◌≡◌, refl, sym, ◌∙◌}
use mathlib.Core.Bool.{Bool, true, false}
use mathlib.Core.List.{List, [], ◌∷◌, ◌++◌}
use Prim.Native.Nat.{ℕ, suc, ◌+◌, ◌*◌, ◌<◌, ◌≤◌}
use native.Mathlib.Omega.{arith}
use lib.ListN.{length}
use lib.Dec.{ltb}
use borrow.Author.Tests.{ltb-false}
use Rattle.std.specs.Prelude.{if◌then◌else◌, Some}
use Rattle.parts.specs.declared.Name.{Name}
use Rattle.suffixes.specs.Suffixes.{instance_fault}
use Rattle.identifiers.specs.Names.{same_name}
use Rattle.components.specs.Components.{kind_of}
use Rattle.basics.specs.Slices.{cell_of}
use Rattle.cells.specs.Cells.{values_in, first_in, below_in, definition_width, place_in, row_in}
use Rattle.cells.specs.Definitions.{Child, Definition, definition_of, VisibleType, lookup}
use Rattle.cells.specs.Relation.{IsEntry, Block, block_end, block_on, IsRow, Holds, Chain, chain_stop, chain_on}
use Rattle.closing_rules.specs.Relation.{HeldBetween, stored_end, stored_on}
use Rattle.rules.specs.Standing.{Kept, Sounds, sounds_end, sounds_on}
use Rattle.basics.specs.Judged.{Accepted}

pub kept_same : {t : List ℕ} {n f h : ℕ} → Kept t t n f h
kept_same = record { long = refl; rows = λ j l. refl; filed = λ j l k. refl; opens = λ j l k. refl }

pub kept_then : {t u v : List ℕ} {n f h n' f' h' : ℕ} → Kept t u n f h → Kept u v n' f' h' → n ≤ n' → f ≤ f' → h ≤ h' → Kept t v n f h
kept_then a b p q r =
    record {
      long = b.long ∙ a.long;
      rows = λ j l. b.rows j (omega (arith, l, p)) ∙ a.rows j l;
      filed = λ j l k. b.filed j (omega (arith, l, q)) k ∙ a.filed j l k;
      opens = λ j l k. b.opens j l (omega (arith, k, r)) ∙ a.opens j l k;
    }

pub kept_less : {t u : List ℕ} {n f h g : ℕ} → Kept t u n f h → g ≤ h → Kept t u n f g
kept_less a r = record { long = a.long; rows = a.rows; filed = a.filed; opens = λ j l k. a.opens j l (omega (arith, k, r)) }

pub block_kept : {text t u : List ℕ} {i : ℕ} {cs : List Child} → ((j : ℕ) → i ≤ j → j < i + length cs → cell_of u j ≡ cell_of t j) → Block text t i cs → Block text u i cs
block_kept same block_end = block_end
block_kept {text} {i = i} same (block_on {c = c} {cs = cs} e b) =
    block_on {i = i} {c = c} {cs = cs} (rw (same i (omega arith) (omega arith)) e) (block_kept (λ j l k. same j (omega (arith, l)) (omega (arith, k))) b)

-- cells of open bodies that have other links hold the same instances
pub block_alike : {text t u : List ℕ} {i : ℕ} {cs : List Child} → ((j : ℕ) → i ≤ j → j < i + length cs → (place_in (cell_of u j) ≡ place_in (cell_of t j)) × (row_in (cell_of u j) ≡ row_in (cell_of t j)))
    → Block text t i cs → Block text u i cs
block_alike same block_end = block_end
block_alike {text} {i = i} same (block_on {c = c} {cs = cs} e b) =
    let w = same i (omega arith) (omega arith) in
    block_on {i = i} {c = c} {cs = cs} (record { next = e.next; reads = rw w.0 e.reads; starts = w.0 ∙ e.starts; type = w.1 ∙ e.type })
    (block_alike (λ j l k. same j (omega (arith, l)) (omega (arith, k))) b)

-- one instance more
pub block_more : {text t : List ℕ} {i : ℕ} {cs : List Child} {c : Child} → Block text t i cs → IsEntry text (cell_of t (i + length cs)) c → Block text t i (cs ++ (c ∷ []))
block_more {text} {t} {i} block_end e = block_on (let z : i + 0 ≡ i = omega arith in rw z at e) block_end
block_more {text} {t} {i} (block_on {cs = cs} x b) e = block_on x (block_more b (let z : i + suc (length cs) ≡ suc i + length cs = omega arith in rw z at e))

pub values_kept : {t u : List ℕ} {n f h : ℕ} → Kept t u n f h → (r : ℕ) → r < n → values_in u r ≡ values_in t r
unfolding values_in
values_kept k r l =
    rw (k.rows (r * definition_width) (omega arith), k.rows (r * definition_width + 1) (omega arith), k.rows (r * definition_width + 2) (omega arith), k.rows (r * definition_width + 3) (omega arith), k.rows (r * definition_width + 4) (omega arith), k.rows (r * definition_width + 5) (omega arith), k.rows (r * definition_width + 6) (omega arith))

pub row_kept : {text t u : List ℕ} {n f h : ℕ} → Kept t u n f h → (r : ℕ) {d : Definition} → r < n → IsRow text t f r d → IsRow text u f r d
row_kept {text} {t} {u} {n} {f} k r {d} l w =
    let e : first_in u r ≡ first_in t r = k.rows (r * definition_width + 7) (omega arith) in
    record {
      name = rw (k.rows (r * definition_width + 9) (omega arith), k.rows (r * definition_width + 10) (omega arith)) w.name;
      component = rw (values_kept k r l) w.component;
      instances = rw e (block_kept (λ j a b. k.filed j (omega (arith, a, w.behind)) (omega (arith, b, w.within))) w.instances);
      count = k.rows (r * definition_width + 8) (omega arith) ∙ w.count;
      behind = rw e w.behind;
      within = rw e w.within;
    }

pub row_later : {text t : List ℕ} {f g : ℕ} {r : ℕ} {d : Definition} → f ≤ g → IsRow text t f r d → IsRow text t g r d
row_later l w = record { name = w.name; component = w.component; instances = w.instances; count = w.count; behind = omega (arith, l, w.behind); within = w.within }

pub holds_kept : {text t u : List ℕ} {n f h : ℕ} {table : List Definition} → Kept t u n f h → Holds text t n f table → Holds text u n f table
holds_kept k w = record { count = w.count; each = λ r l. row_kept k r l (w.each r l) }

below_low : (t : List ℕ) (r : ℕ) → below_in t r ≤ r
unfolding below_in
below_low t r = by (ltb r (cell_of t (r * definition_width + 11))) refl
  where
    by : (b : Bool) → ltb r (cell_of t (r * definition_width + 11)) ≡ b → (if b then r else cell_of t (r * definition_width + 11)) ≤ r
    by true e = omega arith
    by false e = omega (arith, ltb-false r (cell_of t (r * definition_width + 11)) e)

pub below_kept : {t u : List ℕ} {n f h : ℕ} → Kept t u n f h → (r : ℕ) → r < n → below_in u r ≡ below_in t r
unfolding below_in
below_kept k r l = rw (k.rows (r * definition_width + 11) (omega arith))

pub chain_kept : {t u : List ℕ} {n f h stop head : ℕ} {es : List VisibleType} → Kept t u n f h → head ≤ n → Chain t stop head es → Chain u stop head es
chain_kept k l chain_stop = chain_stop
chain_kept {t} {u} {stop = stop} k l (chain_on {e = e} {es = es} s m b c) =
    let q : below_in u e.row ≡ below_in t e.row = below_kept k e.row (omega arith) in
    chain_on {e = e} {es = es} s (rw (k.rows (e.row * definition_width + 9) (omega arith), k.rows (e.row * definition_width + 10) (omega arith)) m) (rw q b)
    (rw q (chain_kept k (omega (arith, below_low t e.row)) c))

pub chain_join : {t : List ℕ} {base head : ℕ} {here env : List VisibleType} → Chain t base head here → Chain t 0 base env → Chain t 0 head (here ++ env)
chain_join chain_stop c = c
chain_join (chain_on {e = e} s m b d) c = chain_on {e = e} (omega arith) m (omega arith) (chain_join d c)

-- the type that a name means is declared before
pub lookup_low : (text : List ℕ) (n : Name) {t : List ℕ} {stop head d : ℕ} {es : List VisibleType} → Chain t stop head es → lookup text n es ≡ Some d → d < head
unfolding lookup
lookup_low text n chain_stop q = absurd cc
lookup_low text n {t} {stop} {d = d} (chain_on {e = e} {es = es} s m b c) q = by (same_name text n e.name) (λ z. lookup_low text n c z) q
  where
    by : (x : Bool) → (lookup text n es ≡ Some d → d < below_in t e.row) → (if x then Some e.row else lookup text n es) ≡ Some d → d < suc e.row
    by true f q = let z : e.row ≡ d = cc in omega arith
    by false f q = omega (arith, f q, below_low t e.row)

-- a row that is kept has the same component in every table that the cells hold
pub same_component : {text t u : List ℕ} {n f h n' f' : ℕ} {table table' : List Definition} → Kept t u n f h → Holds text t n f table → Holds text u n' f' table' → n ≤ n'
    → (r : ℕ) → r < n → (definition_of table' r).component ≡ (definition_of table r).component
same_component k a b p r l = sym (b.each r (omega (arith, l, p))).component ∙ (rw (values_kept k r l) (a.each r l).component)

pub sounds_kept : {text t u : List ℕ} {n f h n' f' : ℕ} {table table' : List Definition} {cs : List Child} → Kept t u n f h → Holds text t n f table → Holds text u n' f' table' → n ≤ n'
    → Sounds table cs → Sounds table' cs
sounds_kept k a b p sounds_end = sounds_end
sounds_kept k a b p (sounds_on {c = c} l s rest) =
    sounds_on {c = c} (omega (arith, l, p, a.count, b.count)) (rw (same_component k a b p c.type (omega (arith, l, a.count))) s) (sounds_kept k a b p rest)

pub sounds_more : {table : List Definition} {cs : List Child} (c : Child) → Sounds table cs → c.type < length table
    → instance_fault (kind_of (definition_of table c.type).component) c.instance ≡ Accepted → Sounds table (cs ++ (c ∷ []))
sounds_more c sounds_end l s = sounds_on {c = c} l s sounds_end
sounds_more c (sounds_on {c = d} m x rest) l s = sounds_on {c = d} m x (sounds_more c rest l s)

-- the instances of a body, as the passes at its closing brace use them
pub stored_of_lem : {text t : List ℕ} {n f i : ℕ} {table : List Definition} {cs : List Child} → Holds text t n f table → Block text t i cs → Sounds table cs → HeldBetween text t table (i + length cs) i cs
stored_of_lem {text} {t} {i = i} {table = table} h block_end s = let z : i + 0 ≡ i = omega arith in rw z stored_end
stored_of_lem {text} {t} {i = i} {table = table} h (block_on {c = c} {cs = cs} e b) (sounds_on l s rest) =
    let z : suc i + length cs ≡ i + suc (length cs) = omega arith in
    stored_on {i = i} {c = c} {cs = cs} (omega arith) e (h.each c.type (omega (arith, l, h.count))).component s (rw z at (stored_of_lem h b rest))

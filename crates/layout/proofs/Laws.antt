-- Laws of the layout: the numbers of a sound instance are below the cap, and what is made of cut numbers, cut again, is what is made of
-- the true ones, cut.
use mathlib.Core.Bool.{Bool, true, false, ◌&&◌, not}
use mathlib.Core.Path.{◌≡◌, refl, sym, ap, ◌∙◌}
use Prim.Native.Nat.{ℕ, ◌+◌, ◌-◌, ◌*◌, ◌<◌, ◌≤◌}
use native.Mathlib.Omega.{arith}
use lib.Dec.{eqb, leb}
use borrow.Author.Tests.{eq-eqb, ne_eqb, leb-true}
use Rattle.std.specs.Prelude.{if◌then◌else◌, Option, Some, None}
use Rattle.chars.proofs.Laws.{either, and_left, and_right}
use Rattle.expressions.specs.declared.Number.{Number}
use Rattle.parts.specs.declared.Kind.{Kind}
use Rattle.parts.specs.declared.Array.{Array}
use Rattle.parts.specs.declared.Array.TheVariants as array
use Rattle.parts.specs.declared.SuffixKind.{SuffixKind}
use Rattle.parts.specs.declared.SuffixKind.TheVariants.{Reset, Address, Stride, Alignment}
use Rattle.parts.specs.declared.Instance.{Instance}
use Rattle.property_values.specs.Settings.{is_field, is_alignment}
use Rattle.basics.specs.Judged.{first_of, Accepted}
use Rattle.suffixes.specs.Suffixes.{is_size, array_fault, suffix_range, suffix_fault, is_array, is_barred, instance_fault}
use Rattle.basics.specs.Given.{or_else}
use Rattle.basics.specs.Limits.{array_limit, alignment_limit, highest_address}
use Rattle.components.specs.Components.{start_of}
use Rattle.fields.specs.declared.Offset.{Offset}
use Rattle.components.proofs.Laws.{first_sound, ranged-sound, settled-sound, later_sound}
use Rattle.capped.specs.Offsets.{cap, factor_bound, cut, raised, common_multiple, power_above}
use Rattle.capped.proofs.Laws.{cut_bound, cut_capped, cut_positive, cut_low, cut_stays, cut_sum, cut_product, cut-raised, cut_common, cut_power, common_low, above_reaches, alignment_low, alignment_high}
use Rattle.layout.specs.Layout.{elements, stride_or, stride_of, span_of, mode_step, step_or, step_of, start_after, laid, cut_shape, cut_offset, cut_laid}
use Rattle.layout.specs.Fitting.{Layable, StartBelow, start_free, start_at, StartsAt}
use Rattle.layout.specs.declared.Shape.{Shape}

-- what a sound instance of a register or regfile says of its numbers
given-sound : (barred : Bool) (k : SuffixKind) (mark : ℕ) (n : Number) → suffix_fault barred k (Some (mark, n)) ≡ Accepted → suffix_range k n.value ≡ true
given-sound true k mark n e = absurd cc
given-sound false k mark n e = ranged-sound (suffix_range k n.value) n.place (settled-sound n.refusal _ e)

size-sound : (n : ℕ) → is_size false n ≡ true → (1 ≤ n) × (n ≤ array_limit)
unfolding is_size
size-sound n t = (leb-true 1 n (and_left (leb 1 n) (leb n array_limit) t), leb-true n array_limit (and_right (leb 1 n) (leb n array_limit) t))

array_sound : (a : Array) → array_fault false a ≡ Accepted → (1 ≤ elements a) × (elements a ≤ array_limit)
array_sound array.Missing e = (omega arith, omega arith)
array_sound (array.Size mark n) e = size-sound n.value (ranged-sound (is_size false n.value) n.place (settled-sound n.refusal _ e))
array_sound (array.Range mark left right) e = absurd cc

address_range : (n : ℕ) → suffix_range Address n ≡ true → n < cap
unfolding suffix_range
address_range n t =
    let l : n ≤ highest_address = leb-true n highest_address t in
    omega arith

address_sound : (barred : Bool) (x : Option (ℕ × Number)) → suffix_fault barred Address x ≡ Accepted → StartBelow (start_of x)
address_sound barred None e = start_free
address_sound barred (Some (mark, n)) e = start_at (address_range n.value (given-sound barred Address mark n e))

stride_range : (n : ℕ) → suffix_range Stride n ≡ true → (1 ≤ n) × (n ≤ highest_address)
unfolding suffix_range
stride_range n t = (leb-true 1 n (and_left (leb 1 n) (leb n highest_address) t), leb-true n highest_address (and_right (leb 1 n) (leb n highest_address) t))

stride_sound : (barred : Bool) (x : Option (ℕ × Number)) → suffix_fault barred Stride x ≡ Accepted → (1 ≤ stride_or x 1) × (stride_or x 1 ≤ highest_address)
stride_sound barred None e = (omega arith, omega arith)
stride_sound barred (Some (mark, n)) e = stride_range n.value (given-sound barred Stride mark n e)

step_range : (n : ℕ) → suffix_range Alignment n ≡ true → (1 ≤ n) × (n ≤ alignment_limit)
unfolding suffix_range
step_range n t = (alignment_low n t, alignment_high n t)

step_sound : (barred : Bool) (x : Option (ℕ × Number)) → suffix_fault barred Alignment x ≡ Accepted → (1 ≤ step_or x 1) × (step_or x 1 ≤ alignment_limit)
step_sound barred None e = (omega arith, omega arith)
step_sound barred (Some (mark, n)) e = step_range n.value (given-sound barred Alignment mark n e)

module _ (kind : Kind) (i : Instance) (f : is_field kind ≡ false) (e : instance_fault kind i ≡ Accepted) where
  pub sound-elements : (1 ≤ elements i.array) × (elements i.array ≤ array_limit)
  unfolding instance_fault
  sound-elements = array_sound i.array (rw f at (first_sound (array_fault (is_field kind) i.array) _ e))

  behind_reset : first_of (suffix_fault (is_barred Address (is_field kind) i) Address i.address)
      (first_of (suffix_fault (is_barred Stride (is_field kind) i) Stride i.stride)
      (suffix_fault (is_barred Alignment (is_field kind) i) Alignment i.alignment)) ≡ Accepted
  unfolding instance_fault
  behind_reset =
      later_sound (suffix_fault (is_barred Reset (is_field kind) i) Reset i.reset) _ (later_sound (array_fault (is_field kind) i.array) _ e)

  behind_address : first_of (suffix_fault (is_barred Stride (is_field kind) i) Stride i.stride)
      (suffix_fault (is_barred Alignment (is_field kind) i) Alignment i.alignment) ≡ Accepted
  behind_address = later_sound (suffix_fault (is_barred Address (is_field kind) i) Address i.address) _ behind_reset

  -- `@`
  pub sound_start : StartBelow (start_of i.address)
  sound_start = address_sound (is_barred Address (is_field kind) i) i.address (first_sound (suffix_fault (is_barred Address (is_field kind) i) Address i.address) _ behind_reset)

  -- `+=`
  pub sound_stride : (1 ≤ stride_or i.stride 1) × (stride_or i.stride 1 ≤ highest_address)
  sound_stride = stride_sound (is_barred Stride (is_field kind) i) i.stride (first_sound (suffix_fault (is_barred Stride (is_field kind) i) Stride i.stride) _ behind_address)

  -- `%=`
  pub sound_step : (1 ≤ step_or i.alignment 1) × (step_or i.alignment 1 ≤ alignment_limit)
  sound_step = step_sound (is_barred Alignment (is_field kind) i) i.alignment (later_sound (suffix_fault (is_barred Stride (is_field kind) i) Stride i.stride) _ behind_address)

-- two numbers that are one, cut
record Alike (x y : ℕ) : Type 0 where
  same : cut x ≡ cut y

alike_cut : (x : ℕ) → Alike (cut x) x
alike_cut x = record { same = sym (cut_stays (cut x) (cut_bound x)) }

alike_of : (x : ℕ) {r : ℕ} → r ≡ cut x → Alike r x
alike_of x e = rw e (alike_cut x)

alike_self : (x : ℕ) → Alike x x
alike_self x = record { same = refl }

module _ {x y : ℕ} (e : Alike x y) where
  -- a number up to the cap is the other, cut
  alike_done : x ≤ cap → x ≡ cut y
  alike_done l = cut_stays x l ∙ e.same

  alike_sum : {u v : ℕ} → Alike u v → Alike (x + u) (y + v)
  alike_sum {u = u} {v = v} f = record { same = sym (cut_sum x u) ∙ (rw (e.same, f.same) (cut_sum y v)) }

  alike_product : (n : ℕ) → Alike (x * n) (y * n)
  alike_product n = record { same = sym (cut_product x n) ∙ (rw e.same (cut_product y n)) }

  alike_raised : {s t : ℕ} → 1 ≤ s → 1 ≤ t → Alike s t → Alike (raised x s) (raised y t)
  alike_raised {s = s} {t = t} p q f = record { same = sym (cut-raised x s p) ∙ (rw (e.same, f.same) (cut-raised y t q)) }

  alike_power : Alike (power_above x) (power_above y)
  alike_power = record { same = sym (cut_power x) ∙ (rw e.same (cut_power y)) }

  alike_common : (a : ℕ) → is_alignment a ≡ true → 1 ≤ x → 1 ≤ y → Alike (common_multiple a x) (common_multiple a y)
  alike_common a t p q = record { same = sym (cut_common a x t p) ∙ (rw e.same (cut_common a y t q)) }

  alike_stride : (n : Option (ℕ × Number)) → Alike (stride_or n x) (stride_or n y)
  alike_stride None = e
  alike_stride (Some (mark, n)) = alike_self n.value

  alike_step : (n : Option (ℕ × Number)) → Alike (step_or n x) (step_or n y)
  alike_step None = e
  alike_step (Some (mark, n)) = alike_self n.value

  alike_start : (at : Option Offset) {s t : ℕ} → 1 ≤ s → 1 ≤ t → Alike s t → Alike (start_after at (record { 0 = x }) s).0 (start_after at (record { 0 = y }) t).0
  alike_start None p q f = alike_raised p q f
  alike_start (Some o) p q f = alike_self o.0

-- what is made of a cut shape
module _ (a : Option ℕ) (s : Shape) (i : Instance) where
  module _ (p : 1 ≤ or_else 1 a) where
    strided : Alike (stride_of a (cut_shape s) i) (stride_of a s i)
    unfolding stride_of
    strided = alike_stride (alike_raised (alike_cut s.size) p p (alike_self (or_else 1 a))) i.stride

    spanned : Alike (span_of a (cut_shape s) i) (span_of a s i)
    unfolding span_of
    spanned = alike_sum (alike_product strided (elements i.array - 1)) (alike_cut s.size)

    stepped : (m : ℕ) → Alike (mode_step m a (cut_shape s) i) (mode_step m a s i)
    unfolding mode_step
    stepped m = by (eqb m 0) (eqb m 2 && is_array i.array)
      where
        by : (f g : Bool) → Alike (if f then cut s.access else if g then power_above (span_of a (cut_shape s) i) else cut s.size)
            (if f then s.access else if g then power_above (span_of a s i) else s.size)
        by true g = alike_cut s.access
        by false true = alike_power spanned
        by false false = alike_cut s.size

    pub cut_strided : cut (stride_of a (cut_shape s) i) ≡ cut (stride_of a s i)
    cut_strided = strided.same

  -- steps of 1 at least
  module _ (p : 1 ≤ s.size) where
    span_low : 1 ≤ span_of a s i
    unfolding span_of
    span_low = omega arith

    mode_low : 1 ≤ s.access → (m : ℕ) → 1 ≤ mode_step m a s i
    unfolding mode_step
    mode_low q m =
        either (λ (n : ℕ). 1 ≤ n) (eqb m 0) (λ _. q)
        (λ _. either (λ (n : ℕ). 1 ≤ n) (eqb m 2 && is_array i.array) (λ _. omega (arith, span_low, above_reaches (span_of a s i))) (λ _. p))

or_low : (n : Option (ℕ × Number)) (x : ℕ) → 1 ≤ step_or n 1 → 1 ≤ x → 1 ≤ step_or n x
or_low None x h p = p
or_low (Some (mark, n)) x h p = h

module _ (m : ℕ) (a : Option ℕ) (s : Shape) (i : Instance) where
  step_low : is_alignment (or_else 1 a) ≡ true → 1 ≤ s.size → 1 ≤ s.access → 1 ≤ step_or i.alignment 1 → 1 ≤ step_of m a s i
  unfolding step_of
  step_low t p q h =
      let l : 1 ≤ mode_step m a s i = mode_low a s i p q m in
      or_low i.alignment (common_multiple (or_else 1 a) (mode_step m a s i)) h (omega (arith, common_low (or_else 1 a) (mode_step m a s i) t l))

module _ (m : ℕ) (a : Option ℕ) (s : Shape) (i : Instance) where
  alike_steps : is_alignment (or_else 1 a) ≡ true → 1 ≤ s.size → 1 ≤ s.access → Alike (step_of m a (cut_shape s) i) (step_of m a s i)
  unfolding step_of
  alike_steps t p q =
      alike_step (alike_common (stepped a s i (alignment_low (or_else 1 a) t) m) (or_else 1 a) t
      (mode_low a (cut_shape s) i (cut_positive s.size p) (cut_positive s.access q) m) (mode_low a s i p q m)) i.alignment

  pub cut-laid : (end : Offset) → is_alignment (or_else 1 a) ≡ true → 1 ≤ s.size → 1 ≤ s.access → (kind : Kind) → is_field kind ≡ false → instance_fault kind i ≡ Accepted
      → cut_laid (laid m a (cut_shape s) i (cut_offset end)) ≡ cut_laid (laid m a s i end)
  unfolding laid
  cut-laid end t p q kind f e =
      let o : 1 ≤ or_else 1 a = alignment_low (or_else 1 a) t in
      let h : 1 ≤ step_or i.alignment 1 = (sound_step kind i f e).0 in
      let from : Alike (start_after (start_of i.address) (cut_offset end) (step_of m a (cut_shape s) i)).0 (start_after (start_of i.address) end (step_of m a s i)).0 =
      alike_start (alike_cut end.0) (start_of i.address)
      (step_low m a (cut_shape s) i t (cut_positive s.size p) (cut_positive s.access q) h) (step_low m a s i t p q h) (alike_steps t p q) in
      rw (from.same, cut_strided a s i o, (alike_sum from (spanned a s i o)).same)

or_high : (n : Option (ℕ × Number)) (x : ℕ) → stride_or n 1 ≤ cap → x ≤ cap → stride_or n x ≤ cap
or_high None x h p = p
or_high (Some (mark, n)) x h p = h

or_same : (n : Option (ℕ × Number)) (x : ℕ) → stride_or n x ≡ step_or n x
or_same None x = refl
or_same (Some (mark, n)) x = refl

turned : (b : Bool) {c : Bool} → not b ≡ c → b ≡ not c
turned true e = rw (← e)
turned false e = rw (← e)

-- what the code makes
module _ (a : Option ℕ) (s : Shape) (i : Instance) (f : Layable a s i) where
  module _ {own : ℕ} (e : own ≡ or_else 1 a) where
    own_aligned : is_alignment own ≡ true
    own_aligned = rw e f.aligned

    pub own_low : 1 ≤ own
    own_low = alignment_low own own_aligned

    pub own_high : own ≤ cap
    own_high = omega (arith, alignment_high own own_aligned)

  module _ {own standard r : ℕ} (e : own ≡ or_else 1 a) (g : standard ≡ cut (raised s.size own)) (h : r ≡ stride_or i.stride standard) where
    pub stride_high : r ≤ cap
    stride_high =
        let n : stride_or i.stride 1 ≤ cap = omega (arith, sound_stride f.kind i f.addressed f.sound) in
        rw h (or_high i.stride standard n (cut_capped (raised s.size own) g))

    pub stride_done : r ≡ cut (stride_of a s i)
    unfolding stride_of
    stride_done = alike_done (rw (h, ← e) (alike_stride (alike_of (raised s.size own) g) i.stride)) stride_high

  module _ {n : ℕ} (e : n ≡ elements i.array) where
    pub count_low : 1 ≤ n
    count_low = rw e (sound-elements f.kind i f.addressed f.sound).0

    pub count_high : n - 1 ≤ factor_bound
    count_high = omega (arith, (sound-elements f.kind i f.addressed f.sound).1)

  pub span_done : {stride count before r : ℕ} → stride ≡ cut (stride_of a s i) → count ≡ elements i.array → before ≡ cut (stride * (count - 1)) → r ≡ cut (before + s.size) → r ≡ cut (span_of a s i)
  unfolding span_of
  span_done {before = before} e n g h =
      let k : ℕ = elements i.array - 1 in
      let w : before ≡ cut (stride_of a s i * k) = (rw n at g) ∙ (alike_product (alike_of (stride_of a s i) e) k).same in
      h ∙ (alike_sum (alike_of (stride_of a s i * k) w) (alike_self s.size)).same

  pub power_low : {span r : ℕ} → span ≡ cut (span_of a s i) → r ≡ cut (power_above span) → 1 ≤ r
  power_low {span = span} e g =
      let l : 1 ≤ span = rw e (cut_positive (span_of a s i) (span_low a s i f.sized.0)) in
      rw g (cut_positive (power_above span) (omega (arith, above_reaches span)))

  module _ (m : ℕ) where
    pub mode_compact : {c : ℕ} → c ≡ 0 → m ≡ c → s.access ≡ cut (mode_step m a s i)
    unfolding mode_step
    mode_compact e g = rw (eq-eqb m 0 (g ∙ e)) (cut_stays s.access f.accessed.1)

    module _ {c : ℕ} (e : c ≡ 0) (g : m ≡ c → ⊥) where
      other : eqb m 0 ≡ false
      other = ne_eqb m 0 (λ h. g (h ∙ sym e))

      pub mode_regalign : {d : ℕ} → d ≡ 2 → (m ≡ d → ⊥) → s.size ≡ cut (mode_step m a s i)
      unfolding mode_step
      mode_regalign k h = rw (other, ne_eqb m 2 (λ q. h (q ∙ sym k))) (cut_stays s.size f.sized.1)

      module _ {d : ℕ} {b : Bool} (k : d ≡ 2) (h : m ≡ d) (q : b ≡ is_array i.array) where
        pub mode_single : not b ≡ true → s.size ≡ cut (mode_step m a s i)
        unfolding mode_step
        mode_single n = rw (other, eq-eqb m 2 (h ∙ k), ← q, turned b n) (cut_stays s.size f.sized.1)

        pub mode_array : {span r : ℕ} → not b ≡ false → span ≡ cut (span_of a s i) → r ≡ cut (power_above span) → r ≡ cut (mode_step m a s i)
        unfolding mode_step
        mode_array n u v = rw (other, eq-eqb m 2 (h ∙ k), ← q, turned b n) (v ∙ (alike_power (alike_of (span_of a s i) u)).same)

    mode_positive : {r : ℕ} → r ≡ cut (mode_step m a s i) → 1 ≤ r
    mode_positive e = rw e (cut_positive (mode_step m a s i) (mode_low a s i f.sized.0 f.accessed.0 m))

    module _ {own step standard r : ℕ} (e : own ≡ or_else 1 a) (g : step ≡ cut (mode_step m a s i)) (h : standard ≡ cut (common_multiple own step)) (k : r ≡ stride_or i.alignment standard) where
      given : (1 ≤ stride_or i.alignment 1) × (stride_or i.alignment 1 ≤ alignment_limit)
      given = rw (or_same i.alignment 1) (sound_step f.kind i f.addressed f.sound)

      pub step_high : r ≤ cap
      step_high = rw k (or_high i.alignment standard (omega (arith, given)) (cut_capped (common_multiple own step) h))

      pub step_done : r ≡ cut (step_of m a s i)
      unfolding step_of
      step_done =
          let n : ℕ = mode_step m a s i in
          let w : standard ≡ cut (common_multiple (or_else 1 a) n) =
          (rw e at h) ∙ (alike_common (alike_of n g) (or_else 1 a) f.aligned (mode_positive g) (mode_low a s i f.sized.0 f.accessed.0 m)).same in
          alike_done (rw (k, or_same i.alignment standard) (alike_step (alike_of (common_multiple (or_else 1 a) n) w) i.alignment)) step_high

      pub step_positive : 1 ≤ r
      step_positive =
          rw step_done (cut_positive (step_of m a s i) (step_low m a s i f.aligned f.sized.0 f.accessed.0 (sound_step f.kind i f.addressed f.sound).0))

    pub starts_low : {at : Option Offset} {end r : Offset} {step : ℕ} → at ≡ start_of i.address → StartsAt at end step r → r.0 ≤ cap
    starts_low e g = g.low (rw e (sound_start f.kind i f.addressed f.sound))

    pub lay_done : (end : Offset) {at : Option Offset} {from : Offset} {step stride span past : ℕ} → at ≡ start_of i.address → step ≡ cut (step_of m a s i) → 1 ≤ step → StartsAt at end step from
        → stride ≡ cut (stride_of a s i) → span ≡ cut (span_of a s i) → past ≡ cut (from.0 + span)
        → record { start = from; stride = stride; end = record { 0 = past } } ≡ cut_laid (laid m a s i end)
    unfolding laid
    lay_done end {from = from} {step = step} {past = past} e g p h u v w =
        let at : Option Offset = start_of i.address in
        let t : ℕ = step_of m a s i in
        let l : 1 ≤ t = step_low m a s i f.aligned f.sized.0 f.accessed.0 (sound_step f.kind i f.addressed f.sound).0 in
        let q : from ≡ cut_offset (start_after at end step) = (rw e at h).each (sound_start f.kind i f.addressed f.sound) in
        let x : from ≡ cut_offset (start_after at end t) = q ∙ ap (λ (n : ℕ). record { 0 = n }) (alike_start (alike_self end.0) at p l (alike_of t g)).same in
        let y : past ≡ cut ((start_after at end t).0 + span_of a s i) = w ∙ (alike_sum (alike_of (start_after at end t).0 (ap (λ (o : Offset). o.0) x)) (alike_of (span_of a s i) v)).same in
        rw (y, x, u)

-- where an instance starts
at_below : {at : Option Offset} {o : Offset} → at ≡ Some o → StartBelow at → o.0 < cap
at_below e start_free = absurd cc
at_below {o = o} e (start_at {o = p} l) =
    let q : p ≡ o = cc in
    rw q at l

module _ (at : Option Offset) (end : Offset) (step : ℕ) where
  pub starts_at : {o : Offset} → at ≡ Some o → StartsAt at end step o
  starts_at {o = o} e =
      record {
        each = λ b. rw e (ap (λ (n : ℕ). record { 0 = n }) (sym (cut_low o.0 (at_below e b))));
        low = λ b. omega (arith, at_below e b);
      }

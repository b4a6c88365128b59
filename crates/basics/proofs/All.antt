-- Laws of what holds of all of a list.
use mathlib.Core.List.{List, ◌++◌}
use Prim.Native.Nat.{ℕ, zero, suc, ◌<◌}
use native.Mathlib.Omega.{arith}
use lib.ListN.{length, get_or}
use Rattle.basics.specs.All.{All, all_none, all_more}

pub all_append : {A : Type 0} {P : A → Type 0} {xs ys : List A} → All P xs → All P ys → All P (xs ++ ys)
all_append all_none b = b
all_append (all_more p a) b = all_more p (all_append a b)

pub all_map : {A : Type 0} {P Q : A → Type 0} {xs : List A} → ((x : A) → P x → Q x) → All P xs → All Q xs
all_map f all_none = all_none
all_map f (all_more {x = x} p a) = all_more (f x p) (all_map f a)

pub all_both : {A : Type 0} {P Q : A → Type 0} {xs : List A} → All P xs → All Q xs → All (λ (x : A). P x × Q x) xs
all_both all_none all_none = all_none
all_both (all_more p a) (all_more q b) = all_more (p, q) (all_both a b)

pub all_at : {A : Type 0} {P : A → Type 0} {xs : List A} (d : A) (i : ℕ) → All P xs → i < length xs → P (get_or xs i d)
all_at d i all_none h = absurd (omega arith)
all_at d zero (all_more p a) h = p
all_at d (suc i) (all_more p a) h = all_at d i a (omega (arith, h))

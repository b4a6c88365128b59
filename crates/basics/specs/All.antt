-- What holds of all of a list, and what stands in it.
use Rattle.std.specs.Prelude.{List, [], ◌∷◌}

pub data All {A : Type 0} (P : A → Type 0) : List A → Type 0 where
  all_none : All P []
  all_more : {x : A} {xs : List A} → P x → All P xs → All P (x ∷ xs)

pub data In {A : Type 0} (x : A) : List A → Type 0 where
  in_here : {xs : List A} → In x (x ∷ xs)
  in_later : {y : A} {xs : List A} → In x xs → In x (y ∷ xs)

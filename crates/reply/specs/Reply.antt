-- What the program answers: "its listing, or one line such as `refused=10 at=0`; .. a longer listing is 22".
use Rattle.std.specs.Prelude.{◌≡◌, List, [], ◌∷◌, ◌++◌, ℕ, ltb, length, take}
use Rattle.chars.specs.Ascii.{bytes}
use Rattle.std.specs.Prelude.{if◌then◌else◌}
use Rattle.basics.specs.Judged.{Judged, fault, fine, Outcome, gave, barred}
use Rattle.rows.specs.Rows.{Map}
use Rattle.lines.specs.Text.{decimal}
use Rattle.listing.specs.Listing.{listing_of}
use Rattle.compile.specs.Compiled.{compiled, over}

-- the line of a refusal
unfoldable pub refusal_line : ℕ → ℕ → List ℕ
refusal_line n p = bytes "refused=" ++ (decimal n ++ (bytes " at=" ++ (decimal p ++ (10 ∷ []))))

-- what is shown of a compiled text, with so much room
unfoldable pub shown : ℕ → Judged Map → List ℕ
shown room (fault n p) = refusal_line n p
shown room (fine m) = if ltb room (length (listing_of m)) then refusal_line 22 0 else listing_of m

-- the answer to a text; a line of refusal is cut where not even it has room
unfoldable pub reply_to : ℕ → List ℕ → List ℕ
reply_to room text = take room (shown room (compiled text))

-- what is shown of rows
abbrev pub shown_of : List ℕ → Outcome ℕ → List ℕ
shown_of bytes (barred n) = refusal_line n 0
shown_of bytes (gave n) = bytes

-- an output that has these bytes at its start, as far as it goes, and then its old rest
pub record Shows (before after bytes : List ℕ) (count : ℕ) : Type 0 where
  pub count_of : count ≡ length (take (length before) bytes)
  pub written : after ≡ over (take (length before) bytes) before

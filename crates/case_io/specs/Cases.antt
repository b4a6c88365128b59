-- What is read of a pack of cases, each a text behind its length, and what is shown of them.
use Rattle.std.specs.Prelude.{◌≡◌, ℕ, suc, List, [], ◌++◌, length, take, Option, None, Some, Result, Ok}
use Rattle.std.specs.Counts.{IsPrefixLen}
use Rattle.std.specs.Int.{w32, from_le_bytes}
use Rattle.std.specs.Fn.{Mut, Called}
use Rattle.std.specs.Io.KnownBytes.{Consumes}
use Rattle.streams.specs.Filled.{LosesFront}
use denote.Ref.{Bor, MutBor}

-- four bytes that name a number, the lowest first
pub record Names (head : List ℕ) (number : ℕ) : Type 0 where
  pub four : length head ≡ 4
  pub value : from_le_bytes w32 head ≡ number

-- the known bytes have lost a length; or some of one, at the end
abbrev pub LosesLength : Option (List ℕ) → Option (List ℕ) → Option ℕ → Type 0
LosesLength old new None = LosesFront old new
LosesLength old new (Some n) = (head : List ℕ) × Names head n × Consumes old new head

-- a part of this length stands at the start of the room, and the known bytes have lost it; or there is none, and they have lost some
abbrev pub LosesPart : Option (List ℕ) → Option (List ℕ) → List ℕ → Option ℕ → Type 0
LosesPart old new room None = LosesFront old new
LosesPart old new room (Some n) = IsPrefixLen n room × Consumes old new (take n room)

-- the same, with its length before it
abbrev pub LosesText : Option (List ℕ) → Option (List ℕ) → List ℕ → Option ℕ → Type 0
LosesText old new room None = LosesFront old new
LosesText old new room (Some n) = IsPrefixLen n room × ((head : List ℕ) × Names head n × Consumes old new (head ++ take n room))

module _ {F W E : Type 0} (g : Mut F (MutBor W × (ℕ × (Bor (List ℕ) × Unit {0}))) (Result Unit E × (MutBor W × Unit {0}))) where
  -- the call at a writer, a case's number and its text may succeed, and leave the closure and the writer so
  pub record Shown (f : F) (w : W) (case : ℕ) (text : List ℕ) (f' : F) (w' : W) : Type 0 where
    pub writer : MutBor W
    pub writes : writer.now ≡ w
    pub lent : Bor (List ℕ)
    pub lends : lent.now ≡ text
    pub left : MutBor W
    pub called : Called g f (writer, (case, (lent, tt))) (Ok tt, (left, tt)) f'
    pub leaves : left.now ≡ w'

  -- so many texts stand in these bytes, each behind its length, and one call after another was made at them
  pub data ShownAll (f : F) (w : W) : List ℕ → ℕ → F → W → Type 0 where
    shown_none : ShownAll f w [] 0 f w
    shown_more : {bytes head text : List ℕ} {n : ℕ} {g h : F} {v u : W}
        → ShownAll f w bytes n g v → Names head (length text) → Shown g v n text h u → ShownAll f w (bytes ++ (head ++ text)) (suc n) h u

  -- whole texts were lost at the front of the known bytes, and perhaps some bytes behind them, and a call was made at each text
  abbrev pub RunsCases : Option (List ℕ) → Option (List ℕ) → F → W → W → Type 0
  RunsCases old new f w w' = (bytes : List ℕ) × (rest : List ℕ) × (n : ℕ) × (f' : F) × Consumes old new (bytes ++ rest) × ShownAll f w bytes n f' w'

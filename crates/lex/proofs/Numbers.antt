-- What the word stage answers for a text, as a verdict and in numbers.
use mathlib.Core.Path.{◌≡◌, ap}
use mathlib.Core.List.{List}
use Prim.Native.Nat.{ℕ, ◌+◌, ◌<◌, ◌≤◌}
use lib.ListN.{length}
use borrow.Author.Tests.{lt-ltb, le-ltb}
use Rattle.basics.specs.Limits.{text_limit}
use Rattle.lex.specs.Words.{first_bad, words_verdict, verdict_numbers, words_numbers}
use Rattle.basics.specs.Judged.{Verdict, Refused}

module _ (t : List ℕ) {r : Verdict} where
  answered : r ≡ words_verdict t → (r ≡ words_verdict t) × (verdict_numbers r ≡ words_numbers t)
  unfolding words_numbers
  answered e = (e, ap verdict_numbers e)

  long : text_limit < length t → r ≡ Refused 1 0 → r ≡ words_verdict t
  unfolding words_verdict
  long h e = rw (lt-ltb _ _ h) e

  first : length t ≤ text_limit → r ≡ first_bad (length t + 1) t 0 → r ≡ words_verdict t
  unfolding words_verdict
  first h e = rw (le-ltb _ _ h) e

  pub words_long : text_limit < length t → r ≡ Refused 1 0 → (r ≡ words_verdict t) × (verdict_numbers r ≡ words_numbers t)
  words_long h e = answered (long h e)

  pub words_first : length t ≤ text_limit → r ≡ first_bad (length t + 1) t 0 → (r ≡ words_verdict t) × (verdict_numbers r ≡ words_numbers t)
  words_first h e = answered (first h e)

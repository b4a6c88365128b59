-- The first refusal of a text by 1, 2 and 4 (document 01, "Refusal numbers").
use Rattle.std.specs.Prelude.{Bool, true, false, List, [], ◌∷◌, ℕ, zero, suc, ◌+◌, ltb, length, Option, Some, None, Result, Ok, Err}
use Rattle.std.specs.Prelude.{if◌then◌else◌}
use Rattle.basics.specs.Limits.{text_limit}
use Rattle.lex.specs.Token.{token_at}
use Rattle.lex.specs.declared.Token.{Token}
use Rattle.lex.specs.declared.Cause.{Cause}
use Rattle.lex.specs.declared.Cause.TheVariants as cause
use Rattle.lex.specs.declared.Word.{Word}
use Rattle.lex.specs.declared.Word.TheVariants as word
use Rattle.basics.specs.Judged.{Verdict, Accepted, Refused, rule_number}
use Rattle.basics.specs.declared.Refusal.{Refusal}

-- the refusal's number for each cause: a bad word is 2, a keyword left out 4
abbrev pub cause_number : Cause → ℕ
cause_number cause.Unclosed = 2
cause_number cause.Malformed = 2
cause_number cause.TooWide = 2
cause_number cause.LeftOut = 4

-- a bad word is refused at "its first byte"; the end accepts
abbrev pub judged_word : Word → ℕ → Option Verdict
judged_word word.End p = Some Accepted
judged_word word.Name p = None
judged_word (word.Keyword k) p = None
judged_word (word.Number n) p = None
judged_word word.String p = None
judged_word (word.Mark m) p = None
judged_word (word.Bad c) p = Some (Refused (cause_number c) p)

abbrev pub judged : Token → Option Verdict
judged t = judged_word t.word t.start

-- what the code answers of a token: whether it ends the text, or its refusal
abbrev pub scanned : Result Bool Refusal → Option Verdict
scanned (Ok true) = Some Accepted
scanned (Ok false) = None
scanned (Err r) = Some (Refused (rule_number r.rule) r.at)

abbrev pub stepped : Option Verdict → Verdict → Verdict
stepped (Some v) rest = v
stepped None rest = rest

-- the first bad word among the next `tokens` tokens from the place `at` on
unfoldable pub first_bad : ℕ → List ℕ → ℕ → Verdict
first_bad zero text at = Accepted
first_bad (suc tokens) text at =
    let rest = first_bad tokens text (token_at text at).end in
    stepped (judged (token_at text at)) rest

-- 1 at 0; then the first bad word. (Each token has a byte at least, so there are no more tokens than bytes, and the end.)
unfoldable pub words_verdict : List ℕ → Verdict
words_verdict text = if ltb text_limit (length text) then Refused 1 0 else first_bad (length text + 1) text 0

-- a verdict in document 01's numbers: the refusal and its place, 0 and 0 where there is none
abbrev pub verdict_numbers : Verdict → List ℕ
verdict_numbers Accepted = 0 ∷ 0 ∷ []
verdict_numbers (Refused n p) = n ∷ p ∷ []

unfoldable pub words_numbers : List ℕ → List ℕ
words_numbers text = verdict_numbers (words_verdict text)

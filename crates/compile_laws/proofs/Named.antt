-- The names of every text that keeps the rules are names of document 01.
use mathlib.Core.Path.{◌≡◌, refl}
use mathlib.Core.List.{List}
use Prim.Native.Nat.{ℕ}
use Rattle.lex.specs.Words.{words_verdict}
use Rattle.parts.specs.Reading.{Parsed, ok, stop}
use Rattle.syntax.specs.Tree.{Body}
use Rattle.syntax.specs.Grammar.{file_at}
use Rattle.basics.specs.Judged.{fine, Verdict, Accepted, Refused}
use Rattle.rules.specs.Judge.{Meaning, judge}
use Rattle.rules.specs.Rules.{after_words, after_sentences, ruled}
use Rattle.definition_laws.proofs.Sensible.{judge_sensible}
use Rattle.compile_laws.specs.Named.{NamedMeaning}
use Rattle.compile_laws.proofs.Readings.{BodyNamed, file_named}
use Rattle.compile_laws.proofs.Judging.{judge_named, judge_titled}

-- a text that keeps the words, the sentences and the rules: its tree, and what the judge says of it
pub record Stages (text : List ℕ) (m : Meaning) : Type 0 where
  pub tree : Body
  pub end : ℕ
  pub words : words_verdict text ≡ Accepted
  pub reads : file_at text ≡ ok tree end
  pub judged : judge text tree ≡ fine m

pub ruled_stages : (text : List ℕ) (m : Meaning) → ruled text ≡ fine m → Stages text m
unfolding ruled
ruled_stages text m e = by (words_verdict text) (file_at text) refl refl e
  where
    by : (v : Verdict) (p : Parsed Body) → words_verdict text ≡ v → file_at text ≡ p → after_words v (after_sentences text p) ≡ fine m → Stages text m
    by Accepted (ok b n) f g h = record { tree = b; end = n; words = f; reads = g; judged = h }
    by Accepted (stop n q) f g h = cc
    by (Refused n q) p f g h = cc

pub ruled_named : (text : List ℕ) (m : Meaning) → ruled text ≡ fine m → NamedMeaning text m
ruled_named text m e =
    let s = ruled_stages text m e in
    let h : BodyNamed text s.tree = file_named text s.reads in
    record { each = judge_named text h s.judged; title = judge_titled text h s.judged (judge_sensible text s.tree s.judged) }

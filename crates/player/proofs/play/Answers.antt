use borrow.Author.Rules.{rules}
use Rattle.player.proofs.Parts.{playing_start, playing_on, playing_progress, playing_store, playing_text}
use Rattle.player.proofs.play.Goals as goal

pub loop-byte-init : goal.loop-byte-init
loop-byte-init c = playing_start _ _ _ _ _ _ _

pub loop-byte-preserved : goal.loop-byte-preserved
loop-byte-preserved c = search (rules, playing_on)

pub returns : goal.returns
returns c =
    let played = c.loop-byte.invariant in
    let over = c.loop-byte-test.false in
    record { progress = playing_progress _ _ _ _ _ _ _ played over; stored = playing_store _ _ _ _ _ _ _ played over; written = playing_text _ _ _ _ _ _ _ played over }

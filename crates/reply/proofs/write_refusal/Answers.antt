-- Five pieces, poured one after another, are the line of a refusal.
use Rattle.reply.proofs.Showing.{refusal-shown}
use Rattle.reply.proofs.write_refusal.Goals as goal

pub returns : goal.returns
returns c =
    refusal-shown _ _ c.put_bytes-sink.ensures c.put_decimal-sink.ensures c.put_bytes-sink-2.ensures c.put_decimal-sink-2.ensures c.put_bytes-sink-3.ensures

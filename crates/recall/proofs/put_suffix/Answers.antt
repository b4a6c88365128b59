-- Five cells set one after another are those of the suffix.
use Rattle.recall.proofs.Encoding.{suffix_put}
use Rattle.recall.proofs.put_suffix.Goals as goal

pub returns : goal.returns
returns c =
    suffix_put _ _ c.args.suffix c.encoded_of-encoded.ensures c.put.ensures c.put-2.ensures
    c.put-3.ensures c.put-4.ensures c.put-5.ensures

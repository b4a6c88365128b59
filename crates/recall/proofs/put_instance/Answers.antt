-- The cells of the name and of six suffixes, written one after another, are those of the instance.
use Rattle.recall.proofs.Encoding.{instance_put}
use Rattle.recall.proofs.put_instance.Goals as goal

pub returns : goal.returns
returns c =
    instance_put _ _ c.args.instance c.left_of.ensures c.right_of.ensures c.put.ensures c.put-2.ensures
    c.put_suffix.ensures c.put_suffix-2.ensures c.put_suffix-3.ensures c.put_suffix-4.ensures c.put_suffix-5.ensures c.put_suffix-6.ensures

use Rattle.case_io.proofs.Cases.{front_of_length, text_of, lost_before}
use Rattle.case_io.proofs.read_text.Goals as goal

pub returns-clause-ok : goal.returns-clause-ok
returns-clause-ok g c = text_of _ _ _ _ _ _ c.in_ok-length.ensures.ok c.read_part.ensures.ok c.read_part.ensures.same

pub returns-clause-err : goal.returns-clause-err
returns-clause-err g c = lost_before _ _ _ _ _ (front_of_length _ _ _ c.in_ok-length.ensures.ok) c.read_part.ensures.err

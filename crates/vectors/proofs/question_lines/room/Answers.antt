-- `vectors::question_lines::room` meets its contract: the octets are put at the start of an array of zeros.
use Rattle.vectors.specs.Questions.{room_of}
use Rattle.vectors.proofs.question_lines.room.Goals as goal

pub returns-clause-octets : goal.returns-clause-octets
unfolding room_of
returns-clause-octets c = c.put.ensures

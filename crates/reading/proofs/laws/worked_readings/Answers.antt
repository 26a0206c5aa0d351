use Rattle.reading.proofs.Worked.{stand}
use Rattle.reading.proofs.laws.worked_readings.Goals as goal

pub returns-clause-stand : goal.returns-clause-stand
returns-clause-stand c = stand

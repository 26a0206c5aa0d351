-- The worked readings are computed.
use Rattle.std.proofs.Common.{refl}
use Rattle.form.specs.Tables.{record_table, joined, settled}
use Rattle.reading.specs.Worked.{Stand, worked}

pub stand : Stand worked
unfolding record_table joined settled
stand = refl

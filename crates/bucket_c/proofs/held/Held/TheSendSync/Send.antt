use denote.Param.Send.{IsSend}
use Rattle.bucket_c.proofs.Crosses.{Held-send}
use Rattle.bucket_c.specs.contracts.held.Held.{the_row}

pub send : IsSend the_row
send = Held-send

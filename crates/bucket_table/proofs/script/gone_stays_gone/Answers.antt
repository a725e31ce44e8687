use Rattle.bucket_table.proofs.Scripts.TicketLaws.{gone}
use Rattle.bucket_table.proofs.script.gone_stays_gone.Goals as goal

pub returns : goal.returns
returns g c = λ calls replies last all ran. gone calls replies last all ran

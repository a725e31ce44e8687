-- What a table reports about itself, by its arrays.
use Rattle.std.proofs.Common.{◌≡◌, ℕ, nat_eq, refl}
use Rattle.bucket_table.specs.Views.ArraysView.{IsOneMap, TableView}
use Rattle.bucket_table.specs.Scripts.Hashes.{script_hash}
use Rattle.bucket_table.specs.declared.script.hashes.ScriptHash.{ScriptHash}
use Rattle.bucket_table.specs.declared.script.reply.Reply.{Reply}
use Rattle.bhtable.specs.Answers.{Tells, told}
use Rattle.bhtable.specs.Layout.Sessions.{seen}
use Rattle.bhtable.specs.declared.request.Question.{Question}

pub tells : (kind : ℕ) (table : TableView ℕ ℕ ScriptHash) (question : Question) (reply : Reply ℕ ℕ)
    → IsOneMap nat_eq (script_hash table.hasher) table.arrays → reply ≡ told table.arrays question → Tells (seen kind table) question reply
tells kind table question reply one_map told_is =
    (table.arrays, record { one_map = one_map; map = refl; tickets = refl; len = refl }, told_is)

-- A handle may be sent to another thread, whatever it holds.
use base.Fraction.{full_share}
use base.Shift.{Keyless}
use denote.Exit.{Exit, unchanged, leaves, hidden, under}
use denote.Memory.{lone}
use denote.Param.Send.{IsSend, AllSend, Quiet, owning_send, part_keyless, struct_send, sendable}
use denote.Param.SendFields.{variants_send}
use denote.RattleType.{RattleType}
use denote.RawPtr.{Ptr, block_ptr, null_ptr, lies_at}
use denote.Struct.Owning.{shape, fields, to}
use denote.Struct.Struct.{exits_of}
use mir.Raw.{raw}
use Rattle.std.specs.Prelude.{Option, Some, None}
use Rattle.std.specs.declared.alloc.Global.{Global}
use Rattle.std.proofs.Crossing.{crosses, frees}
use Rattle.bucket_table.proofs.key_hash.std_hash.StdHash.TheSendSync as hash
use Rattle.collections.proofs.Crosses.{HashCache-send, HashMap-send, HashSet-send}
use Rattle.bucket_calls.proofs.seed.Beginning.TheSendSync as beginning
use Rattle.bucket_calls.proofs.seed.SeededHasher.TheSendSync as hasher
use Rattle.bucket_c.specs.Owning.{owned}
use Rattle.bucket_c.specs.contracts.held.Held as held
use Rattle.bucket_c.specs.contracts.tables.Table as table

quiet : {D X : Type 0} (f : D → X) (e : Exit X) → Quiet e → Quiet (hidden (under f e))
quiet f unchanged q = λ x w. tt
quiet f (leaves L l S s r₀) q = λ d. q (f d)

lies : (R : RattleType) → IsSend R → (p : Ptr) (x : R.Denot) → Keyless (lies_at R full_share p x)
lies R s (block_ptr b o) x = part_keyless R s full_share x b o
lies R s null_ptr x = tt

-- one search for each kind: a single one over all kinds repeats the earlier ones whenever a later one exceeds the depth
ruleset each_kind = (HashMap-send, HashSet-send, HashCache-send, hash.the_send, beginning.the_send, hasher.the_send, crosses, sendable)

Table-send : IsSend table.the_row
Table-send =
    variants_send
    table.enum (
      (search each_kind depth 30, tt),
      (
        (search each_kind depth 30, tt),
        (
          (search each_kind depth 30, tt),
          (
            (search each_kind depth 30, tt),
            (
              (search each_kind depth 30, tt),
              (
                (search each_kind depth 30, tt),
                ((search each_kind depth 30, tt), tt),
              ),
            ),
          ),
        ),
      ),
    )

owned-Keyless : (alloc : Global) (at : Ptr) (held : Option table.the_row.Denot) → Keyless (owned alloc at held)
owned-Keyless alloc at None = tt
owned-Keyless alloc at (Some kept) = (lies table.the_row Table-send at kept, frees.frees alloc (raw (lone table.the_row.mir)) at)

pub Held-send : IsSend held.the_row
Held-send =
    let O = held.the_type in
    let all : AllSend (fields O) = (search sendable, (search (crosses, sendable) depth 20, tt)) in
    owning_send O all (λ d. owned-Keyless d.alloc d.at d.table)
    (λ k. quiet (to O) (exits_of k (fields O)) ((struct_send (shape O) all).leaving k))

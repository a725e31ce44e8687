-- Digests of buckets, and what they record. No public clause cites this module.
use Rattle.std.specs.Prelude.{ℕ, ◌-◌, ◌^◌, ◌<◌, ◌≤◌, ◌≡◌, ◌≢◌, ◌⊎◌, true, List, [], Some, length, slice_index_or}
use Rattle.bucket_slots.specs.ArrayView.{bucket_at}
use Rattle.bucket_slots.specs.BucketView.{BucketView}
use Rattle.bucket_slots.specs.Masks.{IsMaskOf}
use Rattle.bucket_slots.specs.Slots.{byte_of, is_live, slot_at}

-- a bitmap of live own slots, and the bytes of the own slots
pub record Digest : Type 0 where
  pub live : ℕ
  pub bytes : List ℕ

-- digests as two lists
pub record DigestLists : Type 0 where
  pub lives : List ℕ
  pub bytes : List (List ℕ)

-- the digest at an index; it is stale past the end
abbrev pub digest_at : DigestLists → ℕ → Digest
digest_at lists index = record { live = slice_index_or lists.lives index (2 ^ 32 - 1); bytes = slice_index_or lists.bytes index [] }

-- a digest whose bitmap is all ones is stale
abbrev pub IsStale : Digest → Type 0
IsStale digest = digest.live ≡ 2 ^ 32 - 1

-- all digests from an index on are stale
abbrev pub KnowsNone : ℕ → DigestLists → Type 0
KnowsNone from digests = (index : ℕ) → from ≤ index → IsStale (digest_at digests index)

-- only one digest changes
abbrev pub ChangesOne : ℕ → DigestLists → DigestLists → Type 0
ChangesOne index old new = (i : ℕ) → i ≢ index → digest_at new i ≡ digest_at old i

-- the digest is stored, or it is stale
abbrev pub Refreshes : ℕ → List ℕ → Digest → Type 0
Refreshes live bytes digest = IsStale digest ⊎ (digest ≡ record { live = live; bytes = bytes })

-- the bits of the bitmap are the live own slots, the digest has their bytes, and there is no chain
pub record IsDigest {K V : Type 0} (digest : Digest) (bucket : BucketView K V) : Type 0 where
  pub mask : IsMaskOf is_live bucket.own digest.live
  pub bytes : (pos : ℕ) → is_live (slot_at bucket.own pos) ≡ true
      → byte_of (slot_at bucket.own pos) ≡ Some (slice_index_or digest.bytes pos 0)
  pub bytes_long : length digest.bytes ≡ 32
  pub own_long : length bucket.own ≡ 32
  pub chainless : bucket.chain ≡ []

-- each digest that isn't stale is that of its bucket, and then the array has more than four buckets
abbrev pub AreDigests : {K V : Type 0} → DigestLists → List (BucketView K V) → Type 0
AreDigests digests buckets =
    (index : ℕ) → (digest_at digests index).live ≢ 2 ^ 32 - 1
    → (4 < length buckets) × IsDigest (digest_at digests index) (bucket_at buckets index)

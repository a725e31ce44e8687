-- The arrays after a bucket was found for a writer: they were prepared, and may have grown then.
use Rattle.bucket_table.specs.declared.arrays.side.Side.{Side}
use Rattle.bucket_table.specs.declared.arrays.side.Side.TheVariants.{Current, Old}
use Rattle.bucket_table.specs.declared.hash_table.ResizeRule.{ResizeRule}
use Rattle.std.proofs.Common.{ℕ, ◌≡◌, ◌*◌, inl, inr, length, refl, subst, sym, arith}
use Rattle.std.proofs.lemmas.Bool.{cases_lt}
use Rattle.bucket_table.specs.Map.Finding.{MakesReady, ReadiesOrGrows, ReadiesThenGrows}
use Rattle.bucket_table.specs.Resize.Growing.{Grows}
use Rattle.bucket_table.specs.Resize.Overfull.{GrowsOverfull}
use Rattle.bucket_table.specs.Views.ArraysView.{ArraysView}
use Rattle.bucket_table.specs.Views.Keeping.{Keeps}
use Rattle.bucket_table.specs.Views.Sides.{buckets_on}
use Rattle.bucket_table.proofs.CallerLemmas.{keeps_same, made_keeps}

module _ {K V : Type 0} where
  -- the prepared arrays, which are now the old ones if they grew
  pub record IsFound (old : ArraysView K V) (side : Side) (index : ℕ) (new : ArraysView K V) : Type 0 where
    pub ready : ArraysView K V
    pub makes : MakesReady old index ready
    pub grown : Grows side ready new

  -- an overfull bucket is prepared
  pub overfull_ready : (hash index : ℕ) (old new : ArraysView K V) → GrowsOverfull hash old new → MakesReady old index old
  overfull_ready hash index old new grows =
      let alone = grows.overfull.bucket.alone in record {
        first = λ none. (λ stands. refl, λ lacks. absurd (omega (arith, lacks, grows.overfull.bucket.home.within)));
        beside = λ some. absurd (omega (arith, some, alone));
        units = record { stands = λ some. absurd (omega (arith, some, alone)); only = λ i alive. inr alive };
        killed = λ i below source. absurd (omega (arith, below, alone));
      }

  pub found : (rule : ResizeRule) (kind hash : ℕ) (old : ArraysView K V) (side : Side) (index : ℕ) (new : ArraysView K V)
      → ReadiesOrGrows rule kind hash old side index new → IsFound old side index new
  unfolding ReadiesOrGrows ReadiesThenGrows
  found rule kind hash old side index new (inl readies) = record { ready = readies.0; makes = readies.1; grown = readies.3 }
  found rule kind hash old side index new (inr (overfull, on, grows)) = record {
    ready = old;
    makes = overfull_ready hash index old new grows;
    grown = subst (λ (s : Side). Grows s old new) (sym on) (64 * length old.current, grows.pushed);
  }

  -- the same map
  pub ready_keeps : (old : ArraysView K V) (index : ℕ) (ready : ArraysView K V) → MakesReady old index ready → Keeps old ready
  ready_keeps old index ready makes = elim (cases_lt 0 (length old.linked)) [
    | inl some ↦ (makes.beside some).keeps
    | inr none ↦
        let first = makes.first (omega (arith, none)) in
        elim (cases_lt 0 (length old.current)) [
          | inl stands ↦ rw (first.0 stands) (keeps_same old)
          | inr lacks ↦ made_keeps old ready (first.1 (omega (arith, lacks)))
        ]
  ]

  -- the side of the bucket is the array that was current
  pub same_buckets : (side : Side) (ready new : ArraysView K V) → Grows side ready new → buckets_on new side ≡ ready.current
  same_buckets Old ready new (capacity, pushed) = rw pushed.new_is refl
  same_buckets Current ready new same = rw same refl

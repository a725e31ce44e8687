use Rattle.bucket_table.proofs.Resize.Asked.{none_from}
use Rattle.bucket_table.proofs.arrays.Arrays.has_full_home.Goals as goal

pub returns : goal.returns
returns g c = (
  λ many. record {
    index = c.home-index.result;
    alone = none_from c.has_old.ensures c.if-has_old.false;
    home = c.home-index.ensures;
    full = rw (← c.bucket_of.ensures) (c.is_overfull.ensures.0 many);
  },
  λ asks.
      let one = c.home-index.ensures.the_one asks.index asks.home.own in
      c.is_overfull.ensures.1 (rw (one, ← c.bucket_of.ensures) at asks.full),
)

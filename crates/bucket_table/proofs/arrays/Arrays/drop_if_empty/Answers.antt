use Rattle.bucket_table.proofs.Words.{ap, sym, ◌∙◌}
use Rattle.bucket_table.proofs.Map.CountSteps.{dropped}
use Rattle.bucket_table.proofs.Resize.Settling.{resizes_asked}
use Rattle.bucket_table.proofs.arrays.Arrays.drop_if_empty.Goals as goal

pub returns : goal.returns
returns g c =
    let least = sym (ap (λ a. a.minimum) c.self.view_is) ∙ c.if-self-ne0.false in
    let still = dropped c.args.self.now c.try_resize.new.self c.try_resize.result c.try_resize.ensures.resized c.requires.empty least in
    record {
      kept = c.try_resize.ensures.kept;
      linked = still.0;
      tickets = still.1;
      resized = resizes_asked _ _ c.try_resize.result (c.requires.empty, least) c.try_resize.ensures.resized;
      placed = c.try_resize.ensures.placed;
    }

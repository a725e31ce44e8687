use Rattle.std.proofs.Common.{ℕ, ◌≡◌, map, sym}
use Rattle.std.specs.Map.{keys_of}
use Rattle.bucket_calls.specs.Copying.{key_piece}
use Rattle.bucket_calls.specs.Steps.{next_text}
use Rattle.bucket_calls.proofs.CopiedTexts.{texts_copied}
use Rattle.bucket_calls.proofs.Folds.{folds-map}
use Rattle.bucket_calls.proofs.KeysCalled.{keys_called}
use Rattle.bucket_calls.proofs.copying.copy_keys.Goals as goal

pub returns : goal.returns
returns c =
    let went = keys_called {A = ℕ × ℕ × ℕ} _ (λ s. (s.0.now, s.1.now, s.2.now)) (λ s. (s.0.ghost_name, s.1.ghost_name, s.2.ghost_name))
    (λ before key after. after ≡ next_text before (key_piece key)) _ _ _ c.for_each_ref.ensures.calls
    (λ s own t kept e. ((λ i. (e.met.0.0 i, e.met.0.1 i, e.met.0.2 i)), e.met.1)) in
    let keys = keys_of c.args.set.now.entries in
    texts_copied c.args.start c.args.rows.now c.args.bytes.now (map key_piece keys) _
    (folds-map next_text key_piece _ keys _ went.1)
    (c.place-2-1.given.1 (λ i. (sym went.0 i).0)) (c.rows-1.given.1.1 (λ i. (sym went.0 i).1))
    (c.bytes-1.given.1.1 (λ i. (sym went.0 i).2))

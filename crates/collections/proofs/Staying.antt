-- The map stays, and then a call does something to it: so the call does that to the earlier map.
use Rattle.std.proofs.Common.{Bool, cond, Option, Some, ◌∷◌, ◌≡◌, sym, ap, ◌+◌, ◌∙◌}
use Rattle.std.proofs.lemmas.List.Sorted.{IsPermutation-cons, IsPermutation-trans}
use Rattle.collections.specs.Changes.{Adds, Keeps, Replaces, Stays}
use Rattle.collections.specs.Maps.{MapView, get_by}

module _ {K V H : Type 0} (eq : K → K → Bool) (old between new : MapView K V H) (first : Stays eq old between) where
  keeps_after : Keeps eq between new → Keeps eq old new
  keeps_after kept = record {
    unique = kept.unique;
    hasher = kept.hasher ∙ first.kept.hasher;
    minimum = kept.minimum ∙ first.kept.minimum;
    maximum = kept.maximum ∙ first.kept.maximum;
  }

  pub stays_after : Stays eq between new → Stays eq old new
  stays_after next = record {
    entries = IsPermutation-trans old.entries between.entries new.entries first.entries next.entries;
    len = next.len ∙ first.len;
    gets = λ q. next.gets q ∙ first.gets q;
    kept = keeps_after next.kept;
  }

  pub adds_after : (k : K) (v : V) → Adds eq between k v new → Adds eq old k v new
  adds_after k v added = record {
    absent = sym (first.gets k) ∙ added.absent;
    entries = IsPermutation-trans ((k, v) ∷ old.entries) ((k, v) ∷ between.entries) new.entries
        (IsPermutation-cons (k, v) old.entries between.entries first.entries) added.entries;
    len = added.len ∙ ap (λ n. n + 1) first.len;
    updates = λ q. added.updates q ∙ ap (λ (o : Option V). cond (eq k q) (Some v) o) (first.gets q);
    kept = keeps_after added.kept;
  }

  pub replaces_after : (matches : K → Bool) → get_by matches between ≡ get_by matches old → (p : K × V) (v : V)
      → Replaces eq between matches p v new → Replaces eq old matches p v new
  replaces_after matches gets p v replaced = record {
    same = replaced.same;
    value = sym gets ∙ replaced.value;
    rest = replaced.rest;
    before = IsPermutation-trans old.entries between.entries (p ∷ replaced.rest) first.entries replaced.before;
    after = replaced.after;
    len = replaced.len ∙ first.len;
    updates = λ q. replaced.updates q ∙ ap (λ (o : Option V). cond (matches q) (Some v) o) (first.gets q);
    kept = keeps_after replaced.kept;
  }

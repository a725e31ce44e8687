-- Lines that can't be read.
use Rattle.std.proofs.Common.{◌≡◌, ℕ, ◌↔◌, inl, inr, List, Option, None, Some, IsSome, refl}
use Rattle.bhtable.specs.Answers.{IsUnreadable, ScriptTable}
use Rattle.bhtable.specs.Layout.Sessions.{table_at_hand, table_of}
use Rattle.bhtable.specs.declared.session.Table.{Table}

none_is_not_some : (table : Option Table) → table ≡ None → IsSome table → ⊥
none_is_not_some None none there = absurd (cc)
none_is_not_some (Some table) none there = absurd (cc)

some_is_not_none : (map : ScriptTable) → Some map ≡ None → ⊥
some_is_not_none map same = absurd (cc)

-- another table doesn't make it readable
pub still_unreadable : (old new : Option Table) (line : List ℕ) → (IsSome new ↔ IsSome old) → IsUnreadable (table_at_hand old) line
    → IsUnreadable (table_at_hand new) line
still_unreadable None None line same unreadable = unreadable
still_unreadable None (Some table) line same unreadable = absurd (none_is_not_some None refl (same.0 refl))
still_unreadable (Some table) new line same (inl long) = inl long
still_unreadable (Some table) new line same (inr words) =
    inr (words.0, λ request asks. absurd (some_is_not_none (table_of table) (words.1 request asks).0))

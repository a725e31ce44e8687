-- The names that most proofs use, from one place.
pub use Rattle.bucket_slots.proofs.ArrayNumbers.{scales}
pub use Rattle.bucket_slots.proofs.MarksAfter.{by-no_new, by-trans, no_new-refl, no_new-trans}
pub use Rattle.bucket_slots.proofs.PairsAfter.{length-entries_in, live_from_pair, live_not_free, map-entries_in, pairs_in-slots_vacated}
pub use Rattle.bucket_slots.proofs.PairsAfter.{read_apart}
pub use Rattle.bucket_slots.proofs.Entries.{rotated}
pub use Rattle.bucket_slots.specs.ArrayView.{IsNewArray, bucket_at}
pub use Rattle.bucket_slots.specs.BucketLaws.{IsBucketOf}
pub use Rattle.bucket_slots.specs.BucketView.{BucketView, Place, all_slots, block_at, bucket_with_value, empty_bucket, entries_in}
pub use Rattle.bucket_slots.specs.BucketView.{first_place, flattened, listed_pairs, marks_in, null_place, pairs_in, row_at, rows_with}
pub use Rattle.bucket_slots.specs.BucketView.{slot_in}
pub use Rattle.bucket_slots.specs.Clearing.{slots_after_insertion}
pub use Rattle.bucket_slots.specs.Evicting.{slots_evicted, slots_touched}
pub use Rattle.bucket_slots.specs.Homes.{IsHome, IsInInterval, IsInRange, Meets, interval_width}
pub use Rattle.bucket_slots.specs.Marking.{HasNoNewMark, MarksBy, slots_marked}
pub use Rattle.bucket_slots.specs.Moving.{slots_vacated}
pub use Rattle.bucket_slots.specs.Recency.{is_listed, order_without}
pub use Rattle.bucket_slots.specs.Removing.{slots_without}
pub use Rattle.bucket_slots.specs.Sampling.{IsLargeSample}
pub use Rattle.bucket_slots.specs.Sizing.{IsLeastPowerOfTwo, IsLength, IsLengthFor, IsOptimalCapacity}
pub use Rattle.bucket_slots.specs.Slots.{Slot, free, is_free, is_live, live, live_pair, live_pairs, marked, pair_of, slot_at}
pub use Rattle.bucket_slots.specs.Walking.{MovesToNext, pairs_ahead}
pub use Rattle.bucket_slots.specs.declared.bucket.TheConstants.{CACHE, INDEX}
pub use Rattle.std.proofs.Common.{Bool, Err, IfErr, IfNone, IfOk, IfSome, IsTrue, List, None, Ok, OnErr, OnOk, Option, Result, Some, ℕ, []}
pub use Rattle.std.proofs.Common.{ap, append-nil, arith, cond, drop, false, filter, get_or, get_or-set_other, if◌then◌else◌, inl, inr}
pub use Rattle.std.proofs.Common.{length, length-set, map, min, nat_le, nat_lt, not, refl, replicate, rules, set, subst, suc, sym, take}
pub use Rattle.std.proofs.Common.{true, zero, ⊎_elim, ◌%◌, ◌&&◌, ◌*◌, ◌++◌, ◌+◌, ◌-◌, ◌/◌, ◌<◌, ◌==◌, ◌^◌, ◌↔◌, ◌∙◌, ◌∷◌, ◌≡◌, ◌≢◌, ◌≤◌}
pub use Rattle.std.proofs.Common.{◌⊎◌}
pub use Rattle.std.proofs.Math.Nat.{div-lt_iff_lt-mul, mul-le-mul_right}
pub use Rattle.std.proofs.lemmas.Bool.{and_from, cases_Bool, cases_eq, cases_lt, eq-eqb, eqb-true, false_from_ne_true, false≢true, le-leb}
pub use Rattle.std.proofs.lemmas.Bool.{leb-true, lt-ltb, ltb-true, ne_eqb, not_from_false, not_from_true, or_left, or_right, true≢false}
pub use Rattle.std.proofs.lemmas.Grind.{common_steps}
pub use Rattle.std.proofs.lemmas.List.{append_assoc, drop_all, get_or-map, get_or-set_same, get_or_default, get_or_past, length-append}
pub use Rattle.std.proofs.lemmas.List.{length-map, map-append, map-set, nil_from_length, set-get_or, take_all, take_more}
pub use Rattle.std.proofs.lemmas.List.Elements.{All-append, All-cons, All-from_recursion, All-head, All-map, All-nil, All-tail}
pub use Rattle.std.proofs.lemmas.List.Elements.{Contains-append_cases, Contains-append_left, Contains-append_right, filter-append}
pub use Rattle.std.proofs.lemmas.List.Elements.{filter_agree, filter_map-append, recursion_from_All}
pub use Rattle.std.proofs.lemmas.List.Sorted.{All-permutation, Contains-permutation, IsPermutation-append_comm, IsPermutation-append_left}
pub use Rattle.std.proofs.lemmas.List.Sorted.{IsPermutation-append_right, IsPermutation-cons, IsPermutation-map, IsPermutation-middle}
pub use Rattle.std.proofs.lemmas.List.Sorted.{IsPermutation-refl, IsPermutation-sym, IsPermutation-trans, length_permutation}
pub use Rattle.std.proofs.lemmas.List.Sums.{sum_by-cons}
pub use Rattle.std.proofs.lemmas.Map.Keys.{IsDistinct-IsPermutation, IsDistinct-tail}
pub use Rattle.std.proofs.lemmas.Option.{same_Some}
pub use Rattle.std.specs.Cmp.{IsEquivalence}
pub use Rattle.std.specs.List.{All, AllByRecursion, Contains, IsDistinct, cons_option}
pub use Rattle.std.specs.List.Sorted.{IsPermutation}
pub use Rattle.bucket_table.specs.Layout.Landings.{CarriesRecency, HasLanded, ListsArrivals, StandsInChain, landing_of}
pub use Rattle.bucket_table.specs.Map.Counting.{counted_to}
pub use Rattle.bucket_table.specs.Map.LookingUp.{IsAbsent, IsThere, home_bucket, pairs_in_all}
pub use Rattle.bucket_table.specs.Map.MapState.{AddsPair, ChangesValue, KeepsPairs, MapState, TakesPair}
pub use Rattle.bucket_table.specs.Rehash.Rehashing.{EndsRehash, IsUnmoved, RelocatesAt}
pub use Rattle.bucket_table.specs.Rehash.Relocation.{AreHome, AreTwoArrays, IsEntryHome, IsVacant, KeepsEntries, KeepsPlaces, MovesInto}
pub use Rattle.bucket_table.specs.Rehash.Relocation.{entries_among, home_of, homed_len, marks_among}
pub use Rattle.bucket_table.specs.Rehash.State.{TicketState, first_tickets}
pub use Rattle.bucket_table.specs.Rehash.Steps.{Closes, Ends, HandsOut, IsOver, Starts}
pub use Rattle.bucket_table.specs.Rehash.Units.{HasWorkedUnits, KillsOnly, RelocatesSome, SpendsSome, NeedsMemory, WorksUnit, WorksUnits}
pub use Rattle.bucket_table.specs.Resize.Asking.{AsksShrinking, ResizesIf}
pub use Rattle.bucket_table.specs.Resize.ResizePlan.{IsPlan, IsPlanTo, last_estimate, slots_of}
pub use Rattle.bucket_table.specs.Resize.Sampling.{counted, live_counts}
pub use Rattle.bucket_table.specs.Views.ArraysView.{AreArrays, ArePlaced, AreSourcesKilled, ArraysView, IsOneMap, IsSource, LosesNoUnit}
pub use Rattle.bucket_table.specs.Views.ArraysView.{TableView, entries_of, killed_flags, list_of, tombstones_of, pairs_of}
pub use Rattle.bucket_table.specs.Views.Keeping.{Keeps, KeepsArrays, KeepsOpenTickets}
pub use Rattle.bucket_table.specs.Views.Locking.{IsLocked}
pub use Rattle.bucket_table.specs.Views.Sides.{arrays_with, bucket_on, buckets_on, with_bucket}
pub use Rattle.bucket_table.specs.Walking.Cursors.{HasNoneFrom, ShrinksThenPasses, bound_of}
pub use Rattle.bucket_table.specs.Walking.Visits.{reading}
pub use Rattle.bucket_table.specs.Walking.Walks.{has_home_in}
pub use Rattle.bucket_table.specs.declared.arrays.side.Side.{Side}
pub use Rattle.bucket_table.specs.declared.arrays.side.Side.TheVariants.{Current, Old}

-- The names that most proofs use, from one place.
pub use Rattle.std.proofs.Common.{All, Bool, Bor, Box, Contains, Err, Fits, IfOk, IfSome, IsPermutation, IsTrue, List, MatchOption, MutBor}
pub use Rattle.std.proofs.Common.{None, Ok, OnErr, Option, Result, Some, [], add-mul, add-one, ap, append-nil, append_assoc, arith, bit_and}
pub use Rattle.std.proofs.Common.{bit_or, cond, count_by, div-lt_iff_lt-mul, div-mul-le_self, drop, drop-drop, drop-set-lt, eq-eqb, eqb}
pub use Rattle.std.proofs.Common.{eqb-true, ext_get_or, false, filter_map, flat_map, get_or, get_or-drop, get_or-set_other, get_or-set_same}
pub use Rattle.std.proofs.Common.{get_or-take, if◌then◌else◌, inl, inr, is_ok, is_some, le-div_iff_mul-le, le-mul_of_pos_right, length}
pub use Rattle.std.proofs.Common.{length-append, length-drop, length-set, length-take, length-take-le, lit<, lt_of_lt_of_le}
pub use Rattle.std.proofs.Common.{lt_of_mul-lt-mul_right, map, max, min, mod-lt, mul-le-mul_left, mul-le-mul_right, mul-lt-mul_of_pos_right}
pub use Rattle.std.proofs.Common.{mul-one, mul_assoc, mul_comm, nat_eq, nat_lt, ne_eqb, not, of_calls, one-mul, option_map, option_to_list}
pub use Rattle.std.proofs.Common.{position, pow-add, pow-suc, pow_mono, pow_pos, refl, remove, replicate, reverse, rules, set, set-set}
pub use Rattle.std.proofs.Common.{shr-shr, slice_set, subst, suc, suc-mul, sum_by, sym, take, take-add, take_all, true, true≢false}
pub use Rattle.std.proofs.Common.{unwrap_or, vec_capacity, vec_len, w32, w64, w8, zero, zero-mul, ℕ, ⊎_elim, ◌%◌, ◌&&◌, ◌*◌, ◌++◌, ◌+◌, ◌-◌}
pub use Rattle.std.proofs.Common.{◌/◌, ◌<◌, ◌==◌, ◌^◌, ◌↔◌, ◌∙◌, ◌∷◌, ◌≡◌, ◌≢◌, ◌≤◌, ◌⊎◌}
pub use Rattle.std.proofs.Math.Nat.{div-add-mod, lt-div-mul-add}
pub use Rattle.std.proofs.Math.Seq.{get_or-append_right, set-append_seam}
pub use Rattle.std.proofs.lemmas.Bool.{and_parts, cases_Bool, cases_eq, cases_lt, cond-true, eqb-false, false_from_ne_true, false≢true}
pub use Rattle.std.proofs.lemmas.Bool.{not-false, not-true, or_from, or_left, or_parts, or_right}
pub use Rattle.std.proofs.lemmas.Bool.Decides.{nat_tests}
pub use Rattle.std.proofs.lemmas.Grind.{common_steps}
pub use Rattle.std.proofs.lemmas.List.{drop-map, drop_all, drop_more, get_or-map, get_or-reverse, get_or_default, get_or_past, get_or_read}
pub use Rattle.std.proofs.lemmas.List.{length-map, map-append, map-set, nil_from_length, set-get_or, set_split, take-set}
pub use Rattle.std.proofs.lemmas.List.Concat.{flat_map-append}
pub use Rattle.std.proofs.lemmas.List.Elements.{All-append, All-cons, All-contains, All-filter, All-from_recursion, All-head, All-nil}
pub use Rattle.std.proofs.lemmas.List.Elements.{All-tail, Contains-append_cases, Contains-append_left, Contains-append_right}
pub use Rattle.std.proofs.lemmas.List.Elements.{filter_map-append, filter_passes, recursion_from_All}
pub use Rattle.std.proofs.lemmas.List.Folds.{list_any_at, list_any_none, map_fixed}
pub use Rattle.std.proofs.lemmas.List.Quantifiers.{position-Some}
pub use Rattle.std.proofs.lemmas.List.Sorted.{Contains-permutation, IsPermutation-map, IsPermutation-sym, IsPermutation-trans}
pub use Rattle.std.proofs.lemmas.List.Sums.{count_by-le-length, fails_before_first, get_or-le-sum_by, position_or_len_is, sum_by-append}
pub use Rattle.std.proofs.lemmas.List.Sums.{sum_by-le, sum_by-le-sum_by}
pub use Rattle.std.proofs.lemmas.Map.Views.{Contains-from_any, any-filter_same}
pub use Rattle.std.proofs.lemmas.Nat.{and_le_l, and_mask, div_below, pow_below, shl-shr}
pub use Rattle.std.proofs.lemmas.Nat.Bits.{bit_at-zero, bit_at_and, bit_at_not, same_from_bits}
pub use Rattle.std.proofs.lemmas.Simd.{bit_mask_l, bitmask_splat, mask_l-lt, ones-mask_l}
pub use Rattle.std.specs.Int.{IsPowerOfTwo, bit_at, div_ceil, trailing_zeros}
pub use Rattle.std.specs.List.{AllByRecursion, cons_option, last_or, list_all, list_any, position_or_len, suffix_len}
pub use Rattle.std.specs.Option.{option_copied_mut, option_or}
pub use Rattle.std.specs.Simd.Lanes.{mask_l, zip2}
pub use Rattle.bucket_slots.specs.BucketLaws.{IsBucketOf}
pub use Rattle.bucket_slots.specs.BucketView.{BucketView, Place, all_slots, block_at, bucket_with_value, empty_bucket, entries_in}
pub use Rattle.bucket_slots.specs.BucketView.{first_from, first_place, flattened, listed_pairs, marks_in, null_place, pair_at, pairs_in}
pub use Rattle.bucket_slots.specs.BucketView.{place_or_null, row_at, rows_with, slot_in, with_slot, with_slot_at}
pub use Rattle.bucket_slots.specs.Clearing.{is_full_with_marks, looks_at_marks, rows_without_free_end, slot_without_expired}
pub use Rattle.bucket_slots.specs.Clearing.{slots_after_insertion, slots_without_expired, slots_without_free_end}
pub use Rattle.bucket_slots.specs.Layout.ArrayParts.{AreParts, part_at, unmade_bucket, with_unmade}
pub use Rattle.bucket_slots.specs.Layout.Bitmaps.{IsLowest, SetsBit}
pub use Rattle.bucket_slots.specs.Layout.Blocks.{IsRow, row_slots, slot_of}
pub use Rattle.bucket_slots.specs.Layout.BoxedRows.{rows_of}
pub use Rattle.bucket_slots.specs.Layout.BucketFields.{IsBucket, IsChain, IsCounted}
pub use Rattle.bucket_slots.specs.Layout.Masks.{IsLeft}
pub use Rattle.bucket_slots.specs.Layout.RecencySteps.{HoldsSlots, LinksBefore, Unlinks, UnlinksBehind}
pub use Rattle.bucket_slots.specs.Marking.{HasNoNewMark, MarksBy, slot_marked, slots_marked}
pub use Rattle.bucket_slots.specs.Masks.{IsMaskOf}
pub use Rattle.bucket_slots.specs.Moving.{slots_killed, slots_vacated, slots_vacated_at}
pub use Rattle.bucket_slots.specs.Places.{pair_lent_mut, place_at, value_set, with_value}
pub use Rattle.bucket_slots.specs.Placing.{IsRefused, free_block, place_for_next, slots_with, with_place_made}
pub use Rattle.bucket_slots.specs.Recency.{IsRecencyOrder, is_listed, is_newest, oldest_of, order_after_touch, order_with_oldest}
pub use Rattle.bucket_slots.specs.Recency.{order_without, order_without_oldest, tail_of}
pub use Rattle.bucket_slots.specs.RecencyLinks.{IsOwnTail, Links, NamesNeighbours, links_of, order_in}
pub use Rattle.bucket_slots.specs.Removing.{place_after, place_after_at, place_unlinked, rows_unlinked, slots_unlinked_at, slots_without}
pub use Rattle.bucket_slots.specs.Removing.{slots_without_at}
pub use Rattle.bucket_slots.specs.Reserving.{IsFewestBlocks, free_len_in, with_free_blocks}
pub use Rattle.bucket_slots.specs.Sampling.{IsLargeSample, IsSmallSample, StartsSampling}
pub use Rattle.bucket_slots.specs.Searching.{has_byte, is_match, matching_len, pair_matched, place_matched}
pub use Rattle.bucket_slots.specs.Sizing.{IsGrownCapacity, IsLeastDoubling, IsLeastPowerOfTwo, IsLengthFor, IsOptimalCapacity}
pub use Rattle.bucket_slots.specs.Slots.{Slot, all_free, byte_of, free, free_len, is_free, is_live, is_marked, live, live_entries}
pub use Rattle.bucket_slots.specs.Slots.{live_entry, live_pair, live_pairs, marked, marked_entries, marked_entry, marked_len, pair_of}
pub use Rattle.bucket_slots.specs.Slots.{places_of, row_with_value, slot_at, slot_with_value}
pub use Rattle.bucket_slots.specs.Walking.{CallsEach, MovesToNext, next_in, next_place, pairs_ahead, position_after}
pub use Rattle.bucket_slots.specs.declared.bucket.TheConstants.{CACHE, INDEX}
pub use denote.Param.Always.{always_mut}
pub use lib.Count.{ones, ones_step}
pub use mathlib.Core.List.{reverse_aux}

-- 01's starred examples, soundness and refusals at their limits, and the longest list, by computation.
use mathlib.Core.Path.{refl}
use Rattle.wire.specs.Numbers.{be_at}
use Rattle.wire.specs.Read.{cut_of, same, number_at, string_at}
use Rattle.wire.specs.Steps.{part, number}
use Rattle.wire.specs.Frames.{split_of}
use Rattle.rule.specs.Gateway.{due_at, lasting, at_clock, advance, found, entry_with, lengths_of, all_lengths}
use Rattle.rule.specs.Soundness.{every_entry, distinct, fit, sound}
use Rattle.rule.specs.Rule.{items, listed, listing, removing, removing_all, locking, unlocking, hash_of, signed, signing_data, confirming, signing, gated, row, table, rule}
use Rattle.rule.specs.Calls.{for_number, lent, lent_length, refusal_of, follow, served, refusal, call}
use Rattle.rule.specs.Runs.{events, end_of, is_accepted, heard, heard_in, turn, turns_from}
use Rattle.rule.specs.Examples.{StarredExamples, locked_ab, one_key, SoundnessLimits, RefusalLimits, full_table, RoomReached}
use Rattle.rule.proofs.SoundLaws.{fresh-sound, sound-rule}

pub starred_examples : StarredExamples
unfolding be_at cut_of same number_at string_at part number split_of due_at lasting at_clock advance found entry_with lengths_of all_lengths every_entry distinct fit sound items listed listing removing removing_all locking unlocking hash_of signed signing_data confirming signing gated row table rule for_number lent lent_length refusal_of follow served refusal call events end_of is_accepted heard heard_in turn turns_from
starred_examples = record {
  fresh-sound = fresh-sound;
  locked-sound = (sound-rule locked_ab).0 refl;
  one_key-sound = (sound-rule one_key).0 refl;
  empty_payload = refl;
  fresh-list = refl;
  lock_empty = refl;
  lock_ab_lands = refl;
  success = refl;
  then_list = refl;
  then_unlock_ac = refl;
  then_unlock_ab = refl;
  lock_cut = refl;
  sign_cut = refl;
  sign_absent = refl;
  flags_6 = refl;
  flags_4 = refl;
  flags_1 = refl;
  first_asks = refl;
  second_asks = refl;
  ab_then_cd = refl;
  ab_holds = refl;
  cd_then_ab = refl;
  cd_holds = refl;
  more_needed = refl;
  too_long = refl;
}

pub soundness_limits : SoundnessLimits
unfolding same lengths_of all_lengths every_entry distinct fit sound
soundness_limits = record {
  greatest = refl;
  least = refl;
  blob_none = refl;
  blob_over = refl;
  fields_none = refl;
  fields_over = refl;
  comment_over = refl;
  number_none = refl;
  number_not_taken = refl;
  reading_ahead = refl;
  lock_full = refl;
  lock_over = refl;
  next_none = refl;
  next_last = refl;
  two_keys = refl;
  numbers_alike = refl;
  blobs_alike = refl;
  next_over = refl;
  entries_24 = refl;
  entries_over = refl;
  bytes-full = refl;
  bytes-over = refl;
}

pub refusal-limits : RefusalLimits
unfolding refusal_of
refusal-limits = record {
  none_applies = refl;
  buffer_short = refl;
  store_short = refl;
  store_long = refl;
  unsound = refl;
  payload_long = refl;
  signature_long = refl;
}

pub room_reached : RoomReached
unfolding be_at same lengths_of all_lengths every_entry distinct fit sound due_at lasting at_clock advance items listed listing gated row table rule lent lent_length refusal_of follow served refusal call
room_reached = record { sound-table = (sound-rule full_table).0 refl; bytes = _; listed = refl; length-is = refl }

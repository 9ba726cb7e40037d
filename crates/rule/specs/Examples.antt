-- 01's starred examples, as one statement. Where 01 says "then", the state is the one that the call before it left.
use Rattle.std.specs.Prelude.{ℕ, zero, suc, ◌≡◌, true, false, List, [], ◌∷◌, length, replicate, None}
use Rattle.std.proofs.Math.Option.{none, some}
use Rattle.wire.specs.Limits.{store_size, reply_room}
use Rattle.wire.specs.declared.frame.Split.TheVariants.{MoreNeeded, TooLong}
use Rattle.wire.specs.Frames.{split_of}
use Rattle.rule.specs.declared.Hash.{Hash}
use Rattle.rule.specs.declared.Hash.TheVariants.{Plain, Sha256, Sha512}
use Rattle.rule.specs.Gateway.{Entry, Gateway, zero_millis, fresh}
use Rattle.rule.specs.Soundness.{Sound, sound}
use Rattle.rule.specs.Rule.{gate, signature, reply, close, FAILURE, SUCCESS}
use Rattle.rule.specs.Calls.{Answers, nothing_lent, refusal_of, Call, Outcome, asks, lands, call}
use Rattle.rule.specs.Runs.{events, end_of, turns, landings}

-- a call of a request at reading 0, with room for every reply
abbrev pub lending : ℕ → Answers → List ℕ → Call
lending request answers payload = record { request = request; frame = record { payload = payload }; reading = zero_millis; answers = answers; buffer = reply_room; store = store_size }

abbrev pub gate_yes : Answers
gate_yes = record { gate = some true; check = none; confirmation = none; signature = none }

abbrev pub unasked : List ℕ → Call
unasked payload = lending 0 nothing_lent payload

abbrev pub past_gate : List ℕ → Call
past_gate payload = lending 0 gate_yes payload

abbrev pub lock_ab : List ℕ
lock_ab = 0x16 ∷ 0 ∷ 0 ∷ 0 ∷ 2 ∷ 0x61 ∷ 0x62 ∷ []

abbrev pub lock_cd : List ℕ
lock_cd = 0x16 ∷ 0 ∷ 0 ∷ 0 ∷ 2 ∷ 0x63 ∷ 0x64 ∷ []

-- the fresh gateway, locked with "ab"
abbrev pub locked_ab : Gateway
locked_ab = record { entries = []; lock = 0x61 ∷ 0x62 ∷ []; clock = zero_millis; next = 1 }

-- one key, held under the blob 61, and a request for its signature over no data
abbrev pub one_key : Gateway
one_key = record {
  entries = (record { number = 1; reading = zero_millis; lifetime = None; confirm = false; blob = 0x61 ∷ []; fields = 0 ∷ []; comment = [] }) ∷ [];
  lock = [];
  clock = zero_millis;
  next = 2;
}

abbrev pub sign_with : ℕ → List ℕ
sign_with flags = 0x0D ∷ 0 ∷ 0 ∷ 0 ∷ 1 ∷ 0x61 ∷ 0 ∷ 0 ∷ 0 ∷ 0 ∷ 0 ∷ 0 ∷ 0 ∷ flags ∷ []

abbrev pub asks_hash : Hash → Outcome
asks_hash hash = asks (signature 1 10 10 hash)

-- the fresh gateway, locked with "cd"
abbrev pub locked_cd : Gateway
locked_cd = record { entries = []; lock = 0x63 ∷ 0x64 ∷ []; clock = zero_millis; next = 1 }

-- two LOCKs cross: both ask the gate, both get their yes, and both land, in the one order or the other
abbrev pub ab_lands_first : List Call
ab_lands_first = lending 1 nothing_lent lock_ab ∷ lending 2 nothing_lent lock_cd ∷ lending 1 gate_yes lock_ab ∷ lending 2 gate_yes lock_cd ∷ []

abbrev pub cd_lands_first : List Call
cd_lands_first = lending 1 nothing_lent lock_ab ∷ lending 2 nothing_lent lock_cd ∷ lending 2 gate_yes lock_cd ∷ lending 1 gate_yes lock_ab ∷ []

pub record StarredExamples : Type 0 where
  pub fresh-sound : Sound fresh
  pub locked-sound : Sound locked_ab
  pub one_key-sound : Sound one_key
  pub empty_payload : call fresh (unasked []) ≡ record { outcome = lands (reply (0 ∷ 0 ∷ 0 ∷ 1 ∷ 5 ∷ [])); gateway = fresh }
  pub fresh-list : call fresh (past_gate (0x0B ∷ [])) ≡ record { outcome = lands (reply (0 ∷ 0 ∷ 0 ∷ 5 ∷ 0x0C ∷ 0 ∷ 0 ∷ 0 ∷ 0 ∷ [])); gateway = fresh }
  pub lock_empty : call fresh (past_gate (0x16 ∷ 0 ∷ 0 ∷ 0 ∷ 0 ∷ [])) ≡ record { outcome = lands SUCCESS; gateway = fresh }
  pub lock_ab_lands : call fresh (past_gate lock_ab) ≡ record { outcome = lands SUCCESS; gateway = locked_ab }
  pub success : SUCCESS ≡ reply (0 ∷ 0 ∷ 0 ∷ 1 ∷ 6 ∷ [])
  pub then_list : call locked_ab (unasked (0x0B ∷ [])) ≡ record { outcome = lands FAILURE; gateway = locked_ab }
  pub then_unlock_ac : call locked_ab (past_gate (0x17 ∷ 0 ∷ 0 ∷ 0 ∷ 2 ∷ 0x61 ∷ 0x63 ∷ [])) ≡ record { outcome = lands FAILURE; gateway = locked_ab }
  pub then_unlock_ab : call locked_ab (past_gate (0x17 ∷ 0 ∷ 0 ∷ 0 ∷ 2 ∷ 0x61 ∷ 0x62 ∷ 0xFF ∷ [])) ≡ record { outcome = lands SUCCESS; gateway = fresh }
  pub lock_cut : call fresh (past_gate (0x16 ∷ 0 ∷ 0 ∷ 0 ∷ 3 ∷ 0x61 ∷ 0x62 ∷ [])) ≡ record { outcome = lands FAILURE; gateway = fresh }
  pub sign_cut : call fresh (past_gate (0x0D ∷ 0 ∷ 0 ∷ 0 ∷ 4 ∷ 0x61 ∷ [])) ≡ record { outcome = lands close; gateway = fresh }
  pub sign_absent : call fresh (past_gate (0x0D ∷ 0 ∷ 0 ∷ 0 ∷ 1 ∷ 0x61 ∷ [])) ≡ record { outcome = lands FAILURE; gateway = fresh }
  pub flags_6 : call one_key (past_gate (sign_with 6)) ≡ record { outcome = asks_hash Sha256; gateway = one_key }
  pub flags_4 : call one_key (past_gate (sign_with 4)) ≡ record { outcome = asks_hash Sha512; gateway = one_key }
  pub flags_1 : call one_key (past_gate (sign_with 1)) ≡ record { outcome = asks_hash Plain; gateway = one_key }
  pub first_asks : call fresh (lending 1 nothing_lent lock_ab) ≡ record { outcome = asks (gate 6); gateway = fresh }
  pub second_asks : call fresh (lending 2 nothing_lent lock_cd) ≡ record { outcome = asks (gate 6); gateway = fresh }
  pub ab_then_cd : landings (turns (events fresh ab_lands_first)) ≡ SUCCESS ∷ FAILURE ∷ []
  pub ab_holds : end_of fresh ab_lands_first ≡ locked_ab
  pub cd_then_ab : landings (turns (events fresh cd_lands_first)) ≡ SUCCESS ∷ FAILURE ∷ []
  pub cd_holds : end_of fresh cd_lands_first ≡ locked_cd
  pub more_needed : split_of (0 ∷ 4 ∷ 0 ∷ 0 ∷ []) ≡ MoreNeeded
  pub too_long : split_of (0 ∷ 4 ∷ 0 ∷ 1 ∷ []) ≡ TooLong

-- 01's soundness at its limits, on one held key
abbrev pub key_with : ℕ → ℕ → ℕ → ℕ → ℕ → Gateway
key_with number reading blob fields comment = record {
  entries = (record { number = number; reading = record { count = reading }; lifetime = None; confirm = false; blob = replicate blob 1; fields = replicate fields 1; comment = replicate comment 1 }) ∷ [];
  lock = [];
  clock = record { count = 5 };
  next = 3;
}

abbrev pub lock_of_length : ℕ → ℕ → Gateway
lock_of_length n next = record { entries = []; lock = replicate n 1; clock = zero_millis; next = next }

-- a second key beside one of number 1 and blob 61
abbrev pub besides : ℕ → ℕ → Gateway
besides number byte = record {
  entries = (record { number = 1; reading = zero_millis; lifetime = None; confirm = false; blob = 0x61 ∷ []; fields = 0 ∷ []; comment = [] })
      ∷ (record { number = number; reading = zero_millis; lifetime = None; confirm = false; blob = byte ∷ []; fields = 0 ∷ []; comment = [] }) ∷ [];
  lock = [];
  clock = zero_millis;
  next = 3;
}

-- n keys of two bytes
abbrev pub short_key : ℕ → Entry
short_key n = record { number = n; reading = zero_millis; lifetime = None; confirm = false; blob = n ∷ []; fields = 0 ∷ []; comment = [] }

abbrev pub short_keys_from : ℕ → ℕ → List Entry
short_keys_from from zero = []
short_keys_from from (suc n) = short_key from ∷ short_keys_from (suc from) n

abbrev pub short_keys : ℕ → Gateway
short_keys n = record { entries = short_keys_from 1 n; lock = []; clock = zero_millis; next = 26 }

-- seven keys of 4,351 bytes, and one with 7 bytes beside its key fields: 32,768 where these are 2,304
abbrev pub broad_key : ℕ → ℕ → ℕ → ℕ → Entry
broad_key n blob fields comment = record { number = n; reading = zero_millis; lifetime = None; confirm = false; blob = n ∷ replicate blob 0; fields = replicate fields 1; comment = replicate comment 1 }

abbrev pub filled_to : ℕ → Gateway
filled_to fields = record {
  entries = broad_key 1 1023 3072 255 ∷ broad_key 2 1023 3072 255 ∷ broad_key 3 1023 3072 255 ∷ broad_key 4 1023 3072 255 ∷ broad_key 5 1023 3072 255
      ∷ broad_key 6 1023 3072 255 ∷ broad_key 7 1023 3072 255 ∷ broad_key 8 5 fields 1 ∷ [];
  lock = [];
  clock = zero_millis;
  next = 9;
}

pub record SoundnessLimits : Type 0 where
  pub greatest : sound (key_with 2 5 1024 3072 255) ≡ true
  pub least : sound (key_with 1 0 1 1 0) ≡ true
  pub blob_none : sound (key_with 1 0 0 1 0) ≡ false
  pub blob_over : sound (key_with 1 0 1025 1 0) ≡ false
  pub fields_none : sound (key_with 1 0 1 0 0) ≡ false
  pub fields_over : sound (key_with 1 0 1 3073 0) ≡ false
  pub comment_over : sound (key_with 1 0 1 1 256) ≡ false
  pub number_none : sound (key_with 0 0 1 1 0) ≡ false
  pub number_not_taken : sound (key_with 3 0 1 1 0) ≡ false
  pub reading_ahead : sound (key_with 1 6 1 1 0) ≡ false
  pub lock_full : sound (lock_of_length 1024 1) ≡ true
  pub lock_over : sound (lock_of_length 1025 1) ≡ false
  pub next_none : sound (lock_of_length 0 0) ≡ false
  pub next_last : sound (lock_of_length 0 0xFFFF_FFFF_FFFF_FFFF) ≡ true
  pub two_keys : sound (besides 2 0x62) ≡ true
  pub numbers_alike : sound (besides 1 0x62) ≡ false
  pub blobs_alike : sound (besides 2 0x61) ≡ false
  pub next_over : sound (lock_of_length 0 0x1_0000_0000_0000_0000) ≡ false
  pub entries_24 : sound (short_keys 24) ≡ true
  pub entries_over : sound (short_keys 25) ≡ false
  pub bytes-full : sound (filled_to 2304) ≡ true
  pub bytes-over : sound (filled_to 2305) ≡ false

-- 01's refusals at their limits, by the lengths of reply buffer and key store, soundness, and the lengths of payload and lent signature
pub record RefusalLimits : Type 0 where
  pub none_applies : refusal_of 30897 32768 true 262144 2048 ≡ none
  pub buffer_short : refusal_of 30896 32768 true 262144 2048 ≡ some 1
  pub store_short : refusal_of 30897 32767 true 262144 2048 ≡ some 2
  pub store_long : refusal_of 30897 32769 true 262144 2048 ≡ some 2
  pub unsound : refusal_of 30897 32768 false 262144 2048 ≡ some 3
  pub payload_long : refusal_of 30897 32768 true 262145 2048 ≡ some 4
  pub signature_long : refusal_of 30897 32768 true 262144 2049 ≡ some 5

-- 24 keys, each with the longest blob and the longest comment
abbrev pub long_keys_from : ℕ → ℕ → List Entry
long_keys_from from zero = []
long_keys_from from (suc n) = broad_key from 1023 1 255 ∷ long_keys_from (suc from) n

abbrev pub full_table : Gateway
full_table = record { entries = long_keys_from 1 24; lock = []; clock = zero_millis; next = 25 }

-- the bytes that refusal 1 asks for are reached: by the list of a sound table
pub record RoomReached : Type 0 where
  pub sound-table : Sound full_table
  pub bytes : List ℕ
  pub listed : (call full_table (past_gate (0x0B ∷ []))).outcome ≡ lands (reply bytes)
  pub length-is : length bytes ≡ 30897

-- 01's numbers, each with its sentence. What they limit is said in the crates above.
use Rattle.std.specs.Prelude.{ℕ, ◌+◌, ◌*◌}

-- "Length above 262,144: too long"; "payload longer than 262,144 bytes"; "payload to write over 262,144 bytes"
abbrev pub payload_limit : ℕ
payload_limit = 262144

-- #112: "up to 24 entries"
abbrev pub entries_limit : ℕ
entries_limit = 24

-- "key store not 32,768 bytes"; #112: "the lengths after the change would pass 32,768"
abbrev pub store_size : ℕ
store_size = 32768

-- "public blob (1 to 1,024 bytes)"
abbrev pub blob_limit : ℕ
blob_limit = 1024

-- "key fields (1 to 3,072 ..)"
abbrev pub fields_limit : ℕ
fields_limit = 3072

-- #101: "Keep each entry's comment, up to 255 bytes, with the entry"
abbrev pub comment_limit : ℕ
comment_limit = 255

-- "The passphrase is kept with its length, at most 1,024 bytes"
abbrev pub passphrase_limit : ℕ
passphrase_limit = 1024

-- "a lent signature longer than 2,048 bytes"
abbrev pub signature_limit : ℕ
signature_limit = 2048

-- "reply buffer shorter than" the longest list; #112: "refusal 1 now tests 30,897 bytes"
abbrev pub reply_room : ℕ
reply_room = 30897

-- the longest item of a list reply, and all 24 of them
abbrev pub item_room : ℕ
item_room = 4 + blob_limit + 4 + comment_limit

abbrev pub items_room : ℕ
items_room = entries_limit * item_room

-- "the next insertion number is 2^64-1"
abbrev pub last_number : ℕ
last_number = 0xFFFF_FFFF_FFFF_FFFF
